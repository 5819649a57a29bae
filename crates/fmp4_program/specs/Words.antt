-- The meaning of a command line.
use Rattle.std.specs.Prelude.{◌≤◌, ◌==◌, ◌&&◌, ◌^◌, ◌-◌, ℕ, Bool, true, false, List, Option, Some, None, IfSome, codes, option_map, option_and_then, if◌then◌else◌, length}
use Rattle.std.specs.Option.{is_some, option_map_or}
use Rattle.std.specs.Str.{bytes_eq}
use Rattle.std.specs.Str.Parse.{digits_value, without_leading_plus}
use Rattle.clap.specs.ValueTests.{is_unsigned_in}
use Rattle.clap.specs.Words.{App, Row, Rule, Text, fault_of, first_of, new_app, new_rule, subcommand_of, with_rule, with_subcommand}
use Rattle.clap.specs.declared.builder.action.ArgAction.TheVariants.{Set, SetTrue}
use Rattle.mp4_pieces.specs.Allowed as pieces
use Rattle.fmp4_program.specs.declared.asked.Settings.{Settings}
use Rattle.fmp4_program.specs.declared.asked.SplitOptions.{SplitOptions}
use Rattle.fmp4_program.specs.declared.asked.Invocation.{Invocation}
use Rattle.fmp4_program.specs.declared.asked.Invocation.TheVariants.{Boxes, Samples, Fragments, Check, Split}

-- ---- the commands and options

-- an option `--name` that takes a value
abbrev pub valued_rule : Text → Rule
valued_rule name = record (new_rule name) { long = Some name; action = Some Set }

-- a flag `--name`
abbrev pub flag_rule : Text → Rule
flag_rule name = record (new_rule name) { long = Some name; action = Some SetTrue }

-- a command that takes the settings' options
abbrev pub settings_app : Text → App
settings_app name = with_rule (with_rule (new_app name) (valued_rule (codes "copy"))) (valued_rule (codes "max-held"))

-- `split`, with the limits of a piece
abbrev pub limits_app : App
limits_app = with_rule (with_rule (with_rule (settings_app (codes "split")) (valued_rule (codes "samples"))) (valued_rule (codes "bytes"))) (valued_rule (codes "duration"))

-- `split`, with all its options
abbrev pub split_app : App
split_app = with_rule (with_rule (with_rule limits_app (flag_rule (codes "index"))) (flag_rule (codes "sync"))) (flag_rule (codes "keyframes"))

-- the whole command line; only a proof that computes it unfolds it
unfoldable pub program_app : App
program_app = with_subcommand (with_subcommand (with_subcommand (with_subcommand (with_subcommand (new_app (codes "fmp4")) (settings_app (codes "boxes")).top) (settings_app (codes "samples")).top) (settings_app (codes "fragments")).top) (settings_app (codes "check")).top) split_app.top

-- ---- numbers

-- the number in a text of digits, after a plus sign or none, if it is in the range
unfoldable pub number_in : ℕ → ℕ → Text → Option ℕ
number_in least most text =
    if is_unsigned_in least most text then Some (digits_value 10 (without_leading_plus text)) else None

-- the number after the option, or the default if the option is left out
unfoldable pub number_or : ℕ → ℕ → ℕ → Text → List Row → Option ℕ
number_or default_value least most id rows = option_map_or (number_in least most) (first_of id rows) (Some default_value)

-- the number after a required option
unfoldable pub needed_number : ℕ → ℕ → Text → List Row → Option ℕ
needed_number least most id rows = option_and_then (number_in least most) (first_of id rows)

-- the number after an option, or none if it is left out
unfoldable pub number_if : ℕ → ℕ → Text → List Row → Option (Option ℕ)
number_if least most id rows = option_map_or (λ text. option_map Some (number_in least most text)) (first_of id rows) (Some None)

-- whether a flag is given
unfoldable pub has_flag : Text → List Row → Bool
has_flag id rows = option_map_or (λ text. bytes_eq text (codes "true")) (first_of id rows) false

-- ---- the meaning of the words

-- each setting lies in its range; both are in bytes
pub record IsAllowed (settings : Settings) : Type 0 where
  pub copy_low : 4096 ≤ settings.copy
  pub copy_high : settings.copy ≤ 1048576
  pub held_low : 1 ≤ settings.max_held
  pub held_high : settings.max_held ≤ 2 ^ 62

-- the settings that the options give
unfoldable pub settings_of : List Row → Option Settings
settings_of rows =
    option_and_then (λ copy. option_map (λ most. record { copy = copy; max_held = most }) (number_or 536870912 1 (2 ^ 62) (codes "max-held") rows)) (number_or 65536 4096 1048576 (codes "copy") rows)

-- the number after `--samples`, which may be left out where there is a limit in time
abbrev pub samples_of : Bool → List Row → Option ℕ
samples_of true rows = number_or 1000000 1 1000000 (codes "samples") rows
samples_of false rows = needed_number 1 1000000 (codes "samples") rows

-- how `split` cuts, by its options, if they don't ask for both of two ways to end a piece before sync samples
unfoldable pub options_of : List Row → Option SplitOptions
options_of rows =
    option_and_then (λ duration. option_and_then (λ samples. option_and_then (λ bytes.
    if has_flag (codes "sync") rows && has_flag (codes "keyframes") rows then None
    else Some (record { samples = samples; bytes = bytes; duration = duration; index = has_flag (codes "index") rows; sync = has_flag (codes "sync") rows; keyframes = has_flag (codes "keyframes") rows }))
    (number_if 1 (2 ^ 62) (codes "bytes") rows))
    (samples_of (is_some duration) rows))
    (number_if 1 (2 ^ 32 - 1) (codes "duration") rows)

-- `split`, with what its options give
unfoldable pub split_of : List Row → Option Invocation
split_of rows = option_and_then (λ settings. option_map (λ options. Split settings options) (options_of rows)) (settings_of rows)

-- the command of that name, with what its options give
unfoldable pub invocation_of : Text → List Row → Option Invocation
invocation_of name rows =
    if bytes_eq name (codes "boxes") then option_map Boxes (settings_of rows)
    else if bytes_eq name (codes "samples") then option_map Samples (settings_of rows)
    else if bytes_eq name (codes "fragments") then option_map Fragments (settings_of rows)
    else if bytes_eq name (codes "check") then option_map Check (settings_of rows)
    else if bytes_eq name (codes "split") then split_of rows
    else None

-- the same for the numbers of `split`
abbrev pub MayCut : SplitOptions → Type 0
MayCut options = pieces.IsAllowed options.samples options.bytes × IfSome options.duration (λ millis. 1 ≤ millis)

-- the numbers of a command are in range
abbrev pub IsInRange : Invocation → Type 0
IsInRange (Boxes settings) = IsAllowed settings
IsInRange (Samples settings) = IsAllowed settings
IsInRange (Fragments settings) = IsAllowed settings
IsInRange (Check settings) = IsAllowed settings
IsInRange (Split settings options) = IsAllowed settings × MayCut options

-- the command of the words: none if they break a rule of the command line, or a number is out of range
unfoldable pub command_of : List Text → Option Invocation
command_of words = if length (fault_of program_app words) == 0
    then option_and_then (λ entered. invocation_of entered.0 entered.1) (subcommand_of program_app words) else None
