-- Only the code's own way; no public clause needs this.
-- One pass over a moof: the faults of each box by itself, and whether its times are early.
use Rattle.std.specs.Prelude.{◌≡◌, ◌+◌, ◌-◌, ℕ, Bool, true, List, [], ◌∷◌, ◌++◌, ◌==◌, ◌&&◌, ◌<◌, ◌^◌, nat_lt, Option, Some, None, Result, Ok, Err, if◌then◌else◌, length}
use Rattle.std.specs.List.{AllByRecursion, flat_map, list_all, sum_by}
use Rattle.mp4_box.specs.declared.headers.FourCc.{FourCc}
use Rattle.mp4_box.specs.declared.rules.Fault.{Fault}
use Rattle.mp4_box.specs.declared.rules.Rule.TheVariants.{Unsupported}
use Rattle.mp4_box.specs.declared.checks.Layout.TheVariants.{Exactly}
use Rattle.mp4_box.specs.Checks.{laid_out}
use Rattle.mp4_box.specs.Paths.{of_kind}
use Rattle.mp4_box.specs.Trees.{Box, box_len, children, fault_at}
use Rattle.mp4_init.specs.declared.table.Track.{Track}
use Rattle.mp4_frag.specs.declared.at_once.MoofCounts.{MoofCounts}
use Rattle.mp4_traf.specs.Kinds.{mfhd, traf, tfhd, tfdt, trun, free, skip, is_kind}
use Rattle.mp4_frag.specs.Mfhd.{mfhd_len}
use Rattle.mp4_frag.specs.Repeats.{lacks_time}
use Rattle.mp4_traf.specs.Rules.{samples_in, tfhd_faults, tfhd_length, trun_faults, trun_length}
use Rattle.mp4_traf.specs.Runs.{base_of, track_of}
use Rattle.mp4_traf.specs.Tfdt.{base_media_decode_time, tfdt_layout}
use Rattle.mp4_traf.specs.Implementation.Heads.{HasTicks}

-- a box in a place where only boxes without a meaning may be
abbrev pub passed_over : Bool → Bool → Box → List Fault
passed_over is_free is_skip b = if is_free then [] else if is_skip then [] else fault_at Unsupported b ∷ []

-- faults of a child of a traf, by its type
abbrev pub by_traf : List Track → Box → Bool → Bool → Bool → List Fault → List Fault
by_traf tracks b is_trun is_tfhd is_tfdt others =
    if is_trun then trun_length b ++ trun_faults b
    else if is_tfhd then tfhd_length b ++ tfhd_faults tracks b
    else if is_tfdt then laid_out tfdt_layout b
    else others

unfoldable pub faults_in_traf : List Track → Box → List Fault
faults_in_traf tracks b = by_traf tracks b (is_kind trun b) (is_kind tfhd b) (is_kind tfdt b) (passed_over (is_kind free b) (is_kind skip b) b)

-- faults of a child of a moof and of the children that it has
abbrev pub by_moof : List Track → Box → Bool → Bool → List Fault → List Fault
by_moof tracks b is_traf is_mfhd others =
    if is_traf then flat_map (faults_in_traf tracks) (children b)
    else if is_mfhd then laid_out (Exactly mfhd_len) b
    else others

unfoldable pub faults_in_moof : List Track → Box → List Fault
faults_in_moof tracks b = by_moof tracks b (is_kind traf b) (is_kind mfhd b) (passed_over (is_kind free b) (is_kind skip b) b)

-- just one child of the type
abbrev pub has_one : FourCc → Box → Bool
has_one kind b = length (of_kind kind (children b)) == 1

-- at most one
abbrev pub has_few : FourCc → Box → Bool
has_few kind b = nat_lt (length (of_kind kind (children b))) 2

-- a traf with just one tfhd and at most one tfdt
abbrev pub has_heads : Box → Bool
has_heads t = has_one tfhd t && has_few tfdt t

-- the boxes in the payload take all of it
abbrev pub is_filled : Box → Bool
is_filled b = sum_by box_len (children b) == length b.payload

-- such a traf whose boxes take all of it
abbrev pub is_complete : Box → Bool
is_complete t = has_heads t && is_filled t

-- the children of the trafs among these
abbrev pub in_trafs : List Box → List Box
in_trafs bs = flat_map children (of_kind traf bs)

-- just one mfhd, no rest, and the like in each traf
pub record IsComplete (m : Box) : Type 0 where
  pub mfhds : has_one mfhd m ≡ true
  pub filled : is_filled m ≡ true
  pub trafs : list_all is_complete (of_kind traf (children m)) ≡ true

-- ---- times so early that no run ends past 64 bits

-- a tfdt with a time below 2^63
abbrev pub is_early : Box → Bool
is_early b = nat_lt (base_media_decode_time b.payload) (2 ^ 63)

-- the same for each tfdt of a traf
abbrev pub times_early : Box → Bool
times_early t = list_all is_early (of_kind tfdt (children t))

-- a traf has a tfdt, or its track ended early
abbrev pub HasEarlyEnd : List Track → Box → Type 0
HasEarlyEnd tracks t = lacks_time t ≡ true → (track_of tracks t).next < 2 ^ 63

-- a traf whose base time is early: that of its tfdt, or else where its track ended
abbrev pub StartsEarly : List Track → Box → Type 0
StartsEarly tracks t = base_of (track_of tracks t).next t < 2 ^ 63

-- the same for each tfhd of a traf
abbrev pub TrafHasTicks : List Track → Box → Type 0
TrafHasTicks tracks t = AllByRecursion (HasTicks tracks) (of_kind tfhd (children t))

-- the trafs of a moof have one tfhd each, and begin early
pub record IsEarly (tracks : List Track) (m : Box) : Type 0 where
  pub heads : list_all has_heads (of_kind traf (children m)) ≡ true
  pub times : AllByRecursion (StartsEarly tracks) (of_kind traf (children m))
  pub ticks : AllByRecursion (TrafHasTicks tracks) (of_kind traf (children m))

-- ---- what is counted

-- a count that stays at its greatest value: below that it is the sum of the old one and of what is added
abbrev pub IsCount : ℕ → ℕ → ℕ → ℕ → Type 0
IsCount most old more new = new < most → new ≡ old + more

abbrev pub most_32 : ℕ
most_32 = 2 ^ 32 - 1

abbrev pub most_64 : ℕ
most_64 = 2 ^ 64 - 1

-- what these children of trafs add to the findings on the moof
pub record Adds (bs : List Box) (old new : MoofCounts) : Type 0 where
  pub samples : IsCount most_32 old.samples (samples_in (of_kind trun bs)) new.samples
  pub truns : IsCount most_64 old.truns (length (of_kind trun bs)) new.truns
  pub early : new.is_early ≡ (old.is_early && list_all is_early (of_kind tfdt bs))

-- ---- findings on a moof

-- its fault, where one is found
abbrev pub fault_of : Result MoofCounts Fault → Option Fault
fault_of (Ok s) = None
fault_of (Err f) = Some f
