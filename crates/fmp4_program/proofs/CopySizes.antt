-- What `boxes --copy` asks for with each number, whatever the program is called.
use Rattle.std.proofs.Common.{◌≡◌, ◌∙◌, ◌⊎◌, ◌+◌, ◌-◌, ◌<◌, ◌≤◌, ◌^◌, ℕ, [], ◌∷◌, zero, suc, Option, Some, None, slice_index, refl, ap, sym, codes, arith}
use Rattle.std.specs.Prelude.{option_map}
use Rattle.std.specs.Fmt.{decimal}
use Rattle.std.specs.Str.Parse.{digits_value, without_leading_plus}
use Rattle.std.proofs.lemmas.Fmt.{decimal_is_IsNumeral}
use Rattle.std.proofs.lemmas.Str.Parse.{digit_at, without_leading_plus_none}
use Rattle.clap.proofs.OnLiterals.{clap_on_literals}
use Rattle.clap.specs.Words.{Text}
use Rattle.fmp4_program.proofs.Numbers.{IsReadable, number_in-Some, number_in-outside}
use Rattle.fmp4_program.specs.Words.{command_of, invocation_of, number_in, number_or, program_app, settings_of}
use Rattle.fmp4_program.specs.declared.asked.Invocation.{Invocation}
use Rattle.fmp4_program.specs.declared.asked.Invocation.TheVariants.{Boxes}

-- the request for boxes that a number in its range makes
abbrev asked_of : Option ℕ → Option Invocation
asked_of number = option_map Boxes (option_map (λ copy. record { copy = copy; max_held = 536870912 }) number)

-- a value that begins with a digit is no option, so it is the value of `--copy`
command_of-digit : (program : Text) (digit : ℕ) (rest : Text) → digit < 10
    → command_of (program ∷ codes "boxes" ∷ codes "--copy" ∷ ((48 + digit) ∷ rest) ∷ [])
    ≡ asked_of (number_in 4096 1048576 ((48 + digit) ∷ rest))
unfolding clap_on_literals program_app command_of invocation_of settings_of number_or
command_of-digit program zero rest small = refl
command_of-digit program (suc zero) rest small = refl
command_of-digit program (suc (suc zero)) rest small = refl
command_of-digit program (suc (suc (suc zero))) rest small = refl
command_of-digit program (suc (suc (suc (suc zero)))) rest small = refl
command_of-digit program (suc (suc (suc (suc (suc zero))))) rest small = refl
command_of-digit program (suc (suc (suc (suc (suc (suc zero)))))) rest small = refl
command_of-digit program (suc (suc (suc (suc (suc (suc (suc zero))))))) rest small = refl
command_of-digit program (suc (suc (suc (suc (suc (suc (suc (suc zero)))))))) rest small = refl
command_of-digit program (suc (suc (suc (suc (suc (suc (suc (suc (suc zero))))))))) rest small = refl
command_of-digit program (suc (suc (suc (suc (suc (suc (suc (suc (suc (suc digit)))))))))) rest small = absurd (omega arith)

command_of-digits : (program text : Text) → 48 ≤ slice_index text 0 → slice_index text 0 ≤ 57
    → command_of (program ∷ codes "boxes" ∷ codes "--copy" ∷ text ∷ []) ≡ asked_of (number_in 4096 1048576 text)
command_of-digits program [] low high = absurd (omega arith)
command_of-digits program (first ∷ rest) low high =
    let is : 48 + (first - 48) ≡ first = omega arith in
    rw is at (command_of-digit program (first - 48) rest (omega arith))

command_of-decimal : (program : Text) (number : ℕ) → number < 2 ^ 64
    → command_of (program ∷ codes "boxes" ∷ codes "--copy" ∷ decimal number ∷ [])
    ≡ asked_of (number_in 4096 1048576 (decimal number))
command_of-decimal program number fits =
    let digits = (decimal_is_IsNumeral number fits).0 in
    let digit = digit_at (decimal number) 0 digits.1 digits.0 in
    command_of-digits program (decimal number) digit.0 digit.1

-- a decimal has no sign before its digits
without_leading_plus-decimal : (number : ℕ) → number < 2 ^ 64 → without_leading_plus (decimal number) ≡ decimal number
without_leading_plus-decimal number fits =
    let digits = (decimal_is_IsNumeral number fits).0 in
    let digit = digit_at (decimal number) 0 digits.1 digits.0 in
    without_leading_plus_none (decimal number) (λ plus. let low : 48 ≤ 43 = rw plus at digit.0 in omega arith)

value_of-decimal : (number : ℕ) → number < 2 ^ 64
    → IsReadable (decimal number) × (number ≡ digits_value 10 (without_leading_plus (decimal number)))
value_of-decimal number fits =
    let reads = decimal_is_IsNumeral number fits in
    rw (without_leading_plus-decimal number fits) ((reads.0, rw reads.1 fits), sym reads.1)

pub command_of-inside : (program : Text) (copy : ℕ) → 4096 ≤ copy → copy ≤ 1048576
    → command_of (program ∷ codes "boxes" ∷ codes "--copy" ∷ decimal copy ∷ []) ≡ Some (Boxes (record { copy = copy; max_held = 536870912 }))
command_of-inside program copy low high =
    let fits : copy < 2 ^ 64 = omega arith in
    let reads = value_of-decimal copy fits in
    command_of-decimal program copy fits
    ∙ ap asked_of (sym (number_in-Some 4096 1048576 copy (decimal copy) reads.0 reads.1 low high))

pub command_of-outside : (program : Text) (copy : ℕ) → copy < 2 ^ 64 → (copy < 4096) ⊎ (1048576 < copy)
    → command_of (program ∷ codes "boxes" ∷ codes "--copy" ∷ decimal copy ∷ []) ≡ None
command_of-outside program copy fits outside =
    command_of-decimal program copy fits
    ∙ ap asked_of (sym (number_in-outside 4096 1048576 copy (decimal copy) (value_of-decimal copy fits).1 outside))
