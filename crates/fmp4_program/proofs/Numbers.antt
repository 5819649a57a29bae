-- The value of the text of a number, by whether it can be read and in which range it is.
use Rattle.std.proofs.Common.{◌≡◌, ◌⊎◌, ◌<◌, ◌≤◌, ◌^◌, ℕ, Bool, true, false, Some, None, refl, ap, arith, inl, inr}
use Rattle.std.specs.Str.Parse.{IsNumeral, digits_value, without_leading_plus}
use Rattle.clap.specs.ValueTests.{is_unsigned_in}
use Rattle.clap.specs.Words.{Text}
use Rattle.clap.specs.declared.builder.value_parser.ValueParser.TheVariants.{Unsigned}
use Rattle.clap.proofs.ValueTestLemmas.{Accepts-accepts, accepts-Accepts}
use Rattle.fmp4_program.specs.Words.{number_in}

-- the number that the digits write
abbrev pub value_of : Text → ℕ
value_of text = digits_value 10 (without_leading_plus text)

-- the text is digits, whose number fits 64 bits
abbrev pub IsReadable : Text → Type 0
IsReadable text = IsNumeral 10 (without_leading_plus text) × (value_of text < 2 ^ 64)

pub number_in-Some : (least most number : ℕ) (text : Text) → IsReadable text → number ≡ value_of text
    → least ≤ number → number ≤ most → Some number ≡ number_in least most text
unfolding number_in
number_in-Some least most number text readable is low high =
    let passes : is_unsigned_in least most text ≡ true =
    Accepts-accepts false (Unsigned least most) text (readable.0, readable.1, omega arith, omega arith) in
    rw passes (ap (λ (n : ℕ). Some n) is)

-- a text that gives no number, where passing the test is absurd
refuted : (least most : ℕ) (text : Text) (passes : Bool) → is_unsigned_in least most text ≡ passes
    → (is_unsigned_in least most text ≡ true → ⊥) → None ≡ number_in least most text
unfolding number_in
refuted least most text true is bad = absurd (bad is)
refuted least most text false is bad = rw is refl

pub number_in-unreadable : (least most : ℕ) (text : Text) → (IsReadable text → ⊥) → None ≡ number_in least most text
number_in-unreadable least most text bad = refuted least most text (is_unsigned_in least most text) refl
    (λ passes. let facts = accepts-Accepts false (Unsigned least most) text passes in bad (facts.0, facts.1))

pub number_in-outside : (least most number : ℕ) (text : Text) → number ≡ value_of text
    → (number < least) ⊎ (most < number) → None ≡ number_in least most text
number_in-outside least most number text is outside = refuted least most text (is_unsigned_in least most text) refl
    (λ passes. let facts = accepts-Accepts false (Unsigned least most) text passes in
    elim outside [ inl below ↦ omega arith | inr above ↦ omega arith ])
