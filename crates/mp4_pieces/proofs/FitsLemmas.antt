-- There is no fault exactly where all numbers have room.
use Rattle.std.proofs.Common.{◌≡◌, ℕ, ℤ, pos, ◌<◌, ◌^◌, Bool, true, false, cond, List, [], ◌∷◌, ◌++◌, refl, ap, ◌∙◌, arith, inl, inr, ◌⊎◌}
use Rattle.std.specs.Prelude.{◌&&◌, ◌||◌, nat_lt, ◌≤ℤ◌, ◌<ℤ◌}
use Rattle.std.specs.List.{AllByRecursion, list_any}
use Rattle.std.specs.Int.Signed.{lt_z}
use Rattle.std.proofs.lemmas.Bool.{le-ltb, ltb-false}
use Rattle.std.proofs.lemmas.Int.{ints}
use Rattle.mp4_box.specs.declared.rules.Fault.{Fault}
use Rattle.mp4_traf.specs.declared.run.Run.{Run}
use Rattle.mp4_traf.specs.Runs.{MoofBytes}
use Rattle.mp4_frag.proofs.MoofLemmas.{last_none}
use Rattle.mp4_pieces.specs.declared.cut.Cut.{Cut}
use Rattle.mp4_pieces.specs.declared.piece.Piece.{Piece}
use Rattle.mp4_pieces.specs.Fits.{BeginsInTime, FitsIndex, FitsReference, HasRoomFor}
use Rattle.mp4_pieces.specs.Groups.{groups}
use Rattle.mp4_pieces.specs.Pieces.{piece_count, pieces_of}
use Rattle.mp4_pieces.specs.Rooms.{index_fault, index_faults, index_faults_of, numbers, passes_index, passes_reference, passes_time, room_faults, sequence_fault, sequence_faults}
use Rattle.mp4_pieces.specs.Sizes.{fragment_size}

-- ---- tests

or_is : (a b : Bool) → (a || b) ≡ false → (a ≡ false) × (b ≡ false)
or_is true b e = absurd cc
or_is false b e = (refl, e)

or_so : (a b : Bool) → a ≡ false → b ≡ false → (a || b) ≡ false
or_so true b p q = absurd cc
or_so false b p q = q

and_off : (a b : Bool) → (a && b) ≡ false → a ≡ true → b ≡ false
and_off true b e t = e
and_off false b e t = absurd cc

and_so : (a b : Bool) → (a ≡ true → b ≡ false) → (a && b) ≡ false
and_so true b f = f refl
and_so false b f = refl

-- a fault is reported where a test passes
none_given : (t : Bool) (f : Fault) → cond t (f ∷ []) [] ≡ [] → t ≡ false
none_given true f e = absurd cc
none_given false f e = refl

given_none : (t : Bool) (f : Fault) → t ≡ false → cond t (f ∷ []) [] ≡ []
given_none true f e = absurd cc
given_none false f e = refl

-- no element passes
none_pass : {A : Type 0} (P : A → Type 0) (p : A → Bool) (xs : List A) → ((x : A) → p x ≡ false → P x) → list_any p xs ≡ false → AllByRecursion P xs
none_pass P p [] f e = tt
none_pass P p (x ∷ xs) f e = let both = or_is (p x) (list_any p xs) e in (f x both.0, none_pass P p xs f both.1)

pass_none : {A : Type 0} (P : A → Type 0) (p : A → Bool) (xs : List A) → ((x : A) → P x → p x ≡ false) → AllByRecursion P xs → list_any p xs ≡ false
pass_none P p [] f all = refl
pass_none P p (x ∷ xs) f all = or_so (p x) (list_any p xs) (f x all.0) (pass_none P p xs f all.1)

-- ---- an index

below : (n : ℕ) → nat_lt 2147483647 n ≡ false → n < 2147483648
below n e = let h = ltb-false 2147483647 n e in omega (arith, h)

below_long : (n : ℕ) → nat_lt 4294967295 n ≡ false → n < 4294967296
below_long n e = let h = ltb-false 4294967295 n e in omega (arith, h)

fits_reference : (p : Piece) → passes_reference p ≡ false → FitsReference p
fits_reference p e =
    let both = or_is (nat_lt 2147483647 (fragment_size p)) (nat_lt 4294967295 p.plain.duration) e in
    record { size = below (fragment_size p) both.0; duration = below_long p.plain.duration both.1 }

reference_fits : (p : Piece) → FitsReference p → passes_reference p ≡ false
reference_fits p fit =
    or_so (nat_lt 2147483647 (fragment_size p)) (nat_lt 4294967295 p.plain.duration) (low (fragment_size p) fit.size) (high p.plain.duration fit.duration)
  where
    low : (n : ℕ) → n < 2147483648 → nat_lt 2147483647 n ≡ false
    low n h = le-ltb 2147483647 n (omega (arith, h))

    high : (n : ℕ) → n < 4294967296 → nat_lt 4294967295 n ≡ false
    high n h = le-ltb 4294967295 n (omega (arith, h))

bool_is : (b : Bool) → (b ≡ true) ⊎ (b ≡ false)
bool_is true = inl refl
bool_is false = inr refl

lt_from : (a b : ℤ) → lt_z a b ≡ true → a <ℤ b
lt_from a b h = grind (arith, ints)

ge_from : (a b : ℤ) → lt_z a b ≡ false → b ≤ℤ a
ge_from a b h = grind (arith, ints)

ge_to : (a b : ℤ) → b ≤ℤ a → lt_z a b ≡ false
ge_to a b h = elim (bool_is (lt_z a b)) [ inl t ↦ absurd (no_both a b (lt_from a b t) h) | inr f ↦ f ]
  where
    no_both : (a b : ℤ) → a <ℤ b → b ≤ℤ a → ⊥
    no_both a b l h = omega (arith, ints, l, h)

fits_time : (g : List Piece) → passes_time g ≡ false → BeginsInTime g
fits_time [] e = tt
fits_time (p ∷ ps) e =
    let both = or_is (lt_z p.least (pos 0)) (lt_z (pos 18446744073709551615) p.least) e in
    record { low = ge_from p.least (pos 0) both.0; high = less p.least (ge_from (pos 18446744073709551615) p.least both.1) }
  where
    less : (z : ℤ) → z ≤ℤ pos 18446744073709551615 → z <ℤ pos (2 ^ 64)
    less z h = omega (arith, ints, h)

time_fits : (g : List Piece) → BeginsInTime g → passes_time g ≡ false
time_fits [] fit = refl
time_fits (p ∷ ps) fit =
    or_so (lt_z p.least (pos 0)) (lt_z (pos 18446744073709551615) p.least) (ge_to p.least (pos 0) fit.low) (ge_to (pos 18446744073709551615) p.least (most p.least fit.high))
  where
    most : (z : ℤ) → z <ℤ pos (2 ^ 64) → z ≤ℤ pos 18446744073709551615
    most z h = omega (arith, ints, h)

fits_index : (ps : List Piece) → passes_index ps ≡ false → FitsIndex ps
fits_index ps e =
    let both = or_is (list_any passes_time (groups ps)) (list_any passes_reference ps) e in
    record { times = none_pass BeginsInTime passes_time (groups ps) fits_time both.0; references = none_pass FitsReference passes_reference ps fits_reference both.1 }

index_fits : (ps : List Piece) → FitsIndex ps → passes_index ps ≡ false
index_fits ps fit =
    or_so (list_any passes_time (groups ps)) (list_any passes_reference ps) (pass_none BeginsInTime passes_time (groups ps) time_fits fit.times) (pass_none FitsReference passes_reference ps reference_fits fit.references)

-- ---- all

runs_fit : (cut : Cut) (moof_bytes : List ℕ) (runs : List Run) → index_faults cut moof_bytes runs ≡ [] → cut.index ≡ true → AllByRecursion (λ (run : Run). FitsIndex (pieces_of cut moof_bytes run)) runs
runs_fit cut moof_bytes [] e t = tt
runs_fit cut moof_bytes (run ∷ runs) e t =
    let both = last_none (index_faults_of cut moof_bytes run) (index_faults cut moof_bytes runs) e in
    let none = none_given (cut.index && passes_index (pieces_of cut moof_bytes run)) (index_fault run) both.0 in
    (fits_index (pieces_of cut moof_bytes run) (and_off cut.index (passes_index (pieces_of cut moof_bytes run)) none t), runs_fit cut moof_bytes runs both.1 t)

fit_runs : (cut : Cut) (moof_bytes : List ℕ) (runs : List Run) → (cut.index ≡ true → AllByRecursion (λ (run : Run). FitsIndex (pieces_of cut moof_bytes run)) runs) → index_faults cut moof_bytes runs ≡ []
fit_runs cut moof_bytes [] f = refl
fit_runs cut moof_bytes (run ∷ runs) f =
    let none = and_so cut.index (passes_index (pieces_of cut moof_bytes run)) (λ t. index_fits (pieces_of cut moof_bytes run) (f t).0) in
    ap (λ (fs : List Fault). fs ++ index_faults cut moof_bytes runs) (given_none (cut.index && passes_index (pieces_of cut moof_bytes run)) (index_fault run) none) ∙ fit_runs cut moof_bytes runs (λ t. (f t).1)

number_fits : (n : ℕ) → n < 4294967296 → nat_lt 4294967295 n ≡ false
number_fits n h = le-ltb 4294967295 n (omega (arith, h))

pub room_from : (cut : Cut) (h : MoofBytes) (runs : List Run) (seq : ℕ) → room_faults cut h runs seq ≡ [] → HasRoomFor cut h runs seq
unfolding room_faults
room_from cut h runs seq e =
    let ns = numbers seq (piece_count cut h.bytes runs) in
    let both = last_none (index_faults cut h.bytes runs) (sequence_faults h.offset ns) e in
    record {
      indexes = λ t. runs_fit cut h.bytes runs both.0 t;
      numbers = none_pass (λ (n : ℕ). n < 2 ^ 32) (nat_lt 4294967295) ns below_long (none_given (list_any (nat_lt 4294967295) ns) (sequence_fault h.offset) both.1);
    }

pub room_to : (cut : Cut) (h : MoofBytes) (runs : List Run) (seq : ℕ) → HasRoomFor cut h runs seq → room_faults cut h runs seq ≡ []
unfolding room_faults
room_to cut h runs seq has =
    let ns = numbers seq (piece_count cut h.bytes runs) in
    ap (λ (fs : List Fault). fs ++ sequence_faults h.offset ns) (fit_runs cut h.bytes runs has.indexes)
    ∙ given_none (list_any (nat_lt 4294967295) ns) (sequence_fault h.offset) (pass_none (λ (n : ℕ). n < 2 ^ 32) (nat_lt 4294967295) ns number_fits has.numbers)
