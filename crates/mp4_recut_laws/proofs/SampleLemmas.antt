-- The samples of a piece, and samples that are cut.
use Rattle.std.proofs.Common.{◌≡◌, ◌∙◌, ℕ, zero, suc, ◌+◌, ◌≤◌, List, [], ◌∷◌, ◌++◌, refl, sym, ap, arith}
use Rattle.std.specs.Prelude.{take, drop}
use Rattle.std.proofs.lemmas.List.{drop-take}
use Rattle.std.proofs.lemmas.List.Sums.{sum_by-cons}
use Rattle.mp4_traf.specs.declared.rows.Row.{Row}
use Rattle.mp4_traf.specs.Rows.{durations, sizes}
use Rattle.mp4_recut_laws.specs.MediaSamples.{MediaSample, media_samples_from}

samples_are : (track entry time : ℕ) (row : Row) → List ℕ → MediaSample
samples_are track entry time row bytes = record { track = track; time = time; composition = Rattle.std.specs.Prelude.◌+ℤ◌ (Rattle.std.specs.Prelude.pos time) row.offset; duration = row.duration; flags = row.flags; entry = entry; bytes = bytes }

take_of_take : (n k : ℕ) (xs : List ℕ) → n ≤ k → take n (take k xs) ≡ take n xs
take_of_take zero k xs h = refl
take_of_take (suc n) zero xs h = absurd (omega arith)
take_of_take (suc n) (suc k) [] h = refl
take_of_take (suc n) (suc k) (x ∷ xs) h = ap (λ (ys : List ℕ). x ∷ ys) (take_of_take n k xs (omega arith))

take_front : (n m : ℕ) (xs : List ℕ) → take n (take (n + m) xs) ≡ take n xs
take_front n m xs = take_of_take n (n + m) xs (omega arith)

drop_none : {X : Type 0} (n : ℕ) → ◌≡◌ {A = List X} (drop n []) []
drop_none zero = refl
drop_none (suc n) = refl

pub drop_on : {X : Type 0} (n m k : ℕ) (xs : List X) → k ≡ n + m → drop k xs ≡ drop m (drop n xs)
drop_on zero m k xs e = ap (λ (j : ℕ). drop j xs) (omega (arith, e))
drop_on (suc n) m k [] e = drop_none k ∙ sym (drop_none m)
drop_on (suc n) m zero (x ∷ xs) e = absurd (omega (arith, e))
drop_on (suc n) m (suc k) (x ∷ xs) e = drop_on n m k xs (omega (arith, e))

cons_same : (a b : MediaSample) (xs ys : List MediaSample) → a ≡ b → xs ≡ ys → a ∷ xs ≡ b ∷ ys
cons_same a b xs ys p q = cc

pub join_same : (a b c d : List MediaSample) → a ≡ b → c ≡ d → a ++ c ≡ b ++ d
join_same a b c d p q = ap (λ (x : List MediaSample). x ++ c) p ∙ ap (λ (y : List MediaSample). b ++ y) q

pub cut_samples : (track entry time : ℕ) (xs ys : List Row) (media : List ℕ) → media_samples_from track entry (xs ++ ys) time media ≡ media_samples_from track entry xs time (take (sizes xs) media) ++ media_samples_from track entry ys (time + durations xs) (drop (sizes xs) media)
unfolding samples_are
cut_samples track entry time [] ys media = ap (λ (n : ℕ). media_samples_from track entry ys n media) (omega arith)
cut_samples track entry time (x ∷ xs) ys media =
    let size : sizes (x ∷ xs) ≡ x.size + sizes xs = sum_by-cons (λ (r : Row). r.size) x xs in
    let long : durations (x ∷ xs) ≡ x.duration + durations xs = sum_by-cons (λ (r : Row). r.duration) x xs in
    let first : take x.size (take (sizes (x ∷ xs)) media) ≡ take x.size media = ap (λ (n : ℕ). take x.size (take n media)) size ∙ take_front x.size (sizes xs) media in
    let rest : drop x.size (take (sizes (x ∷ xs)) media) ≡ take (sizes xs) (drop x.size media) = ap (λ (n : ℕ). drop x.size (take n media)) size ∙ drop-take x.size (sizes xs) media in
    cons_same (samples_are track entry time x (take x.size media)) (samples_are track entry time x (take x.size (take (sizes (x ∷ xs)) media))) _ _ (ap (samples_are track entry time x) (sym first))
    (cut_samples track entry (time + x.duration) xs ys (drop x.size media)
    ∙ join_same _ _ _ _ (ap (media_samples_from track entry xs (time + x.duration)) (sym rest))
    (ap (λ (n : ℕ). media_samples_from track entry ys n (drop (sizes xs) (drop x.size media))) (omega (arith, long))
    ∙ ap (media_samples_from track entry ys (time + durations (x ∷ xs))) (sym (drop_on x.size (sizes xs) (sizes (x ∷ xs)) media size))))

-- ---- one piece
