-- The sum of the sizes of the boxes in some bytes, and what is known of each where nothing is at fault along a path.
use Rattle.std.proofs.Common.{◌≡◌, ◌∙◌, ◌≤◌, ◌+◌, ◌-◌, ℕ, zero, suc, Bool, true, false, cond, List, [], ◌∷◌, ◌++◌, length, Option, Some, None, refl, sym, arith}
use Rattle.std.specs.Prelude.{option_map, option_to_list}
use Rattle.std.specs.List.{flat_map, AllByRecursion}
use Rattle.std.specs.Str.{bytes_eq}
use Rattle.std.proofs.lemmas.Grind.{flat_map-append}
use Rattle.mp4_box.specs.declared.headers.FourCc.{FourCc}
use Rattle.mp4_box.specs.declared.rules.Fault.{Fault}
use Rattle.mp4_box.specs.declared.rules.Rule.TheVariants.{Version, FieldLength}
use Rattle.mp4_box.specs.Checks.{unless}
use Rattle.mp4_box.specs.Headers.{IsBytes}
use Rattle.mp4_box.specs.Paths.{of_kind, at_path}
use Rattle.mp4_box.specs.Trees.{Box, box_at, box_len, box_then, over, children, payload_offset, fault_at}
use Rattle.mp4_box.proofs.GrammarLemmas.{lies_at, LiesAt}
use Rattle.mp4_box.proofs.HeaderAnswers.{head-need}
use Rattle.mp4_box.proofs.HeaderLemmas.{need-least}

-- ---- the boxes of some bytes

unfoldable pub total : List Box → ℕ
total [] = 0
total (b ∷ bs) = box_len b + total bs

pub record IsLaid (b : Box) : Type 0 where
  pub bytes : IsBytes b.payload
  pub header_len : 8 ≤ b.header.header_len

-- they are laid out, and have no more bytes than n
pub record Fits (n : ℕ) (bs : List Box) : Type 0 where
  pub all : AllByRecursion IsLaid bs
  pub sum : total bs ≤ n

tail_bytes : (a : ℕ) (xs : List ℕ) → IsBytes (a ∷ xs) → IsBytes xs
tail_bytes a xs fits i = fits (suc i)

laid_of : (o : ℕ) (x : List ℕ) (b : Box) → LiesAt o x b → IsLaid b
laid_of o x b s = record {
  bytes = s.bytes;
  header_len = omega (arith, s.box.spelled.header_len, head-need b.header s.box.header_bytes s.box.spelled, need-least s.box.header_bytes);
}

fits_over : (x : List ℕ) (k o : ℕ) → IsBytes x → Fits (length x - k) (over (λ b. b ∷ []) (λ _ _. []) x k o)
unfolding over total
fits_over [] k o fits = record { all = tt; sum = omega arith }
fits_over (a ∷ xs) zero o fits = by (box_at o (a ∷ xs)) refl (λ k. fits_over xs k (o + 1) (tail_bytes a xs fits))
  where
    by : (m : Option Box) → box_at o (a ∷ xs) ≡ m → ((k : ℕ) → Fits (length xs - k) (over (λ b. b ∷ []) (λ _ _. []) xs k (o + 1)))
        → Fits (length (a ∷ xs) - 0) (box_then m (λ b. b ∷ []) [] (λ k. over (λ b. b ∷ []) (λ _ _. []) xs k (o + 1)))
    by None e later = record { all = tt; sum = omega arith }
    by (Some b) e later =
        let s = lies_at o (a ∷ xs) b fits e in
        let rest = later (box_len b - 1) in
        record { all = (laid_of o (a ∷ xs) b s, rest.all); sum = omega (arith, s.low, s.high, rest.sum) }
fits_over (a ∷ xs) (suc k) o fits =
    let rest = fits_over xs k (o + 1) (tail_bytes a xs fits) in
    record { all = rest.all; sum = omega (arith, rest.sum) }

pub fits_children : (b : Box) → IsBytes b.payload → Fits (length b.payload) (children b)
fits_children b fits = let f = fits_over b.payload 0 (payload_offset b) fits in record { all = f.all; sum = omega (arith, f.sum) }

pub kind_fits : (n : ℕ) (kind : FourCc) (bs : List Box) → Fits n bs → Fits n (of_kind kind bs)
unfolding total
kind_fits n kind [] f = f
kind_fits n kind (b ∷ bs) f = by (bytes_eq b.header.kind.0 kind.0) (kind_fits (n - box_len b) kind bs (record { all = f.all.1; sum = omega (arith, f.sum) }))
  where
    by : (t : Bool) → Fits (n - box_len b) (of_kind kind bs) → Fits n (cond t (b ∷ of_kind kind bs) (of_kind kind bs))
    by true h = record { all = (f.all.0, h.all); sum = omega (arith, h.sum, f.sum) }
    by false h = record { all = h.all; sum = omega (arith, h.sum) }

-- ---- where nothing is at fault along a path

pub both_none : {A : Type 0} (xs ys : List A) → xs ++ ys ≡ [] → (xs ≡ []) × (ys ≡ [])
both_none [] ys e = (refl, e)
both_none (x ∷ xs) ys e = absurd cc

pub none_here : (f : Box → List Fault) (bs : List Box) → flat_map f (flat_map (at_path []) bs) ≡ [] → AllByRecursion (λ b. f b ≡ []) bs
unfolding at_path
none_here f [] e = tt
none_here f (b ∷ bs) e =
    let both = both_none (f b) (flat_map f (flat_map (at_path []) bs)) e in
    (both.0, none_here f bs both.1)

pub none_below : (f : Box → List Fault) (kind : FourCc) (bs : List Box) → flat_map f (flat_map (at_path (kind ∷ [])) bs) ≡ [] → AllByRecursion (λ b. AllByRecursion (λ c. f c ≡ []) (of_kind kind (children b))) bs
unfolding at_path
none_below f kind [] e = tt
none_below f kind (b ∷ bs) e =
    let both = both_none (flat_map f (flat_map (at_path []) (of_kind kind (children b)))) (flat_map f (flat_map (at_path (kind ∷ [])) bs))
    (sym (flat_map-append f (flat_map (at_path []) (of_kind kind (children b))) (flat_map (at_path (kind ∷ [])) bs)) ∙ e) in
    (none_here f (of_kind kind (children b)) both.0, none_below f kind bs both.1)

-- a payload in which no rule is broken that is asked last
pub laid_by : (b : Box) (t u v : Bool) → option_to_list (option_map (λ r. fault_at r b) (cond t (Some FieldLength) (cond u (Some Version) (unless v FieldLength)))) ≡ [] → v ≡ true
laid_by b true u v e = absurd cc
laid_by b false true v e = absurd cc
laid_by b false false true e = refl
laid_by b false false false e = absurd cc
