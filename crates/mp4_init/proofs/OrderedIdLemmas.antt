-- What a search among track_IDs in order finds.
use Rattle.std.proofs.Common.{◌≡◌, ◌∙◌, ◌==◌, ◌≤◌, ◌<◌, ◌+◌, ◌*◌, ◌/◌, ℕ, zero, suc, Bool, true, false, cond, ltb, List, [], ◌∷◌, length, Option, Some, None, refl, sym, ap, arith}
use Rattle.std.specs.Prelude.{slice_get, slice_index_or}
use Rattle.std.specs.List.Sorted.{IsSorted}
use Rattle.std.specs.Option.{is_some}
use Rattle.std.specs.Ordering.{nat_cmp}
use Rattle.std.proofs.lemmas.Bool.{ltb-false, ltb-true}
use Rattle.std.proofs.lemmas.List.Sorted.{IsNonDecreasingBy-from_sort}
use Rattle.mp4_init.proofs.SearchTreeLemmas.{is_same, same_test}
use Rattle.mp4_init.specs.OrderedIds.{descend, place_if, step_to, sought}

some_same : (a b : ℕ) → Some a ≡ Some b → a ≡ b
some_same a b e = cc

placed : (ids : List ℕ) (o : Option ℕ) (id at k : ℕ) → slice_get ids at ≡ o → place_if o id at ≡ Some k → slice_get ids k ≡ Some id
placed ids None id at k g e = absurd cc
placed ids (Some x) id at k g e = by (x == id) refl
  where
    by : (t : Bool) → (x == id) ≡ t → slice_get ids k ≡ Some id
    by true s = let f : Some at ≡ Some k = ap (λ (u : Bool). cond u (Some at) None) (sym s) ∙ e in ap (slice_get ids) (sym (some_same at k f)) ∙ g ∙ ap (λ (n : ℕ). Some n) (is_same x id s)
    by false s = let f : None ≡ Some k = ap (λ (u : Bool). cond u (Some at) None) (sym s) ∙ e in absurd cc

-- the id is where it is found
pub holds_id : (ids : List ℕ) (id k : ℕ) → sought ids id ≡ Some k → slice_get ids k ≡ Some id
unfolding sought
holds_id ids id k e = let at = descend 16 32768 ids id 0 in placed ids (slice_get ids at) id at k refl e

-- at one place only one id is found
pub same_id : (ids : List ℕ) (x id k : ℕ) → sought ids x ≡ Some k → sought ids id ≡ Some k → x ≡ id
same_id ids x id k e f = some_same x id (sym (holds_id ids x k e) ∙ holds_id ids id k f)

-- among none no id is found
pub none_sought : (id : ℕ) → sought [] id ≡ None
unfolding sought descend
none_sought id = refl

-- ---- an id among ids in order is found

got_none : (ids : List ℕ) (i : ℕ) → slice_get ids i ≡ None → length ids ≤ i
got_none [] i e = omega arith
got_none (x ∷ xs) zero e = absurd cc
got_none (x ∷ xs) (suc i) e = let later : length xs ≤ i = got_none xs i e in omega (arith, later)

got_some : (ids : List ℕ) (i x : ℕ) → slice_get ids i ≡ Some x → (i < length ids) × (slice_index_or ids i 0 ≡ x)
got_some [] i x e = absurd cc
got_some (y ∷ ys) zero x e = (omega arith, some_same y x e)
got_some (y ∷ ys) (suc i) x e = let later = got_some ys i x e in (omega (arith, later.0), later.1)

got_within : (ids : List ℕ) (i : ℕ) → i < length ids → slice_get ids i ≡ Some (slice_index_or ids i 0)
got_within [] i h = absurd (omega (arith, h))
got_within (y ∷ ys) zero h = refl
got_within (y ∷ ys) (suc i) h = got_within ys i (omega (arith, h))

-- how many places so many steps can distinguish, and how long the first of them is
unfoldable width : ℕ → ℕ
width zero = 1
width (suc n) = 2 * width n

unfoldable first_step : ℕ → ℕ
first_step zero = 0
first_step (suc n) = width n

halved : (n : ℕ) → width n / 2 ≡ first_step n
unfolding width first_step
halved zero = refl
halved (suc n) = omega arith

-- the id at a place is no greater, and that at another, if there is one, is
record Reaches (ids : List ℕ) (id at : ℕ) : Type 0 where
  within : at < length ids
  low : slice_index_or ids at 0 ≤ id

record EndsBefore (ids : List ℕ) (id to : ℕ) : Type 0 where
  high : to < length ids → id < slice_index_or ids to 0

abbrev IsLast : List ℕ → ℕ → ℕ → Type 0
IsLast ids id at = Reaches ids id at × EndsBefore ids id (at + 1)

ends_at : (ids : List ℕ) (id n : ℕ) → ((at : ℕ) → Reaches ids id at → EndsBefore ids id (at + width n) → IsLast ids id (descend n (first_step n) ids id at))
    → (at : ℕ) (o : Option ℕ) → slice_get ids (at + width n) ≡ o → Reaches ids id at → EndsBefore ids id (at + width n + width n)
    → IsLast ids id (descend n (first_step n) ids id (step_to o id (at + width n) at))
ends_at ids id n rest at None got here end =
    rest at here (record { high = λ within. absurd (omega (arith, within, got_none ids (at + width n) got)) })
ends_at ids id n rest at (Some x) got here end = by (ltb id x) refl
  where
    by : (t : Bool) → ltb id x ≡ t → IsLast ids id (descend n (first_step n) ids id (cond t at (at + width n)))
    by true less = rest at here (record { high = λ within. let is = (got_some ids (at + width n) x got).1 in omega (arith, is, ltb-true id x less) })
    by false more = let is = got_some ids (at + width n) x got in rest (at + width n) (record { within = is.0; low = omega (arith, is.1, ltb-false id x more) }) end

descends : (ids : List ℕ) (id n at : ℕ) → Reaches ids id at → EndsBefore ids id (at + width n) → IsLast ids id (descend n (first_step n) ids id at)
unfolding descend width first_step
descends ids id zero at here end = (here, end)
descends ids id (suc n) at here end =
    let far : at + 2 * width n ≡ at + width n + width n = omega arith in
    let later : EndsBefore ids id (at + width n + width n) = rw (sym far) end in
    rw (halved n) (ends_at ids id n (λ at. descends ids id n at) at (slice_get ids (at + width n)) refl here later)

sixteen : width 16 ≡ 65536
unfolding width
sixteen = refl

fifteen : first_step 16 ≡ 32768
unfolding width first_step
fifteen = refl

is_there : (ids : List ℕ) (id r k : ℕ) → ((i j : ℕ) → i ≤ j → j < length ids → slice_index_or ids i 0 ≤ slice_index_or ids j 0) → slice_get ids k ≡ Some id → IsLast ids id r → slice_index_or ids r 0 ≡ id
is_there ids id r k rises got last = by (ltb r k) refl
  where
    by : (t : Bool) → ltb r k ≡ t → slice_index_or ids r 0 ≡ id
    by true after =
        let at = got_some ids k id got in
        let next : r + 1 ≤ k = omega (arith, ltb-true r k after) in
        let low : slice_index_or ids (r + 1) 0 ≤ slice_index_or ids k 0 = rises (r + 1) k next at.0 in
        let high : id < slice_index_or ids (r + 1) 0 = last.1.high (omega (arith, next, at.0)) in
        absurd (omega (arith, low, high, at.1))
    by false before =
        let at = got_some ids k id got in
        let low : slice_index_or ids k 0 ≤ slice_index_or ids r 0 = rises k r (ltb-false r k before) last.0.within in
        omega (arith, low, last.0.low, at.1)

pub found_in_order : (ids : List ℕ) (id k : ℕ) → IsSorted nat_cmp ids → length ids ≤ 65536 → slice_get ids k ≡ Some id → is_some (sought ids id) ≡ true
unfolding sought
found_in_order ids id k sorted few got =
    let at = got_some ids k id got in
    let rises : (i j : ℕ) → i ≤ j → j < length ids → slice_index_or ids i 0 ≤ slice_index_or ids j 0 = λ i j less within. IsNonDecreasingBy-from_sort (λ x. x) ids sorted i j 0 less within in
    let first : Reaches ids id 0 = record {
      within = omega (arith, at.0);
      low = let low : slice_index_or ids 0 0 ≤ slice_index_or ids k 0 = rises 0 k (omega arith) at.0 in omega (arith, low, at.1);
    } in
    let last = descends ids id 16 0 first (record { high = λ within. absurd (omega (arith, within, sixteen, few)) }) in
    let r = descend 16 (first_step 16) ids id 0 in
    let found : place_if (slice_get ids r) id r ≡ Some r =
    ap (λ (o : Option ℕ). place_if o id r) (got_within ids r last.0.within ∙ ap (λ (n : ℕ). Some n) (is_there ids id r k rises got last))
    ∙ ap (λ (t : Bool). cond t (Some r) None) (same_test id id refl) in
    let same : sought ids id ≡ place_if (slice_get ids r) id r =
    ap (λ (step : ℕ). let there = descend 16 step ids id 0 in place_if (slice_get ids there) id there) (sym fifteen) in
    ap is_some (same ∙ found)
