-- What is marked at the place of a track_ID.
use Rattle.std.proofs.Common.{◌≡◌, ◌∙◌, ◌<◌, ◌==◌, ℕ, Bool, true, false, cond, List, [], ◌∷◌, length, Option, Some, None, refl, sym, ap, arith}
use Rattle.std.specs.Prelude.{replicate, slice_index_or}
use Rattle.std.proofs.lemmas.List.{get_or_default, length-replicate, length-set, get_or-replicate, get_or-set_same, get_or-set_other}
use Rattle.std.proofs.lemmas.Bool.Decides.{nat_tests}
use Rattle.mp4_box.specs.Trees.{Box}
use Rattle.mp4_init.specs.OrderedIds.{sought}
use Rattle.mp4_init.proofs.SearchTreeLemmas.{is_same}
use Rattle.mp4_init.proofs.OrderedIdLemmas.{same_id}
use Rattle.mp4_frag.specs.Repeats.{traf_id, is_listed}
use Rattle.mp4_frag.specs.Implementation.RepeatMarks.{marked_at, all_marked, marks}

pub length-marked_at : (seen : List Bool) (o : Option ℕ) → length (marked_at seen o) ≡ length seen
length-marked_at seen None = refl
length-marked_at seen (Some k) = length-set seen k true

apart : (x id : ℕ) → (x == id) ≡ false → x ≡ id → ⊥
apart x id e same = grind (arith, nat_tests)

away : (ids : List ℕ) (seen : List Bool) (x id k : ℕ) (o : Option ℕ) → sought ids id ≡ Some k → sought ids x ≡ o → (x ≡ id → ⊥) → slice_index_or (marked_at seen o) k false ≡ slice_index_or seen k false
away ids seen x id k None here e other = refl
away ids seen x id k (Some j) here e other = get_or-set_other seen j k true false (λ same. other (same_id ids x id k (e ∙ ap (λ (n : ℕ). Some n) (sym same)) here))

or_false : (t : Bool) → t ≡ cond t true false
or_false true = refl
or_false false = refl

or_true : (t : Bool) → true ≡ cond t true true
or_true true = refl
or_true false = refl

pub found : (ids : List ℕ) (seen : List Bool) (ts : List Box) (id k : ℕ) → sought ids id ≡ Some k → k < length seen
    → slice_index_or (all_marked ids seen ts) k false ≡ cond (slice_index_or seen k false) true (is_listed id ts)
unfolding all_marked is_listed
found ids seen [] id k here within = or_false (slice_index_or seen k false)
found ids seen (t ∷ ts) id k here within =
    let next = marked_at seen (sought ids (traf_id t)) in
    found ids next ts id k here (omega (arith, within, length-marked_at seen (sought ids (traf_id t)))) ∙ by (traf_id t == id) refl
  where
    by : (u : Bool) → (traf_id t == id) ≡ u → cond (slice_index_or (marked_at seen (sought ids (traf_id t))) k false) true (is_listed id ts) ≡ cond (slice_index_or seen k false) true (cond u true (is_listed id ts))
    by true e =
        ap (λ (o : Option ℕ). cond (slice_index_or (marked_at seen o) k false) true (is_listed id ts)) (ap (sought ids) (is_same (traf_id t) id e) ∙ here)
        ∙ ap (λ (b : Bool). cond b true (is_listed id ts)) (get_or-set_same seen k true false within)
        ∙ or_true (slice_index_or seen k false)
    by false e = ap (λ (b : Bool). cond b true (is_listed id ts)) (away ids seen (traf_id t) id k (sought ids (traf_id t)) here refl (apart (traf_id t) id e))

-- a mark is whether one of these has the track_ID
pub mark_states : (n : ℕ) (ids : List ℕ) (seen : List Bool) (ts : List Box) (id k : ℕ) (d : Bool) → sought ids id ≡ Some k → length seen ≡ n → k < n → seen ≡ marks n ids ts → slice_index_or seen k d ≡ is_listed id ts
unfolding marks
mark_states n ids seen ts id k d here len within e =
    get_or_default seen k d false (omega (arith, len, within))
    ∙ ap (λ (xs : List Bool). slice_index_or xs k false) e
    ∙ found ids (replicate n false) ts id k here (omega (arith, within, length-replicate n false))
    ∙ ap (λ (b : Bool). cond b true (is_listed id ts)) (get_or-replicate n k false false within)
