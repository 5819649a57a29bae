-- What the traks of a moov without a fault are: how long, and that each has one trex.
use Rattle.std.proofs.Common.{◌≡◌, ◌∙◌, ◌≤◌, ◌*◌, ◌==◌, ℕ, Bool, true, false, cond, ltb, List, [], ◌∷◌, ◌++◌, length, Option, Some, None, refl, sym, ap, arith}
use Rattle.std.specs.List.{flat_map, AllByRecursion}
use Rattle.std.proofs.lemmas.Bool.Decides.{nat_tests}
use Rattle.std.proofs.lemmas.List.{length-map}
use Rattle.mp4_box.specs.declared.rules.Fault.{Fault}
use Rattle.mp4_box.specs.declared.rules.Rule.TheVariants.{UnknownTrack}
use Rattle.mp4_box.specs.Headers.{IsBytes}
use Rattle.mp4_box.specs.Order.{least}
use Rattle.mp4_box.specs.Checks.{along, alone, broken, laid_out, one}
use Rattle.mp4_box.specs.Fields.{version_in}
use Rattle.mp4_box.specs.Paths.{of_kind, at_path}
use Rattle.mp4_box.specs.declared.checks.Layout.TheVariants.{Versioned}
use Rattle.mp4_box.specs.Trees.{Box, box_at, box_len, children, tree_faults, verdict, first_of, fault_at}
use Rattle.mp4_box.proofs.GrammarLemmas.{lies_at}
use Rattle.mp4_box.proofs.OrderLemmas.{least-none}
use Rattle.mp4_box.proofs.SizeLemmas.{IsLaid, total, fits_children, kind_fits, both_none, none_here, none_below, laid_by}
use Rattle.mp4_init.specs.Kinds.{trak, tkhd, to_tkhd}
use Rattle.mp4_init.specs.Fields.{after_times, tkhd_id}
use Rattle.mp4_init.specs.Rules.{number_faults, field_faults, sample_faults, track_faults, before, tkhds_of, trexes_of, is_known, known}
use Rattle.mp4_init.specs.Tracks.{track_of, tracks_of, field_of, id_of}
use Rattle.mp4_init.specs.Moovs.{form_faults, value_faults, content_fault, moov_fault, moov_tracks, of_moov, fault_of}
use Rattle.mp4_init.proofs.SearchTreeLemmas.{is_same}
use Rattle.mp4_init.proofs.MoovLemmas.{first_none}

-- ---- a tkhd is long, and so is its trak

long_by : (n v : ℕ) → (n == cond (v == 0) 84 96) ≡ true → 84 ≤ n
long_by n v e = grind (arith, nat_tests)

laid : (b : Box) → laid_out (Versioned 84 96) b ≡ [] → 84 ≤ length b.payload
unfolding broken
laid b e = long_by (length b.payload) (version_in b.payload) (laid_by b (ltb (length b.payload) 4) (ltb 1 (version_in b.payload)) (length b.payload == cond (version_in b.payload == 0) 84 96) e)

trak_long : (t : Box) → IsBytes t.payload → one tkhd t ≡ [] → AllByRecursion (λ b. laid_out (Versioned 84 96) b ≡ []) (of_kind tkhd (children t)) → 64 ≤ box_len t
unfolding total
trak_long t fits e all = by (of_kind tkhd (children t)) refl e all
  where
    by : (bs : List Box) → of_kind tkhd (children t) ≡ bs → alone t bs ≡ [] → AllByRecursion (λ b. laid_out (Versioned 84 96) b ≡ []) bs → 64 ≤ box_len t
    by [] is e all = absurd cc
    by (b ∷ bs) is e all =
        let long = laid b all.0 in
        let kept = kind_fits (length t.payload) tkhd (children t) (fits_children t fits) in
        let sum : total (b ∷ bs) ≤ length t.payload = omega (arith, ap total is, kept.sum) in
        omega (arith, long, sum)

traks_long : (ts : List Box) → AllByRecursion IsLaid ts → AllByRecursion (λ t. one tkhd t ≡ []) ts → AllByRecursion (λ t. AllByRecursion (λ b. laid_out (Versioned 84 96) b ≡ []) (of_kind tkhd (children t))) ts
    → 64 * length ts ≤ total ts
unfolding total
traks_long [] fits ones laids = omega arith
traks_long (t ∷ ts) fits ones laids = omega (arith, trak_long t fits.0.bytes ones.0 laids.0, traks_long ts fits.1 ones.1 laids.1)

-- ---- the whole

numbers_none : (m : Box) → number_faults m ≡ [] → along (one tkhd) (trak ∷ []) m ≡ []
unfolding number_faults
numbers_none m e =
    (both_none _ _ (both_none _ _ (both_none _ _ (both_none _ _ (both_none _ _ (both_none _ _ e).0).0).0).0).0).1

fields_none : (m : Box) → field_faults m ≡ [] → along (laid_out (Versioned 84 96)) to_tkhd m ≡ []
unfolding field_faults
fields_none m e =
    (both_none _ _ (both_none _ _ (both_none _ _ (both_none _ _ (both_none _ _ (both_none _ _ (both_none _ _ (both_none _ _ (both_none _ _ e).0).0).0).0).0).0).0).0).0

content_small : (m : Box) → IsBytes m.payload → content_fault m ≡ None → 64 * length (tracks_of m) ≤ length m.payload
unfolding content_fault form_faults at_path
content_small m fits e =
    let ts : List Box = of_kind trak (children m) in
    let form = least-none (number_faults m ++ field_faults m) (first_none (least (number_faults m ++ field_faults m)) (least (value_faults m)) e).0 in
    let both = both_none (number_faults m) (field_faults m) form in
    let kids = kind_fits (length m.payload) trak (children m) (fits_children m fits) in
    let ones = none_here (one tkhd) ts (numbers_none m both.0) in
    let laids = none_below (laid_out (Versioned 84 96)) tkhd ts (fields_none m both.1) in
    omega (arith, traks_long ts kids.all ones laids, kids.sum, length-map ts (track_of m))

pub table_small : (o : ℕ) (x : List ℕ) → IsBytes x → moov_fault o x ≡ None → 64 * length (moov_tracks o x) ≤ length x
table_small o x fits e = by (box_at o x) refl (first_none (fault_of (verdict (tree_faults o x))) (of_moov None content_fault (box_at o x)) e).1
  where
    by : (m : Option Box) → box_at o x ≡ m → of_moov None content_fault m ≡ None → 64 * length (of_moov [] tracks_of m) ≤ length x
    by None is e = omega arith
    by (Some m) is e =
        let s = lies_at o x m fits is in
        omega (arith, s.high, content_small m s.bytes e)

-- ---- each trak has one trex

is_true : (t : Bool) (f : Fault) → cond t [] (f ∷ []) ≡ [] → t ≡ true
is_true true f e = refl
is_true false f e = absurd cc

both_true : (t u : Bool) → cond t u false ≡ true → u ≡ true
both_true true u e = e
both_true false u e = absurd cc

known_one : (m b : Box) → known m b ≡ [] → length (trexes_of m (tkhd_id b)) ≡ 1
unfolding is_known
known_one m b e =
    is_same (length (trexes_of m (tkhd_id b))) 1
    (both_true (length (before b.offset (tkhds_of m (tkhd_id b))) == 0) (length (trexes_of m (tkhd_id b)) == 1)
    (is_true (cond (length (before b.offset (tkhds_of m (tkhd_id b))) == 0) (length (trexes_of m (tkhd_id b)) == 1) false) (fault_at UnknownTrack b) e))

first_id : (t b : Box) (bs : List Box) → of_kind tkhd (children t) ≡ b ∷ bs → id_of t ≡ tkhd_id b
unfolding at_path
first_id t b bs e = ap (λ (cs : List Box). field_of after_times (first_of (flat_map (at_path []) cs))) e

trak_one : (m t : Box) → one tkhd t ≡ [] → AllByRecursion (λ b. known m b ≡ []) (of_kind tkhd (children t)) → length (trexes_of m (id_of t)) ≡ 1
trak_one m t e all = by (of_kind tkhd (children t)) refl e all
  where
    by : (bs : List Box) → of_kind tkhd (children t) ≡ bs → alone t bs ≡ [] → AllByRecursion (λ b. known m b ≡ []) bs → length (trexes_of m (id_of t)) ≡ 1
    by [] is e all = absurd cc
    by (b ∷ bs) is e all = ap (λ (id : ℕ). length (trexes_of m id)) (first_id t b bs is) ∙ known_one m b all.0

traks_one : (m : Box) (ts : List Box) → AllByRecursion (λ t. one tkhd t ≡ []) ts → AllByRecursion (λ t. AllByRecursion (λ b. known m b ≡ []) (of_kind tkhd (children t))) ts
    → AllByRecursion (λ t. length (trexes_of m (id_of t)) ≡ 1) ts
traks_one m [] ones all = tt
traks_one m (t ∷ ts) ones all = (trak_one m t ones.0 all.0, traks_one m ts ones.1 all.1)

content_one : (m : Box) → content_fault m ≡ None → AllByRecursion (λ t. length (trexes_of m (id_of t)) ≡ 1) (of_kind trak (children m))
unfolding content_fault form_faults value_faults track_faults at_path
content_one m e =
    let ts : List Box = of_kind trak (children m) in
    let parts = first_none (least (number_faults m ++ field_faults m)) (least (sample_faults m ++ along (known m) to_tkhd m)) e in
    let form = both_none (number_faults m) (field_faults m) (least-none (number_faults m ++ field_faults m) parts.0) in
    let values = both_none (sample_faults m) (along (known m) to_tkhd m) (least-none (sample_faults m ++ along (known m) to_tkhd m) parts.1) in
    traks_one m ts (none_here (one tkhd) ts (numbers_none m form.0)) (none_below (known m) tkhd ts values.1)

pub one_trex_each : (o : ℕ) (x : List ℕ) (moov : Box) → box_at o x ≡ Some moov → moov_fault o x ≡ None → AllByRecursion (λ t. length (trexes_of moov (id_of t)) ≡ 1) (of_kind trak (children moov))
one_trex_each o x moov here e =
    content_one moov (sym (ap (of_moov None content_fault) here) ∙ (first_none (fault_of (verdict (tree_faults o x))) (of_moov None content_fault (box_at o x)) e).1)
