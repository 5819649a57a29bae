-- What the children of trafs add to the findings on a moof.
use Rattle.std.proofs.Common.{◌≡◌, ◌∙◌, ◌+◌, ◌<◌, ◌≤◌, ℕ, Bool, true, false, List, [], ◌∷◌, ◌++◌, length, refl, sym, ap, subst, arith, append_assoc}
use Rattle.std.specs.Prelude.{◌&&◌}
use Rattle.std.specs.List.{flat_map, list_all}
use Rattle.std.proofs.lemmas.Bool.{le-ltb}
use Rattle.std.proofs.lemmas.List.{length-append}
use Rattle.std.proofs.lemmas.List.Elements.{filter-append}
use Rattle.std.proofs.lemmas.List.Folds.{list_all-append}
use Rattle.std.proofs.lemmas.List.Sums.{sum_by-append, sum_by-cons}
use Rattle.mp4_box.specs.declared.headers.FourCc.{FourCc}
use Rattle.mp4_box.specs.Paths.{at_path, of_kind}
use Rattle.mp4_box.specs.Trees.{Box, children}
use Rattle.mp4_frag.specs.declared.at_once.MoofCounts.{MoofCounts}
use Rattle.mp4_frag.specs.Implementation.AtOnce.{Adds, IsCount, in_trafs, is_early, most_32, most_64, times_early}
use Rattle.mp4_traf.specs.Kinds.{is_kind, tfdt, to_trun, traf, trun}
use Rattle.mp4_traf.specs.Rules.{most_in_moof, samples_in}
use Rattle.mp4_frag.specs.Rules.{samples_of, too_many}
use Rattle.mp4_traf.specs.Trun.{sample_count}
use Rattle.mp4_traf.proofs.ChildLemmas.{path_kind}

-- ---- counts

-- one count after another
count_past : (most old m mid n new : ℕ) → IsCount most old m mid → IsCount most mid n new → IsCount most old (m + n) new
count_past most old m mid n new p q small =
    let e = q small in
    let f = p (omega (arith, e, small)) in
    omega (arith, e, f)

-- the count so far, below the most, and what is left of all
abbrev pub AddsUp : ℕ → ℕ → ℕ → ℕ → Type 0
AddsUp most now left all = now < most → now + left ≡ all

pub adds_on : (most old more new left here all : ℕ) → here ≡ more + left → IsCount most old more new → AddsUp most old here all → AddsUp most new left all
adds_on most old more new left here all e p so small =
    let f = p small in
    let g = so (omega (arith, f, small)) in
    omega (arith, e, f, g)

-- ---- lists of children

kind_append : (kind : FourCc) (xs ys : List Box) → of_kind kind (xs ++ ys) ≡ of_kind kind xs ++ of_kind kind ys
kind_append kind xs ys = filter-append (λ (b : Box). is_kind kind b) xs ys

samples_append : (xs ys : List Box) → samples_in (of_kind trun (xs ++ ys)) ≡ samples_in (of_kind trun xs) + samples_in (of_kind trun ys)
samples_append xs ys = ap samples_in (kind_append trun xs ys) ∙ sum_by-append (λ (b : Box). sample_count b.payload) (of_kind trun xs) (of_kind trun ys)

pub count_append : (kind : FourCc) (xs ys : List Box) → length (of_kind kind (xs ++ ys)) ≡ length (of_kind kind xs) + length (of_kind kind ys)
count_append kind xs ys = ap length (kind_append kind xs ys) ∙ length-append (of_kind kind xs) (of_kind kind ys)

early_append : (xs ys : List Box) → list_all is_early (of_kind tfdt (xs ++ ys)) ≡ (list_all is_early (of_kind tfdt xs) && list_all is_early (of_kind tfdt ys))
early_append xs ys = ap (list_all is_early) (kind_append tfdt xs ys) ∙ list_all-append is_early (of_kind tfdt xs) (of_kind tfdt ys)

and_assoc : (a b c : Bool) → ((a && b) && c) ≡ (a && (b && c))
and_assoc true b c = refl
and_assoc false b c = refl

and_true : (a : Bool) → a ≡ (a && true)
and_true true = refl
and_true false = refl

pub adds_nothing : (s : MoofCounts) → Adds [] s s
adds_nothing s = record { samples = λ small. omega arith; truns = λ small. omega arith; early = and_true s.is_early }

-- these children, and then others
pub adds_append : (xs ys : List Box) (r s t : MoofCounts) → Adds xs r s → Adds ys s t → Adds (xs ++ ys) r t
adds_append xs ys r s t p q = record {
  samples = λ small. count_past most_32 r.samples _ s.samples _ t.samples p.samples q.samples small ∙ ap (λ (n : ℕ). r.samples + n) (sym (samples_append xs ys));
  truns = λ small. count_past most_64 r.truns _ s.truns _ t.truns p.truns q.truns small ∙ ap (λ (n : ℕ). r.truns + n) (sym (count_append trun xs ys));
  early =
      q.early
      ∙ ap (λ (u : Bool). u && list_all is_early (of_kind tfdt ys)) p.early
      ∙ and_assoc r.is_early (list_all is_early (of_kind tfdt xs)) (list_all is_early (of_kind tfdt ys))
      ∙ ap (λ (u : Bool). r.is_early && u) (sym (early_append xs ys));
}

-- ---- the trafs of a moof

trafs_append : (xs ys : List Box) → in_trafs (xs ++ ys) ≡ in_trafs xs ++ in_trafs ys
trafs_append [] ys = refl
trafs_append (x ∷ xs) ys = by (is_kind traf x) refl (trafs_append xs ys)
  where
    by : (u : Bool) → is_kind traf x ≡ u → in_trafs (xs ++ ys) ≡ in_trafs xs ++ in_trafs ys → in_trafs (x ∷ (xs ++ ys)) ≡ in_trafs (x ∷ xs) ++ in_trafs ys
    by true is e = rw is (ap (λ (bs : List Box). children x ++ bs) e ∙ sym (append_assoc (children x) (in_trafs xs) (in_trafs ys)))
    by false is e = rw is e

pub moof_adds : (b : Box) (bs : List Box) (r s t : MoofCounts) → Adds (in_trafs (b ∷ [])) r s → Adds (in_trafs bs) s t → Adds (in_trafs (b ∷ bs)) r t
moof_adds b bs r s t p q = subst (λ (cs : List Box). Adds cs r t) (sym (trafs_append (b ∷ []) bs)) (adds_append (in_trafs (b ∷ [])) (in_trafs bs) r s t p q)

truns_are : (ts : List Box) → of_kind trun (flat_map children ts) ≡ flat_map (at_path (trun ∷ [])) ts
truns_are [] = refl
truns_are (t ∷ ts) =
    kind_append trun (children t) (flat_map children ts)
    ∙ ap (λ (bs : List Box). bs ++ of_kind trun (flat_map children ts)) (sym (path_kind trun t))
    ∙ ap (λ (bs : List Box). at_path (trun ∷ []) t ++ bs) (truns_are ts)

pub moof_truns : (m : Box) → of_kind trun (in_trafs (children m)) ≡ at_path to_trun m
unfolding at_path
moof_truns m = truns_are (of_kind traf (children m))

both_true : (a b : Bool) → a && b ≡ true → (a ≡ true) × (b ≡ true)
both_true true b e = (refl, e)
both_true false b e = absurd cc

times_are : (ts : List Box) → list_all is_early (of_kind tfdt (flat_map children ts)) ≡ true → list_all times_early ts ≡ true
times_are [] e = refl
times_are (t ∷ ts) e =
    let parts = both_true (times_early t) (list_all is_early (of_kind tfdt (flat_map children ts))) (sym (early_append (children t) (flat_map children ts)) ∙ e) in
    rw parts.0 (times_are ts parts.1)

-- ---- the findings, from none on

abbrev pub nothing_found : MoofCounts
nothing_found = record { samples = 0; truns = 0; is_early = true }

pub samples_found : (m : Box) (s : MoofCounts) → Adds (in_trafs (children m)) nothing_found s → s.samples < most_32 → s.samples ≡ samples_of m
samples_found m s p small = let e : s.samples ≡ 0 + samples_in (of_kind trun (in_trafs (children m))) = p.samples small in omega (arith, e, ap samples_in (moof_truns m))

pub truns_found : (m : Box) (s : MoofCounts) → Adds (in_trafs (children m)) nothing_found s → s.truns < most_64 → s.truns ≡ length (at_path to_trun m)
truns_found m s p small = let e : s.truns ≡ 0 + length (of_kind trun (in_trafs (children m))) = p.truns small in omega (arith, e, ap length (moof_truns m))

pub early_found : (m : Box) (s : MoofCounts) → Adds (in_trafs (children m)) nothing_found s → s.is_early ≡ true → list_all times_early (of_kind traf (children m)) ≡ true
early_found m s p e = times_are (of_kind traf (children m)) (sym p.early ∙ e)

-- ---- few samples

pub few_enough : (n : ℕ) (bs : List Box) → n + samples_in bs ≤ most_in_moof → too_many n bs ≡ []
unfolding too_many
few_enough n [] few = refl
few_enough n (b ∷ bs) few =
    let sum = sum_by-cons (λ (b : Box). sample_count b.payload) b bs in
    rw (le-ltb most_in_moof (n + sample_count b.payload) (omega (arith, sum, few))) (few_enough (n + sample_count b.payload) bs (omega (arith, sum, few)))
