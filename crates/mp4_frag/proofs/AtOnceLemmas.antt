-- Where one pass over a moof finds nothing, nothing is at fault with its boxes and their values.
use Rattle.std.proofs.Common.{◌≡◌, ◌≢◌, ◌∙◌, Bool, true, false, cond, not, ℕ, zero, suc, List, [], ◌∷◌, ◌++◌, length, Option, Some, None, refl, sym, ap, arith, append-nil}
use Rattle.std.specs.Prelude.{◌==◌, ◌&&◌, ◌||◌, nat_lt}
use Rattle.std.specs.List.{AllByRecursion, flat_map, list_all, list_any}
use Rattle.std.specs.Option.{is_none, is_some}
use Rattle.std.proofs.lemmas.Bool.Decides.{nat_tests}
use Rattle.std.proofs.lemmas.Grind.{flat_map-append}
use Rattle.mp4_box.specs.declared.headers.FourCc.{FourCc}
use Rattle.mp4_box.specs.declared.rules.Fault.{Fault}
use Rattle.mp4_box.specs.declared.rules.Rule.TheVariants.{Unsupported}
use Rattle.mp4_box.specs.declared.checks.Layout.TheVariants.{Exactly}
use Rattle.mp4_box.specs.Checks.{along, alone, at_most_one, further, laid_out, one}
use Rattle.mp4_box.specs.Order.{least_from}
use Rattle.mp4_box.proofs.OrderLemmas.{least-none}
use Rattle.mp4_box.specs.Paths.{at_path, of_kind}
use Rattle.mp4_box.specs.Trees.{Box, children, first_of}
use Rattle.mp4_init.specs.declared.table.Track.{Track}
use Rattle.mp4_traf.specs.Implementation.Heads.{HasTicks}
use Rattle.mp4_frag.specs.Implementation.AtOnce.{IsComplete, IsCount, by_moof, by_traf, faults_in_moof, faults_in_traf, has_few, has_heads, has_one, is_complete, is_filled, most_64, passed_over}
use Rattle.mp4_traf.specs.Kinds.{is_kind, mfhd, traf, tfhd, tfdt, trun, free, skip}
use Rattle.mp4_frag.specs.Mfhd.{mfhd_len}
use Rattle.mp4_frag.specs.Moofs.{value_faults}
use Rattle.mp4_frag.specs.Repeats.{lacks_time, repeat_faults, untimed_ids}
use Rattle.mp4_frag.specs.Rules.{child_faults, count_faults, form_faults}
use Rattle.mp4_traf.specs.Rules.{fault_if, holds_only, tfhd_faults, tfhd_length, trun_faults, trun_length, unsupported}
use Rattle.mp4_traf.specs.Tfdt.{tfdt_layout}
use Rattle.mp4_frag.proofs.MoofLemmas.{last_none}
use Rattle.mp4_traf.proofs.ChildLemmas.{path_kind, no_other}
use Rattle.mp4_frag.proofs.PassLemmas.{none_lacks}

and_true : (a x : Bool) → (a && x) ≡ ((a && true) && x)
and_true true x = refl
and_true false x = refl

pub both_true : (a b : Bool) → a && b ≡ true → (a ≡ true) × (b ≡ true)
both_true true b e = (refl, e)
both_true false b e = absurd cc

true_both : (a b : Bool) → a ≡ true → b ≡ true → a && b ≡ true
true_both a b e f = ap (λ (u : Bool). u && b) e ∙ f

-- the first child, and then the others
pub complete_first : (b : Box) (bs : List Box) → list_all is_complete (of_kind traf (b ∷ bs)) ≡ (list_all is_complete (of_kind traf (b ∷ [])) && list_all is_complete (of_kind traf bs))
complete_first b bs = by (is_kind traf b) refl
  where
    by : (u : Bool) → is_kind traf b ≡ u → list_all is_complete (of_kind traf (b ∷ bs)) ≡ (list_all is_complete (of_kind traf (b ∷ [])) && list_all is_complete (of_kind traf bs))
    by true is = rw is (and_true (is_complete b) (list_all is_complete (of_kind traf bs)))
    by false is = rw is refl

pub complete_more : (b : Box) (bs : List Box) → list_all is_complete (of_kind traf (b ∷ [])) ≡ true → list_all is_complete (of_kind traf bs) ≡ true → list_all is_complete (of_kind traf (b ∷ bs)) ≡ true
complete_more b bs here rest = complete_first b bs ∙ true_both (list_all is_complete (of_kind traf (b ∷ []))) (list_all is_complete (of_kind traf bs)) here rest

-- ---- default durations

pub ticks_first : (tracks : List Track) (b : Box) (bs : List Box) → (is_kind tfhd b ≡ true → HasTicks tracks b) → AllByRecursion (HasTicks tracks) (of_kind tfhd bs) → AllByRecursion (HasTicks tracks) (of_kind tfhd (b ∷ bs))
ticks_first tracks b bs here rest = by (is_kind tfhd b) refl
  where
    by : (u : Bool) → is_kind tfhd b ≡ u → AllByRecursion (HasTicks tracks) (of_kind tfhd (b ∷ bs))
    by true is = rw is (here is, rest)
    by false is = rw is rest

pub trafs_first : (P : Box → Type 0) (b : Box) (bs : List Box) → AllByRecursion P (of_kind traf (b ∷ [])) → AllByRecursion P (of_kind traf bs) → AllByRecursion P (of_kind traf (b ∷ bs))
trafs_first P b bs here rest = by (is_kind traf b) refl here
  where
    by : (u : Bool) → is_kind traf b ≡ u → AllByRecursion P (of_kind traf (b ∷ [])) → AllByRecursion P (of_kind traf (b ∷ bs))
    by true is here = let one = rw is at here in rw is (one.0, rest)
    by false is here = rw is rest

-- ---- of lists in which nothing is at fault

-- what is asked of each
pub each_none : (f g : Box → List Fault) → ((b : Box) → f b ≡ [] → g b ≡ []) → (bs : List Box) → flat_map f bs ≡ [] → flat_map g bs ≡ []
each_none f g h [] e = refl
each_none f g h (b ∷ bs) e =
    let parts = last_none (f b) (flat_map f bs) e in
    ap (λ (fs : List Fault). fs ++ flat_map g bs) (h b parts.0) ∙ each_none f g h bs parts.1

-- what is asked of those of a type
kind_none : (f g : Box → List Fault) (kind : FourCc) → ((b : Box) → is_kind kind b ≡ true → f b ≡ [] → g b ≡ []) → (bs : List Box) → flat_map f bs ≡ [] → flat_map g (of_kind kind bs) ≡ []
kind_none f g kind h [] e = refl
kind_none f g kind h (b ∷ bs) e = let parts = last_none (f b) (flat_map f bs) e in by (is_kind kind b) refl parts.0 (kind_none f g kind h bs parts.1)
  where
    by : (u : Bool) → is_kind kind b ≡ u → f b ≡ [] → flat_map g (of_kind kind bs) ≡ [] → flat_map g (of_kind kind (b ∷ bs)) ≡ []
    by true is none rest = rw is (ap (λ (fs : List Fault). fs ++ flat_map g (of_kind kind bs)) (h b is none) ∙ rest)
    by false is none rest = rw is rest

-- ---- of a child of a traf

trun_is : (tracks : List Track) (b : Box) → is_kind trun b ≡ true → faults_in_traf tracks b ≡ [] → (trun_length b ≡ []) × (trun_faults b ≡ [])
unfolding faults_in_traf
trun_is tracks b is e =
    last_none (trun_length b) (trun_faults b) (ap (λ (u : Bool). by_traf tracks b u (is_kind tfhd b) (is_kind tfdt b) (passed_over (is_kind free b) (is_kind skip b) b)) (sym is) ∙ e)

tfhd_is : (tracks : List Track) (b : Box) → is_kind tfhd b ≡ true → faults_in_traf tracks b ≡ [] → (tfhd_length b ≡ []) × (tfhd_faults tracks b ≡ [])
unfolding faults_in_traf
tfhd_is tracks b is e =
    let others = passed_over (is_kind free b) (is_kind skip b) b in
    last_none (tfhd_length b) (tfhd_faults tracks b)
    (ap (λ (u : Bool). by_traf tracks b false u (is_kind tfdt b) others) (sym is)
    ∙ ap (λ (u : Bool). by_traf tracks b u (is_kind tfhd b) (is_kind tfdt b) others) (sym (no_other b tfhd trun refl is))
    ∙ e)

tfdt_is : (tracks : List Track) (b : Box) → is_kind tfdt b ≡ true → faults_in_traf tracks b ≡ [] → laid_out tfdt_layout b ≡ []
unfolding faults_in_traf
tfdt_is tracks b is e =
    let others = passed_over (is_kind free b) (is_kind skip b) b in
    ap (λ (u : Bool). by_traf tracks b false false u others) (sym is)
    ∙ ap (λ (u : Bool). by_traf tracks b false u (is_kind tfdt b) others) (sym (no_other b tfdt tfhd refl is))
    ∙ ap (λ (u : Bool). by_traf tracks b u (is_kind tfhd b) (is_kind tfdt b) others) (sym (no_other b tfdt trun refl is))
    ∙ e

-- a type that is passed over is one of those that may be there
in_traf_by : (tracks : List Track) (b : Box) (r h d f s : Bool) → by_traf tracks b r h d (passed_over f s b) ≡ [] → fault_if (not (h || (d || (r || (f || (s || false)))))) Unsupported b ≡ []
in_traf_by tracks b true true d f s e = refl
in_traf_by tracks b true false true f s e = refl
in_traf_by tracks b true false false f s e = refl
in_traf_by tracks b false true d f s e = refl
in_traf_by tracks b false false true f s e = refl
in_traf_by tracks b false false false true s e = refl
in_traf_by tracks b false false false false true e = refl
in_traf_by tracks b false false false false false e = absurd cc

pub supported_in_traf : (tracks : List Track) (b : Box) → faults_in_traf tracks b ≡ [] → unsupported (tfhd ∷ tfdt ∷ trun ∷ free ∷ skip ∷ []) b ≡ []
unfolding faults_in_traf
supported_in_traf tracks b e = in_traf_by tracks b (is_kind trun b) (is_kind tfhd b) (is_kind tfdt b) (is_kind free b) (is_kind skip b) e

-- ---- of a child of a moof

pub traf_is : (tracks : List Track) (b : Box) → is_kind traf b ≡ true → faults_in_moof tracks b ≡ [] → flat_map (faults_in_traf tracks) (children b) ≡ []
unfolding faults_in_moof
traf_is tracks b is e = ap (λ (u : Bool). by_moof tracks b u (is_kind mfhd b) (passed_over (is_kind free b) (is_kind skip b) b)) (sym is) ∙ e

mfhd_is : (tracks : List Track) (b : Box) → is_kind mfhd b ≡ true → faults_in_moof tracks b ≡ [] → laid_out (Exactly mfhd_len) b ≡ []
unfolding faults_in_moof
mfhd_is tracks b is e =
    let others = passed_over (is_kind free b) (is_kind skip b) b in
    ap (λ (u : Bool). by_moof tracks b false u others) (sym is) ∙ ap (λ (u : Bool). by_moof tracks b u (is_kind mfhd b) others) (sym (no_other b mfhd traf refl is)) ∙ e

in_moof_by : (tracks : List Track) (b : Box) (t m f s : Bool) → by_moof tracks b t m (passed_over f s b) ≡ [] → fault_if (not (m || (t || (f || (s || false))))) Unsupported b ≡ []
in_moof_by tracks b true true f s e = refl
in_moof_by tracks b true false f s e = refl
in_moof_by tracks b false true f s e = refl
in_moof_by tracks b false false true s e = refl
in_moof_by tracks b false false false true e = refl
in_moof_by tracks b false false false false e = absurd cc

supported_in_moof : (tracks : List Track) (b : Box) → faults_in_moof tracks b ≡ [] → unsupported (mfhd ∷ traf ∷ free ∷ skip ∷ []) b ≡ []
unfolding faults_in_moof
supported_in_moof tracks b e = in_moof_by tracks b (is_kind traf b) (is_kind mfhd b) (is_kind free b) (is_kind skip b) e

-- ---- one child of a type

alone_none : (parent : Box) (bs : List Box) → (length bs == 1) ≡ true → alone parent bs ≡ []
alone_none parent [] e = grind (arith, nat_tests)
alone_none parent (b ∷ []) e = refl
alone_none parent (b ∷ (c ∷ bs)) e = grind (arith, nat_tests)

further_none : (bs : List Box) → nat_lt (length bs) 2 ≡ true → further bs ≡ []
further_none [] e = refl
further_none (b ∷ []) e = refl
further_none (b ∷ (c ∷ bs)) e = grind (arith, nat_tests)

one_each : (ts : List Box) → list_all has_heads ts ≡ true → flat_map (one tfhd) ts ≡ []
one_each [] e = refl
one_each (t ∷ ts) e =
    let parts = both_true (has_heads t) (list_all has_heads ts) e in
    ap (λ (fs : List Fault). fs ++ flat_map (one tfhd) ts) (alone_none t (of_kind tfhd (children t)) (both_true (has_one tfhd t) (has_few tfdt t) parts.0).0) ∙ one_each ts parts.1

at_most_one_each : (ts : List Box) → list_all has_heads ts ≡ true → flat_map (at_most_one tfdt) ts ≡ []
at_most_one_each [] e = refl
at_most_one_each (t ∷ ts) e =
    let parts = both_true (has_heads t) (list_all has_heads ts) e in
    ap (λ (fs : List Fault). fs ++ flat_map (at_most_one tfdt) ts) (further_none (of_kind tfdt (children t)) (both_true (has_one tfhd t) (has_few tfdt t) parts.0).1) ∙ at_most_one_each ts parts.1

-- ---- trafs with a tfdt

some_first : (bs : List Box) → length bs ≢ 0 → is_none (first_of bs) ≡ false
some_first [] some = absurd (some refl)
some_first (b ∷ bs) some = refl

pub has_time : (t : Box) → length (of_kind tfdt (children t)) ≢ 0 → lacks_time t ≡ false
unfolding lacks_time
has_time t some = ap (λ (bs : List Box). is_none (first_of bs)) (path_kind tfdt t) ∙ some_first (of_kind tfdt (children t)) some

none_first : (bs : List Box) → length bs ≡ 0 → is_none (first_of bs) ≡ true
none_first [] e = refl
none_first (b ∷ bs) e = absurd (omega (arith, e))

has_no_time : (t : Box) → length (of_kind tfdt (children t)) ≡ 0 → lacks_time t ≡ true
unfolding lacks_time
has_no_time t none = ap (λ (bs : List Box). is_none (first_of bs)) (path_kind tfdt t) ∙ none_first (of_kind tfdt (children t)) none

-- a traf is counted among those without a tfdt where it has none
untimed_where : (t : Box) (u : Bool) → lacks_time t ≡ u → length (untimed_ids (t ∷ [])) ≡ cond u 1 0
unfolding untimed_ids
untimed_where t true is = rw is refl
untimed_where t false is = rw is refl

pub untimed_one : (t : Box) (n old new : ℕ) → n ≡ length (of_kind tfdt (children t)) → (n ≡ 0 → IsCount most_64 old 1 new) → (n ≢ 0 → new ≡ old) → IsCount most_64 old (length (untimed_ids (t ∷ []))) new
untimed_one t zero old new e none some = λ small.
    let one : length (untimed_ids (t ∷ [])) ≡ 1 = untimed_where t true (has_no_time t (sym e)) in
    omega (arith, one, none refl small)
untimed_one t (suc n) old new e none some = λ small.
    let same : new ≡ old = some (λ z. absurd (omega (arith, z))) in
    let nothing : length (untimed_ids (t ∷ [])) ≡ 0 = untimed_where t false (has_time t (λ z. absurd (omega (arith, e, z)))) in
    omega (arith, same, nothing)

-- ---- along the paths of a moof

flat_map_twice : (f : Box → List Fault) (g : Box → List Box) (xs : List Box) → flat_map f (flat_map g xs) ≡ flat_map (λ x. flat_map f (g x)) xs
flat_map_twice f g [] = refl
flat_map_twice f g (x ∷ xs) = flat_map-append f (g x) (flat_map g xs) ∙ ap (λ (zs : List Fault). flat_map f (g x) ++ zs) (flat_map_twice f g xs)

module _ (tracks : List Track) (m : Box) (none : flat_map (faults_in_moof tracks) (children m) ≡ []) where
  -- what is asked of each traf
  trafs_none : (g : Box → List Fault) → ((t : Box) → flat_map (faults_in_traf tracks) (children t) ≡ [] → g t ≡ []) → along g (traf ∷ []) m ≡ []
  trafs_none g h = ap (flat_map g) (path_kind traf m) ∙ kind_none (faults_in_moof tracks) g traf (λ t is e. h t (traf_is tracks t is e)) (children m) none

  -- what is asked of each child of a type of each traf
  below_none : (g : Box → List Fault) (kind : FourCc) → ((b : Box) → is_kind kind b ≡ true → faults_in_traf tracks b ≡ [] → g b ≡ []) → along g (traf ∷ kind ∷ []) m ≡ []
  unfolding at_path
  below_none g kind h =
      flat_map_twice g (at_path (kind ∷ [])) (of_kind traf (children m))
      ∙ kind_none (faults_in_moof tracks) (λ t. flat_map g (at_path (kind ∷ []) t)) traf
      (λ t is e. ap (flat_map g) (path_kind kind t) ∙ kind_none (faults_in_traf tracks) g kind h (children t) (traf_is tracks t is e)) (children m) none

  forms_none : has_one mfhd m ≡ true → list_all has_heads (of_kind traf (children m)) ≡ true → form_faults m ≡ []
  unfolding form_faults at_path
  forms_none mfhds both =
      rw (
        alone_none m (of_kind mfhd (children m)) mfhds,
        ap (flat_map (one tfhd)) (path_kind traf m) ∙ one_each (of_kind traf (children m)) both,
        ap (flat_map (at_most_one tfdt)) (path_kind traf m) ∙ at_most_one_each (of_kind traf (children m)) both,
        ap (flat_map (laid_out (Exactly mfhd_len))) (path_kind mfhd m) ∙ kind_none (faults_in_moof tracks) (laid_out (Exactly mfhd_len)) mfhd (λ b is e. mfhd_is tracks b is e) (children m) none,
        below_none tfhd_length tfhd (λ b is e. (tfhd_is tracks b is e).0),
        below_none (laid_out tfdt_layout) tfdt (λ b is e. tfdt_is tracks b is e),
        below_none trun_length trun (λ b is e. (trun_is tracks b is e).0),
      ) refl

  children_none : child_faults m ≡ []
  unfolding child_faults at_path
  children_none =
      rw (
        each_none (faults_in_moof tracks) (unsupported (mfhd ∷ traf ∷ free ∷ skip ∷ [])) (λ b e. supported_in_moof tracks b e) (children m) none,
        trafs_none (holds_only (tfhd ∷ tfdt ∷ trun ∷ free ∷ skip ∷ []))
            (λ t e. each_none (faults_in_traf tracks) (unsupported (tfhd ∷ tfdt ∷ trun ∷ free ∷ skip ∷ [])) (λ b e. supported_in_traf tracks b e) (children t) e),
      ) refl

  values_are : count_faults m ≡ [] → value_faults tracks m ≡ repeat_faults m
  unfolding value_faults
  values_are count =
      rw (
        children_none,
        below_none (tfhd_faults tracks) tfhd (λ b is e. (tfhd_is tracks b is e).1),
        below_none trun_faults trun (λ b is e. (trun_is tracks b is e).1),
        count,
      ) (simp append-nil)

-- ---- the findings of the pass

no_best : (best : Option Fault) → is_some best ≡ false → best ≡ None
no_best None e = refl
no_best (Some f) e = absurd cc

pub record Passed (tracks : List Track) (m : Box) : Type 0 where
  pub none : flat_map (faults_in_moof tracks) (children m) ≡ []
  pub complete : IsComplete m

pub passed : (tracks : List Track) (m : Box) (best : Option Fault) → best ≡ least_from None (flat_map (faults_in_moof tracks) (children m)) → is_some best ≡ false → IsComplete m → Passed tracks m
passed tracks m best e none complete = record { none = least-none (flat_map (faults_in_moof tracks) (children m)) (sym e ∙ no_best best none); complete = complete }

-- so each traf has its tfhd
each_heads : (ts : List Box) → list_all is_complete ts ≡ true → list_all has_heads ts ≡ true
each_heads [] e = refl
each_heads (t ∷ ts) e =
    let parts = both_true (is_complete t) (list_all is_complete ts) e in
    true_both (has_heads t) (list_all has_heads ts) (both_true (has_heads t) (is_filled t) parts.0).0 (each_heads ts parts.1)

pub passed_heads : (tracks : List Track) (m : Box) → Passed tracks m → list_all has_heads (of_kind traf (children m)) ≡ true
passed_heads tracks m p = each_heads (of_kind traf (children m)) p.complete.trafs

pub no_forms : (tracks : List Track) (m : Box) → Passed tracks m → form_faults m ≡ []
no_forms tracks m p = forms_none tracks m p.none p.complete.mfhds (passed_heads tracks m p)

pub only_repeats : (tracks : List Track) (m : Box) → Passed tracks m → count_faults m ≡ [] → value_faults tracks m ≡ repeat_faults m
only_repeats tracks m p count = values_are tracks m p.none count

pub no_values : (tracks : List Track) (m : Box) → Passed tracks m → list_any lacks_time (of_kind traf (children m)) ≡ false → count_faults m ≡ [] → value_faults tracks m ≡ []
no_values tracks m p timed count = only_repeats tracks m p count ∙ none_lacks [] (of_kind traf (children m)) timed
