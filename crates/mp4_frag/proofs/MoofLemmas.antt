-- The box that the bytes of a moof are, and its fault.
use Rattle.std.proofs.Common.{◌≡◌, ◌∙◌, ℕ, List, [], ◌∷◌, ◌++◌, Option, Some, None, Ok, refl, sym, ap, subst}
use Rattle.std.specs.Prelude.{map, IfSome}
use Rattle.std.specs.List.{flat_map}
use Rattle.std.specs.Option.{option_or, unwrap_or}
use Rattle.mp4_box.specs.declared.rules.Fault.{Fault}
use Rattle.mp4_box.specs.Checks.{along}
use Rattle.mp4_box.specs.Order.{least, IsIn, IsLeast}
use Rattle.mp4_box.specs.Paths.{at_path, of_kind}
use Rattle.mp4_box.specs.Trees.{Box, box_at, children, tree_faults, verdict}
use Rattle.mp4_box.proofs.OrderLemmas.{least-is, least-none}
use Rattle.mp4_init.specs.declared.table.Track.{Track}
use Rattle.mp4_init.specs.Moovs.{fault_of, or_else}
use Rattle.mp4_traf.specs.Kinds.{traf, to_tfhd, to_trun}
use Rattle.mp4_frag.specs.Repeats.{repeat_faults}
use Rattle.mp4_frag.specs.Rules.{child_faults, count_faults, form_faults}
use Rattle.mp4_traf.specs.Rules.{tfhd_faults, trun_faults}
use Rattle.mp4_frag.specs.Moofs.{IsRead, fault_before_times, moof_fault, moof_faults, moof_of, no_box, moof_trafs, time_faults, value_faults}
use Rattle.mp4_traf.specs.TimeFaults.{time_faults_of}
use Rattle.mp4_traf.specs.Runs.{MoofBytes, traf_of, trafs_by}
use Rattle.mp4_traf.proofs.ChildLemmas.{on_path}

pub moof_is : (o : ℕ) (x : List ℕ) (b : Box) → box_at o x ≡ Some b → moof_of (record { bytes = x; offset = o }) ≡ b
moof_is o x b e = ap (λ (m : Option Box). unwrap_or m no_box) e

-- the trafs of a moof on their path, one by one
along_map : (h : MoofBytes) (tracks : List Track) (bs : List Box) → flat_map (λ (t : Box). time_faults_of (traf_of h tracks t)) bs ≡ time_faults (map (traf_of h tracks) bs)
along_map h tracks [] = refl
along_map h tracks (b ∷ bs) = ap (λ (fs : List Fault). time_faults_of (traf_of h tracks b) ++ fs) (along_map h tracks bs)

pub times_along : (h : MoofBytes) (tracks : List Track) (m : Box) → moof_of h ≡ m → flat_map (λ (t : Box). time_faults_of (traf_of h tracks t)) (at_path (traf ∷ []) m) ≡ time_faults (moof_trafs h tracks)
times_along h tracks m e =
    ap (λ (bs : List Box). flat_map (λ (t : Box). time_faults_of (traf_of h tracks t)) bs) (on_path m)
    ∙ along_map h tracks (of_kind traf (children m))
    ∙ ap (λ (b : Box). time_faults (trafs_by h tracks (children b))) (sym e)

-- ---- a moof without a fault

pub both_none : (a b : Option Fault) → option_or a b ≡ None → (a ≡ None) × (b ≡ None)
both_none None b e = (refl, e)
both_none (Some f) b e = absurd cc

pub last_none : (fs bs : List Fault) → fs ++ bs ≡ [] → (fs ≡ []) × (bs ≡ [])
last_none [] bs e = (refl, e)
last_none (f ∷ fs) bs e = absurd cc

verdict_none : (fs : List Fault) → fault_of (verdict fs) ≡ None → fs ≡ []
verdict_none [] e = refl
verdict_none (f ∷ fs) e = absurd cc

-- what is known where all rules but that of times hold
pub record Early (h : MoofBytes) (tracks : List Track) : Type 0 where
  pub tree : tree_faults h.offset h.bytes ≡ []
  pub form : form_faults (moof_of h) ≡ []
  pub value : value_faults tracks (moof_of h) ≡ []

pub early : (h : MoofBytes) (tracks : List Track) → fault_before_times h tracks ≡ None → Early h tracks
unfolding fault_before_times
early h tracks e =
    let a = both_none (fault_of (verdict (tree_faults h.offset h.bytes))) (option_or (least (form_faults (moof_of h))) (least (value_faults tracks (moof_of h)))) e in
    let b = both_none (least (form_faults (moof_of h))) (least (value_faults tracks (moof_of h))) a.1 in
    record {
      tree = verdict_none (tree_faults h.offset h.bytes) a.0;
      form = least-none (form_faults (moof_of h)) b.0;
      value = least-none (value_faults tracks (moof_of h)) b.1;
    }

-- the parts of the values
pub record Values (tracks : List Track) (m : Box) : Type 0 where
  pub children : child_faults m ≡ []
  pub repeats : repeat_faults m ≡ []
  pub tfhds : along (tfhd_faults tracks) to_tfhd m ≡ []
  pub truns : along trun_faults to_trun m ≡ []
  pub count : count_faults m ≡ []

pub values : (tracks : List Track) (m : Box) → value_faults tracks m ≡ [] → Values tracks m
unfolding value_faults
values tracks m e =
    let a = last_none (child_faults m ++ repeat_faults m ++ along (tfhd_faults tracks) to_tfhd m ++ along trun_faults to_trun m) (count_faults m) e in
    let b = last_none (child_faults m ++ repeat_faults m ++ along (tfhd_faults tracks) to_tfhd m) (along trun_faults to_trun m) a.0 in
    let c = last_none (child_faults m ++ repeat_faults m) (along (tfhd_faults tracks) to_tfhd m) b.0 in
    let d = last_none (child_faults m) (repeat_faults m) c.0 in
    record { children = d.0; repeats = d.1; tfhds = c.1; truns = b.1; count = a.1 }

pub count_none : (h : MoofBytes) (tracks : List Track) → fault_before_times h tracks ≡ None → count_faults (moof_of h) ≡ []
count_none h tracks e = (values tracks (moof_of h) (early h tracks e).value).count

pub read_in_time : (h : MoofBytes) (tracks : List Track) → fault_before_times h tracks ≡ None → least (time_faults (moof_trafs h tracks)) ≡ None → IsRead h tracks
read_in_time h tracks early times = rw (early, times) refl

pub read_early : (h : MoofBytes) (tracks : List Track) → IsRead h tracks → fault_before_times h tracks ≡ None
read_early h tracks e = (both_none (fault_before_times h tracks) (least (time_faults (moof_trafs h tracks))) e).0

pub read_times : (h : MoofBytes) (tracks : List Track) → IsRead h tracks → time_faults (moof_trafs h tracks) ≡ []
read_times h tracks e = least-none (time_faults (moof_trafs h tracks)) (both_none (fault_before_times h tracks) (least (time_faults (moof_trafs h tracks))) e).1

pub read_count : (h : MoofBytes) (tracks : List Track) → IsRead h tracks → count_faults (moof_of h) ≡ []
read_count h tracks e = count_none h tracks (read_early h tracks e)

-- ---- the least fault

empty : (f : Fault) → IsIn f [] → ⊥
unfolding IsIn
empty f e = e

or_least : (fs gs : List Fault) (f : Fault) → IsLeast f fs → IsLeast f (or_else fs gs)
or_least [] gs f l = absurd (empty f l.among)
or_least (g ∷ fs) gs f l = l

-- the least of the first list, or else of the others
then_least : (fs gs : List Fault) (rest : Option Fault) (f : Fault) → (rest ≡ Some f → IsLeast f gs) → option_or (least fs) rest ≡ Some f → IsLeast f (or_else fs gs)
then_least fs gs rest f later e = by (least fs) refl e
  where
    by : (o : Option Fault) → least fs ≡ o → option_or o rest ≡ Some f → IsLeast f (or_else fs gs)
    by None none e = subst (λ (xs : List Fault). IsLeast f (or_else xs gs)) (sym (least-none fs none)) (later e)
    by (Some g) some e = or_least fs gs f (least-is fs f (some ∙ e))

content_least : (tracks : List Track) (m : Box) (times : List Fault) (f : Fault) → option_or (least (form_faults m)) (option_or (least (value_faults tracks m)) (least times)) ≡ Some f
    → IsLeast f (or_else (form_faults m) (or_else (value_faults tracks m) times))
content_least tracks m times f e =
    then_least (form_faults m) (or_else (value_faults tracks m) times) (option_or (least (value_faults tracks m)) (least times)) f
    (λ (e : option_or (least (value_faults tracks m)) (least times) ≡ Some f). then_least (value_faults tracks m) times (least times) f (λ (e : least times ≡ Some f). least-is times f e) e) e

or-assoc : (a b c : Option Fault) → option_or (option_or a b) c ≡ option_or a (option_or b c)
or-assoc None b c = refl
or-assoc (Some a) b c = refl

-- where the tree is good the fault is the least of the content
pub sound_least : (h : MoofBytes) (tracks : List Track) (f : Fault) → tree_faults h.offset h.bytes ≡ [] → moof_fault h tracks ≡ Some f → IsLeast f (moof_faults h tracks)
unfolding fault_before_times
sound_least h tracks f none e =
    let m = moof_of h in
    let times = time_faults (moof_trafs h tracks) in
    let content : option_or (least (form_faults m)) (option_or (least (value_faults tracks m)) (least times)) ≡ Some f =
    sym (or-assoc (least (form_faults m)) (least (value_faults tracks m)) (least times))
    ∙ ap (λ (fs : List Fault). option_or (option_or (fault_of (verdict fs)) (option_or (least (form_faults m)) (least (value_faults tracks m)))) (least times)) (sym none) ∙ e in
    subst (λ (fs : List Fault). IsLeast f (or_else fs (or_else (form_faults m) (or_else (value_faults tracks m) times)))) (sym none) (content_least tracks m times f content)

-- else it is the least of the tree
pub tree_least : (h : MoofBytes) (tracks : List Track) (f : Fault) → IsLeast f (tree_faults h.offset h.bytes) → IsLeast f (moof_faults h tracks)
tree_least h tracks f l = or_least (tree_faults h.offset h.bytes) (or_else (form_faults (moof_of h)) (or_else (value_faults tracks (moof_of h)) (time_faults (moof_trafs h tracks)))) f l

verdict_ok : (fs : List Fault) → verdict fs ≡ Ok tt → fs ≡ []
verdict_ok [] e = refl
verdict_ok (f ∷ fs) e = absurd cc

pub early_least : (h : MoofBytes) (tracks : List Track) (f : Fault) → verdict (tree_faults h.offset h.bytes) ≡ Ok tt → fault_before_times h tracks ≡ Some f → IsLeast f (moof_faults h tracks)
early_least h tracks f good e = sound_least h tracks f (verdict_ok (tree_faults h.offset h.bytes) good) (ap (λ (o : Option Fault). option_or o (least (time_faults (moof_trafs h tracks)))) e)

pub late_least : (h : MoofBytes) (tracks : List Track) (f : Fault) → fault_before_times h tracks ≡ None → least (time_faults (moof_trafs h tracks)) ≡ Some f → IsLeast f (moof_faults h tracks)
late_least h tracks f none e = sound_least h tracks f (early h tracks none).tree (ap (λ (o : Option Fault). option_or o (least (time_faults (moof_trafs h tracks)))) none ∙ e)

pub early_is : (h : MoofBytes) (tracks : List Track) (m : Box) (o : Option Fault) → moof_of h ≡ m → verdict (tree_faults h.offset h.bytes) ≡ Ok tt → o ≡ option_or (least (form_faults m)) (least (value_faults tracks m)) → o ≡ fault_before_times h tracks
unfolding fault_before_times
early_is h tracks m o is good e =
    e
    ∙ ap (λ (b : Box). option_or (least (form_faults b)) (least (value_faults tracks b))) (sym is)
    ∙ ap (λ (fs : List Fault). option_or (fault_of (verdict fs)) (option_or (least (form_faults (moof_of h))) (least (value_faults tracks (moof_of h))))) (sym (verdict_ok (tree_faults h.offset h.bytes) good))

pub content_fault_least : (h : MoofBytes) (tracks : List Track) (m : Box) (o : Option Fault) → moof_of h ≡ m → verdict (tree_faults h.offset h.bytes) ≡ Ok tt → o ≡ option_or (least (form_faults m)) (least (value_faults tracks m))
    → IfSome o (λ f. IsLeast f (moof_faults h tracks))
content_fault_least h tracks m None is good e = tt
content_fault_least h tracks m (Some f) is good e = early_least h tracks f good (sym (early_is h tracks m (Some f) is good e))

pub nothing_at_fault : (h : MoofBytes) (tracks : List Track) → IsRead h tracks → moof_faults h tracks ≡ []
nothing_at_fault h tracks e =
    let none = early h tracks (read_early h tracks e) in
    let times = time_faults (moof_trafs h tracks) in
    ap (λ (fs : List Fault). or_else fs (or_else (form_faults (moof_of h)) (or_else (value_faults tracks (moof_of h)) times))) none.tree
    ∙ ap (λ (fs : List Fault). or_else fs (or_else (value_faults tracks (moof_of h)) times)) none.form
    ∙ ap (λ (fs : List Fault). or_else fs times) none.value
    ∙ read_times h tracks e
