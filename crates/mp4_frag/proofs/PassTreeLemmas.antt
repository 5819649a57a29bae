-- Where one pass over a moof finds nothing, its tree is good.
use Rattle.std.proofs.Common.{◌≡◌, ◌∙◌, ◌-◌, ◌<◌, ℕ, Bool, true, false, cond, not, List, [], ◌∷◌, ◌++◌, length, Option, Some, None, refl, sym, ap, arith}
use Rattle.std.specs.Prelude.{◌&&◌, ◌||◌, Ok}
use Rattle.std.specs.Option.{option_or}
use Rattle.std.specs.List.{AllByRecursion, flat_map, list_all, sum_by}
use Rattle.std.proofs.lemmas.Bool.Decides.{Decides-eqb}
use Rattle.std.proofs.lemmas.Slice.Eq.{bytes_eq-Decides}
use Rattle.mp4_box.specs.declared.headers.FourCc.{FourCc}
use Rattle.mp4_box.specs.declared.rules.Fault.{Fault}
use Rattle.mp4_box.specs.declared.rules.Rule.TheVariants.{Unsupported}
use Rattle.mp4_box.specs.Order.{IsLeast, least, least_from}
use Rattle.mp4_box.specs.Paths.{of_kind}
use Rattle.mp4_box.specs.Trees.{Box, bad_below, bad_rest, box_at, box_faults, box_len, children, deep_below, faults_of, is_container, payload_offset, tree_faults, verdict}
use Rattle.mp4_box.proofs.FilledLemmas.{over-each, over-filled}
use Rattle.mp4_box.proofs.OrderLemmas.{least-none}
use Rattle.mp4_box.proofs.TreeLemmas.{bad-leaf, bad-step, deep-leaf, deep-step}
use Rattle.mp4_init.specs.declared.table.Track.{Track}
use Rattle.mp4_frag.specs.Implementation.AtOnce.{by_moof, faults_in_moof, faults_in_traf, has_heads, is_complete, is_filled, passed_over}
use Rattle.mp4_traf.specs.Kinds.{is_kind, mfhd, traf, tfhd, tfdt, trun, free, skip}
use Rattle.mp4_frag.specs.Moofs.{fault_before_times, moof_faults, moof_of, value_faults}
use Rattle.mp4_frag.specs.Repeats.{repeat_faults}
use Rattle.mp4_frag.specs.Rules.{count_faults, form_faults}
use Rattle.mp4_traf.specs.Rules.{fault_if, is_among}
use Rattle.mp4_traf.specs.Runs.{MoofBytes}
use Rattle.mp4_frag.proofs.AtOnceLemmas.{Passed, both_true, complete_first, each_none, supported_in_traf, traf_is}
use Rattle.mp4_frag.proofs.EarlyLemmas.{none_least, values_count}
use Rattle.mp4_frag.proofs.MoofLemmas.{early_is, early_least, last_none}

-- ---- boxes that hold no boxes

leaf_kind : (b : Box) (kind : FourCc) → is_container kind.0 ≡ false → is_kind kind b ≡ true → is_container b.header.kind.0 ≡ false
leaf_kind b kind leaf is = ap is_container ((bytes_eq-Decides b.header.kind.0 kind.0).0 is) ∙ leaf

leaf_among : (b : Box) (kinds : List FourCc) → AllByRecursion (λ k. is_container k.0 ≡ false) kinds → is_among kinds b ≡ true → is_container b.header.kind.0 ≡ false
leaf_among b [] leaves e = absurd cc
leaf_among b (k ∷ ks) leaves e = by (is_kind k b) refl e (leaf_among b ks leaves.1)
  where
    by : (u : Bool) → is_kind k b ≡ u → u || is_among ks b ≡ true → (is_among ks b ≡ true → is_container b.header.kind.0 ≡ false) → is_container b.header.kind.0 ≡ false
    by true is e later = leaf_kind b k leaves.0 is
    by false is e later = later e

none_if : (u : Bool) (b : Box) → fault_if (not u) Unsupported b ≡ [] → u ≡ true
none_if true b e = refl
none_if false b e = absurd cc

leaf_in_traf : (tracks : List Track) (b : Box) → faults_in_traf tracks b ≡ [] → is_container b.header.kind.0 ≡ false
unfolding is_container
leaf_in_traf tracks b e =
    leaf_among b (tfhd ∷ tfdt ∷ trun ∷ free ∷ skip ∷ []) (refl, (refl, (refl, (refl, (refl, tt)))))
    (none_if (is_among (tfhd ∷ tfdt ∷ trun ∷ free ∷ skip ∷ []) b) b (supported_in_traf tracks b e))

in_moof_by : (tracks : List Track) (b : Box) (m f s : Bool) → by_moof tracks b false m (passed_over f s b) ≡ [] → m || (f || (s || false)) ≡ true
in_moof_by tracks b true f s e = refl
in_moof_by tracks b false true s e = refl
in_moof_by tracks b false false true e = refl
in_moof_by tracks b false false false e = absurd cc

leaf_in_moof : (tracks : List Track) (b : Box) → is_kind traf b ≡ false → faults_in_moof tracks b ≡ [] → is_container b.header.kind.0 ≡ false
unfolding is_container faults_in_moof
leaf_in_moof tracks b other e =
    leaf_among b (mfhd ∷ free ∷ skip ∷ []) (refl, (refl, (refl, tt)))
    (in_moof_by tracks b (is_kind mfhd b) (is_kind free b) (is_kind skip b) (ap (λ (u : Bool). by_moof tracks b u (is_kind mfhd b) (passed_over (is_kind free b) (is_kind skip b) b)) (sym other) ∙ e))

-- ---- below a box whose boxes take all of it

filled : (b : Box) → is_filled b ≡ true → sum_by box_len (children b) ≡ length b.payload
filled b e = (Decides-eqb (sum_by box_len (children b)) (length b.payload)).0 e

bad_none : (n : ℕ) (b : Box) → 0 < n → is_filled b ≡ true → flat_map (bad_below (n - 1)) (children b) ≡ [] → bad_below n b ≡ []
bad_none n b some all none = by (is_container b.header.kind.0) refl
  where
    by : (u : Bool) → is_container b.header.kind.0 ≡ u → bad_below n b ≡ []
    by true is = bad-step n b some is ∙ over-filled (bad_below (n - 1)) bad_rest (payload_offset b) b.payload (filled b all) ∙ none
    by false is = bad-leaf n b is

deep_none : (n : ℕ) (b : Box) → 0 < n → flat_map (deep_below (n - 1)) (children b) ≡ [] → deep_below n b ≡ []
deep_none n b some none = by (is_container b.header.kind.0) refl
  where
    by : (u : Bool) → is_container b.header.kind.0 ≡ u → deep_below n b ≡ []
    by true is = deep-step n b some is ∙ over-each (deep_below (n - 1)) (payload_offset b) b.payload ∙ none
    by false is = deep-leaf n b some is

-- ---- in a moof

-- what is asked of each child
each_child : (tracks : List Track) (g : Box → List Fault) → ((b : Box) → faults_in_moof tracks b ≡ [] → list_all is_complete (of_kind traf (b ∷ [])) ≡ true → g b ≡ [])
    → (bs : List Box) → flat_map (faults_in_moof tracks) bs ≡ [] → list_all is_complete (of_kind traf bs) ≡ true → flat_map g bs ≡ []
each_child tracks g h [] none all = refl
each_child tracks g h (b ∷ bs) none all =
    let parts = last_none (faults_in_moof tracks b) (flat_map (faults_in_moof tracks) bs) none in
    let both = both_true (list_all is_complete (of_kind traf (b ∷ []))) (list_all is_complete (of_kind traf bs)) (sym (complete_first b bs) ∙ all) in
    ap (λ (fs : List Fault). fs ++ flat_map g bs) (h b parts.0 both.0) ∙ each_child tracks g h bs parts.1 both.1

one_complete : (b : Box) → is_kind traf b ≡ true → list_all is_complete (of_kind traf (b ∷ [])) ≡ true → is_complete b ≡ true
one_complete b is e = (both_true (is_complete b) true (by (is_kind traf b) is e)).0
  where
    by : (u : Bool) → u ≡ true → list_all is_complete (cond u (b ∷ []) []) ≡ true → is_complete b && true ≡ true
    by true is e = e
    by false is e = absurd cc

bad_child : (tracks : List Track) (b : Box) → faults_in_moof tracks b ≡ [] → list_all is_complete (of_kind traf (b ∷ [])) ≡ true → bad_below 7 b ≡ []
bad_child tracks b none all = by (is_kind traf b) refl
  where
    by : (u : Bool) → is_kind traf b ≡ u → bad_below 7 b ≡ []
    by true is =
        bad_none 7 b (omega arith) (both_true (has_heads b) (is_filled b) (one_complete b is all)).1
        (each_none (faults_in_traf tracks) (bad_below 6) (λ c e. bad-leaf 6 c (leaf_in_traf tracks c e)) (children b) (traf_is tracks b is none))
    by false is = bad-leaf 7 b (leaf_in_moof tracks b is none)

deep_child : (tracks : List Track) (b : Box) → faults_in_moof tracks b ≡ [] → deep_below 7 b ≡ []
deep_child tracks b none = by (is_kind traf b) refl
  where
    by : (u : Bool) → is_kind traf b ≡ u → deep_below 7 b ≡ []
    by true is =
        deep_none 7 b (omega arith)
        (each_none (faults_in_traf tracks) (deep_below 6) (λ c e. deep-leaf 6 c (omega arith) (leaf_in_traf tracks c e)) (children b) (traf_is tracks b is none))
    by false is = deep-leaf 7 b (omega arith) (leaf_in_moof tracks b is none)

pub no_tree : (tracks : List Track) (m : Box) → Passed tracks m → box_faults m ≡ []
no_tree tracks m p =
    let bad = bad_none 8 m (omega arith) p.complete.filled (each_child tracks (bad_below 7) (bad_child tracks) (children m) p.none p.complete.trafs) in
    let deep = deep_none 8 m (omega arith) (each_none (faults_in_moof tracks) (deep_below 7) (deep_child tracks) (children m) p.none) in
    ap (λ (fs : List Fault). fs ++ deep_below 8 m) bad ∙ deep

-- ---- so it has no early fault, but for its values

-- the findings where only its values may be at fault
content_is : (fs gs : List Fault) (o : Option Fault) → fs ≡ [] → o ≡ least gs → o ≡ option_or (least fs) (least gs)
unfolding least_from
content_is fs gs o none is = rw none is

module _ (h : MoofBytes) (tracks : List Track) (m : Box) (here : box_at h.offset h.bytes ≡ Some m) (is : moof_of h ≡ m) (tree : box_faults m ≡ []) (forms : form_faults m ≡ []) where
  tree_ok : verdict (tree_faults h.offset h.bytes) ≡ Ok tt
  tree_ok = ap verdict (ap faults_of here ∙ tree)

  values_early : (o : Option Fault) → o ≡ least (value_faults tracks m) → o ≡ fault_before_times h tracks
  values_early o values = early_is h tracks m o is tree_ok (content_is (form_faults m) (value_faults tracks m) o forms values)

  pub none_early : value_faults tracks m ≡ [] → None ≡ fault_before_times h tracks
  none_early values = values_early None (none_least (value_faults tracks m) values)

  -- where a repeat is all that may be at fault with its values
  module _ (only : value_faults tracks m ≡ repeat_faults m) where
    repeats_are : (o : Option Fault) → o ≡ least (repeat_faults (moof_of h)) → o ≡ least (value_faults tracks m)
    repeats_are o e = e ∙ ap (λ (b : Box). least (repeat_faults b)) is ∙ ap least (sym only)

    pub repeats_early : (o : Option Fault) → o ≡ least (repeat_faults (moof_of h)) → o ≡ fault_before_times h tracks
    repeats_early o e = values_early o (repeats_are o e)

    pub repeats_least : (f : Fault) → Some f ≡ least (repeat_faults (moof_of h)) → IsLeast f (moof_faults h tracks)
    repeats_least f e = early_least h tracks f tree_ok (sym (repeats_early (Some f) e))

    pub repeats_count : None ≡ least (repeat_faults (moof_of h)) → count_faults m ≡ []
    repeats_count e = values_count tracks m (least-none (value_faults tracks m) (sym (repeats_are None e)))
