-- A moof of the common layout in which nothing is at fault.
use Rattle.std.proofs.Common.{◌≡◌, ◌∙◌, ◌+◌, ◌≤◌, true, false, not, ℕ, drop, List, [], ◌∷◌, ◌++◌, length, Option, None, Some, append-nil, refl, sym, ap, arith}
use Rattle.std.specs.Prelude.{slice_range}
use Rattle.std.proofs.lemmas.List.{drop_all, length-drop}
use Rattle.std.proofs.lemmas.Slice.Eq.{bytes_eq-Decides}
use Rattle.std.specs.List.{flat_map, list_any, sum_by}
use Rattle.std.specs.Option.{is_some, option_or}
use Rattle.std.specs.Str.{bytes_eq}
use Rattle.std.proofs.lemmas.Bool.Decides.{Decides-eqb}
use Rattle.std.proofs.lemmas.List.Sums.{sum_by-cons}
use Rattle.mp4_box.specs.declared.headers.FourCc.{FourCc}
use Rattle.mp4_box.specs.declared.rules.Fault.{Fault}
use Rattle.mp4_box.specs.declared.checks.Layout.TheVariants.{Exactly}
use Rattle.mp4_box.specs.Checks.{laid_out}
use Rattle.mp4_box.specs.Order.{least, least_from}
use Rattle.mp4_box.specs.Paths.{at_path, of_kind}
use Rattle.mp4_box.specs.Headers.{kind_field, size_field, uuid}
use Rattle.mp4_box.specs.declared.headers.Size.TheVariants.{Exact}
use Rattle.mp4_box.specs.Trees.{Box, box_at, box_faults, box_len, boxes, children, payload_offset}
use Rattle.mp4_box.proofs.BoxLemmas.{plain_box, plain_is, short_none}
use Rattle.mp4_box.proofs.TreeLemmas.{boxes_end, boxes_more}
use Rattle.mp4_box.proofs.OrderLemmas.{least-none}
use Rattle.mp4_init.specs.declared.table.Track.{Track}
use Rattle.mp4_traf.specs.Implementation.Heads.{HasTicks}
use Rattle.mp4_frag.specs.Implementation.AtOnce.{IsComplete, IsEarly, faults_in_moof, faults_in_traf, is_complete, is_early, is_filled}
use Rattle.mp4_traf.specs.Kinds.{mfhd, tfdt, tfhd, to_trun, traf, trun}
use Rattle.mp4_frag.specs.Mfhd.{mfhd_len}
use Rattle.mp4_frag.specs.Moofs.{IsRead, moof_trafs, time_faults, value_faults}
use Rattle.mp4_frag.specs.Repeats.{lacks_time}
use Rattle.mp4_frag.specs.Rules.{count_faults, form_faults}
use Rattle.mp4_traf.specs.Rules.{most_in_moof, samples_in, tfhd_faults, tfhd_length, trun_faults, trun_length}
use Rattle.mp4_traf.specs.Runs.{MoofBytes}
use Rattle.mp4_traf.specs.Tfdt.{tfdt_layout}
use Rattle.mp4_traf.specs.Trun.{sample_count}
use Rattle.mp4_frag.specs.Implementation.CommonLayout.{HoldsThree, HoldsTwo, HasCommonLayout, common_faults}
use Rattle.mp4_frag.proofs.AddLemmas.{few_enough, moof_truns}
use Rattle.mp4_frag.proofs.AtOnceLemmas.{Passed, has_time, no_forms, no_values, passed_heads}
use Rattle.mp4_traf.proofs.ChildLemmas.{no_other}
use Rattle.mp4_frag.proofs.MoofLemmas.{last_none}
use Rattle.mp4_frag.proofs.EarlyLemmas.{early_in_time, none_untimed, trafs_start, values_count}
use Rattle.mp4_frag.proofs.MoofListLemmas.{IsMoof}
use Rattle.mp4_frag.proofs.PassTreeLemmas.{no_tree, none_early}

module _ (tracks : List Track) (m a t b c d : Box) (u : HasCommonLayout m a t b c d) where
  -- ---- its boxes by their types

  in_traf_b : faults_in_traf tracks b ≡ tfhd_length b ++ tfhd_faults tracks b
  unfolding faults_in_traf
  in_traf_b = rw (no_other b tfhd trun refl u.is_tfhd, u.is_tfhd) refl

  in_traf_c : faults_in_traf tracks c ≡ laid_out tfdt_layout c
  unfolding faults_in_traf
  in_traf_c = rw (no_other c tfdt trun refl u.is_tfdt, no_other c tfdt tfhd refl u.is_tfdt, u.is_tfdt) refl

  in_traf_d : faults_in_traf tracks d ≡ trun_length d ++ trun_faults d
  unfolding faults_in_traf
  in_traf_d = rw u.is_trun refl

  in_moof_a : faults_in_moof tracks a ≡ laid_out (Exactly mfhd_len) a
  unfolding faults_in_moof
  in_moof_a = rw (no_other a mfhd traf refl u.is_mfhd, u.is_mfhd) refl

  in_moof_t : faults_in_moof tracks t ≡ flat_map (faults_in_traf tracks) (children t)
  unfolding faults_in_moof
  in_moof_t = rw u.is_traf refl

  pub of_trafs : of_kind traf (children m) ≡ t ∷ []
  of_trafs = ap (of_kind traf) u.two.are ∙ rw (no_other a mfhd traf refl u.is_mfhd, u.is_traf) refl

  pub of_truns : of_kind trun (children t) ≡ d ∷ []
  of_truns = ap (of_kind trun) u.three.are ∙ rw (no_other b tfhd trun refl u.is_tfhd, no_other c tfdt trun refl u.is_tfdt, u.is_trun) refl

  of_tfhds : of_kind tfhd (children t) ≡ b ∷ []
  of_tfhds = ap (of_kind tfhd) u.three.are ∙ rw (no_other c tfdt tfhd refl u.is_tfdt, no_other d trun tfhd refl u.is_trun, u.is_tfhd) refl

  of_tfdts : of_kind tfdt (children t) ≡ c ∷ []
  of_tfdts = ap (of_kind tfdt) u.three.are ∙ rw (no_other b tfhd tfdt refl u.is_tfhd, no_other d trun tfdt refl u.is_trun, u.is_tfdt) refl

  pub of_mfhds : of_kind mfhd (children m) ≡ a ∷ []
  of_mfhds = ap (of_kind mfhd) u.two.are ∙ rw (no_other t traf mfhd refl u.is_traf, u.is_mfhd) refl

  -- ---- all is there, and nothing more

  moof_filled : is_filled m ≡ true
  moof_filled =
      (Decides-eqb (sum_by box_len (children m)) (length m.payload)).1
      (ap (sum_by box_len) u.two.are ∙ omega (arith, sum_by-cons box_len a (t ∷ []), sum_by-cons box_len t [], u.two.filled))

  traf_filled : is_filled t ≡ true
  traf_filled =
      (Decides-eqb (sum_by box_len (children t)) (length t.payload)).1
      (ap (sum_by box_len) u.three.are ∙ omega (arith, sum_by-cons box_len b (c ∷ d ∷ []), sum_by-cons box_len c (d ∷ []), sum_by-cons box_len d [], u.three.filled))

  traf_complete : is_complete t ≡ true
  traf_complete = rw (of_tfhds, of_tfdts, traf_filled) refl

  complete : IsComplete m
  complete = record {
    mfhds = rw of_mfhds refl;
    filled = moof_filled;
    trafs = rw (of_trafs, traf_complete) refl;
  }

  -- ---- nothing is at fault

  module _ (none : common_faults tracks a b c d ≡ []) where
    each : flat_map (faults_in_moof tracks) (children m) ≡ []
    each =
        let one = last_none (laid_out (Exactly mfhd_len) a) ((tfhd_length b ++ tfhd_faults tracks b) ++ (laid_out tfdt_layout c ++ (trun_length d ++ trun_faults d))) none in
        let two = last_none (tfhd_length b ++ tfhd_faults tracks b) (laid_out tfdt_layout c ++ (trun_length d ++ trun_faults d)) one.1 in
        let three = last_none (laid_out tfdt_layout c) (trun_length d ++ trun_faults d) two.1 in
        let below : flat_map (faults_in_traf tracks) (children t) ≡ [] =
        ap (flat_map (faults_in_traf tracks)) u.three.are ∙ rw (in_traf_b ∙ two.0, in_traf_c ∙ three.0, in_traf_d ∙ three.1) refl in
        ap (flat_map (faults_in_moof tracks)) u.two.are ∙ rw (in_moof_a ∙ one.0, in_moof_t ∙ below) refl

    pub common_passed : Passed tracks m
    common_passed = record { none = each; complete = complete }

    all_truns : at_path to_trun m ≡ d ∷ []
    all_truns = sym (moof_truns m) ∙ ap (λ (ts : List Box). of_kind trun (flat_map children ts)) of_trafs ∙ ap (of_kind trun) (append-nil (children t)) ∙ of_truns

    none_past : sample_count d.payload ≤ most_in_moof → count_faults m ≡ []
    none_past few =
        few_enough 0 (at_path to_trun m) (omega (arith, few, ap samples_in all_truns, sum_by-cons (λ (x : Box). sample_count x.payload) d []))

    timed : list_any lacks_time (of_kind traf (children m)) ≡ false
    timed = rw (of_trafs, has_time t (omega (arith, ap length of_tfdts))) refl

    pub common_forms : form_faults m ≡ []
    common_forms = no_forms tracks m common_passed

    pub common_tree : box_faults m ≡ []
    common_tree = no_tree tracks m common_passed

    pub common_values : sample_count d.payload ≤ most_in_moof → value_faults tracks m ≡ []
    common_values few = no_values tracks m common_passed timed (none_past few)

    pub common_early : is_early c ≡ true → HasTicks tracks b → IsEarly tracks m
    common_early early ticks = record {
      heads = passed_heads tracks m common_passed;
      times = trafs_start tracks (of_kind traf (children m)) (rw (of_trafs, of_tfdts, early) refl) (none_untimed tracks (of_kind traf (children m)) timed);
      ticks = rw (of_trafs, of_tfhds) ((ticks, tt), tt);
    }

-- the findings on nothing
pub none_noted : (fs : List Fault) (best : Option Fault) → best ≡ least_from None fs → is_some best ≡ false → fs ≡ []
none_noted fs None e is = least-none fs (sym e)
none_noted fs (Some f) e is = absurd cc

-- nothing is at fault, and no run is late
pub common_read : (h : MoofBytes) (tracks : List Track) (m : Box) → IsMoof h m → box_faults m ≡ [] → form_faults m ≡ [] → value_faults tracks m ≡ [] → IsEarly tracks m → IsRead h tracks
unfolding least_from
common_read h tracks m moof tree forms values early =
    ap (λ (o : Option Fault). option_or o (least (time_faults (moof_trafs h tracks)))) (sym (none_early h tracks m moof.here moof.is tree forms values))
    ∙ ap least (early_in_time h tracks m moof.whole moof.fits moof.here moof.is (values_count tracks m values) early)

-- ---- boxes with headers of eight bytes

pub plain_here : (o : ℕ) (x : List ℕ) (kind : FourCc) (n : ℕ) → 8 ≤ length x → n ≡ size_field x → 8 ≤ n → n ≤ length x → bytes_eq (kind_field x) kind.0 ≡ true → not (bytes_eq kind.0 uuid) ≡ true
    → box_at o x ≡ Some (record { header = record { kind = kind; user = None; size = Exact n; header_len = 8 }; offset = o; payload = slice_range x 8 n })
plain_here o x kind n long size room within is other =
    let same : kind_field x ≡ kind.0 = (bytes_eq-Decides (kind_field x) kind.0).0 is in
    let header = plain_is x kind.0 long (omega (arith, size, room)) (sym same) other in
    sym (plain_box o x header (omega (arith, size, within)))
    ∙ ap (λ (k : List ℕ). Some (record { header = record { kind = record { 0 = k }; user = None; size = Exact (size_field x); header_len = 8 }; offset = o; payload = slice_range x 8 (size_field x) })) same
    ∙ ap (λ (k : ℕ). Some (record { header = record { kind = kind; user = None; size = Exact k; header_len = 8 }; offset = o; payload = slice_range x 8 k })) (sym size)

-- a box is first, and others after it
one_first : (o p : ℕ) (x rest : List ℕ) (b : Box) → box_at o x ≡ Some b → 8 ≤ box_len b → box_len b ≤ length x → rest ≡ drop (box_len b) x → p ≡ o + box_len b → boxes o x ≡ b ∷ boxes p rest
one_first o p x rest b here low high after at =
    boxes_more o x b here low high ∙ ap (λ (k : ℕ). b ∷ boxes k (drop (box_len b) x)) (sym at) ∙ ap (λ (y : List ℕ). b ∷ boxes p y) (sym after)

-- or no bytes do
one_last : (o : ℕ) (x : List ℕ) (b : Box) → box_at o x ≡ Some b → 8 ≤ box_len b → box_len b ≡ length x → boxes o x ≡ b ∷ []
one_last o x b here low all =
    one_first o (o + box_len b) x [] b here low (omega (arith, all)) (sym (drop_all (box_len b) x (omega (arith, all)))) refl
    ∙ ap (λ (bs : List Box). b ∷ bs) (boxes_end (o + box_len b) [] (sym (short_none (o + box_len b) [] (omega arith))))

pub two_are : (m a b : Box) (p : ℕ) (x : List ℕ) → box_at (payload_offset m) m.payload ≡ Some a → 8 ≤ box_len a → box_len a ≤ length m.payload → x ≡ drop (box_len a) m.payload → p ≡ payload_offset m + box_len a
    → box_at p x ≡ Some b → 8 ≤ box_len b → box_len b ≡ length x → HoldsTwo m a b
two_are m a b p x first low high rest at second more all = record {
  are = one_first (payload_offset m) p m.payload x a first low high rest at ∙ ap (λ (bs : List Box). a ∷ bs) (one_last p x b second more all);
  filled = omega (arith, all, ap length rest, length-drop (box_len a) m.payload, high);
}

pub three_are : (m a b c : Box) (p q : ℕ) (x y : List ℕ) → box_at (payload_offset m) m.payload ≡ Some a → 8 ≤ box_len a → box_len a ≤ length m.payload → x ≡ drop (box_len a) m.payload → p ≡ payload_offset m + box_len a
    → box_at p x ≡ Some b → 8 ≤ box_len b → box_len b ≤ length x → y ≡ drop (box_len b) x → q ≡ p + box_len b → box_at q y ≡ Some c → 8 ≤ box_len c → box_len c ≡ length y → HoldsThree m a b c
three_are m a b c p q x y first low high rest at second low' high' rest' at' third more all = record {
  are =
      one_first (payload_offset m) p m.payload x a first low high rest at
      ∙ ap (λ (bs : List Box). a ∷ bs) (one_first p q x y b second low' high' rest' at' ∙ ap (λ (bs : List Box). b ∷ bs) (one_last q y c third more all));
  filled = omega (arith, all, ap length rest, length-drop (box_len a) m.payload, high, ap length rest', length-drop (box_len b) x, high');
}
