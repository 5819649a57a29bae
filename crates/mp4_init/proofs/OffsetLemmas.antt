-- A moov is as good at each stream offset, with the same tracks.
use Rattle.std.proofs.Common.{◌≡◌, ◌∙◌, ◌<◌, ℕ, ◌+◌, ◌-◌, Bool, true, false, cond, List, [], ◌∷◌, length, Option, Some, None, refl, sym, ap, arith, map}
use Rattle.std.specs.Prelude.{◌==◌, codes, drop, nat_lt, option_map}
use Rattle.std.specs.Option.{option_or}
use Rattle.std.proofs.lemmas.Bool.{le-ltb, ltb-false, ltb-true}
use Rattle.std.proofs.lemmas.Bool.Decides.{nat_tests}
use Rattle.mp4_box.specs.declared.checks.Layout.{Layout}
use Rattle.mp4_box.specs.declared.checks.Layout.TheVariants.{AtLeast, Exactly, Versioned}
use Rattle.mp4_box.specs.declared.headers.FourCc.{FourCc}
use Rattle.mp4_box.specs.declared.rules.Fault.{Fault}
use Rattle.mp4_box.specs.declared.rules.Rule.TheVariants.{FieldLength, SamplesInMoov, UnknownTrack}
use Rattle.mp4_box.specs.Checks.{along, laid_out, one}
use Rattle.mp4_box.specs.Fields.{number_in}
use Rattle.mp4_box.specs.Order.{least}
use Rattle.mp4_box.specs.Order as order
use Rattle.mp4_box.specs.Paths.{at_path, of_kind}
use Rattle.mp4_box.specs.Trees.{Box, box_at, boxes, children, fault_at, first_of, payload_offset, tree_faults, verdict}
use Rattle.mp4_box.proofs.OffsetLemmas.{along_moved, box_moved, boxes_moved, children_moved, cond_moved, fault_later, filter_moved, join_map, kind_moved, laid_moved, later, one_moved, path_moved, tree_moved}
use Rattle.mp4_box.proofs.OrderLemmas.{least-none}
use Rattle.mp4_init.specs.declared.summary.Defaults.{Defaults}
use Rattle.mp4_init.specs.declared.table.Track.{Track}
use Rattle.mp4_init.specs.Fields.{after_times, begin_with, has_entries, tkhd_id, trex_id}
use Rattle.mp4_init.specs.Fields as fields
use Rattle.mp4_init.specs.Kinds.{hdlr, mdhd, mdia, minf, mvex, stbl, stsd, tkhd, to_stbl, to_tkhd, to_trex, trak}
use Rattle.mp4_init.specs.Moovs as moovs
use Rattle.mp4_init.specs.Moovs.{content_fault, fault_of, form_faults, moov_fault, moov_tracks, of_moov, value_faults}
use Rattle.mp4_init.specs.Rules as rules
use Rattle.mp4_init.specs.Rules.{before, below_stbl, entries_faults, field_faults, is_known, known, no_samples, number_faults, sample_faults, tkhds_of, track_faults, trexes_of, with_id}
use Rattle.mp4_init.specs.Tracks as tracks
use Rattle.mp4_init.specs.Tracks.{defaults_of, field_of, id_of, track_of, tracks_of, with_defaults}
use Rattle.mp4_init.proofs.MoovLemmas.{first_none}

module _ (k : ℕ) where
  samples_moved : (at : ℕ) (b : Box) → no_samples at (later k b) ≡ map (fault_later k) (no_samples at b)
  samples_moved at b = cond_moved k (number_in b.payload at == 0) SamplesInMoov b

  begin_by : (n : ℕ) (s t : Bool) (x y : Bool) → x ≡ y → cond s true (cond t false x) ≡ cond s true (cond t false y)
  begin_by n s t x y e = ap (λ (z : Bool). cond s true (cond t false z)) e

  begin_moved : (n : ℕ) (bs : List Box) → begin_with n (map (later k) bs) ≡ begin_with n bs
  unfolding fields.begin_with
  begin_moved n [] = refl
  begin_moved n (b ∷ bs) = begin_by n (n == 0) (nat_lt (length b.payload) 8) _ _ (begin_moved (n - 1) bs)

  entries_by : (s t t' : Bool) (b : Box) → t' ≡ t → cond s (fault_at FieldLength (later k b) ∷ []) (cond t' [] (fault_at FieldLength (later k b) ∷ [])) ≡ map (fault_later k) (cond s (fault_at FieldLength b ∷ []) (cond t [] (fault_at FieldLength b ∷ [])))
  entries_by true t t' b e = refl
  entries_by false t t' b e = ap (λ (z : Bool). cond z [] (fault_at FieldLength (later k b) ∷ [])) e ∙ cond_moved k t FieldLength b

  entries_moved : (b : Box) → entries_faults (later k b) ≡ map (fault_later k) (entries_faults b)
  entries_moved b =
      entries_by (nat_lt (length b.payload) 8) (has_entries b) (has_entries (later k b)) b
      (ap (begin_with (number_in b.payload 4)) (boxes_moved k (drop 8 b.payload) (payload_offset b + 8) (payload_offset (later k b) + 8) (omega arith)) ∙ begin_moved (number_in b.payload 4) (boxes (payload_offset b + 8) (drop 8 b.payload)))

  -- ---- which tkhd is known

  lt_by : (a b : ℕ) (t : Bool) → nat_lt a b ≡ t → nat_lt (a + k) (b + k) ≡ t
  lt_by a b true e = ltb_to (a + k) (b + k) (omega (arith, ltb-true a b e))
    where
      ltb_to : (m n : ℕ) → m < n → nat_lt m n ≡ true
      ltb_to m n h = grind (arith, nat_tests)
  lt_by a b false e = le-ltb (a + k) (b + k) (omega (arith, ltb-false a b e))

  length_moved : (bs : List Box) → length (map (later k) bs) ≡ length bs
  length_moved [] = refl
  length_moved (b ∷ bs) = omega (arith, length_moved bs)

  id_moved : (f : Box → ℕ) → ((b : Box) → f (later k b) ≡ f b) → (id : ℕ) (bs : List Box) → with_id f id (map (later k) bs) ≡ map (later k) (with_id f id bs)
  id_moved f ff id bs = filter_moved k (λ b. f b == id) (λ b. f b == id) (λ b. ap (λ (n : ℕ). n == id) (ff b)) bs

  trexes_moved : (m : Box) (id : ℕ) → trexes_of (later k m) id ≡ map (later k) (trexes_of m id)
  trexes_moved m id = ap (with_id trex_id id) (path_moved k to_trex m) ∙ id_moved trex_id (λ b. refl) id (at_path to_trex m)

  tkhds_moved : (m : Box) (id : ℕ) → tkhds_of (later k m) id ≡ map (later k) (tkhds_of m id)
  tkhds_moved m id = ap (with_id tkhd_id id) (path_moved k to_tkhd m) ∙ id_moved tkhd_id (λ b. refl) id (at_path to_tkhd m)

  before_moved : (o : ℕ) (bs : List Box) → before (o + k) (map (later k) bs) ≡ map (later k) (before o bs)
  before_moved o bs = filter_moved k (λ b. nat_lt b.offset o) (λ b. nat_lt b.offset (o + k)) (λ b. lt_by b.offset o (nat_lt b.offset o) refl) bs

  known_moved : (m b : Box) → is_known (later k m) (later k b) ≡ is_known m b
  unfolding rules.is_known
  known_moved m b =
      ap (λ (bs : List Box). cond (length (before (b.offset + k) bs) == 0) (length (trexes_of (later k m) (tkhd_id b)) == 1) false) (tkhds_moved m (tkhd_id b))
      ∙ (ap (λ (n : ℕ). cond (n == 0) (length (trexes_of (later k m) (tkhd_id b)) == 1) false) (ap length (before_moved b.offset (tkhds_of m (tkhd_id b))) ∙ length_moved (before b.offset (tkhds_of m (tkhd_id b))))
      ∙ ap (λ (n : ℕ). cond (length (before b.offset (tkhds_of m (tkhd_id b))) == 0) (n == 1) false) (ap length (trexes_moved m (tkhd_id b)) ∙ length_moved (trexes_of m (tkhd_id b))))

  unknown_moved : (m b : Box) → known (later k m) (later k b) ≡ map (fault_later k) (known m b)
  unknown_moved m b = ap (λ (t : Bool). cond t [] (fault_at UnknownTrack (later k b) ∷ [])) (known_moved m b) ∙ cond_moved k (is_known m b) UnknownTrack b

  -- ---- a moov

  numbers_moved : (m : Box) → number_faults (later k m) ≡ map (fault_later k) (number_faults m)
  unfolding rules.number_faults
  numbers_moved m =
      (join_map (fault_later k) _ _ _ _ (join_map (fault_later k) _ _ _ _ (join_map (fault_later k) _ _ _ _ (join_map (fault_later k) _ _ _ _ (join_map (fault_later k) _ _ _ _ (join_map (fault_later k) _ _ _ _ (along_moved k (one mvex) (one mvex) (one_moved k mvex) [] m)
      (along_moved k (one tkhd) (one tkhd) (one_moved k tkhd) (trak ∷ []) m))
      (along_moved k (one mdia) (one mdia) (one_moved k mdia) (trak ∷ []) m))
      (along_moved k (one mdhd) (one mdhd) (one_moved k mdhd) (trak ∷ mdia ∷ []) m))
      (along_moved k (one minf) (one minf) (one_moved k minf) (trak ∷ mdia ∷ []) m))
      (along_moved k (one stbl) (one stbl) (one_moved k stbl) (trak ∷ mdia ∷ minf ∷ []) m))
      (along_moved k (one stsd) (one stsd) (one_moved k stsd) to_stbl m))

  abbrev laid : (l : Layout) (path : List FourCc) (m : Box) → along (laid_out l) path (later k m) ≡ map (fault_later k) (along (laid_out l) path m)
  laid l path m = along_moved k (laid_out l) (laid_out l) (laid_moved k l) path m

  abbrev sampled : (at : ℕ) (path : List FourCc) (m : Box) → along (no_samples at) path (later k m) ≡ map (fault_later k) (along (no_samples at) path m)
  sampled at path m = along_moved k (no_samples at) (no_samples at) (samples_moved at) path m

  fields_moved : (m : Box) → field_faults (later k m) ≡ map (fault_later k) (field_faults m)
  unfolding rules.field_faults
  fields_moved m =
      (join_map (fault_later k) _ _ _ _ (join_map (fault_later k) _ _ _ _ (join_map (fault_later k) _ _ _ _ (join_map (fault_later k) _ _ _ _ (join_map (fault_later k) _ _ _ _ (join_map (fault_later k) _ _ _ _ (join_map (fault_later k) _ _ _ _ (join_map (fault_later k) _ _ _ _ (join_map (fault_later k) _ _ _ _ (laid (Versioned 84 96) to_tkhd m)
      (laid (Versioned 24 36) (trak ∷ mdia ∷ mdhd ∷ []) m))
      (along_moved k entries_faults entries_faults entries_moved (below_stbl (codes "stsd")) m))
      (laid (AtLeast 8) (below_stbl (codes "stts")) m))
      (laid (AtLeast 8) (below_stbl (codes "stsc")) m))
      (laid (AtLeast 8) (below_stbl (codes "stco")) m))
      (laid (AtLeast 8) (below_stbl (codes "co64")) m))
      (laid (AtLeast 12) (below_stbl (codes "stsz")) m))
      (laid (AtLeast 12) (below_stbl (codes "stz2")) m))
      (laid (Exactly 24) to_trex m))

  tables_moved : (m : Box) → sample_faults (later k m) ≡ map (fault_later k) (sample_faults m)
  unfolding rules.sample_faults
  tables_moved m =
      (join_map (fault_later k) _ _ _ _ (join_map (fault_later k) _ _ _ _ (join_map (fault_later k) _ _ _ _ (join_map (fault_later k) _ _ _ _ (join_map (fault_later k) _ _ _ _ (sampled 4 (below_stbl (codes "stts")) m)
      (sampled 4 (below_stbl (codes "stsc")) m))
      (sampled 4 (below_stbl (codes "stco")) m))
      (sampled 4 (below_stbl (codes "co64")) m))
      (sampled 8 (below_stbl (codes "stsz")) m))
      (sampled 8 (below_stbl (codes "stz2")) m))

  ids_moved : (m : Box) → track_faults (later k m) ≡ map (fault_later k) (track_faults m)
  unfolding rules.track_faults
  ids_moved m = along_moved k (known m) (known (later k m)) (unknown_moved m) to_tkhd m

  form_moved : (m : Box) → form_faults (later k m) ≡ map (fault_later k) (form_faults m)
  unfolding moovs.form_faults
  form_moved m = join_map (fault_later k) _ _ _ _ (numbers_moved m) (fields_moved m)

  value_moved : (m : Box) → value_faults (later k m) ≡ map (fault_later k) (value_faults m)
  unfolding moovs.value_faults
  value_moved m = join_map (fault_later k) _ _ _ _ (tables_moved m) (ids_moved m)

  -- ---- its tracks

  field_moved : (f : Box → ℕ) → ((b : Box) → f (later k b) ≡ f b) → (bs : List Box) → field_of f (first_of (map (later k) bs)) ≡ field_of f (first_of bs)
  field_moved f ff [] = refl
  field_moved f ff (b ∷ bs) = ff b

  defaults_moved : (bs : List Box) → defaults_of (first_of (map (later k) bs)) ≡ defaults_of (first_of bs)
  defaults_moved [] = refl
  defaults_moved (b ∷ bs) = refl

  same_track : (a b c d e f g h : ℕ) (x y : Defaults) → a ≡ b → c ≡ d → e ≡ f → g ≡ h → x ≡ y → with_defaults a c e g x ≡ with_defaults b d f h y
  same_track a b c d e f g h x y p q r s t = cc

  on_path : (f : Box → ℕ) → ((b : Box) → f (later k b) ≡ f b) → (path : List FourCc) (t : Box) → field_of f (first_of (at_path path (later k t))) ≡ field_of f (first_of (at_path path t))
  on_path f ff path t = ap (λ (bs : List Box). field_of f (first_of bs)) (path_moved k path t) ∙ field_moved f ff (at_path path t)

  track_moved : (m t : Box) → track_of (later k m) (later k t) ≡ track_of m t
  unfolding tracks.track_of
  track_moved m t =
      let id : id_of (later k t) ≡ id_of t = on_path after_times (λ b. refl) (tkhd ∷ []) t in
      same_track _ _ _ _ _ _ _ _ _ _ id (on_path after_times (λ b. refl) (mdia ∷ mdhd ∷ []) t) (on_path (λ b. number_in b.payload 8) (λ b. refl) (mdia ∷ hdlr ∷ []) t) (on_path (λ b. number_in b.payload 4) (λ b. refl) (mdia ∷ minf ∷ stbl ∷ stsd ∷ []) t)
      (ap (λ (n : ℕ). defaults_of (first_of (trexes_of (later k m) n))) id ∙ (ap (λ (bs : List Box). defaults_of (first_of bs)) (trexes_moved m (id_of t)) ∙ defaults_moved (trexes_of m (id_of t))))

  map_moved : (m : Box) (bs : List Box) → map (track_of (later k m)) (map (later k) bs) ≡ map (track_of m) bs
  map_moved m [] = refl
  map_moved m (b ∷ bs) = ap (λ (t : Track). t ∷ map (track_of (later k m)) (map (later k) bs)) (track_moved m b) ∙ ap (λ (ts : List Track). track_of m b ∷ ts) (map_moved m bs)

  tracks_moved : (m : Box) → tracks_of (later k m) ≡ tracks_of m
  tracks_moved m = ap (λ (bs : List Box). map (track_of (later k m)) (of_kind trak bs)) (children_moved k m) ∙ (ap (map (track_of (later k m))) (kind_moved k trak (children m)) ∙ map_moved m (of_kind trak (children m)))

  of_moved : (b : Option Box) → of_moov [] tracks_of (option_map (later k) b) ≡ of_moov [] tracks_of b
  of_moved None = refl
  of_moved (Some b) = tracks_moved b

  pub moov_tracks_moved : (x : List ℕ) (o o' : ℕ) → o' ≡ o + k → moov_tracks o' x ≡ moov_tracks o x
  moov_tracks_moved x o o' e = ap (of_moov [] tracks_of) (box_moved k x o o' e) ∙ of_moved (box_at o x)

  -- ---- whether it is good

  none_least : least [] ≡ None
  unfolding order.least_from
  none_least = refl

  none_up : (fs gs : List Fault) → gs ≡ map (fault_later k) fs → least fs ≡ None → least gs ≡ None
  none_up fs gs e h = ap least (e ∙ ap (map (fault_later k)) (least-none fs h)) ∙ none_least

  map_none : (fs : List Fault) → map (fault_later k) fs ≡ [] → fs ≡ []
  map_none [] e = refl
  map_none (f ∷ fs) e = absurd cc

  none_down : (fs gs : List Fault) → gs ≡ map (fault_later k) fs → least gs ≡ None → least fs ≡ None
  none_down fs gs e h = ap least (map_none fs (sym e ∙ least-none gs h)) ∙ none_least

  both_none : (a b : Option Fault) → a ≡ None → b ≡ None → option_or a b ≡ None
  both_none a b p q = rw (p, q) refl

  verdict_none : (fs : List Fault) → fault_of (verdict fs) ≡ None → fs ≡ []
  verdict_none [] e = refl
  verdict_none (f ∷ fs) e = absurd cc

  content_up : (m : Box) → content_fault m ≡ None → content_fault (later k m) ≡ None
  unfolding moovs.content_fault
  content_up m e = let both = first_none (least (form_faults m)) (least (value_faults m)) e in both_none _ _ (none_up (form_faults m) (form_faults (later k m)) (form_moved m) both.0) (none_up (value_faults m) (value_faults (later k m)) (value_moved m) both.1)

  content_down : (m : Box) → content_fault (later k m) ≡ None → content_fault m ≡ None
  unfolding moovs.content_fault
  content_down m e = let both = first_none (least (form_faults (later k m))) (least (value_faults (later k m))) e in both_none _ _ (none_down (form_faults m) (form_faults (later k m)) (form_moved m) both.0) (none_down (value_faults m) (value_faults (later k m)) (value_moved m) both.1)

  up_by : (b : Option Box) → of_moov None content_fault b ≡ None → of_moov None content_fault (option_map (later k) b) ≡ None
  up_by None e = refl
  up_by (Some b) e = content_up b e

  down_by : (b : Option Box) → of_moov None content_fault (option_map (later k) b) ≡ None → of_moov None content_fault b ≡ None
  down_by None e = refl
  down_by (Some b) e = content_down b e

  pub good_up : (x : List ℕ) (o o' : ℕ) → o' ≡ o + k → moov_fault o x ≡ None → moov_fault o' x ≡ None
  good_up x o o' e h =
      let both = first_none (fault_of (verdict (tree_faults o x))) (of_moov None content_fault (box_at o x)) h in
      both_none _ _
      (ap (λ (fs : List Fault). fault_of (verdict fs)) (tree_moved k x o o' e ∙ ap (map (fault_later k)) (verdict_none (tree_faults o x) both.0)))
      (ap (of_moov None content_fault) (box_moved k x o o' e) ∙ up_by (box_at o x) both.1)

  pub good_down : (x : List ℕ) (o o' : ℕ) → o' ≡ o + k → moov_fault o' x ≡ None → moov_fault o x ≡ None
  good_down x o o' e h =
      let both = first_none (fault_of (verdict (tree_faults o' x))) (of_moov None content_fault (box_at o' x)) h in
      both_none _ _
      (ap (λ (fs : List Fault). fault_of (verdict fs)) (map_none (tree_faults o x) (sym (tree_moved k x o o' e) ∙ verdict_none (tree_faults o' x) both.0)))
      (down_by (box_at o x) (ap (of_moov None content_fault) (sym (box_moved k x o o' e)) ∙ both.1))

-- a moov that is good at one offset is so at each, with the same tracks
pub good_anywhere : (x : List ℕ) (o o' : ℕ) → moov_fault o x ≡ None → moov_fault o' x ≡ None
good_anywhere x o o' h = good_up o' x 0 o' (omega arith) (good_down o x 0 o (omega arith) h)

pub tracks_anywhere : (x : List ℕ) (o o' : ℕ) → moov_tracks o' x ≡ moov_tracks o x
tracks_anywhere x o o' = moov_tracks_moved o' x 0 o' (omega arith) ∙ sym (moov_tracks_moved o x 0 o (omega arith))
