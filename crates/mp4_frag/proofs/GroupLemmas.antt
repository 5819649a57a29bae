-- The rows of a run are the groups of its trun's payload.
use Rattle.std.proofs.Common.{◌≡◌, ◌∙◌, ◌+◌, ◌*◌, ◌<◌, ◌≤◌, ◌==◌, ℕ, suc, Bool, true, false, cond, ltb, List, [], ◌∷◌, length, drop, get_or, Option, Some, None, refl, sym, ap, subst, arith, inl, inr}
use Rattle.std.specs.List.{AllByRecursion, flat_map}
use Rattle.std.proofs.lemmas.Bool.{le-ltb}
use Rattle.std.proofs.lemmas.Bool.Decides.{nat_tests}
use Rattle.std.proofs.lemmas.Grind.{flat_map-append}
use Rattle.std.proofs.lemmas.List.{get_or-take, get_or-drop}
use Rattle.std.proofs.Math.Nat.{mul-le-mul_left, mul-suc}
use Rattle.byteorder.specs.Endian.{big_number}
use Rattle.mp4_box.specs.declared.rules.Rule.{Rule}
use Rattle.mp4_box.specs.declared.rules.Rule.TheVariants.{Version, FieldLength}
use Rattle.mp4_box.specs.Checks.{along, fault_by, unless}
use Rattle.mp4_box.specs.Fields.{number_in, version_in}
use Rattle.mp4_box.specs.Headers.{IsBytes, IsWhole}
use Rattle.mp4_box.specs.Paths.{at_path, of_kind}
use Rattle.mp4_box.specs.Trees.{Box, box_at, children}
use Rattle.mp4_box.proofs.GrammarLemmas.{option_is, whole_found}
use Rattle.mp4_init.specs.declared.table.Track.{Track}
use Rattle.mp4_traf.specs.declared.run.Run.{Run}
use Rattle.mp4_traf.specs.Kinds.{traf, trun, to_trun}
use Rattle.mp4_traf.specs.Fields.{flags_in, place_if, width_if}
use Rattle.mp4_traf.specs.Trun.{sample_count, sample_fields, trun_broken, trun_fields, trun_len, sample_duration_present, sample_size_present, sample_flags_present, sample_composition_time_offset_present, sample_size_at, sample_flags_at, sample_composition_time_offset_at}
use Rattle.mp4_frag.specs.Rules.{form_faults}
use Rattle.mp4_traf.specs.Rules.{trun_length}
use Rattle.mp4_traf.specs.Rows.{field_at, group_at, offset_at, offset_by, row_from, row_of, default_flags_of}
use Rattle.mp4_traf.specs.Runs.{MoofBytes, Shared, run_at, run_of, shared_by, track_of}
use Rattle.mp4_frag.specs.Moofs.{IsRead, moof_of}
use Rattle.mp4_frag.specs.Laws.{RowsAreGroups, TrafRowsAreGroups}
use Rattle.mp4_frag.proofs.MoofLemmas.{early, last_none, moof_is, read_early}
use Rattle.mp4_frag.proofs.PlaceLemmas.{Lies, children_lie, kind_all, moof_lies}
use Rattle.mp4_frag.proofs.SoundLemmas.{trun_path}

-- ---- a number of the payload, in the moof

byte_same : (h : MoofBytes) (b : Box) (lies : Lies h b) (x k : ℕ) → x + k < length b.payload → get_or (drop (lies.at + x) h.bytes) k 0 ≡ get_or (drop x b.payload) k 0
byte_same h b lies x k within =
    get_or-drop (lies.at + x) h.bytes k 0
    ∙ ap (λ (n : ℕ). get_or h.bytes n 0) (omega arith)
    ∙ sym (get_or-drop lies.at h.bytes (x + k) 0)
    ∙ sym (get_or-take (length b.payload) (drop lies.at h.bytes) (x + k) 0 within)
    ∙ ap (λ (y : List ℕ). get_or y (x + k) 0) (sym lies.is)
    ∙ sym (get_or-drop x b.payload k 0)

four_same : (xs ys : List ℕ) → get_or xs 0 0 ≡ get_or ys 0 0 → get_or xs 1 0 ≡ get_or ys 1 0 → get_or xs 2 0 ≡ get_or ys 2 0 → get_or xs 3 0 ≡ get_or ys 3 0 → big_number 4 xs ≡ big_number 4 ys
four_same xs ys a b c d = rw (a, b, c, d) refl

number_same : (h : MoofBytes) (b : Box) (lies : Lies h b) (x : ℕ) → x + 4 ≤ length b.payload → number_in h.bytes (lies.at + x) ≡ number_in b.payload x
number_same h b lies x within =
    ap (λ (t : Bool). cond t 0 (big_number 4 (drop (lies.at + x) h.bytes))) (le-ltb (length h.bytes) (lies.at + x + 4) (omega (arith, within, lies.within)))
    ∙ four_same (drop (lies.at + x) h.bytes) (drop x b.payload) (byte_same h b lies x 0 (omega (arith, within))) (byte_same h b lies x 1 (omega (arith, within))) (byte_same h b lies x 2 (omega (arith, within))) (byte_same h b lies x 3 (omega (arith, within)))
    ∙ sym (ap (λ (t : Bool). cond t 0 (big_number 4 (drop x b.payload))) (le-ltb (length b.payload) (x + 4) within))

-- ---- the fields of a group

record Within (o : Option ℕ) (len : ℕ) : Type 0 where
  all : (f : ℕ) → o ≡ Some f → f + 4 ≤ len

some_is : (a b : ℕ) → Some a ≡ Some b → a ≡ b
some_is a b e = cc

place_within : (p : Bool) (at len : ℕ) → at + width_if p ≤ len → Within (place_if p at) len
place_within true at len h = record { all = λ f e. omega (arith, h, some_is at f e) }
place_within false at len h = record { all = λ f e. absurd cc }

record FieldsWithin (flags : ℕ) : Type 0 where
  duration : Within (sample_fields flags).sample_duration (sample_fields flags).len
  size : Within (sample_fields flags).sample_size (sample_fields flags).len
  flags_field : Within (sample_fields flags).sample_flags (sample_fields flags).len
  offset : Within (sample_fields flags).sample_composition_time_offset (sample_fields flags).len

fields_within : (flags : ℕ) → FieldsWithin flags
unfolding sample_fields
fields_within flags =
    let len : ℕ = (sample_fields flags).len in
    record {
      duration = place_within (sample_duration_present flags) 0 len (omega arith);
      size = place_within (sample_size_present flags) (sample_size_at flags) len (omega arith);
      flags_field = place_within (sample_flags_present flags) (sample_flags_at flags) len (omega arith);
      offset = place_within (sample_composition_time_offset_present flags) (sample_composition_time_offset_at flags) len (omega arith);
    }

field_same : (h : MoofBytes) (b : Box) (lies : Lies h b) (g len common_layout : ℕ) (o : Option ℕ) → Within o len → g + len ≤ length b.payload → field_at h.bytes (lies.at + g) o common_layout ≡ field_at b.payload g o common_layout
field_same h b lies g len common_layout None w room = refl
field_same h b lies g len common_layout (Some f) w room =
    ap (number_in h.bytes) (omega arith) ∙ number_same h b lies (g + f) (omega (arith, w.all f refl, room))

offset_same : (h : MoofBytes) (b : Box) (lies : Lies h b) (version g len : ℕ) (o : Option ℕ) → Within o len → g + len ≤ length b.payload → offset_at h.bytes version (lies.at + g) o ≡ offset_at b.payload version g o
offset_same h b lies version g len None w room = refl
offset_same h b lies version g len (Some f) w room =
    ap (offset_by version) (ap (number_in h.bytes) (omega arith) ∙ number_same h b lies (g + f) (omega (arith, w.all f refl, room)))

-- ---- the length of a trun

unless_none : (t : Bool) (r : Rule) → unless t r ≡ None → t ≡ true
unless_none true r e = refl
unless_none false r e = absurd cc

first_cond : (t : Bool) (r : Rule) (o : Option Rule) → cond t (Some r) o ≡ None → o ≡ None
first_cond true r o e = absurd cc
first_cond false r o e = e

trun_is_long : (p : List ℕ) → trun_broken p ≡ None → length p ≡ trun_len (flags_in p) (sample_count p)
unfolding trun_broken
trun_is_long p e =
    let rest = first_cond (ltb (length p) 4) FieldLength _ e in
    let last = first_cond (ltb 1 (version_in p)) Version _ rest in
    let t = unless_none (length p == trun_len (flags_in p) (sample_count p)) FieldLength last in
    grind (arith, nat_tests)

room_for : (samples len count i n : ℕ) → i < count → n ≡ samples + len * count → samples + len * i + len ≤ n
room_for samples len count i n h e =
    let step : len * suc i ≡ len * i + len = mul-suc len i in
    let most : len * suc i ≤ len * count = mul-le-mul_left len h in
    omega (arith, e, step, most)

-- ---- rows

same_group : (run : Run) (h : MoofBytes) (b : Box) (lies : Lies h b) (flags g i : ℕ) → run.fields ≡ sample_fields flags → g + (sample_fields flags).len ≤ length b.payload → row_from run h.bytes i (lies.at + g) ≡ row_from run b.payload i g
same_group run h b lies flags g i e room =
    let w = fields_within flags in
    let len : ℕ = (sample_fields flags).len in
    let d = field_same h b lies g len run.duration (sample_fields flags).sample_duration w.duration room in
    let s = field_same h b lies g len run.size (sample_fields flags).sample_size w.size room in
    let f = field_same h b lies g len (default_flags_of run i) (sample_fields flags).sample_flags w.flags_field room in
    let o = offset_same h b lies run.version g len (sample_fields flags).sample_composition_time_offset w.offset room in
    rw (e, d, s, f, o) refl

rows_same : (s : Shared) (b : Box) → Lies s.moof b → trun_broken b.payload ≡ None → RowsAreGroups s b
unfolding row_of run_of run_at group_at
rows_same s b lies good time last i h =
    let flags : ℕ = flags_in b.payload in
    let samples : ℕ = (trun_fields flags).samples in
    let len : ℕ = (sample_fields flags).len in
    let run : Run = run_of s time last b in
    let at : run.samples_at + len * i ≡ lies.at + (samples + len * i) = omega (arith, lies.place) in
    ap (λ (g : ℕ). row_from run s.moof.bytes i g) at
    ∙ same_group run s.moof b lies flags (samples + len * i) i refl (room_for samples len (sample_count b.payload) i (length b.payload) h (trun_is_long b.payload good))

-- ---- in a moof that was read

fault_none : (r : Option Rule) (b : Box) → fault_by r b ≡ [] → r ≡ None
fault_none None b e = refl
fault_none (Some r) b e = absurd cc

none_each : (bs : List Box) → flat_map trun_length bs ≡ [] → AllByRecursion (λ (b : Box). trun_broken b.payload ≡ None) bs
none_each [] e = tt
none_each (b ∷ bs) e = let both = last_none (trun_length b) (flat_map trun_length bs) e in (fault_none (trun_broken b.payload) b both.0, none_each bs both.1)

none_below : (ts : List Box) → flat_map trun_length (flat_map (at_path (trun ∷ [])) ts) ≡ [] → AllByRecursion (λ (t : Box). AllByRecursion (λ (b : Box). trun_broken b.payload ≡ None) (of_kind trun (children t))) ts
none_below [] e = tt
none_below (t ∷ ts) e =
    let both = last_none (flat_map trun_length (at_path (trun ∷ []) t)) (flat_map trun_length (flat_map (at_path (trun ∷ [])) ts))
    (sym (flat_map-append trun_length (at_path (trun ∷ []) t) (flat_map (at_path (trun ∷ [])) ts)) ∙ e) in (
      none_each (of_kind trun (children t)) (ap (flat_map trun_length) (sym (trun_path t)) ∙ both.0),
      none_below ts both.1,
    )

truns_good : (m : Box) → form_faults m ≡ [] → AllByRecursion (λ (t : Box). AllByRecursion (λ (b : Box). trun_broken b.payload ≡ None) (of_kind trun (children t))) (of_kind traf (children m))
unfolding form_faults at_path
truns_good m e = none_below (of_kind traf (children m)) (last_none _ (along trun_length to_trun m) e).1

all_rows : (s : Shared) (bs : List Box) → AllByRecursion (Lies s.moof) bs → AllByRecursion (λ (b : Box). trun_broken b.payload ≡ None) bs → AllByRecursion (RowsAreGroups s) bs
all_rows s [] lie good = tt
all_rows s (b ∷ bs) lie good = (rows_same s b lie.0 good.0, all_rows s bs lie.1 good.1)

all_trafs : (h : MoofBytes) (tracks : List Track) (ts : List Box) → AllByRecursion (Lies h) ts → AllByRecursion (λ (t : Box). AllByRecursion (λ (b : Box). trun_broken b.payload ≡ None) (of_kind trun (children t))) ts → AllByRecursion (TrafRowsAreGroups h tracks) ts
all_trafs h tracks [] lie good = tt
all_trafs h tracks (t ∷ ts) lie good =
    (all_rows (shared_by h (track_of tracks t) t) (of_kind trun (children t)) (kind_all (Lies h) trun (children t) (children_lie h t lie.0)) good.0, all_trafs h tracks ts lie.1 good.1)

pub rows_are_groups : (h : MoofBytes) (tracks : List Track) → IsWhole h.bytes → IsBytes h.bytes → IsRead h tracks → AllByRecursion (TrafRowsAreGroups h tracks) (of_kind traf (children (moof_of h)))
rows_are_groups h tracks whole fits read =
    elim (option_is (box_at h.offset h.bytes)) [
      | inl none ↦ absurd (whole_found h.offset h.bytes whole none)
      | inr some ↦
          let m = some.0 in
          let is = moof_is h.offset h.bytes m some.1 in
          let lie = kind_all (Lies h) traf (children m) (children_lie h m (moof_lies h m whole fits some.1)) in
          let good = truns_good m (ap form_faults (sym is) ∙ (early h tracks (read_early h tracks read)).form) in
          subst (λ (b : Box). AllByRecursion (TrafRowsAreGroups h tracks) (of_kind traf (children b))) (sym is) (all_trafs h tracks (of_kind traf (children m)) lie good)
    ]
