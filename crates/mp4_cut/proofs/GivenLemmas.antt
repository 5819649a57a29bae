-- What is written for a piece of a run that was read can be read again.
use Rattle.std.proofs.Common.{◌≡◌, ◌∙◌, ◌+◌, ◌-◌, ◌^◌, ◌<◌, ◌≤◌, ◌==◌, ◌&&◌, ℕ, ℤ, pos, negsuc, zero, suc, Bool, true, false, cond, ltb, not, List, [], ◌∷◌, ◌++◌, map, length, drop, Option, Some, None, refl, sym, ap, subst, arith, inl, inr}
use Rattle.std.specs.Prelude.{option_map, slice_get, take}
use Rattle.std.specs.List.{AllByRecursion, flat_map, position, range_with_len}
use Rattle.std.specs.Option.{option_and_then, unwrap_or}
use Rattle.std.proofs.lemmas.Bool.{cases_lt, le-ltb, lt-ltb, ltb-false, ltb-true}
use Rattle.std.proofs.lemmas.Bool.Decides.{nat_tests}
use Rattle.std.proofs.lemmas.Grind.{flat_map-append}
use Rattle.std.proofs.lemmas.Int.{ints}
use Rattle.byteorder.specs.Endian.{twos_complement}
use Rattle.mp4_box.specs.declared.rules.Fault.{Fault}
use Rattle.mp4_box.specs.declared.rules.Rule.{Rule}
use Rattle.mp4_box.specs.declared.headers.FourCc.{FourCc}
use Rattle.mp4_box.specs.declared.rules.Rule.TheVariants.{EntryIndex, Version, FieldLength}
use Rattle.mp4_box.specs.Checks.{along, alone, fault_by, one}
use Rattle.mp4_box.specs.Fields.{number_in, version_in}
use Rattle.mp4_box.specs.Headers.{IsBytes, IsWhole}
use Rattle.mp4_box.specs.Paths.{at_path, of_kind}
use Rattle.mp4_box.specs.Trees.{Box, box_at, children, first_of}
use Rattle.mp4_box.proofs.GrammarLemmas.{option_is, whole_found}
use Rattle.mp4_init.specs.declared.table.Track.{Track}
use Rattle.mp4_traf.specs.declared.run.Run.{Run}
use Rattle.mp4_frag.specs.After.{IsOneOf}
use Rattle.mp4_traf.specs.Kinds.{tfhd, traf, trun, to_tfhd, to_trun}
use Rattle.mp4_traf.specs.Fields.{flags_in, number_or, payload_of}
use Rattle.mp4_traf.specs.Tfhd.{fields_of, track_id}
use Rattle.mp4_traf.specs.Trun.{trun_broken, trun_fields}
use Rattle.mp4_traf.specs.Rules.{entry_of, fault_if, has_entry, tfhd_faults, track_faults, track_with, trun_length}
use Rattle.mp4_frag.specs.Rules.{form_faults}
use Rattle.mp4_traf.specs.Rows.{durations, field_at, group_at, offset_at, offset_by, row_of, rows_of, default_flags_of}
use Rattle.mp4_traf.specs.Runs.{MoofBytes, base_of, end_place, no_track, run_at, run_of, runs_from, runs_of, shared_by, tfhd_of, track_of, traf_of, trafs_by}
use Rattle.mp4_frag.specs.Moofs.{IsRead, moof_of, moof_runs}
use Rattle.mp4_frag.proofs.MoofLemmas.{early, last_none, moof_is, read_early, values}
use Rattle.mp4_traf.proofs.ChildLemmas.{on_path}
use Rattle.mp4_frag.proofs.PlaceLemmas.{Lies, children_lie, kind_all, moof_lies}
use Rattle.mp4_box.proofs.ByteLemmas.{number_small}
use Rattle.mp4_frag.proofs.RunRowLemmas as run_rows
use Rattle.mp4_pieces.specs.declared.piece.Piece.{Piece}
use Rattle.mp4_pieces.specs.Pieces.{IsPieceOf, piece_at, rows_in}
use Rattle.mp4_traf.specs.Ranges.{IsRunOf}
use Rattle.mp4_pieces.proofs.PieceLemmas.{piece_ends}
use Rattle.mp4_frag.proofs.ReadRunLemmas.{runs_are}
use Rattle.mp4_cut.specs.Moof.{written_fragment}
use Rattle.mp4_cut.specs.Reads.{CanBeRead, FitsOffset, FitsRow, FitsTrack, IsSoundRun}
use Rattle.mp4_cut.proofs.PieceLemmas.{count_is}

-- ---- a row

not_zero : (v : ℕ) → (suc v == 0) ≡ false
not_zero v = grind (arith, nat_tests)

twos_fits : (v n : ℕ) → n < 2 ^ 32 → FitsOffset (suc v) (twos_complement 4 n)
twos_fits v n h =
    elim (cases_lt n (2 ^ 31)) [
      | inl low ↦ let t : ltb n (2 ^ 31) ≡ true = lt-ltb _ _ low in rw t low
      | inr high ↦
          let t : ltb n (2 ^ 31) ≡ false = le-ltb _ _ high in
          let z : twos_complement 4 n ≡ negsuc (2 ^ 32 - 1 - n) = rw t (omega (arith, ints)) in
          subst (FitsOffset (suc v)) (sym z) (omega arith)
    ]

offset_fits : (v n : ℕ) → n < 2 ^ 32 → FitsOffset v (offset_by v n)
offset_fits zero n h = h
offset_fits (suc v) n h = rw (not_zero v) (twos_fits v n h)

none_fits : (v : ℕ) → FitsOffset v (pos 0)
none_fits zero = omega arith
none_fits (suc v) = omega arith

offset_at_fits : (moof_bytes : List ℕ) (v g : ℕ) (at : Option ℕ) → IsBytes moof_bytes → FitsOffset v (offset_at moof_bytes v g at)
offset_at_fits moof_bytes v g None fits = none_fits v
offset_at_fits moof_bytes v g (Some at) fits = offset_fits v (number_in moof_bytes (g + at)) (number_small moof_bytes (g + at) fits)

field_small : (moof_bytes : List ℕ) (g : ℕ) (at : Option ℕ) (default_value : ℕ) → IsBytes moof_bytes → default_value < 2 ^ 32 → field_at moof_bytes g at default_value < 2 ^ 32
field_small moof_bytes g None default_value fits small = small
field_small moof_bytes g (Some at) default_value fits small = number_small moof_bytes (g + at) fits

-- the defaults of a run
record HasDefaults (run : Run) : Type 0 where
  duration : run.duration < 2 ^ 32
  size : run.size < 2 ^ 32
  flags : run.flags < 2 ^ 32
  first : run.default_first_flags < 2 ^ 32

default_small : (t : Bool) (m n : ℕ) → m < 2 ^ 32 → n < 2 ^ 32 → cond t m n < 2 ^ 32
default_small true m n p q = p
default_small false m n p q = q

row_fits : (run : Run) (moof_bytes : List ℕ) (i : ℕ) → IsBytes moof_bytes → HasDefaults run → FitsRow run.version (row_of run moof_bytes i)
unfolding row_of
row_fits run moof_bytes i fits d = record {
  duration = field_small moof_bytes (group_at run i) run.fields.sample_duration run.duration fits d.duration;
  size = field_small moof_bytes (group_at run i) run.fields.sample_size run.size fits d.size;
  flags = field_small moof_bytes (group_at run i) run.fields.sample_flags (default_flags_of run i) fits (default_small (i == 0) _ _ d.first d.flags);
  offset = offset_at_fits moof_bytes run.version (group_at run i) run.fields.sample_composition_time_offset fits;
}

rows_fit_from : (run : Run) (moof_bytes : List ℕ) (i n : ℕ) → IsBytes moof_bytes → HasDefaults run → AllByRecursion (FitsRow run.version) (map (row_of run moof_bytes) (range_with_len i n))
rows_fit_from run moof_bytes i zero fits d = tt
rows_fit_from run moof_bytes i (suc n) fits d = (row_fits run moof_bytes i fits d, rows_fit_from run moof_bytes (i + 1) n fits d)

-- ---- a run

-- what is known of a traf of one
record IsSoundTraf (tracks : List Track) (t : Box) : Type 0 where
  of : Track
  known : track_with (track_id (tfhd_of t)) tracks ≡ Some of
  entry : has_entry of (entry_of of (tfhd_of t)) ≡ true
  bytes : IsBytes (tfhd_of t)
  fits : FitsTrack of

broken_version : (t : Bool) (o : Option Rule) → cond t (Some Version) o ≡ None → t ≡ false
broken_version true o e = absurd cc
broken_version false o e = refl

broken_rest : (t : Bool) (o : Option Rule) → cond t (Some FieldLength) o ≡ None → o ≡ None
broken_rest true o e = absurd cc
broken_rest false o e = e

version_is : (p : List ℕ) → trun_broken p ≡ None → version_in p ≤ 1
unfolding trun_broken
version_is p e = ltb-false _ _ (broken_version (ltb 1 (version_in p)) _ (broken_rest (ltb (length p) 4) _ e))

both_true : (a b : Bool) → (a && b) ≡ true → (a ≡ true) × (b ≡ true)
both_true true b e = (refl, e)
both_true false b e = absurd cc

not_true : (a : Bool) → not a ≡ true → a ≡ false
not_true true e = absurd cc
not_true false e = refl

record HasEntry (of : Track) (index : ℕ) : Type 0 where
  low : 1 ≤ index
  high : index ≤ of.entries

entry_is : (of : Track) (index : ℕ) → has_entry of index ≡ true → HasEntry of index
entry_is of index e =
    let both = both_true (ltb 0 index) (not (ltb of.entries index)) e in
    record { low = ltb-true _ _ both.0; high = ltb-false _ _ (not_true (ltb of.entries index) both.1) }

number_or_small : (p : List ℕ) (o : Option ℕ) (default_value : ℕ) → IsBytes p → default_value < 2 ^ 32 → number_or p o default_value < 2 ^ 32
number_or_small p None default_value fits small = small
number_or_small p (Some at) default_value fits small = number_small p at fits

first_small : (p : List ℕ) (o : Option ℕ) (default_value : ℕ) → IsBytes p → default_value < 2 ^ 32 → unwrap_or (option_map (number_in p) o) default_value < 2 ^ 32
first_small p None default_value fits small = small
first_small p (Some at) default_value fits small = number_small p at fits

track_is : (tracks : List Track) (t : Box) (of : Track) → track_with (track_id (tfhd_of t)) tracks ≡ Some of → track_of tracks t ≡ of
track_is tracks t of e = ap (λ (x : Option Track). unwrap_or x no_track) e

run_sound : (h : MoofBytes) (tracks : List Track) (t : Box) (sound : IsSoundTraf tracks t) (time : ℕ) (last : ℤ) (b : Box) → IsBytes h.bytes → IsBytes b.payload → trun_broken b.payload ≡ None → IsSoundRun tracks h.bytes (run_of (shared_by h sound.of t) time last b)
unfolding run_of run_at
run_sound h tracks t sound time last b moof_bytes fits good =
    let p = tfhd_of t in
    let f = fields_of p in
    let run = run_of (shared_by h sound.of t) time last b in
    let entry = entry_is sound.of (entry_of sound.of p) sound.entry in
    let flags = number_or_small p f.default_sample_flags sound.of.flags sound.bytes sound.fits.flags in
    let size = number_or_small p f.default_sample_size sound.of.size sound.bytes sound.fits.size in
    record {
      track = number_small p 4 sound.bytes;
      version = version_is b.payload good;
      of = sound.of;
      known = sound.known;
      timescale = refl;
      low = entry.low;
      high = entry.high;
      most = sound.fits.entries;
      size = size;
      rows = rows_fit_from run h.bytes 0 _ moof_bytes (record {
        duration = number_or_small p f.default_sample_duration sound.of.duration sound.bytes sound.fits.duration;
        size = size;
        flags = flags;
        first = first_small b.payload (trun_fields (flags_in b.payload)).first_sample_flags _ fits flags;
      });
    }

runs_sound : (h : MoofBytes) (tracks : List Track) (t : Box) (sound : IsSoundTraf tracks t) (time : ℕ) (last : ℤ) (bs : List Box) → IsBytes h.bytes → AllByRecursion (λ (b : Box). IsBytes b.payload) bs → AllByRecursion (λ (b : Box). trun_broken b.payload ≡ None) bs
    → AllByRecursion (IsSoundRun tracks h.bytes) (runs_from (shared_by h sound.of t) time last bs)
unfolding runs_from
runs_sound h tracks t sound time last [] moof_bytes fits good = tt
runs_sound h tracks t sound time last (b ∷ bs) moof_bytes fits good =
    let run = run_of (shared_by h sound.of t) time last b in
    (run_sound h tracks t sound time last b moof_bytes fits.0 good.0, runs_sound h tracks t sound run.end (end_place run) bs moof_bytes fits.1 good.1)

-- ---- a moof

fault_none : (r : Option Rule) (b : Box) → fault_by r b ≡ [] → r ≡ None
fault_none None b e = refl
fault_none (Some r) b e = absurd cc

truns_in : (bs : List Box) → flat_map trun_length bs ≡ [] → AllByRecursion (λ (b : Box). trun_broken b.payload ≡ None) bs
truns_in [] e = tt
truns_in (b ∷ bs) e = let both = last_none (trun_length b) (flat_map trun_length bs) e in (fault_none (trun_broken b.payload) b both.0, truns_in bs both.1)

-- nothing is at fault with what is below each of these
none_below : (f : Box → List Fault) (kind : FourCc) (ts : List Box) → flat_map f (flat_map (at_path (kind ∷ [])) ts) ≡ [] → AllByRecursion (λ (t : Box). flat_map f (of_kind kind (children t)) ≡ []) ts
none_below f kind [] e = tt
none_below f kind (t ∷ ts) e =
    let both = last_none (flat_map f (at_path (kind ∷ []) t)) (flat_map f (flat_map (at_path (kind ∷ [])) ts))
    (sym (flat_map-append f (at_path (kind ∷ []) t) (flat_map (at_path (kind ∷ [])) ts)) ∙ e) in
    (ap (flat_map f) (sym (run_rows.on_path kind t)) ∙ both.0, none_below f kind ts both.1)

none_of : (f : Box → List Fault) (ts : List Box) → flat_map f ts ≡ [] → AllByRecursion (λ (t : Box). f t ≡ []) ts
none_of f [] e = tt
none_of f (t ∷ ts) e = let both = last_none (f t) (flat_map f ts) e in (both.0, none_of f ts both.1)

some_track : (o : Option Track) (b : Box) → track_faults o b ≡ [] → (of : Track) × (o ≡ Some of) × (has_entry of (entry_of of b.payload) ≡ true)
some_track None b e = absurd cc
some_track (Some of) b e = by (has_entry of (entry_of of b.payload)) refl e
  where
    by : (t : Bool) → has_entry of (entry_of of b.payload) ≡ t → fault_if (not t) EntryIndex b ≡ [] → (of' : Track) × (Some of ≡ Some of') × (has_entry of' (entry_of of' b.payload) ≡ true)
    by true t e = (of, refl, t)
    by false t e = absurd cc

same_track : (a b : Track) → Some a ≡ Some b → a ≡ b
same_track a b e = cc

found_fits : (tracks : List Track) (at : Option ℕ) (of : Track) → AllByRecursion FitsTrack tracks → option_and_then (slice_get tracks) at ≡ Some of → FitsTrack of
found_fits tracks None of all e = absurd cc
found_fits [] (Some i) of all e = absurd cc
found_fits (t ∷ tracks) (Some zero) of all e = subst FitsTrack (same_track t of e) all.0
found_fits (t ∷ tracks) (Some (suc i)) of all e = found_fits tracks (Some i) of all.1 e

traf_sound : (tracks : List Track) (h : MoofBytes) (t : Box) → AllByRecursion FitsTrack tracks → Lies h t → one tfhd t ≡ [] → flat_map (tfhd_faults tracks) (of_kind tfhd (children t)) ≡ [] → IsSoundTraf tracks t
unfolding tfhd_faults
traf_sound tracks h t all lies alone_is none = by (of_kind tfhd (children t)) refl alone_is none (kind_all (Lies h) tfhd (children t) (children_lie h t lies))
  where
    by : (bs : List Box) → of_kind tfhd (children t) ≡ bs → alone t bs ≡ [] → flat_map (tfhd_faults tracks) bs ≡ [] → AllByRecursion (Lies h) bs → IsSoundTraf tracks t
    by [] is a n lie = absurd cc
    by (b ∷ bs) is a n lie =
        let here : tfhd_of t ≡ b.payload = ap (λ (cs : List Box). payload_of (first_of cs)) (run_rows.on_path tfhd t ∙ is) in
        let first = last_none (tfhd_faults tracks b) (flat_map (tfhd_faults tracks) bs) n in
        let last = last_none _ (track_faults (track_with (track_id b.payload) tracks) b) first.0 in
        let found = some_track (track_with (track_id b.payload) tracks) b last.1 in
        let known : track_with (track_id (tfhd_of t)) tracks ≡ Some found.0 = ap (λ (p : List ℕ). track_with (track_id p) tracks) here ∙ found.1 in
        record {
          of = found.0;
          known = known;
          entry = ap (λ (p : List ℕ). has_entry found.0 (entry_of found.0 p)) here ∙ found.2;
          bytes = subst IsBytes (sym here) lie.0.bytes;
          fits = found_fits tracks (position (λ (x : Track). x.id == track_id (tfhd_of t)) tracks) found.0 all known;
        }

bytes_of : (h : MoofBytes) (bs : List Box) → AllByRecursion (Lies h) bs → AllByRecursion (λ (b : Box). IsBytes b.payload) bs
bytes_of h [] lie = tt
bytes_of h (b ∷ bs) lie = (lie.0.bytes, bytes_of h bs lie.1)

all_append : (P : Run → Type 0) (xs ys : List Run) → AllByRecursion P xs → AllByRecursion P ys → AllByRecursion P (xs ++ ys)
all_append P [] ys all rest = rest
all_append P (x ∷ xs) ys all rest = (all.0, all_append P xs ys all.1 rest)

traf_runs : (tracks : List Track) (h : MoofBytes) (t : Box) → IsBytes h.bytes → Lies h t → IsSoundTraf tracks t → flat_map trun_length (of_kind trun (children t)) ≡ [] → AllByRecursion (IsSoundRun tracks h.bytes) (runs_of (traf_of h tracks t))
unfolding traf_of
traf_runs tracks h t moof_bytes lies sound good =
    let truns = of_kind trun (children t) in
    subst (λ (of : Track). AllByRecursion (IsSoundRun tracks h.bytes) (runs_from (shared_by h of t) (base_of (track_of tracks t).next t) (pos h.offset) truns)) (sym (track_is tracks t sound.of sound.known))
    (runs_sound h tracks t sound (base_of (track_of tracks t).next t) (pos h.offset) truns moof_bytes (bytes_of h truns (kind_all (Lies h) trun (children t) (children_lie h t lies))) (truns_in truns good))

trafs_runs : (tracks : List Track) (h : MoofBytes) (ts : List Box) → AllByRecursion FitsTrack tracks → IsBytes h.bytes → AllByRecursion (Lies h) ts → AllByRecursion (λ (t : Box). one tfhd t ≡ []) ts
    → AllByRecursion (λ (t : Box). flat_map (tfhd_faults tracks) (of_kind tfhd (children t)) ≡ []) ts → AllByRecursion (λ (t : Box). flat_map trun_length (of_kind trun (children t)) ≡ []) ts
    → AllByRecursion (IsSoundRun tracks h.bytes) (flat_map runs_of (map (traf_of h tracks) ts))
trafs_runs tracks h [] all moof_bytes lie ones tfhds truns = tt
trafs_runs tracks h (t ∷ ts) all moof_bytes lie ones tfhds truns =
    all_append (IsSoundRun tracks h.bytes) (runs_of (traf_of h tracks t)) (flat_map runs_of (map (traf_of h tracks) ts))
    (traf_runs tracks h t moof_bytes lie.0 (traf_sound tracks h t all lie.0 ones.0 tfhds.0) truns.0) (trafs_runs tracks h ts all moof_bytes lie.1 ones.1 tfhds.1 truns.1)

-- what is asked of the boxes of a moof
record IsSoundMoof (tracks : List Track) (m : Box) : Type 0 where
  ones : AllByRecursion (λ (t : Box). one tfhd t ≡ []) (of_kind traf (children m))
  tfhds : AllByRecursion (λ (t : Box). flat_map (tfhd_faults tracks) (of_kind tfhd (children t)) ≡ []) (of_kind traf (children m))
  truns : AllByRecursion (λ (t : Box). flat_map trun_length (of_kind trun (children t)) ≡ []) (of_kind traf (children m))

moof_sound : (tracks : List Track) (m : Box) → form_faults m ≡ [] → along (tfhd_faults tracks) to_tfhd m ≡ [] → IsSoundMoof tracks m
unfolding form_faults at_path
moof_sound tracks m form tfhds =
    let last = last_none _ (along trun_length to_trun m) form in
    let six = last_none _ _ last.0 in
    let five = last_none _ _ six.0 in
    let four = last_none _ _ five.0 in
    let three = last_none _ _ four.0 in
    let two = last_none _ (along (one tfhd) (traf ∷ []) m) three.0 in
    record {
      ones = none_of (one tfhd) (of_kind traf (children m)) (ap (flat_map (one tfhd)) (sym (on_path m)) ∙ two.1);
      tfhds = none_below (tfhd_faults tracks) tfhd (of_kind traf (children m)) tfhds;
      truns = none_below trun_length trun (of_kind traf (children m)) last.1;
    }

pub all_sound : (h : MoofBytes) (tracks : List Track) → IsWhole h.bytes → IsBytes h.bytes → AllByRecursion FitsTrack tracks → IsRead h tracks → AllByRecursion (IsSoundRun tracks h.bytes) (moof_runs h tracks)
all_sound h tracks whole moof_bytes all read =
    elim (option_is (box_at h.offset h.bytes)) [
      | inl none ↦ absurd (whole_found h.offset h.bytes whole none)
      | inr some ↦
          let m = some.0 in
          let is = moof_is h.offset h.bytes m some.1 in
          let e = early h tracks (read_early h tracks read) in
          let sound = moof_sound tracks m (ap form_faults (sym is) ∙ e.form) (ap (along (tfhd_faults tracks) to_tfhd) (sym is) ∙ (values tracks (moof_of h) e.value).tfhds) in
          let lie = kind_all (Lies h) traf (children m) (children_lie h m (moof_lies h m whole moof_bytes some.1)) in
          subst (λ (b : Box). AllByRecursion (IsSoundRun tracks h.bytes) (flat_map runs_of (trafs_by h tracks (children b)))) (sym is)
          (trafs_runs tracks h (of_kind traf (children m)) all moof_bytes lie sound.ones sound.tfhds sound.truns)
    ]

-- ---- a piece

all_take : {A : Type 0} (P : A → Type 0) (n : ℕ) (xs : List A) → AllByRecursion P xs → AllByRecursion P (take n xs)
all_take P zero xs all = tt
all_take P (suc n) [] all = tt
all_take P (suc n) (x ∷ xs) all = (all.0, all_take P n xs all.1)

all_drop : {A : Type 0} (P : A → Type 0) (n : ℕ) (xs : List A) → AllByRecursion P xs → AllByRecursion P (drop n xs)
all_drop P zero xs all = all
all_drop P (suc n) [] all = tt
all_drop P (suc n) (x ∷ xs) all = all_drop P n xs all.1

duration_is : (moof_bytes : List ℕ) (run : Run) (p : Piece) → IsPieceOf moof_bytes run p → durations (rows_in moof_bytes run p) ≡ p.plain.duration
unfolding piece_at
duration_is moof_bytes run p is = sym (ap (λ (q : Piece). q.plain.duration) is.is)

pub can_be_read : (tracks : List Track) (moof_bytes : List ℕ) (run : Run) (p : Piece) → IsSoundRun tracks moof_bytes run → IsRunOf moof_bytes run → IsPieceOf moof_bytes run p → CanBeRead tracks (written_fragment moof_bytes run p)
can_be_read tracks moof_bytes run p sound of is =
    let range = piece_ends moof_bytes run p of is in
    record {
      fits = record {
        track = sound.track;
        entry = omega (arith, sound.high, sound.most);
        version = sound.version;
        end = omega (arith, range.time, duration_is moof_bytes run p is);
        count = omega (arith, count_is moof_bytes run p is, is.within, of.few);
        rows = all_take (FitsRow run.version) p.plain.count (drop p.plain.first (rows_of run moof_bytes)) (all_drop (FitsRow run.version) p.plain.first (rows_of run moof_bytes) sound.rows);
      };
      track = sound.of;
      known = sound.known;
      low = sound.low;
      high = sound.high;
    }

all_middle : (P : Run → Type 0) (before : List Run) (run : Run) (after : List Run) → AllByRecursion P (before ++ run ∷ after) → P run
all_middle P [] run after all = all.0
all_middle P (b ∷ before) run after all = all_middle P before run after all.1

pub piece_can_be_read : (h : MoofBytes) (tracks : List Track) (run : Run) (p : Piece) → IsWhole h.bytes → IsBytes h.bytes → h.offset + length h.bytes ≤ 2 ^ 62 → AllByRecursion FitsTrack tracks → IsRead h tracks → IsOneOf run (moof_runs h tracks) → IsPieceOf h.bytes run p
    → CanBeRead tracks (written_fragment h.bytes run p)
piece_can_be_read h tracks run p whole moof_bytes room all read (before, after, s) is =
    let sound = all_middle (IsSoundRun tracks h.bytes) before run after (subst (λ (rs : List Run). AllByRecursion (IsSoundRun tracks h.bytes) rs) s.is (all_sound h tracks whole moof_bytes all read)) in
    let are = all_middle (λ (r : Run). r.size < 2 ^ 32 → IsRunOf h.bytes r) before run after (subst (λ (rs : List Run). AllByRecursion (λ (r : Run). r.size < 2 ^ 32 → IsRunOf h.bytes r) rs) s.is (runs_are h tracks (omega (arith, room)) whole moof_bytes read)) in
    can_be_read tracks h.bytes run p sound (are sound.size) is
