-- The numbers of the records of an accepted fragment have 64 and 32 bits.
use Rattle.std.proofs.Common.{◌≡◌, ◌+◌, ◌-◌, ◌<◌, ◌≤◌, ◌^◌, ◌==◌, ◌+ℤ◌, ◌-ℤ◌, ◌≤ℤ◌, ℕ, ℤ, pos, negsuc, zero, suc, Bool, true, false, cond, ltb, List, [], ◌∷◌, ◌++◌, length, drop, map, Option, Some, None, refl, sym, ap, arith, subst, inl, inr}
use Rattle.std.specs.Prelude.{option_map, slice_get}
use Rattle.std.specs.Int.{int_min, w64}
use Rattle.std.specs.Prelude.{FitsSigned}
use Rattle.std.specs.List.{AllByRecursion, position, range_with_len}
use Rattle.std.specs.Option.{option_and_then, unwrap_or}
use Rattle.std.proofs.lemmas.Bool.{ltb-false}
use Rattle.std.proofs.lemmas.Int.{int_min_is, ints}
use Rattle.std.proofs.lemmas.List.Sums.{sum_by-cons}
use Rattle.byteorder.specs.Endian.{big_number, twos_complement}
use Rattle.mp4_box.specs.Fields.{long_number_in, number_in, version_in}
use Rattle.mp4_box.specs.Headers.{IsBytes}
use Rattle.mp4_box.specs.Paths.{at_path, of_kind}
use Rattle.mp4_box.specs.Trees.{Box, box_at, children, first_of}
use Rattle.mp4_box.proofs.ByteLemmas.{OfBytes, children_of_bytes, kind_of_bytes, number_small, path_of_bytes}
use Rattle.mp4_box.proofs.GrammarLemmas.{lies_at, option_is}
use Rattle.mp4_box.proofs.HeaderLemmas.{IsBytes-drop}
use Rattle.mp4_init.specs.declared.table.Track.{Track}
use Rattle.mp4_traf.specs.Fields.{payload_of}
use Rattle.mp4_traf.specs.Kinds.{mfhd, tfdt, tfhd, traf}
use Rattle.mp4_traf.specs.Ranges.{IsSound}
use Rattle.mp4_traf.specs.Runs.{MoofBytes, TrackFragment, base_by, base_of, end_of, last_end, no_track, runs_of, tfhd_of, track_of, traf_of}
use Rattle.mp4_traf.specs.Tfdt.{base_media_decode_time}
use Rattle.mp4_traf.specs.Tfhd.{fields_of, track_id}
use Rattle.mp4_traf.specs.Rows.{group_at, offset_at, offset_by, row_of, rows_of}
use Rattle.mp4_traf.specs.SyncSamples.{is_sync}
use Rattle.mp4_traf.specs.declared.rows.Row.{Row}
use Rattle.mp4_traf.specs.declared.run.Run.{Run}
use Rattle.mp4_traf.proofs.TrafTotalLemmas.{few_bytes_in, few_samples}
use Rattle.mp4_frag.specs.Moofs.{moof_of, moof_trafs, no_box, sequence_of}
use Rattle.mp4_frag.proofs.MoofLemmas.{moof_is}
use Rattle.mp4_frag.proofs.MoofTotalLemmas.{moof_sound}
use Rattle.mp4_frag.proofs.SoundLemmas.{number_or_small}
use Rattle.mp4_machine.specs.Bodies.{longest}
use Rattle.mp4_grammar.specs.AcceptedFragments.{IsAccepted, IsTrack}
use Rattle.mp4_grammar.specs.Meanings.{Fragment}
use Rattle.mp4_grammar.specs.Implementation.FoundRows.{earliest_from}
use Rattle.mp4_grammar.specs.Presented.{all_rows, earliest_in, once_if, syncs_in}
use Rattle.mp4_grammar.proofs.PresentedLemmas.{earliest_is, few_rows}
use Rattle.mp4_grammar.specs.TrafRecords.{IsRecord, size_or_all, traf_record}

-- ---- the track of a traf

no_track_fits : IsTrack no_track
no_track_fits = record { fields = record { id = omega arith; timescale = omega arith; handler = omega arith; entries = omega arith; desc = omega arith; duration = omega arith; size = omega arith; flags = omega arith }; next = omega arith }

found_fits : (tracks : List Track) (i : ℕ) → AllByRecursion IsTrack tracks → IsTrack (unwrap_or (slice_get tracks i) no_track)
found_fits [] i all = no_track_fits
found_fits (t ∷ ts) zero all = all.0
found_fits (t ∷ ts) (suc i) all = found_fits ts i all.1

known_fits : (tracks : List Track) (o : Option ℕ) → AllByRecursion IsTrack tracks → IsTrack (unwrap_or (option_and_then (slice_get tracks) o) no_track)
known_fits tracks None all = no_track_fits
known_fits tracks (Some i) all = found_fits tracks i all

track_fits : (tracks : List Track) (b : Box) → AllByRecursion IsTrack tracks → IsTrack (track_of tracks b)
track_fits tracks b all = known_fits tracks (position (λ (t : Track). t.id == track_id (tfhd_of b)) tracks) all

-- ---- payloads

payload_fits : (bs : List Box) → AllByRecursion OfBytes bs → IsBytes (payload_of (first_of bs))
payload_fits [] all = λ i. omega arith
payload_fits (b ∷ bs) all = all.0

moof_fits : (h : MoofBytes) → IsBytes h.bytes → OfBytes (moof_of h)
moof_fits h fits = elim (option_is (box_at h.offset h.bytes)) [
  | inl none ↦
      let is : moof_of h ≡ no_box = ap (λ (m : Option Box). unwrap_or m no_box) none in
      subst OfBytes (sym is) (λ i. omega arith)
  | inr some ↦ subst OfBytes (sym (moof_is h.offset h.bytes some.0 some.1)) (lies_at h.offset h.bytes some.0 fits some.1).bytes
]

tfhd_fits : (b : Box) → OfBytes b → IsBytes (tfhd_of b)
tfhd_fits b fits = payload_fits (at_path (tfhd ∷ []) b) (path_of_bytes (tfhd ∷ []) b fits)

sequence_fits : (h : MoofBytes) → IsBytes h.bytes → sequence_of h < 2 ^ 32
sequence_fits h fits = number_small (payload_of (first_of (at_path (mfhd ∷ []) (moof_of h)))) 4 (payload_fits (at_path (mfhd ∷ []) (moof_of h)) (path_of_bytes (mfhd ∷ []) (moof_of h) (moof_fits h fits)))

-- ---- times

eight_bytes : (x : List ℕ) → IsBytes x → big_number 8 x < 2 ^ 64
eight_bytes x fits = omega (arith, fits 0, fits 1, fits 2, fits 3, fits 4, fits 5, fits 6, fits 7)

long_small : (p : List ℕ) (at : ℕ) → IsBytes p → long_number_in p at < 2 ^ 64
long_small p at fits = by (ltb (length p) (at + 8))
  where
    by : (t : Bool) → cond t 0 (big_number 8 (drop at p)) < 2 ^ 64
    by true = omega arith
    by false = eight_bytes (drop at p) (IsBytes-drop at p fits)

time_small : (p : List ℕ) → IsBytes p → base_media_decode_time p < 2 ^ 64
time_small p fits = by (version_in p == 0)
  where
    by : (t : Bool) → cond t (number_in p 4) (long_number_in p 4) < 2 ^ 64
    by true = omega (arith, number_small p 4 fits)
    by false = long_small p 4 fits

base_small : (next : ℕ) (bs : List Box) → AllByRecursion OfBytes bs → next < 2 ^ 64 → base_by next (first_of bs) < 2 ^ 64
base_small next [] all small = small
base_small next (d ∷ bs) all small = time_small d.payload all.0

begins_small : (tracks : List Track) (b : Box) → AllByRecursion IsTrack tracks → OfBytes b → base_of (track_of tracks b).next b < 2 ^ 64
begins_small tracks b all fits = base_small (track_of tracks b).next (at_path (tfdt ∷ []) b) (path_of_bytes (tfdt ∷ []) b fits) (track_fits tracks b all).next

last_small : (time : ℕ) (runs : List Run) → time < 2 ^ 64 → AllByRecursion (λ (run : Run). run.end < 2 ^ 64) runs → last_end time runs < 2 ^ 64
last_small time [] small all = small
last_small time (run ∷ runs) small all = last_small run.end runs all.0 all.1

-- ---- a record

size_small : (at : ℕ) (end : Option ℕ) → ((e : ℕ) → end ≡ Some e → e ≤ longest) → size_or_all (option_map (λ (e : ℕ). e - at) end) < 2 ^ 64
size_small at None near = omega arith
size_small at (Some e) near = omega (arith, near e refl)

sync_small : (t : Bool) → once_if t < 2 ^ 32
sync_small true = omega arith
sync_small false = omega arith

-- ---- when samples are presented

-- a signed number of 32 bits, or an unsigned one
record IsOffset (z : ℤ) : Type 0 where
  low : pos 0 ≤ℤ (z +ℤ pos (2 ^ 31))
  high : z ≤ℤ pos (2 ^ 32)

twos_small : (n : ℕ) → n < 2 ^ 32 → IsOffset (twos_complement 4 n)
twos_small n small = by (ltb n (2 ^ 31)) refl
  where
    by : (t : Bool) → ltb n (2 ^ 31) ≡ t → IsOffset (cond t (pos n) (pos n -ℤ pos (2 ^ 32)))
    by true e = record { low = omega (arith, ints); high = omega (arith, ints, small) }
    by false e = record { low = omega (arith, ints, ltb-false _ _ e); high = omega (arith, ints, small) }

offset_small : (version n : ℕ) → n < 2 ^ 32 → IsOffset (offset_by version n)
offset_small version n small = by (version == 0)
  where
    by : (t : Bool) → IsOffset (cond t (pos n) (twos_complement 4 n))
    by true = record { low = omega (arith, ints); high = omega (arith, ints, small) }
    by false = twos_small n small

field_small : (moof_bytes : List ℕ) (version g : ℕ) (o : Option ℕ) → IsBytes moof_bytes → IsOffset (offset_at moof_bytes version g o)
field_small moof_bytes version g None fits = record { low = omega (arith, ints); high = omega (arith, ints) }
field_small moof_bytes version g (Some at) fits = offset_small version (number_in moof_bytes (g + at)) (number_small moof_bytes (g + at) fits)

mapped : (run : Run) (moof_bytes : List ℕ) (i n : ℕ) → IsBytes moof_bytes → AllByRecursion (λ (row : Row). IsOffset row.offset) (map (row_of run moof_bytes) (range_with_len i n))
unfolding row_of
mapped run moof_bytes i zero fits = tt
mapped run moof_bytes i (suc n) fits = (field_small moof_bytes run.version (group_at run i) run.fields.sample_composition_time_offset fits, mapped run moof_bytes (i + 1) n fits)

joined_all : (xs ys : List Row) → AllByRecursion (λ (row : Row). IsOffset row.offset) xs → AllByRecursion (λ (row : Row). IsOffset row.offset) ys → AllByRecursion (λ (row : Row). IsOffset row.offset) (xs ++ ys)
joined_all [] ys all more = more
joined_all (x ∷ xs) ys all more = (all.0, joined_all xs ys all.1 more)

offsets_small : (moof_bytes : List ℕ) (runs : List Run) → IsBytes moof_bytes → AllByRecursion (λ (row : Row). IsOffset row.offset) (all_rows moof_bytes runs)
offsets_small moof_bytes [] fits = tt
offsets_small moof_bytes (run ∷ runs) fits = joined_all (rows_of run moof_bytes) (all_rows moof_bytes runs) (mapped run moof_bytes 0 (run.count - 0) fits) (offsets_small moof_bytes runs fits)

least_small : (best : ℤ) (elapsed : ℕ) (row : Row) → IsOffset best → IsOffset row.offset → IsOffset (int_min best (pos elapsed +ℤ row.offset))
least_small best elapsed row is small =
    let least = int_min_is best (pos elapsed +ℤ row.offset) in
    record { low = omega (arith, ints, least, is.low, small.low); high = omega (arith, ints, least, is.high) }

found_small : (best : ℤ) (elapsed : ℕ) (rows : List Row) → IsOffset best → AllByRecursion (λ (row : Row). IsOffset row.offset) rows → IsOffset (unwrap_or (earliest_from (Some best) elapsed rows) (pos 0))
unfolding earliest_from
found_small best elapsed [] is all = is
found_small best elapsed (row ∷ rows) is all = found_small (int_min best (pos elapsed +ℤ row.offset)) (elapsed + row.duration) rows (least_small best elapsed row is all.0) all.1

first_small : (row : Row) → IsOffset row.offset → IsOffset (pos 0 +ℤ row.offset)
first_small row is = record { low = omega (arith, ints, is.low); high = omega (arith, ints, is.high) }

all_small : (rows : List Row) → AllByRecursion (λ (row : Row). IsOffset row.offset) rows → IsOffset (unwrap_or (earliest_from None 0 rows) (pos 0))
unfolding earliest_from
all_small [] all = record { low = omega (arith, ints); high = omega (arith, ints) }
all_small (row ∷ rows) all = found_small (pos 0 +ℤ row.offset) (0 + row.duration) rows (first_small row all.0) all.1

offset_fits : (z : ℤ) → IsOffset z → FitsSigned w64 z
offset_fits (pos n) is = record { sfits = omega (arith, ints, is.high) }
offset_fits (negsuc n) is = record { sfits = omega (arith, ints, is.low) }

earliest_fits : (t : TrackFragment) → IsSound t → FitsSigned w64 (earliest_in (all_rows t.shared.moof.bytes (runs_of t)))
earliest_fits t sound =
    let rows = all_rows t.shared.moof.bytes (runs_of t) in
    offset_fits (earliest_in rows) (subst IsOffset (earliest_is rows) (all_small rows (offsets_small t.shared.moof.bytes (runs_of t) sound.moof_bytes)))

once_most : (t : Bool) → once_if t ≤ 1
once_most true = omega arith
once_most false = omega arith

syncs_few : (rows : List Row) → syncs_in rows ≤ length rows
syncs_few [] = omega arith
syncs_few (row ∷ rows) = omega (arith, sum_by-cons (λ (row : Row). once_if (is_sync row.flags)) row rows, once_most (is_sync row.flags), syncs_few rows)

-- what a traf of an accepted fragment is
pub record IsTraf (f : Fragment) (t : TrackFragment) : Type 0 where
  time : t.time < 2 ^ 64
  end : end_of t < 2 ^ 64
  track : t.shared.header.track < 2 ^ 32
  size : t.shared.header.size < 2 ^ 32
  sound : IsSound t

traf_is : (f : Fragment) (b : Box) → IsAccepted f → OfBytes b → IsSound (traf_of f.moof f.tracks b) → IsTraf f (traf_of f.moof f.tracks b)
unfolding traf_of
traf_is f b is fits sound =
    let time = begins_small f.tracks b is.tracks fits in
    record {
      time = time;
      end = last_small (base_of (track_of f.tracks b).next b) (runs_of (traf_of f.moof f.tracks b)) time sound.ends;
      track = number_small (tfhd_of b) 4 (tfhd_fits b fits);
      size = number_or_small (tfhd_of b) (fields_of (tfhd_of b)).default_sample_size (track_of f.tracks b).size (tfhd_fits b fits) (track_fits f.tracks b is.tracks).fields.size;
      sound = sound;
    }

record_is : (f : Fragment) (t : TrackFragment) → IsAccepted f → IsTraf f t → IsRecord (traf_record f t)
record_is f t is traf = record {
  at = omega (arith, is.near);
  size = size_small f.moof.offset f.payload.end is.mdat;
  time = traf.time;
  duration = omega (arith, traf.end);
  media = few_bytes_in t traf.sound traf.size;
  sequence = sequence_fits f.moof is.moof_bytes;
  track = traf.track;
  timescale = (known_fits f.tracks (position (λ (x : Track). x.id == t.shared.header.track) f.tracks) is.tracks).fields.timescale;
  samples = few_samples t traf.sound;
  sync = sync_small _;
  syncs = omega (arith, syncs_few (all_rows t.shared.moof.bytes (runs_of t)), few_rows t traf.sound);
  ended = (known_fits f.tracks (position (λ (x : Track). x.id == t.shared.header.track) f.tracks) is.tracks).next;
  earliest = earliest_fits t traf.sound;
  handler = (known_fits f.tracks (position (λ (x : Track). x.id == t.shared.header.track) f.tracks) is.tracks).fields.handler;
  entries = (known_fits f.tracks (position (λ (x : Track). x.id == t.shared.header.track) f.tracks) is.tracks).fields.entries;
}

trafs_are : (f : Fragment) (bs : List Box) → IsAccepted f → AllByRecursion OfBytes bs → AllByRecursion IsSound (map (traf_of f.moof f.tracks) bs) → AllByRecursion (IsTraf f) (map (traf_of f.moof f.tracks) bs)
trafs_are f [] is fits sound = tt
trafs_are f (b ∷ bs) is fits sound = (traf_is f b is fits.0 sound.0, trafs_are f bs is fits.1 sound.1)

-- all trafs of an accepted fragment
pub accepted_trafs : (f : Fragment) → IsAccepted f → AllByRecursion (IsTraf f) (moof_trafs f.moof f.tracks)
accepted_trafs f is =
    trafs_are f (of_kind traf (children (moof_of f.moof))) is
    (kind_of_bytes traf (children (moof_of f.moof)) (children_of_bytes (moof_of f.moof) (moof_fits f.moof is.moof_bytes)))
    (moof_sound f.moof f.tracks is.near is.whole is.moof_bytes is.read)

records_are : (f : Fragment) (ts : List TrackFragment) → IsAccepted f → AllByRecursion (IsTraf f) ts → AllByRecursion (λ (t : TrackFragment). IsRecord (traf_record f t)) ts
records_are f [] is all = tt
records_are f (t ∷ ts) is all = (record_is f t is all.0, records_are f ts is all.1)

-- and their records
pub accepted_records : (f : Fragment) → IsAccepted f → AllByRecursion (λ (t : TrackFragment). IsRecord (traf_record f t)) (moof_trafs f.moof f.tracks)
accepted_records f is = records_are f (moof_trafs f.moof f.tracks) is (accepted_trafs f is)

-- when they end
pub ends_small : (f : Fragment) (ts : List TrackFragment) → AllByRecursion (IsTraf f) ts → AllByRecursion (λ (t : TrackFragment). end_of t < 2 ^ 64) ts
ends_small f [] all = tt
ends_small f (t ∷ ts) all = (all.0.end, ends_small f ts all.1)
