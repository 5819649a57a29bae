-- The run of a moof that was written.
use Rattle.std.proofs.Common.{◌≡◌, ℕ, ◌+◌, ◌-◌, ◌<◌, ◌^◌, Bool, true, false, ltb, cond, List, [], ◌∷◌, length, ◌++◌, Option, Some, refl, sym, ap, subst, ◌∙◌, arith, ℤ, pos, map, append-nil}
use Rattle.std.specs.Prelude.{option_map}
use Rattle.std.specs.List.{AllByRecursion, flat_map, range_with_len}
use Rattle.std.specs.Option.{unwrap_or}
use Rattle.byteorder.specs.Endian.{big_bytes, twos_complement}
use Rattle.mp4_box.specs.Fields.{number_in}
use Rattle.mp4_box.specs.Paths.{of_kind}
use Rattle.mp4_box.specs.Trees.{Box, box_at, children, first_of}
use Rattle.mp4_init.specs.declared.table.Track.{Track}
use Rattle.mp4_traf.specs.declared.run.Run.{Run}
use Rattle.mp4_traf.specs.declared.rows.Row.{Row}
use Rattle.mp4_traf.specs.declared.traf.TrafHeader.{TrafHeader}
use Rattle.mp4_traf.specs.Kinds.{mfhd, traf, tfhd, tfdt, trun}
use Rattle.mp4_traf.specs.Fields.{flags_in, payload_of, signed_in}
use Rattle.mp4_traf.specs.Tfhd.{tfhd_fields, track_id}
use Rattle.mp4_traf.specs.Trun as trun_words
use Rattle.mp4_traf.specs.Trun.{sample_count, sample_fields, trun_fields}
use Rattle.mp4_traf.specs.Rules.{track_with}
use Rattle.mp4_traf.specs.Rows.{durations, row_of, rows_of, sizes}
use Rattle.mp4_traf.specs.Runs.{MoofBytes, Shared, TrackFragment, base_by, base_of, end_in, header_by, known_track, no_track, run_at, run_of, runs_from, runs_of, start_by, tfhd_of, track_of, traf_of, trafs_by}
use Rattle.mp4_frag.specs.Moofs.{moof_of, moof_runs, moof_trafs}
use Rattle.mp4_frag.proofs.MoofLemmas.{moof_is}
use Rattle.mp4_frag.proofs.RunRowLemmas.{on_path}
use Rattle.mp4_cut.specs.Boxes.{box_bytes, version_and_flags}
use Rattle.mp4_cut.specs.Mfhd.{mfhd_payload}
use Rattle.mp4_cut.specs.Tfhd.{tfhd_payload}
use Rattle.mp4_cut.specs.Tfdt.{tfdt_payload}
use Rattle.mp4_cut.specs.Trun.{sample_bytes, trun_flags}
use Rattle.mp4_cut.specs.Moof.{WrittenFragment, data_offset, in_moof, in_traf, moof_box}
use Rattle.mp4_cut.specs.Reads.{Describes, FitsFields, FitsRow, held_moof}
use Rattle.mp4_pieces.specs.Rooms.{moof}
use Rattle.mp4_pieces.specs.Sizes.{moof_size}
use Rattle.mp4_cut.proofs.FieldLemmas.{groups, long_number_back, number_back, small_twos, trun_flags_back}
use Rattle.mp4_cut.proofs.MoofLemmas.{moof_at, moof_children, moof_found, traf_at, traf_children, trun_at, trun_of}

-- ---- the traf

abbrev pub header_of_track : Track → WrittenFragment → TrafHeader
header_of_track t f = record { track = f.track; timescale = t.timescale; entry = f.entry; duration = t.duration; size = t.size; flags = t.flags }

same_header : (t : Track) (a b c d : ℕ) → a ≡ c → b ≡ d → ◌≡◌ {A = TrafHeader} (record { track = a; timescale = t.timescale; entry = b; duration = t.duration; size = t.size; flags = t.flags }) (record { track = c; timescale = t.timescale; entry = d; duration = t.duration; size = t.size; flags = t.flags })
same_header t a b c d p q = cc

pub id_back : (f : WrittenFragment) → FitsFields f → track_id (tfhd_payload f.track f.entry) ≡ f.track
id_back f fits = number_back (version_and_flags 0 0x020002) (big_bytes 4 f.entry) 4 f.track refl fits.track

pub entry_back : (f : WrittenFragment) → FitsFields f → number_in (tfhd_payload f.track f.entry) 8 ≡ f.entry
entry_back f fits = number_back (version_and_flags 0 0x020002 ++ big_bytes 4 f.track) [] 8 f.entry refl fits.entry

header_back : (t : Track) (f : WrittenFragment) → FitsFields f → header_by t (tfhd_payload f.track f.entry) ≡ header_of_track t f
unfolding tfhd_fields
header_back t f fits =
    same_header t (track_id (tfhd_payload f.track f.entry)) (number_in (tfhd_payload f.track f.entry) 8) f.track f.entry (id_back f fits) (entry_back f fits)

pub tfhd_back : (f : WrittenFragment) (o : ℕ) → FitsFields f → tfhd_of (traf_at f o) ≡ tfhd_payload f.track f.entry
tfhd_back f o fits = ap (λ (bs : List Box). payload_of (first_of bs)) (on_path tfhd (traf_at f o) ∙ ap (of_kind tfhd) (traf_children f o fits))

time_back : (f : WrittenFragment) (next o : ℕ) → FitsFields f → base_of next (traf_at f o) ≡ f.time
time_back f next o fits =
    ap (λ (bs : List Box). base_by next (first_of bs)) (on_path tfdt (traf_at f o) ∙ ap (of_kind tfdt) (traf_children f o fits))
    ∙ long_number_back (version_and_flags 1 0) [] 4 f.time refl (omega (arith, fits.end))

truns_back : (f : WrittenFragment) (o : ℕ) → FitsFields f → of_kind trun (children (traf_at f o)) ≡ trun_at f o ∷ []
truns_back f o fits = ap (of_kind trun) (traf_children f o fits)

track_back : (f : WrittenFragment) (o : ℕ) (tracks : List Track) (t : Track) → FitsFields f → track_with f.track tracks ≡ Some t → track_of tracks (traf_at f o) ≡ t
track_back f o tracks t fits there =
    ap (λ (p : List ℕ). known_track (track_id p) tracks) (tfhd_back f o fits)
    ∙ (ap (λ (id : ℕ). known_track id tracks) (id_back f fits) ∙ ap (λ (x : Option Track). unwrap_or x no_track) there)

-- what the runs of its traf share
abbrev pub shared_in : MoofBytes → Track → WrittenFragment → Shared
shared_in h t f = record { moof = h; header = header_of_track t f; ends_at = end_in h (traf_at f h.offset) }

abbrev pub traf_in : MoofBytes → Track → WrittenFragment → TrackFragment
traf_in h t f = record { shared = shared_in h t f; time = f.time; truns = trun_at f h.offset ∷ [] }

same_traf : (h : MoofBytes) (a b : TrafHeader) (e m n : ℕ) (bs cs : List Box) → a ≡ b → m ≡ n → bs ≡ cs
    → ◌≡◌ {A = TrackFragment} (record { shared = record { moof = h; header = a; ends_at = e }; time = m; truns = bs }) (record { shared = record { moof = h; header = b; ends_at = e }; time = n; truns = cs })
same_traf h a b e m n bs cs p q r = cc

pub traf_back : (h : MoofBytes) (tracks : List Track) (t : Track) (f : WrittenFragment) → FitsFields f → track_with f.track tracks ≡ Some t → traf_of h tracks (traf_at f h.offset) ≡ traf_in h t f
unfolding traf_of
traf_back h tracks t f fits there =
    let b = traf_at f h.offset in
    let track = track_back f h.offset tracks t fits there in
    same_traf h (header_by (track_of tracks b) (tfhd_of b)) (header_of_track t f) (end_in h b) (base_of (track_of tracks b).next b) f.time (of_kind trun (children b)) (trun_at f h.offset ∷ [])
    (ap (λ (x : Track). header_by x (tfhd_of b)) track ∙ (ap (header_by t) (tfhd_back f h.offset fits) ∙ header_back t f fits))
    (time_back f (track_of tracks b).next h.offset fits)
    (truns_back f h.offset fits)

-- ---- the moof

pub moof_back : (f : WrittenFragment) (seq o : ℕ) → FitsFields f → moof_of (held_moof f seq o) ≡ moof_at f seq o
moof_back f seq o fits = moof_is o (moof_box f seq) (moof_at f seq o) (ap (box_at o) (sym (append-nil (moof_box f seq))) ∙ moof_found f seq o [] fits)

pub trafs_back : (f : WrittenFragment) (seq o : ℕ) (tracks : List Track) (t : Track) → FitsFields f → track_with f.track tracks ≡ Some t → moof_trafs (held_moof f seq o) tracks ≡ traf_in (held_moof f seq o) t f ∷ []
trafs_back f seq o tracks t fits there =
    let h = held_moof f seq o in
    ap (λ (m : Box). trafs_by h tracks (children m)) (moof_back f seq o fits)
    ∙ (ap (trafs_by h tracks) (moof_children f seq o fits)
    ∙ ap (λ (x : TrackFragment). x ∷ []) (traf_back h tracks t f fits there))

-- the one run that it has
abbrev pub run_in : MoofBytes → Track → WrittenFragment → Run
run_in h t f = run_of (shared_in h t f) f.time (pos h.offset) (trun_at f h.offset)

pub timescale_back : (h : MoofBytes) (t : Track) (f : WrittenFragment) → (run_in h t f).timescale ≡ t.timescale
unfolding run_of run_at
timescale_back h t f = refl

one_run : (s : Shared) (time : ℕ) (last : ℤ) (b : Box) → runs_from s time last (b ∷ []) ≡ run_of s time last b ∷ []
unfolding runs_from
one_run s time last b = refl

pub one_run_back : (f : WrittenFragment) (seq o : ℕ) (t : Track) → runs_of (traf_in (held_moof f seq o) t f) ≡ run_in (held_moof f seq o) t f ∷ []
one_run_back f seq o t = one_run (shared_in (held_moof f seq o) t f) f.time (pos o) (trun_at f o)

pub runs_back : (f : WrittenFragment) (seq o : ℕ) (tracks : List Track) (t : Track) → FitsFields f → track_with f.track tracks ≡ Some t → moof_runs (held_moof f seq o) tracks ≡ run_in (held_moof f seq o) t f ∷ []
runs_back f seq o tracks t fits there =
    let h = held_moof f seq o in
    ap (flat_map runs_of) (trafs_back f seq o tracks t fits there)
    ∙ (append-nil (runs_of (traf_in h t f)) ∙ one_run_back f seq o t)

-- ---- the values of the run

pub flags_back : (f : WrittenFragment) → flags_in (trun_of f) ≡ trun_flags
flags_back f = trun_flags_back f.version (big_bytes 4 (length f.rows) ++ (big_bytes 4 (data_offset f.rows) ++ flat_map sample_bytes f.rows))

pub count_back : (f : WrittenFragment) → FitsFields f → sample_count (trun_of f) ≡ length f.rows
count_back f fits =
    number_back (version_and_flags f.version trun_flags) (big_bytes 4 (data_offset f.rows) ++ flat_map sample_bytes f.rows) 4 (length f.rows) refl (omega (arith, fits.count))

offset_small : (f : WrittenFragment) → FitsFields f → data_offset f.rows < 2 ^ 31
offset_small f fits = by (ltb (8 + sizes f.rows) (2 ^ 32))
  where
    by : (b : Bool) → moof_size (length f.rows) + cond b 8 16 < 2 ^ 31
    by true = omega (arith, fits.count)
    by false = omega (arith, fits.count)

place_in : (f : WrittenFragment) → FitsFields f → signed_in (trun_of f) 8 ≡ pos (data_offset f.rows)
place_in f fits =
    ap (twos_complement 4)
    (number_back (version_and_flags f.version trun_flags ++ big_bytes 4 (length f.rows)) (flat_map sample_bytes f.rows) 8 (data_offset f.rows) refl (omega (arith, offset_small f fits)))
    ∙ small_twos (data_offset f.rows) (offset_small f fits)

offset_back : (f : WrittenFragment) → FitsFields f → trun_words.data_offset (trun_of f) ≡ Some (pos (data_offset f.rows))
unfolding trun_fields
offset_back f fits =
    ap (λ (flags : ℕ). option_map (signed_in (trun_of f)) (trun_fields flags).data_offset) (flags_back f) ∙ ap Some (place_in f fits)

-- the first 92 bytes of the moof, followed by the fields of its samples
abbrev pub front_of : WrittenFragment → ℕ → List ℕ
front_of f seq =
    big_bytes 4 (8 + length (in_moof f seq)) ++ (moof.0 ++ (box_bytes mfhd (mfhd_payload seq)
    ++ (big_bytes 4 (8 + length (in_traf f)) ++ (traf.0 ++ (box_bytes tfhd (tfhd_payload f.track f.entry)
    ++ (box_bytes tfdt (tfdt_payload f.time)
    ++ (big_bytes 4 (8 + length (trun_of f)) ++ (trun.0 ++ (version_and_flags f.version trun_flags ++ (big_bytes 4 (length f.rows) ++ big_bytes 4 (data_offset f.rows)))))))))))

pub moof_is_front : (f : WrittenFragment) (seq : ℕ) → moof_box f seq ≡ front_of f seq ++ flat_map sample_bytes f.rows
unfolding moof_box
moof_is_front f seq = refl

-- a run that begins there has the rows that were written
pub rows_by : (f : WrittenFragment) (seq : ℕ) (run : Run) → FitsFields f → run.fields ≡ sample_fields trun_flags → run.version ≡ f.version → run.samples_at ≡ 92 → run.count ≡ length f.rows → rows_of run (moof_box f seq) ≡ f.rows
rows_by f seq run fits fields version at count =
    let x : List ℕ = moof_box f seq in
    ap (λ (n : ℕ). map (row_of run x) (range_with_len 0 n)) (omega (arith, count))
    ∙ groups run x (front_of f seq) [] 0 f.rows fields (subst (λ (v : ℕ). AllByRecursion (FitsRow v) f.rows) (sym version) fits.rows)
    (moof_is_front f seq ∙ ap (λ (y : List ℕ). front_of f seq ++ y) (sym (append-nil (flat_map sample_bytes f.rows)))) (omega (arith, at))

pub describes : (f : WrittenFragment) (seq o : ℕ) (t : Track) → FitsFields f → Describes f (held_moof f seq o) (run_in (held_moof f seq o) t f)
unfolding run_of run_at trun_fields
describes f seq o t fits =
    let h = held_moof f seq o in
    let run = run_in h t f in
    let bare = run_at (shared_in h t f) f.time (pos o) (trun_at f o) in
    let fields : sample_fields (flags_in (trun_of f)) ≡ sample_fields trun_flags = ap sample_fields (flags_back f) in
    let at : o + 72 + 8 - o + (trun_fields (flags_in (trun_of f))).samples ≡ 92 = omega (arith, ap (λ (flags : ℕ). (trun_fields flags).samples) (flags_back f)) in
    let rows : rows_of bare (moof_box f seq) ≡ f.rows = rows_by f seq bare fits fields refl at (count_back f fits) in
    record {
      track = refl;
      entry = refl;
      version = refl;
      count = count_back f fits;
      time = refl;
      end = ap (λ (rs : List Row). f.time + durations rs) rows;
      place = ap (start_by o (pos o)) (offset_back f fits);
      bytes = ap sizes rows;
      rows = rows_by f seq run fits fields refl at (count_back f fits);
    }
