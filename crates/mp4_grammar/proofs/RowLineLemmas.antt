-- The line of a traf by the rows of its samples, and the lines of trafs by their boxes.
use Rattle.std.proofs.Common.{◌≡◌, ◌∙◌, ℕ, ℤ, List, [], ◌∷◌, ◌++◌, length, map, Option, Some, None, refl, ap, arith, length-append}
use Rattle.std.specs.Prelude.{option_map}
use Rattle.std.specs.List.{flat_map, sum_by}
use Rattle.std.specs.Option.{unwrap_or}
use Rattle.std.proofs.lemmas.List.Sums.{sum_by-append, sum_by-cons}
use Rattle.mp4_box.specs.Paths.{at_path}
use Rattle.mp4_box.specs.Trees.{Box, first_of}
use Rattle.mp4_init.specs.declared.table.Track.{Track}
use Rattle.mp4_traf.specs.Kinds.{tfdt}
use Rattle.mp4_traf.specs.Rows.{durations, group_at, row_of, rows_of, sizes}
use Rattle.mp4_traf.specs.Rules.{track_with}
use Rattle.mp4_traf.specs.Runs.{Shared, base_by, end_place, no_track, run_at, run_of, runs_from, runs_of, tfhd_of, traf_of}
use Rattle.mp4_traf.specs.Tfdt.{base_media_decode_time}
use Rattle.mp4_traf.specs.Tfhd.{track_id}
use Rattle.mp4_traf.specs.TrafTotals.{are_sync}
use Rattle.mp4_traf.specs.declared.rows.Row.{Row}
use Rattle.mp4_traf.specs.declared.run.Run.{Run}
use Rattle.mp4_traf.proofs.FirstSampleLemmas.{first_is}
use Rattle.mp4_traf.proofs.RowLemmas.{length_rows_of}
use Rattle.mp4_traf.proofs.TrafTotalLemmas.{duration_is}
use Rattle.mp4_grammar.specs.FragmentLines.{fragment_lines, listed_traf, traf_line}
use Rattle.mp4_grammar.specs.LinesByRows.{first_is_sync, line_of, rows_in, traf_boxes, traf_in}
use Rattle.mp4_grammar.specs.Meanings.{Fragment}
use Rattle.mp4_grammar.specs.Presented.{all_rows}
use Rattle.mp4_grammar.specs.TrackLines.{kind_of, listed_track}
use Rattle.mp4_grammar.specs.TrafRecords.{fragment_records, record_bytes, traf_record}

-- ---- sums over the rows of all runs

pub count_rows : (moof_bytes : List ℕ) (runs : List Run) → sum_by (λ (run : Run). run.count) runs ≡ length (all_rows moof_bytes runs)
count_rows moof_bytes [] = refl
count_rows moof_bytes (run ∷ runs) =
    omega (arith, sum_by-cons (λ (run : Run). run.count) run runs, length-append (rows_of run moof_bytes) (all_rows moof_bytes runs), length_rows_of run moof_bytes, count_rows moof_bytes runs)

pub sum_rows : (field : Row → ℕ) (moof_bytes : List ℕ) (runs : List Run) → sum_by (λ (run : Run). sum_by field (rows_of run moof_bytes)) runs ≡ sum_by field (all_rows moof_bytes runs)
sum_rows field moof_bytes [] = refl
sum_rows field moof_bytes (run ∷ runs) =
    omega (arith, sum_by-cons (λ (run : Run). sum_by field (rows_of run moof_bytes)) run runs, sum_by-append field (rows_of run moof_bytes) (all_rows moof_bytes runs), sum_rows field moof_bytes runs)

run_bytes : (s : Shared) (time : ℕ) (last : ℤ) (b : Box) → (run_of s time last b).bytes ≡ sizes (rows_of (run_of s time last b) s.moof.bytes)
unfolding run_of run_at row_of group_at
run_bytes s time last b = refl

runs_bytes : (s : Shared) (time : ℕ) (last : ℤ) (bs : List Box) → sum_by (λ (run : Run). run.bytes) (runs_from s time last bs) ≡ sum_by (λ (run : Run). sizes (rows_of run s.moof.bytes)) (runs_from s time last bs)
unfolding runs_from
runs_bytes s time last [] = refl
runs_bytes s time last (b ∷ bs) =
    let run = run_of s time last b in
    let runs = runs_from s run.end (end_place run) bs in
    omega (arith, sum_by-cons (λ (run : Run). run.bytes) run runs, sum_by-cons (λ (run : Run). sizes (rows_of run s.moof.bytes)) run runs, run_bytes s time last b, runs_bytes s run.end (end_place run) bs)

-- ---- the line of a traf

pub samples_are : (f : Fragment) (b : Box) → (line_of f b).samples ≡ length (rows_in f b)
samples_are f b = count_rows f.moof.bytes (runs_of (traf_in f b))

pub duration_is_theirs : (f : Fragment) (b : Box) → (line_of f b).duration ≡ durations (rows_in f b)
unfolding traf_of
duration_is_theirs f b = duration_is (traf_in f b) ∙ sum_rows (λ (row : Row). row.duration) f.moof.bytes (runs_of (traf_in f b))

pub media_are_theirs : (f : Fragment) (b : Box) → (line_of f b).media ≡ sizes (rows_in f b)
unfolding traf_of
media_are_theirs f b =
    let t = traf_in f b in
    runs_bytes t.shared t.time _ t.truns ∙ sum_rows (λ (row : Row). row.size) f.moof.bytes (runs_of t)

sync_by : (rows : List Row) → are_sync (option_map (λ (row : Row). row.flags) (first_of rows)) ≡ first_is_sync rows
sync_by [] = refl
sync_by (row ∷ rows) = refl

pub sync_is_of_the_first : (f : Fragment) (b : Box) → (line_of f b).sync ≡ first_is_sync (rows_in f b)
unfolding traf_of
sync_is_of_the_first f b = ap are_sync (first_is f.moof.bytes (runs_of (traf_in f b))) ∙ sync_by (rows_in f b)

pub time_of_tfdt : (f : Fragment) (b d : Box) → first_of (at_path (tfdt ∷ []) b) ≡ Some d → (line_of f b).time ≡ base_media_decode_time d.payload
unfolding traf_of
time_of_tfdt f b d is = ap (base_by _) is

pub time_of_track : (f : Fragment) (b : Box) (t : Track) → first_of (at_path (tfdt ∷ []) b) ≡ None → track_with (track_id (tfhd_of b)) f.tracks ≡ Some t → (line_of f b).time ≡ t.next
unfolding traf_of
time_of_track f b t none is = ap (base_by _) none ∙ ap (λ (o : Option Track). (unwrap_or o no_track).next) is

pub record_has_its_track : (f : Fragment) (b : Box) (t : Track) → track_with (track_id (tfhd_of b)) f.tracks ≡ Some t
    → ((traf_record f (traf_in f b)).timescale ≡ t.timescale) × (kind_of (traf_record f (traf_in f b)).handler ≡ (listed_track t).handler) × ((traf_record f (traf_in f b)).entries ≡ t.entries)
unfolding traf_of
record_has_its_track f b t is = (
  ap (λ (o : Option Track). (unwrap_or o no_track).timescale) is,
  ap (λ (o : Option Track). kind_of (unwrap_or o no_track).handler) is,
  ap (λ (o : Option Track). (unwrap_or o no_track).entries) is,
)

pub ended_of_track : (f : Fragment) (b : Box) (t : Track) → track_with (track_id (tfhd_of b)) f.tracks ≡ Some t → (line_of f b).ended ≡ t.next
unfolding traf_of
ended_of_track f b t is = ap (λ (o : Option Track). (unwrap_or o no_track).next) is

-- ---- all lines

lines_by : (f : Fragment) (bs : List Box) → flat_map (λ t. traf_line (listed_traf f t)) (map (traf_in f) bs) ≡ flat_map (λ b. traf_line (line_of f b)) bs
lines_by f [] = refl
lines_by f (b ∷ bs) = ap (λ (l : List ℕ). traf_line (line_of f b) ++ l) (lines_by f bs)

pub line_for_each_traf : (f : Fragment) → fragment_lines f ≡ flat_map (λ b. traf_line (line_of f b)) (traf_boxes f)
line_for_each_traf f = lines_by f (traf_boxes f)

records_by : (f : Fragment) (bs : List Box) → flat_map (λ t. record_bytes (traf_record f t)) (map (traf_in f) bs) ≡ flat_map (λ b. record_bytes (traf_record f (traf_in f b))) bs
records_by f [] = refl
records_by f (b ∷ bs) = ap (λ (l : List ℕ). record_bytes (traf_record f (traf_in f b)) ++ l) (records_by f bs)

pub record_for_each_traf : (f : Fragment) → fragment_records f ≡ flat_map (λ b. record_bytes (traf_record f (traf_in f b))) (traf_boxes f)
record_for_each_traf f = records_by f (traf_boxes f)
