-- The lines of samples, one after the other.
use Rattle.std.proofs.Common.{◌≡◌, ◌∙◌, ℕ, zero, suc, ◌≤◌, drop, get_or, ◌+◌, ◌<◌, ◌^◌, List, [], ◌∷◌, ◌++◌, length, ap, sym, arith, subst, append-nil, append_assoc}
use Rattle.std.specs.List.{flat_map}
use Rattle.std.proofs.Math.Seq.{drop-cons}
use Rattle.std.proofs.lemmas.Grind.{flat_map-append}
use Rattle.std.proofs.lemmas.List.{length-map}
use Rattle.mp4_box.specs.Headers.{IsBytes, IsWhole}
use Rattle.mp4_init.specs.declared.table.Track.{Track}
use Rattle.mp4_run_order.proofs.OrderLemmas.{taken_permutes}
use Rattle.mp4_frag.specs.Moofs.{IsRead, moof_runs}
use Rattle.mp4_frag.specs.Implementation.Rereads.{run_of_row}
use Rattle.mp4_frag.specs.RunLists.{taken_runs, ListedRows}
use Rattle.mp4_frag.specs.ListsOfRuns.{IsListOf}
use Rattle.mp4_frag.specs.Places.{listed_run}
use Rattle.mp4_traf.specs.Runs.{MoofBytes}
use Rattle.mp4_traf.specs.Ranges.{AreRunsOf, IsRunOf}
use Rattle.mp4_frag.proofs.ReadRunLemmas.{runs_are, runs_kept}
use Rattle.mp4_traf.specs.declared.rows.Cursor.{Cursor}
use Rattle.mp4_traf.specs.declared.rows.Row.{Row}
use Rattle.mp4_traf.specs.declared.run.Run.{Run}
use Rattle.mp4_traf.specs.Cursors.{past}
use Rattle.mp4_machine.specs.Blocks.{Pending}
use Rattle.mp4_machine.specs.Ends.{Sent}
use Rattle.mp4_machine.specs.Puts.{HasPut}
use Rattle.mp4_grammar.specs.Samples.{sample_line, sample_lines, sample_of, samples_from, samples_of_run}

-- the line of one more sample was put
pub next_line : (run : Run) (row : Row) (rest rows : List Row) (c : Cursor) (text line all : List ℕ) → rows ≡ row ∷ rest → line ≡ sample_line (sample_of run row c.time c.place) → text ++ sample_lines (samples_from run rows c.time c.place) ≡ all
    → (text ++ line) ++ sample_lines (samples_from run rest (past c row).time (past c row).place) ≡ all
next_line run row rest rows c text line all e is whole =
    append_assoc text line (sample_lines (samples_from run rest (past c row).time (past c row).place))
    ∙ ap (λ l. text ++ (l ++ sample_lines (samples_from run rest (past c row).time (past c row).place))) is
    ∙ ap (λ l. text ++ sample_lines (samples_from run l c.time c.place)) (sym e) ∙ whole

-- all rows were put
pub put_all : {s : Sent} {v w : Pending} {text all : List ℕ} (run : Run) (rows : List Row) (c : Cursor) → rows ≡ [] → text ++ sample_lines (samples_from run rows c.time c.place) ≡ all → HasPut s v w text [] → HasPut s v w all []
put_all {s = s} {v = v} {w = w} {text = text} run rows c none whole p =
    subst (λ l. HasPut s v w l []) (sym (append-nil text) ∙ ap (λ l. text ++ sample_lines (samples_from run l c.time c.place)) (sym none) ∙ whole) p

-- ---- run after run

-- the lines of one more run were put
pub next_run : (moof_bytes : List ℕ) (taken : List Run) (i : ℕ) (run : Run) (text all : List ℕ) → i < length taken → run ≡ get_or taken i run → text ++ sample_lines (flat_map (samples_of_run moof_bytes) (drop i taken)) ≡ all
    → (text ++ sample_lines (samples_of_run moof_bytes run)) ++ sample_lines (flat_map (samples_of_run moof_bytes) (drop (i + 1) taken)) ≡ all
next_run moof_bytes taken i run text all h at whole =
    let rest = flat_map (samples_of_run moof_bytes) (drop (i + 1) taken) in
    let one : suc i ≡ i + 1 = omega arith in
    let next : drop i taken ≡ run ∷ drop (i + 1) taken = drop-cons taken i run h ∙ ap (λ r. r ∷ drop (suc i) taken) (sym at) ∙ ap (λ n. run ∷ drop n taken) one in
    append_assoc text (sample_lines (samples_of_run moof_bytes run)) (sample_lines rest)
    ∙ ap (λ l. text ++ l) (sym (flat_map-append sample_line (samples_of_run moof_bytes run) rest))
    ∙ ap (λ l. text ++ sample_lines (flat_map (samples_of_run moof_bytes) l)) (sym next) ∙ whole

-- one of some runs that can be cut
pub run_of_all : (moof_bytes : List ℕ) (taken : List Run) (i : ℕ) (run : Run) → AreRunsOf moof_bytes taken → i < length taken → run ≡ get_or taken i run → run.size < 2 ^ 32 → IsRunOf moof_bytes run
run_of_all moof_bytes [] i run all h at small = absurd (omega arith)
run_of_all moof_bytes (x ∷ taken) zero run all h at small = subst (IsRunOf moof_bytes) (sym at) (all.0 (subst (λ (r : Run). r.size < 2 ^ 32) at small))
run_of_all moof_bytes (x ∷ taken) (suc i) run all h at small = run_of_all moof_bytes taken i run all.1 (omega arith) at small

-- the runs of a moof that was read, in the order in which they are taken
pub taken_are : (h : MoofBytes) (tracks : List Track) → h.offset + length h.bytes ≤ 2 ^ 62 → IsWhole h.bytes → IsBytes h.bytes → IsRead h tracks → AreRunsOf h.bytes (taken_runs h tracks)
taken_are h tracks near whole fits read =
    runs_kept h.bytes (moof_runs h tracks) (taken_runs h tracks) (taken_permutes listed_run (moof_runs h tracks)) (runs_are h tracks (omega (arith, near)) whole fits read)

-- a list of them has as many rows
pub rows_taken : (h : MoofBytes) (tracks : List Track) (l : ListedRows) → IsListOf h tracks l → length l.rows ≡ length (taken_runs h tracks)
rows_taken h tracks l is = sym (length-map l.rows (run_of_row h tracks)) ∙ ap length is.runs
