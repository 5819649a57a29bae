use Rattle.std.proofs.Common.{◌≡◌, ◌+◌, ◌≤◌, ◌++◌, [], ◌∷◌, length}
use Rattle.std.specs.Prelude.{map}
use Rattle.std.specs.List.{All, AllByRecursion}
use Rattle.mp4_box.specs.Paths.{at_path}
use Rattle.mp4_box.specs.Trees.{view}
use Rattle.mp4_run_order.specs.Orders.{FitsKeys}
use Rattle.mp4_traf.specs.Kinds.{traf}
use Rattle.mp4_traf.specs.Ranges.{InRange, IsSound}
use Rattle.mp4_frag.specs.Implementation.RunRows.{listed_words, row_of_run, rows_of_trafs, rows_of_words}
use Rattle.mp4_traf.specs.Runs.{MoofBytes, traf_of}
use Rattle.mp4_frag.proofs.run_list.fill.fill.Given as goal

-- the rows so far and those of the trafs that are left are all
abbrev pub invariant-loop-traf : goal.invariant-loop-traf
invariant-loop-traf l =
    let h : MoofBytes = record { bytes = l.moof_bytes; offset = l.offset } in
    (goal.iterator-loop-traf).can_next l.traf-iterator
    × (goal.iterator-loop-traf).is_finite l.traf-iterator
    × AllByRecursion (λ t. IsSound (traf_of h l.tracks t)) l.traf-iterator
    × (rows_of_words l.rows.rows ++ rows_of_trafs h l.tracks l.traf-iterator ≡ rows_of_words l.fn.rows.rows ++ rows_of_trafs h l.tracks (at_path (traf ∷ []) (view l.moof)))
    × All FitsKeys (listed_words l.rows.rows)
    × (length l.rows.rows + length (rows_of_trafs h l.tracks l.traf-iterator) ≤ l.rows.cap)
    × (l.rows.cap ≡ l.fn.rows.cap)

-- and the runs that are left of a traf
abbrev pub invariant-loop-run : goal.invariant-loop-run
invariant-loop-run l =
    let h : MoofBytes = record { bytes = l.moof_bytes; offset = l.offset } in
    (goal.iterator-loop-run).can_next l.run-iterator
    × (goal.iterator-loop-run).is_finite l.run-iterator
    × AllByRecursion InRange l.run-iterator
    × AllByRecursion (λ t. IsSound (traf_of h l.tracks t)) l.traf-iterator
    × (rows_of_words l.rows.rows ++ (map (row_of_run l.tfhd) l.run-iterator ++ rows_of_trafs h l.tracks l.traf-iterator) ≡ rows_of_words l.fn.rows.rows ++ rows_of_trafs h l.tracks (at_path (traf ∷ []) (view l.moof)))
    × All FitsKeys (listed_words l.rows.rows)
    × (length l.rows.rows + (length l.run-iterator + length (rows_of_trafs h l.tracks l.traf-iterator)) ≤ l.rows.cap)
    × (l.rows.cap ≡ l.fn.rows.cap)
