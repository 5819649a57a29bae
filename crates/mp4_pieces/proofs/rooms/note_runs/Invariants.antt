use Rattle.std.proofs.Common.{◌≡◌, ◌+◌}
use Rattle.mp4_box.specs.Order.{least_from}
use Rattle.mp4_pieces.specs.Pieces.{piece_count}
use Rattle.mp4_traf.specs.Ranges.{AreRunsOf}
use Rattle.mp4_pieces.specs.Rooms.{index_faults}
use Rattle.mp4_pieces.proofs.rooms.note_runs.Given as goal

-- those so far and those of the runs that are left
abbrev pub invariant-loop-run : goal.invariant-loop-run
invariant-loop-run l = record {
  runs : AreRunsOf l.moof_bytes l.run-iterator;
  count : l.count + piece_count l.cut l.moof_bytes l.run-iterator ≡ piece_count l.cut l.moof_bytes l.fn.runs;
  best : least_from l.best (index_faults l.cut l.moof_bytes l.run-iterator) ≡ least_from l.fn.best (index_faults l.cut l.moof_bytes l.fn.runs);
}
