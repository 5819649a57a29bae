use Rattle.std.proofs.Common.{◌≡◌, ◌+◌}
use Rattle.std.specs.List.{flat_map}
use Rattle.mp4_box.specs.Order.{least_from}
use Rattle.mp4_traf.specs.Runs.{runs_of}
use Rattle.mp4_pieces.specs.Pieces.{piece_count}
use Rattle.mp4_traf.specs.Ranges.{AreRunsOf}
use Rattle.mp4_pieces.specs.Rooms.{index_faults}
use Rattle.mp4_pieces.proofs.rooms.note_trafs.Given as goal

-- those so far and those of the trafs that are left
abbrev pub invariant-loop-traf : goal.invariant-loop-traf
invariant-loop-traf l = record {
  runs : AreRunsOf l.moof_bytes (flat_map runs_of l.traf-iterator);
  count : l.count + piece_count l.cut l.moof_bytes (flat_map runs_of l.traf-iterator) ≡ piece_count l.cut l.moof_bytes (flat_map runs_of l.fn.trafs);
  best : least_from l.best (index_faults l.cut l.moof_bytes (flat_map runs_of l.traf-iterator)) ≡ least_from l.fn.best (index_faults l.cut l.moof_bytes (flat_map runs_of l.fn.trafs));
}
