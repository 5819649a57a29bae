use Rattle.std.proofs.Common.{◌≡◌}
use Rattle.std.specs.Prelude.{map}
use Rattle.std.specs.List.{fold}
use Rattle.mp4_run_order.specs.Implementation.Searches.{place_start, place_step}
use Rattle.mp4_frag.specs.Implementation.RunRows.{listed_row}
use Rattle.mp4_frag.proofs.moof.Moof.places.Given as goal

-- the result for the runs that are left is the result for all
abbrev pub invariant-loop-taken : goal.invariant-loop-taken
invariant-loop-taken l = record {
  left : fold place_step l.search l.taken-iterator ≡ fold place_step (place_start l.fn.payload l.list.faulty_by_track) (map listed_row l.list.rows);
}
