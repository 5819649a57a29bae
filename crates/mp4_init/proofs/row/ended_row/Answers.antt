use Rattle.std.proofs.Common.{rules}
use Rattle.mp4_init.specs.Implementation.Rows.{node_of_row, track_of_row}
use Rattle.mp4_init.proofs.row.ended_row.Goals as goal

pub returns-clause-track : goal.returns-clause-track
unfolding track_of_row node_of_row
returns-clause-track c = search rules

pub returns-clause-node : goal.returns-clause-node
unfolding track_of_row node_of_row
returns-clause-node c = search rules
