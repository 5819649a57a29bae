use Rattle.std.proofs.Common.{◌≡◌, ◌≤◌, ◌++◌, length}
use Rattle.mp4_box.specs.Trees.{view}
use Rattle.mp4_box.specs.Paths.{at_path}
use Rattle.mp4_init.specs.Kinds.{to_tkhd}
use Rattle.mp4_init.specs.Implementation.Summaries.{ids_from}
use Rattle.mp4_init.proofs.slots.push_ids.Given as goal

-- those so far, and those of the tkhds that are left
abbrev pub invariant-loop-tkhd : goal.invariant-loop-tkhd
invariant-loop-tkhd g l = record {
  fits : length l.ids.items ≤ g.row.N;
  left : l.ids.items ++ ids_from l.from l.tkhd-iterator ≡ ids_from l.from (at_path to_tkhd (view l.moov));
}
