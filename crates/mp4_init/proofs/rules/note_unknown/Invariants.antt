use Rattle.std.proofs.Common.{◌≡◌}
use Rattle.std.specs.List.{flat_map}
use Rattle.mp4_box.specs.Trees.{view}
use Rattle.mp4_box.specs.Order.{least_from}
use Rattle.mp4_init.specs.Rules.{known, track_faults}
use Rattle.mp4_init.specs.Implementation.Summaries.{summaries_in}
use Rattle.mp4_init.proofs.rules.note_unknown.Given as goal

-- what is left to note is what is at fault with the tkhds that are left
abbrev pub invariant-loop-tkhd : goal.invariant-loop-tkhd
invariant-loop-tkhd g l = record {
  left : least_from l.best (flat_map (known (view l.moov)) l.tkhd-iterator) ≡ least_from l.fn.best (track_faults (view l.moov));
  added : l.slots.summaries.items ≡ summaries_in (view l.moov) l.slots.ids.items;
}
