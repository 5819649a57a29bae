use Rattle.std.proofs.Common.{◌≡◌}
use Rattle.std.specs.List.{flat_map}
use Rattle.mp4_box.specs.Trees.{view}
use Rattle.mp4_box.specs.Order.{least_from}
use Rattle.mp4_traf.specs.Rules.{holds_only, unsupported}
use Rattle.mp4_traf.proofs.holds_only.note_others.Given as goal

abbrev pub invariant-loop-child : goal.invariant-loop-child
invariant-loop-child l = record {
  left : least_from l.best (flat_map (unsupported l.kinds) l.child-iterator) ≡ least_from l.fn.best (holds_only l.kinds (view l.this));
}
