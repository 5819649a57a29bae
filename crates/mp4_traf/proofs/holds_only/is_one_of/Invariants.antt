use Rattle.std.proofs.Common.{◌≡◌, drop}
use Rattle.mp4_box.specs.Trees.{view}
use Rattle.mp4_traf.specs.Rules.{is_among}
use Rattle.mp4_traf.proofs.holds_only.is_one_of.Given as goal

abbrev pub invariant-loop-kind : goal.invariant-loop-kind
invariant-loop-kind l = is_among (drop l.kind-index l.kinds) (view l.this) ≡ is_among l.kinds (view l.this)
