use Rattle.std.proofs.Common.{◌≡◌, ◌+◌, ◌-◌, ◌^◌, ◌<◌, length}
use Rattle.std.specs.Option.{option_or}
use Rattle.mp4_box.specs.Trees.{view, over, bad_rest, no_rest, bad_below, deep_below, first_of}
use Rattle.mp4_box.proofs.tree.+check_below.Given as goal

abbrev pub decreases-check_below : goal.decreases-check_below
decreases-check_below l = l.levels

-- what is at fault in the rest is what is at fault in all
abbrev pub invariant-loop-rest : goal.invariant-loop-rest
invariant-loop-rest l = record {
  below : 0 < l.levels;
  room : l.offset + length l.rest < 2 ^ 63;
  bad : over (bad_below (l.levels - 1)) bad_rest l.rest 0 l.offset ≡ bad_below l.levels (view l.this);
  deep : option_or l.deep (first_of (over (deep_below (l.levels - 1)) no_rest l.rest 0 l.offset)) ≡ option_or l.fn.deep (first_of (deep_below l.levels (view l.this)));
}

abbrev pub decreases-loop-rest : goal.decreases-loop-rest
decreases-loop-rest l = length l.rest
