use Rattle.std.proofs.Common.{◌≡◌, ℕ, ◌-◌, ◌<◌, ◌≤◌}
use Rattle.fmp4_c.specs.Portions.{body_end, last_mdat}
use Rattle.fmp4_c.proofs.portion.last_mdat.Given as goal

abbrev pub decreases-loop-at : goal.decreases-loop-at
decreases-loop-at l = l.most - l.at

-- the boxes from here on, as many as there may be, give what all do
abbrev pub invariant-loop-at : goal.invariant-loop-at
invariant-loop-at l = record {
  boxes : ℕ;
  enough : l.most - l.at ≤ boxes;
  same : last_mdat l.most l.input l.most l.left (body_end l.left l.most) ≡ last_mdat boxes l.input l.most l.at l.last;
  some : 0 < l.last;
  within : l.last ≤ l.most;
}
