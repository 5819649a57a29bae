use Rattle.std.proofs.Common.{◌≡◌, ◌+◌, ◌++◌, length, take}
use Rattle.mp4_lines.proofs.text.Text.push_front.Given as goal

abbrev pub invariant-loop-i : goal.invariant-loop-i
invariant-loop-i g l = record {
  len : length l.all ≡ g.row.CAP;
  text : take (l.at + l.i) l.all ≡ take l.at l.initial.all ++ take l.i l.bytes;
}
