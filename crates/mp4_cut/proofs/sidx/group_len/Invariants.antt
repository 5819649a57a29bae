use Rattle.std.proofs.Common.{◌≤◌}
use Rattle.mp4_cut.proofs.GroupLemmas.{IsCounted}
use Rattle.mp4_cut.proofs.sidx.group_len.Given as goal

-- so many of all were passed
abbrev pub invariant-loop : goal.invariant-loop
invariant-loop l = record { counted : IsCounted l.fn.pieces l.iterator' l.count; few : l.count ≤ 65535 }
