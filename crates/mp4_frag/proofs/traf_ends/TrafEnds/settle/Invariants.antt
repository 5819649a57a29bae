use Rattle.std.proofs.Common.{◌≡◌, take}
use Rattle.std.specs.List.{fold}
use Rattle.mp4_frag.specs.TrafEnds.{ended_by}
use Rattle.mp4_frag.proofs.traf_ends.TrafEnds.settle.Given as goal

abbrev pub invariant-loop-end : goal.invariant-loop-end
invariant-loop-end l = l.tracks ≡ fold ended_by l.initial.tracks (take l.end-index l.self.ends.items)
