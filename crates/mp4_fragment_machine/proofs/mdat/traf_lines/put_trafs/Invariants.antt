use Rattle.std.proofs.Common.{◌≡◌, ◌++◌, ℕ, List, []}
use Rattle.std.specs.List.{AllByRecursion, flat_map}
use Rattle.mp4_machine.specs.Ends.{sent}
use Rattle.mp4_machine.specs.Puts.{HasPut}
use Rattle.mp4_traf.specs.Ranges.{IsSound}
use Rattle.mp4_traf.specs.Runs.{TrackFragment}
use Rattle.mp4_fragment_machine.specs.Implementation.TrafLines.{put_with}
use Rattle.mp4_fragment_machine.proofs.mdat.traf_lines.put_trafs.Given as goal

-- what was put, and the lines of the trafs that are left, are those of all
abbrev pub invariant-loop-traf : goal.invariant-loop-traf
invariant-loop-traf g l = record {
  text : List ℕ;
  put : HasPut (sent g.W.Sink.contents g.W.Sink.has_failed l.fn.w l.w) l.fn.out l.out text [];
  left : text ++ flat_map (put_with l.fn.command l.fn.tracks l.fn.sequence l.fn.at l.fn.size) l.trafs ≡ flat_map (put_with l.fn.command l.fn.tracks l.fn.sequence l.fn.at l.fn.size) l.fn.trafs;
  sound : AllByRecursion IsSound l.trafs;
  bytes : AllByRecursion (λ (t : TrackFragment). t.shared.moof.bytes ≡ l.fn.moof_bytes) l.trafs;
}
