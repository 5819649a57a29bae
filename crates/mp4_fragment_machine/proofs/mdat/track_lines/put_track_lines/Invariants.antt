use Rattle.std.proofs.Common.{◌≡◌, ◌-◌, ◌++◌, ℕ, List, [], drop, length}
use Rattle.std.specs.List.{flat_map}
use Rattle.mp4_box.specs.Paths.{of_kind}
use Rattle.mp4_box.specs.Trees.{children, view}
use Rattle.mp4_init.specs.Kinds.{trak}
use Rattle.mp4_init.specs.Tracks.{track_of}
use Rattle.mp4_machine.specs.Ends.{sent}
use Rattle.mp4_machine.specs.Puts.{HasPut}
use Rattle.mp4_grammar.specs.TrackLines.{track_line, track_lines}
use Rattle.mp4_fragment_machine.proofs.mdat.track_lines.put_track_lines.Given as goal

-- what was put, and the lines of the traks that are left, are those of all
abbrev pub invariant-loop-i : goal.invariant-loop-i
invariant-loop-i g l = record {
  text : List ℕ;
  put : HasPut (sent g.W.Sink.contents g.W.Sink.has_failed l.fn.w l.w) l.fn.out l.out text [];
  rest : text ++ flat_map (λ b. track_line (track_of (view l.fn.moov) b) b) (of_kind trak l.walk) ≡ track_lines (view l.fn.moov);
  here : of_kind trak l.walk ≡ drop l.i (of_kind trak (children (view l.fn.moov)));
}

abbrev pub decreases-loop-i : goal.decreases-loop-i
decreases-loop-i g l = length l.fn.tracks - l.i
