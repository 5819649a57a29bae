use Rattle.std.proofs.Common.{◌≡◌, ◌++◌, ℕ, List, [], map, take, true}
use Rattle.mp4_box.specs.Trees.{Box, view}
use Rattle.mp4_machine.specs.Ends.{sent}
use Rattle.mp4_machine.specs.Puts.{HasPut}
use Rattle.mp4_grammar.specs.TrackLines.{kinds_in, types_text}
use Rattle.mp4_fragment_machine.proofs.mdat.track_lines.put_entries.Given as goal

-- what was put, and the types of the entries that are left, are those of all
abbrev pub invariant-loop-kind : goal.invariant-loop-kind
invariant-loop-kind g l = record {
  text : List ℕ;
  put : HasPut (sent g.W.Sink.contents g.W.Sink.has_failed l.fn.w l.w) l.fn.out l.out text [];
  rest : text ++ types_text l.is_first (take l.left (map (λ (b : Box). b.header.kind) l.entries)) ≡ types_text true (kinds_in (view l.fn.stsd));
}

abbrev pub decreases-loop-kind : goal.decreases-loop-kind
decreases-loop-kind g l = l.left
