use Rattle.std.proofs.Common.{◌≡◌, ◌++◌, ℕ, List, []}
use Rattle.mp4_machine.specs.Ends.{sent}
use Rattle.mp4_machine.specs.Puts.{HasPut}
use Rattle.mp4_grammar.specs.Samples.{sample_lines, samples_from}
use Rattle.mp4_traf.specs.Cursors.{HasRoom}
use Rattle.mp4_fragment_machine.proofs.mdat.sample_lines.put_rows.Given as goal

-- what was put, and the lines of the rows that are left, are those of all
abbrev pub invariant-loop-row : goal.invariant-loop-row
invariant-loop-row g l = record {
  text : List ℕ;
  put : HasPut (sent g.W.Sink.contents g.W.Sink.has_failed l.fn.w l.w) l.fn.out l.out text [];
  left : text ++ sample_lines (samples_from l.fn.run l.rows l.at.time l.at.place) ≡ sample_lines (samples_from l.fn.run l.fn.rows l.fn.from.time l.fn.from.place);
  room : HasRoom l.at l.rows;
}
