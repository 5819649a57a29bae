use Rattle.std.proofs.Common.{◌≡◌, ◌≤◌, ◌-◌, ◌++◌, List, [], ℕ, length, drop}
use Rattle.std.specs.List.{flat_map}
use Rattle.mp4_machine.specs.Ends.{sent}
use Rattle.mp4_machine.specs.Puts.{HasPut}
use Rattle.mp4_frag.specs.RunLists.{taken_runs}
use Rattle.mp4_grammar.specs.Samples.{sample_lines, samples_of_run}
use Rattle.mp4_fragment_machine.specs.States.{lines_of, moof_in}
use Rattle.mp4_fragment_machine.proofs.mdat.sample_lines.put_runs.Given as goal

-- what was put, and the lines of the runs that are left, are those of all
abbrev pub invariant-loop-i : goal.invariant-loop-i
invariant-loop-i g l = record {
  within : l.i ≤ length l.fn.pending_moof.runs.rows;
  text : List ℕ;
  put : HasPut (sent g.W.Sink.contents g.W.Sink.has_failed l.fn.w l.w) l.fn.out l.out text [];
  left : text ++ sample_lines (flat_map (samples_of_run l.fn.pending_moof.moof.bytes) (drop l.i (taken_runs (moof_in l.fn.pending_moof) l.fn.tracks))) ≡ lines_of l.fn.pending_moof l.fn.tracks;
}

abbrev pub decreases-loop-i : goal.decreases-loop-i
decreases-loop-i g l = length l.fn.pending_moof.runs.rows - l.i
