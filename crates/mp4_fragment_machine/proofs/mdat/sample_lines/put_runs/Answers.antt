use Rattle.std.proofs.Common.{◌++◌, ◌+◌, ◌<◌, arith, drop, length}
use Rattle.std.specs.List.{flat_map}
use Rattle.mp4_frag.specs.RunLists.{taken_runs}
use Rattle.mp4_machine.proofs.PutLemmas.{HasFailed-front, HasFailed-then, HasPut-then}
use Rattle.mp4_grammar.specs.Samples.{sample_lines, samples_of_run}
use Rattle.mp4_fragment_machine.specs.States.{lines_of, moof_in}
use Rattle.mp4_fragment_machine.proofs.LineLemmas.{next_run, rows_taken, run_of_all, taken_are}
use Rattle.mp4_fragment_machine.proofs.mdat.sample_lines.put_runs.Goals as goal

pub put_run-requires : goal.put_run-requires
put_run-requires g c =
    let w = c.args.pending_moof.now in
    let h = moof_in w in
    let tracks = c.args.tracks.now in
    let here : c.loop-i.i < length (taken_runs h tracks) = omega (arith, c.loop-i-test.true, c.len.ensures, rows_taken h tracks w.runs c.requires.list) in
    let all = taken_are h tracks (omega (arith, c.requires.size, c.requires.near)) c.requires.whole c.bytes.ensures.valid c.requires.read in
    rw c.bytes.ensures.bytes (run_of_all w.moof.bytes (taken_runs h tracks) c.loop-i.i c.at-run.result all here (rw c.moof-moof.ensures at c.at-run.ensures) (omega arith))

pub returns-in-Err : goal.returns-in-Err
returns-in-Err g c =
    let w = c.args.pending_moof.now in
    let h = moof_in w in
    let tracks = c.args.tracks.now in
    let run = c.at-run.result in
    let text = c.loop-i.invariant.text in
    let here : c.loop-i.i < length (taken_runs h tracks) = omega (arith, c.loop-i-test.true, c.len.ensures, rows_taken h tracks w.runs c.requires.list) in
    let at = rw c.moof-moof.ensures at c.at-run.ensures in
    let put = rw c.bytes.ensures.bytes at c.in-Err.ensures in
    HasFailed-front (text ++ sample_lines (samples_of_run w.moof.bytes run)) (sample_lines (flat_map (samples_of_run w.moof.bytes) (drop (c.loop-i.i + 1) (taken_runs h tracks)))) (lines_of w tracks)
    (next_run w.moof.bytes (taken_runs h tracks) c.loop-i.i run text (lines_of w tracks) here at c.loop-i.invariant.left)
    (HasFailed-then c.loop-i.invariant.put put)

pub loop-i-preserved : goal.loop-i-preserved
loop-i-preserved g c =
    let w = c.args.pending_moof.now in
    let h = moof_in w in
    let tracks = c.args.tracks.now in
    let run = c.at-run.result in
    let text = c.loop-i.invariant.text in
    let here : c.loop-i.i < length (taken_runs h tracks) = omega (arith, c.loop-i-test.true, c.len.ensures, rows_taken h tracks w.runs c.requires.list) in
    let at = rw c.moof-moof.ensures at c.at-run.ensures in
    let put = rw c.bytes.ensures.bytes at c.in-Ok.ensures in
    record {
      within = omega (arith, c.loop-i-test.true, c.len.ensures);
      text = text ++ sample_lines (samples_of_run w.moof.bytes run);
      put = HasPut-then c.loop-i.invariant.put put;
      left = next_run w.moof.bytes (taken_runs h tracks) c.loop-i.i run text (lines_of w tracks) here at c.loop-i.invariant.left;
    }
