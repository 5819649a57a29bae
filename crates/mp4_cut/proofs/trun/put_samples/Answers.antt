use Rattle.std.proofs.Common.{◌++◌, ◌-◌, arith}
use Rattle.std.specs.Prelude.{take}
use Rattle.std.specs.List.{flat_map}
use Rattle.mp4_machine.proofs.PutLemmas.{HasFailed-front, HasFailed-then, HasPut-then}
use Rattle.mp4_cut.specs.Trun.{sample_bytes}
use Rattle.mp4_cut.proofs.PutLemmas.{next_put}
use Rattle.mp4_cut.proofs.trun.put_samples.Goals as goal

pub loop-left-preserved : goal.loop-left-preserved
loop-left-preserved g c =
    let text = c.loop-left.invariant.text in
    record {
      text = text ++ c.sample_bytes.result;
      put = HasPut-then c.loop-left.invariant.put c.in-Ok.ensures.puts;
      left = next_put sample_bytes c.loop-left.left c.in-Some.row c.next.new.self c.loop-left.rows text c.sample_bytes.result (flat_map sample_bytes (take c.args.count c.args.rows.now)) (omega arith) c.in-Some.ensures.steps c.sample_bytes.ensures c.loop-left.invariant.left;
    }

pub returns-in-Err : goal.returns-in-Err
returns-in-Err g c =
    let text = c.loop-left.invariant.text in
    let all = flat_map sample_bytes (take c.args.count c.args.rows.now) in
    HasFailed-front (text ++ c.sample_bytes.result) (flat_map sample_bytes (take (c.loop-left.left - 1) c.next.new.self)) all
    (next_put sample_bytes c.loop-left.left c.in-Some.row c.next.new.self c.loop-left.rows text c.sample_bytes.result all (omega arith) c.in-Some.ensures.steps c.sample_bytes.ensures c.loop-left.invariant.left)
    (HasFailed-then c.loop-left.invariant.put c.in-Err.ensures.puts)
