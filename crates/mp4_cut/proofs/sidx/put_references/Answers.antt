use Rattle.std.proofs.Common.{◌++◌, ◌-◌, arith}
use Rattle.std.specs.Prelude.{take}
use Rattle.std.specs.List.{flat_map}
use Rattle.mp4_machine.proofs.PutLemmas.{HasFailed-front, HasFailed-then, HasPut-then}
use Rattle.mp4_cut.specs.Sidx.{reference_bytes}
use Rattle.mp4_cut.proofs.IndexLemmas.{first_fits}
use Rattle.mp4_cut.proofs.PutLemmas.{next_put}
use Rattle.mp4_cut.proofs.sidx.put_references.Goals as goal

pub reference_bytes-requires : goal.reference_bytes-requires
reference_bytes-requires g c =
    let room = first_fits c.loop-left.left c.in-Some.piece c.next.new.self c.loop-left.pieces (omega arith) c.in-Some.ensures.steps c.loop-left.invariant.room in
    room.first

pub loop-left-preserved : goal.loop-left-preserved
loop-left-preserved g c =
    let text = c.loop-left.invariant.text in
    record {
      text = text ++ c.reference_bytes.result;
      put = HasPut-then c.loop-left.invariant.put c.in-Ok.ensures.puts;
      left = next_put reference_bytes c.loop-left.left c.in-Some.piece c.next.new.self c.loop-left.pieces text c.reference_bytes.result (flat_map reference_bytes (take c.args.count c.args.pieces.now)) (omega arith) c.in-Some.ensures.steps c.reference_bytes.ensures c.loop-left.invariant.left;
      room = (first_fits c.loop-left.left c.in-Some.piece c.next.new.self c.loop-left.pieces (omega arith) c.in-Some.ensures.steps c.loop-left.invariant.room).others;
    }

pub returns-in-Err : goal.returns-in-Err
returns-in-Err g c =
    let text = c.loop-left.invariant.text in
    let all = flat_map reference_bytes (take c.args.count c.args.pieces.now) in
    HasFailed-front (text ++ c.reference_bytes.result) (flat_map reference_bytes (take (c.loop-left.left - 1) c.next.new.self)) all
    (next_put reference_bytes c.loop-left.left c.in-Some.piece c.next.new.self c.loop-left.pieces text c.reference_bytes.result all (omega arith) c.in-Some.ensures.steps c.reference_bytes.ensures c.loop-left.invariant.left)
    (HasFailed-then c.loop-left.invariant.put c.in-Err.ensures.puts)
