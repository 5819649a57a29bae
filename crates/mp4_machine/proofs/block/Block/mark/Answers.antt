use Rattle.std.proofs.Common.{[], ◌∷◌}
use Rattle.mp4_machine.specs.Ends.{sent}
use Rattle.mp4_machine.specs.Puts.{HasPut}
use Rattle.mp4_machine.proofs.BlockLemmas.{BreaksMarked-longer, PassesMarked-then_end}
use Rattle.mp4_machine.proofs.PutLemmas.{HasPut-none}
use Rattle.mp4_machine.proofs.block.Block.mark.Goals as goal
use Rattle.mp4_machine.proofs.block.Block.mark.Goals.{then-len-eq-MOST_ENDS+in-Ok, else-len-eq-MOST_ENDS}

pub returns-in-Err : goal.returns-in-Err
returns-in-Err g c = record {
  breaks = BreaksMarked-longer [] (record { end = 0; count = c.args.count } ∷ []) c.in-Err.ensures.puts.breaks;
  failed = c.in-Err.ensures.puts.failed;
}

pub returns : goal.returns
returns g c =
    let room : HasPut (sent g.W.Sink.contents g.W.Sink.has_failed c.args.w.now c.if-len-eq-MOST_ENDS.w) c.args.self.now c.if-len-eq-MOST_ENDS.self [] [] =
    elim c.if-len-eq-MOST_ENDS.branch [
      | then-len-eq-MOST_ENDS+in-Ok w ↦ rw (w.self-is, w.w-is) w.in-Ok.ensures.puts
      | else-len-eq-MOST_ENDS w ↦ rw (w.self-is, w.w-is) (HasPut-none _ _ _)
    ] in
    let put = rw (← c.self-2.view_is) at room in
    record {
      passes = rw c.push.ensures.items (PassesMarked-then_end c.len-2.result c.args.count c.len-2.ensures.len put.passes);
      unfailed = put.unfailed;
    }
