-- A Feeder for a task is fed as the one that it is.
use Rattle.std.proofs.Common.{ℕ, List, Result, arith}
use Rattle.mp4_boxes.specs.States as boxes
use Rattle.mp4_machine.specs.Fed.{Borrowed}
use Rattle.mp4_machine.specs.FedMachines.{Fed}
use Rattle.mp4_machine.specs.declared.stop.Stop.{Stop}
use Rattle.mp4_stream.specs.BoxFeeders as box_feeders
use Rattle.mp4_stream.specs.Feeders.{Feeding}
use Rattle.mp4_stream.specs.Feeders as feeders
use Rattle.fmp4_c.specs.Tasks.{Feeds}
use Rattle.fmp4_c.specs.declared.task_feeder.TaskFeeder.TheVariants.{Fragments, Boxes}

pub fragments-fed : {T : Type 0} (b input : List ℕ) (p p' : Feeding) (l : Borrowed) (result : Result T Stop) → feeders.Feeds b input p p' l result → Feeds b input (Fragments p) (Fragments p') l result
fragments-fed b input p p' l result fed = record {
  ok = fed.ok;
  err = fed.err;
  claims = record {
    most = λ enough is. omega (arith, fed.claims.most is.0 is.1 is.2, is.3);
    within = λ enough is room over. fed.claims.enough is.0 is.1 is.2 (omega (arith, room, is.3)) over;
  };
}

pub boxes-fed : {T : Type 0} (b input : List ℕ) (f f' : Fed boxes.Progress) (l : Borrowed) (result : Result T Stop) → box_feeders.Feeds b input f f' l result → Feeds b input (Boxes f) (Boxes f') l result
boxes-fed b input f f' l result fed = record { ok = fed.fed.ok; err = fed.fed.err; claims = record { most = fed.claims.most; within = fed.claims.enough } }
