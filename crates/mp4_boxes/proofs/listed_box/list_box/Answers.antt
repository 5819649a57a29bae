use Rattle.std.proofs.Common.{◌++◌, ap, arith, refl, ◌∙◌}
use Rattle.mp4_machine.proofs.StepLemmas.{StopsIn-refused}
use Rattle.mp4_box.specs.Trees.{faults_of}
use Rattle.mp4_boxes.specs.States.{environment}
use Rattle.mp4_boxes.proofs.HoldingLemmas.{verdict_good, verdict_bad}
use Rattle.mp4_boxes.proofs.StateLemmas.{GoesOn-good, Refuses-tree, WriteFailed-good}
use Rattle.mp4_boxes.proofs.listed_box.list_box.Goals as goal

pub returns-in-Err : goal.returns-in-Err
returns-in-Err g c h a came =
    let (fs, bad) = verdict_bad c.check.ensures c.in-Err.is in
    StopsIn-refused refl (λ more. Refuses-tree _ h came.claim came.len more c.in-Err.fault fs (ap faults_of came.is ∙ bad))

pub returns-in-Ok-put_tree : goal.returns-in-Ok-put_tree
returns-in-Ok-put_tree g c h a came =
    let good = ap faults_of came.is ∙ verdict_good c.check.ensures c.in-Ok.is in
    record { goes = GoesOn-good _ h came.claim came.len _ c.put_tree.new.out good (rw came.is c.in-Ok-put_tree.ensures.passes); unfailed = c.in-Ok-put_tree.ensures.unfailed; claim = omega arith }

pub returns-in-Err-put_tree : goal.returns-in-Err-put_tree
returns-in-Err-put_tree g c h a came =
    let good = ap faults_of came.is ∙ verdict_good c.check.ensures c.in-Ok.is in
    record {
      stops = λ more later. WriteFailed-good (environment (g.W.Sink.contents c.args.w.now) c.args.out.now a) h came.claim came.len _ _ (more ++ later) good (rw came.is c.in-Err-put_tree.ensures.breaks);
      failed = λ e. c.in-Err-put_tree.ensures.failed;
      unfailed = λ other. absurd (other refl);
    }
