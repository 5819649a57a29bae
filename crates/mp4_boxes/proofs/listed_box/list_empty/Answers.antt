use Rattle.std.proofs.Common.{◌++◌, ap, arith, refl, ◌∙◌}
use Rattle.mp4_box.specs.Trees.{faults_of}
use Rattle.mp4_boxes.specs.States.{environment}
use Rattle.mp4_boxes.proofs.EmptyLemmas.{empty_good, empty_lines}
use Rattle.mp4_boxes.proofs.StateLemmas.{GoesOn-good, WriteFailed-good}
use Rattle.mp4_boxes.proofs.listed_box.list_empty.Goals as goal

pub returns-in-Ok : goal.returns-in-Ok
returns-in-Ok g c h a came =
    let good = ap faults_of came.is ∙ empty_good c.args.at c.args.header.now in
    record { goes = GoesOn-good _ h came.claim came.len _ c.put_box.new.out good (rw (came.is, empty_lines c.args.at c.args.header.now) c.in-Ok.ensures.passes); unfailed = c.in-Ok.ensures.unfailed; claim = omega arith }

pub returns-in-Err : goal.returns-in-Err
returns-in-Err g c h a came =
    let good = ap faults_of came.is ∙ empty_good c.args.at c.args.header.now in
    record {
      stops = λ more later. WriteFailed-good (environment (g.W.Sink.contents c.args.w.now) c.args.out.now a) h came.claim came.len _ _ (more ++ later) good (rw (came.is, empty_lines c.args.at c.args.header.now) c.in-Err.ensures.breaks);
      failed = λ e. c.in-Err.ensures.failed;
      unfailed = λ other. absurd (other refl);
    }
