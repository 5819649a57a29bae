use Rattle.std.proofs.Common.{◌∙◌, ap, subst}
use Rattle.std.specs.Prelude.{Ok}
use Rattle.mp4_traf.specs.Runs.{moof_at}
use Rattle.mp4_frag.specs.SingleRuns.{ReadsSingleRun}
use Rattle.mp4_frag.proofs.single_run.SingleRun.read.Goals as goal

pub returns-in-Ok-Some : goal.returns-in-Ok-Some
returns-in-Ok-Some c =
    subst (ReadsSingleRun (moof_at c.args.moof_bytes.now c.args.offset) c.args.tracks.now c.args.steps.now c.read_generally.new.steps)
    (c.in-Ok-Some.is ∙ ap Ok c.in-Ok-Some.field-0-is) c.read_generally.ensures
