use Rattle.std.proofs.Common.{◌∙◌, sym}
use Rattle.mp4_box.specs.Trees.{children, view}
use Rattle.mp4_box.specs.Paths.{of_kind}
use Rattle.mp4_box.proofs.CheckLemmas.{is_none, missing_noted}
use Rattle.mp4_box.proofs.checks.OneCheck.note_at.Goals as goal

pub returns-then-not-note_further : goal.returns-then-not-note_further
returns-then-not-note_further c =
    c.note.ensures
    ∙ missing_noted c.args.best.now _ (view c.args.this.now) (of_kind c.args.self.now.0 (children (view c.args.this.now))) c.fault.result
    (is_none _ (sym c.note_further.ensures.seen ∙ c.if-not-note_further.true)) c.note_further.ensures.best c.fault.ensures
