use Rattle.std.proofs.Common.{◌≡◌, ◌∙◌, ℕ, Some, ap, sym}
use Rattle.std.specs.Prelude.{option_map}
use Rattle.mp4_pieces.specs.Fitting.{cut_for, ticks_in}
use Rattle.mp4_pieces.proofs.PlainLemmas.{counted_still, counted_ticks, long_one, most_is, not_some}
use Rattle.mp4_pieces.proofs.cut.Cut.bound_in_time.Goals as goal
use Rattle.mp4_pieces.proofs.cut.Cut.bound_in_time.Goals.{After-ticks_in-ticks}

-- the ticks of the track
ticks_are : (c : After-ticks_in-ticks) → (cut_for c.args.run.now.timescale c.args.self.now).ticks ≡ Some c.ticks_in-ticks.result
ticks_are c = ap (option_map (ticks_in c.args.run.now.timescale)) c.requires.asked ∙ ap (λ (n : ℕ). Some n) (sym c.ticks_in-ticks.ensures)

pub returns-then-run-eq0-clause-bound : goal.returns-then-run-eq0-clause-bound
returns-then-run-eq0-clause-bound c =
    let cut = c.args.self.now in
    let run = c.args.run.now in
    let sums = c.requires.sums in
    counted_still cut run c.ticks_in-ticks.result sums.bytes sums.sync sums.keyframes (ticks_are (goal.at.returns-then-run-eq0-clause-bound c).After-ticks_in-ticks)
    (not_some run.fields.sample_duration (sym c.is_some.ensures ∙ c.if-is_some.false)) c.if-run-eq0.true

pub returns-clause-bound : goal.returns-clause-bound
returns-clause-bound c =
    let cut = c.args.self.now in
    let run = c.args.run.now in
    let sums = c.requires.sums in
    let ticks = c.ticks_in-ticks.result in
    counted_ticks cut run ticks c.min.result sums.bytes sums.sync sums.keyframes (ticks_are (goal.at.returns-clause-bound c).After-ticks_in-ticks)
    (not_some run.fields.sample_duration (sym c.is_some.ensures ∙ c.if-is_some.false)) (long_one run.duration c.if-run-eq0.false) cut.some
    (c.min.ensures ∙ most_is ticks run.duration cut.samples c.from.result c.max-fit.result c.from-2.result c.from.ensures c.max-fit.ensures c.from-2.ensures)
