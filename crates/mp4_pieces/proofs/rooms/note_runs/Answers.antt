use Rattle.std.proofs.Common.{List, [], ◌∷◌, ap, subst, sym, ◌∙◌}
use Rattle.mp4_box.specs.Order.{least_from}
use Rattle.mp4_traf.specs.declared.run.Run.{Run}
use Rattle.mp4_traf.specs.Ranges.{AreRunsOf}
use Rattle.mp4_pieces.proofs.RoomLemmas.{best_end, best_past, count_one, count_past, faults_one}
use Rattle.mp4_pieces.proofs.rooms.note_runs.Goals as goal

pub loop-run-preserved : goal.loop-run-preserved
loop-run-preserved c =
    let cut = c.args.cut.now in
    let moof_bytes = c.args.moof_bytes.now in
    let run = c.in-Some.run' in
    let rest = c.next.new.self in
    let steps = c.in-Some.ensures.steps in
    let before = c.loop-run.invariant in
    record {
      runs = (subst (λ (xs : List Run). AreRunsOf moof_bytes xs) steps before.runs).1;
      count = count_past cut moof_bytes c.loop-run.run-iterator (run ∷ []) rest _ c.loop-run.count c.note_run-count.result steps before.count (c.note_run-count.ensures.count ∙ sym (count_one cut moof_bytes run));
      best = best_past cut moof_bytes c.loop-run.run-iterator (run ∷ []) rest c.loop-run.best c.note_run-count.new.best steps (c.note_run-count.ensures.best ∙ ap (least_from c.loop-run.best) (sym (faults_one cut moof_bytes run))) ∙ before.best;
    }

pub returns-clause-best : goal.returns-clause-best
returns-clause-best c = best_end c.args.cut.now c.args.moof_bytes.now c.loop-run.run-iterator c.loop-run.best _ c.in-None.ensures.steps.0 c.loop-run.invariant.best
