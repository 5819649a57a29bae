use Rattle.std.proofs.Common.{List, ap, subst, sym, ◌∙◌}
use Rattle.std.specs.List.{flat_map}
use Rattle.mp4_box.specs.Order.{least_from}
use Rattle.mp4_traf.specs.declared.run.Run.{Run}
use Rattle.mp4_traf.specs.Runs.{TrackFragment, runs_of}
use Rattle.mp4_pieces.specs.Pieces.{piece_count}
use Rattle.mp4_traf.specs.Ranges.{AreRunsOf}
use Rattle.mp4_pieces.specs.Rooms.{index_faults}
use Rattle.mp4_pieces.proofs.RoomLemmas.{best_end, best_past, count_past}
use Rattle.mp4_frag.proofs.ReadRunLemmas.{of_both}
use Rattle.mp4_pieces.proofs.rooms.note_trafs.Goals as goal

pub note_runs-count-requires-clause-runs : goal.note_runs-count-requires-clause-runs
note_runs-count-requires-clause-runs c =
    let steps = ap (λ (ts : List TrackFragment). flat_map runs_of ts) c.in-Some.ensures.steps in
    subst (AreRunsOf c.args.moof_bytes.now) (sym c.runs.ensures) (of_both c.args.moof_bytes.now (runs_of c.in-Some.traf) (flat_map runs_of c.next.new.self) (subst (AreRunsOf c.args.moof_bytes.now) steps c.loop-traf.invariant.runs)).0

pub loop-traf-preserved : goal.loop-traf-preserved
loop-traf-preserved c =
    let cut = c.args.cut.now in
    let moof_bytes = c.args.moof_bytes.now in
    let rest = flat_map runs_of c.next.new.self in
    let steps = ap (λ (ts : List TrackFragment). flat_map runs_of ts) c.in-Some.ensures.steps in
    let before = c.loop-traf.invariant in
    record {
      runs = (of_both moof_bytes (runs_of c.in-Some.traf) rest (subst (AreRunsOf moof_bytes) steps before.runs)).1;
      count = count_past cut moof_bytes (flat_map runs_of c.loop-traf.traf-iterator) (runs_of c.in-Some.traf) rest _ c.loop-traf.count c.note_runs-count.result steps before.count (c.note_runs-count.ensures.count ∙ ap (piece_count cut moof_bytes) c.runs.ensures);
      best = best_past cut moof_bytes (flat_map runs_of c.loop-traf.traf-iterator) (runs_of c.in-Some.traf) rest c.loop-traf.best c.note_runs-count.new.best steps (c.note_runs-count.ensures.best ∙ ap (λ (xs : List Run). least_from c.loop-traf.best (index_faults cut moof_bytes xs)) c.runs.ensures) ∙ before.best;
    }

pub returns-clause-best : goal.returns-clause-best
returns-clause-best c =
    best_end c.args.cut.now c.args.moof_bytes.now (flat_map runs_of c.loop-traf.traf-iterator) c.loop-traf.best _ (ap (λ (ts : List TrackFragment). flat_map runs_of ts) c.in-None.ensures.steps.0) c.loop-traf.invariant.best
