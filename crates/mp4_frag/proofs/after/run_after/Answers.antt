use Rattle.std.proofs.Common.{Some, ◌∙◌, ℕ, List, arith, ap, sym}
use Rattle.std.specs.List.{flat_map}
use Rattle.mp4_box.specs.Trees.{first_of}
use Rattle.mp4_traf.specs.declared.run.Run.{Run}
use Rattle.mp4_traf.specs.Runs.{MoofBytes, TrackFragment, runs_of}
use Rattle.mp4_frag.specs.Implementation.LaterRuns.{runs_after, trafs_after}
use Rattle.mp4_frag.specs.Moofs.{moof_runs}
use Rattle.mp4_frag.proofs.AfterLemmas.{after_run, first_of_both, first_of_last, is_one_of}
use Rattle.mp4_frag.proofs.after.run_after.Goals as goal

abbrev moof_bytes_of : List ℕ → ℕ → MoofBytes
moof_bytes_of bytes offset = record { bytes = bytes; offset = offset }

pub runs_after-requires-clause-order : goal.runs_after-requires-clause-order
runs_after-requires-clause-order c = (after_run (moof_bytes_of c.args.moof_bytes.now c.args.moof) c.args.tracks.now (omega (arith, c.requires.room)) c.requires.whole (λ i. (c.type_inv.moof_bytes i).fits) c.requires.read c.requires.run.0 c.requires.run.1 c.args.run.now c.requires.run.2).low

pub runs_after-requires-clause-within : goal.runs_after-requires-clause-within
runs_after-requires-clause-within c = (after_run (moof_bytes_of c.args.moof_bytes.now c.args.moof) c.args.tracks.now (omega (arith, c.requires.room)) c.requires.whole (λ i. (c.type_inv.moof_bytes i).fits) c.requires.read c.requires.run.0 c.requires.run.1 c.args.run.now c.requires.run.2).high

pub runs_after-requires-clause-here : goal.runs_after-requires-clause-here
runs_after-requires-clause-here c = (after_run (moof_bytes_of c.args.moof_bytes.now c.args.moof) c.args.tracks.now (omega (arith, c.requires.room)) c.requires.whole (λ i. (c.type_inv.moof_bytes i).fits) c.requires.read c.requires.run.0 c.requires.run.1 c.args.run.now c.requires.run.2).here c.requires.small

pub runs_after-requires-clause-range : goal.runs_after-requires-clause-range
runs_after-requires-clause-range c = (after_run (moof_bytes_of c.args.moof_bytes.now c.args.moof) c.args.tracks.now (omega (arith, c.requires.room)) c.requires.whole (λ i. (c.type_inv.moof_bytes i).fits) c.requires.read c.requires.run.0 c.requires.run.1 c.args.run.now c.requires.run.2).range c.requires.small

pub trafs_after-requires-clause-within : goal.trafs_after-requires-clause-within
trafs_after-requires-clause-within c = (after_run (moof_bytes_of c.args.moof_bytes.now c.args.moof) c.args.tracks.now (omega (arith, c.requires.room)) c.requires.whole (λ i. (c.type_inv.moof_bytes i).fits) c.requires.read c.requires.run.0 c.requires.run.1 c.args.run.now c.requires.run.2).high

pub trafs_after-requires-clause-sound : goal.trafs_after-requires-clause-sound
trafs_after-requires-clause-sound c = (after_run (moof_bytes_of c.args.moof_bytes.now c.args.moof) c.args.tracks.now (omega (arith, c.requires.room)) c.requires.whole (λ i. (c.type_inv.moof_bytes i).fits) c.requires.read c.requires.run.0 c.requires.run.1 c.args.run.now c.requires.run.2).sound

pub returns-in-Some-clause-next : goal.returns-in-Some-clause-next
returns-in-Some-clause-next c before after s =
    first_of_both (runs_after (moof_bytes_of c.args.moof_bytes.now c.args.moof) c.args.run.now) (flat_map runs_of (trafs_after (moof_bytes_of c.args.moof_bytes.now c.args.moof) c.args.tracks.now c.args.run.now)) c.in-Some.next c.next.new.self (sym c.runs_after.ensures ∙ c.in-Some.ensures.steps)
    ∙ ap (λ (runs : List Run). first_of runs) (sym (after_run (moof_bytes_of c.args.moof_bytes.now c.args.moof) c.args.tracks.now (omega (arith, c.requires.room)) c.requires.whole (λ i. (c.type_inv.moof_bytes i).fits) c.requires.read before after c.args.run.now s).is)

pub returns-in-Some-clause-run : goal.returns-in-Some-clause-run
returns-in-Some-clause-run c = is_one_of (moof_runs (moof_bytes_of c.args.moof_bytes.now c.args.moof) c.args.tracks.now) c.args.run.now (Some c.in-Some.next) c.requires.run (returns-in-Some-clause-next c)

pub returns-clause-next : goal.returns-clause-next
returns-clause-next c before after s =
    first_of_last (runs_after (moof_bytes_of c.args.moof_bytes.now c.args.moof) c.args.run.now) (flat_map runs_of (trafs_after (moof_bytes_of c.args.moof_bytes.now c.args.moof) c.args.tracks.now c.args.run.now)) c.first_run.result (sym c.runs_after.ensures ∙ c.in_default.ensures.steps.0) (c.first_run.ensures ∙ ap (λ (ts : List TrackFragment). first_of (flat_map runs_of ts)) c.trafs_after.ensures)
    ∙ ap (λ (runs : List Run). first_of runs) (sym (after_run (moof_bytes_of c.args.moof_bytes.now c.args.moof) c.args.tracks.now (omega (arith, c.requires.room)) c.requires.whole (λ i. (c.type_inv.moof_bytes i).fits) c.requires.read before after c.args.run.now s).is)

pub returns-clause-run : goal.returns-clause-run
returns-clause-run c = is_one_of (moof_runs (moof_bytes_of c.args.moof_bytes.now c.args.moof) c.args.tracks.now) c.args.run.now c.first_run.result c.requires.run (returns-clause-next c)
