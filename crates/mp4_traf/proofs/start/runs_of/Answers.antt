use Rattle.std.proofs.Common.{◌∙◌, ap, refl}
use Rattle.mp4_box.specs.Trees.{view}
use Rattle.mp4_traf.specs.Runs.{TrackFragment, moof_at, track_of}
use Rattle.mp4_traf.specs.Implementation.TrafContexts.{shared_of}
use Rattle.mp4_traf.proofs.RunLemmas.{traf_is}
use Rattle.mp4_traf.proofs.StartLemmas.{Starts, runs_are, runs_in_range}
use Rattle.mp4_traf.proofs.start.runs_of.Goals as goal

pub among-requires : goal.among-requires
among-requires c =
    let starts : Starts (moof_at c.args.moof_bytes.now c.args.moof) c.args.tracks.now (view c.args.traf.now) (shared_of c.start_of-start.result.context) c.before_runs-run_start.result.time c.before_runs-run_start.result.place c.start_of-start.result.rest = record { shared = c.start_of-start.ensures.shared; begins = c.before_runs-run_start.ensures.time ∙ c.start_of-start.ensures.time; last = c.before_runs-run_start.ensures.place; truns = c.start_of-start.ensures.truns } in
    runs_in_range (moof_at c.args.moof_bytes.now c.args.moof) c.args.tracks.now (view c.args.traf.now) (shared_of c.start_of-start.result.context) c.before_runs-run_start.result.time c.before_runs-run_start.result.place c.start_of-start.result.rest starts c.start_of-start.ensures.small c.requires

pub returns-clause-runs : goal.returns-clause-runs
returns-clause-runs c =
    let starts : Starts (moof_at c.args.moof_bytes.now c.args.moof) c.args.tracks.now (view c.args.traf.now) (shared_of c.start_of-start.result.context) c.before_runs-run_start.result.time c.before_runs-run_start.result.place c.start_of-start.result.rest = record { shared = c.start_of-start.ensures.shared; begins = c.before_runs-run_start.ensures.time ∙ c.start_of-start.ensures.time; last = c.before_runs-run_start.ensures.place; truns = c.start_of-start.ensures.truns } in
    c.among.ensures ∙ runs_are (moof_at c.args.moof_bytes.now c.args.moof) c.args.tracks.now (view c.args.traf.now) (shared_of c.start_of-start.result.context) c.before_runs-run_start.result.time c.before_runs-run_start.result.place c.start_of-start.result.rest starts

pub returns-clause-track : goal.returns-clause-track
returns-clause-track c =
    let start = c.start_of-start in
    ap (λ (t : TrackFragment). t.shared.header.track)
    (traf_is (moof_at c.args.moof_bytes.now c.args.moof) c.args.tracks.now (view c.args.traf.now) (track_of c.args.tracks.now (view c.args.traf.now)) (shared_of start.result.context) start.result.time refl start.ensures.shared start.ensures.time)

pub returns-clause-time : goal.returns-clause-time
returns-clause-time c =
    let start = c.start_of-start in
    ap (λ (t : TrackFragment). t.time)
    (traf_is (moof_at c.args.moof_bytes.now c.args.moof) c.args.tracks.now (view c.args.traf.now) (track_of c.args.tracks.now (view c.args.traf.now)) (shared_of start.result.context) start.result.time refl start.ensures.shared start.ensures.time)
