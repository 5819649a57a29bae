use Rattle.std.proofs.Common.{◌∙◌, ◌∷◌, [], Some, ap, refl, subst, sym}
use Rattle.mp4_box.specs.Trees.{view}
use Rattle.mp4_traf.specs.declared.run.Run.{Run}
use Rattle.mp4_traf.specs.Ranges.{InRange}
use Rattle.mp4_traf.specs.Runs.{moof_at}
use Rattle.mp4_frag.proofs.SingleRunLemmas.{single_found}
use Rattle.mp4_frag.proofs.single_run.only_run.run_with.Goals as goal

pub run_of-requires : goal.run_of-requires
run_of-requires c =
    (single_found (moof_at c.args.moof_bytes.now c.args.moof) c.args.tracks.now (view c.args.traf.now) (view c.args.only.now) c.args.tfhd.now _ (Some c.args.track) c.track_at-of.result c.header_by.result c.end_in.result c.before_runs-run_start.result.time c.before_runs-run_start.result.place
    c.requires.tfhd refl (sym c.requires.track) c.track_at-of.ensures c.header_by.ensures.header c.header_by.ensures.small c.end_in.ensures (c.before_runs-run_start.ensures.time ∙ c.unwrap_or.ensures ∙ c.requires.time c.track_at-of.result.next) c.before_runs-run_start.ensures.place c.requires.sound c.requires.trun).fits

pub returns-clause-run : goal.returns-clause-run
returns-clause-run c =
    (single_found (moof_at c.args.moof_bytes.now c.args.moof) c.args.tracks.now (view c.args.traf.now) (view c.args.only.now) c.args.tfhd.now _ (Some c.args.track) c.track_at-of.result c.header_by.result c.end_in.result c.before_runs-run_start.result.time c.before_runs-run_start.result.place
    c.requires.tfhd refl (sym c.requires.track) c.track_at-of.ensures c.header_by.ensures.header c.header_by.ensures.small c.end_in.ensures (c.before_runs-run_start.ensures.time ∙ c.unwrap_or.ensures ∙ c.requires.time c.track_at-of.result.next) c.before_runs-run_start.ensures.place c.requires.sound c.requires.trun).is
    ∙ ap (λ (run : Run). run ∷ []) (sym c.run_of.ensures)

pub returns-clause-range : goal.returns-clause-range
returns-clause-range c =
    subst InRange (sym c.run_of.ensures)
    (single_found (moof_at c.args.moof_bytes.now c.args.moof) c.args.tracks.now (view c.args.traf.now) (view c.args.only.now) c.args.tfhd.now _ (Some c.args.track) c.track_at-of.result c.header_by.result c.end_in.result c.before_runs-run_start.result.time c.before_runs-run_start.result.place
    c.requires.tfhd refl (sym c.requires.track) c.track_at-of.ensures c.header_by.ensures.header c.header_by.ensures.small c.end_in.ensures (c.before_runs-run_start.ensures.time ∙ c.unwrap_or.ensures ∙ c.requires.time c.track_at-of.result.next) c.before_runs-run_start.ensures.place c.requires.sound c.requires.trun).range
