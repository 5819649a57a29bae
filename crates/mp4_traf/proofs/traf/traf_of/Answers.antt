use Rattle.std.proofs.Common.{subst, sym}
use Rattle.mp4_box.specs.Trees.{view}
use Rattle.mp4_traf.specs.Ranges.{IsSound}
use Rattle.mp4_traf.specs.Runs.{MoofBytes}
use Rattle.mp4_traf.specs.Implementation.TrafContexts.{track_fragment, shared_of}
use Rattle.mp4_traf.proofs.RangeLemmas.{in_range}
use Rattle.mp4_traf.proofs.RunLemmas.{traf_is}
use Rattle.mp4_traf.proofs.traf.traf_of.Goals as goal

pub invariant_of-result : goal.invariant_of-result
invariant_of-result c =
    let h : MoofBytes = record { bytes = c.args.moof_bytes.now; offset = c.args.moof } in
    let is = traf_is h c.args.tracks.now (view c.args.this.now) c.track_of-track.result (shared_of c.context_of.result) c.base_of.result c.track_of-track.ensures c.context_of.ensures.shared c.base_of.ensures in
    in_range (track_fragment c.context_of.result c.base_of.result c.args.this.now) c.context_of.ensures.small (subst IsSound (sym is) c.requires)

pub returns : goal.returns
returns c =
    let h : MoofBytes = record { bytes = c.args.moof_bytes.now; offset = c.args.moof } in
    traf_is h c.args.tracks.now (view c.args.this.now) c.track_of-track.result (shared_of c.context_of.result) c.base_of.result c.track_of-track.ensures c.context_of.ensures.shared c.base_of.ensures
