use Rattle.std.proofs.Common.{◌∙◌, ap}
use Rattle.mp4_box.specs.Order.{least}
use Rattle.mp4_box.specs.Trees.{view}
use Rattle.mp4_frag.proofs.MoofLemmas.{moof_is, times_along}
use Rattle.mp4_frag.proofs.rules.late.late_fault.Goals as goal

pub returns : goal.returns
returns c =
    let m = view c.whole_box-moof.result in
    c.note_along.ensures ∙ ap least (times_along (record { bytes = c.args.moof_bytes.now; offset = c.args.offset }) c.args.tracks.now m (moof_is c.args.offset c.args.moof_bytes.now m c.whole_box-moof.ensures))
