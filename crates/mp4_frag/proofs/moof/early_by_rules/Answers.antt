use Rattle.std.proofs.Common.{◌∙◌, Some, sym}
use Rattle.mp4_box.specs.Trees.{view}
use Rattle.mp4_frag.proofs.EarlyLemmas.{content_count}
use Rattle.mp4_frag.proofs.MoofLemmas.{content_fault_least, moof_is, tree_least}
use Rattle.mp4_frag.proofs.moof.early_by_rules.Goals as goal

pub samples_in-requires : goal.samples_in-requires
samples_in-requires c = content_count c.args.tracks.now (view c.whole_box-moof.result) (sym c.in-None.is ∙ c.content_fault.ensures)

pub returns-in-Err-clause-least : goal.returns-in-Err-clause-least
returns-in-Err-clause-least c = tree_least (record { bytes = c.args.moof_bytes.now; offset = c.args.offset }) c.args.tracks.now c.in-Err.fault c.in-Err.ensures.least

pub returns-in-Some-clause-least : goal.returns-in-Some-clause-least
returns-in-Some-clause-least c =
    let m = view c.whole_box-moof.result in
    content_fault_least (record { bytes = c.args.moof_bytes.now; offset = c.args.offset }) c.args.tracks.now m (Some c.in-Some.fault)
    (moof_is c.args.offset c.args.moof_bytes.now m c.whole_box-moof.ensures) (sym c.in_default.ensures.fault) (sym c.in-Some.is ∙ c.content_fault.ensures)
