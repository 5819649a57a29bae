use Rattle.mp4_box.specs.Trees.{view}
use Rattle.mp4_traf.specs.Runs.{MoofBytes}
use Rattle.mp4_frag.proofs.MoofListLemmas.{few_truns, is_moof}
use Rattle.mp4_frag.proofs.moof.truns_at.Goals as goal

pub truns_in-requires : goal.truns_in-requires
truns_in-requires c =
    let h : MoofBytes = record { bytes = c.args.moof_bytes.now; offset = c.args.offset } in
    let m = view c.whole_box.result in
    few_truns h m (is_moof c.args.offset c.args.moof_bytes.now m c.requires.whole (λ i. (c.type_inv.moof_bytes i).fits) c.requires.room c.whole_box.ensures)
