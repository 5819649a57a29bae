use Rattle.std.proofs.Common.{◌≡◌, ◌≢◌, ◌∙◌, List, [], ◌∷◌, ap, length, subst, sym}
use Rattle.std.specs.Prelude.{IfNone, IfSome}
use Rattle.mp4_box.specs.Paths.{of_kind}
use Rattle.mp4_box.specs.Trees.{Box, children, view}
use Rattle.mp4_traf.specs.Kinds.{traf, trun}
use Rattle.mp4_traf.specs.Runs.{moof_at}
use Rattle.mp4_frag.proofs.SingleRunLemmas.{one_run, only_one}
use Rattle.mp4_frag.proofs.MoofLemmas.{moof_is}
use Rattle.mp4_frag.proofs.single_run.only_run.has_one_run.Goals as goal

pub returns : goal.returns
returns c = λ tracks.
    let m = view c.whole_box-moof.result in
    one_run (moof_at c.args.moof_bytes.now c.args.offset) tracks m (view c.in-Some.traf) c.is_some.result (moof_is c.args.offset c.args.moof_bytes.now m c.whole_box-moof.ensures) (ap (of_kind traf) (sym c.of.ensures.children) ∙ c.in-Some.ensures.only)
    (rw c.is_some.ensures (only_one c.only_of-2.result (of_kind trun (children (view c.in-Some.traf)))
    (subst (λ (bs : List Box). IfSome c.only_of-2.result (λ b. of_kind trun bs ≡ view b ∷ [])) c.of-2.ensures.children c.only_of-2.ensures.only)
    (subst (λ (bs : List Box). IfNone c.only_of-2.result (length (of_kind trun bs) ≢ 1)) c.of-2.ensures.children c.only_of-2.ensures.none)))
