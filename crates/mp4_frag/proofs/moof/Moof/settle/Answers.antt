use Rattle.std.proofs.Common.{◌∙◌, List, [], ◌∷◌, ap, arith, refl, subst, sym}
use Rattle.mp4_box.specs.Trees.{Box, view}
use Rattle.mp4_traf.specs.Runs.{MoofBytes}
use Rattle.mp4_box.specs.Paths.{at_path}
use Rattle.mp4_traf.specs.Kinds.{traf}
use Rattle.mp4_frag.specs.Moofs.{IsRead, moof_of}
use Rattle.mp4_traf.specs.Settling.{timed_in}
use Rattle.mp4_frag.proofs.MoofLemmas.{moof_is, read_count}
use Rattle.mp4_traf.proofs.ChildLemmas.{truns_first}
use Rattle.mp4_frag.proofs.SoundLemmas.{few_timed}
use Rattle.mp4_frag.proofs.SettleLemmas.{Settles, settles}
use Rattle.mp4_frag.proofs.moof.Moof.settle.Goals as goal

pub loop-traf-init : goal.loop-traf-init
loop-traf-init c =
    let h : MoofBytes = record { bytes = c.self.inside.moof_bytes.now; offset = c.self.inside.offset } in
    let m : Box = view c.whole_box-this.result in
    let is = moof_is c.self.inside.offset c.self.inside.moof_bytes.now m c.whole_box-this.ensures in
    let read = subst (λ (h : MoofBytes). IsRead h c.args.tracks.now) (sym c.self.view_is) c.requires.read in
    let all = settles h c.args.tracks.now m (omega (arith, c.self.invariant.1)) c.self.invariant.0 c.self.invariant.4 c.whole_box-this.ensures is read in
    let these = c.into_iter-traf-iterator.ensures.into_iter_gives ∙ c.children_of-traf-items.ensures in
    let here = subst (λ (h : MoofBytes). Settles h c.args.tracks.now c.into_iter-traf-iterator.result) c.self.view_is (subst (λ (ts : List Box). Settles h c.args.tracks.now ts) (sym these) all) in
    record {
      left = here.is;
      each = here.each;
      count = omega (arith, ap timed_in (truns_first (moof_of c.args.self.now) c.into_iter-traf-iterator.result [] (these ∙ ap (at_path (traf ∷ [])) (sym is ∙ ap moof_of c.self.view_is)) refl));
      few = few_timed (moof_of c.args.self.now) (read_count c.args.self.now c.args.tracks.now c.requires.read);
    }
