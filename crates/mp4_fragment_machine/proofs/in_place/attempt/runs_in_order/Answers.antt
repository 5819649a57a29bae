use Rattle.std.proofs.Common.{◌≡◌, None, subst}
use Rattle.std.proofs.lemmas.Option.{IfSome_then}
use Rattle.mp4_frag.specs.Moofs.{moof_runs}
use Rattle.mp4_frag.specs.Places.{place_fault}
use Rattle.mp4_fragment_machine.proofs.CheckLemmas.{media_less}
use Rattle.mp4_fragment_machine.proofs.in_place.attempt.runs_in_order.Goals as goal

pub returns-clause-placed : goal.returns-clause-placed
returns-clause-placed c = λ input are is.
    subst (λ p. place_fault p (moof_runs c.args.moof.now c.args.tracks.now) ≡ None) (c.payload_after.ensures input are) (c.following.ensures.placed is)

pub returns-clause-media : goal.returns-clause-media
returns-clause-media c = λ input are.
    IfSome_then c.following.result c.following.ensures.within (λ f within. media_less c.args.at input c.args.boxes.now are c.payload_after.result f.bytes (c.payload_after.ensures input are) within)
