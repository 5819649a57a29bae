use Rattle.std.proofs.Common.{◌+◌, ap, arith, drop}
use Rattle.mp4_grammar.specs.declared.kinds.Kind.TheVariants.{Mdat}
use Rattle.mp4_fragment_machine.specs.Implementation.InPlace.{payload_in}
use Rattle.mp4_fragment_machine.proofs.FragmentLemmas.{first_fits, moof_len}
use Rattle.mp4_fragment_machine.proofs.in_place.fragment.payload_after.Goals as goal

pub overflow_add-result : goal.overflow_add-result
overflow_add-result c =
    let b = c.args.boxes.now in
    let input = c.requires.0 in
    let are = c.requires.1 in
    let next = c.args.at + are.span.size in
    omega (arith, moof_len c.args.at input b are, first_fits Mdat next (drop are.span.size input) b.mdat are.mdat, are.mdat.near)

pub returns : goal.returns
returns c = λ input are.
    let b = c.args.boxes.now in
    ap (λ k. payload_in (c.args.at + k) b.mdat) (moof_len c.args.at input b are)
