use Rattle.std.proofs.Common.{◌∙◌, ap, arith, sym}
use Rattle.std.specs.Str.{bytes_eq}
use Rattle.mp4_frag.proofs.CommonLayoutLemmas.{plain_here}
use Rattle.mp4_frag.proofs.single_run.common_layout.plain_first.Goals as goal

pub returns-clause-here : goal.returns-clause-here
returns-clause-here c =
    plain_here c.args.offset c.args.bytes.now c.args.kind c.u32_at-size.result (omega (arith, c.if-bytes-lt8.false)) c.u32_at-size.ensures (omega (arith, c.if-size-lt8.false)) c.if-size-bytes.false
    (ap (λ k. bytes_eq k c.args.kind.0) (sym c.array_at.ensures) ∙ sym c.is.ensures ∙ c.if-not-is.false) c.requires.plain
