use Rattle.std.proofs.Common.{◌≡◌, ◌∙◌, ◌+◌, Some, ap, arith, length, refl}
use Rattle.std.proofs.lemmas.Bool.{false≢true}
use Rattle.mp4_box.specs.declared.rules.Rule.TheVariants.{Truncated}
use Rattle.mp4_box.specs.Headers.{kind_of}
use Rattle.mp4_machine.specs.Bodies.{fault}
use Rattle.mp4_grammar.specs.Contexts.{context}
use Rattle.mp4_fragment_machine.specs.States.{known}
use Rattle.mp4_fragment_machine.proofs.QuietLemmas.{ends-after, ends-missing, some_bytes}
use Rattle.mp4_fragment_machine.proofs.mdat.header.unfollowed.Goals as goal

pub returns-then-is_empty : goal.returns-then-is_empty
returns-then-is_empty c = λ meaning number tracks i.
    let w = c.args.pending_moof.now in
    rw c.offset.ensures.at (ends-missing meaning (context w.moof.at tracks number) (known tracks) w.moof.bytes c.args.header_bytes.now (c.if-is_empty.ensures.0 refl))

pub returns : goal.returns
returns c = λ meaning number tracks i.
    let w = c.args.pending_moof.now in
    let at : w.moof.at + length w.moof.bytes ≡ c.offset-2.result + c.size.result = omega (arith, i.size, c.offset-2.ensures.at, c.size.ensures) in
    rw (c.truncated.ensures, c.kind.ensures.computed)
    (ends-after meaning (context w.moof.at tracks number) (known tracks) w.moof.bytes c.args.header_bytes.now (some_bytes c.args.header_bytes.now (λ e. false≢true (c.if-is_empty.ensures.1 e))) c.requires.1
    ∙ ap (λ n. Some (fault Truncated (kind_of c.args.header_bytes.now) n)) at)
