-- Bytes that a machine takes from the front of the input.
use Rattle.std.proofs.Common.{ℕ, ◌+◌, List, ◌++◌, refl}
use Rattle.mp4_box.specs.declared.headers.FourCc.{FourCc}
use Rattle.mp4_machine.specs.Inputs.{Environment, GoesOn}
use Rattle.mp4_machine.specs.Readings.{then_read}
use Rattle.mp4_machine.proofs.ContinuationLemmas.{GoesOn-gathered}
use Rattle.mp4_grammar.specs.Contexts.{Context, table_of}
use Rattle.mp4_grammar.specs.Items.{buffered_body, reads_in}
use Rattle.mp4_grammar.specs.Meanings.{Meaning}
use Rattle.mp4_fragment_machine.specs.Places.{InBuffered, continuation_at}

-- bytes of a box came that is held
pub GoesOn-held : (meaning : Meaning) (o : Environment) (c : Context) (kind : FourCc) (size : ℕ) (buffered x : List ℕ) → GoesOn o o (continuation_at meaning (InBuffered c kind size buffered)) x (continuation_at meaning (InBuffered c kind size (buffered ++ x)))
GoesOn-held meaning o c kind size buffered x =
    GoesOn-gathered o (λ l. then_read (reads_in meaning) (buffered_body meaning c kind size l)) c.at (table_of c.tracks + size) buffered x (buffered ++ x) refl
