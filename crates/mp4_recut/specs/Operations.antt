-- How each operation reads a fragmented stream.
use Rattle.std.specs.Prelude.{ℕ, ◌+◌, List}
use Rattle.mp4_machine.specs.Readings.{Reading}
use Rattle.mp4_machine.specs.declared.tally.Tally.{Tally}
use Rattle.mp4_grammar.specs.Commands.{command_meaning}
use Rattle.mp4_grammar.specs.Contexts.{first_context}
use Rattle.mp4_grammar.specs.Items.{reads_in}
use Rattle.mp4_grammar.specs.Meanings.{Meaning}
use Rattle.mp4_recut.specs.Splitting.{splitting}
use Rattle.mp4_recut.specs.declared.operation.Operation.{Operation}
use Rattle.mp4_recut.specs.declared.operation.Operation.TheVariants as operations

-- the meaning of a stream for an operation
abbrev pub operation_meaning : Operation → Meaning
operation_meaning (operations.List command) = command_meaning command
operation_meaning (operations.Split cut) = splitting cut

-- sequence_number of the next output fragment, from the counts: a listing writes none
abbrev pub number_in : Operation → Tally → ℕ
number_in (operations.List command) t = 1
number_in (operations.Split cut) t = t.fragments + 1

-- how an operation reads the bytes of a stream
abbrev pub reads_of : Operation → List ℕ → Reading
reads_of operation bytes = reads_in (operation_meaning operation) first_context bytes
