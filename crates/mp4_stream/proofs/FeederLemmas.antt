-- What a Feeder is after the bytes of a stream that it was fed, and what the next input does.
use Rattle.std.proofs.Common.{◌≡◌, ℕ, ◌+◌, ◌-◌, ◌*◌, ◌≤◌, List, [], ◌++◌, None, Result, refl, arith, subst, sym}
use Rattle.mp4_box.specs.Headers.{IsBytes}
use Rattle.mp4_fragment_machine.specs.States.{Progress, begun, continuation_in}
use Rattle.mp4_fragment_machine.proofs.HeadLemmas.{reads-none}
use Rattle.mp4_grammar.specs.Contexts.{context, first_context}
use Rattle.mp4_grammar.specs.HeldSizes.{HoldsWithin}
use Rattle.mp4_grammar.proofs.BeforeLemmas.{text-before}
use Rattle.mp4_grammar.proofs.CommandLemmas.{command_meaning-quiet}
use Rattle.mp4_grammar.proofs.HeldSizeLemmas.{asks-within}
use Rattle.mp4_grammar.proofs.ItemAskLemmas as quiet
use Rattle.mp4_machine.specs.Fed.{Borrowed}
use Rattle.mp4_machine.specs.FedMachines.{ClaimsByRequests, Fed, IsOrdered}
use Rattle.mp4_machine.specs.FedMachines as machines
use Rattle.mp4_machine.specs.Inputs.{IsBegun}
use Rattle.mp4_machine.specs.Readings.{empty_reading, most_of, uncounted}
use Rattle.mp4_machine.specs.declared.stop.Stop.{Stop}
use Rattle.mp4_machine.proofs.FedMachineLemmas.{after-begun}
use Rattle.mp4_recut.specs.Operations.{number_in, operation_meaning, reads_of}
use Rattle.mp4_recut.specs.declared.operation.Operation.{Operation}
use Rattle.mp4_recut.specs.declared.operation.Operation.TheVariants as operations
use Rattle.mp4_recut.proofs.SplitLemmas.{splitting-quiet}
use Rattle.mp4_stream.specs.Feeders.{ClaimsWithin, Feeds, IsAfter, feeding, held_by, shown}
use Rattle.mp4_stream.specs.Feeders as feeders

-- ---- how an operation reads

-- nothing is asked for besides the items
pub operation-quiet : (operation : Operation) → quiet.HasNoEffects (operation_meaning operation)
operation-quiet (operations.List command) = command_meaning-quiet command
operation-quiet (operations.Split cut) = splitting-quiet cut

-- before a request is the output of the bytes before its box
pub operation-ordered : (operation : Operation) → IsOrdered (reads_of operation)
operation-ordered operation = record { before = λ b earlier a later e. text-before (operation_meaning operation) (operation-quiet operation) b earlier a later e }

-- no bytes have no output
pub reading-none : (operation : Operation) → reads_of operation [] ≡ empty_reading
reading-none operation = reads-none (operation_meaning operation) first_context

-- ---- no byte has come

pub begun-is : (operation : Operation) → IsBegun (continuation_in (begun operation)) uncounted
begun-is operation = record { reached = refl; claim = refl; none = reads-none (operation_meaning operation) (context 0 None (number_in operation uncounted)); counted = refl }

-- the first fragment that is written has the number 1
pub begun-after : (operation : Operation) → IsAfter (feeders.begun operation (begun operation)) []
begun-after (operations.List command) = after-begun (continuation_in (begun (operations.List command))) uncounted (begun-is (operations.List command))
begun-after (operations.Split cut) = after-begun (continuation_in (begun (operations.Split cut))) uncounted (begun-is (operations.Split cut))

-- ---- the input

-- what is claimed, by the boxes of the stream
claims-within : {T : Type 0} (operation : Operation) (b : List ℕ) → IsBytes b → (peak others limit : ℕ) (result : Result T Stop) → ClaimsByRequests (reads_of operation) b peak others limit result → ClaimsWithin operation b peak others limit result
claims-within operation b fits peak others limit result c =
    let most : (moov moof : ℕ) → HoldsWithin (operation_meaning operation) first_context b moov moof → most_of (reads_of operation b).effects ≤ 2 * moov + 5 * moof = λ moov moof within. asks-within (operation_meaning operation) (operation-quiet operation) moov moof b fits within in
    record {
      most = λ moov moof within. omega (arith, c.most, most moov moof within);
      enough = λ moov moof within room is. c.enough (omega (arith, most moov moof within, room)) is;
    }

-- a Feeder is fed as its machine is, which keeps its operation
pub feeds-by : {T : Type 0} (operation kept : Operation) (b input : List ℕ) (f f' : Fed Progress) (l : Borrowed) (result : Result T Stop) → kept ≡ operation → machines.Feeds (reads_of operation) b input (shown (feeding operation f)) (shown (feeding operation f')) l result → Feeds b input (feeding operation f) (feeding kept f') l result
feeds-by operation kept b input f f' l result same fed = subst (λ (o : Operation). Feeds b input (feeding operation f) (feeding o f') l result) (sym same) (record {
  bytes = fed.bytes;
  ok = fed.ok;
  err = fed.err;
  claims = claims-within operation (b ++ input) fed.bytes f'.peak (l.account.live - held_by (feeding operation f)) l.account.limit result fed.claims;
})
