-- What a run claims and counts that reads fragments.
use Rattle.std.proofs.Common.{◌≡◌, ◌+◌, ◌*◌, ◌≤◌, Result, refl}
use Rattle.std.specs.Prelude.{IsErrOf}
use Rattle.mp4_grammar.specs.Kinds.{most_moof, most_moov}
use Rattle.mp4_grammar.proofs.BoundLemmas.{asks-bound}
use Rattle.mp4_grammar.proofs.CommandLemmas.{command_meaning-quiet}
use Rattle.mp4_grammar.proofs.HeldSizeLemmas.{asks-within}
use Rattle.mp4_grammar.proofs.ItemAskLemmas.{HasNoEffects}
use Rattle.mp4_machine.specs.Ends.{Ends}
use Rattle.mp4_machine.specs.Readings.{uncounted}
use Rattle.mp4_machine.specs.StreamRuns.{Claims, ReadsStream}
use Rattle.mp4_machine.specs.declared.stop.Stop.{Stop}
use Rattle.mp4_machine.specs.declared.stop.Stop.TheVariants.{OverLimit}
use Rattle.mp4_machine.specs.declared.tally.Tally.{Tally}
use Rattle.mp4_recut.specs.Operations.{number_in, operation_meaning, reads_of}
use Rattle.mp4_recut.specs.declared.operation.Operation.{Operation}
use Rattle.mp4_recut.specs.declared.operation.Operation.TheVariants as operations
use Rattle.mp4_recut.proofs.SplitLemmas.{splitting-quiet}
use Rattle.mp4_stream.specs.Fragments.{ClaimsByBoxes}
use Rattle.mp4_machine.proofs.ClaimLemmas.{asked_bound, asked_enough}

-- nothing is requested but by the items
operation-quiet : (operation : Operation) → HasNoEffects (operation_meaning operation)
operation-quiet (operations.List command) = command_meaning-quiet command
operation-quiet (operations.Split cut) = splitting-quiet cut

pub first_number : (operation : Operation) → number_in operation uncounted ≡ 1
first_number (operations.List command) = refl
first_number (operations.Split cut) = refl

module _ {T : Type 0} (operation : Operation) {ends : Ends} (claims : Claims) {tally : Tally} where
  -- by what any stream asks for
  pub peak_bound : (result : Result T Stop) → ReadsStream {T = T} (reads_of operation) ends claims tally result → claims.peak ≤ claims.copy + (most_moov + 5 * most_moof)
  peak_bound result r = asked_bound (reads_of operation) claims result r (most_moov + 5 * most_moof) (asks-bound (operation_meaning operation) (operation-quiet operation) r.bytes r.fits)

  pub never_over : (result : Result T Stop) → ReadsStream {T = T} (reads_of operation) ends claims tally result → claims.copy + (most_moov + 5 * most_moof) ≤ claims.limit → IsErrOf result OverLimit → ⊥
  never_over result r enough = asked_enough (reads_of operation) claims result r (most_moov + 5 * most_moof) (asks-bound (operation_meaning operation) (operation-quiet operation) r.bytes r.fits) enough

  -- by the boxes that its bytes hold
  pub claims_by_boxes : (result : Result T Stop) (r : ReadsStream {T = T} (reads_of operation) ends claims tally result) → ClaimsByBoxes {T = T} operation r.bytes claims result
  claims_by_boxes result r = record {
    most = λ moov moof within. asked_bound (reads_of operation) claims result r (2 * moov + 5 * moof) (asks-within (operation_meaning operation) (operation-quiet operation) moov moof r.bytes r.fits within);
    enough = λ moov moof within enough. asked_enough (reads_of operation) claims result r (2 * moov + 5 * moof) (asks-within (operation_meaning operation) (operation-quiet operation) moov moof r.bytes r.fits within) enough;
  }
