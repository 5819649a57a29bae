-- A run that reads fragments.
use Rattle.std.specs.Prelude.{◌≡◌, ℕ, ◌+◌, ◌*◌, ◌≤◌, List, None, false, Result, IsErrOf}
use Rattle.mp4_fragment_machine.specs.States.{listed_by, reads_of}
use Rattle.mp4_grammar.specs.Contexts.{first_context}
use Rattle.mp4_grammar.specs.HeldSizes.{HoldsWithin}
use Rattle.mp4_grammar.specs.Kinds.{most_moof, most_moov}
use Rattle.mp4_ledger.specs.Memory.{Account}
use Rattle.mp4_machine.specs.Ends.{Ends, Sent}
use Rattle.mp4_machine.specs.StreamRuns.{Claims, ReadsStream}
use Rattle.mp4_machine.specs.declared.stop.Stop.{Stop}
use Rattle.mp4_machine.specs.declared.stop.Stop.TheVariants.{OverLimit}
use Rattle.mp4_stream.specs.Feeders.{fragments_of}
use Rattle.mp4_stream.specs.declared.totals.Totals.{Totals}
use Rattle.mp4_recut.specs.Operations as readings
use Rattle.mp4_recut.specs.declared.operation.Operation.{Operation}

-- where each moov that the bytes hold has at most so many bytes, and each moof. In addition to the read buffer no more
-- is claimed than twice the one and five times the other, and a limit that allows so much is never passed
pub record ClaimsByBoxes {T : Type 0} (operation : Operation) (bytes : List ℕ) (claims : Claims) (result : Result T Stop) : Type 0 where
  pub most : (moov moof : ℕ) → HoldsWithin (readings.operation_meaning operation) first_context bytes moov moof → claims.peak ≤ claims.copy + (2 * moov + 5 * moof)
  pub enough : (moov moof : ℕ) → HoldsWithin (readings.operation_meaning operation) first_context bytes moov moof → claims.copy + (2 * moov + 5 * moof) ≤ claims.limit → IsErrOf result OverLimit → ⊥

-- how an operation reads, with its totals. The samples that are counted are among those of inspected moofs.
-- Each of these was read once, a counted one once more, and again where it is listed or recut. None was read more
-- often than the operation allows
pub record ReadsFragments {T : Type 0} (operation : Operation) (ends : Ends) (claims : Claims) (totals : Totals) (result : Result T Stop) : Type 0 where
  pub effects : ℕ
  pub inspected : ℕ
  pub runs : ReadsStream (readings.reads_of operation) ends claims (record { fragments = effects; samples = totals.samples; media_bytes = totals.media_bytes; inspected = inspected }) result
  pub fragments : totals.fragments ≡ fragments_of operation effects runs.fragments
  pub all : totals.samples ≤ inspected
  pub some : inspected + totals.samples + listed_by operation totals.samples ≤ totals.rows_read
  pub few : totals.rows_read ≤ reads_of operation * inspected
  pub by_boxes : ClaimsByBoxes operation runs.bytes claims result

-- a run over a whole stream for an operation, which claims so many bytes to read into, and has given back all in the end.
-- It never has more claimed than the limit, nor than these bytes, a moov and five times a moof, each of the largest
-- size; so a limit that allows so much is never passed
pub record RunsOperation {T : Type 0} (operation : Operation) (ends : Ends) (copy : ℕ) (account account' : Account) (totals : Totals) (result : Result T Stop) : Type 0 where
  pub runs : ReadsFragments operation ends (record { copy = copy; limit = account.limit; peak = account'.peak }) totals result
  pub within : account'.peak ≤ account.limit
  pub back : (account'.live ≡ 0) × (account'.limit ≡ account.limit)
  pub peak : totals.peak ≡ account'.peak
  pub bound : account'.peak ≤ copy + (most_moov + 5 * most_moof)
  pub enough : copy + (most_moov + 5 * most_moof) ≤ account.limit → IsErrOf result OverLimit → ⊥

-- nothing is written
abbrev pub unsent : Sent
unsent = record { written = None; written' = None; failed = false; failed' = false }
