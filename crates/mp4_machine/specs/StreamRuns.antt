-- What a run over a whole stream returns, writes and claims, whatever it reads.
use Rattle.std.specs.Prelude.{◌≡◌, ◌⊎◌, ℕ, ◌+◌, ◌<◌, ◌≤◌, List, [], ◌∷◌, ◌++◌, length, take, true, None, Some, Result, Ok, Err, IsErrOf}
use Rattle.std.specs.Io.KnownBytes.{Appends, Consumes}
use Rattle.mp4_box.specs.Headers.{IsBytes}
use Rattle.mp4_ends.specs.Streams.{AppendsPrefix}
use Rattle.mp4_machine.specs.Ends.{Ends}
use Rattle.mp4_machine.specs.Readings.{Request, AtMost, greatest, most_of, Reading, fault_in, decided_in, IsPrefix, uncounted, whole_in}
use Rattle.mp4_machine.specs.declared.stop.Stop.{Stop}
use Rattle.mp4_machine.specs.declared.stop.Stop.TheVariants.{Stream, Read, Write, OverLimit, Memory}
use Rattle.mp4_machine.specs.declared.tally.Tally.{Tally}

-- the size of the read buffer, how many bytes may be claimed, and the most that were claimed at once
pub record Claims : Type 0 where
  pub copy : ℕ
  pub limit : ℕ
  pub peak : ℕ

-- a run over a stream: how its bytes from the first on are read, and the bytes that it was given.
-- Visible are its ends, its claims, how many fragments are whole in what was written, and what was counted
pub record StreamRun : Type 0 where
  pub reads : List ℕ → Reading
  pub bytes : List ℕ
  pub ends : Ends
  pub claims : Claims
  pub fragments : ℕ
  pub tally : Tally

abbrev pub reading_of : StreamRun → Reading
reading_of run = run.reads run.bytes

-- ---- what a run does

-- all effects of the bytes were written, claimed and counted, with their fragments
pub record WritesAll (run : StreamRun) : Type 0 where
  pub text : Appends run.ends.written run.ends.written' (reading_of run).effects.text
  pub fragments : run.fragments ≡ whole_in (length (reading_of run).effects.text) 0 (reading_of run).effects.fragment_ends
  pub peak : run.claims.peak ≡ run.claims.copy + most_of (reading_of run).effects
  pub tally : run.tally ≡ (reading_of run).effects.tally

-- these bytes were given by the last read: the buffer has room for them
pub record IsOneRead (ends : Ends) (copy : ℕ) (bytes : List ℕ) : Type 0 where
  pub few : length bytes ≤ copy
  pub gave : length bytes ≡ ends.last_read

-- no fault was decided before the bytes of the last read, if there was one: none where it failed or met the end
pub record IsPrompt (run : StreamRun) : Type 0 where
  pub early : List ℕ
  pub last : List ℕ
  pub cut : run.bytes ≡ early ++ last
  pub read : 0 < length run.bytes → IsOneRead run.ends run.claims.copy last
  pub undecided : decided_in (run.reads early).outcome ≡ None

-- a prefix of the text was written, and the number of whole fragments in it is known; no more was claimed than requested, or counted than there is
pub record WritesPrefix (run : StreamRun) : Type 0 where
  pub text : AppendsPrefix run.ends.written run.ends.written' (reading_of run).effects.text
  pub fragments : run.fragments ≡ whole_in (length text.0) 0 (reading_of run).effects.fragment_ends
  pub least : run.claims.copy ≤ run.claims.peak
  pub most : run.claims.peak ≤ run.claims.copy + most_of (reading_of run).effects
  pub counted : AtMost run.tally (reading_of run).effects.tally

-- a request was refused that came with the bytes of the last read. What is requested before it was claimed, what is
-- before it was counted, and exactly the text before it was written: its fragments are those that are whole in that
pub record ClaimRefusedAt (run : StreamRun) (prompt : IsPrompt run) : Type 0 where
  pub request : Request
  pub before : List Request
  pub requested : (later : List Request) × ((reading_of run).effects.requests ≡ before ++ request ∷ later)
  pub new : IsPrefix (run.reads prompt.early).effects.requests before
  pub text : Appends run.ends.written run.ends.written' (take request.text_before (reading_of run).effects.text)
  pub fragments : run.fragments ≡ whole_in request.text_before 0 (reading_of run).effects.fragment_ends
  pub peak : run.claims.peak ≡ run.claims.copy + greatest before
  pub tally : run.tally ≡ request.counted
  pub most : AtMost run.tally (reading_of run).effects.tally

-- the read buffer was refused: nothing was read, written or counted, and no fragment is whole
pub record IsIdle (run : StreamRun) : Type 0 where
  pub bytes : run.bytes ≡ []
  pub text : Appends run.ends.written run.ends.written' []
  pub fragments : run.fragments ≡ 0
  pub peak : run.claims.peak ≡ 0
  pub tally : run.tally ≡ uncounted

-- ---- what it returns

-- a run that stops so: at a fault or a failed read it wrote the whole text that the bytes decide,
-- at a failed write a prefix of the text, and at a refused claim the text before it
abbrev pub StopsWith : (run : StreamRun) → IsPrompt run → Stop → Type 0
StopsWith run prompt (Stream f) = WritesAll run × (fault_in (reading_of run).outcome ≡ Some f) × (decided_in (reading_of run).outcome ≡ None → run.ends.ended ≡ true)
StopsWith run prompt (Read at) = WritesAll run × (decided_in (reading_of run).outcome ≡ None) × (at ≡ length run.bytes) × (run.ends.read_failed ≡ true)
StopsWith run prompt Write = WritesPrefix run × (run.ends.write_failed' ≡ true)
StopsWith run prompt OverLimit = (IsIdle run × (run.claims.limit < run.claims.copy)) ⊎ ((s : ClaimRefusedAt run prompt) × (run.claims.limit < run.claims.copy + s.request.sum))
StopsWith run prompt Memory = (IsIdle run × (run.claims.copy ≤ run.claims.limit)) ⊎ ((s : ClaimRefusedAt run prompt) × (run.claims.copy + s.request.sum ≤ run.claims.limit))

-- on Ok the stream ended without a fault, and its whole text was written
abbrev pub Gives : {T : Type 0} → (run : StreamRun) → IsPrompt run → Result T Stop → Type 0
Gives run prompt (Ok _) = WritesAll run × (fault_in (reading_of run).outcome ≡ None) × (run.ends.ended ≡ true)
Gives run prompt (Err stop) = StopsWith run prompt stop

-- a run over a stream that is read so: for the bytes that it was given, its result and what it did; a write that failed is always reported
pub record ReadsStream {T : Type 0} (reads : List ℕ → Reading) (ends : Ends) (claims : Claims) (tally : Tally) (result : Result T Stop) : Type 0 where
  pub bytes : List ℕ
  pub fits : IsBytes bytes
  pub given : Consumes ends.left ends.left' bytes
  pub fragments : ℕ
  pub prompt : IsPrompt (record { reads = reads; bytes = bytes; ends = ends; claims = claims; fragments = fragments; tally = tally })
  pub gives : Gives (record { reads = reads; bytes = bytes; ends = ends; claims = claims; fragments = fragments; tally = tally }) prompt result
  pub kept : (IsErrOf result Write → ⊥) → ends.write_failed' ≡ ends.write_failed
