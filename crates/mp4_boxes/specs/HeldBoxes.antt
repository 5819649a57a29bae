-- The sizes of the boxes of a stream that a listing holds, and the claims of a run by them.
use Rattle.std.specs.Prelude.{◌≡◌, ℕ, ◌+◌, ◌≤◌, List, ◌++◌, length, Result, IsErrOf}
use Rattle.mp4_box.specs.Headers.{Headed}
use Rattle.mp4_machine.specs.Ends.{Ends}
use Rattle.mp4_machine.specs.Readings.{uncounted}
use Rattle.mp4_machine.specs.StreamRuns.{Claims, ReadsStream}
use Rattle.mp4_machine.specs.declared.stop.Stop.{Stop}
use Rattle.mp4_machine.specs.declared.stop.Stop.TheVariants.{OverLimit}
use Rattle.mp4_boxes.specs.Boxes.{reading}
use Rattle.mp4_boxes.specs.Joined.{AreSound, Item, joined}
use Rattle.mp4_boxes.specs.Rests.{IsBuffered}

-- after whole boxes that break no rule, the bytes b from an offset on have the header of a moov or moof.
-- It states so many bytes, no more than it may have
pub record HoldsBox (at : ℕ) (b : List ℕ) (size : ℕ) : Type 0 where
  pub boxes : List Item
  pub rest : List ℕ
  pub cut : b ≡ joined boxes ++ rest
  pub sound : AreSound at boxes
  pub box : Headed rest
  pub limit : ℕ
  pub here : IsBuffered (at + length (joined boxes)) size limit box.header
  pub small : size ≤ limit

-- each moov and each moof that is held has at most so many bytes
pub record HoldsAtMost (at : ℕ) (b : List ℕ) (most : ℕ) : Type 0 where
  pub each : (size : ℕ) → HoldsBox at b size → size ≤ most

-- where each moov and each moof that the bytes hold has at most so many bytes. In addition to the read buffer no more
-- is claimed than that, and a limit that allows so much is never passed
pub record ClaimsByLargest {T : Type 0} (bytes : List ℕ) (claims : Claims) (result : Result T Stop) : Type 0 where
  pub most : (largest : ℕ) → HoldsAtMost 0 bytes largest → claims.peak ≤ claims.copy + largest
  pub enough : (largest : ℕ) → HoldsAtMost 0 bytes largest → claims.copy + largest ≤ claims.limit → IsErrOf result OverLimit → ⊥

-- a run that lists the boxes of the bytes that it was given
pub record ReadsBoxes {T : Type 0} (ends : Ends) (claims : Claims) (result : Result T Stop) : Type 0 where
  pub runs : ReadsStream (reading 0) ends claims uncounted result
  pub by_boxes : ClaimsByLargest runs.bytes claims result
