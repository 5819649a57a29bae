-- What is left of a stream after whole boxes that break no rule, and how it is read.
use Rattle.std.specs.Prelude.{◌≡◌, ℕ, ◌+◌, ◌<◌, ◌≤◌, List, [], ◌∷◌, ◌++◌, length, Some, None}
use Rattle.mp4_box.specs.Headers.{BeginsWith, Headed, IsBox, kind_of, need}
use Rattle.mp4_box.specs.Trees.{tree_faults}
use Rattle.mp4_box.specs.declared.headers.Header.{Header}
use Rattle.mp4_box.specs.declared.headers.Size.TheVariants.{Exact, ToEnd}
use Rattle.mp4_box.specs.declared.rules.Fault.{Fault}
use Rattle.mp4_box.specs.declared.rules.Rule.TheVariants.{BadSize, StreamTooLong, TooLarge, Truncated}
use Rattle.mp4_machine.specs.Bodies.{cut_off, least_end, longest, at_fault}
use Rattle.mp4_machine.specs.Readings.{Faulty, Reading, after, requests_memory, empty_reading, says, no_effects}
use Rattle.mp4_boxes.specs.Buffering.{most_held}
use Rattle.mp4_boxes.specs.Joined.{AreSound, Item, joined}
use Rattle.mp4_boxes.specs.Listing.{box_line}

-- bytes that begin with a whole box
pub record Boxed (y : List ℕ) : Type 0 where
  pub header : Header
  pub payload : List ℕ
  pub bytes : List ℕ
  pub more : List ℕ
  pub is : IsBox header payload bytes
  pub cut : y ≡ bytes ++ more

-- the box at an offset isn't held and has so many bytes
abbrev pub IsLoose : ℕ → ℕ → Header → Type 0
IsLoose at s h = (most_held h.kind.0 ≡ None) × (h.size ≡ Exact s) × (at + s ≤ longest)

-- it isn't held and goes to the end of the stream
abbrev pub IsOpen : Header → Type 0
IsOpen h = (most_held h.kind.0 ≡ None) × (h.size ≡ ToEnd)

-- it is to be held, has so many bytes, and may have so many
abbrev pub IsBuffered : ℕ → ℕ → ℕ → Header → Type 0
IsBuffered at s limit h = (most_held h.kind.0 ≡ Some limit) × (h.size ≡ Exact s) × (at + s ≤ longest)

-- the rest y begins at an offset, and is read so
pub data IsRest (at : ℕ) (y : List ℕ) (r : Reading) : Type 0 where
  -- nothing is left
  Ended :
      y ≡ []
      → r ≡ empty_reading → IsRest at y r
  -- too few bytes for a header
  CutInHeader :
      0 < length y → length y < need y
      → r ≡ cut_off Truncated (kind_of y) at → IsRest at y r
  -- no header begins these bytes, though there are enough
  BadHeader :
      need y ≤ length y → ((h : Header) → BeginsWith h y → ⊥)
      → r ≡ at_fault BadSize (kind_of y) at → IsRest at y r
  -- a box that goes past the longest stream
  TooFar :
      (b : Headed y) → longest < least_end at b.header b.header.size
      → r ≡ at_fault StreamTooLong (Some b.header.kind) at → IsRest at y r
  -- a box that isn't held, and isn't whole
  CutInBody :
      (b : Headed y) (s : ℕ) → IsLoose at s b.header → length y < s
      → r ≡ after (says (box_line at b.header)) (cut_off Truncated (Some b.header.kind) at) → IsRest at y r
  -- one that goes to the end of the stream
  Open :
      (b : Headed y) → IsOpen b.header → at + length y ≤ longest
      → r ≡ after (says (box_line at b.header)) empty_reading → IsRest at y r
  OpenTooFar :
      (b : Headed y) → IsOpen b.header → at + length b.header_bytes ≤ longest → longest < at + length y
      → r ≡ after (says (box_line at b.header)) (at_fault StreamTooLong (Some b.header.kind) at) → IsRest at y r
  -- a moov or moof that is too large, or states no size
  Large :
      (b : Headed y) (s limit : ℕ) → IsBuffered at s limit b.header → limit < s
      → r ≡ at_fault TooLarge (Some b.header.kind) at → IsRest at y r
  Unsized :
      (b : Headed y) (limit : ℕ) → most_held b.header.kind.0 ≡ Some limit → b.header.size ≡ ToEnd
      → at + length b.header_bytes ≤ longest
      → r ≡ at_fault TooLarge (Some b.header.kind) at → IsRest at y r
  -- one that isn't whole, or has a fault in its tree
  CutInHeld :
      (b : Headed y) (s limit : ℕ) → IsBuffered at s limit b.header → s ≤ limit → length y < s
      → r ≡ after (requests_memory at s) (cut_off Truncated (Some b.header.kind) at) → IsRest at y r
  BadTree :
      (b : Boxed y) (limit : ℕ) (f : Fault) (fs : List Fault) → IsBuffered at (length b.bytes) limit b.header
      → length b.bytes ≤ limit → tree_faults at b.bytes ≡ f ∷ fs
      → r ≡ after (requests_memory at (length b.bytes)) (record { effects = no_effects; outcome = Faulty f })
      → IsRest at y r

-- the bytes b from an offset on are whole boxes that break no rule, and then one of the rests
pub record Split (at : ℕ) (b : List ℕ) : Type 0 where
  pub boxes : List Item
  pub rest : List ℕ
  pub cut : b ≡ joined boxes ++ rest
  pub sound : AreSound at boxes
  pub near : at + length (joined boxes) ≤ longest
  pub reading : Reading
  pub is : IsRest (at + length (joined boxes)) rest reading
