-- Where a machine that lists boxes is in a stream, by its state.
use Rattle.std.specs.Prelude.{◌≡◌, ℕ, ◌+◌, ◌<◌, ◌≤◌, List, [], length, slice_range, Option, Some}
use Rattle.mp4_box.specs.declared.headers.Header.{Header}
use Rattle.mp4_box.specs.Headers.{need}
use Rattle.mp4_box.specs.Trees.{Box, box_at}
use Rattle.mp4_ledger.specs.Memory.{Account}
use Rattle.mp4_machine.specs.Blocks.{Pending}
use Rattle.mp4_machine.specs.Bodies.{IsLeft, longest}
use Rattle.mp4_machine.specs.Ends.{Sent}
use Rattle.mp4_machine.specs.Buffering.{Begins, Buffering}
use Rattle.mp4_machine.specs.Inputs.{Change, Continuation, Environment}
use Rattle.mp4_machine.specs.Inputs as inputs
use Rattle.mp4_machine.specs.Readings.{uncounted, then_read}
use Rattle.mp4_machine.specs.Continuations.{gathering, in_body}
use Rattle.mp4_machine.specs.declared.body.Extent.{Extent}
use Rattle.mp4_machine.specs.declared.body.Extent.TheVariants as extents
use Rattle.mp4_boxes.specs.Boxes.{body, passed, held_body, reading}
use Rattle.mp4_boxes.specs.declared.state.State.{State}
use Rattle.mp4_boxes.specs.declared.state.State.TheVariants as states

-- ---- where it is

-- in the header of the box at an offset, after these bytes of it
abbrev pub in_header : ℕ → List ℕ → Continuation
in_header at header_bytes = gathering (reading at) at 0 header_bytes

-- before the header
abbrev pub at_header : ℕ → Continuation
at_header at = in_header at []

-- after the header
abbrev pub after_header : ℕ → Header → Continuation
after_header at h = record { reached = at + h.header_len; reads = λ bytes. then_read reading (body at h h.size bytes); claim = 0 }

-- in a box that is held
abbrev pub in_box : Buffering → Continuation
in_box h = gathering (λ bytes. then_read reading (held_body h.at h.kind h.size bytes)) h.at h.size h.bytes

-- in this state, after these bytes of a header
abbrev pub continuation_at : List ℕ → State → Continuation
continuation_at header_bytes (states.Header at) = in_header at header_bytes
continuation_at header_bytes (states.Buffering h) = in_box h
continuation_at header_bytes (states.Body b) = in_body reading passed (λ next. next) 0 b

-- no byte of a body is needed that goes to the end of the stream
abbrev pub NeedsNone : Extent → Type 0
NeedsNone (extents.Sized next) = Unit {0}
NeedsNone (extents.Open needed) = needed ≡ 0

-- offsets are at most 2^62, except within a header that crosses it; and only in a header there are bytes of one
abbrev pub IsState : List ℕ → State → Type 0
IsState header_bytes (states.Header at) = (length header_bytes < need header_bytes) × (at ≤ longest)
IsState header_bytes (states.Buffering h) = (header_bytes ≡ []) × (length h.bytes < h.size) × (h.at + h.size ≤ longest) × Begins h.size h.bytes
IsState header_bytes (states.Body b) = (header_bytes ≡ []) × IsLeft b.left b.extent × NeedsNone b.extent

-- the box at an offset with this header that these bytes are
abbrev pub box_of : ℕ → Header → List ℕ → Box
box_of at h bytes = record { header = h; offset = at; payload = slice_range bytes h.header_len (length bytes) }

-- a box that is held is whole: it is this one, and is still claimed
pub record HasCome (h : Buffering) (a : Account) (b : Box) : Type 0 where
  pub is : box_at h.at h.bytes ≡ Some b
  pub len : length h.bytes ≡ h.size
  pub claim : h.size ≤ a.live

-- ---- a machine

-- the visible part of a machine: the bytes of a header so far, and its state
pub record Progress : Type 0 where
  pub header_bytes : List ℕ
  pub state : State

-- one to which no byte has come
abbrev pub begun : Progress
begun = record { header_bytes = []; state = states.Header 0 }

-- where it is in the stream
abbrev pub continuation_in : Progress → Continuation
continuation_in p = continuation_at p.header_bytes p.state

-- environment of a machine that lists boxes, which counts nothing
abbrev pub environment : Option (List ℕ) → Pending → Account → Environment
environment written waiting account = inputs.environment written waiting account uncounted

-- the change by a call that borrows a writer, a block and a ledger, from their old and new values
abbrev pub change : Sent → (waiting waiting' : Pending) → (account account' : Account) → Change
change s waiting waiting' account account' = inputs.change s waiting waiting' account account' uncounted uncounted
