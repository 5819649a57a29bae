-- The boxes of a stream: those at the top by their headers alone, and a moov or moof with the boxes below it.
use Rattle.std.specs.Prelude.{ℕ, ◌+◌, ◌-◌, List, [], ◌∷◌, ◌++◌, length, take, drop, nat_lt, if◌then◌else◌, Option, Some, None}
use Rattle.mp4_box.specs.declared.headers.FourCc.{FourCc}
use Rattle.mp4_box.specs.declared.headers.Header.{Header}
use Rattle.mp4_box.specs.declared.headers.Size.{Size}
use Rattle.mp4_box.specs.declared.headers.Size.TheVariants.{Exact, ToEnd}
use Rattle.mp4_box.specs.declared.headers.Step.{Step}
use Rattle.mp4_box.specs.declared.headers.Step.TheVariants as steps
use Rattle.mp4_box.specs.declared.rules.Fault.{Fault}
use Rattle.mp4_box.specs.declared.rules.Rule.TheVariants.{Truncated, BadSize, TooLarge, StreamTooLong}
use Rattle.mp4_box.specs.Headers.{header_at, kind_of}
use Rattle.mp4_box.specs.Trees.{tree_faults}
use Rattle.mp4_boxes.specs.Buffering.{held_lines, most_held}
use Rattle.mp4_boxes.specs.Listing.{box_line}
use Rattle.mp4_machine.specs.Bodies.{longest, at_fault, cut_off, least_end, body_item, open_body_item}
use Rattle.mp4_machine.specs.Readings.{Effects, Faulty, Reading, empty_reading, FirstItem, Last, Whole, after_effects, no_effects, says, requests_memory, read_all}

-- a body that is passed over has no effects
abbrev pub passed : List ℕ → Effects
passed bytes = no_effects

-- the box at `at` with this header, by its stated size: the bytes are those after the header
abbrev pub body : ℕ → Header → Size → List ℕ → FirstItem ℕ
body at h (Exact s) bytes = body_item passed at h.kind (at + s) (s - h.header_len) bytes
body at h ToEnd bytes = open_body_item passed at h.kind 0 (longest - (at + h.header_len)) bytes

-- a box x at `at` that was held, with the faults of its tree, and the bytes after it
abbrev pub buffered_box : ℕ → ℕ → List ℕ → List ℕ → List Fault → FirstItem ℕ
buffered_box at next x rest [] = Whole (says (held_lines at x)) next rest
buffered_box at next x rest (f ∷ fs) = Last (record { effects = no_effects; outcome = Faulty f })

-- a box at `at` of `size` bytes that is held: the bytes are its own, and those after it
abbrev pub held_body : ℕ → FourCc → ℕ → List ℕ → FirstItem ℕ
held_body at kind size bytes =
    if nat_lt (length bytes) size then Last (cut_off Truncated (Some kind) at)
    else buffered_box at (at + size) (take size bytes) (drop size bytes) (tree_faults at (take size bytes))

-- a box at `at` that is to be held, and may have at most `limit` bytes
abbrev pub holding : ℕ → Header → ℕ → List ℕ → Size → FirstItem ℕ
holding at h limit bytes (Exact s) =
    if nat_lt limit s then Last (at_fault TooLarge (Some h.kind) at)
    else after_effects (requests_memory at s) (held_body at h.kind s bytes)
holding at h limit bytes ToEnd = Last (at_fault TooLarge (Some h.kind) at)

-- a box at `at` with the header x, and the bytes after it, by the most bytes that it may have where it is held
abbrev pub box_by : ℕ → Header → List ℕ → List ℕ → Option ℕ → FirstItem ℕ
box_by at h x bytes None = after_effects (says (box_line at h)) (body at h h.size bytes)
box_by at h x bytes (Some limit) = holding at h limit (x ++ bytes) h.size

-- a box at `at` with the header x, and the bytes after it
abbrev pub box : ℕ → Header → List ℕ → List ℕ → FirstItem ℕ
box at h x bytes =
    if nat_lt longest (least_end at h h.size) then Last (at_fault StreamTooLong (Some h.kind) at)
    else box_by at h x bytes (most_held h.kind.0)

-- some bytes at `at`, by what they are as a header
abbrev pub top_box_by : ℕ → List ℕ → Step → FirstItem ℕ
top_box_by at bytes steps.More = Last (cut_off Truncated (kind_of bytes) at)
top_box_by at bytes steps.BadSize = Last (at_fault BadSize (kind_of bytes) at)
top_box_by at bytes (steps.Whole h) = box at h (take h.header_len bytes) (drop h.header_len bytes)

-- the box at the front of the bytes from the offset `at` on
unfoldable pub top_box : ℕ → List ℕ → FirstItem ℕ
top_box at [] = Last empty_reading
top_box at (b ∷ bytes) = top_box_by at (b ∷ bytes) (header_at (b ∷ bytes))

-- how the bytes from the offset `at` on are read
abbrev pub reading : ℕ → List ℕ → Reading
reading at bytes = read_all top_box at bytes

-- the lines of a stream's boxes, up to its first fault
abbrev pub listing : List ℕ → List ℕ
listing b = (reading 0 b).effects.text
