-- A list of boxes has no fragments.
use Rattle.std.proofs.Common.{◌≡◌, ℕ, ◌+◌, ◌-◌, List, [], ◌∷◌, ◌++◌, length, take, drop, Bool, true, false, Option, None, Some, refl}
use Rattle.std.specs.Prelude.{nat_lt}
use Rattle.mp4_box.specs.declared.headers.FourCc.{FourCc}
use Rattle.mp4_box.specs.declared.headers.Header.{Header}
use Rattle.mp4_box.specs.declared.headers.Size.{Size}
use Rattle.mp4_box.specs.declared.headers.Size.TheVariants.{Exact, ToEnd}
use Rattle.mp4_box.specs.declared.headers.Step.{Step}
use Rattle.mp4_box.specs.declared.headers.Step.TheVariants as steps
use Rattle.mp4_box.specs.declared.rules.Fault.{Fault}
use Rattle.mp4_box.specs.Headers.{header_at}
use Rattle.mp4_box.specs.Trees.{tree_faults}
use Rattle.mp4_machine.specs.Bodies.{least_end, longest}
use Rattle.mp4_machine.specs.Readings.{ArePast, requests_memory, says, then_read}
use Rattle.mp4_machine.proofs.PastLemmas.{IsPast, after-past, all-past, body-past, open-past, then-past}
use Rattle.mp4_boxes.specs.Boxes.{body, box, box_by, held_body, buffered_box, holding, passed, reading, top_box, top_box_by}
use Rattle.mp4_boxes.specs.Buffering.{most_held}
use Rattle.mp4_boxes.specs.Listing.{box_line}

body_past : (at : ℕ) (h : Header) (s : Size) (b : List ℕ) → IsPast (body at h s b)
body_past at h (Exact s) b = body-past passed (λ b. tt) at h.kind (at + s) (s - h.header_len) b
body_past at h ToEnd b = open-past passed (λ b. tt) at h.kind ℕ 0 (longest - (at + h.header_len)) b

whole_past : (at next : ℕ) (x rest : List ℕ) (fs : List Fault) → IsPast (buffered_box at next x rest fs)
whole_past at next x rest [] = tt
whole_past at next x rest (f ∷ fs) = tt

held_by : (at : ℕ) (kind : FourCc) (size : ℕ) (b : List ℕ) (t : Bool) → nat_lt (length b) size ≡ t → IsPast (held_body at kind size b)
held_by at kind size b true e = rw e tt
held_by at kind size b false e = rw e (whole_past at (at + size) (take size b) (drop size b) (tree_faults at (take size b)))

pub held_body-past : (at : ℕ) (kind : FourCc) (size : ℕ) (b : List ℕ) → IsPast (held_body at kind size b)
held_body-past at kind size b = held_by at kind size b _ refl

holding_by : (at : ℕ) (h : Header) (limit s : ℕ) (b : List ℕ) (t : Bool) → nat_lt limit s ≡ t → IsPast (holding at h limit b (Exact s))
holding_by at h limit s b true e = rw e tt
holding_by at h limit s b false e = rw e (after-past (requests_memory at s) (held_body at h.kind s b) tt (held_by at h.kind s b _ refl))

holding_past : (at : ℕ) (h : Header) (limit : ℕ) (b : List ℕ) (s : Size) → IsPast (holding at h limit b s)
holding_past at h limit b (Exact s) = holding_by at h limit s b _ refl
holding_past at h limit b ToEnd = tt

box_by_past : (at : ℕ) (h : Header) (x b : List ℕ) (l : Option ℕ) → IsPast (box_by at h x b l)
box_by_past at h x b None = after-past (says (box_line at h)) (body at h h.size b) tt (body_past at h h.size b)
box_by_past at h x b (Some limit) = holding_past at h limit (x ++ b) h.size

box_past : (at : ℕ) (h : Header) (x b : List ℕ) (t : Bool) → nat_lt longest (least_end at h h.size) ≡ t → IsPast (box at h x b)
box_past at h x b true e = rw e tt
box_past at h x b false e = rw e (box_by_past at h x b (most_held h.kind.0))

step_past : (at : ℕ) (b : List ℕ) (s : Step) → IsPast (top_box_by at b s)
step_past at b steps.More = tt
step_past at b steps.BadSize = tt
step_past at b (steps.Whole h) = box_past at h (take h.header_len b) (drop h.header_len b) _ refl

pub top_past : (at : ℕ) (b : List ℕ) → IsPast (top_box at b)
unfolding top_box
top_past at [] = tt
top_past at (a ∷ b) = step_past at (a ∷ b) (header_at (a ∷ b))

pub held_past : (at : ℕ) (kind : FourCc) (size : ℕ) (b : List ℕ) → ArePast 0 (then_read reading (held_body at kind size b)).effects.fragment_ends
held_past at kind size b = then-past reading (all-past top_box top_past) (held_body at kind size b) (held_by at kind size b _ refl)
