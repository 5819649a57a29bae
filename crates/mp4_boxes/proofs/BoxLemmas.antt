-- How the reading of top-level boxes goes on.
use Rattle.std.proofs.Common.{◌≡◌, ℕ, zero, suc, ◌+◌, ◌-◌, ◌<◌, ◌≤◌, List, [], ◌∷◌, ◌++◌, length, take, drop, true, false, Option, Some, None, ap, sym, ◌∙◌, refl, arith, append-nil, length-append, length-drop}
use Rattle.std.proofs.Math.Seq.{take-append_seam, drop-append_seam}
use Rattle.std.specs.Prelude.{nat_lt, if◌then◌else◌}
use Rattle.mp4_box.specs.declared.headers.FourCc.{FourCc}
use Rattle.mp4_box.specs.declared.headers.Header.{Header}
use Rattle.mp4_box.specs.declared.headers.Size.{Size}
use Rattle.mp4_box.specs.declared.headers.Size.TheVariants.{Exact, ToEnd}
use Rattle.mp4_box.specs.declared.headers.Step.{Step}
use Rattle.mp4_box.specs.declared.headers.Step.TheVariants as steps
use Rattle.mp4_box.specs.declared.rules.Rule.TheVariants.{Truncated, BadSize, TooLarge, StreamTooLong}
use Rattle.mp4_box.specs.Headers.{need, header_at, kind_of, HasRoom}
use Rattle.mp4_box.proofs.HeaderLemmas.{header_at-append, whole_is, need-least, is_cut}
use Rattle.mp4_box.specs.declared.rules.Fault.{Fault}
use Rattle.mp4_box.specs.Trees.{tree_faults}
use Rattle.mp4_boxes.specs.Buffering.{held_lines, most_held}
use Rattle.mp4_boxes.specs.Listing.{box_line}
use Rattle.mp4_machine.specs.Readings.{empty_reading, Last, after, after_effects, no_effects, says, requests_memory, Faulty, then_read, fault_in, decided_in}
use Rattle.mp4_machine.specs.Bodies.{IsLeft, at_fault, cut_off, fault, least_end, longest}
use Rattle.mp4_machine.specs.Continuations.{in_extent}
use Rattle.mp4_machine.specs.declared.body.Extent.{Extent}
use Rattle.mp4_machine.specs.declared.body.Extent.TheVariants as extents
use Rattle.mp4_boxes.specs.Boxes.{passed, body, buffered_box, held_body, holding, box_by, box, top_box_by, top_box, reading}
use Rattle.mp4_boxes.specs.States.{IsState, continuation_at, in_header}
use Rattle.mp4_boxes.specs.declared.state.State.{State}
use Rattle.mp4_boxes.specs.declared.state.State.TheVariants as states
use Rattle.mp4_machine.specs.Inputs.{HasNoEffects}
use Rattle.mp4_machine.proofs.ReadingLemmas.{Below, Below-emitted, Below-more, IsItemwise, read_all-front, then_read-emitted}
use Rattle.mp4_machine.proofs.BodyLemmas.{nat_lt_true, nat_lt_false, body-none, open-none}
use Rattle.mp4_machine.proofs.BodyGrowthLemmas.{emitted-below, emitted_open-below}
use Rattle.mp4_machine.proofs.HeadLemmas.{head-room, kind_of-append}

pub some_bytes : (xs : List ℕ) → (xs ≡ [] → ⊥) → 0 < length xs
some_bytes [] f = absurd (f refl)
some_bytes (x ∷ xs) f = omega arith

-- ---- the boxes are items

pub body-below : (at : ℕ) (h : Header) (size : Size) (bytes : List ℕ) → Below (body at h size bytes) (length bytes)
body-below at h (Exact s) bytes = emitted-below passed at h.kind (at + s) (s - h.header_len) (length bytes) bytes (omega arith)
body-below at h ToEnd bytes = emitted_open-below ℕ passed at h.kind 0 (longest - (at + h.header_len)) (length bytes) bytes

held_box-below : (at next : ℕ) (x rest : List ℕ) (fs : List Fault) (n : ℕ) → length rest ≤ n → Below (buffered_box at next x rest fs) n
held_box-below at next x rest [] n h = h
held_box-below at next x rest (f ∷ fs) n h = tt

pub held-below : (at : ℕ) (kind : FourCc) (size : ℕ) (bytes : List ℕ) (n : ℕ) → length bytes ≤ n + size → Below (held_body at kind size bytes) n
held-below at kind size bytes n h = elim (nat_lt (length bytes) size) as (λ v. Below (if v then Last (cut_off Truncated (Some kind) at) else buffered_box at (at + size) (take size bytes) (drop size bytes) (tree_faults at (take size bytes))) n) [
  | true ↦ tt
  | false ↦ held_box-below at (at + size) (take size bytes) (drop size bytes) (tree_faults at (take size bytes)) n (omega (arith, length-drop size bytes))
]

holding-below : (at : ℕ) (h : Header) (limit : ℕ) (x bytes : List ℕ) (size : Size) → HasRoom size (length x) → Below (holding at h limit (x ++ bytes) size) (length bytes)
holding-below at h limit x bytes (Exact s) room = elim (nat_lt limit s) as (λ v. Below (if v then Last (at_fault TooLarge (Some h.kind) at) else after_effects (requests_memory at s) (held_body at h.kind s (x ++ bytes))) (length bytes)) [
  | true ↦ tt
  | false ↦ Below-emitted (requests_memory at s) (held_body at h.kind s (x ++ bytes)) (length bytes) (held-below at h.kind s (x ++ bytes) (length bytes) (omega (arith, length-append x bytes)))
]
holding-below at h limit x bytes ToEnd room = tt

box_by-below : (at : ℕ) (h : Header) (x bytes : List ℕ) (most : Option ℕ) → HasRoom h.size (length x) → Below (box_by at h x bytes most) (length bytes)
box_by-below at h x bytes None room = Below-emitted (says (box_line at h)) (body at h h.size bytes) (length bytes) (body-below at h h.size bytes)
box_by-below at h x bytes (Some limit) room = holding-below at h limit x bytes h.size room

box-below : (at : ℕ) (h : Header) (x bytes : List ℕ) → HasRoom h.size (length x) → Below (box at h x bytes) (length bytes)
box-below at h x bytes room = elim (nat_lt longest (least_end at h h.size)) as (λ v. Below (if v then Last (at_fault StreamTooLong (Some h.kind) at) else box_by at h x bytes (most_held h.kind.0)) (length bytes)) [
  | true ↦ tt
  | false ↦ box_by-below at h x bytes (most_held h.kind.0) room
]

front_by-below : (at b : ℕ) (bytes : List ℕ) (s : Step) → header_at (b ∷ bytes) ≡ s → Below (top_box_by at (b ∷ bytes) s) (length bytes)
front_by-below at b bytes steps.More e = tt
front_by-below at b bytes steps.BadSize e = tt
front_by-below at b bytes (steps.Whole h) e =
    let w = whole_is (b ∷ bytes) h e in
    Below-more (box at h (take h.header_len (b ∷ bytes)) (drop h.header_len (b ∷ bytes))) (length (drop h.header_len (b ∷ bytes))) (length bytes)
    (omega (arith, length-drop h.header_len (b ∷ bytes), w.1, need-least (b ∷ bytes))) (box-below at h (take h.header_len (b ∷ bytes)) (drop h.header_len (b ∷ bytes)) (head-room (b ∷ bytes) h e))

pub front-items : IsItemwise top_box
unfolding top_box
front-items = record {
  empty = λ at. refl;
  shorter = λ at b bytes. front_by-below at b bytes (header_at (b ∷ bytes)) refl;
}

-- the box at the front, and then the rest
pub reading-front : (at : ℕ) (bytes : List ℕ) → reading at bytes ≡ then_read reading (top_box at bytes)
reading-front at bytes = read_all-front top_box front-items at bytes

pub front-some : (at : ℕ) (x : List ℕ) → 0 < length x → top_box at x ≡ top_box_by at x (header_at x)
unfolding top_box
front-some at [] h = absurd (omega arith)
front-some at (b ∷ x) h = refl

pub front-none : (at : ℕ) → top_box at [] ≡ Last empty_reading
unfolding top_box
front-none at = refl

pub reading-none : (at : ℕ) → reading at [] ≡ empty_reading
reading-none at = reading-front at [] ∙ ap (then_read reading) (front-none at)

pub reading-by : (at : ℕ) (x : List ℕ) (s : Step) → 0 < length x → header_at x ≡ s → reading at x ≡ then_read reading (top_box_by at x s)
reading-by at x s some e = reading-front at x ∙ ap (then_read reading) (front-some at x some ∙ ap (top_box_by at x) e)

-- ---- a header

-- bytes that are what a header needs, and no more
reading-header : (at : ℕ) (x later : List ℕ) (s : Step) → length x ≡ need x → header_at x ≡ s → reading at (x ++ later) ≡ then_read reading (top_box_by at (x ++ later) s)
reading-header at x later s len e =
    let long : 0 < length (x ++ later) = omega (arith, need-least x, length-append x later) in
    reading-by at (x ++ later) s long (header_at-append x later (omega arith) ∙ e)

pub reading-whole : (at : ℕ) (x later : List ℕ) (h : Header) → length x ≡ need x → header_at x ≡ steps.Whole h → reading at (x ++ later) ≡ then_read reading (box at h x later)
reading-whole at x later h len e =
    let w = whole_is x h e in
    let same : h.header_len ≡ length x = omega (arith, w.1) in
    reading-header at x later (steps.Whole h) len e ∙ ap (λ l. then_read reading (box at h l (drop h.header_len (x ++ later)))) (ap (λ n. take n (x ++ later)) same ∙ take-append_seam x later)
    ∙ ap (λ l. then_read reading (box at h x l)) (ap (λ n. drop n (x ++ later)) same ∙ drop-append_seam x later)

pub reading-bad : (at : ℕ) (x later : List ℕ) → length x ≡ need x → header_at x ≡ steps.BadSize → reading at (x ++ later) ≡ at_fault BadSize (kind_of x) at
reading-bad at x later len e =
    reading-header at x later steps.BadSize len e ∙ ap (λ k. at_fault BadSize k at) (kind_of-append x later (omega (arith, need-least x)))

pub reading-more : (at : ℕ) (x : List ℕ) → 0 < length x → length x < need x → reading at x ≡ cut_off Truncated (kind_of x) at
reading-more at x some short = reading-by at x steps.More some (is_cut x short)

-- ---- after a header

pub reading-too_long : (at : ℕ) (h : Header) (x later : List ℕ) → longest < least_end at h h.size → then_read reading (box at h x later) ≡ at_fault StreamTooLong (Some h.kind) at
reading-too_long at h x later far = rw (nat_lt_true longest (least_end at h h.size) far) refl

pub reading-begun : (at : ℕ) (h : Header) (x later : List ℕ) → least_end at h h.size ≤ longest → most_held h.kind.0 ≡ None
    → then_read reading (box at h x later) ≡ after (says (box_line at h)) (then_read reading (body at h h.size later))
reading-begun at h x later near loose = rw (nat_lt_false longest (least_end at h h.size) near, loose) (then_read-emitted reading (says (box_line at h)) (body at h h.size later))

-- a box that is held
pub reading-too_large : (at : ℕ) (h : Header) (x later : List ℕ) (limit s : ℕ) → at + s ≤ longest → most_held h.kind.0 ≡ Some limit → h.size ≡ Exact s → limit < s
    → then_read reading (box at h x later) ≡ at_fault TooLarge (Some h.kind) at
reading-too_large at h x later limit s near buffered size large = rw (size, nat_lt_false longest (at + s) near, buffered, nat_lt_true limit s large) refl

pub reading-held_to_end : (at : ℕ) (h : Header) (x later : List ℕ) (limit : ℕ) → at + h.header_len ≤ longest → most_held h.kind.0 ≡ Some limit → h.size ≡ ToEnd
    → then_read reading (box at h x later) ≡ at_fault TooLarge (Some h.kind) at
reading-held_to_end at h x later limit near buffered size = rw (size, nat_lt_false longest (at + h.header_len) near, buffered) refl

pub reading-holds : (at : ℕ) (h : Header) (x later : List ℕ) (limit s : ℕ) → at + s ≤ longest → most_held h.kind.0 ≡ Some limit → h.size ≡ Exact s → s ≤ limit
    → then_read reading (box at h x later) ≡ after (requests_memory at s) (then_read reading (held_body at h.kind s (x ++ later)))
reading-holds at h x later limit s near buffered size fits =
    rw (size, nat_lt_false longest (at + s) near, buffered, nat_lt_false limit s fits) (then_read-emitted reading (requests_memory at s) (held_body at h.kind s (x ++ later)))

-- all of a held box came
pub reading-good : (at : ℕ) (kind : FourCc) (size : ℕ) (x later : List ℕ) → length x ≡ size → tree_faults at x ≡ []
    → then_read reading (held_body at kind size (x ++ later)) ≡ after (says (held_lines at x)) (reading (at + size) later)
reading-good at kind size x later len good =
    let top_box : take size (x ++ later) ≡ x = ap (λ n. take n (x ++ later)) (sym len) ∙ take-append_seam x later in
    let following : drop size (x ++ later) ≡ later = ap (λ n. drop n (x ++ later)) (sym len) ∙ drop-append_seam x later in
    rw (nat_lt_false (length (x ++ later)) size (omega (arith, length-append x later)), top_box, following, good) refl

pub reading-bad_tree : (at : ℕ) (kind : FourCc) (size : ℕ) (x later : List ℕ) (f : Fault) (fs : List Fault) → length x ≡ size → tree_faults at x ≡ f ∷ fs
    → then_read reading (held_body at kind size (x ++ later)) ≡ record { effects = no_effects; outcome = Faulty f }
reading-bad_tree at kind size x later f fs len bad =
    let top_box : take size (x ++ later) ≡ x = ap (λ n. take n (x ++ later)) (sym len) ∙ take-append_seam x later in
    rw (nat_lt_false (length (x ++ later)) size (omega (arith, length-append x later)), top_box, bad) refl

-- ---- the end of the stream

pub end-held : (at : ℕ) (buffered : List ℕ) → 0 < length buffered → length buffered < need buffered → fault_in ((in_header at buffered).reads []).outcome ≡ Some (fault Truncated (kind_of buffered) at)
end-held at buffered some short = ap (λ r. fault_in r.outcome) (ap (reading at) (append-nil buffered) ∙ reading-more at buffered some short)

pub end-none : (at : ℕ) (buffered : List ℕ) → buffered ≡ [] → fault_in ((in_header at buffered).reads []).outcome ≡ None
end-none at buffered e = ap (λ l. fault_in ((in_header at l).reads []).outcome) e ∙ ap (λ r. fault_in r.outcome) (reading-none at)

-- the end of the stream has no effects in any state of a machine, and no fault is decided
quiet-head : (at : ℕ) (header_bytes : List ℕ) → length header_bytes < need header_bytes → ((reading at header_bytes).effects ≡ no_effects) × (decided_in (reading at header_bytes).outcome ≡ None)
quiet-head at [] short = (ap (λ r. r.effects) (reading-none at), ap (λ r. decided_in r.outcome) (reading-none at))
quiet-head at (b ∷ header_bytes) short =
    let cut = reading-more at (b ∷ header_bytes) (omega arith) short in (ap (λ r. r.effects) cut, ap (λ r. decided_in r.outcome) cut)

body-quiet : (at : ℕ) (kind : FourCc) (left : ℕ) (e : Extent) → IsLeft left e → HasNoEffects (in_extent reading passed (λ next. next) 0 at kind left e)
body-quiet at kind left (extents.Sized next) i =
    let none = body-none reading at kind next passed left i.more in record { effects = ap (λ r. r.effects) none; early = ap (λ r. decided_in r.outcome) none }
body-quiet at kind left (extents.Open zero) i =
    let none = open-none reading at kind 0 passed left in record { effects = ap (λ r. r.effects) none; early = ap (λ r. decided_in r.outcome) none }
body-quiet at kind left (extents.Open (suc needed)) i =
    let short = nat_lt_true 0 (suc needed) (omega arith) in
    let near = nat_lt_false left 0 (omega arith) in
    record { effects = rw (near, short) refl; early = rw (near, short) refl }

pub state-quiet : (header_bytes : List ℕ) (s : State) → IsState header_bytes s → HasNoEffects (continuation_at header_bytes s)
state-quiet header_bytes (states.Header at) i =
    let quiet = quiet-head at header_bytes i.0 in
    let same = append-nil header_bytes in
    record { effects = ap (λ l. (reading at l).effects) same ∙ quiet.0; early = ap (λ l. decided_in (reading at l).outcome) same ∙ quiet.1 }
state-quiet header_bytes (states.Buffering h) i =
    let short = nat_lt_true (length (h.bytes ++ [])) h.size (omega (arith, length-append h.bytes [], i.1)) in record { effects = rw short refl; early = rw short refl }
state-quiet header_bytes (states.Body b) i = body-quiet b.at b.kind b.left b.extent i.1
