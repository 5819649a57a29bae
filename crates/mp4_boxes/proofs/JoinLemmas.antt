-- How whole boxes, and what is left after them, are read.
use Rattle.std.proofs.Common.{◌≡◌, ℕ, ◌+◌, ◌-◌, ◌<◌, ◌≤◌, List, [], ◌∷◌, ◌++◌, length, Option, Some, None, ap, sym, ◌∙◌, refl, arith, append_assoc, length-append}
use Rattle.std.proofs.Math.Seq.{drop-append_seam}
use Rattle.mp4_box.specs.declared.headers.Header.{Header}
use Rattle.mp4_box.specs.declared.headers.Size.{Size}
use Rattle.mp4_box.specs.declared.headers.Size.TheVariants.{Exact, ToEnd}
use Rattle.mp4_box.specs.declared.headers.Step.TheVariants as steps
use Rattle.mp4_box.specs.declared.rules.Rule.TheVariants.{Truncated, BadSize, StreamTooLong}
use Rattle.mp4_box.specs.Headers.{Head, IsBox, IsBytes, BeginsWith, need, kind_of}
use Rattle.mp4_box.proofs.HeaderLemmas.{need-least}
use Rattle.mp4_box.proofs.HeaderAnswers.{head-whole, head-need, header-none}
use Rattle.mp4_boxes.specs.Listing.{box_line}
use Rattle.mp4_machine.specs.Readings.{Faulty, no_effects, after, says, requests_memory, empty_reading, then_read}
use Rattle.mp4_machine.specs.Bodies.{cut_off, least_end, longest, at_fault, body_item}
use Rattle.mp4_boxes.specs.Boxes.{passed, held_body, body, box, reading}
use Rattle.mp4_box.specs.declared.rules.Fault.{Fault}
use Rattle.mp4_box.specs.Trees.{tree_faults}
use Rattle.mp4_boxes.specs.Buffering.{held_lines, most_held}
use Rattle.mp4_boxes.specs.Joined.{Item, IsAllowed, AreSound, joined, box_effects, boxes_effects}
use Rattle.mp4_machine.proofs.ReadingLemmas.{after-both, after-silent}
use Rattle.mp4_machine.proofs.BodyLemmas.{nat_lt_true, nat_lt_false}
use Rattle.mp4_boxes.proofs.BoxLemmas.{reading-whole, reading-begun, reading-holds, reading-good, reading-bad_tree, reading-by}

-- a header x, and the bytes after it
reading-headed : (at : ℕ) (h : Header) (x y : List ℕ) → Head h x → reading at (x ++ y) ≡ then_read reading (box at h x y)
reading-headed at h x y p = reading-whole at x y h (head-need h x p) (head-whole h x p)

-- a box that isn't held, and doesn't go too far
pub reading-loose : (at : ℕ) (h : Header) (size : Size) (x y : List ℕ) → Head h x → most_held h.kind.0 ≡ None → h.size ≡ size → least_end at h size ≤ longest
    → reading at (x ++ y) ≡ after (says (box_line at h)) (then_read reading (body at h size y))
reading-loose at h size x y p loose e near =
    let near' : least_end at h h.size ≤ longest = rw e near in
    reading-headed at h x y p ∙ reading-begun at h x y near' loose ∙ ap (λ s. after (says (box_line at h)) (then_read reading (body at h s y))) e

-- a box that is held, and isn't too large
pub reading-held : (at : ℕ) (h : Header) (limit s : ℕ) (x y : List ℕ) → Head h x → most_held h.kind.0 ≡ Some limit → h.size ≡ Exact s → at + s ≤ longest → s ≤ limit
    → reading at (x ++ y) ≡ after (requests_memory at s) (then_read reading (held_body at h.kind s (x ++ y)))
reading-held at h limit s x y p buffered e near fits = reading-headed at h x y p ∙ reading-holds at h x y limit s near buffered e fits

-- ---- a whole box

loose_box : (at : ℕ) (h : Header) (payload x later : List ℕ) → IsBox h payload x → most_held h.kind.0 ≡ None → at + length x ≤ longest
    → reading at (x ++ later) ≡ after (says (box_line at h)) (reading (at + length x) later)
loose_box at h payload x later is loose near =
    let len : length x ≡ length is.header_bytes + length payload = ap length is.whole ∙ length-append is.header_bytes payload in
    let rest : length x - h.header_len ≡ length payload = omega (arith, len, is.spelled.header_len) in
    let enough = nat_lt_false (length (payload ++ later)) (length payload) (omega (arith, length-append payload later)) in
    ap (reading at) (ap (λ l. l ++ later) is.whole ∙ append_assoc is.header_bytes payload later)
    ∙ reading-loose at h (Exact (length x)) is.header_bytes (payload ++ later) is.spelled loose is.size near
    ∙ ap (λ n. after (says (box_line at h)) (then_read reading (body_item passed at h.kind (at + length x) n (payload ++ later)))) rest
    ∙ rw (enough, drop-append_seam payload later) (ap (after (says (box_line at h))) (after-silent (reading (at + length x) later)))

-- all of a held box, read as such
held_all : (at : ℕ) (h : Header) (limit : ℕ) (payload x later : List ℕ) → IsBox h payload x → most_held h.kind.0 ≡ Some limit → at + length x ≤ longest → length x ≤ limit
    → reading at (x ++ later) ≡ after (requests_memory at (length x)) (then_read reading (held_body at h.kind (length x) (x ++ later)))
held_all at h limit payload x later is buffered near fits =
    let apart : x ++ later ≡ is.header_bytes ++ (payload ++ later) = ap (λ l. l ++ later) is.whole ∙ append_assoc is.header_bytes payload later in
    ap (reading at) apart ∙ reading-held at h limit (length x) is.header_bytes (payload ++ later) is.spelled buffered is.size near fits
    ∙ ap (λ l. after (requests_memory at (length x)) (then_read reading (held_body at h.kind (length x) l))) (sym apart)

box_by_limit : (at : ℕ) (b : Item) (payload later : List ℕ) (most : Option ℕ) → most_held b.header.kind.0 ≡ most → IsBox b.header payload b.bytes → IsAllowed at b.bytes most → at + length b.bytes ≤ longest
    → reading at (b.bytes ++ later) ≡ after (box_effects at b most) (reading (at + length b.bytes) later)
box_by_limit at b payload later None e is may near = loose_box at b.header payload b.bytes later is e near
box_by_limit at b payload later (Some limit) e is may near =
    held_all at b.header limit payload b.bytes later is e near may.0
    ∙ ap (after (requests_memory at (length b.bytes))) (reading-good at b.header.kind (length b.bytes) b.bytes later refl may.1)
    ∙ after-both (requests_memory at (length b.bytes)) (says (held_lines at b.bytes)) (reading (at + length b.bytes) later)

pub reading-boxes : (bs : List Item) (at : ℕ) (later : List ℕ) → AreSound at bs → at + length (joined bs) ≤ longest
    → reading at (joined bs ++ later) ≡ after (boxes_effects at bs) (reading (at + length (joined bs)) later)
reading-boxes [] at later are near = ap (λ n. reading n later) (omega arith) ∙ sym (after-silent (reading (at + 0) later))
reading-boxes (b ∷ bs) at later (box, may, more) near =
    let len : length (b.bytes ++ joined bs) ≡ length b.bytes + length (joined bs) = length-append b.bytes (joined bs) in
    let sum : at + length b.bytes + length (joined bs) ≡ at + length (b.bytes ++ joined bs) = omega (arith, len) in
    let effects = box_effects at b (most_held b.header.kind.0) in
    ap (reading at) (append_assoc b.bytes (joined bs) later)
    ∙ box_by_limit at b box.0 (joined bs ++ later) (most_held b.header.kind.0) refl box.1 may (omega (arith, len))
    ∙ ap (after effects) (reading-boxes bs (at + length b.bytes) later more (omega (arith, len)))
    ∙ after-both effects (boxes_effects (at + length b.bytes) bs) (reading (at + length b.bytes + length (joined bs)) later)
    ∙ ap (λ n. after (boxes_effects at (b ∷ bs)) (reading n later)) sum

-- ---- the rest

pub reading-unheaded : (at : ℕ) (y : List ℕ) → IsBytes y → need y ≤ length y → ((h : Header) → BeginsWith h y → ⊥) → reading at y ≡ at_fault BadSize (kind_of y) at
reading-unheaded at y fits whole none = reading-by at y steps.BadSize (omega (arith, need-least y)) (header-none y fits whole none)

pub reading-cut : (at s : ℕ) (h : Header) (x y : List ℕ) → Head h x → most_held h.kind.0 ≡ None → h.size ≡ Exact s → at + s ≤ longest → length (x ++ y) < s
    → reading at (x ++ y) ≡ after (says (box_line at h)) (cut_off Truncated (Some h.kind) at)
reading-cut at s h x y p loose e near short =
    reading-loose at h (Exact s) x y p loose e near ∙ rw (nat_lt_true (length y) (s - h.header_len) (omega (arith, length-append x y, p.header_len))) refl

pub reading-open : (at : ℕ) (h : Header) (x y : List ℕ) → Head h x → most_held h.kind.0 ≡ None → h.size ≡ ToEnd → at + length (x ++ y) ≤ longest
    → reading at (x ++ y) ≡ after (says (box_line at h)) empty_reading
reading-open at h x y p loose e near =
    let header_bytes : at + h.header_len ≤ longest = omega (arith, length-append x y, p.header_len) in
    reading-loose at h ToEnd x y p loose e header_bytes ∙ rw (nat_lt_false (longest - (at + h.header_len)) (length y) (omega (arith, length-append x y, p.header_len)), nat_lt_false (length y) 0 (omega arith)) refl

pub reading-open_long : (at : ℕ) (h : Header) (x y : List ℕ) → Head h x → most_held h.kind.0 ≡ None → h.size ≡ ToEnd → at + length x ≤ longest → longest < at + length (x ++ y)
    → reading at (x ++ y) ≡ after (says (box_line at h)) (at_fault StreamTooLong (Some h.kind) at)
reading-open_long at h x y p loose e near far =
    let header_bytes : at + h.header_len ≤ longest = omega (arith, p.header_len) in
    reading-loose at h ToEnd x y p loose e header_bytes ∙ rw (nat_lt_true (longest - (at + h.header_len)) (length y) (omega (arith, length-append x y, p.header_len))) refl

-- ---- a rest that is held

pub reading-cut_held : (at limit s : ℕ) (h : Header) (x y : List ℕ) → Head h x → most_held h.kind.0 ≡ Some limit → h.size ≡ Exact s → at + s ≤ longest → s ≤ limit → length (x ++ y) < s
    → reading at (x ++ y) ≡ after (requests_memory at s) (cut_off Truncated (Some h.kind) at)
reading-cut_held at limit s h x y p buffered e near fits short = reading-held at h limit s x y p buffered e near fits ∙ rw (nat_lt_true (length (x ++ y)) s short) refl

pub reading-bad_held : (at limit : ℕ) (h : Header) (payload x later : List ℕ) (f : Fault) (fs : List Fault) → IsBox h payload x → most_held h.kind.0 ≡ Some limit → at + length x ≤ longest → length x ≤ limit → tree_faults at x ≡ f ∷ fs
    → reading at (x ++ later) ≡ after (requests_memory at (length x)) (record { effects = no_effects; outcome = Faulty f })
reading-bad_held at limit h payload x later f fs is buffered near fits bad =
    held_all at h limit payload x later is buffered near fits
    ∙ ap (after (requests_memory at (length x))) (reading-bad_tree at h.kind (length x) x later f fs refl bad)
