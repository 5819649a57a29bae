-- Where a box of a listing requests memory, exactly the listing of the bytes before it was written.
use Rattle.std.proofs.Common.{◌≡◌, ◌∙◌, ℕ, ◌+◌, ◌-◌, ◌<◌, ◌≤◌, List, [], ◌∷◌, ◌++◌, length, take, drop, Option, None, Some, append_assoc, Bool, true, false, ap, sym, refl, arith, length-append, length-drop, length-take-le, take-append-drop, subst}
use Rattle.std.proofs.Math.Seq.{take-append_seam, drop-append_seam}
use Rattle.std.specs.Prelude.{nat_lt, if◌then◌else◌}
use Rattle.mp4_box.specs.declared.rules.Rule.TheVariants.{StreamTooLong}
use Rattle.std.proofs.lemmas.Bool.{ltb-false}
use Rattle.std.proofs.lemmas.List.{take-append-le, drop-append-le}
use Rattle.mp4_box.specs.declared.headers.FourCc.{FourCc}
use Rattle.mp4_box.specs.declared.headers.Header.{Header}
use Rattle.mp4_box.specs.declared.headers.Size.{Size}
use Rattle.mp4_box.specs.declared.headers.Size.TheVariants.{Exact, ToEnd}
use Rattle.mp4_box.specs.declared.headers.Step.{Step}
use Rattle.mp4_box.specs.declared.headers.Step.TheVariants as steps
use Rattle.mp4_box.specs.Headers.{need, header_at, HasRoom}
use Rattle.mp4_box.proofs.HeaderLemmas.{header_at-append, whole_is, need-least}
use Rattle.mp4_box.specs.declared.rules.Fault.{Fault}
use Rattle.mp4_box.specs.Trees.{tree_faults}
use Rattle.mp4_boxes.specs.Buffering.{most_held}
use Rattle.mp4_boxes.specs.Listing.{box_line}
use Rattle.mp4_machine.specs.Readings.{Request, shifted, Effects, no_effects, says, requests_memory, FirstItem, Last, Whole, after_effects}
use Rattle.mp4_machine.proofs.ReadingItemLemmas.{Each, IsFirst, IsItemAt, asks_hold}
use Rattle.mp4_machine.proofs.PastLemmas.{effects_of}
use Rattle.mp4_machine.proofs.ReadingLemmas.{Below}
use Rattle.mp4_machine.specs.Bodies.{least_end, longest, at_fault, body_item, open_body_item}
use Rattle.mp4_boxes.specs.Boxes.{passed, body, buffered_box, held_body, holding, box_by, box, top_box_by, top_box, reading, listing}
use Rattle.mp4_machine.proofs.BodyLemmas.{nat_lt_false}
use Rattle.mp4_boxes.proofs.BoxLemmas.{front-items, front-some, front-none, held-below}
use Rattle.mp4_machine.proofs.HeadLemmas.{front-is, front-len, head-room}

-- ---- what is asked for first

asks-after : (t : Effects) (f : FirstItem ℕ) → (effects_of (after_effects t f)).requests ≡ t.requests ++ shifted t (effects_of f).requests
asks-after t (Last r) = refl
asks-after t (Whole effects next rest) = refl

sized-silent : (at : ℕ) (kind : FourCc) (next left : ℕ) (b : List ℕ) (t : Bool) → nat_lt (length b) left ≡ t → (effects_of (body_item passed at kind next left b)).requests ≡ []
sized-silent at kind next left b true e = rw e refl
sized-silent at kind next left b false e = rw e refl

open-silent : (at : ℕ) (kind : FourCc) (left : ℕ) (b : List ℕ) (t : Bool) → nat_lt left (length b) ≡ t → (effects_of {C = ℕ} (open_body_item passed at kind 0 left b)).requests ≡ []
open-silent at kind left b true e = rw e refl
open-silent at kind left b false e = rw (e, nat_lt_false (length b) 0 (omega arith)) refl

body-silent : (at : ℕ) (h : Header) (size : Size) (b : List ℕ) → (effects_of (body at h size b)).requests ≡ []
body-silent at h (Exact s) b = sized-silent at h.kind (at + s) (s - h.header_len) b _ refl
body-silent at h ToEnd b = open-silent at h.kind (longest - (at + h.header_len)) b _ refl

held_box-silent : (at next : ℕ) (x rest : List ℕ) (fs : List Fault) → (effects_of (buffered_box at next x rest fs)).requests ≡ []
held_box-silent at next x rest [] = refl
held_box-silent at next x rest (f ∷ fs) = refl

held-silent : (at : ℕ) (kind : FourCc) (size : ℕ) (b : List ℕ) (t : Bool) → nat_lt (length b) size ≡ t → (effects_of (held_body at kind size b)).requests ≡ []
held-silent at kind size b true e = rw e refl
held-silent at kind size b false e = rw e (held_box-silent at (at + size) (take size b) (drop size b) (tree_faults at (take size b)))

holding-first : (at : ℕ) (h : Header) (limit : ℕ) (b : List ℕ) (size : Size) → Each (IsFirst at) (effects_of (holding at h limit b size)).requests
holding-first at h limit b ToEnd = tt
holding-first at h limit b (Exact s) = by (nat_lt limit s) refl
  where
    by : (t : Bool) → nat_lt limit s ≡ t → Each (IsFirst at) (effects_of (holding at h limit b (Exact s))).requests
    by true e = rw e tt
    by false e = rw e (subst (Each (IsFirst at)) (sym (asks-after (requests_memory at s) (held_body at h.kind s b) ∙ ap (λ l. (requests_memory at s).requests ++ shifted (requests_memory at s) l) (held-silent at h.kind s b _ refl))) (record { place = refl; none_before = refl }, tt))

box_by-first : (at : ℕ) (h : Header) (x b : List ℕ) (most : Option ℕ) → Each (IsFirst at) (effects_of (box_by at h x b most)).requests
box_by-first at h x b None = subst (Each (IsFirst at)) (sym (asks-after (says (box_line at h)) (body at h h.size b) ∙ ap (shifted (says (box_line at h))) (body-silent at h h.size b))) tt
box_by-first at h x b (Some limit) = holding-first at h limit (x ++ b) h.size

box-first : (at : ℕ) (h : Header) (x b : List ℕ) (t : Bool) → nat_lt longest (least_end at h h.size) ≡ t → Each (IsFirst at) (effects_of (box at h x b)).requests
box-first at h x b true e = rw e tt
box-first at h x b false e = rw e (box_by-first at h x b (most_held h.kind.0))

front_by-first : (at : ℕ) (b : List ℕ) (s : Step) → Each (IsFirst at) (effects_of (top_box_by at b s)).requests
front_by-first at b steps.More = tt
front_by-first at b steps.BadSize = tt
front_by-first at b (steps.Whole h) = box-first at h (take h.header_len b) (drop h.header_len b) _ refl

pub front-first : (at : ℕ) (b : List ℕ) → Each (IsFirst at) (effects_of (top_box at b)).requests
unfolding top_box
front-first at [] = tt
front-first at (a ∷ b) = front_by-first at (a ∷ b) (header_at (a ∷ b))

-- ---- a whole box, whatever follows

-- the bytes that f takes from a base on
abbrev pub IsTaken : (List ℕ → FirstItem ℕ) → ℕ → List ℕ → FirstItem ℕ → Type 0
IsTaken f base b v = IsItemAt (λ n. f) (λ n. n) base b v

sized-whole : (at : ℕ) (kind : FourCc) (next left : ℕ) (b : List ℕ) → left ≤ length b → body_item passed at kind next left b ≡ Whole no_effects next (drop left b)
sized-whole at kind next left b h = rw (nat_lt_false (length b) left h) refl

sized-taken : (at : ℕ) (kind : FourCc) (base next left : ℕ) (b : List ℕ) (t : Bool) → next ≡ base + left → nat_lt (length b) left ≡ t → IsTaken (body_item passed at kind next left) base b (body_item passed at kind next left b)
sized-taken at kind base next left b true n e = rw e tt
sized-taken at kind base next left b false n e =
    let enough : left ≤ length b = ltb-false _ _ e in
    let len : length (take left b) ≡ left = length-take-le left b enough in
    subst (IsTaken (body_item passed at kind next left) base b) (sym (sized-whole at kind next left b enough)) (record {
      own = take left b;
      cut = sym (take-append-drop left b);
      ends = omega (arith, len, n);
      same = λ y. sized-whole at kind next left (take left b ++ y) (omega (arith, len, length-append (take left b) y)) ∙ ap (λ k. Whole no_effects next (drop k (take left b ++ y))) (sym len) ∙ ap (Whole no_effects next) (drop-append_seam (take left b) y);
    })

open-taken : (at : ℕ) (kind : FourCc) (left base : ℕ) (b : List ℕ) (t : Bool) → nat_lt left (length b) ≡ t → IsTaken (open_body_item passed at kind 0 left) base b (open_body_item passed at kind 0 left b)
open-taken at kind left base b true e = rw e tt
open-taken at kind left base b false e = rw (e, nat_lt_false (length b) 0 (omega arith)) tt

emitted-taken : (t : Effects) (f : List ℕ → FirstItem ℕ) (base : ℕ) (b : List ℕ) (v : FirstItem ℕ) → IsTaken f base b v → IsTaken (λ y. after_effects t (f y)) base b (after_effects t v)
emitted-taken t f base b (Last r) h = tt
emitted-taken t f base b (Whole effects next rest) h = record { own = h.own; cut = h.cut; ends = h.ends; same = λ y. ap (after_effects t) (h.same y) }

body-taken : (at : ℕ) (h : Header) (size : Size) (b : List ℕ) → HasRoom size h.header_len → IsTaken (body at h size) (at + h.header_len) b (body at h size b)
body-taken at h (Exact s) b room = sized-taken at h.kind (at + h.header_len) (at + s) (s - h.header_len) b _ (omega (arith, room)) refl
body-taken at h ToEnd b room = open-taken at h.kind (longest - (at + h.header_len)) (at + h.header_len) b _ refl

held_box-taken : (at size : ℕ) (kind : FourCc) (b : List ℕ) (fs : List Fault) → size ≤ length b → tree_faults at (take size b) ≡ fs → IsTaken (held_body at kind size) at b (buffered_box at (at + size) (take size b) (drop size b) fs)
held_box-taken at size kind b (f ∷ fs) enough e = tt
held_box-taken at size kind b [] enough e =
    let len : length (take size b) ≡ size = length-take-le size b enough in
    record {
      own = take size b;
      cut = sym (take-append-drop size b);
      ends = omega (arith, len);
      same = λ y.
          let top_box : take size (take size b ++ y) ≡ take size b = ap (λ k. take k (take size b ++ y)) (sym len) ∙ take-append_seam (take size b) y in
          let after : drop size (take size b ++ y) ≡ y = ap (λ k. drop k (take size b ++ y)) (sym len) ∙ drop-append_seam (take size b) y in
          rw (nat_lt_false (length (take size b ++ y)) size (omega (arith, len, length-append (take size b) y)), top_box, after, e) refl;
    }

held-taken : (at : ℕ) (kind : FourCc) (size : ℕ) (b : List ℕ) (t : Bool) → nat_lt (length b) size ≡ t → IsTaken (held_body at kind size) at b (held_body at kind size b)
held-taken at kind size b true e = rw e tt
held-taken at kind size b false e = rw e (held_box-taken at size kind b (tree_faults at (take size b)) (ltb-false _ _ e) refl)

-- the same, after bytes that all of it begins with
after-taken : (f : List ℕ → FirstItem ℕ) (base : ℕ) (x b : List ℕ) (v : FirstItem ℕ) → ((effects : Effects) (next : ℕ) (rest : List ℕ) → v ≡ Whole effects next rest → length rest ≤ length b) → IsTaken f base (x ++ b) v → IsTaken (λ z. f (x ++ z)) (base + length x) b v
after-taken f base x b (Last r) short h = tt
after-taken f base x b (Whole effects next rest) short h =
    let all : length x + length b ≡ length h.own + length rest = sym (length-append x b) ∙ ap length h.cut ∙ length-append h.own rest in
    let less : length x ≤ length h.own = omega (arith, all, short effects next rest refl) in
    let top_box : take (length x) h.own ≡ x = sym (take-append-le (length x) h.own rest less) ∙ ap (take (length x)) (sym h.cut) ∙ take-append_seam x b in
    let own : h.own ≡ x ++ drop (length x) h.own = sym (take-append-drop (length x) h.own) ∙ ap (λ l. l ++ drop (length x) h.own) top_box in
    record {
      own = drop (length x) h.own;
      cut = sym (drop-append_seam x b) ∙ ap (drop (length x)) h.cut ∙ drop-append-le (length x) h.own rest less;
      ends = omega (arith, h.ends, length-drop (length x) h.own, less);
      same = λ y. ap f (sym (append_assoc x (drop (length x) h.own) y) ∙ ap (λ l. l ++ y) (sym own)) ∙ h.same y;
    }

front-headed : (at : ℕ) (x z : List ℕ) (h : Header) → length x ≡ need x → header_at x ≡ steps.Whole h → top_box at (x ++ z) ≡ box at h x z
front-headed at x z h len e =
    let w = whole_is x h e in
    let same : h.header_len ≡ length x = omega (arith, w.1) in
    let long : 0 < length (x ++ z) = omega (arith, need-least x, length-append x z) in
    front-some at (x ++ z) long ∙ ap (top_box_by at (x ++ z)) (header_at-append x z (omega arith) ∙ e)
    ∙ ap (λ l. box at h l (drop h.header_len (x ++ z))) (ap (λ n. take n (x ++ z)) same ∙ take-append_seam x z) ∙ ap (box at h x) (ap (λ n. drop n (x ++ z)) same ∙ drop-append_seam x z)

below-rest : (v : FirstItem ℕ) (n : ℕ) → Below v n → (effects : Effects) (next : ℕ) (rest : List ℕ) → v ≡ Whole effects next rest → length rest ≤ n
below-rest v n h effects next rest e = subst (λ w. Below w n) e h

kept-taken : (at : ℕ) (kind : FourCc) (s : ℕ) (x b : List ℕ) → length x ≤ s → IsTaken (λ z. held_body at kind s (x ++ z)) (at + length x) b (held_body at kind s (x ++ b))
kept-taken at kind s x b h =
    after-taken (held_body at kind s) at x b (held_body at kind s (x ++ b))
    (below-rest (held_body at kind s (x ++ b)) (length b) (held-below at kind s (x ++ b) (length b) (omega (arith, length-append x b))))
    (held-taken at kind s (x ++ b) _ refl)

holding-taken : (at : ℕ) (h : Header) (limit s : ℕ) (x b : List ℕ) (t : Bool) → nat_lt limit s ≡ t → length x ≤ s → IsTaken (λ z. holding at h limit (x ++ z) (Exact s)) (at + length x) b (holding at h limit (x ++ b) (Exact s))
holding-taken at h limit s x b true e fits = rw e tt
holding-taken at h limit s x b false e fits = rw e (emitted-taken (requests_memory at s) (λ z. held_body at h.kind s (x ++ z)) (at + length x) b (held_body at h.kind s (x ++ b)) (kept-taken at h.kind s x b fits))

holding-taken_by : (at : ℕ) (h : Header) (limit : ℕ) (x b : List ℕ) (size : Size) → HasRoom size (length x) → IsTaken (λ z. holding at h limit (x ++ z) size) (at + length x) b (holding at h limit (x ++ b) size)
holding-taken_by at h limit x b (Exact s) room = holding-taken at h limit s x b _ refl room
holding-taken_by at h limit x b ToEnd room = tt

box_by-taken : (at : ℕ) (h : Header) (x b : List ℕ) (most : Option ℕ) → h.header_len ≡ length x → HasRoom h.size (length x) → IsTaken (λ z. box_by at h x z most) (at + length x) b (box_by at h x b most)
box_by-taken at h x b None len room =
    subst (λ n. IsTaken (λ z. after_effects (says (box_line at h)) (body at h h.size z)) (at + n) b (after_effects (says (box_line at h)) (body at h h.size b))) len
    (emitted-taken (says (box_line at h)) (body at h h.size) (at + h.header_len) b (body at h h.size b) (body-taken at h h.size b (subst (HasRoom h.size) (sym len) room)))
box_by-taken at h x b (Some limit) len room = holding-taken_by at h limit x b h.size room

box-taken : (at : ℕ) (h : Header) (x b : List ℕ) (t : Bool) → nat_lt longest (least_end at h h.size) ≡ t → h.header_len ≡ length x → HasRoom h.size (length x) → IsTaken (λ z. if nat_lt longest (least_end at h h.size) then Last (at_fault StreamTooLong (Some h.kind) at) else box_by at h x z (most_held h.kind.0)) (at + length x) b (box at h x b)
box-taken at h x b true e len room = rw e tt
box-taken at h x b false e len room = rw e (box_by-taken at h x b (most_held h.kind.0) len room)

-- after its header
headed : (at : ℕ) (x b : List ℕ) (h : Header) (v : FirstItem ℕ) → length x ≡ need x → header_at x ≡ steps.Whole h → IsTaken (box at h x) (at + length x) b v → IsItemAt top_box (λ n. n) at (x ++ b) v
headed at x b h (Last r) len e i = tt
headed at x b h (Whole effects next rest) len e i = record {
  own = x ++ i.own;
  cut = ap (λ l. x ++ l) i.cut ∙ sym (append_assoc x i.own rest);
  ends = omega (arith, i.ends, length-append x i.own);
  same = λ y. ap (top_box at) (append_assoc x i.own y) ∙ front-headed at x (i.own ++ y) h len e ∙ i.same y;
}

front_by-whole : (at : ℕ) (b : List ℕ) (s : Step) → header_at b ≡ s → IsItemAt top_box (λ n. n) at b (top_box_by at b s)
front_by-whole at b steps.More e = tt
front_by-whole at b steps.BadSize e = tt
front_by-whole at b (steps.Whole h) e =
    let w = whole_is b h e in
    let x = take h.header_len b in
    let len : length x ≡ h.header_len = length-take-le h.header_len b (omega (arith, w.0, w.1)) in
    subst (λ l. IsItemAt top_box (λ n. n) at l (box at h x (drop h.header_len b))) (take-append-drop h.header_len b)
    (headed at x (drop h.header_len b) h (box at h x (drop h.header_len b)) (front-len b h e) (front-is b h e) (box-taken at h x (drop h.header_len b) _ refl (sym len) (head-room b h e)))

pub front-whole : (at : ℕ) (b : List ℕ) → IsItemAt top_box (λ n. n) at b (top_box at b)
front-whole at [] = subst (IsItemAt top_box (λ n. n) at []) (sym (front-none at)) tt
front-whole at (a ∷ b) = subst (IsItemAt top_box (λ n. n) at (a ∷ b)) (sym (front-some at (a ∷ b) (omega arith))) (front_by-whole at (a ∷ b) (header_at (a ∷ b)) refl)

-- the listing before a box that asks is that of the bytes before it
pub listing-before : (b : List ℕ) (before : List Request) (a : Request) (after : List Request) → (reading 0 b).effects.requests ≡ before ++ a ∷ after → take a.text_before (listing b) ≡ listing (take a.at b)
listing-before b before a after e =
    let none : a.at - 0 ≡ a.at = omega arith in
    (asks_hold top_box (λ n. n) front-items front-first front-whole 0 b before a after e).text ∙ ap (λ n. listing (take n b)) none
