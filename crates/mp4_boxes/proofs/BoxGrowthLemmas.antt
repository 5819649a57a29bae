-- What more bytes change of the box at the front.
use Rattle.std.proofs.Common.{◌≡◌, ◌∙◌, ℕ, ◌+◌, ◌-◌, ◌<◌, ◌≤◌, List, [], ◌∷◌, ◌++◌, length, take, drop, Option, None, Some, append_assoc, Bool, true, false, ap, sym, refl, arith, length-append, subst}
use Rattle.std.specs.Prelude.{nat_lt}
use Rattle.std.proofs.lemmas.Bool.{ltb-false}
use Rattle.std.proofs.lemmas.List.{take-append-le, drop-append-le}
use Rattle.mp4_box.specs.declared.headers.FourCc.{FourCc}
use Rattle.mp4_box.specs.declared.headers.Header.{Header}
use Rattle.mp4_box.specs.declared.headers.Size.{Size}
use Rattle.mp4_box.specs.declared.headers.Size.TheVariants.{Exact, ToEnd}
use Rattle.mp4_box.specs.declared.headers.Step.{Step}
use Rattle.mp4_box.specs.declared.headers.Step.TheVariants as steps
use Rattle.mp4_box.specs.declared.rules.Rule.TheVariants.{BadSize}
use Rattle.mp4_box.specs.Headers.{need, header_at}
use Rattle.mp4_box.proofs.HeaderLemmas.{header_at-append, whole_is, bad_is, need-least}
use Rattle.mp4_box.specs.declared.rules.Fault.{Fault}
use Rattle.mp4_box.specs.Trees.{tree_faults}
use Rattle.mp4_boxes.specs.Buffering.{most_held}
use Rattle.mp4_boxes.specs.Listing.{box_line}
use Rattle.mp4_machine.specs.Readings.{Last, no_effects, says, requests_memory, Extends}
use Rattle.mp4_machine.proofs.BodyGrowthLemmas.{emitted_body-grows, emitted_open-grows}
use Rattle.mp4_machine.proofs.HeadLemmas.{kind_of-append}
use Rattle.mp4_machine.specs.Bodies.{least_end, longest, at_fault}
use Rattle.mp4_boxes.specs.Boxes.{passed, body, buffered_box, held_body, holding, box_by, box, top_box_by, top_box}
use Rattle.mp4_boxes.proofs.BoxLemmas.{front-some, front-none}
use Rattle.mp4_machine.proofs.BodyLemmas.{nat_lt_false}
use Rattle.mp4_machine.proofs.ReadingGrowthLemmas.{FrontGrows, Extends-silent, Extends-same, emitted-grows}
use Rattle.mp4_machine.proofs.PastLemmas.{effects-past}
use Rattle.mp4_boxes.proofs.PastLemmas.{held_body-past, top_past}

passed-grows : (b x : List ℕ) → Extends (passed b) (passed (b ++ x))
passed-grows b x = Extends-same no_effects

pub body-grows : (at : ℕ) (h : Header) (size : Size) (b x : List ℕ) → FrontGrows x (body at h size b) (body at h size (b ++ x))
body-grows at h (Exact s) b x = emitted_body-grows passed passed-grows at h.kind (at + s) (s - h.header_len) b x
body-grows at h ToEnd b x = emitted_open-grows passed passed-grows ℕ at h.kind 0 (longest - (at + h.header_len)) b x

held_box-grows : (at next : ℕ) (y rest x : List ℕ) (fs : List Fault) → FrontGrows x (buffered_box at next y rest fs) (buffered_box at next y (rest ++ x) fs)
held_box-grows at next y rest x [] = refl
held_box-grows at next y rest x (f ∷ fs) = refl

held-grows : (at : ℕ) (kind : FourCc) (size : ℕ) (b x : List ℕ) (t : Bool) → nat_lt (length b) size ≡ t → FrontGrows x (held_body at kind size b) (held_body at kind size (b ++ x))
held-grows at kind size b x true e = rw e (Extends-silent _ (effects-past (held_body at kind size (b ++ x)) (held_body-past at kind size (b ++ x))))
held-grows at kind size b x false e =
    let enough : size ≤ length b = ltb-false _ _ e in
    rw (e, nat_lt_false (length (b ++ x)) size (omega (arith, length-append b x)), take-append-le size b x enough, drop-append-le size b x enough)
    (held_box-grows at (at + size) (take size b) (drop size b) x (tree_faults at (take size b)))

holding-grows : (at : ℕ) (h : Header) (limit s : ℕ) (b x : List ℕ) (t : Bool) → nat_lt limit s ≡ t → FrontGrows x (holding at h limit b (Exact s)) (holding at h limit (b ++ x) (Exact s))
holding-grows at h limit s b x true e = rw e refl
holding-grows at h limit s b x false e = rw e (emitted-grows (requests_memory at s) x (held_body at h.kind s b) (held_body at h.kind s (b ++ x)) (held-grows at h.kind s b x (nat_lt (length b) s) refl))

holding-grows_by : (at : ℕ) (h : Header) (limit : ℕ) (b x : List ℕ) (size : Size) → FrontGrows x (holding at h limit b size) (holding at h limit (b ++ x) size)
holding-grows_by at h limit b x (Exact s) = holding-grows at h limit s b x (nat_lt limit s) refl
holding-grows_by at h limit b x ToEnd = refl

box_by-grows : (at : ℕ) (h : Header) (y b x : List ℕ) (most : Option ℕ) → FrontGrows x (box_by at h y b most) (box_by at h y (b ++ x) most)
box_by-grows at h y b x None = emitted-grows (says (box_line at h)) x (body at h h.size b) (body at h h.size (b ++ x)) (body-grows at h h.size b x)
box_by-grows at h y b x (Some limit) =
    subst (λ l. FrontGrows x (holding at h limit (y ++ b) h.size) (holding at h limit l h.size)) (append_assoc y b x) (holding-grows_by at h limit (y ++ b) x h.size)

box-grows : (at : ℕ) (h : Header) (y b x : List ℕ) (t : Bool) → nat_lt longest (least_end at h h.size) ≡ t → FrontGrows x (box at h y b) (box at h y (b ++ x))
box-grows at h y b x true e = rw e refl
box-grows at h y b x false e = rw e (box_by-grows at h y b x (most_held h.kind.0))

front_by-grows : (at : ℕ) (b x : List ℕ) (s : Step) → header_at b ≡ s → FrontGrows x (top_box_by at b s) (top_box at (b ++ x))
front_by-grows at b x steps.More e = Extends-silent _ (effects-past (top_box at (b ++ x)) (top_past at (b ++ x)))
front_by-grows at b x steps.BadSize e =
    let whole : need b ≤ length b = bad_is b e in
    let some : 0 < length (b ++ x) = omega (arith, length-append b x, need-least b) in
    front-some at (b ++ x) some ∙ ap (top_box_by at (b ++ x)) (header_at-append b x whole ∙ e) ∙ ap (λ k. Last (at_fault BadSize k at)) (kind_of-append b x (omega (arith, need-least b)))
front_by-grows at b x (steps.Whole h) e =
    let w = whole_is b h e in
    let some : 0 < length (b ++ x) = omega (arith, length-append b x, need-least b, w.0) in
    let after : drop h.header_len (b ++ x) ≡ drop h.header_len b ++ x = drop-append-le h.header_len b x (omega (arith, w.0, w.1)) in
    let header_bytes : take h.header_len (b ++ x) ≡ take h.header_len b = take-append-le h.header_len b x (omega (arith, w.0, w.1)) in
    let same : top_box at (b ++ x) ≡ box at h (take h.header_len b) (drop h.header_len b ++ x) = front-some at (b ++ x) some ∙ ap (top_box_by at (b ++ x)) (header_at-append b x w.0 ∙ e) ∙ ap (λ l. box at h l (drop h.header_len (b ++ x))) header_bytes ∙ ap (box at h (take h.header_len b)) after in
    subst (FrontGrows x (box at h (take h.header_len b) (drop h.header_len b))) (sym same) (box-grows at h (take h.header_len b) (drop h.header_len b) x (nat_lt longest (least_end at h h.size)) refl)

pub front-grows : (at : ℕ) (b x : List ℕ) → FrontGrows x (top_box at b) (top_box at (b ++ x))
front-grows at [] x = subst (λ v. FrontGrows x v (top_box at x)) (sym (front-none at)) (Extends-silent _ (effects-past (top_box at x) (top_past at x)))
front-grows at (a ∷ b) x = subst (λ v. FrontGrows x v (top_box at ((a ∷ b) ++ x))) (sym (front-some at (a ∷ b) (omega arith))) (front_by-grows at (a ∷ b) x (header_at (a ∷ b)) refl)
