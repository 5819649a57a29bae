-- Where the boxes of a moof lie in its bytes.
use Rattle.std.proofs.Common.{◌≡◌, ◌∙◌, ◌+◌, ◌-◌, ◌≤◌, ℕ, zero, suc, Bool, true, false, cond, List, [], ◌∷◌, ◌++◌, length, take, drop, Some, sym, ap, subst, arith, inl, inr}
use Rattle.std.specs.List.{AllByRecursion}
use Rattle.std.specs.Str.{bytes_eq}
use Rattle.std.proofs.lemmas.List.{drop_at, drop-take, take-take, drop-drop, length-drop}
use Rattle.mp4_box.specs.declared.headers.FourCc.{FourCc}
use Rattle.mp4_box.specs.Headers.{IsBytes, IsWhole}
use Rattle.mp4_box.specs.Paths.{of_kind}
use Rattle.mp4_box.specs.Trees.{Box, box_at, box_len, boxes, children, payload_offset}
use Rattle.mp4_box.proofs.GrammarLemmas.{lies_at, option_is, whole_len}
use Rattle.mp4_box.proofs.HeaderLemmas.{IsBytes-drop}
use Rattle.mp4_box.proofs.TreeLemmas.{boxes_more, boxes_end, over-end}
use Rattle.mp4_traf.specs.Runs.{MoofBytes}

-- the payload of a box is a part of the bytes that are held
pub record Lies (h : MoofBytes) (b : Box) : Type 0 where
  pub at : ℕ
  pub place : payload_offset b ≡ h.offset + at
  pub within : at + length b.payload ≤ length h.bytes
  pub is : b.payload ≡ take (length b.payload) (drop at h.bytes)
  pub bytes : IsBytes b.payload

-- a part of a part
pub inner : (x : List ℕ) (at n j m : ℕ) → j + m ≤ n → take m (drop j (take n (drop at x))) ≡ take m (drop (at + j) x)
inner x at n j m fits =
    let all : n ≡ j + (n - j) = omega arith in
    ap (λ (k : ℕ). take m (drop j (take k (drop at x)))) all
    ∙ ap (take m) (drop-take j (n - j) (drop at x))
    ∙ take-take m (n - j) (drop j (drop at x)) (omega arith)
    ∙ ap (take m) (drop-drop j at x)

-- what follows a head
after_head : (whole head payload : List ℕ) (n : ℕ) → whole ≡ head ++ payload → n ≡ length head → payload ≡ drop n whole
after_head whole head payload n e is = sym (drop_at head payload n (sym is)) ∙ ap (drop n) (sym e)

child_lies : (h : MoofBytes) (p b : Box) (k : ℕ) → Lies h p → k ≤ length p.payload → box_at (payload_offset p + k) (drop k p.payload) ≡ Some b → Lies h b
child_lies h p b k lies within e =
    let x : List ℕ = drop k p.payload in
    let s = lies_at (payload_offset p + k) x b (IsBytes-drop k p.payload lies.bytes) e in
    let n : ℕ = b.header.header_len in
    let len : ℕ = length b.payload in
    let tail : b.payload ≡ take len (drop (k + n) p.payload) =
    after_head (take (box_len b) x) s.box.header_bytes b.payload n s.box.whole s.box.spelled.header_len
    ∙ drop-take n len x
    ∙ ap (take len) (drop-drop n k p.payload) in
    let room : k + n + len ≤ length p.payload = omega (arith, s.high, length-drop k p.payload, within) in
    record {
      at = lies.at + (k + n);
      place = omega (arith, s.place, lies.place);
      within = omega (arith, room, lies.within);
      is = tail ∙ ap (λ (y : List ℕ). take len (drop (k + n) y)) lies.is ∙ inner h.bytes lies.at (length p.payload) (k + n) len (omega (arith, room));
      bytes = s.bytes;
    }

none_left : (o : ℕ) (x : List ℕ) → length x ≡ 0 → boxes o x ≡ []
none_left o x e = over-end (λ b. b ∷ []) (λ _ _. []) x o e

rest_lie : (h : MoofBytes) (p : Box) (lies : Lies h p) (fuel k : ℕ) → length p.payload ≤ k + fuel → AllByRecursion (Lies h) (boxes (payload_offset p + k) (drop k p.payload))
rest_lie h p lies zero k e =
    subst (λ (bs : List Box). AllByRecursion (Lies h) bs) (sym (none_left (payload_offset p + k) (drop k p.payload) (omega (arith, e, length-drop k p.payload)))) tt
rest_lie h p lies (suc fuel) k e =
    let o : ℕ = payload_offset p + k in
    let x : List ℕ = drop k p.payload in
    elim (option_is (box_at o x)) [
      | inl none ↦ subst (λ (bs : List Box). AllByRecursion (Lies h) bs) (sym (boxes_end o x none)) tt
      | inr some ↦
          let b = some.0 in
          let s = lies_at o x b (IsBytes-drop k p.payload lies.bytes) some.1 in
          let within : k ≤ length p.payload = omega (arith, s.low, s.high, length-drop k p.payload) in
          let next : ℕ = k + box_len b in
          let rest = rest_lie h p lies fuel next (omega (arith, e, s.low)) in
          let more : boxes o x ≡ b ∷ boxes (payload_offset p + next) (drop next p.payload) =
          boxes_more o x b some.1 s.low s.high
          ∙ ap (λ (y : List ℕ). b ∷ boxes (o + box_len b) y) (drop-drop (box_len b) k p.payload)
          ∙ ap (λ (m : ℕ). b ∷ boxes m (drop next p.payload)) (omega arith) in
          subst (λ (bs : List Box). AllByRecursion (Lies h) bs) (sym more) (child_lies h p b k lies within some.1, rest)
    ]

-- the children of a box that lies in the bytes lie there too
pub children_lie : (h : MoofBytes) (p : Box) → Lies h p → AllByRecursion (Lies h) (children p)
children_lie h p lies =
    let all = rest_lie h p lies (length p.payload) 0 (omega arith) in
    let none : payload_offset p + 0 ≡ payload_offset p = omega arith in
    subst (λ (o : ℕ). AllByRecursion (Lies h) (boxes o p.payload)) none all

-- those of a type among some that lie there
pub kind_all : (P : Box → Type 0) (kind : FourCc) (bs : List Box) → AllByRecursion P bs → AllByRecursion P (of_kind kind bs)
kind_all P kind [] all = tt
kind_all P kind (b ∷ bs) all = by (bytes_eq b.header.kind.0 kind.0) (kind_all P kind bs all.1)
  where
    by : (t : Bool) → AllByRecursion P (of_kind kind bs) → AllByRecursion P (cond t (b ∷ of_kind kind bs) (of_kind kind bs))
    by true rest = (all.0, rest)
    by false rest = rest

-- the moof itself
pub moof_lies : (h : MoofBytes) (m : Box) → IsWhole h.bytes → IsBytes h.bytes → box_at h.offset h.bytes ≡ Some m → Lies h m
moof_lies h m whole fits e =
    let s = lies_at h.offset h.bytes m fits e in
    let n : ℕ = m.header.header_len in
    let len : ℕ = length m.payload in
    let all : box_len m ≡ length h.bytes = whole_len h.offset h.bytes m whole e in
    record {
      at = n;
      place = omega (arith, s.place);
      within = omega (arith, all);
      is = after_head (take (box_len m) h.bytes) s.box.header_bytes m.payload n s.box.whole s.box.spelled.header_len ∙ drop-take n len h.bytes;
      bytes = s.bytes;
    }
