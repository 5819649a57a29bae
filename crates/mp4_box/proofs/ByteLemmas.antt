-- Boxes that lie in bytes have payloads of bytes, whose numbers fit their fields.
use Rattle.std.proofs.Common.{◌+◌, ◌<◌, ◌≤◌, ◌^◌, ℕ, zero, suc, Bool, true, false, cond, ltb, List, [], ◌∷◌, ◌++◌, length, drop, sym, subst, arith, inl, inr}
use Rattle.std.specs.Prelude.{filter}
use Rattle.std.specs.List.{AllByRecursion, flat_map}
use Rattle.std.specs.Str.{bytes_eq}
use Rattle.std.proofs.lemmas.List.{length-drop}
use Rattle.byteorder.specs.Endian.{big_number}
use Rattle.mp4_box.specs.declared.headers.FourCc.{FourCc}
use Rattle.mp4_box.specs.Fields.{number_in}
use Rattle.mp4_box.specs.Headers.{IsBytes}
use Rattle.mp4_box.specs.Paths as paths
use Rattle.mp4_box.specs.Paths.{at_path, of_kind}
use Rattle.mp4_box.specs.Trees.{Box, box_at, box_len, boxes, children, payload_offset}
use Rattle.mp4_box.proofs.GrammarLemmas.{lies_at, option_is}
use Rattle.mp4_box.proofs.HeaderLemmas.{IsBytes-drop}
use Rattle.mp4_box.proofs.TreeLemmas.{boxes_end, boxes_more, over-end}

-- ---- numbers

four_bytes : (x : List ℕ) → IsBytes x → big_number 4 x < 2 ^ 32
four_bytes x fits = omega (arith, fits 0, fits 1, fits 2, fits 3)

-- a number of four bytes has 32 bits
pub number_small : (p : List ℕ) (at : ℕ) → IsBytes p → number_in p at < 2 ^ 32
number_small p at fits = by (ltb (length p) (at + 4))
  where
    by : (t : Bool) → cond t 0 (big_number 4 (drop at p)) < 2 ^ 32
    by true = omega arith
    by false = four_bytes (drop at p) (IsBytes-drop at p fits)

-- ---- boxes

-- the payload of a box is of bytes
abbrev pub OfBytes : Box → Type 0
OfBytes b = IsBytes b.payload

boxes_of_bytes : (o : ℕ) (x : List ℕ) (fuel : ℕ) → IsBytes x → length x ≤ fuel → AllByRecursion OfBytes (boxes o x)
boxes_of_bytes o x zero held few = subst (λ (bs : List Box). AllByRecursion OfBytes bs) (sym (over-end (λ b. b ∷ []) (λ _ _. []) x o (omega (arith, few)))) tt
boxes_of_bytes o x (suc fuel) held few =
    elim (option_is (box_at o x)) [
      | inl none ↦ subst (λ (bs : List Box). AllByRecursion OfBytes bs) (sym (boxes_end o x none)) tt
      | inr some ↦
          let b = some.0 in
          let s = lies_at o x b held some.1 in
          subst (λ (bs : List Box). AllByRecursion OfBytes bs) (sym (boxes_more o x b some.1 s.low s.high))
          (s.bytes, boxes_of_bytes (o + box_len b) (drop (box_len b) x) fuel (IsBytes-drop (box_len b) x held) (omega (arith, few, s.low, s.high, length-drop (box_len b) x)))
    ]

pub children_of_bytes : (b : Box) → OfBytes b → AllByRecursion OfBytes (children b)
children_of_bytes b held = boxes_of_bytes (payload_offset b) b.payload (length b.payload) held (omega arith)

kept_by : (t : Bool) (b : Box) (bs : List Box) → OfBytes b → AllByRecursion OfBytes bs → AllByRecursion OfBytes (cond t (b ∷ bs) bs)
kept_by true b bs p q = (p, q)
kept_by false b bs p q = q

-- those that a test keeps, as those of a type
pub kept_of_bytes : (p : Box → Bool) (bs : List Box) → AllByRecursion OfBytes bs → AllByRecursion OfBytes (filter p bs)
kept_of_bytes p [] all = tt
kept_of_bytes p (b ∷ bs) all = kept_by (p b) b (filter p bs) all.0 (kept_of_bytes p bs all.1)

pub kind_of_bytes : (kind : FourCc) (bs : List Box) → AllByRecursion OfBytes bs → AllByRecursion OfBytes (of_kind kind bs)
kind_of_bytes kind bs all = kept_of_bytes (λ (b : Box). bytes_eq b.header.kind.0 kind.0) bs all

all_both : (xs ys : List Box) → AllByRecursion OfBytes xs → AllByRecursion OfBytes ys → AllByRecursion OfBytes (xs ++ ys)
all_both [] ys p q = q
all_both (x ∷ xs) ys p q = (p.0, all_both xs ys p.1 q)

all_flat : (f : Box → List Box) → ((b : Box) → OfBytes b → AllByRecursion OfBytes (f b)) → (bs : List Box) → AllByRecursion OfBytes bs → AllByRecursion OfBytes (flat_map f bs)
all_flat f ff [] all = tt
all_flat f ff (b ∷ bs) all = all_both (f b) (flat_map f bs) (ff b all.0) (all_flat f ff bs all.1)

-- those that a path leads to
pub path_of_bytes : (path : List FourCc) (b : Box) → OfBytes b → AllByRecursion OfBytes (at_path path b)
unfolding paths.at_path
path_of_bytes [] b held = (held, tt)
path_of_bytes (kind ∷ path) b held = all_flat (at_path path) (path_of_bytes path) (of_kind kind (children b)) (kind_of_bytes kind (children b) (children_of_bytes b held))
