-- Where the boxes of a payload begin, and that they are found there again.
use Rattle.std.proofs.Common.{◌≡◌, ◌∙◌, ◌+◌, ◌≤◌, ℕ, zero, suc, List, [], ◌∷◌, length, drop, Some, sym, ap, subst, arith, inl, inr}
use Rattle.std.specs.Str.{bytes_eq}
use Rattle.std.proofs.lemmas.List.{drop-drop, length-drop}
use Rattle.mp4_box.specs.declared.headers.FourCc.{FourCc}
use Rattle.mp4_box.specs.Headers.{IsBytes}
use Rattle.mp4_box.specs.Paths.{of_kind}
use Rattle.mp4_box.specs.Trees.{Box, box_at, box_len, boxes}
use Rattle.mp4_box.proofs.GrammarLemmas.{lies_at, option_is}
use Rattle.mp4_box.proofs.HeaderLemmas.{IsBytes-drop}
use Rattle.mp4_box.proofs.TreeLemmas.{boxes_more, boxes_end, over-end}
use Rattle.mp4_run_order.proofs.ListLemmas.{Each, Pairs, each_weaker, each_filter, pairs_filter}

-- the box is found in the bytes x, which begin at the offset o, so many bytes after the first
pub record FoundIn (o : ℕ) (x : List ℕ) (b : Box) : Type 0 where
  pub at : ℕ
  pub place : b.offset ≡ o + at
  pub here : box_at (o + at) (drop at x) ≡ Some b
  pub low : 8 ≤ box_len b
  pub within : at + box_len b ≤ length x

-- b begins where a ends, or later
abbrev pub IsBoxAfter : Box → Box → Type 0
IsBoxAfter a b = a.offset + box_len a ≤ b.offset

record Rest (o : ℕ) (x : List ℕ) (k : ℕ) (bs : List Box) : Type 0 where
  pub found : Each (FoundIn o x) bs
  pub from : Each (λ b. o + k ≤ b.offset) bs
  pub rise : Pairs IsBoxAfter bs

pub none_left : (o : ℕ) (x : List ℕ) → length x ≡ 0 → boxes o x ≡ []
none_left o x e = over-end (λ b. b ∷ []) (λ _ _. []) x o e

no_rest : (o : ℕ) (x : List ℕ) (k : ℕ) → Rest o x k []
no_rest o x k = record { found = tt; from = tt; rise = tt }

rest_found : (o : ℕ) (x : List ℕ) → IsBytes x → (fuel k : ℕ) → length x ≤ k + fuel → Rest o x k (boxes (o + k) (drop k x))
rest_found o x fits zero k e = subst (Rest o x k) (sym (none_left (o + k) (drop k x) (omega (arith, e, length-drop k x)))) (no_rest o x k)
rest_found o x fits (suc fuel) k e =
    let y : List ℕ = drop k x in
    elim (option_is (box_at (o + k) y)) [
      | inl none ↦ subst (Rest o x k) (sym (boxes_end (o + k) y none)) (no_rest o x k)
      | inr some ↦
          let b = some.0 in
          let s = lies_at (o + k) y b (IsBytes-drop k x fits) some.1 in
          let next : ℕ = k + box_len b in
          let r = rest_found o x fits fuel next (omega (arith, e, s.low)) in
          let more : boxes (o + k) y ≡ b ∷ boxes (o + next) (drop next x) =
          boxes_more (o + k) y b some.1 s.low s.high
          ∙ ap (λ (z : List ℕ). b ∷ boxes (o + k + box_len b) z) (drop-drop (box_len b) k x)
          ∙ ap (λ (m : ℕ). b ∷ boxes m (drop next x)) (omega arith) in
          let len = length-drop k x in
          let low = s.low in
          let high = s.high in
          let place = s.place in
          let first : FoundIn o x b = record { at = k; place = place; here = some.1; low = low; within = omega arith } in
          let after = each_weaker (λ c. o + next ≤ c.offset) (IsBoxAfter b) (λ c h. omega arith) (boxes (o + next) (drop next x)) r.from in
          let later = each_weaker (λ c. o + next ≤ c.offset) (λ c. o + k ≤ c.offset) (λ c h. omega arith) (boxes (o + next) (drop next x)) r.from in
          subst (Rest o x k) (sym more) (record { found = (first, r.found); from = (omega arith, later); rise = (after, r.rise) })
    ]

all_found : (o : ℕ) (x : List ℕ) → IsBytes x → Rest o x 0 (boxes o x)
all_found o x fits =
    let none : o + 0 ≡ o = omega arith in
    subst (λ (p : ℕ). Rest o x 0 (boxes p x)) none (rest_found o x fits (length x) 0 (omega arith))

pub boxes_found : (o : ℕ) (x : List ℕ) → IsBytes x → Each (FoundIn o x) (boxes o x)
boxes_found o x fits = (all_found o x fits).found

pub boxes_rise : (o : ℕ) (x : List ℕ) → IsBytes x → Pairs IsBoxAfter (boxes o x)
boxes_rise o x fits = (all_found o x fits).rise

pub kind_found : (P : Box → Type 0) (kind : FourCc) (bs : List Box) → Each P bs → Each P (of_kind kind bs)
kind_found P kind bs h = each_filter (λ b. bytes_eq b.header.kind.0 kind.0) P bs h

pub kind_rise : (kind : FourCc) (bs : List Box) → Pairs IsBoxAfter bs → Pairs IsBoxAfter (of_kind kind bs)
kind_rise kind bs h = pairs_filter (λ b. bytes_eq b.header.kind.0 kind.0) IsBoxAfter bs h
