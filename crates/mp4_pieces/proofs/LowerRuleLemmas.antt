-- Where there is no room the lower rule is reported: that of an index.
use Rattle.std.proofs.Common.{◌≡◌, ◌⊎◌, ℕ, Bool, true, false, cond, List, [], ◌∷◌, ◌++◌, Some, refl, sym, ap, subst, inl, inr}
use Rattle.std.specs.Prelude.{◌&&◌}
use Rattle.std.specs.List.{AllByRecursion, list_any}
use Rattle.mp4_box.specs.Order.{IsIn, comes_first}
use Rattle.mp4_box.specs.declared.rules.Fault.{Fault}
use Rattle.mp4_box.specs.declared.rules.Rule.TheVariants.{IndexRange, SequenceEnd}
use Rattle.mp4_box.proofs.OrderLemmas.{least-is}
use Rattle.mp4_traf.specs.declared.run.Run.{Run}
use Rattle.mp4_traf.specs.Runs.{MoofBytes}
use Rattle.mp4_pieces.specs.declared.cut.Cut.{Cut}
use Rattle.mp4_pieces.specs.Pieces.{piece_count, pieces_of}
use Rattle.mp4_pieces.specs.Rooms.{index_fault, index_faults, index_faults_of, numbers, passes_index, room_fault, room_faults, sequence_faults}

-- it is one of these, or one of those
in_either : (g : Fault) (xs ys : List Fault) → IsIn g (xs ++ ys) → IsIn g xs ⊎ IsIn g ys
unfolding IsIn
in_either g [] ys h = inr h
in_either g (x ∷ xs) ys (inl e) = inl (inl e)
in_either g (x ∷ xs) ys (inr h) = elim (in_either g xs ys h) [ inl a ↦ inl (inr a) | inr b ↦ inr b ]

in_first : (t : Bool) (g x : Fault) → IsIn g (cond t (x ∷ []) []) → g ≡ x
unfolding IsIn
in_first true g x (inl e) = e
in_first true g x (inr h) = absurd h
in_first false g x h = absurd h

-- the faults of indexes are of that rule
of_index : (cut : Cut) (moof_bytes : List ℕ) (runs : List Run) (g : Fault) → IsIn g (index_faults cut moof_bytes runs) → g.rule ≡ IndexRange
unfolding IsIn
of_index cut moof_bytes [] g h = absurd h
of_index cut moof_bytes (run ∷ runs) g h = elim (in_either g (index_faults_of cut moof_bytes run) (index_faults cut moof_bytes runs) h) [
  | inl here ↦ ap (λ (x : Fault). x.rule) (in_first (cut.index && passes_index (pieces_of cut moof_bytes run)) g (index_fault run) here)
  | inr later ↦ of_index cut moof_bytes runs g later
]

-- the fault of the numbers comes after the first
of_number : (offset : ℕ) (ns : List ℕ) (f g : Fault) → f.rule ≡ IndexRange → IsIn g (sequence_faults offset ns) → comes_first f g ≡ true
unfolding comes_first
of_number offset ns f g e h =
    let is : g.rule ≡ SequenceEnd = ap (λ (x : Fault). x.rule) (in_first (list_any _ ns) g _ h) in
    rw (e, is) refl

pub index_first : (cut : Cut) (h : MoofBytes) (runs : List Run) (seq : ℕ) (f g : Fault) (fs : List Fault) → index_faults cut h.bytes runs ≡ f ∷ fs → room_fault cut h runs seq ≡ Some g → g.rule ≡ IndexRange
unfolding room_faults IsIn
index_first cut h runs seq f g fs e is =
    let ns = numbers seq (piece_count cut h.bytes runs) in
    let late = sequence_faults h.offset ns in
    let first : f.rule ≡ IndexRange = of_index cut h.bytes runs f (subst (IsIn f) (sym e) (inl refl)) in
    let l = least-is (room_faults cut h runs seq) g is in
    let all : AllByRecursion (λ x. comes_first x g ≡ false) (f ∷ (fs ++ late)) = subst (λ (xs : List Fault). AllByRecursion (λ x. comes_first x g ≡ false) (xs ++ late)) e l.before in
    elim (in_either g (index_faults cut h.bytes runs) late l.among) [
      | inl index ↦ of_index cut h.bytes runs g index
      | inr number ↦ let early : comes_first f g ≡ true = of_number h.offset ns f g first number in let not = all.0 in absurd cc
    ]
