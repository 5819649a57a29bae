-- A box without payload: nothing is at fault with its tree, and its line is all that is listed.
use Rattle.std.specs.Prelude.{if◌then◌else◌}
use Rattle.std.specs.List.{flat_map}
use Rattle.std.proofs.Common.{◌≡◌, ◌∙◌, ℕ, ◌++◌, Bool, true, false, List, [], ◌∷◌, length, slice_range, ap, refl, append-nil, arith}
use Rattle.mp4_box.specs.declared.headers.Header.{Header}
use Rattle.mp4_machine.proofs.HoldingLemmas.{rest-len}
use Rattle.mp4_box.specs.Trees.{Box, bad_below, bad_rest, box_faults, children, deep_below, is_container, over, payload_offset}
use Rattle.mp4_boxes.specs.Listing.{box_line, tree_lines}

abbrev pub empty_box : ℕ → Header → Box
empty_box at h = record { header = h; offset = at; payload = [] }

none_left : (x : List ℕ) → length x ≡ 0 → x ≡ []
none_left [] e = refl
none_left (a ∷ xs) e = absurd (omega (arith, e))

pub no_payload : (n : ℕ) (x : List ℕ) → n ≡ length x → slice_range x n (length x) ≡ []
no_payload n x e = none_left (slice_range x n (length x)) (rest-len n x ∙ omega arith)

either_none : {A : Type 0} (c : Bool) (xs : List A) → xs ≡ [] → (if c then xs else []) ≡ []
either_none true xs e = e
either_none false xs e = refl

pub empty_good : (at : ℕ) (h : Header) → box_faults (empty_box at h) ≡ []
unfolding bad_below deep_below over
empty_good at h =
    let b = empty_box at h in
    rw (either_none (is_container h.kind.0) (over (bad_below 7) bad_rest [] 0 (payload_offset b)) refl) refl

pub empty_lines : (at : ℕ) (h : Header) → tree_lines 7 0 (empty_box at h) ≡ box_line at h
unfolding tree_lines over
empty_lines at h = ap (λ l. box_line at h ++ l) (either_none (is_container h.kind.0) (flat_map (tree_lines 6 1) (children (empty_box at h))) refl) ∙ append-nil (box_line at h)
