-- Whole boxes of stated size that break no rule, one after the other.
use Rattle.std.specs.Prelude.{◌≡◌, ℕ, ◌+◌, ◌≤◌, List, [], ◌∷◌, ◌++◌, length, Option, Some, None}
use Rattle.mp4_box.specs.Headers.{IsBox}
use Rattle.mp4_box.specs.Trees.{tree_faults}
use Rattle.mp4_box.specs.declared.headers.Header.{Header}
use Rattle.mp4_boxes.specs.Buffering.{held_lines, most_held}
use Rattle.mp4_boxes.specs.Listing.{box_line}
use Rattle.mp4_machine.specs.Readings.{Effects, no_effects, says, requests_memory, both}

-- bytes with the header that they begin with
pub record Item : Type 0 where
  pub header : Header
  pub bytes : List ℕ

-- a box that is held is no larger than it may be, and its tree is sound
abbrev pub IsAllowed : ℕ → List ℕ → Option ℕ → Type 0
IsAllowed at x None = Unit {0}
IsAllowed at x (Some limit) = (length x ≤ limit) × (tree_faults at x ≡ [])

-- these are whole boxes that break no rule at their places, from an offset on
abbrev pub AreSound : ℕ → List Item → Type 0
AreSound at [] = Unit {0}
AreSound at (b ∷ bs) = ((payload : List ℕ) × IsBox b.header payload b.bytes) × IsAllowed at b.bytes (most_held b.header.kind.0) × AreSound (at + length b.bytes) bs

abbrev pub joined : List Item → List ℕ
joined [] = []
joined (b ∷ bs) = b.bytes ++ joined bs

-- effects of a box, by whether it is held
abbrev pub box_effects : ℕ → Item → Option ℕ → Effects
box_effects at b None = says (box_line at b.header)
box_effects at b (Some limit) = both (requests_memory at (length b.bytes)) (says (held_lines at b.bytes))

-- effects of boxes, one after the other from an offset on
abbrev pub boxes_effects : ℕ → List Item → Effects
boxes_effects at [] = no_effects
boxes_effects at (b ∷ bs) = both (box_effects at b (most_held b.header.kind.0)) (boxes_effects (at + length b.bytes) bs)
