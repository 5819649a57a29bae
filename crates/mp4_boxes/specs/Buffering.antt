-- Boxes that are held while they come: moov and moof (ISO/IEC 14496-12, 8.2.1 and 8.8.4).
use Rattle.std.specs.Prelude.{ℕ, List, [], codes, if◌then◌else◌, Option, Some, None}
use Rattle.std.specs.Str.{bytes_eq}
use Rattle.mp4_box.specs.Trees.{Box, box_at}
use Rattle.mp4_grammar.specs.Kinds.{most_moof, most_moov}
use Rattle.mp4_boxes.specs.Listing.{tree_lines}

-- the most bytes that a box of a type that is held may have
unfoldable pub most_held : List ℕ → Option ℕ
most_held kind = if bytes_eq kind (codes "moov") then Some most_moov else if bytes_eq kind (codes "moof") then Some most_moof else None

abbrev pub lines_of : Option Box → List ℕ
lines_of None = []
lines_of (Some b) = tree_lines 7 0 b

-- the lines of the box that these bytes are, and of the boxes below it
abbrev pub held_lines : ℕ → List ℕ → List ℕ
held_lines at x = lines_of (box_at at x)
