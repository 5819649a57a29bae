-- Only the code's own way; no public clause needs this.
-- Checks piece by piece that the indexes of a run have room.
use Rattle.std.specs.Prelude.{◌-◌, Bool, ◌||◌, ◌==◌, if◌then◌else◌, List, [], ◌∷◌}
use Rattle.std.specs.List.{list_any}
use Rattle.mp4_pieces.specs.declared.piece.Piece.{Piece}
use Rattle.mp4_pieces.specs.declared.index.IndexCheck.{IndexCheck}
use Rattle.mp4_pieces.specs.Groups.{after_first, groups_from}
use Rattle.mp4_pieces.specs.Rooms.{passes_reference, passes_time}

-- the check after one more piece: where a group begins, its time is checked
unfoldable pub check_past : IndexCheck → Piece → IndexCheck
check_past c p =
    if c.left == 0 then record { left = after_first; passes = c.passes || (passes_time (p ∷ []) || passes_reference p) } else record { left = c.left - 1; passes = c.passes || passes_reference p }

-- result of the check for the pieces that are left
abbrev pub passes_from : IndexCheck → List Piece → Bool
passes_from c ps = c.passes || (list_any passes_time (groups_from c.left ps) || list_any passes_reference ps)
