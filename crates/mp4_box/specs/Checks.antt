-- Requirements of a box: just one child of a type, or at most one; a payload of a layout. Each is a list of faults.
use Rattle.std.specs.Prelude.{ℕ, Bool, true, false, List, [], ◌∷◌, ◌==◌, nat_lt, if◌then◌else◌, length, map, Option, Some, None, option_map, option_to_list}
use Rattle.std.specs.List.{flat_map}
use Rattle.mp4_box.specs.declared.headers.FourCc.{FourCc}
use Rattle.mp4_box.specs.declared.rules.Fault.{Fault}
use Rattle.mp4_box.specs.declared.rules.Rule.{Rule}
use Rattle.mp4_box.specs.declared.rules.Rule.TheVariants.{Missing, Twice, Version, FieldLength}
use Rattle.mp4_box.specs.declared.checks.Layout.{Layout}
use Rattle.mp4_box.specs.declared.checks.Layout.TheVariants.{Versioned, Exactly, AtLeast}
use Rattle.mp4_box.specs.Fields.{version_in}
use Rattle.mp4_box.specs.Paths.{of_kind, at_path}
use Rattle.mp4_box.specs.Trees.{Box, children, fault_at}

-- faults of the boxes on a path
abbrev pub along : (Box → List Fault) → List FourCc → Box → List Fault
along faults path b = flat_map faults (at_path path b)

-- ---- how many children of a type

-- each of these but the first is one too many
abbrev pub further : List Box → List Fault
further [] = []
further (b ∷ bs) = map (fault_at Twice) bs

-- the parent must have just one of them: where there is none the parent is at fault
abbrev pub alone : Box → List Box → List Fault
alone parent [] = fault_at Missing parent ∷ []
alone parent (b ∷ bs) = further (b ∷ bs)

-- the box must have just one child of the type
abbrev pub one : FourCc → Box → List Fault
one kind b = alone b (of_kind kind (children b))

-- the box may have one child of the type
abbrev pub at_most_one : FourCc → Box → List Fault
at_most_one kind b = further (of_kind kind (children b))

-- ---- the layout of a payload

abbrev pub unless : Bool → Rule → Option Rule
unless true rule = None
unless false rule = Some rule

-- the rule that a payload without this layout breaks
unfoldable pub broken : Layout → List ℕ → Option Rule
broken (Versioned short long) x =
    if nat_lt (length x) 4 then Some FieldLength
    else if nat_lt 1 (version_in x) then Some Version
    else unless (length x == (if version_in x == 0 then short else long)) FieldLength
broken (Exactly n) x = unless (length x == n) FieldLength
broken (AtLeast n) x = if nat_lt (length x) n then Some FieldLength else None

-- a box that breaks the rule, where there is one
abbrev pub fault_by : Option Rule → Box → List Fault
fault_by rule b = option_to_list (option_map (λ rule. fault_at rule b) rule)

-- the payload must have this layout
abbrev pub laid_out : Layout → Box → List Fault
laid_out layout b = fault_by (broken layout b.payload) b
