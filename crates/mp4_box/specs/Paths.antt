-- The boxes on a path below a box.
use Rattle.std.specs.Prelude.{List, [], ◌∷◌, ◌++◌, filter, Option, option_map, option_to_list}
use Rattle.std.specs.List.{flat_map}
use Rattle.std.specs.Str.{bytes_eq}
use Rattle.mp4_box.specs.declared.box_ref.BoxRef.{BoxRef}
use Rattle.mp4_box.specs.declared.headers.FourCc.{FourCc}
use Rattle.mp4_box.specs.Trees.{Box, children, view}

-- the boxes of this type among these
abbrev pub of_kind : FourCc → List Box → List Box
of_kind kind bs = filter (λ b. bytes_eq b.header.kind.0 kind.0) bs

-- the boxes that a path of types leads to from the box, in the order in which they lie
unfoldable pub at_path : List FourCc → Box → List Box
at_path [] b = b ∷ []
at_path (kind ∷ path) b = flat_map (at_path path) (of_kind kind (children b))

-- the boxes that the rest of a path leads to from each of these
abbrev pub paths_below : List FourCc → List Box → List Box
paths_below path bs = flat_map (at_path path) bs

-- the boxes that are left on a path, from the boxes that are left at each level: the deepest come first
unfoldable pub left_on : List FourCc → List (List Box) → List Box
left_on path [] = []
left_on [] (bs ∷ levels) = []
left_on (kind ∷ path) (bs ∷ levels) = left_on path levels ++ paths_below path (of_kind kind bs)

-- the one box, where there is one
abbrev pub seen_of : Option BoxRef → List Box
seen_of this = option_to_list (option_map view this)
