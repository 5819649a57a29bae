-- Result of reading a moov: its tracks, or its fault.
use Rattle.std.specs.Prelude.{ℕ, List, [], ◌∷◌, ◌++◌, Option, Some, None, Result, Ok, Err}
use Rattle.std.specs.Option.{option_or}
use Rattle.mp4_box.specs.declared.rules.Fault.{Fault}
use Rattle.mp4_box.specs.Order.{least}
use Rattle.mp4_box.specs.Trees.{Box, box_at, tree_faults, verdict}
use Rattle.mp4_init.specs.declared.table.Track.{Track}
use Rattle.mp4_init.specs.Rules.{number_faults, field_faults, sample_faults, track_faults}
use Rattle.mp4_init.specs.Tracks.{tracks_of}

-- faults of the boxes of a moov
unfoldable pub form_faults : Box → List Fault
form_faults moov = number_faults moov ++ field_faults moov

-- faults of the values of a moov whose boxes are as they must be
unfoldable pub value_faults : Box → List Fault
value_faults moov = sample_faults moov ++ track_faults moov

-- fault of the content: values are checked only if the boxes are as they must be
unfoldable pub content_fault : Box → Option Fault
content_fault moov = option_or (least (form_faults moov)) (least (value_faults moov))

-- f of a moov, or a default where the bytes are no box
abbrev pub of_moov : {A : Type 0} → A → (Box → A) → Option Box → A
of_moov other f None = other
of_moov other f (Some moov) = f moov

abbrev pub fault_of : Result (Unit {0}) Fault → Option Fault
fault_of (Ok u) = None
fault_of (Err f) = Some f

-- the fault of the moov that the bytes are, which begin at an offset: that of its tree, or else of its content
abbrev pub moov_fault : ℕ → List ℕ → Option Fault
moov_fault o x = option_or (fault_of (verdict (tree_faults o x))) (of_moov None content_fault (box_at o x))

-- the tracks of the moov that the bytes are
abbrev pub moov_tracks : ℕ → List ℕ → List Track
moov_tracks o x = of_moov [] tracks_of (box_at o x)

-- the first list that has a fault
abbrev pub or_else : List Fault → List Fault → List Fault
or_else [] gs = gs
or_else (f ∷ fs) gs = f ∷ fs

-- all faults of the moov that the bytes are, as far as it is checked: of its tree; else of its boxes; else of their values
abbrev pub moov_faults : ℕ → List ℕ → List Fault
moov_faults o x = or_else (tree_faults o x) (of_moov [] (λ moov. or_else (form_faults moov) (value_faults moov)) (box_at o x))
