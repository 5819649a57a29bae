-- Track fragments without a base time of their own, after others of their track.
use Rattle.std.specs.Prelude.{ℕ, Bool, true, false, List, [], ◌∷◌, ◌++◌, ◌==◌, ◌&&◌, if◌then◌else◌, take, drop}
use Rattle.std.specs.Option.{is_none}
use Rattle.mp4_box.specs.declared.rules.Fault.{Fault}
use Rattle.mp4_box.specs.declared.rules.Rule.TheVariants.{Unsupported}
use Rattle.mp4_box.specs.Trees.{Box, children, first_of}
use Rattle.mp4_box.specs.Paths.{of_kind, at_path}
use Rattle.mp4_traf.specs.Fields.{payload_of}
use Rattle.mp4_traf.specs.Kinds.{traf, tfhd, tfdt}
use Rattle.mp4_traf.specs.Tfhd.{track_id}
use Rattle.mp4_traf.specs.Rules.{fault_if}

-- track_ID of its tfhd
unfoldable pub traf_id : Box → ℕ
traf_id t = track_id (payload_of (first_of (at_path (tfhd ∷ []) t)))

-- it has no tfdt
unfoldable pub lacks_time : Box → Bool
lacks_time t = is_none (first_of (at_path (tfdt ∷ []) t))

-- one of these has the track_ID
unfoldable pub is_listed : ℕ → List Box → Bool
is_listed id [] = false
is_listed id (t ∷ ts) = if traf_id t == id then true else is_listed id ts

-- it has no tfdt though one of these, which are listed earlier, has its track_ID
abbrev pub is_repeat : List Box → Box → Bool
is_repeat earlier t = lacks_time t && is_listed (traf_id t) earlier

-- the trafs of which this holds, after these
unfoldable pub repeats : List Box → List Box → List Fault
repeats earlier [] = []
repeats earlier (t ∷ ts) = fault_if (is_repeat earlier t) Unsupported t ++ repeats (earlier ++ t ∷ []) ts

abbrev pub trafs_of : Box → List Box
trafs_of m = of_kind traf (children m)

-- those among the first n children
abbrev pub trafs_before : ℕ → Box → List Box
trafs_before n m = of_kind traf (take n (children m))

-- those after the first n children
abbrev pub trafs_after : ℕ → Box → List Box
trafs_after n m = of_kind traf (drop n (children m))

abbrev pub repeat_faults : Box → List Fault
repeat_faults m = repeats [] (trafs_of m)

-- the track_IDs of those that have no tfdt
unfoldable pub untimed_ids : List Box → List ℕ
untimed_ids [] = []
untimed_ids (t ∷ ts) = if lacks_time t then traf_id t ∷ untimed_ids ts else untimed_ids ts
