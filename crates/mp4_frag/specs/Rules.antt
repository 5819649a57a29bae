-- The rules of a moof, each with the boxes that it speaks of (ISO/IEC 14496-12, 8.8.4 to 8.8.8 and 8.8.12).
use Rattle.std.specs.Prelude.{ℕ, List, [], ◌∷◌, ◌++◌, ◌+◌, nat_lt, if◌then◌else◌}
use Rattle.mp4_box.specs.declared.rules.Fault.{Fault}
use Rattle.mp4_box.specs.declared.rules.Rule.TheVariants.{TooManySamples}
use Rattle.mp4_box.specs.Trees.{Box, fault_at}
use Rattle.mp4_box.specs.declared.checks.Layout.TheVariants.{Exactly}
use Rattle.mp4_box.specs.Checks.{along, at_most_one, laid_out, one}
use Rattle.mp4_box.specs.Paths.{at_path}
use Rattle.mp4_traf.specs.Kinds.{mfhd, traf, tfhd, tfdt, trun, free, skip, to_tfhd, to_tfdt, to_trun}
use Rattle.mp4_frag.specs.Mfhd.{mfhd_len}
use Rattle.mp4_traf.specs.Tfdt.{tfdt_layout}
use Rattle.mp4_traf.specs.Trun.{sample_count}
use Rattle.mp4_traf.specs.Rules.{tfhd_length, trun_length, holds_only, most_in_moof, samples_in}

-- ---- which boxes there must be, and their lengths

-- boxes that are missing, that occur a second time, or whose version or length is wrong
unfoldable pub form_faults : Box → List Fault
form_faults m =
    along (one mfhd) [] m
    ++ along (one tfhd) (traf ∷ []) m
    ++ along (at_most_one tfdt) (traf ∷ []) m
    ++ along (laid_out (Exactly mfhd_len)) (mfhd ∷ []) m
    ++ along tfhd_length to_tfhd m
    ++ along (laid_out tfdt_layout) to_tfdt m
    ++ along trun_length to_trun m

-- ---- which children there are

-- children of a moof or of a traf that may not be there
unfoldable pub child_faults : Box → List Fault
child_faults m =
    along (holds_only (mfhd ∷ traf ∷ free ∷ skip ∷ [])) [] m
    ++ along (holds_only (tfhd ∷ tfdt ∷ trun ∷ free ∷ skip ∷ [])) (traf ∷ []) m

-- ---- how many samples there are

-- after so many samples, the first of these truns with which there are too many
unfoldable pub too_many : ℕ → List Box → List Fault
too_many n [] = []
too_many n (b ∷ bs) =
    if nat_lt most_in_moof (n + sample_count b.payload) then fault_at TooManySamples b ∷ []
    else too_many (n + sample_count b.payload) bs

-- in the order of the truns of a moof
abbrev pub count_faults : Box → List Fault
count_faults m = too_many 0 (at_path to_trun m)

-- the samples of a moof
abbrev pub samples_of : Box → ℕ
samples_of m = samples_in (at_path to_trun m)
