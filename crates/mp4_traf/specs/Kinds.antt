-- The types of the boxes that are read in a moof, and the paths that lead to them (ISO/IEC 14496-12, 8.8.4 to 8.8.8 and 8.8.12).
use Rattle.std.specs.Prelude.{Bool, List, [], ◌∷◌, codes}
use Rattle.std.specs.Str.{bytes_eq}
use Rattle.mp4_box.specs.declared.headers.FourCc.{FourCc}
use Rattle.mp4_box.specs.Trees.{Box}
use Rattle.mp4_init.specs.Kinds.{kind}

abbrev pub mfhd : FourCc
mfhd = kind (codes "mfhd")

abbrev pub traf : FourCc
traf = kind (codes "traf")

abbrev pub tfhd : FourCc
tfhd = kind (codes "tfhd")

abbrev pub tfdt : FourCc
tfdt = kind (codes "tfdt")

abbrev pub trun : FourCc
trun = kind (codes "trun")

abbrev pub free : FourCc
free = kind (codes "free")

abbrev pub skip : FourCc
skip = kind (codes "skip")

-- from a moof to the header of each track fragment
abbrev pub to_tfhd : List FourCc
to_tfhd = traf ∷ tfhd ∷ []

-- from a moof to the base time of each track fragment
abbrev pub to_tfdt : List FourCc
to_tfdt = traf ∷ tfdt ∷ []

-- from a moof to its runs, in listing order
abbrev pub to_trun : List FourCc
to_trun = traf ∷ trun ∷ []

-- the box is of this type
abbrev pub is_kind : FourCc → Box → Bool
is_kind kind b = bytes_eq b.header.kind.0 kind.0
