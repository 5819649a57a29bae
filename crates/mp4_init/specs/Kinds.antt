-- The types of the boxes that are read in a moov, and the paths that lead to them (ISO/IEC 14496-12, 8.2.1 to 8.8.3).
use Rattle.std.specs.Prelude.{ℕ, List, [], ◌∷◌, codes}
use Rattle.mp4_box.specs.declared.headers.FourCc.{FourCc}

-- the type that is spelled so
abbrev pub kind : List ℕ → FourCc
kind letters = record { 0 = letters }

abbrev pub trak : FourCc
trak = kind (codes "trak")

abbrev pub tkhd : FourCc
tkhd = kind (codes "tkhd")

abbrev pub mdia : FourCc
mdia = kind (codes "mdia")

abbrev pub mdhd : FourCc
mdhd = kind (codes "mdhd")

abbrev pub hdlr : FourCc
hdlr = kind (codes "hdlr")

abbrev pub minf : FourCc
minf = kind (codes "minf")

abbrev pub stbl : FourCc
stbl = kind (codes "stbl")

abbrev pub stsd : FourCc
stsd = kind (codes "stsd")

abbrev pub mvex : FourCc
mvex = kind (codes "mvex")

abbrev pub trex : FourCc
trex = kind (codes "trex")

-- from a moov to the tables of each track
abbrev pub to_stbl : List FourCc
to_stbl = trak ∷ mdia ∷ minf ∷ stbl ∷ []

-- from a moov to the header of each track
abbrev pub to_tkhd : List FourCc
to_tkhd = trak ∷ tkhd ∷ []

-- from a moov to the defaults of the fragments
abbrev pub to_trex : List FourCc
to_trex = mvex ∷ trex ∷ []
