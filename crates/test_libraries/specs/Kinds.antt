-- The types of the boxes that the callers read.
use Rattle.std.specs.Prelude.{List, [], ◌∷◌, codes}
use Rattle.mp4_box.specs.declared.headers.FourCc.{FourCc}

abbrev pub traf : FourCc
traf = record { 0 = codes "traf" }

abbrev pub trun : FourCc
trun = record { 0 = codes "trun" }

-- from a moof to its runs
abbrev pub to_trun : List FourCc
to_trun = traf ∷ trun ∷ []
