-- The kinds of boxes at the top of a fragmented stream (ISO/IEC 14496-12, 8.1.1, 8.2.1 and 8.8.4).
use Rattle.std.specs.Prelude.{ℕ, List, codes, if◌then◌else◌}
use Rattle.std.specs.Str.{bytes_eq}
use Rattle.mp4_box.specs.declared.headers.FourCc.{FourCc}
use Rattle.mp4_grammar.specs.declared.kinds.Kind.{Kind}
use Rattle.mp4_grammar.specs.declared.kinds.Kind.TheVariants.{Moov, Moof, Mdat, Other}

-- the kind of a box of this type
unfoldable pub kind_in : List ℕ → Kind
kind_in kind = if bytes_eq kind (codes "moov") then Moov else if bytes_eq kind (codes "moof") then Moof else if bytes_eq kind (codes "mdat") then Mdat else Other

abbrev pub moof : FourCc
moof = record { 0 = codes "moof" }

-- the most bytes that a moov and a moof may have
abbrev pub most_moov : ℕ
most_moov = 16777216

abbrev pub most_moof : ℕ
most_moof = 67108864
