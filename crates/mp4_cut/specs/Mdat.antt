-- The header of the media data, mdat (ISO/IEC 14496-12, 4.2 and 8.1.1).
use Rattle.std.specs.Prelude.{ℕ, List, ◌+◌, ◌++◌, ◌^◌, codes, nat_lt, if◌then◌else◌}
use Rattle.byteorder.specs.Endian.{big_bytes}
use Rattle.mp4_box.specs.declared.headers.FourCc.{FourCc}
use Rattle.mp4_init.specs.Kinds.{kind}

abbrev pub mdat : FourCc
mdat = kind (codes "mdat")

-- before so many bytes of media: the size in 32 bits and the type; where 32 bits have no room for it, the number 1, the type, and the size in 64 bits
unfoldable pub mdat_header : ℕ → List ℕ
mdat_header bytes =
    if nat_lt (8 + bytes) (2 ^ 32) then big_bytes 4 (8 + bytes) ++ mdat.0
    else big_bytes 4 1 ++ (mdat.0 ++ big_bytes 8 (16 + bytes))
