-- How boxes are written: each with a short header, and a full box with its version and its flags (ISO/IEC 14496-12, 4.2).
use Rattle.std.specs.Prelude.{ℕ, List, ◌∷◌, ◌+◌, ◌++◌, length}
use Rattle.byteorder.specs.Endian.{big_bytes}
use Rattle.mp4_box.specs.declared.headers.FourCc.{FourCc}

-- a box: its size in 32 bits, its type and its payload
abbrev pub box_bytes : FourCc → List ℕ → List ℕ
box_bytes kind payload = big_bytes 4 (8 + length payload) ++ (kind.0 ++ payload)

-- what the payload of a full box begins with
abbrev pub version_and_flags : ℕ → ℕ → List ℕ
version_and_flags version flags = version ∷ big_bytes 3 flags
