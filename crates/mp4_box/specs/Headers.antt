-- How the header of a box is written (ISO/IEC 14496-12, 4.2), and how it is read.
use Rattle.std.specs.Prelude.{◌≡◌, ◌≢◌, ◌<◌, ◌≤◌, ◌+◌, ◌-◌, ◌^◌, ◌==◌, ◌++◌, ◌⊎◌, ℕ, List, Bool, [], length, slice_index, take, drop, codes, nat_lt, if◌then◌else◌, Option, Some, None, Result, Ok, Err}
use Rattle.std.specs.Str.{bytes_eq}
use Rattle.byteorder.specs.Endian.{big_number, big_bytes}
use Rattle.mp4_box.specs.declared.headers.FourCc.{FourCc}
use Rattle.mp4_box.specs.declared.headers.Header.{Header}
use Rattle.mp4_box.specs.declared.headers.Size.{Size}
use Rattle.mp4_box.specs.declared.headers.Size.TheVariants.{Exact, ToEnd}
use Rattle.mp4_box.specs.declared.headers.Step.{Step}
use Rattle.mp4_box.specs.declared.headers.Step.TheVariants.{More, Whole, BadSize}
use Rattle.mp4_box.specs.declared.rules.Rule.{Rule}
use Rattle.mp4_box.specs.declared.rules.Rule.TheVariants as rules

-- ---- how a header is written

-- the one type whose boxes carry a user type
abbrev pub uuid : List ℕ
uuid = codes "uuid"

-- a box of this type has this user type, or none
abbrev pub HasUser : List ℕ → Option (List ℕ) → Type 0
HasUser kind None = kind ≢ uuid
HasUser kind (Some user) = (kind ≡ uuid) × (length user ≡ 16)

abbrev pub user_bytes : Option (List ℕ) → List ℕ
user_bytes None = []
user_bytes (Some user) = user

-- the three forms of a size, each before a user type or none: 32 bits; the number 1 and, after the type, 64 bits; the number 0
abbrev pub Spells : Size → List ℕ → List ℕ → List ℕ → Type 0
Spells (Exact s) kind user x =
    ((x ≡ big_bytes 4 s ++ kind ++ user) × (length x ≤ s) × (s < 2 ^ 32))
    ⊎ ((x ≡ big_bytes 4 1 ++ kind ++ big_bytes 8 s ++ user) × (length x ≤ s) × (s < 2 ^ 64))
Spells ToEnd kind user x = x ≡ big_bytes 4 0 ++ kind ++ user

-- the bytes x are this header
pub record Head (h : Header) (x : List ℕ) : Type 0 where
  pub kind : length h.kind.0 ≡ 4
  pub user : HasUser h.kind.0 h.user
  pub spelled : Spells h.size h.kind.0 (user_bytes h.user) x
  pub header_len : h.header_len ≡ length x

-- a front of the bytes x is this header
abbrev pub BeginsWith : Header → List ℕ → Type 0
BeginsWith h x = (n : ℕ) × Head h (take n x)

-- bytes that begin with a header
pub record Headed (y : List ℕ) : Type 0 where
  pub header : Header
  pub header_bytes : List ℕ
  pub more : List ℕ
  pub spelled : Head header header_bytes
  pub cut : y ≡ header_bytes ++ more

-- the bytes x are one whole box of stated size with this header and this payload
pub record IsBox (h : Header) (payload x : List ℕ) : Type 0 where
  pub header_bytes : List ℕ
  pub spelled : Head h header_bytes
  pub whole : x ≡ header_bytes ++ payload
  pub size : h.size ≡ Exact (length x)

abbrev pub IsWhole : List ℕ → Type 0
IsWhole x = (h : Header) × (payload : List ℕ) × IsBox h payload x

-- ---- how it is read

-- each number is below 256
abbrev pub IsBytes : List ℕ → Type 0
IsBytes x = (i : ℕ) → slice_index x i < 256

abbrev pub size_field : List ℕ → ℕ
size_field x = big_number 4 x

abbrev pub kind_field : List ℕ → List ℕ
kind_field x = take 4 (drop 4 x)

abbrev pub is_long : List ℕ → Bool
is_long x = size_field x == 1

abbrev pub has_user : List ℕ → Bool
has_user x = bytes_eq (kind_field x) uuid

-- the length of the header that these bytes begin: 8 until there are eight bytes
abbrev pub need : List ℕ → ℕ
need x = if nat_lt (length x) 8 then 8 else 8 + (if is_long x then 8 else 0) + (if has_user x then 16 else 0)

abbrev pub user_field : List ℕ → Option (List ℕ)
user_field x = if has_user x then Some (take 16 (drop (need x - 16) x)) else None

abbrev pub stated_size : List ℕ → ℕ
stated_size x = if is_long x then big_number 8 (drop 8 x) else size_field x

abbrev pub with_size : List ℕ → Size → Header
with_size x size = record { kind = record { 0 = kind_field x }; user = user_field x; size = size; header_len = need x }

-- the header of eight bytes
abbrev pub plain_header : List ℕ → Header
plain_header x = record { kind = record { 0 = kind_field x }; user = None; size = Exact (size_field x); header_len = 8 }

-- result of reading the first bytes of a box
unfoldable pub header_at : List ℕ → Step
header_at x =
    if nat_lt (length x) (need x) then More
    else if size_field x == 0 then Whole (with_size x ToEnd)
    else if nat_lt (stated_size x) (need x) then BadSize
    else Whole (with_size x (Exact (stated_size x)))

-- the same as the result of a reader of slices
abbrev pub result_of : Step → Result Header Rule
result_of More = Err rules.Truncated
result_of (Whole h) = Ok h
result_of BadSize = Err rules.BadSize

-- a fact of the header, if it is whole
abbrev pub IfWhole : Step → (Header → Type 0) → Type 0
IfWhole More P = Unit {0}
IfWhole (Whole h) P = P h
IfWhole BadSize P = Unit {0}

-- a stated size has room for the header
abbrev pub HasRoom : Size → ℕ → Type 0
HasRoom (Exact s) n = n ≤ s
HasRoom ToEnd n = Unit {0}

-- the type in the first bytes of a box, if they have it
abbrev pub kind_of : List ℕ → Option FourCc
kind_of x = if nat_lt (length x) 8 then None else Some (record { 0 = kind_field x })
