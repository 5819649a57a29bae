-- The boxes that lie in a payload, and what is at fault below a box (ISO/IEC 14496-12, 4.2).
use Rattle.std.specs.Prelude.{◌+◌, ◌-◌, ◌++◌, ℕ, zero, suc, List, [], ◌∷◌, Bool, length, slice_range, codes, nat_lt, if◌then◌else◌, Option, Some, None, Result, Ok, Err}
use Rattle.std.specs.Str.{bytes_eq}
use Rattle.std.specs.List.{list_any}
use Rattle.mp4_box.specs.declared.headers.Header.{Header}
use Rattle.mp4_box.specs.declared.headers.Size.{Size}
use Rattle.mp4_box.specs.declared.headers.Size.TheVariants.{Exact, ToEnd}
use Rattle.mp4_box.specs.declared.headers.Step.{Step}
use Rattle.mp4_box.specs.declared.headers.Step.TheVariants as steps
use Rattle.mp4_box.specs.declared.rules.Fault.{Fault}
use Rattle.mp4_box.specs.declared.rules.Rule.{Rule}
use Rattle.mp4_box.specs.declared.rules.Rule.TheVariants.{BadSize, Depth}
use Rattle.mp4_box.specs.declared.box_ref.BoxRef.{BoxRef}
use Rattle.mp4_box.specs.Headers.{header_at, kind_of}

-- ---- boxes

-- a box of stated size: its header, the offset of its first byte, and its payload
pub record Box : Type 0 where
  pub header : Header
  pub offset : ℕ
  pub payload : List ℕ

-- a box that is held, without where it lies in memory
abbrev pub view : BoxRef → Box
view b = record { header = b.header; offset = b.offset; payload = b.payload.now }

abbrev pub box_len : Box → ℕ
box_len b = b.header.header_len + length b.payload

abbrev pub payload_offset : Box → ℕ
payload_offset b = b.offset + b.header.header_len

-- the types of the boxes that hold boxes
unfoldable pub is_container : List ℕ → Bool
is_container kind = list_any (λ (k : List ℕ). bytes_eq kind k) (codes "moov" ∷ codes "trak" ∷ codes "edts" ∷ codes "mdia" ∷ codes "minf" ∷ codes "dinf" ∷ codes "stbl" ∷ codes "mvex" ∷ codes "moof" ∷ codes "traf" ∷ [])

-- ---- the boxes of a payload

-- the box with this header at the front of the bytes x, which begin at an offset, if they have all of it
abbrev pub sized_box : ℕ → List ℕ → Header → Size → Option Box
sized_box o x h (Exact s) = if nat_lt (length x) s then None else Some (record { header = h; offset = o; payload = slice_range x h.header_len s })
sized_box o x h ToEnd = None

abbrev pub box_by : ℕ → List ℕ → Step → Option Box
box_by o x (steps.Whole h) = sized_box o x h h.size
box_by o x steps.More = None
box_by o x steps.BadSize = None

-- the whole box of stated size at the front of the bytes
unfoldable pub box_at : ℕ → List ℕ → Option Box
box_at o x = box_by o x (header_at x)

abbrev pub box_then : {R : Type 0} → Option Box → (Box → List R) → List R → (ℕ → List R) → List R
box_then None f stop go = stop
box_then (Some b) f stop go = f b ++ go (box_len b - 1)

-- the join of f of each box in the bytes, one after the other, and g of the rest without a box; `skip` bytes are passed over first
unfoldable pub over : {R : Type 0} → (Box → List R) → (ℕ → List ℕ → List R) → List ℕ → ℕ → ℕ → List R
over f g [] skip o = []
over f g (a ∷ xs) zero o = box_then (box_at o (a ∷ xs)) f (g o (a ∷ xs)) (λ k. over f g xs k (o + 1))
over f g (a ∷ xs) (suc k) o = over f g xs k (o + 1)

-- the boxes that lie in the bytes one after the other
abbrev pub boxes : ℕ → List ℕ → List Box
boxes o x = over (λ b. b ∷ []) (λ _ _. []) x 0 o

-- the boxes of a payload
abbrev pub children : Box → List Box
children b = boxes (payload_offset b) b.payload

-- ---- what is at fault

-- no whole box begins here
abbrev pub bad_size : ℕ → List ℕ → Fault
bad_size o y = record { rule = BadSize; kind = kind_of y; offset = o }

-- a box that breaks a rule
abbrev pub fault_at : Rule → Box → Fault
fault_at rule b = record { rule = rule; kind = Some b.header.kind; offset = b.offset }

-- what a rest without a box adds
abbrev pub bad_rest : ℕ → List ℕ → List Fault
bad_rest o y = bad_size o y ∷ []

abbrev pub no_rest : ℕ → List ℕ → List Fault
no_rest o y = []

-- each rest without a box below the box, in order, as far as so many levels go
unfoldable pub bad_below : ℕ → Box → List Fault
bad_below zero b = []
bad_below (suc levels) b = if is_container b.header.kind.0 then over (bad_below levels) bad_rest b.payload 0 (payload_offset b) else []

-- each box so many levels below the box, in order
unfoldable pub deep_below : ℕ → Box → List Fault
deep_below zero b = fault_at Depth b ∷ []
deep_below (suc levels) b = if is_container b.header.kind.0 then over (deep_below levels) no_rest b.payload 0 (payload_offset b) else []

-- the first of a list
abbrev pub first_of : {A : Type 0} → List A → Option A
first_of [] = None
first_of (x ∷ xs) = Some x

abbrev pub verdict : List Fault → Result (Unit {0}) Fault
verdict [] = Ok tt
verdict (f ∷ fs) = Err f

-- a box at the top may have eight levels with its own
abbrev pub box_faults : Box → List Fault
box_faults b = bad_below 8 b ++ deep_below 8 b

abbrev pub faults_of : Option Box → List Fault
faults_of None = []
faults_of (Some b) = box_faults b

-- what is at fault in the tree of the box that the bytes are: first bad sizes, and then boxes that are too deep
abbrev pub tree_faults : ℕ → List ℕ → List Fault
tree_faults o x = faults_of (box_at o x)
