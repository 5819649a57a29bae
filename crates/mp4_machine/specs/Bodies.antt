-- The body of a box, whose bytes have effects as they come: some of its bytes, from the first on, have these.
use Rattle.std.specs.Prelude.{◌≡◌, ℕ, ◌+◌, ◌-◌, ◌<◌, ◌≤◌, ◌^◌, List, length, take, drop, nat_lt, if◌then◌else◌, Option, Some}
use Rattle.mp4_box.specs.declared.headers.FourCc.{FourCc}
use Rattle.mp4_box.specs.declared.headers.Header.{Header}
use Rattle.mp4_box.specs.declared.headers.Size.{Size}
use Rattle.mp4_box.specs.declared.headers.Size.TheVariants.{Exact, ToEnd}
use Rattle.mp4_box.specs.declared.rules.Fault.{Fault}
use Rattle.mp4_box.specs.declared.rules.Rule.{Rule}
use Rattle.mp4_box.specs.declared.rules.Rule.TheVariants.{Truncated, StreamTooLong}
use Rattle.mp4_machine.specs.declared.body.AnyBody.{AnyBody}
use Rattle.mp4_machine.specs.declared.body.AnyBody.TheVariants as bodies
use Rattle.mp4_machine.specs.declared.body.Body.{Body}
use Rattle.mp4_machine.specs.declared.body.Extent.{Extent}
use Rattle.mp4_machine.specs.declared.body.Extent.TheVariants as extents
use Rattle.mp4_machine.specs.Readings.{Effects, no_effects, Sound, Faulty, CutOff, Reading, FirstItem, Last, Whole}

-- no stream is followed further than this
abbrev pub longest : ℕ
longest = 2 ^ 62

abbrev pub fault : Rule → Option FourCc → ℕ → Fault
fault rule kind at = record { rule = rule; kind = kind; offset = at }

-- no effects, and the box at `at` breaks a rule
abbrev pub at_fault : Rule → Option FourCc → ℕ → Reading
at_fault rule kind at = record { effects = no_effects; outcome = Faulty (fault rule kind at) }

-- the box is cut off there
abbrev pub cut_off : Rule → Option FourCc → ℕ → Reading
cut_off rule kind at = record { effects = no_effects; outcome = CutOff (fault rule kind at) }

-- the least offset at which a box at `at` ends
abbrev pub least_end : ℕ → Header → Size → ℕ
least_end at h (Exact s) = at + s
least_end at h ToEnd = at + h.header_len

-- body of the box at `at`, `left` bytes of which are to come, followed by items in the context `next`
abbrev pub body_item : {C : Type 0} → (List ℕ → Effects) → ℕ → FourCc → C → ℕ → List ℕ → FirstItem C
body_item emit at kind next left bytes =
    if nat_lt (length bytes) left then Last (record { effects = emit bytes; outcome = CutOff (fault Truncated (Some kind) at) })
    else Whole (emit (take left bytes)) next (drop left bytes)

-- body that goes to the end of the stream: at least `needed` and at most `left` bytes must come
abbrev pub open_body_item : {C : Type 0} → (List ℕ → Effects) → ℕ → FourCc → (needed left : ℕ) → List ℕ → FirstItem C
open_body_item emit at kind needed left bytes =
    if nat_lt left (length bytes) then Last (record { effects = emit (take left bytes); outcome = Faulty (fault StreamTooLong (Some kind) at) })
    else if nat_lt (length bytes) needed then Last (record { effects = emit bytes; outcome = CutOff (fault Truncated (Some kind) at) })
    else Last (record { effects = emit bytes; outcome = Sound })

-- ---- how far a body goes

-- where it ends, or the farthest that it may go
abbrev pub latest_end : Extent → ℕ
latest_end (extents.Sized next) = next
latest_end (extents.Open needed) = longest

-- the same after so many bytes
abbrev pub extent_after : ℕ → Extent → Extent
extent_after n (extents.Sized next) = extents.Sized next
extent_after n (extents.Open needed) = extents.Open (needed - n)

abbrev pub after_bytes : ℕ → Body → Body
after_bytes n b = record { at = b.at; kind = b.kind; left = b.left - n; extent = extent_after n b.extent }

-- it goes to the end of the stream
abbrev pub IsOpen : Extent → Type 0
IsOpen (extents.Sized next) = ⊥
IsOpen (extents.Open needed) = Unit {0}

-- it isn't over where so much is left
abbrev pub HasMore : ℕ → Extent → Type 0
HasMore left (extents.Sized next) = 0 < left
HasMore left (extents.Open needed) = Unit {0}

-- the stream may not end within it
abbrev pub IsShort : Extent → Type 0
IsShort (extents.Sized next) = Unit {0}
IsShort (extents.Open needed) = 0 < needed

-- so much of a body is left, and it isn't over
pub record IsLeft (left : ℕ) (e : Extent) : Type 0 where
  pub within : left ≤ latest_end e
  pub near : latest_end e ≤ longest
  pub more : HasMore left e

-- ---- the body after a header

-- how far it goes, by the stated size; if to the end of the stream, so many bytes of it are needed
abbrev pub extent_of : (at needed : ℕ) → Size → Extent
extent_of at needed (Exact s) = extents.Sized (at + s)
extent_of at needed ToEnd = extents.Open needed

-- how many bytes of it are to come
abbrev pub left_of : ℕ → Header → Size → ℕ
left_of at h (Exact s) = s - h.header_len
left_of at h ToEnd = longest - (at + h.header_len)

-- there are some, or may be
abbrev pub HasBytes : ℕ → Header → Size → Type 0
HasBytes at h (Exact s) = (h.header_len < s) × (at + s ≤ longest)
HasBytes at h ToEnd = at + h.header_len ≤ longest

-- the body after the header of a box at `at`
abbrev pub IsBodyOf : ℕ → Header → ℕ → AnyBody → Type 0
IsBodyOf at h needed (bodies.Empty next) = (size : ℕ) × (h.size ≡ Exact size) × (size ≡ h.header_len) × (next ≡ at + size) × (next ≤ longest)
IsBodyOf at h needed (bodies.Bytes b) = (b ≡ record { at = at; kind = h.kind; left = left_of at h h.size; extent = extent_of at needed h.size }) × HasBytes at h h.size
