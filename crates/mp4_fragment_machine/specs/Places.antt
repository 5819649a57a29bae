-- Where a machine is in a fragmented stream, whatever it does with fragments.
use Rattle.std.specs.Prelude.{◌≡◌, ℕ, ◌+◌, ◌-◌, ◌<◌, ◌≤◌, List, [], ◌++◌, length, Bool, Option}
use Rattle.mp4_box.specs.declared.headers.FourCc.{FourCc}
use Rattle.mp4_box.specs.Headers.{need}
use Rattle.mp4_init.specs.declared.table.Track.{Track}
use Rattle.mp4_machine.specs.Blocks.{Pending}
use Rattle.mp4_machine.specs.Ends.{Sent}
use Rattle.mp4_machine.specs.Bodies.{longest, body_item, open_body_item}
use Rattle.mp4_machine.specs.Inputs.{Continuation}
use Rattle.mp4_machine.specs.Readings.{Reading, Effects, no_effects, then_read}
use Rattle.mp4_grammar.specs.Contexts.{Context, table_of}
use Rattle.mp4_grammar.specs.Items.{after_moof, buffered_body, reads_in, with_runs}
use Rattle.mp4_grammar.specs.Meanings.{Meaning}

pub data Place : Type 0 where
  -- in the header of the next box: its bytes so far
  InHeader : (c : Context) (buffered : List ℕ) → Place
  -- in a moov or moof of this size: its bytes so far
  InBuffered : (c : Context) (kind : FourCc) (size : ℕ) (buffered : List ℕ) → Place
  -- after a sound moof with these tracks: the bytes so far of the next header
  InMdatHeader : (c : Context) (tracks : List Track) (moof buffered : List ℕ) → Place
  -- in the body of a box with the effects `emit`: the context after it, how many bytes are to come, and how many are claimed meanwhile
  InBody : (emit : List ℕ → Effects) (at : ℕ) (kind : FourCc) (next : Context) (left own : ℕ) → Place
  -- in a body that goes to the end of the stream: at least `needed` and at most `left` bytes are to come
  InOpenBody : (emit : List ℕ → Effects) (at : ℕ) (kind : FourCc) (needed left own : ℕ) → Place

-- ---- what a place means

-- the offset of the next byte
abbrev pub reached_of : Place → ℕ
reached_of (InHeader c buffered) = c.at + length buffered
reached_of (InBuffered c kind size buffered) = c.at + length buffered
reached_of (InMdatHeader c tracks moof buffered) = c.at + length moof + length buffered
reached_of (InBody emit at kind next left own) = next.at - left
reached_of (InOpenBody emit at kind needed left own) = longest - left

-- how the remaining bytes are read
abbrev pub reads_at : Meaning → Place → List ℕ → Reading
reads_at meaning (InHeader c buffered) bytes = reads_in meaning c (buffered ++ bytes)
reads_at meaning (InBuffered c kind size buffered) bytes = then_read (reads_in meaning) (buffered_body meaning c kind size (buffered ++ bytes))
reads_at meaning (InMdatHeader c tracks moof buffered) bytes = then_read (reads_in meaning) (after_moof meaning c tracks moof (buffered ++ bytes))
reads_at meaning (InBody emit at kind next left own) bytes = then_read (reads_in meaning) (body_item emit at kind next left bytes)
reads_at meaning (InOpenBody emit at kind needed left own) bytes = then_read (reads_in meaning) (open_body_item emit at kind needed left bytes)

-- how many bytes are claimed: the track table, and what is held
abbrev pub claim_of : Place → ℕ
claim_of (InHeader c buffered) = table_of c.tracks
claim_of (InBuffered c kind size buffered) = table_of c.tracks + size
claim_of (InMdatHeader c tracks moof buffered) = with_runs c tracks moof
claim_of (InBody emit at kind next left own) = own
claim_of (InOpenBody emit at kind needed left own) = own

abbrev pub continuation_at : Meaning → Place → Continuation
continuation_at meaning p = record { reached = reached_of p; reads = reads_at meaning p; claim = claim_of p }

-- offsets are at most 2^62, except within a header that crosses it; and no bytes of a body have no effects
abbrev pub IsPlace : Place → Type 0
IsPlace (InHeader c buffered) = (length buffered < need buffered) × (c.at ≤ longest)
IsPlace (InBuffered c kind size buffered) = (length buffered < size) × (c.at + size ≤ longest)
IsPlace (InMdatHeader c tracks moof buffered) = (length buffered < need buffered) × (c.at + length moof ≤ longest)
IsPlace (InBody emit at kind next left own) = (0 < left) × (left ≤ next.at) × (next.at ≤ longest) × (emit [] ≡ no_effects)
IsPlace (InOpenBody emit at kind needed left own) = (left ≤ longest) × (emit [] ≡ no_effects)

-- ---- the environment of a machine

-- a writer and a block that a call doesn't borrow
pub record Untouched : Type 0 where
  pub written : Option (List ℕ)
  pub waiting : Pending
  pub failed : Bool

-- such a writer, unchanged
abbrev pub unsent : Untouched → Sent
unsent u = record { written = u.written; written' = u.written; failed = u.failed; failed' = u.failed }
