-- Only the code's own way; no public clause needs this.
-- A call that begins to recut the fragment of the pending moof, by the result.
use Rattle.std.specs.Prelude.{◌≡◌, ℕ, ◌+◌, ◌*◌, ◌≤◌, List, [], length, Some, Result, Ok, Err}
use Rattle.mp4_box.specs.declared.headers.Header.{Header}
use Rattle.mp4_frag.specs.Moofs.{moof_samples}
use Rattle.mp4_ledger.specs.Memory.{given_back}
use Rattle.mp4_pieces.specs.declared.cut.Cut.{Cut}
use Rattle.mp4_machine.specs.Bodies.{least_end, longest}
use Rattle.mp4_machine.specs.Inputs.{GoesOn, environment}
use Rattle.mp4_machine.specs.Steps.{StopsIn}
use Rattle.mp4_machine.specs.declared.stop.Stop.{Stop}
use Rattle.mp4_grammar.specs.Contexts.{context}
use Rattle.mp4_grammar.specs.Items.{with_runs}
use Rattle.mp4_grammar.specs.Meanings.{Fragment, needed_in}
use Rattle.mp4_recut.specs.Media.{media_position}
use Rattle.mp4_recut.specs.Splitting.{splitting}
use Rattle.mp4_recut.specs.declared.media.Media.{Media}
use Rattle.mp4_recut.specs.declared.operation.Operation.TheVariants as operations
use Rattle.mp4_fragment_machine.specs.Places.{InMdatHeader, Place, continuation_at}
use Rattle.mp4_fragment_machine.specs.States.{HasStopped, IsCounted, bound_after}
use Rattle.mp4_fragment_machine.specs.Implementation.Media.{AreBegun}
use Rattle.mp4_fragment_machine.specs.Implementation.Recuts.{in_media}
use Rattle.mp4_fragment_machine.specs.Implementation.Steps.{Borrowed, GoesTo}
use Rattle.mp4_fragment_machine.specs.declared.mdat.accept_recut.Split.{Split}
use Rattle.mp4_fragment_machine.specs.declared.counter.Counter.{Counter}
use Rattle.mp4_fragment_machine.specs.declared.state.Carried.{Carried}
use Rattle.mp4_fragment_machine.specs.declared.state.State.{State}
use Rattle.mp4_fragment_machine.specs.declared.pending_moof.PendingMoof.{PendingMoof}

-- before the mdat, with these bytes of its header
abbrev pub in_mdat_header : Fragment → PendingMoof → List ℕ → Place
in_mdat_header f w header_bytes = InMdatHeader (context w.moof.at (Some f.tracks) f.number) f.tracks w.moof.bytes header_bytes

-- within the mdat, with its media begun: the next output fragment has this number
abbrev pub in_begun : Cut → Fragment → PendingMoof → Header → ℕ → Media → Place
in_begun cut f w h number m = in_media cut f (media_position cut f.moof f.tracks f.payload.start number m) (w.moof.at + length w.moof.bytes) h (with_runs (context w.moof.at (Some f.tracks) f.number) f.tracks w.moof.bytes) h.size

-- the fragment that was begun, after so many output fragments
pub record IsSplit (cut : Cut) (f : Fragment) (n : ℕ) (s : Split) : Type 0 where
  pub begun : AreBegun cut f s.pending_moof n s.media
  pub needed : s.needed ≡ needed_in f

-- it was begun: the mdat is accepted, and its samples are counted
pub record HasSplit (cut : Cut) (f : Fragment) (pending_moof : PendingMoof) (h : Header) (header_bytes : List ℕ) (l : Borrowed) (old new : Counter) (s : Split) : Type 0 where
  pub goes : GoesOn (environment l.written l.waiting l.account old.tally) (environment l.written' l.waiting' l.account' new.tally) (continuation_at (splitting cut) (in_mdat_header f pending_moof header_bytes)) [] (continuation_at (splitting cut) (in_begun cut f s.pending_moof h (new.tally.fragments + 1) s.media))
  pub unfailed : l.failed' ≡ l.failed
  pub ledger : l.account' ≡ l.account
  pub same : s.pending_moof ≡ pending_moof
  pub split : IsSplit cut f new.tally.fragments s
  pub near : least_end (pending_moof.moof.at + length pending_moof.moof.bytes) h h.size ≤ longest
  pub counted : IsCounted (operations.Split cut) old (pending_moof.moof.at + pending_moof.moof.size) (moof_samples f.moof) (moof_samples f.moof) → IsCounted (operations.Split cut) new (bound_after (pending_moof.moof.at + pending_moof.moof.size) h.size) 0 (moof_samples f.moof)

-- the machine stops: the moof and its list were given back, and the track table is still claimed
pub record StopsAtMdat (cut : Cut) (f : Fragment) (pending_moof : PendingMoof) (header_bytes : List ℕ) (l : Borrowed) (old new : Counter) (e : Stop) : Type 0 where
  pub step : StopsIn (record { before = environment l.written l.waiting l.account old.tally; after = environment l.written' l.waiting' (given_back l.account' (64 * length f.tracks)) new.tally; failed = l.failed; failed' = l.failed' }) (continuation_at (splitting cut) (in_mdat_header f pending_moof header_bytes)) [] e
  pub left : 64 * length f.tracks ≤ l.account'.live
  pub counted : IsCounted (operations.Split cut) old (pending_moof.moof.at + pending_moof.moof.size) (moof_samples f.moof) (moof_samples f.moof) → HasStopped (operations.Split cut) new

-- one or the other, by the result
abbrev pub BeginsSplit : Cut → Fragment → PendingMoof → Header → List ℕ → Borrowed → (old new : Counter) → Result Split Stop → Type 0
BeginsSplit cut f pending_moof h header_bytes l old new (Ok s) = HasSplit cut f pending_moof h header_bytes l old new s
BeginsSplit cut f pending_moof h header_bytes l old new (Err e) = StopsAtMdat cut f pending_moof header_bytes l old new e

-- state after the header of the mdat, whose media were begun
abbrev pub EntersMedia : Cut → Fragment → Header → Split → Borrowed → (old new : Carried) → State → Type 0
EntersMedia cut f h split l old new s = IsSplit cut f old.counter.tally.fragments split → GoesTo l old new (in_begun cut f split.pending_moof h (old.counter.tally.fragments + 1) split.media) [] s
