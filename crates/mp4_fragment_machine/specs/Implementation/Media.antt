-- Only the code's own way; no public clause needs this.
-- Calls that begin the media of the pending moof, or take some of them, by the result.
use Rattle.std.specs.Prelude.{◌≡◌, ℕ, ◌+◌, ◌≤◌, ◌^◌, true, List, [], length, min, take, Some, Result, Ok, Err}
use Rattle.mp4_init.specs.declared.table.Track.{Track}
use Rattle.mp4_pieces.specs.declared.cut.Cut.{Cut}
use Rattle.mp4_machine.specs.Blocks.{Pending}
use Rattle.mp4_machine.specs.Ends.{Sent}
use Rattle.mp4_machine.specs.declared.tally.Tally.{Tally}
use Rattle.mp4_grammar.specs.Meanings.{Fragment}
use Rattle.mp4_recut.specs.Cursors.{fragments_left}
use Rattle.mp4_recut.specs.Media.{Copied, FailsToCopy, HasCopied, Outputs, Rises, WriteFailedIn, media_position}
use Rattle.mp4_recut.specs.OutputFragments.{output_of}
use Rattle.mp4_recut.specs.Splitting.{output_fragments, splitting}
use Rattle.mp4_recut.specs.declared.media.Media.{Media}
use Rattle.mp4_fragment_machine.specs.States.{AreMediaOf, moof_in}
use Rattle.mp4_fragment_machine.specs.Implementation.Recuts.{first_position, with_fragments, with_samples}
use Rattle.mp4_fragment_machine.specs.declared.pending_moof.PendingMoof.{PendingMoof}

-- ---- beginning them

-- the samples of a fragment were counted, and fragments of the output: the next has a number of 32 bits
pub record CountsSamples (f : Fragment) (t t' : Tally) : Type 0 where
  pub tally : t' ≡ with_samples f t t'.fragments
  pub few : t'.fragments + 1 ≤ 2 ^ 32

-- the media of a fragment before their first byte, after so many output fragments
pub record AreBegun (cut : Cut) (f : Fragment) (pending_moof : PendingMoof) (n : ℕ) (m : Media) : Type 0 where
  pub media : AreMediaOf cut f.tracks pending_moof (n + 1) m
  pub rises : (end : ℕ) → f.payload.end ≡ Some end → Rises end (media_position cut f.moof f.tracks f.payload.start (n + 1) m)
  pub numbers : n + 1 + length (fragments_left cut f.moof f.tracks (n + 1) m.later) ≡ (splitting cut).numbered f

-- everything was written that needs no media yet
pub record HasBegun (cut : Cut) (f : Fragment) (pending_moof : PendingMoof) (s : Sent) (v w : Pending) (t t' : Tally) (new : Media) : Type 0 where
  pub outputs : Outputs s.written s.written' v w t.fragments t'.fragments (first_position cut f) [] (media_position cut f.moof f.tracks f.payload.start (t'.fragments + 1) new)
  pub begun : AreBegun cut f pending_moof t'.fragments new
  pub unfailed : s.failed' ≡ s.failed
  pub counted : CountsSamples f t t'

-- a write failed
pub record FailsToBegin (cut : Cut) (f : Fragment) (s : Sent) (v w : Pending) (t t' : Tally) : Type 0 where
  pub cut_short : (bytes : List ℕ) → WriteFailedIn s.written s.written' v w t.fragments t'.fragments (output_of f.payload.start (output_fragments cut f) bytes)
  pub failed : s.failed' ≡ true
  pub counted : CountsSamples f t t'

-- one or the other, by the result
abbrev pub BeginsMedia : {E : Type 0} → Cut → Fragment → PendingMoof → Sent → (v w : Pending) → (t t' : Tally) → Result Media E → Type 0
BeginsMedia cut f pending_moof s v w t t' (Ok new) = HasBegun cut f pending_moof s v w t t' new
BeginsMedia cut f pending_moof s v w t t' (Err e) = FailsToBegin cut f s v w t t'

-- ---- taking bytes of them

-- only fragments were counted, and the next has a number of 32 bits
pub record CountsFragments (t t' : Tally) : Type 0 where
  pub tally : t' ≡ with_fragments t t'.fragments
  pub few : t'.fragments + 1 ≤ 2 ^ 32

-- of `left` bytes that begin at an offset, those in the input were taken
pub record HasTaken (cut : Cut) (tracks : List Track) (pending_moof : PendingMoof) (s : Sent) (v w : Pending) (t t' : Tally) (at left : ℕ) (old : Media) (input : List ℕ) (new : Copied) : Type 0 where
  pub count : new.count ≡ min left (length input)
  pub copy_taken : HasCopied cut (moof_in pending_moof) tracks s v w t.fragments t'.fragments at (at + new.count) old (take new.count input) new.media
  pub media : AreMediaOf cut tracks pending_moof (t'.fragments + 1) new.media
  pub counted : CountsFragments t t'

-- a write failed
pub record FailsToTake (cut : Cut) (tracks : List Track) (pending_moof : PendingMoof) (s : Sent) (v w : Pending) (t t' : Tally) (at left : ℕ) (old : Media) (input : List ℕ) : Type 0 where
  pub uncopied : FailsToCopy cut (moof_in pending_moof) tracks s v w t.fragments t'.fragments at old (take (min left (length input)) input)
  pub counted : CountsFragments t t'

-- one or the other, by the result
abbrev pub TakesMedia : {E : Type 0} → Cut → List Track → PendingMoof → Sent → (v w : Pending) → (t t' : Tally) → (at left : ℕ) → Media → List ℕ → Result Copied E → Type 0
TakesMedia cut tracks pending_moof s v w t t' at left old input (Ok new) = HasTaken cut tracks pending_moof s v w t t' at left old input new
TakesMedia cut tracks pending_moof s v w t t' at left old input (Err e) = FailsToTake cut tracks pending_moof s v w t t' at left old input
