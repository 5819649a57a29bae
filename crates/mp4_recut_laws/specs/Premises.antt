-- What the laws require of the items of a stream in addition to breaking no rule, and what an item and its recut text have in common.
use Rattle.std.specs.Prelude.{◌≡◌, ◌⊎◌, ℕ, ◌+◌, ◌≤◌, ◌^◌, List, [], ◌∷◌, length, None, option_map}
use Rattle.std.specs.List.{AllByRecursion}
use Rattle.mp4_box.specs.Headers.{IsBytes}
use Rattle.mp4_init.specs.Moovs.{moov_fault, moov_tracks}
use Rattle.mp4_init.specs.declared.table.Track.{Track}
use Rattle.mp4_traf.specs.declared.run.Run.{Run}
use Rattle.mp4_traf.specs.Rows.{rows_of}
use Rattle.mp4_pieces.specs.declared.cut.Cut.{Cut}
use Rattle.mp4_traf.specs.Ranges.{IsRunOf}
use Rattle.mp4_cut.specs.Reads.{FitsTrack, IsSoundRun}
use Rattle.mp4_grammar.specs.Contexts.{Context, first_context}
use Rattle.mp4_grammar.specs.Joined.{AreSound, Item, Movie, MovieFragment, PassedOver, context_after, context_after_all, joined, tracks_in}
use Rattle.mp4_recut.specs.Splitting.{splitting}
use Rattle.mp4_recut.specs.Texts.{items_text}
use Rattle.mp4_recut_laws.specs.MediaSamples.{items_samples}
use Rattle.mp4_recut_laws.specs.EachFragment.{EachFragment}
use Rattle.mp4_recut_laws.specs.PieceItems.{IsPieceHere, LiesIn, without_ends}
use Rattle.mp4_recut_laws.specs.RecutItems.{without_index}

-- ---- premises

-- a run of a moof that was read, which has no samples or lies in the payload
pub record IsRunIn (tracks : List Track) (start : ℕ) (payload moof_bytes : List ℕ) (run : Run) : Type 0 where
  pub sound : IsSoundRun tracks moof_bytes run
  pub of : IsRunOf moof_bytes run
  pub lies : (rows_of run moof_bytes ≡ []) ⊎ LiesIn start payload moof_bytes run

-- a moov is good at each stream offset, with the same tracks. A fragment is of bytes and ends by offset 2^62,
-- the fields of its tracks fit, and its number is at most 2^32
abbrev pub CanBeRecut : Context → Item → Type 0
CanBeRecut c (PassedOver b) = Unit {0}
CanBeRecut c (Movie b) = (at : ℕ) → (moov_fault at b.bytes ≡ None) × (without_ends (moov_tracks at b.bytes) ≡ without_ends (moov_tracks c.at b.bytes))
CanBeRecut c (MovieFragment moof mdat) = IsBytes moof.bytes × (c.at + length moof.bytes + length mdat.bytes ≤ 2 ^ 62) × AllByRecursion FitsTrack (tracks_in c) × (c.number ≤ 2 ^ 32)

-- the same for all of these items, one after the other
abbrev pub CanAllBeRecut : Cut → Context → List Item → Type 0
CanAllBeRecut cut c [] = Unit {0}
CanAllBeRecut cut c (i ∷ is) = CanBeRecut c i × CanAllBeRecut cut (context_after (splitting cut) c i) is

-- whole items from the first byte of a stream on: they are bytes, break no rule, and end by offset 2^62
pub record AreFirstItems (cut : Cut) (is : List Item) : Type 0 where
  pub sound : AreSound (splitting cut) first_context is
  pub bytes : IsBytes (joined is)
  pub near : length (joined is) ≤ 2 ^ 62

-- ---- what they have in common

-- contexts that differ only in the stream offset and in the times at which the tracks end
pub record SameButEnds (c d : Context) : Type 0 where
  pub number : d.number ≡ c.number
  pub tracks : option_map without_ends d.tracks ≡ option_map without_ends c.tracks

-- items and those of their recut text, each list in its context. The latter break no rule, and each of their fragments is one piece.
-- Without an index they have the same recut text and the same samples
pub record RecutAgrees (cut : Cut) (c d : Context) (is now : List Item) : Type 0 where
  pub sound : AreSound (splitting (without_index cut)) d now
  pub text : items_text (without_index cut) d now ≡ items_text (without_index cut) c is
  pub same : items_samples (without_index cut) d now ≡ items_samples cut c is
  pub pieces : EachFragment (IsPieceHere (without_index cut)) (without_index cut) d now
  pub same_tracks : SameButEnds (context_after_all (splitting cut) c is) (context_after_all (splitting (without_index cut)) d now)
