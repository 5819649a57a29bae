-- Where an index (ISO/IEC 14496-12, 8.16.3) has room for the earliest time of each piece of a stream.
-- Where pieces share an index, only the first of a group needs it.
use Rattle.std.specs.Prelude.{ℕ, ◌+◌, ◌<◌, ◌^◌, List, [], ◌∷◌, length}
use Rattle.std.specs.List.{AllByRecursion}
use Rattle.mp4_traf.specs.CompositionTimes.{composition_times, least_of}
use Rattle.mp4_traf.specs.declared.run.Run.{Run}
use Rattle.mp4_pieces.specs.declared.cut.Cut.{Cut}
use Rattle.mp4_pieces.specs.declared.piece.Piece.{Piece}
use Rattle.mp4_pieces.specs.Fits.{FitsTime}
use Rattle.mp4_pieces.specs.Pieces.{pieces_of}
use Rattle.mp4_pieces.specs.Sizes.{mdat_header_size, moof_size}
use Rattle.mp4_traf.specs.Rows.{durations, sizes}
use Rattle.mp4_cut.specs.Moof.{WrittenFragment as Written}
use Rattle.mp4_grammar.specs.Contexts.{Context}
use Rattle.mp4_grammar.specs.Joined.{Item, Movie, MovieFragment, PassedOver, context_after, fragment_in}
use Rattle.mp4_grammar.specs.Joined as items
use Rattle.mp4_grammar.specs.Meanings.{Fragment, runs_in}
use Rattle.mp4_recut.specs.Splitting.{splitting}
use Rattle.mp4_recut_laws.specs.Streams.{Ending, NothingMore, OpenBox, OpenFragment}

-- an index has room for one piece alone: its moof and mdat have less than 2^31 bytes, and its duration has 32 bits.
-- The least composition time of its samples is not negative and has 64 bits
pub record FitsOwnIndex (f : Written) : Type 0 where
  pub size : moof_size (length f.rows) + (mdat_header_size (sizes f.rows) + sizes f.rows) < 2 ^ 31
  pub duration : durations f.rows < 2 ^ 32
  pub time : FitsTime (least_of (composition_times f.time f.rows))

-- the least composition time of each piece of a run is not negative and has 64 bits
abbrev pub RunTimesFit : Cut → List ℕ → Run → Type 0
RunTimesFit cut moof_bytes run = AllByRecursion (λ (p : Piece). FitsTime p.least) (pieces_of cut moof_bytes run)

-- the same for each run of a fragment
abbrev pub FragmentTimesFit : Cut → Fragment → Type 0
FragmentTimesFit cut f = AllByRecursion (RunTimesFit cut f.moof.bytes) (runs_in f)

-- the same for an item
abbrev pub ItemTimesFit : Cut → Context → Item → Type 0
ItemTimesFit cut c (PassedOver b) = Unit {0}
ItemTimesFit cut c (Movie b) = Unit {0}
ItemTimesFit cut c (MovieFragment moof mdat) = FragmentTimesFit cut (fragment_in c moof mdat)

-- the same for items, one after the other
abbrev pub ItemsTimesFit : Cut → Context → List Item → Type 0
ItemsTimesFit cut c [] = Unit {0}
ItemsTimesFit cut c (i ∷ is) = ItemTimesFit cut c i × ItemsTimesFit cut (context_after (splitting cut) c i) is

-- the same for an ending
abbrev pub EndingTimesFit : Cut → Context → Ending → Type 0
EndingTimesFit cut c NothingMore = Unit {0}
EndingTimesFit cut c (OpenBox h header_bytes more) = Unit {0}
EndingTimesFit cut c (OpenFragment moof h header_bytes more) = FragmentTimesFit cut (items.fragment_here c moof.bytes h)
