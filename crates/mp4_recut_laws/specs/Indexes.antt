-- When a segment index, sidx (ISO/IEC 14496-12, 8.16.3), is true of the pieces that it is written for.
use Rattle.std.specs.Prelude.{◌≡◌, ◌<◌, ◌^◌, ℕ, pos, ◌+◌, List, [], ◌∷◌, length, map, drop}
use Rattle.std.specs.List.{AllByRecursion, sum_by}
use Rattle.mp4_init.specs.declared.table.Track.{Track}
use Rattle.mp4_traf.specs.CompositionTimes.{least_of}
use Rattle.mp4_traf.specs.declared.run.Run.{Run}
use Rattle.mp4_pieces.specs.declared.cut.Cut.{Cut}
use Rattle.mp4_pieces.specs.declared.piece.Piece.{Piece}
use Rattle.mp4_pieces.specs.Groups.{groups}
use Rattle.mp4_pieces.specs.Pieces.{pieces_of}
use Rattle.mp4_cut.specs.Indexes.{Reference, index_in}
use Rattle.mp4_grammar.specs.Contexts.{Context}
use Rattle.mp4_grammar.specs.Joined.{Item, Movie, MovieFragment, PassedOver, context_after, bytes_of, fragment_in}
use Rattle.mp4_grammar.specs.Joined as items
use Rattle.mp4_grammar.specs.Meanings.{Fragment, runs_in}
use Rattle.mp4_recut.specs.Splitting.{splitting, timescale_of}
use Rattle.mp4_recut_laws.specs.PieceItems.{PieceWithMedia, piece_item, piece_samples, piece_with_media}
use Rattle.mp4_recut_laws.specs.RecutItems.{index_as_box}
use Rattle.mp4_recut_laws.specs.MediaSamples.{MediaSample}
use Rattle.mp4_recut_laws.specs.Streams.{Ending, NothingMore, OpenBox, OpenFragment}

-- ---- true indexes

-- requirements of references to these pieces: of each how many bytes its moof and mdat have, and the sum of the durations of its samples
abbrev pub references_of : ℕ → List PieceWithMedia → List Reference
references_of number [] = []
references_of number (q ∷ qs) =
    record { size = length (bytes_of (piece_item q.written number q.media)); duration = sum_by (λ (s : MediaSample). s.duration) (piece_samples q); access = 0 } ∷ references_of (number + 1) qs

-- the samples of the first of these pieces
abbrev pub first_samples : List PieceWithMedia → List MediaSample
first_samples [] = []
first_samples (q ∷ qs) = piece_samples q

-- the payload p of a sidx is true of the pieces qs, which directly follow it: their sizes and durations,
-- the least composition time of the first, the track and its timescale. It refers to media alone
pub record IsIndexOf (id scale number : ℕ) (p : List ℕ) (qs : List PieceWithMedia) : Type 0 where
  pub version : (index_in p).version ≡ 1
  pub flags : (index_in p).flags ≡ 0
  pub track : (index_in p).track ≡ id
  pub timescale : (index_in p).timescale ≡ scale
  pub earliest : pos (index_in p).earliest ≡ least_of (map (λ (s : MediaSample). s.composition) (first_samples qs))
  pub offset : (index_in p).first_offset ≡ 0
  pub reserved : (index_in p).reserved ≡ 0
  pub references : (index_in p).references ≡ references_of number qs
  pub media : AllByRecursion (λ (r : Reference). r.size < 2 ^ 31) (references_of number qs)

-- ---- the indexes of a recut text

module _ (cut : Cut) (moof_bytes : List ℕ) (start : ℕ) (payload : List ℕ) where
  -- the index of each group of pieces is true of the group
  abbrev pub GroupsAreIndexed : Run → (timescale number : ℕ) → List (List Piece) → Type 0
  GroupsAreIndexed run timescale number [] = Unit {0}
  GroupsAreIndexed run timescale number (g ∷ gs) =
      IsIndexOf run.track timescale number (drop 8 (index_as_box run timescale g).bytes) (map (piece_with_media moof_bytes start payload run) g) × GroupsAreIndexed run timescale (number + length g) gs

  -- the same for the indexes of all these runs
  abbrev pub RunsAreIndexed : List Track → ℕ → List Run → Type 0
  RunsAreIndexed tracks number [] = Unit {0}
  RunsAreIndexed tracks number (run ∷ runs) =
      GroupsAreIndexed run (timescale_of tracks run.track) number (groups (pieces_of cut moof_bytes run)) × RunsAreIndexed tracks (number + length (pieces_of cut moof_bytes run)) runs

-- the same for the indexes of a recut fragment
abbrev pub FragmentIsIndexed : Cut → Fragment → List ℕ → Type 0
FragmentIsIndexed cut f payload = RunsAreIndexed cut f.moof.bytes f.payload.start payload f.tracks f.number (runs_in f)

-- the same for those of an item
abbrev pub ItemIsIndexed : Cut → Context → Item → Type 0
ItemIsIndexed cut c (PassedOver b) = Unit {0}
ItemIsIndexed cut c (Movie b) = Unit {0}
ItemIsIndexed cut c (MovieFragment moof mdat) = FragmentIsIndexed cut (fragment_in c moof mdat) (drop mdat.header.header_len mdat.bytes)

-- the same for those of items, one after the other
abbrev pub ItemsAreIndexed : Cut → Context → List Item → Type 0
ItemsAreIndexed cut c [] = Unit {0}
ItemsAreIndexed cut c (i ∷ is) = ItemIsIndexed cut c i × ItemsAreIndexed cut (context_after (splitting cut) c i) is

-- the same for those of an ending
abbrev pub EndingIsIndexed : Cut → Context → Ending → Type 0
EndingIsIndexed cut c NothingMore = Unit {0}
EndingIsIndexed cut c (OpenBox h header_bytes more) = Unit {0}
EndingIsIndexed cut c (OpenFragment moof h header_bytes more) = FragmentIsIndexed cut (items.fragment_here c moof.bytes h) more
