-- The recut text of a stream as items: each piece is a moof with its mdat, each index a sidx, and other boxes are kept or left out.
use Rattle.std.specs.Prelude.{◌≡◌, ℕ, ◌+◌, List, [], ◌∷◌, ◌++◌, length, map, drop, Bool, true, false, Some}
use Rattle.mp4_init.specs.declared.table.Track.{Track}
use Rattle.mp4_traf.specs.declared.run.Run.{Run}
use Rattle.mp4_pieces.specs.declared.cut.Cut.{Cut}
use Rattle.mp4_pieces.specs.declared.piece.Piece.{Piece}
use Rattle.mp4_pieces.specs.Groups.{groups}
use Rattle.mp4_pieces.specs.Pieces.{pieces_of}
use Rattle.mp4_cut.specs.Reads.{header_of}
use Rattle.mp4_cut.specs.Sidx.{sidx, sidx_payload, written_index}
use Rattle.mp4_grammar.specs.Contexts.{Context, context}
use Rattle.mp4_grammar.specs.Joined.{AreSound, Item, Movie, MovieFragment, OneBox, PassedOver, context_after, context_after_all, fragment_in, joined}
use Rattle.mp4_grammar.specs.Meanings.{Fragment, runs_in}
use Rattle.mp4_recut.specs.Splitting.{is_dropped, splitting, timescale_of}
use Rattle.mp4_recut.specs.Texts.{items_text}
use Rattle.mp4_recut_laws.specs.MediaSamples.{MediaSample, items_samples}
use Rattle.mp4_recut_laws.specs.EachFragment.{EachFragment}
use Rattle.mp4_recut_laws.specs.PieceItems.{IsPieceHere, piece_with_media, pieces_items, without_ends}

-- the same cut without an index
abbrev pub without_index : Cut → Cut
without_index cut = record cut { index = false }

-- ---- a fragment

-- the index that is written for a group of pieces
abbrev pub index_as_box : Run → ℕ → List Piece → OneBox
index_as_box run timescale group = record { header = header_of sidx (8 + length (sidx_payload run.track timescale group)) 8; bytes = written_index run timescale group }

-- the same as an item, where an index is asked for
abbrev pub index_items : Bool → Run → ℕ → List Piece → List Item
index_items true run timescale group = PassedOver (index_as_box run timescale group) ∷ []
index_items false run timescale group = []

module _ (cut : Cut) (moof_bytes : List ℕ) (start : ℕ) (payload : List ℕ) where
  -- groups of pieces: each is its index and then its pieces
  abbrev pub groups_items : Run → (timescale number : ℕ) → List (List Piece) → List Item
  groups_items run timescale number [] = []
  groups_items run timescale number (g ∷ gs) =
      index_items cut.index run timescale g ++ (pieces_items number (map (piece_with_media moof_bytes start payload run) g) ++ groups_items run timescale (number + length g) gs)

  -- runs, one after the other
  abbrev pub runs_items : List Track → ℕ → List Run → List Item
  runs_items tracks number [] = []
  runs_items tracks number (run ∷ runs) =
      groups_items run (timescale_of tracks run.track) number (groups (pieces_of cut moof_bytes run)) ++ runs_items tracks (number + length (pieces_of cut moof_bytes run)) runs

-- a fragment, its runs in the order in which they are taken
abbrev pub fragment_items : Cut → Fragment → List ℕ → List Item
fragment_items cut f payload = runs_items cut f.moof.bytes f.payload.start payload f.tracks f.number (runs_in f)

-- ---- a stream

-- a box that is left out or kept
abbrev pub copied_items : Bool → OneBox → List Item
copied_items true b = []
copied_items false b = PassedOver b ∷ []

-- the recut text of an item, as items
abbrev pub item_recut : Cut → Context → Item → List Item
item_recut cut c (PassedOver b) = copied_items (is_dropped b.header.kind.0) b
item_recut cut c (Movie b) = Movie b ∷ []
item_recut cut c (MovieFragment moof mdat) = fragment_items cut (fragment_in c moof mdat) (drop mdat.header.header_len mdat.bytes)

-- the recut text of items, as items
abbrev pub items_recut : Cut → Context → List Item → List Item
items_recut cut c [] = []
items_recut cut c (i ∷ is) = item_recut cut c i ++ items_recut cut (context_after (splitting cut) c i) is

-- ---- the recut text of items

-- in this context the items break no rule, and each fragment among them is one piece of the cut. Their recut text is
-- `out`, of `count` fragments, and these are their samples. After them only the times at which the tracks end differ
pub record AreRecutHere (cut : Cut) (at number : ℕ) (tracks : List Track) (is : List Item) (out : List ℕ) (count : ℕ) (samples : List MediaSample) : Type 0 where
  pub sound : AreSound (splitting cut) (context at (Some tracks) number) is
  pub text : items_text cut (context at (Some tracks) number) is ≡ out
  pub ended : List Track
  pub after : context_after_all (splitting cut) (context at (Some tracks) number) is ≡ context (at + length (joined is)) (Some ended) (number + count)
  pub same_tracks : without_ends ended ≡ without_ends tracks
  pub same : items_samples cut (context at (Some tracks) number) is ≡ samples
  pub pieces : EachFragment (IsPieceHere cut) cut (context at (Some tracks) number) is

-- the same at each stream offset, and wherever the tracks ended before
abbrev pub AreRecutAnywhere : Cut → ℕ → List Track → List Item → List ℕ → ℕ → List MediaSample → Type 0
AreRecutAnywhere cut number tracks is out count samples = (at : ℕ) (us : List Track) → without_ends us ≡ without_ends tracks → AreRecutHere cut at number us is out count samples
