-- A piece of the recut text as an item of a stream that is read (ISO/IEC 14496-12, 8.8.4 and 8.1.1).
-- It is the moof that is written for its samples, and the mdat with their media.
use Rattle.std.specs.Prelude.{◌≡◌, ℕ, ◌+◌, ◌<◌, ◌≤◌, ◌^◌, List, [], ◌∷◌, ◌++◌, length, map, pos, Some, true}
use Rattle.mp4_init.specs.declared.table.Track.{Track}
use Rattle.mp4_traf.specs.declared.run.Run.{Run}
use Rattle.mp4_traf.specs.Rows.{rows_of, sizes}
use Rattle.mp4_pieces.specs.declared.cut.Cut.{Cut}
use Rattle.mp4_pieces.specs.declared.piece.Piece.{Piece}
use Rattle.mp4_pieces.specs.Fitting.{cut_for, fits}
use Rattle.mp4_pieces.specs.Pieces.{pieces_of}
use Rattle.mp4_pieces.specs.Rooms.{moof}
use Rattle.mp4_pieces.specs.Sizes.{mdat_header_size, moof_size}
use Rattle.mp4_cut.specs.Mdat.{mdat, mdat_header}
use Rattle.mp4_cut.specs.Moof.{written_fragment, moof_box}
use Rattle.mp4_cut.specs.Moof.{WrittenFragment as Written}
use Rattle.mp4_cut.specs.Reads.{CanBeRead, header_of}
use Rattle.mp4_grammar.specs.Contexts.{Context}
use Rattle.mp4_grammar.specs.Joined.{IsSound, Item, MovieFragment, OneBox, context_after, bytes_of}
use Rattle.mp4_grammar.specs.Meanings.{Fragment}
use Rattle.mp4_recut.specs.Splitting.{splitting}
use Rattle.mp4_recut.specs.Texts.{item_text, media_of}
use Rattle.mp4_recut_laws.specs.MediaSamples.{MediaSample, media_samples_from}

-- ---- one piece

-- the moof that is written for some samples, with its sequence_number
abbrev pub moof_as_box : Written → ℕ → OneBox
moof_as_box f number = record { header = header_of moof (moof_size (length f.rows)) 8; bytes = moof_box f number }

-- the mdat that is written for their media
abbrev pub mdat_as_box : List ℕ → OneBox
mdat_as_box media = record {
  header = header_of mdat (mdat_header_size (length media) + length media) (mdat_header_size (length media));
  bytes = mdat_header (length media) ++ media;
}

-- the two as one item of a stream
abbrev pub piece_item : Written → ℕ → List ℕ → Item
piece_item f number media = MovieFragment (moof_as_box f number) (mdat_as_box media)

-- these samples with these media are one piece of the cut, and their track is one of the tracks
pub record IsOnePiece (cut : Cut) (tracks : List Track) (f : Written) (media : List ℕ) : Type 0 where
  pub can : CanBeRead tracks f
  pub some : 0 < length f.rows
  pub fits : fits (cut_for can.track.timescale cut) f.rows ≡ true
  pub all : length media ≡ sizes f.rows
  pub small : length media ≤ 2 ^ 62

-- the fragment is one piece of the cut: it has the number of this context, and its track is one of the tracks
pub record IsPieceHere (cut : Cut) (c : Context) (i : Item) (f : Fragment) : Type 0 where
  pub known : c.tracks ≡ Some f.tracks
  pub small : c.number < 2 ^ 32
  pub written : Written
  pub media : List ℕ
  pub one : IsOnePiece cut f.tracks written media
  pub item : i ≡ piece_item written c.number media

-- the item breaks no rule, its recut text is its own bytes, and the next item begins in this context
pub record IsOwnRecut (cut : Cut) (c : Context) (i : Item) (next : Context) : Type 0 where
  pub sound : IsSound (splitting cut) c i
  pub text : item_text cut c i ≡ bytes_of i
  pub after : context_after (splitting cut) c i ≡ next

-- ---- pieces, one after the other

-- a track without the time at which it ends
abbrev pub without_end : Track → Track
without_end t = record t { next = 0 }

-- tracks without the times at which they end
abbrev pub without_ends : List Track → List Track
without_ends ts = map without_end ts

-- the samples of a piece as they are written, with the bytes of their media
pub record PieceWithMedia : Type 0 where
  pub written : Written
  pub media : List ℕ

-- pieces as items, numbered on from this number
abbrev pub pieces_items : ℕ → List PieceWithMedia → List Item
pieces_items number [] = []
pieces_items number (q ∷ qs) = piece_item q.written number q.media ∷ pieces_items (number + 1) qs

-- the samples of a piece, each with its bytes
abbrev pub piece_samples : PieceWithMedia → List MediaSample
piece_samples q = media_samples_from q.written.track q.written.entry q.written.rows q.written.time q.media

-- ---- the pieces of a run

-- a piece of a run with its media. `moof_bytes` are the bytes of the moof, and `payload` is that of its mdat, which begins at the stream offset `start`
abbrev pub piece_with_media : List ℕ → ℕ → List ℕ → Run → Piece → PieceWithMedia
piece_with_media moof_bytes start payload run p = record { written = written_fragment moof_bytes run p; media = media_of start payload p }

-- all pieces of a run with their media
abbrev pub pieces_with_media : Cut → List ℕ → ℕ → List ℕ → Run → List PieceWithMedia
pieces_with_media cut moof_bytes start payload run = map (piece_with_media moof_bytes start payload run) (pieces_of cut moof_bytes run)

-- the bytes of a run lie in the payload that begins at the stream offset `start`
pub record LiesIn (start : ℕ) (payload moof_bytes : List ℕ) (run : Run) : Type 0 where
  pub at : ℕ
  pub place : run.place ≡ pos at
  pub from : start ≤ at
  pub to : at + sizes (rows_of run moof_bytes) ≤ start + length payload
