-- The record in which a piece is listed: each of its numbers, by what is written of the piece.
use Rattle.std.specs.Prelude.{◌≡◌, ℕ, List, length, Some, drop, take}
use Rattle.mp4_init.specs.declared.table.Track.{Track}
use Rattle.mp4_traf.specs.Rows.{durations}
use Rattle.mp4_traf.specs.Runs.{known_track}
use Rattle.mp4_pieces.specs.declared.cut.Cut.{Cut}
use Rattle.mp4_cut.specs.Moof.{WrittenFragment}
use Rattle.mp4_grammar.specs.Contexts.{Context}
use Rattle.mp4_grammar.specs.Joined.{Item, bytes_of}
use Rattle.mp4_grammar.specs.LinesByRows.{first_is_sync}
use Rattle.mp4_grammar.specs.Meanings.{Fragment}
use Rattle.mp4_grammar.specs.Presented.{earliest_in, syncs_in}
use Rattle.mp4_grammar.specs.TrafRecords.{record_bytes, record_with}
use Rattle.mp4_grammar.specs.declared.command.Command.TheVariants.{Records}
use Rattle.mp4_grammar.specs.declared.listed_traf.ListedTraf.{ListedTraf}
use Rattle.mp4_grammar.specs.declared.traf_record.TrafRecord.{TrafRecord}
use Rattle.mp4_recut_laws.specs.Listings.{item_listing}
use Rattle.mp4_recut_laws.specs.MediaSamples.{item_samples}
use Rattle.mp4_recut_laws.specs.PieceItems.{IsPieceHere, piece_item, piece_samples}

-- the traf of a piece as it is listed. The moof of the piece begins at the stream offset `at` and has this number; these
-- are the tracks before it, each with the time at which it ended. Times are ticks of the track of the piece
abbrev pub piece_traf : List Track → (at number : ℕ) → WrittenFragment → (media : List ℕ) → ListedTraf
piece_traf tracks at number f media = record {
  sequence = number;
  at = at;
  size = Some (length (bytes_of (piece_item f number media)));
  track = f.track;
  time = f.time;
  duration = durations f.rows;
  samples = length f.rows;
  sync = first_is_sync f.rows;
  media = length media;
  presented = record { earliest = earliest_in f.rows; syncs = syncs_in f.rows };
  ended = (known_track f.track tracks).next;
}

-- its record: the same as numbers, and the timescale, the handler and the entry_count of its track
abbrev pub piece_record : List Track → (at number : ℕ) → WrittenFragment → (media : List ℕ) → TrafRecord
piece_record tracks at number f media = record_with (known_track f.track tracks) (piece_traf tracks at number f media)

-- the fragment is one piece of the cut, with the samples of the piece, and it has one record, which is that of the piece
pub record IsOneRecord (cut : Cut) (c : Context) (i : Item) (f : Fragment) : Type 0 where
  pub piece : IsPieceHere cut c i f
  pub samples : item_samples c i ≡ piece_samples (record { written = piece.written; media = piece.media })
  pub text : item_listing Records c i ≡ record_bytes (piece_record f.tracks c.at c.number piece.written piece.media)

-- the bytes of the item are in this text at the offset of the context. A record has that offset as `at`, and how many
-- they are as `size`
abbrev pub LiesThere : List ℕ → Context → Item → Fragment → Type 0
LiesThere text c i f = take (length (bytes_of i)) (drop c.at text) ≡ bytes_of i
