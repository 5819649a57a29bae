-- The trafs of a fragment as records: each is 88 bytes, and each of its numbers begins with the highest byte.
use Rattle.std.specs.Prelude.{ℕ, ◌-◌, ◌^◌, ◌<◌, FitsSigned, List, ◌++◌, drop, Option, Some, None}
use Rattle.std.specs.Int.{cast_signed, cast_unsigned, w64}
use Rattle.std.specs.List.{flat_map}
use Rattle.byteorder.specs.Endian.{big_bytes, big_number}
use Rattle.mp4_frag.specs.Moofs.{moof_trafs}
use Rattle.mp4_init.specs.declared.table.Track.{Track}
use Rattle.mp4_traf.specs.Runs.{TrackFragment, known_track}
use Rattle.mp4_grammar.specs.FragmentLines.{listed_traf}
use Rattle.mp4_grammar.specs.Meanings.{Fragment}
use Rattle.mp4_grammar.specs.Presented.{once_if}
use Rattle.mp4_grammar.specs.declared.listed_traf.ListedTraf.{ListedTraf}
use Rattle.mp4_grammar.specs.declared.traf_record.TrafRecord.{TrafRecord}

-- a size, or the largest number where none is stated
abbrev pub size_or_all : Option ℕ → ℕ
size_or_all (Some size) = size
size_or_all None = 2 ^ 64 - 1

-- the record of a traf of a track
abbrev pub record_with : Track → ListedTraf → TrafRecord
record_with track t = record {
  at = t.at;
  size = size_or_all t.size;
  time = t.time;
  duration = t.duration;
  media = t.media;
  sequence = t.sequence;
  track = t.track;
  timescale = track.timescale;
  samples = t.samples;
  sync = once_if t.sync;
  syncs = t.presented.syncs;
  ended = t.ended;
  earliest = t.presented.earliest;
  handler = track.handler;
  entries = track.entries;
}

-- the record of a traf of a fragment
abbrev pub traf_record : Fragment → TrackFragment → TrafRecord
traf_record f t = record_with (known_track t.shared.header.track f.tracks) (listed_traf f t)

-- ---- their bytes

-- a number in eight bytes, and in four
unfoldable pub in_8 : ℕ → List ℕ
in_8 n = big_bytes 8 n

unfoldable pub in_4 : ℕ → List ℕ
in_4 n = big_bytes 4 n

-- the offset of its moof, and how many bytes moof and mdat have
abbrev pub place_bytes : TrafRecord → List ℕ
place_bytes r = in_8 r.at ++ in_8 r.size

-- its times and its media
abbrev pub sum_bytes : TrafRecord → List ℕ
sum_bytes r = in_8 r.time ++ in_8 r.duration ++ in_8 r.media

-- its sequence_number, its track and the timescale of that
abbrev pub track_bytes : TrafRecord → List ℕ
track_bytes r = in_4 r.sequence ++ in_4 r.track ++ in_4 r.timescale

-- how many samples it has, whether the first is a sync sample, and how many are
abbrev pub sample_bytes : TrafRecord → List ℕ
sample_bytes r = in_4 r.samples ++ in_4 r.sync ++ in_4 r.syncs

-- when its track ended before, and when the first of its samples is presented, in two's complement
abbrev pub shown_bytes : TrafRecord → List ℕ
shown_bytes r = in_8 r.ended ++ in_8 (cast_unsigned w64 r.earliest)

-- the handler of its track, and how many sample entries that has
abbrev pub handler_bytes : TrafRecord → List ℕ
handler_bytes r = in_4 r.handler ++ in_4 r.entries

unfoldable pub record_bytes : TrafRecord → List ℕ
record_bytes r = place_bytes r ++ sum_bytes r ++ track_bytes r ++ sample_bytes r ++ shown_bytes r ++ handler_bytes r

-- the records of some trafs of a fragment, and those of all
abbrev pub record_texts : Fragment → List TrackFragment → List ℕ
record_texts f ts = flat_map (λ t. record_bytes (traf_record f t)) ts

abbrev pub fragment_records : Fragment → List ℕ
fragment_records f = record_texts f (moof_trafs f.moof f.tracks)

-- how many there are
abbrev pub record_len : ℕ
record_len = 88

-- ---- read again

-- the record that 88 bytes are
abbrev pub record_of : List ℕ → TrafRecord
record_of bytes = record {
  at = big_number 8 bytes;
  size = big_number 8 (drop 8 bytes);
  time = big_number 8 (drop 16 bytes);
  duration = big_number 8 (drop 24 bytes);
  media = big_number 8 (drop 32 bytes);
  sequence = big_number 4 (drop 40 bytes);
  track = big_number 4 (drop 44 bytes);
  timescale = big_number 4 (drop 48 bytes);
  samples = big_number 4 (drop 52 bytes);
  sync = big_number 4 (drop 56 bytes);
  syncs = big_number 4 (drop 60 bytes);
  ended = big_number 8 (drop 64 bytes);
  earliest = cast_signed w64 (big_number 8 (drop 72 bytes));
  handler = big_number 4 (drop 80 bytes);
  entries = big_number 4 (drop 84 bytes);
}

-- its numbers have 64 and 32 bits
pub record IsRecord (r : TrafRecord) : Type 0 where
  pub at : r.at < 2 ^ 64
  pub size : r.size < 2 ^ 64
  pub time : r.time < 2 ^ 64
  pub duration : r.duration < 2 ^ 64
  pub media : r.media < 2 ^ 64
  pub sequence : r.sequence < 2 ^ 32
  pub track : r.track < 2 ^ 32
  pub timescale : r.timescale < 2 ^ 32
  pub samples : r.samples < 2 ^ 32
  pub sync : r.sync < 2 ^ 32
  pub syncs : r.syncs < 2 ^ 32
  pub ended : r.ended < 2 ^ 64
  pub earliest : FitsSigned w64 r.earliest
  pub handler : r.handler < 2 ^ 32
  pub entries : r.entries < 2 ^ 32
