-- The samples of a fragment, and the lines in which they are listed.
use Rattle.std.specs.Prelude.{ℕ, ℤ, pos, ◌+◌, ◌+ℤ◌, List, [], ◌∷◌, ◌++◌, codes, if◌then◌else◌}
use Rattle.std.specs.List.{flat_map}
use Rattle.std.specs.Fmt.{decimal, signed_decimal}
use Rattle.std.specs.Int.{bytes_high_first}
use Rattle.mp4_lines.specs.Digits.{hex_bytes}
use Rattle.mp4_traf.specs.declared.rows.Row.{Row}
use Rattle.mp4_traf.specs.declared.run.Run.{Run}
use Rattle.mp4_traf.specs.Rows.{rows_of}
use Rattle.mp4_traf.specs.SyncSamples.{is_sync}
use Rattle.mp4_grammar.specs.Meanings.{Fragment, runs_in}
use Rattle.mp4_grammar.specs.declared.sample.Sample.{Sample}

-- the sample of a row of a run that is decoded at a time, and whose bytes lie at a place
abbrev pub sample_of : Run → Row → ℕ → ℤ → Sample
sample_of run row time place = record {
  track = run.track;
  time = time;
  composition = pos time +ℤ row.offset;
  duration = row.duration;
  size = row.size;
  flags = row.flags;
  entry = run.entry;
  place = place;
}

-- the samples of these rows: each is decoded when the one before it ends, and its bytes follow those of that
abbrev pub samples_from : Run → List Row → ℕ → ℤ → List Sample
samples_from run [] time place = []
samples_from run (row ∷ rows) time place = sample_of run row time place ∷ samples_from run rows (time + row.duration) (place +ℤ pos row.size)

-- those of a run of the moof that is held
abbrev pub samples_of_run : List ℕ → Run → List Sample
samples_of_run moof_bytes run = samples_from run (rows_of run moof_bytes) run.time run.place

-- those of a fragment, its runs in the order in which they are taken
abbrev pub samples_in : Fragment → List Sample
samples_in f = flat_map (samples_of_run f.moof.bytes) (runs_in f)

-- ---- their lines

-- whether it is a sync sample
abbrev pub sync_text : ℕ → List ℕ
sync_text flags = if is_sync flags then codes "sync" else codes "-"

-- the parts of the line of a sample: its track and times
abbrev pub times_text : Sample → List ℕ
times_text s = codes "track=" ++ decimal s.track ++ codes " dts=" ++ decimal s.time ++ codes " cts=" ++ signed_decimal s.composition

-- its fields
abbrev pub fields_text : Sample → List ℕ
fields_text s = codes " dur=" ++ decimal s.duration ++ codes " size=" ++ decimal s.size ++ codes " flags=" ++ hex_bytes (bytes_high_first 4 s.flags) ++ codes " " ++ sync_text s.flags

-- its sample entry and its place
abbrev pub place_text : Sample → List ℕ
place_text s = codes " desc=" ++ decimal s.entry ++ codes " at=" ++ signed_decimal s.place ++ codes "\n"

-- the line of a sample
unfoldable pub sample_line : Sample → List ℕ
sample_line s = times_text s ++ fields_text s ++ place_text s

-- the lines of samples
abbrev pub sample_lines : List Sample → List ℕ
sample_lines samples = flat_map sample_line samples
