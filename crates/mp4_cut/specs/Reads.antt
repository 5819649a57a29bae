-- What is read of a fragment that was written.
use Rattle.std.specs.Prelude.{◌≡◌, ◌≤◌, ◌<◌, ◌+◌, ◌^◌, ℕ, ℤ, pos, negsuc, zero, suc, List, [], ◌∷◌, ◌++◌, length, Some, None}
use Rattle.std.specs.List.{AllByRecursion}
use Rattle.mp4_box.specs.declared.headers.FourCc.{FourCc}
use Rattle.mp4_box.specs.declared.headers.Header.{Header}
use Rattle.mp4_box.specs.declared.headers.Size.TheVariants.{Exact}
use Rattle.mp4_box.specs.declared.headers.Step.TheVariants.{Whole}
use Rattle.mp4_box.specs.Headers.{header_at}
use Rattle.mp4_init.specs.declared.table.Track.{Track}
use Rattle.mp4_traf.specs.declared.run.Run.{Run}
use Rattle.mp4_traf.specs.declared.rows.Row.{Row}
use Rattle.mp4_traf.specs.Rows.{durations, rows_of, sizes}
use Rattle.mp4_traf.specs.Rules.{most_in_moof, track_with}
use Rattle.mp4_traf.specs.Runs.{MoofBytes, TrackFragment, runs_of}
use Rattle.mp4_frag.specs.Moofs.{IsRead, moof_runs, moof_samples, moof_trafs}
use Rattle.mp4_frag.specs.RunLists.{taken_runs}
use Rattle.mp4_frag.specs.Places.{place_fault}
use Rattle.mp4_traf.specs.Settling.{settled, with_end}
use Rattle.mp4_run_order.specs.declared.runs.Payload.{Payload}
use Rattle.mp4_cut.specs.Moof.{WrittenFragment, data_offset, moof_box}

-- ---- which fragments can be read again

-- a composition time offset that 32 bits hold, unsigned at version 0
abbrev pub FitsOffset : ℕ → ℤ → Type 0
FitsOffset zero (pos n) = n < 2 ^ 32
FitsOffset zero (negsuc n) = ⊥
FitsOffset (suc version) (pos n) = n < 2 ^ 31
FitsOffset (suc version) (negsuc n) = n < 2 ^ 31

-- the fields of a row fit 32 bits each
pub record FitsRow (version : ℕ) (row : Row) : Type 0 where
  pub duration : row.duration < 2 ^ 32
  pub size : row.size < 2 ^ 32
  pub flags : row.flags < 2 ^ 32
  pub offset : FitsOffset version row.offset

-- its values fit their fields, and it ends within 64 bits
pub record FitsFields (f : WrittenFragment) : Type 0 where
  pub track : f.track < 2 ^ 32
  pub entry : f.entry < 2 ^ 32
  pub version : f.version ≤ 1
  pub end : f.time + durations f.rows < 2 ^ 64
  pub count : length f.rows ≤ most_in_moof
  pub rows : AllByRecursion (FitsRow f.version) f.rows

-- it can be read after tracks that have its track with its sample entry
pub record CanBeRead (tracks : List Track) (f : WrittenFragment) : Type 0 where
  pub fits : FitsFields f
  pub track : Track
  pub known : track_with f.track tracks ≡ Some track
  pub low : 1 ≤ f.entry
  pub high : f.entry ≤ track.entries

-- the entry_count and the defaults of a track have 32 bits each
pub record FitsTrack (t : Track) : Type 0 where
  pub entries : t.entries < 2 ^ 32
  pub duration : t.duration < 2 ^ 32
  pub size : t.size < 2 ^ 32
  pub flags : t.flags < 2 ^ 32

-- what holds of a run of a moof without a fault: its track_ID, version and default size fit their fields.
-- The tracks have its track with its timescale and its sample entry, and its rows fit their fields
pub record IsSoundRun (tracks : List Track) (moof_bytes : List ℕ) (run : Run) : Type 0 where
  pub track : run.track < 2 ^ 32
  pub version : run.version ≤ 1
  pub of : Track
  pub known : track_with run.track tracks ≡ Some of
  pub timescale : run.timescale ≡ of.timescale
  pub low : 1 ≤ run.entry
  pub high : run.entry ≤ of.entries
  pub most : of.entries < 2 ^ 32
  pub size : run.size < 2 ^ 32
  pub rows : AllByRecursion (FitsRow run.version) (rows_of run moof_bytes)

-- ---- what is read

-- the bytes of a fragment's moof, which begins at an offset in the stream
abbrev pub held_moof : WrittenFragment → ℕ → ℕ → MoofBytes
held_moof f sequence_number offset = record { bytes = moof_box f sequence_number; offset = offset }

-- a run has the values of a fragment whose moof is at an offset in the stream: its samples lie at data_offset
pub record Describes (f : WrittenFragment) (moof_bytes : MoofBytes) (run : Run) : Type 0 where
  pub track : run.track ≡ f.track
  pub entry : run.entry ≡ f.entry
  pub version : run.version ≡ f.version
  pub count : run.count ≡ length f.rows
  pub time : run.time ≡ f.time
  pub end : run.end ≡ f.time + durations f.rows
  pub place : run.place ≡ pos (moof_bytes.offset + data_offset f.rows)
  pub bytes : run.bytes ≡ sizes f.rows
  pub rows : rows_of run moof_bytes.bytes ≡ f.rows

-- the payload of the mdat after its moof
abbrev pub media_of : WrittenFragment → MoofBytes → Payload
media_of f h = record { start = h.offset + data_offset f.rows; end = Some (h.offset + data_offset f.rows + sizes f.rows) }

-- a moof without a fault is read, with one traf of one run, which has the values of the fragment, and lies in the
-- mdat after the moof. It has the timescale of its track. After the moof its track ends where the fragment ends
pub record IsReadAs (tracks : List Track) (f : WrittenFragment) (h : MoofBytes) : Type 0 where
  pub read : IsRead h tracks
  pub traf : TrackFragment
  pub trafs : moof_trafs h tracks ≡ traf ∷ []
  pub run : Run
  pub runs : runs_of traf ≡ run ∷ []
  pub all : moof_runs h tracks ≡ run ∷ []
  pub taken : taken_runs h tracks ≡ run ∷ []
  pub describes : Describes f h run
  pub timescale : (track : Track) → track_with f.track tracks ≡ Some track → run.timescale ≡ track.timescale
  pub samples : moof_samples h ≡ length f.rows
  pub placed : place_fault (media_of f h) (run ∷ []) ≡ None
  pub settled : settled tracks (moof_trafs h tracks) ≡ with_end f.track (f.time + durations f.rows) tracks

-- ---- headers

-- the header of a box of this type and size, with so many bytes and no user type
abbrev pub header_of : FourCc → ℕ → ℕ → Header
header_of kind size header_len = record { kind = kind; user = None; size = Exact size; header_len = header_len }

-- these bytes begin with the header, whatever follows them
abbrev pub IsHeaded : FourCc → ℕ → ℕ → List ℕ → Type 0
IsHeaded kind size header_len x = (rest : List ℕ) → header_at (x ++ rest) ≡ Whole (header_of kind size header_len)
