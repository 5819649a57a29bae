-- The runs of a moof: their defaults, times and places (ISO/IEC 14496-12, 8.8.4 to 8.8.8 and 8.8.12). Numbers are without limit here.
use Rattle.std.specs.Prelude.{ℕ, ℤ, pos, List, [], ◌∷◌, Option, Some, None, ◌+◌, ◌-◌, ◌+ℤ◌, length, map, Bool, nat_lt, ◌^◌}
use Rattle.std.specs.List.{fold}
use Rattle.std.specs.Option.{unwrap_or}
use Rattle.mp4_box.specs.Fields.{version_in}
use Rattle.mp4_box.specs.Trees.{Box, children, first_of, payload_offset}
use Rattle.mp4_box.specs.Paths.{of_kind, at_path}
use Rattle.mp4_init.specs.declared.table.Track.{Track}
use Rattle.mp4_traf.specs.declared.run.Run.{Run}
use Rattle.mp4_traf.specs.declared.traf.TrafHeader.{TrafHeader}
use Rattle.mp4_traf.specs.Kinds.{traf, tfhd, tfdt, trun}
use Rattle.mp4_traf.specs.Fields.{flags_in, number_or, payload_of}
use Rattle.mp4_traf.specs.Tfdt.{base_media_decode_time}
use Rattle.mp4_traf.specs.Tfhd.{fields_of, track_id}
use Rattle.mp4_traf.specs.Trun.{data_offset, first_sample_flags, sample_count, sample_fields, trun_fields}
use Rattle.mp4_traf.specs.Rules.{entry_of, track_with}
use Rattle.mp4_traf.specs.Rows.{rows_of, durations, sizes}

-- ---- the header of a traf

-- the track of a run whose track isn't there, which is refused
abbrev pub no_track : Track
no_track = record { id = 0; timescale = 0; handler = 0; entries = 0; desc = 0; duration = 0; size = 0; flags = 0; next = 0 }

abbrev pub known_track : ℕ → List Track → Track
known_track id tracks = unwrap_or (track_with id tracks) no_track

-- the fields of the tfhd, else the defaults of the track, and its timescale
abbrev pub header_by : Track → List ℕ → TrafHeader
header_by t payload = record {
  track = track_id payload;
  timescale = t.timescale;
  entry = entry_of t payload;
  duration = number_or payload (fields_of payload).default_sample_duration t.duration;
  size = number_or payload (fields_of payload).default_sample_size t.size;
  flags = number_or payload (fields_of payload).default_sample_flags t.flags;
}

-- the payload of the tfhd of a traf
abbrev pub tfhd_of : Box → List ℕ
tfhd_of t = payload_of (first_of (at_path (tfhd ∷ []) t))

abbrev pub track_of : List Track → Box → Track
track_of tracks t = known_track (track_id (tfhd_of t)) tracks

-- the time of the tfdt, or else where the last track fragment of the track ended
abbrev pub base_by : ℕ → Option Box → ℕ
base_by next None = next
base_by next (Some b) = base_media_decode_time b.payload

abbrev pub base_of : ℕ → Box → ℕ
base_of next t = base_by next (first_of (at_path (tfdt ∷ []) t))

-- a traf has a time of its own, before tick 2^63
abbrev pub begins_early : Box → Bool
begins_early t = nat_lt (base_of (2 ^ 63) t) (2 ^ 63)

-- a moof that is held: its bytes, and the offset in the stream of the first
pub record MoofBytes : Type 0 where
  pub bytes : List ℕ
  pub offset : ℕ

abbrev pub moof_at : List ℕ → ℕ → MoofBytes
moof_at bytes offset = record { bytes = bytes; offset = offset }

-- where in the moof a box ends
abbrev pub end_in : MoofBytes → Box → ℕ
end_in h b = payload_offset b + length b.payload - h.offset

-- what the runs of a traf share: the moof, the header of the traf, and where in the moof the traf ends
pub record Shared : Type 0 where
  pub moof : MoofBytes
  pub header : TrafHeader
  pub ends_at : ℕ

-- a traf: what its runs share, its base time and its truns
pub record TrackFragment : Type 0 where
  pub shared : Shared
  pub time : ℕ
  pub truns : List Box

-- the traf is in this moof, and of this track
abbrev pub shared_by : MoofBytes → Track → Box → Shared
shared_by h track t = record { moof = h; header = header_by track (tfhd_of t); ends_at = end_in h t }

unfoldable pub traf_of : MoofBytes → List Track → Box → TrackFragment
traf_of h tracks t = record {
  shared = shared_by h (track_of tracks t) t;
  time = base_of (track_of tracks t).next t;
  truns = of_kind trun (children t);
}

-- ---- runs

-- where a run begins: so far after the first byte of the moof, or where the run before it ends
abbrev pub start_by : ℕ → ℤ → Option ℤ → ℤ
start_by moof last None = last
start_by moof last (Some d) = pos moof +ℤ d

-- the run of a trun, but for its end and its bytes
unfoldable pub run_at : Shared → ℕ → ℤ → Box → Run
run_at s time last b = record {
  track = s.header.track;
  timescale = s.header.timescale;
  entry = s.header.entry;
  version = version_in b.payload;
  count = sample_count b.payload;
  time = time;
  end = time;
  place = start_by s.moof.offset last (data_offset b.payload);
  bytes = 0;
  offset = b.offset;
  duration = s.header.duration;
  size = s.header.size;
  flags = s.header.flags;
  default_first_flags = unwrap_or (first_sample_flags b.payload) s.header.flags;
  fields = sample_fields (flags_in b.payload);
  samples_at = payload_offset b - s.moof.offset + (trun_fields (flags_in b.payload)).samples;
  ends_at = end_in s.moof b;
  traf_ends_at = s.ends_at;
}

-- it ends after the durations of its samples, and has the bytes of their sizes
abbrev pub summed : List ℕ → Run → Run
summed moof_bytes run = record run { end = run.time + durations (rows_of run moof_bytes); bytes = sizes (rows_of run moof_bytes) }

-- the run of a trun, where the one before ends at this time and this place
unfoldable pub run_of : Shared → ℕ → ℤ → Box → Run
run_of s time last b = summed s.moof.bytes (run_at s time last b)

-- the place of the next run, if it has no data_offset
abbrev pub end_place : Run → ℤ
end_place run = run.place +ℤ pos run.bytes

-- the runs of truns, one after the other in time, and in place where no data_offset says another
unfoldable pub runs_from : Shared → ℕ → ℤ → List Box → List Run
runs_from s time last [] = []
runs_from s time last (b ∷ bs) =
    run_of s time last b ∷ runs_from s (run_of s time last b).end (end_place (run_of s time last b)) bs

-- the runs of a traf: the first begins at the first byte of the moof, unless it has a data_offset
abbrev pub runs_of : TrackFragment → List Run
runs_of t = runs_from t.shared t.time (pos t.shared.moof.offset) t.truns

abbrev pub trafs_by : MoofBytes → List Track → List Box → List TrackFragment
trafs_by h tracks bs = map (traf_of h tracks) (of_kind traf bs)

-- where a run ends, or the time so far where there is none
abbrev pub last_end : ℕ → List Run → ℕ
last_end time runs = fold (λ (_ : ℕ) (run : Run). run.end) time runs

-- where a traf ends: its base time plus all its durations
abbrev pub end_of : TrackFragment → ℕ
end_of t = last_end t.time (runs_of t)
