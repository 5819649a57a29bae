-- Only the code's own way; no public clause needs this.
-- The row of a run in a list. The rest of the run is read in its trun and in the tfhd of its traf.
use Rattle.std.specs.Prelude.{ℕ, pos, List, map, slice_index}
use Rattle.std.specs.List.{flat_map}
use lib.IntN.{◌-ℤ◌}
use Rattle.mp4_box.specs.Trees.{Box}
use Rattle.mp4_init.specs.declared.table.Track.{Track}
use Rattle.mp4_init.specs.Implementation.Rows.{lower, upper}
use Rattle.mp4_run_order.specs.declared.runs.ListedRun.{ListedRun}
use Rattle.mp4_run_order.specs.Orders.{place_key, track_key}
use Rattle.mp4_traf.specs.declared.run.Run.{Run}
use Rattle.mp4_frag.specs.declared.run_list.run_row.RunRow.{RunRow}
use Rattle.mp4_traf.specs.Kinds.{tfhd}
use Rattle.mp4_traf.specs.Runs.{MoofBytes, runs_of, traf_of}
use Rattle.mp4_traf.specs.Implementation.Heads.{tfhd_at}

-- the row as eight numbers
unfoldable pub row_of_words : List ℕ → RunRow
row_of_words w = record {
  place = pos (slice_index w 0) -ℤ pos 9223372036854775808;
  trun = slice_index w 1;
  time = slice_index w 2;
  end = slice_index w 3;
  bytes = slice_index w 4;
  traf_ends_at = slice_index w 5;
  tfhd = slice_index w 6;
  track = upper (slice_index w 7);
  count = lower (slice_index w 7);
}

abbrev pub rows_of_words : List (List ℕ) → List RunRow
rows_of_words ws = map row_of_words ws

-- what the order of runs depends on
abbrev pub listed_row : RunRow → ListedRun
listed_row r = record { number = r.trun; track = r.track; count = r.count; place = r.place; bytes = r.bytes }

-- the runs of rows, as the order of runs sees them
abbrev pub listed_words : List (List ℕ) → List ListedRun
listed_words ws = map (λ (w : List ℕ). listed_row (row_of_words w)) ws

-- the keys by which rows are sorted
abbrev pub track_word : List ℕ → ℕ
track_word w = track_key (listed_row (row_of_words w))

abbrev pub place_word : List ℕ → ℕ
place_word w = place_key (listed_row (row_of_words w))

-- the row of a run, whose traf has its tfhd at this offset
abbrev pub row_of_run : ℕ → Run → RunRow
row_of_run tfhd run = record {
  place = run.place;
  trun = run.offset;
  time = run.time;
  end = run.end;
  bytes = run.bytes;
  traf_ends_at = run.traf_ends_at;
  tfhd = tfhd;
  track = run.track;
  count = run.count;
}

-- the rows of the runs of a traf, and those of trafs
abbrev pub rows_of_traf : MoofBytes → List Track → Box → List RunRow
rows_of_traf h tracks t = map (row_of_run (tfhd_at t)) (runs_of (traf_of h tracks t))

abbrev pub rows_of_trafs : MoofBytes → List Track → List Box → List RunRow
rows_of_trafs h tracks ts = flat_map (rows_of_traf h tracks) ts
