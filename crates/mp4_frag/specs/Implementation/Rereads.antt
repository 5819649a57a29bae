-- Only the code's own way; no public clause needs this.
-- A run is found again from its row: the boxes that it names are read again.
use Rattle.std.specs.Prelude.{ℕ, pos, List, [], drop, ◌+◌, ◌-◌, None}
use Rattle.std.specs.Option.{unwrap_or}
use Rattle.mp4_box.specs.declared.headers.Size.TheVariants.{ToEnd}
use Rattle.mp4_box.specs.Trees.{Box, boxes, first_of}
use Rattle.mp4_init.specs.declared.table.Track.{Track}
use Rattle.mp4_traf.specs.declared.run.Run.{Run}
use Rattle.mp4_frag.specs.declared.run_list.run_row.RunRow.{RunRow}
use Rattle.mp4_traf.specs.Kinds.{free}
use Rattle.mp4_traf.specs.Runs.{MoofBytes, header_by, known_track, run_at}
use Rattle.mp4_traf.specs.Tfhd.{track_id}

-- an empty box, where there is none
abbrev pub absent_box : Box
absent_box = record { header = record { kind = free; user = None; size = ToEnd; header_len = 0 }; offset = 0; payload = [] }

abbrev pub box_after : MoofBytes → ℕ → Box
box_after h at = unwrap_or (first_of (boxes (h.offset + at) (drop at h.bytes))) absent_box

-- the box of a moof that begins at this offset in the stream
unfoldable pub box_in : MoofBytes → ℕ → Box
box_in h offset = box_after h (offset - h.offset)

-- the run of a trun, whose time is known, but for its place, its end and its bytes
abbrev pub reread_at : MoofBytes → List Track → RunRow → Box → Box → Run
reread_at h tracks r trun tfhd =
    run_at (record { moof = h; header = header_by (known_track (track_id tfhd.payload) tracks) tfhd.payload; ends_at = r.traf_ends_at }) r.time (pos 0) trun

-- the run of a row, in a moof that is held
unfoldable pub run_of_row : MoofBytes → List Track → RunRow → Run
run_of_row h tracks r = record (reread_at h tracks r (box_in h r.trun) (box_in h r.tfhd)) { place = r.place; end = r.end; bytes = r.bytes }
