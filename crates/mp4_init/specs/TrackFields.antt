-- Bounds of the numbers of a track.
use Rattle.std.specs.Prelude.{◌<◌, ◌^◌}
use Rattle.mp4_init.specs.declared.table.Track.{Track}

-- each number of a track has the 32 bits of its field: track_ID (tkhd, 8.3.2), timescale (mdhd, 8.4.2), handler_type
-- (hdlr, 8.4.3), entry_count (stsd, 8.5.2), and the four defaults of its trex (8.8.3)
pub record FitsTrackFields (t : Track) : Type 0 where
  pub id : t.id < 2 ^ 32
  pub timescale : t.timescale < 2 ^ 32
  pub handler : t.handler < 2 ^ 32
  pub entries : t.entries < 2 ^ 32
  pub desc : t.desc < 2 ^ 32
  pub duration : t.duration < 2 ^ 32
  pub size : t.size < 2 ^ 32
  pub flags : t.flags < 2 ^ 32
