-- The tracks of a moov.
use Rattle.std.specs.Prelude.{ℕ, List, [], ◌∷◌, Option, Some, None, map, zero, suc}
use Rattle.mp4_box.specs.Trees.{Box, children, first_of}
use Rattle.mp4_box.specs.Paths.{of_kind, at_path}
use Rattle.mp4_init.specs.declared.table.Track.{Track}
use Rattle.mp4_init.specs.declared.summary.Defaults.{Defaults}
use Rattle.mp4_init.specs.Kinds.{trak, tkhd, mdia, mdhd, hdlr, minf, stbl, stsd}
use Rattle.mp4_box.specs.Fields.{number_in}
use Rattle.mp4_init.specs.Fields.{after_times}
use Rattle.mp4_init.specs.Rules.{trexes_of}

-- the tracks, where the last fragment of the track at this index ended at `next`
unfoldable pub with_next : ℕ → ℕ → List Track → List Track
with_next i next [] = []
with_next zero next (t ∷ ts) = record t { next = next } ∷ ts
with_next (suc i) next (t ∷ ts) = t ∷ with_next i next ts

-- a field of the one box that there must be (the first, where the rules are broken), and 0 where there is none
abbrev pub field_of : (Box → ℕ) → Option Box → ℕ
field_of field None = 0
field_of field (Some b) = field b

-- the four defaults of a trex (8.8.3), 0 where there is none: default_sample_description_index, _duration, _size and _flags
abbrev pub defaults_of : Option Box → Defaults
defaults_of trex = record {
  desc = field_of (λ b. number_in b.payload 8) trex;
  duration = field_of (λ b. number_in b.payload 12) trex;
  size = field_of (λ b. number_in b.payload 16) trex;
  flags = field_of (λ b. number_in b.payload 20) trex;
}

-- track_ID of the tkhd of a trak (8.3.2)
abbrev pub id_of : Box → ℕ
id_of t = field_of after_times (first_of (at_path (tkhd ∷ []) t))

-- timescale of its mdhd (8.4.2)
abbrev pub timescale_of : Box → ℕ
timescale_of t = field_of after_times (first_of (at_path (mdia ∷ mdhd ∷ []) t))

-- handler_type of its hdlr (8.4.3), 0 where it isn't there
abbrev pub handler_of : Box → ℕ
handler_of t = field_of (λ b. number_in b.payload 8) (first_of (at_path (mdia ∷ hdlr ∷ []) t))

-- entry_count of its stsd (8.5.2)
abbrev pub entries_of : Box → ℕ
entries_of t = field_of (λ b. number_in b.payload 4) (first_of (at_path (mdia ∷ minf ∷ stbl ∷ stsd ∷ []) t))

abbrev pub with_defaults : (id timescale handler entries : ℕ) → Defaults → Track
with_defaults id timescale handler entries d = record {
  id = id;
  timescale = timescale;
  handler = handler;
  entries = entries;
  desc = d.desc;
  duration = d.duration;
  size = d.size;
  flags = d.flags;
  next = 0;
}

-- the track of a trak, with the defaults of the trex of its track_ID
unfoldable pub track_of : Box → Box → Track
track_of moov t = with_defaults (id_of t) (timescale_of t) (handler_of t) (entries_of t) (defaults_of (first_of (trexes_of moov (id_of t))))

-- the tracks of a moov: one for each trak directly in it, in order
abbrev pub tracks_of : Box → List Track
tracks_of moov = map (track_of moov) (of_kind trak (children moov))
