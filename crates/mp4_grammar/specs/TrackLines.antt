-- The lines of the tracks of a moov, before those of the fragments.
use Rattle.std.specs.Prelude.{ℕ, ◌&&◌, nat_lt, ◌==◌, not, if◌then◌else◌, Bool, true, false, List, [], ◌∷◌, ◌++◌, codes, drop, map, take, Option, Some, None}
use Rattle.std.specs.Fmt.{decimal}
use Rattle.std.specs.Int.{bytes_high_first}
use Rattle.std.specs.List.{flat_map}
use Rattle.mp4_box.specs.Fields.{number_in}
use Rattle.mp4_box.specs.Paths.{at_path, of_kind}
use Rattle.mp4_box.specs.Trees.{Box, box_at, boxes, children, first_of}
use Rattle.mp4_box.specs.declared.headers.FourCc.{FourCc}
use Rattle.mp4_init.specs.Kinds.{mdia, minf, stbl, stsd, trak}
use Rattle.mp4_init.specs.Moovs.{of_moov}
use Rattle.mp4_init.specs.Tracks.{track_of}
use Rattle.mp4_init.specs.declared.table.Track.{Track}
use Rattle.mp4_grammar.specs.declared.listed_track.ListedTrack.{ListedTrack}

-- the boxes after the entry_count of an stsd, as many as it counts, by their types (8.5.2)
abbrev pub kinds_in : Box → List FourCc
kinds_in b = take (number_in b.payload 4) (map (λ e. e.header.kind) (boxes 0 (drop 8 b.payload)))

abbrev pub kinds_by : Option Box → List FourCc
kinds_by None = []
kinds_by (Some b) = kinds_in b

-- the types of the sample entries of a trak
abbrev pub kinds_of : Box → List FourCc
kinds_of t = kinds_by (first_of (at_path (mdia ∷ minf ∷ stbl ∷ stsd ∷ []) t))

-- the type that is this number
abbrev pub kind_of : ℕ → FourCc
kind_of n = record { 0 = bytes_high_first 4 n }

-- a track
abbrev pub listed_track : Track → ListedTrack
listed_track t = record { id = t.id; timescale = t.timescale; entries = t.entries; handler = kind_of t.handler }

-- ---- their lines

-- a byte of a type that may end a word of a line prints as `?`: one that isn't printing ASCII, a space and a comma
abbrev pub word_byte : ℕ → ℕ
word_byte b = if nat_lt 32 b && (nat_lt b 127 && not (b == 44)) then b else 63

abbrev pub word : FourCc → List ℕ
word k = map word_byte k.0

-- the line of a track as far as the types of its sample entries
unfoldable pub track_front : ListedTrack → List ℕ
track_front t = codes "track=" ++ decimal t.id ++ codes " timescale=" ++ decimal t.timescale ++ codes " entries=" ++ decimal t.entries ++ codes " handler=" ++ word t.handler ++ codes " types="

-- after a comma, if it isn't the first
abbrev pub comma : Bool → List ℕ
comma true = []
comma false = codes ","

-- a minus where there is none
abbrev pub none_text : Bool → List ℕ
none_text true = codes "-\n"
none_text false = codes "\n"

-- the types, and the end of the line
unfoldable pub types_text : (first : Bool) → List FourCc → List ℕ
types_text first [] = none_text first
types_text first (k ∷ ks) = comma first ++ word k ++ types_text false ks

-- the line of a track, of which this is the trak
abbrev pub track_line : Track → Box → List ℕ
track_line t b = track_front (listed_track t) ++ types_text true (kinds_of b)

-- the lines of the tracks of a moov, in the order of its traks
abbrev pub track_lines : Box → List ℕ
track_lines moov = flat_map (λ b. track_line (track_of moov b) b) (of_kind trak (children moov))

-- those of the moov that the bytes are
abbrev pub moov_lines : List ℕ → List ℕ
moov_lines x = of_moov [] track_lines (box_at 0 x)
