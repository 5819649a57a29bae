-- The lines in which the trafs of fragments are listed.
use Rattle.std.specs.Prelude.{ℕ, ℤ, pos, ◌-◌, ◌+ℤ◌, ◌-ℤ◌, Bool, true, false, List, ◌++◌, codes, Option, Some, None, option_map}
use Rattle.std.specs.List.{flat_map}
use Rattle.std.specs.Fmt.{decimal, signed_decimal}
use Rattle.mp4_init.specs.declared.table.Track.{Track}
use Rattle.mp4_traf.specs.declared.traf_totals.TrafTotals.{TrafTotals}
use Rattle.mp4_frag.specs.Moofs.{moof_trafs, sequence_of}
use Rattle.mp4_traf.specs.Runs.{TrackFragment, known_track}
use Rattle.mp4_traf.specs.TrafTotals.{totals_of}
use Rattle.mp4_grammar.specs.Meanings.{Fragment}
use Rattle.mp4_grammar.specs.declared.listed_traf.ListedTraf.{ListedTraf}
use Rattle.mp4_grammar.specs.Presented.{presented_of}
use Rattle.mp4_grammar.specs.declared.presented.Presented.{Presented}

-- how many bytes its moof and its mdat have, where that is stated
abbrev pub size_of : Fragment → Option ℕ
size_of f = option_map (λ end. end - f.moof.offset) f.payload.end

-- a traf with these totals, in a fragment with this sequence_number, offset and size; with the tracks before it
abbrev pub traf_with : (sequence at : ℕ) (size : Option ℕ) (tracks : List Track) → TrafTotals → Presented → ListedTraf
traf_with sequence at size tracks totals presented = record {
  sequence = sequence;
  at = at;
  size = size;
  track = totals.track;
  time = totals.time;
  duration = totals.duration;
  samples = totals.samples;
  sync = totals.sync;
  media = totals.bytes;
  presented = presented;
  ended = (known_track totals.track tracks).next;
}

-- a traf of a fragment
abbrev pub listed_traf : Fragment → TrackFragment → ListedTraf
listed_traf f t = traf_with (sequence_of f.moof) f.moof.offset (size_of f) f.tracks (totals_of t) (presented_of t)

-- when the first of its samples is presented; its base time where it has none
abbrev pub presented_at : ListedTraf → ℤ
presented_at t = pos t.time +ℤ t.presented.earliest

-- how many ticks after the end of its track it begins
abbrev pub gap_of : ListedTraf → ℤ
gap_of t = pos t.time -ℤ pos t.ended

-- ---- their lines

-- a size that may not be stated: the mdat goes to the end of the stream then
abbrev pub size_text : Option ℕ → List ℕ
size_text (Some size) = decimal size
size_text None = codes "end"

abbrev pub yes_or_no : Bool → List ℕ
yes_or_no true = codes "yes"
yes_or_no false = codes "no"

-- the parts of the line of a traf: its fragment
abbrev pub fragment_text : ListedTraf → List ℕ
fragment_text t = codes "fragment=" ++ decimal t.sequence ++ codes " at=" ++ decimal t.at ++ codes " size=" ++ size_text t.size

-- its track and times
abbrev pub times_text : ListedTraf → List ℕ
times_text t = codes " track=" ++ decimal t.track ++ codes " dts=" ++ decimal t.time ++ codes " dur=" ++ decimal t.duration

-- its samples
abbrev pub samples_text : ListedTraf → List ℕ
samples_text t = codes " samples=" ++ decimal t.samples ++ codes " sync=" ++ yes_or_no t.sync ++ codes " media=" ++ decimal t.media

-- what they are to who plays them, and how long after the end of its track it begins
abbrev pub rest_text : ListedTraf → List ℕ
rest_text t = codes " pts=" ++ signed_decimal (presented_at t) ++ codes " syncs=" ++ decimal t.presented.syncs ++ codes " gap=" ++ signed_decimal (gap_of t) ++ codes "\n"

-- the line of a traf
unfoldable pub traf_line : ListedTraf → List ℕ
traf_line t = fragment_text t ++ times_text t ++ samples_text t ++ rest_text t

-- the lines of all trafs of a fragment, in the order of its moof
abbrev pub fragment_lines : Fragment → List ℕ
fragment_lines f = flat_map (λ t. traf_line (listed_traf f t)) (moof_trafs f.moof f.tracks)
