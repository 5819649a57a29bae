-- Only the code's own way; no public clause needs this.
-- What is put of trafs, by what their fragment adds to each.
use Rattle.std.specs.Prelude.{ℕ, ◌+◌, ◌-◌, List, [], Option, option_map}
use Rattle.std.specs.List.{flat_map}
use Rattle.mp4_box.specs.declared.headers.Size.{Size}
use Rattle.mp4_init.specs.declared.table.Track.{Track}
use Rattle.mp4_frag.specs.Moofs.{moof_trafs, sequence_of}
use Rattle.mp4_traf.specs.Runs.{MoofBytes, TrackFragment, known_track}
use Rattle.mp4_traf.specs.TrafTotals.{totals_of}
use Rattle.mp4_grammar.specs.FragmentLines.{traf_line, traf_with}
use Rattle.mp4_grammar.specs.Items.{end_of}
use Rattle.mp4_grammar.specs.Presented.{presented_of}
use Rattle.mp4_grammar.specs.TrafRecords.{record_bytes, record_with}
use Rattle.mp4_grammar.specs.declared.command.Command.{Command}
use Rattle.mp4_grammar.specs.declared.command.Command.TheVariants.{Samples, Fragments, Records, Check}
use Rattle.mp4_grammar.specs.declared.listed_traf.ListedTraf.{ListedTraf}

-- what is put of a traf: its line, or its record
abbrev pub put_of : Command → List Track → ListedTraf → List ℕ
put_of Fragments tracks t = traf_line t
put_of Records tracks t = record_bytes (record_with (known_track t.track tracks) t)
put_of Samples tracks t = []
put_of Check tracks t = []

-- the same in a fragment with this sequence_number, offset and size
abbrev pub put_with : Command → List Track → (sequence at : ℕ) (size : Option ℕ) → TrackFragment → List ℕ
put_with command tracks sequence at size t = put_of command tracks (traf_with sequence at size tracks (totals_of t) (presented_of t))

-- what is put of the trafs of a moof whose fragment has this size
abbrev pub moof_lines : Command → MoofBytes → List Track → Option ℕ → List ℕ
moof_lines command h tracks size = flat_map (put_with command tracks (sequence_of h) h.offset size) (moof_trafs h tracks)

-- the size of a fragment at an offset that is a moof of so many bytes and an mdat of a size
abbrev pub size_with : (at len : ℕ) → Size → Option ℕ
size_with at len size = option_map (λ end. end - at) (end_of (at + len) size)
