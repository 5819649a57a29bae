-- The commands that read fragments and write no fragments.
use Rattle.std.specs.Prelude.{ℕ, List, [], None}
use Rattle.mp4_machine.specs.Readings.{Reading, Effects, no_effects, says, counts, both}
use Rattle.mp4_grammar.specs.Contexts.{first_context}
use Rattle.mp4_grammar.specs.FragmentLines.{fragment_lines}
use Rattle.mp4_grammar.specs.Items.{reads_in}
use Rattle.mp4_grammar.specs.Meanings.{Fragment, Meaning, counted_in}
use Rattle.mp4_grammar.specs.Samples.{sample_lines, samples_in}
use Rattle.mp4_grammar.specs.TrackLines.{moov_lines}
use Rattle.mp4_grammar.specs.TrafRecords.{fragment_records}
use Rattle.mp4_grammar.specs.declared.command.Command.{Command}
use Rattle.mp4_grammar.specs.declared.command.Command.TheVariants.{Samples, Fragments, Records, Check}

-- what is written of a moov: its tracks, if fragments are listed. Where in the stream it lies makes no difference to them
abbrev pub written_of_moov : Command → List ℕ → List ℕ
written_of_moov Samples x = []
written_of_moov Fragments x = moov_lines x
written_of_moov Records x = []
written_of_moov Check x = []

-- effects of a fragment that is accepted: its samples are counted, and they or its trafs are listed if that is asked for
abbrev pub accepted : Command → Fragment → Effects
accepted Check f = counts (counted_in f)
accepted Fragments f = both (counts (counted_in f)) (says (fragment_lines f))
accepted Records f = both (counts (counted_in f)) (says (fragment_records f))
accepted Samples f = both (counts (counted_in f)) (says (sample_lines (samples_in f)))

-- nothing else is written, refused or numbered
abbrev pub command_meaning : Command → Meaning
command_meaning command = record {
  of_moov = written_of_moov command;
  passed = λ kind bytes. no_effects;
  refuses = λ f. None;
  accepted = accepted command;
  media = λ f bytes. no_effects;
  numbered = λ f. f.number;
}

-- how the bytes of a stream are read
abbrev pub reading : Command → List ℕ → Reading
reading command bytes = reads_in (command_meaning command) first_context bytes
