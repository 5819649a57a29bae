-- The recut text of a stream, and reports on its samples, from the bytes of the stream alone.
use Rattle.std.specs.Prelude.{ℕ, List, [], None}
use Rattle.std.specs.List.{flat_map}
use Rattle.mp4_pieces.specs.declared.cut.Cut.{Cut}
use Rattle.mp4_machine.specs.Readings.{says, no_effects}
use Rattle.mp4_grammar.specs.Contexts.{first_context}
use Rattle.mp4_grammar.specs.Items.{reads_in}
use Rattle.mp4_grammar.specs.Meanings.{Meaning}
use Rattle.mp4_recut.specs.Splitting.{reading}
use Rattle.mp4_recut_laws.specs.MediaSamples.{MediaSample, media_samples_in}

-- what `split` writes of a stream
abbrev pub recut_text : Cut → List ℕ → List ℕ
recut_text cut b = (reading cut b).effects.text

-- an operation that reports `report` of each sample and nothing else, and refuses nothing; it has no cut
abbrev pub reporting : (MediaSample → List ℕ) → Meaning
reporting report = record {
  of_moov = λ x. [];
  passed = λ kind bytes. no_effects;
  refuses = λ f. None;
  accepted = λ f. no_effects;
  media = λ f bytes. says (flat_map report (media_samples_in f bytes));
  numbered = λ f. f.number;
}

-- its report on a stream: on each of its samples, in order
abbrev pub reported_by : (MediaSample → List ℕ) → List ℕ → List ℕ
reported_by report b = (reads_in (reporting report) first_context b).effects.text
