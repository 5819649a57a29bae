-- The effects of a command grow with the bytes, request nothing but what the items do, and count no more samples than these have; and a check has those of a listing without the text.
use Rattle.std.proofs.Common.{ap, arith, refl, sym}
use Rattle.mp4_machine.specs.Readings.{counts, no_effects}
use Rattle.mp4_machine.proofs.ReadingAskLemmas.{plus-none}
use Rattle.mp4_machine.proofs.ReadingGrowthLemmas.{Extends-same}
use Rattle.mp4_grammar.specs.Commands.{command_meaning}
use Rattle.mp4_grammar.specs.Meanings.{IsGrowing, FragmentEndsPast, counted_in}
use Rattle.mp4_grammar.specs.WithoutText.{IsWithoutText}
use Rattle.mp4_grammar.specs.declared.command.Command.{Command}
use Rattle.mp4_grammar.specs.declared.command.Command.TheVariants.{Samples, Fragments, Records, Check}
use Rattle.mp4_grammar.proofs.ItemAskLemmas.{HasNoEffects}
use Rattle.mp4_grammar.proofs.InspectionLemmas.{CountsSamplesOnce}

command_meaning-past : (command : Command) → FragmentEndsPast (command_meaning command)
command_meaning-past Samples = record { passed = λ kind b. tt; accepted = λ f. tt; media = λ f b. tt }
command_meaning-past Fragments = record { passed = λ kind b. tt; accepted = λ f. tt; media = λ f b. tt }
command_meaning-past Records = record { passed = λ kind b. tt; accepted = λ f. tt; media = λ f b. tt }
command_meaning-past Check = record { passed = λ kind b. tt; accepted = λ f. tt; media = λ f b. tt }

pub command_meaning-growing : (command : Command) → IsGrowing (command_meaning command)
command_meaning-growing command = record {
  fragment_ends = command_meaning-past command;
  media = λ f b x. Extends-same no_effects;
  passed = λ kind b x. Extends-same no_effects;
}

pub command_meaning-quiet : (command : Command) → HasNoEffects (command_meaning command)
command_meaning-quiet Samples = record { accepted = λ f. refl; media = λ f b. refl; passed = λ kind b. refl }
command_meaning-quiet Fragments = record { accepted = λ f. refl; media = λ f b. refl; passed = λ kind b. refl }
command_meaning-quiet Records = record { accepted = λ f. refl; media = λ f b. refl; passed = λ kind b. refl }
command_meaning-quiet Check = record { accepted = λ f. refl; media = λ f b. refl; passed = λ kind b. refl }

pub command_meaning-once : (command : Command) → CountsSamplesOnce (command_meaning command)
command_meaning-once Samples = record { accepted = λ f. omega arith; media = λ f b. refl; passed = λ kind b. refl }
command_meaning-once Fragments = record { accepted = λ f. omega arith; media = λ f b. refl; passed = λ kind b. refl }
command_meaning-once Records = record { accepted = λ f. omega arith; media = λ f b. refl; passed = λ kind b. refl }
command_meaning-once Check = record { accepted = λ f. omega arith; media = λ f b. refl; passed = λ kind b. refl }

-- a check reads each stream as a listing does, and writes no text
pub check-without : (command : Command) → IsWithoutText (command_meaning command) (command_meaning Check)
check-without Samples = record {
  of_moov = λ x. refl;
  passed = λ kind b. refl;
  refuses = λ f. refl;
  accepted = λ f. ap counts (sym (plus-none (counted_in f)));
  media = λ f b. refl;
  numbered = λ f. refl;
}
check-without Fragments = record {
  of_moov = λ x. refl;
  passed = λ kind b. refl;
  refuses = λ f. refl;
  accepted = λ f. ap counts (sym (plus-none (counted_in f)));
  media = λ f b. refl;
  numbered = λ f. refl;
}
check-without Records = record {
  of_moov = λ x. refl;
  passed = λ kind b. refl;
  refuses = λ f. refl;
  accepted = λ f. ap counts (sym (plus-none (counted_in f)));
  media = λ f b. refl;
  numbered = λ f. refl;
}
check-without Check = record {
  of_moov = λ x. refl;
  passed = λ kind b. refl;
  refuses = λ f. refl;
  accepted = λ f. refl;
  media = λ f b. refl;
  numbered = λ f. refl;
}
