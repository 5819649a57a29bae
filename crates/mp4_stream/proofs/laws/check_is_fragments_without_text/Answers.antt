use Rattle.mp4_grammar.specs.declared.command.Command.TheVariants.{Fragments}
use Rattle.mp4_stream.proofs.CheckLemmas.{check-asks, check-most, check-outcome, check-tally}
use Rattle.mp4_stream.proofs.laws.check_is_fragments_without_text.Goals as goal

pub returns-clause-outcome : goal.returns-clause-outcome
returns-clause-outcome c b = check-outcome Fragments b

pub returns-clause-tally : goal.returns-clause-tally
returns-clause-tally c b = check-tally Fragments b

pub returns-clause-requests : goal.returns-clause-requests
returns-clause-requests c b = check-asks Fragments b

pub returns-clause-most : goal.returns-clause-most
returns-clause-most c b = check-most Fragments b
