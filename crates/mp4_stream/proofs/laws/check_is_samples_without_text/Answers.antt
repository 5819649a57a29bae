use Rattle.mp4_grammar.specs.declared.command.Command.TheVariants.{Samples}
use Rattle.mp4_stream.proofs.CheckLemmas.{check-asks, check-most, check-outcome, check-tally, check-text}
use Rattle.mp4_stream.proofs.laws.check_is_samples_without_text.Goals as goal

pub returns-clause-outcome : goal.returns-clause-outcome
returns-clause-outcome c b = check-outcome Samples b

pub returns-clause-tally : goal.returns-clause-tally
returns-clause-tally c b = check-tally Samples b

pub returns-clause-requests : goal.returns-clause-requests
returns-clause-requests c b = check-asks Samples b

pub returns-clause-most : goal.returns-clause-most
returns-clause-most c b = check-most Samples b

pub returns-clause-text : goal.returns-clause-text
returns-clause-text c b = check-text Samples b
