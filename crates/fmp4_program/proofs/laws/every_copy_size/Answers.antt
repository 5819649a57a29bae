use Rattle.fmp4_program.proofs.CopySizes.{command_of-inside, command_of-outside}
use Rattle.fmp4_program.proofs.laws.every_copy_size.Goals as goal

pub returns-clause-inside : goal.returns-clause-inside
returns-clause-inside c = command_of-inside

pub returns-clause-outside : goal.returns-clause-outside
returns-clause-outside c = command_of-outside
