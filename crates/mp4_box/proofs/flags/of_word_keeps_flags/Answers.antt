use Rattle.std.proofs.Common.{rules}
use Rattle.mp4_box.specs.Flags.{tfhd_table, trun_table}
use Rattle.mp4_box.proofs.FlagLemmas.{mask_keeps_table}
use Rattle.mp4_box.proofs.flags.of_word_keeps_flags.Goals as goal

pub returns-clause-tfhd : goal.returns-clause-tfhd
returns-clause-tfhd c = mask_keeps_table 0x03003b tfhd_table (search rules)

pub returns-clause-trun : goal.returns-clause-trun
returns-clause-trun c = mask_keeps_table 0x000f05 trun_table (search rules)
