use Rattle.std.proofs.Common.{refl}
use Rattle.clap.proofs.OnLiterals.{clap_on_literals}
use Rattle.fmp4_program.specs.Words.{command_of, has_flag, invocation_of, needed_number, number_if, number_in, number_or, options_of, program_app, settings_of, split_of}
use Rattle.fmp4_program.proofs.laws.worked_words.Goals as goal

pub returns-clause-default_copy : goal.returns-clause-default_copy
unfolding clap_on_literals program_app command_of invocation_of settings_of number_or number_in
returns-clause-default_copy c = refl

pub returns-clause-least_copy : goal.returns-clause-least_copy
unfolding clap_on_literals program_app command_of invocation_of settings_of number_or number_in
returns-clause-least_copy c = refl

pub returns-clause-signed_copy : goal.returns-clause-signed_copy
unfolding clap_on_literals program_app command_of invocation_of settings_of number_or number_in
returns-clause-signed_copy c = refl

pub returns-clause-copy_too_small : goal.returns-clause-copy_too_small
unfolding clap_on_literals program_app command_of invocation_of settings_of number_or number_in
returns-clause-copy_too_small c = refl

pub returns-clause-copy_too_large : goal.returns-clause-copy_too_large
unfolding clap_on_literals program_app command_of invocation_of settings_of number_or number_in
returns-clause-copy_too_large c = refl

pub returns-clause-no_command : goal.returns-clause-no_command
unfolding clap_on_literals program_app command_of invocation_of settings_of number_or number_in
returns-clause-no_command c = refl

pub returns-clause-other_command : goal.returns-clause-other_command
unfolding clap_on_literals program_app command_of invocation_of settings_of number_or number_in
returns-clause-other_command c = refl

pub returns-clause-other_option : goal.returns-clause-other_option
unfolding clap_on_literals program_app command_of invocation_of settings_of number_or number_in
returns-clause-other_option c = refl

pub returns-clause-help : goal.returns-clause-help
unfolding clap_on_literals program_app command_of invocation_of settings_of number_or number_in
returns-clause-help c = refl

pub returns-clause-least_held : goal.returns-clause-least_held
unfolding clap_on_literals program_app command_of invocation_of settings_of number_or number_in
returns-clause-least_held c = refl

pub returns-clause-greatest_held : goal.returns-clause-greatest_held
unfolding clap_on_literals program_app command_of invocation_of settings_of number_or number_in
returns-clause-greatest_held c = refl

pub returns-clause-both_options : goal.returns-clause-both_options
unfolding clap_on_literals program_app command_of invocation_of settings_of number_or number_in
returns-clause-both_options c = refl

pub returns-clause-held_too_small : goal.returns-clause-held_too_small
unfolding clap_on_literals program_app command_of invocation_of settings_of number_or number_in
returns-clause-held_too_small c = refl

pub returns-clause-held_too_large : goal.returns-clause-held_too_large
unfolding clap_on_literals program_app command_of invocation_of settings_of number_or number_in
returns-clause-held_too_large c = refl

pub returns-clause-samples : goal.returns-clause-samples
unfolding clap_on_literals program_app command_of invocation_of settings_of number_or number_in
returns-clause-samples c = refl

pub returns-clause-fragments : goal.returns-clause-fragments
unfolding clap_on_literals program_app command_of invocation_of settings_of number_or number_in
returns-clause-fragments c = refl

pub returns-clause-cut_fragments : goal.returns-clause-cut_fragments
unfolding clap_on_literals program_app command_of invocation_of settings_of number_or number_in
returns-clause-cut_fragments c = refl

pub returns-clause-check : goal.returns-clause-check
unfolding clap_on_literals program_app command_of invocation_of settings_of number_or number_in
returns-clause-check c = refl

pub returns-clause-sync : goal.returns-clause-sync
unfolding clap_on_literals program_app command_of invocation_of settings_of number_or number_in
returns-clause-sync c = refl

pub returns-clause-index : goal.returns-clause-index
unfolding clap_on_literals program_app command_of invocation_of settings_of number_or number_in
returns-clause-index c = refl

pub returns-clause-split : goal.returns-clause-split
unfolding clap_on_literals program_app command_of invocation_of split_of options_of settings_of number_or needed_number number_if has_flag number_in
returns-clause-split c = refl

pub returns-clause-split_duration : goal.returns-clause-split_duration
unfolding clap_on_literals program_app command_of invocation_of split_of options_of settings_of number_or needed_number number_if has_flag number_in
returns-clause-split_duration c = refl

pub returns-clause-split_duration_and_samples : goal.returns-clause-split_duration_and_samples
unfolding clap_on_literals program_app command_of invocation_of split_of options_of settings_of number_or needed_number number_if has_flag number_in
returns-clause-split_duration_and_samples c = refl

pub returns-clause-split_keyframes : goal.returns-clause-split_keyframes
unfolding clap_on_literals program_app command_of invocation_of split_of options_of settings_of number_or needed_number number_if has_flag number_in
returns-clause-split_keyframes c = refl

pub returns-clause-split_keyframes_alone : goal.returns-clause-split_keyframes_alone
unfolding clap_on_literals program_app command_of invocation_of split_of options_of settings_of number_or needed_number number_if has_flag number_in
returns-clause-split_keyframes_alone c = refl

pub returns-clause-split_keyframes_and_sync : goal.returns-clause-split_keyframes_and_sync
unfolding clap_on_literals program_app command_of invocation_of split_of options_of settings_of number_or needed_number number_if has_flag number_in
returns-clause-split_keyframes_and_sync c = refl

pub returns-clause-split_no_duration : goal.returns-clause-split_no_duration
unfolding clap_on_literals program_app command_of invocation_of split_of options_of settings_of number_or needed_number number_if has_flag number_in
returns-clause-split_no_duration c = refl

pub returns-clause-split_too_long : goal.returns-clause-split_too_long
unfolding clap_on_literals program_app command_of invocation_of split_of options_of settings_of number_or needed_number number_if has_flag number_in
returns-clause-split_too_long c = refl

pub returns-clause-split_index : goal.returns-clause-split_index
unfolding clap_on_literals program_app command_of invocation_of split_of options_of settings_of number_or needed_number number_if has_flag number_in
returns-clause-split_index c = refl

pub returns-clause-split_sync : goal.returns-clause-split_sync
unfolding clap_on_literals program_app command_of invocation_of split_of options_of settings_of number_or needed_number number_if has_flag number_in
returns-clause-split_sync c = refl

pub returns-clause-split_all : goal.returns-clause-split_all
unfolding clap_on_literals program_app command_of invocation_of split_of options_of settings_of number_or needed_number number_if has_flag number_in
returns-clause-split_all c = refl

pub returns-clause-split_least : goal.returns-clause-split_least
unfolding clap_on_literals program_app command_of invocation_of split_of options_of settings_of number_or needed_number number_if has_flag number_in
returns-clause-split_least c = refl

pub returns-clause-split_most : goal.returns-clause-split_most
unfolding clap_on_literals program_app command_of invocation_of split_of options_of settings_of number_or needed_number number_if has_flag number_in
returns-clause-split_most c = refl

pub returns-clause-split_without_samples : goal.returns-clause-split_without_samples
unfolding clap_on_literals program_app command_of invocation_of split_of options_of settings_of number_or needed_number number_if has_flag number_in
returns-clause-split_without_samples c = refl

pub returns-clause-split_without_number : goal.returns-clause-split_without_number
unfolding clap_on_literals program_app command_of invocation_of split_of options_of settings_of number_or needed_number number_if has_flag number_in
returns-clause-split_without_number c = refl

pub returns-clause-split_no_samples : goal.returns-clause-split_no_samples
unfolding clap_on_literals program_app command_of invocation_of split_of options_of settings_of number_or needed_number number_if has_flag number_in
returns-clause-split_no_samples c = refl

pub returns-clause-split_too_many_samples : goal.returns-clause-split_too_many_samples
unfolding clap_on_literals program_app command_of invocation_of split_of options_of settings_of number_or needed_number number_if has_flag number_in
returns-clause-split_too_many_samples c = refl

pub returns-clause-split_no_bytes : goal.returns-clause-split_no_bytes
unfolding clap_on_literals program_app command_of invocation_of split_of options_of settings_of number_or needed_number number_if has_flag number_in
returns-clause-split_no_bytes c = refl

pub returns-clause-split_too_many_bytes : goal.returns-clause-split_too_many_bytes
unfolding clap_on_literals program_app command_of invocation_of split_of options_of settings_of number_or needed_number number_if has_flag number_in
returns-clause-split_too_many_bytes c = refl

pub returns-clause-split_samples_again : goal.returns-clause-split_samples_again
unfolding clap_on_literals program_app command_of invocation_of split_of options_of settings_of number_or needed_number number_if has_flag number_in
returns-clause-split_samples_again c = refl

pub returns-clause-split_index_again : goal.returns-clause-split_index_again
unfolding clap_on_literals program_app command_of invocation_of split_of options_of settings_of number_or needed_number number_if has_flag number_in
returns-clause-split_index_again c = refl

pub returns-clause-split_copy_too_small : goal.returns-clause-split_copy_too_small
unfolding clap_on_literals program_app command_of invocation_of split_of options_of settings_of number_or needed_number number_if has_flag number_in
returns-clause-split_copy_too_small c = refl

pub returns-clause-split_held_too_small : goal.returns-clause-split_held_too_small
unfolding clap_on_literals program_app command_of invocation_of split_of options_of settings_of number_or needed_number number_if has_flag number_in
returns-clause-split_held_too_small c = refl

pub returns-clause-bytes_of_samples : goal.returns-clause-bytes_of_samples
unfolding clap_on_literals program_app command_of invocation_of split_of options_of settings_of number_or needed_number number_if has_flag number_in
returns-clause-bytes_of_samples c = refl
