use Rattle.std.proofs.Common.{◌∙◌, ◌+ℤ◌, ap, arith, pos, refl}
use Rattle.std.proofs.lemmas.Int.{ints}
use Rattle.mp4_traf.specs.CompositionTimes.{composition_times, least_of}
use Rattle.mp4_traf.specs.Runs.{traf_of}
use Rattle.mp4_traf.proofs.CompositionTimeLemmas.{least_from}
use Rattle.mp4_grammar.specs.LinesByRows.{line_of, rows_in}
use Rattle.mp4_grammar.proofs.RowLineLemmas.{duration_is_theirs, ended_of_track, media_are_theirs, samples_are, sync_is_of_the_first, time_of_tfdt, time_of_track}
use Rattle.mp4_grammar.proofs.laws.lines_have_what_their_trafs_have.Goals as goal

pub returns-clause-track : goal.returns-clause-track
unfolding traf_of
returns-clause-track c f b = refl

pub returns-clause-own_time : goal.returns-clause-own_time
returns-clause-own_time c f b d is = time_of_tfdt f b d is

pub returns-clause-next_time : goal.returns-clause-next_time
returns-clause-next_time c f b t none is = time_of_track f b t none is

pub returns-clause-samples : goal.returns-clause-samples
returns-clause-samples c f b = samples_are f b

pub returns-clause-duration : goal.returns-clause-duration
returns-clause-duration c f b = duration_is_theirs f b

pub returns-clause-media : goal.returns-clause-media
returns-clause-media c f b = media_are_theirs f b

pub returns-clause-sync : goal.returns-clause-sync
returns-clause-sync c f b = sync_is_of_the_first f b

pub returns-clause-earliest : goal.returns-clause-earliest
unfolding traf_of
returns-clause-earliest c f b = refl

pub returns-clause-presented : goal.returns-clause-presented
unfolding traf_of
returns-clause-presented c f b some = least_from (line_of f b).time (rows_in f b) some

pub returns-clause-unpresented : goal.returns-clause-unpresented
unfolding traf_of composition_times
returns-clause-unpresented c f b none = ap (λ rows. pos (line_of f b).time +ℤ least_of (composition_times 0 rows)) none ∙ omega (arith, ints)

pub returns-clause-syncs : goal.returns-clause-syncs
unfolding traf_of
returns-clause-syncs c f b = refl

pub returns-clause-ended : goal.returns-clause-ended
returns-clause-ended c f b t is = ended_of_track f b t is
