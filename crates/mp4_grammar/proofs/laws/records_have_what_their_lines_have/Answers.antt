use Rattle.std.proofs.Common.{refl, ap}
use Rattle.mp4_grammar.specs.Presented.{once_if}
use Rattle.mp4_grammar.specs.TrafRecords.{size_or_all}
use Rattle.mp4_grammar.proofs.RowLineLemmas.{record_for_each_traf, record_has_its_track}
use Rattle.mp4_grammar.proofs.laws.records_have_what_their_lines_have.Goals as goal

pub returns-clause-records : goal.returns-clause-records
returns-clause-records c f = record_for_each_traf f

pub returns-clause-place : goal.returns-clause-place
returns-clause-place c f b = (refl, refl, refl)

pub returns-clause-sums : goal.returns-clause-sums
returns-clause-sums c f b = (refl, refl, refl, refl)

pub returns-clause-size : goal.returns-clause-size
returns-clause-size c f b n is = ap size_or_all is

pub returns-clause-open : goal.returns-clause-open
returns-clause-open c f b none = ap size_or_all none

pub returns-clause-sync : goal.returns-clause-sync
returns-clause-sync c f b is = ap once_if is

pub returns-clause-no_sync : goal.returns-clause-no_sync
returns-clause-no_sync c f b is = ap once_if is

pub returns-clause-of_track : goal.returns-clause-of_track
returns-clause-of_track c f b t is = record_has_its_track f b t is

pub returns-clause-shown : goal.returns-clause-shown
returns-clause-shown c f b = (refl, refl, refl)
