use Rattle.std.proofs.Common.{ap, refl}
use Rattle.std.specs.Int.{bytes_high_first}
use Rattle.mp4_box.specs.Fields.{number_in}
use Rattle.mp4_box.specs.Trees.{Box}
use Rattle.mp4_init.specs.Tracks.{field_of, track_of}
use Rattle.mp4_grammar.specs.TrackLines.{kinds_by}
use Rattle.mp4_grammar.proofs.laws.lines_have_what_their_tracks_have.Goals as goal

pub returns-clause-lines : goal.returns-clause-lines
returns-clause-lines c moov = refl

pub returns-clause-id : goal.returns-clause-id
unfolding track_of
returns-clause-id c moov b = refl

pub returns-clause-timescale : goal.returns-clause-timescale
unfolding track_of
returns-clause-timescale c moov b = refl

pub returns-clause-entries : goal.returns-clause-entries
unfolding track_of
returns-clause-entries c moov b = refl

pub returns-clause-handler : goal.returns-clause-handler
unfolding track_of
returns-clause-handler c moov b h is = ap (λ o. bytes_high_first 4 (field_of (λ (h : Box). number_in h.payload 8) o)) is

pub returns-clause-no_handler : goal.returns-clause-no_handler
unfolding track_of
returns-clause-no_handler c moov b none = ap (λ o. bytes_high_first 4 (field_of (λ (h : Box). number_in h.payload 8) o)) none

pub returns-clause-kinds : goal.returns-clause-kinds
returns-clause-kinds c b s is = ap kinds_by is
