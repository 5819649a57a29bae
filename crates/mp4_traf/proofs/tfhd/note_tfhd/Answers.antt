use Rattle.std.proofs.Common.{rules, ◌≡◌, ◌∙◌, ◌==◌, Some, ap, refl, slice_get, sym}
use Rattle.std.specs.List.{position}
use Rattle.std.proofs.lemmas.Option.{slice_get_read}
use Rattle.std.specs.Option.{option_and_then}
use Rattle.mp4_init.specs.declared.table.Track.{Track}
use Rattle.mp4_box.specs.Order.{least_from}
use Rattle.mp4_box.proofs.OrderLemmas.{least_from_append}
use Rattle.mp4_traf.specs.Rules.{tfhd_faults, track_with}
use Rattle.mp4_traf.specs.Tfhd.{track_id}
use Rattle.mp4_traf.proofs.tfhd.note_tfhd.Goals as goal

pub returns-then-index-eq0-clause-found : goal.returns-then-index-eq0-clause-found
returns-then-index-eq0-clause-found c =
    c.in-Some.ensures.first ∙ ap (λ id. position (λ (t : Track). t.id == id) c.args.tracks.now) c.track_id.ensures

pub returns-then-index-eq0-clause-best : goal.returns-then-index-eq0-clause-best
unfolding tfhd_faults least_from
returns-then-index-eq0-clause-best c =
    let tracks = c.args.tracks.now in
    let found = c.in-Some.ensures.first ∙ ap (λ id. position (λ (t : Track). t.id == id) tracks) c.track_id.ensures in
    let here = sym (slice_get_read tracks _ c.in-Some.i c.at-track.result refl c.in-Some.ensures.within c.at-track.ensures) in
    let track : Some c.at-track.result ≡ track_with (track_id c.args.tfhd.now.payload.now) tracks = here ∙ ap (option_and_then (slice_get tracks)) found in
    rw (← track) (search (rules, least_from_append))

pub returns-then-index-eq0-clause-ticks : goal.returns-then-index-eq0-clause-ticks
returns-then-index-eq0-clause-ticks c =
    let tracks = c.args.tracks.now in
    let found = c.in-Some.ensures.first ∙ ap (λ id. position (λ (t : Track). t.id == id) tracks) c.track_id.ensures in
    let here = sym (slice_get_read tracks _ c.in-Some.i c.at-track.result refl c.in-Some.ensures.within c.at-track.ensures) in
    let track : Some c.at-track.result ≡ track_with (track_id c.args.tfhd.now.payload.now) tracks = here ∙ ap (option_and_then (slice_get tracks)) found in
    rw (← track) (search rules)

pub returns-else-index-track-clause-best : goal.returns-else-index-track-clause-best
unfolding tfhd_faults least_from
returns-else-index-track-clause-best c =
    let tracks = c.args.tracks.now in
    let found = c.in-Some.ensures.first ∙ ap (λ id. position (λ (t : Track). t.id == id) tracks) c.track_id.ensures in
    let here = sym (slice_get_read tracks _ c.in-Some.i c.at-track.result refl c.in-Some.ensures.within c.at-track.ensures) in
    let track : Some c.at-track.result ≡ track_with (track_id c.args.tfhd.now.payload.now) tracks = here ∙ ap (option_and_then (slice_get tracks)) found in
    rw (← track) (search (rules, least_from_append))

pub returns-else-index-track-clause-ticks : goal.returns-else-index-track-clause-ticks
returns-else-index-track-clause-ticks c =
    let tracks = c.args.tracks.now in
    let found = c.in-Some.ensures.first ∙ ap (λ id. position (λ (t : Track). t.id == id) tracks) c.track_id.ensures in
    let here = sym (slice_get_read tracks _ c.in-Some.i c.at-track.result refl c.in-Some.ensures.within c.at-track.ensures) in
    let track : Some c.at-track.result ≡ track_with (track_id c.args.tfhd.now.payload.now) tracks = here ∙ ap (option_and_then (slice_get tracks)) found in
    rw (← track) (search rules)

pub returns-in-None-clause-best : goal.returns-in-None-clause-best
unfolding tfhd_faults least_from
returns-in-None-clause-best c = search rules
