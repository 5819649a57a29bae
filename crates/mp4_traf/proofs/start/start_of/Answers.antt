use Rattle.std.proofs.Common.{◌≡◌, ◌∙◌, ◌==◌, ℕ, Option, ap, refl}
use Rattle.std.specs.Prelude.{slice_get}
use Rattle.std.specs.List.{position}
use Rattle.std.specs.Option.{option_and_then, unwrap_or}
use Rattle.mp4_box.specs.Trees.{view}
use Rattle.mp4_init.specs.declared.table.Track.{Track}
use Rattle.mp4_traf.specs.Runs.{base_of, no_track, tfhd_of, track_of}
use Rattle.mp4_traf.specs.Tfhd.{track_id}
use Rattle.mp4_traf.proofs.start.start_of.Goals as goal

found : (c : goal.After-unwrap_or) → c.find-at.result ≡ position (λ (t : Track). t.id == track_id (tfhd_of (view c.args.traf.now))) c.args.tracks.now
found c =
    c.find-at.ensures.first ∙ ap (λ (id : ℕ). position (λ (t : Track). t.id == id) c.args.tracks.now) (c.track_id.ensures ∙ ap track_id c.heads_of-heads.ensures.tfhd)

known : (c : goal.After-unwrap_or) → c.track_at-track.result ≡ track_of c.args.tracks.now (view c.args.traf.now)
known c = c.track_at-track.ensures ∙ ap (λ (o : Option ℕ). unwrap_or (option_and_then (slice_get c.args.tracks.now) o) no_track) (found c)

pub returns-clause-shared : goal.returns-clause-shared
returns-clause-shared c = rw (c.header_by.ensures.header, c.end_in.ensures, known c, c.heads_of-heads.ensures.tfhd) refl

pub returns-clause-time : goal.returns-clause-time
returns-clause-time c =
    c.unwrap_or.ensures ∙ c.heads_of-heads.ensures.time c.track_at-track.result.next ∙ ap (λ (t : Track). base_of t.next (view c.args.traf.now)) (known c)

pub returns-clause-track : goal.returns-clause-track
returns-clause-track c = found c
