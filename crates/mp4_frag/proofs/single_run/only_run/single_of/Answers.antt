use Rattle.std.proofs.Common.{◌∙◌, ◌==◌, ℕ, Option, ap, pos, refl, subst, sym}
use Rattle.std.specs.Prelude.{IsSome}
use Rattle.std.specs.List.{position}
use Rattle.mp4_box.specs.Trees.{view}
use Rattle.mp4_init.specs.declared.table.Track.{Track}
use Rattle.mp4_traf.specs.Tfhd.{track_id}
use Rattle.mp4_traf.specs.Runs.{base_of, moof_at, shared_by, track_of}
use Rattle.mp4_frag.proofs.SingleRunLemmas.{not_single}
use Rattle.mp4_traf.proofs.StartLemmas.{Starts}
use Rattle.mp4_frag.proofs.single_run.only_run.single_of.Goals as goal

pub returns-in_default-clause-none : goal.returns-in_default-clause-none
returns-in_default-clause-none c =
    let h = moof_at c.args.moof_bytes.now c.args.moof in
    let t = view c.args.traf.now in
    let track = track_of c.args.tracks.now t in
    let rest = c.heads_of-heads.result.rest in
    let starts : Starts h c.args.tracks.now t (shared_by h track t) (base_of track.next t) (pos c.args.moof) rest = record { shared = refl; begins = refl; last = refl; truns = c.heads_of-heads.ensures.truns } in
    not_single h c.args.tracks.now t (shared_by h track t) (base_of track.next t) (pos c.args.moof) rest starts c.in_default.ensures.none

pub run_with-requires-clause-trun : goal.run_with-requires-clause-trun
run_with-requires-clause-trun c = sym c.heads_of-heads.ensures.truns ∙ c.in-Some.ensures.only

pub unwrap-track-requires : goal.unwrap-track-requires
unwrap-track-requires c =
    let id = ap track_id (sym c.heads_of-heads.ensures.tfhd) ∙ sym c.track_id.ensures in
    subst (λ (i : Option ℕ). IsSome i) (ap (λ id. position (λ (t : Track). t.id == id) c.args.tracks.now) id ∙ sym c.find.ensures.first) c.requires.known

pub run_with-requires-clause-track : goal.run_with-requires-clause-track
run_with-requires-clause-track c =
    ap (λ id. position (λ (t : Track). t.id == id) c.args.tracks.now) (sym c.track_id.ensures) ∙ sym c.find.ensures.first ∙ c.unwrap-track.ensures
