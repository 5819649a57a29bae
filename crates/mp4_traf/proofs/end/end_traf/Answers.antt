use Rattle.std.proofs.Common.{◌≡◌, ◌∙◌, ◌==◌, ◌+◌, ℕ, [], ◌∷◌, ap, arith, refl, rules, sym, true}
use Rattle.std.specs.List.{position}
use Rattle.mp4_box.specs.Paths.{of_kind}
use Rattle.mp4_box.specs.Trees.{children, view}
use Rattle.mp4_init.specs.declared.table.Track.{Track}
use Rattle.mp4_traf.specs.Kinds.{is_kind, trun}
use Rattle.mp4_traf.specs.Runs.{Shared, moof_at, track_of, traf_of}
use Rattle.mp4_traf.specs.Implementation.TrafContexts.{shared_of}
use Rattle.mp4_traf.specs.Settling.{timed, timed_in}
use Rattle.mp4_traf.specs.Trun.{sample_fields}
use Rattle.mp4_traf.specs.Implementation.Ends.{ticks_from}
use Rattle.mp4_traf.specs.Implementation.Times.{late_from}
use Rattle.mp4_traf.proofs.ChildLemmas.{path_kind}
use Rattle.mp4_traf.proofs.EndLemmas.{ended_is, late_on, tick_fits, tick_more, ticks_on, timed_on}
use Rattle.mp4_traf.proofs.end.end_traf.Goals as goal

pub loop-child-init : goal.loop-child-init
unfolding traf_of
loop-child-init c =
    let t = view c.args.traf.now in
    let start = c.start_of-start in
    let s = shared_of start.result.context in
    let e = ap (of_kind trun) c.into_iter-child-iterator.ensures.into_iter_gives ∙ start.ensures.truns in
    let late : late_from s start.result.time (of_kind trun start.result.rest) ≡ [] = search rules in
    record {
      left = ap (ticks_from s start.result.time) e;
      late = ap (λ bs. late_from s start.result.time (of_kind trun bs)) c.into_iter-child-iterator.ensures.into_iter_gives ∙ late;
      count = ap (λ (n : ℕ). c.args.count.now + n) (ap timed_in (e ∙ sym (path_kind trun t)));
    }

pub overflow_add-count : goal.overflow_add-count
unfolding sample_fields
overflow_add-count c =
    let s = shared_of c.start_of-start.result.context in
    let b = view c.in-Some.child in
    let rest = of_kind trun c.next.new.self in
    let all = of_kind trun c.loop-child.child-iterator in
    let kind : is_kind trun b ≡ true = search rules in
    let first : of_kind trun (b ∷ c.next.new.self) ≡ b ∷ rest = rw kind refl in
    let e : all ≡ b ∷ rest = ap (of_kind trun) c.in-Some.ensures.steps ∙ first in
    let own : c.sample_count.result ≡ timed b.payload = search rules in
    let count = timed_on _ b all rest e own in
    omega (arith, count, c.loop-child.invariant.count, c.requires.few)

pub loop-child-preserved-then-is_some : goal.loop-child-preserved-then-is_some
unfolding sample_fields
loop-child-preserved-then-is_some c =
    let s = shared_of c.start_of-start.result.context in
    let b = view c.in-Some.child in
    let rest = of_kind trun c.next.new.self in
    let all = of_kind trun c.loop-child.child-iterator in
    let kind : is_kind trun b ≡ true = search rules in
    let first : of_kind trun (b ∷ c.next.new.self) ≡ b ∷ rest = rw kind refl in
    let e : all ≡ b ∷ rest = ap (of_kind trun) c.in-Some.ensures.steps ∙ first in
    let own : c.sample_count.result ≡ timed b.payload = search rules in
    let count = timed_on _ b all rest e own in
    record {
      left = ticks_on s c.loop-child.end c.ticks_in-end.result b all rest e c.ticks_in-end.ensures ∙ c.loop-child.invariant.left;
      late = late_on s c.loop-child.end c.ticks_in-end.result b all rest e c.ticks_in-end.ensures c.loop-child.invariant.late;
      count = omega (arith, count, c.loop-child.invariant.count);
    }

pub loop-child-preserved-else-is_some : goal.loop-child-preserved-else-is_some
unfolding sample_fields
loop-child-preserved-else-is_some c =
    let s = shared_of c.start_of-start.result.context in
    let b = view c.in-Some.child in
    let rest = of_kind trun c.next.new.self in
    let all = of_kind trun c.loop-child.child-iterator in
    let kind : is_kind trun b ≡ true = search rules in
    let first : of_kind trun (b ∷ c.next.new.self) ≡ b ∷ rest = rw kind refl in
    let e : all ≡ b ∷ rest = ap (of_kind trun) c.in-Some.ensures.steps ∙ first in
    let own : 0 ≡ timed b.payload = search rules in
    let count = timed_on _ b all rest e own in
    record {
      left = ticks_on s c.loop-child.end c.ticks_in-end.result b all rest e c.ticks_in-end.ensures ∙ c.loop-child.invariant.left;
      late = late_on s c.loop-child.end c.ticks_in-end.result b all rest e c.ticks_in-end.ensures c.loop-child.invariant.late;
      count = omega (arith, count, c.loop-child.invariant.count);
    }

pub returns-in-Some-track-clause-tracks : goal.returns-in-Some-track-clause-tracks
unfolding ticks_from
returns-in-Some-track-clause-tracks c =
    let tracks = c.args.tracks.now in
    let t = view c.args.traf.now in
    let start = c.start_of-start in
    let s = shared_of start.result.context in
    let end = c.loop-child.end in
    let all : end ≡ ticks_from s start.result.time (of_kind trun (children t)) = ap (λ bs. ticks_from s end (of_kind trun bs)) (sym c.in-None.ensures.steps.0) ∙ c.loop-child.invariant.left in
    c.set_next.ensures.next
    ∙ ended_is (moof_at c.args.moof_bytes.now c.args.moof) tracks t (track_of tracks t) s start.result.time end c.in-Some-track.i refl start.ensures.shared start.ensures.time all
    (ap (λ (x : Shared). position (λ (u : Track). u.id == x.header.track) tracks) start.ensures.shared ∙ sym start.ensures.track ∙ c.in-Some-track.is)

pub overflow_add-end : goal.overflow_add-end
unfolding ticks_from traf_of
overflow_add-end c = grind (arith, tick_fits, tick_more)

pub returns-in_default-clause-tracks : goal.returns-in_default-clause-tracks
unfolding ticks_from traf_of
returns-in_default-clause-tracks c = grind (arith, tick_fits, tick_more)
