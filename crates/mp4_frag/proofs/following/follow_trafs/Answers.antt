use Rattle.std.proofs.Common.{◌≡◌, ◌∙◌, ◌+◌, ◌<◌, ◌^◌, ◌∷◌, [], ◌++◌, ap, arith, rules, refl, sym}
use Rattle.std.specs.Prelude.{take}
use Rattle.std.specs.List.{sum_by}
use Rattle.mp4_box.specs.Paths.{at_path}
use Rattle.mp4_traf.specs.Kinds.{traf}
use Rattle.mp4_box.specs.Trees.{view}
use Rattle.mp4_traf.specs.Runs.{MoofBytes, traf_of}
use Rattle.mp4_frag.specs.TrafEnds.{few_trafs, traf_end}
use Rattle.mp4_frag.specs.Implementation.Following.{all_follow, bytes_with, ends_by, past_runs, runs_of_trafs, timed_run}
use Rattle.mp4_frag.proofs.FollowingLemmas.{follow_on, past_on, sum_on}
use Rattle.mp4_frag.proofs.TrafEndLemmas.{kept_first, kept_on}
use Rattle.mp4_frag.proofs.following.follow_trafs.Goals as goal

pub loop-traf-preserved : goal.loop-traf-preserved
loop-traf-preserved c =
    let h : MoofBytes = record { bytes = c.args.moof_bytes.now; offset = c.args.offset } in
    let tracks = c.args.tracks.now in
    let bs = c.loop-traf.traf-iterator in
    let rest = c.next.new.self in
    let b = view c.in-Some.traf in
    let steps : bs ≡ b ∷ rest = c.in-Some.ensures.steps in
    let all = at_path (traf ∷ []) (view c.args.moof.now) in
    let timed = c.follow_traf.ensures.timed cc in
    let same = sum_on h tracks bs rest b steps timed_run c.loop-traf.so_far.timed c.follow_traf.new.so_far.timed (c.loop-traf.so_far.timed + sum_by timed_run (runs_of_trafs h tracks bs)) timed refl in
    let less : c.follow_traf.new.so_far.timed + sum_by timed_run (runs_of_trafs h tracks rest) < 2 ^ 32 = omega (arith, same, c.loop-traf.invariant.8) in
    let t = traf_end (traf_of h c.args.tracks.now (view c.in-Some.traf)) in (
      tt,
      tt,
      search rules,
      follow_on h tracks bs rest b steps c.args.payload c.loop-traf.so_far.end c.follow_traf.new.so_far.end (all_follow c.args.payload c.args.so_far.now.end (runs_of_trafs h tracks all)) (sym c.follow_traf.ensures.is ∙ cc) (c.follow_traf.ensures.end cc) c.loop-traf.invariant.3,
      past_on h tracks bs rest b steps c.loop-traf.so_far.end c.follow_traf.new.so_far.end (past_runs c.args.so_far.now.end (runs_of_trafs h tracks all)) (c.follow_traf.ensures.end cc) c.loop-traf.invariant.4,
      sum_on h tracks bs rest b steps bytes_with c.loop-traf.so_far.bytes c.follow_traf.new.so_far.bytes (c.args.so_far.now.bytes + sum_by bytes_with (runs_of_trafs h tracks all)) (c.follow_traf.ensures.bytes cc) c.loop-traf.invariant.5,
      c.follow_traf.ensures.room cc,
      sum_on h tracks bs rest b steps timed_run c.loop-traf.so_far.timed c.follow_traf.new.so_far.timed (c.args.so_far.now.timed + sum_by timed_run (runs_of_trafs h tracks all)) timed c.loop-traf.invariant.7,
      less,
      kept_on few_trafs c.loop-traf.ends.ends.items c.follow_traf.new.ends.ends.items (ends_by h c.args.tracks.now c.next.new.self) t (c.follow_traf.ensures.ends cc) ∙ (ap (λ bs. take few_trafs (c.loop-traf.ends.ends.items ++ ends_by h c.args.tracks.now bs)) (sym c.in-Some.ensures.steps) ∙ c.loop-traf.invariant.9),
      kept_first few_trafs (c.loop-traf.ends.ends.items ++ t ∷ []) c.follow_traf.new.ends.ends.items (c.follow_traf.ensures.ends cc),
    )

pub returns-clause-ends : goal.returns-clause-ends
returns-clause-ends c = λ _. search rules
