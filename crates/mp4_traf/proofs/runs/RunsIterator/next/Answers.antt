use Rattle.std.proofs.Common.{◌∙◌, List, arith, sym, ap, subst}
use Rattle.std.specs.List.{AllByRecursion}
use Rattle.mp4_box.specs.Paths.{of_kind}
use Rattle.mp4_box.specs.Trees.{view}
use Rattle.mp4_traf.specs.declared.run.Run.{Run}
use Rattle.mp4_traf.specs.Kinds.{trun}
use Rattle.mp4_traf.specs.Ranges.{InRange}
use Rattle.mp4_traf.specs.Runs.{runs_from}
use Rattle.mp4_traf.specs.Implementation.TrafContexts.{shared_of}
use Rattle.mp4_traf.proofs.RunLemmas.{first_in_range, next_is, runs_none}
use Rattle.mp4_traf.proofs.runs.RunsIterator.next.Goals as goal

pub returns-in_default-clause-steps : goal.returns-in_default-clause-steps
returns-in_default-clause-steps c =
    let r = c.self.inside in
    let s = shared_of r.context in
    let none = runs_none s r.run_start.time r.run_start.place (of_kind trun c.next_of.new.walk) c.in_default.ensures.none in
    (sym c.self.view_is ∙ ap (runs_from s r.run_start.time r.run_start.place) c.in_default.ensures.first ∙ none, none)

pub run_of-run-requires : goal.run_of-run-requires
run_of-run-requires c =
    let r = c.self.inside in
    (first_in_range (shared_of r.context) r.run_start.time r.run_start.place (view c.in-Some.trun) (of_kind trun r.walk) (of_kind trun c.next_of.new.walk) c.in-Some.ensures.first c.self.invariant).fits

pub run_end-self-inside-requires : goal.run_end-self-inside-requires
run_end-self-inside-requires c =
    let r = c.self.inside in
    subst InRange (sym c.run_of-run.ensures)
    (first_in_range (shared_of r.context) r.run_start.time r.run_start.place (view c.in-Some.trun) (of_kind trun r.walk) (of_kind trun c.next_of.new.walk) c.in-Some.ensures.first c.self.invariant).here

pub returns-clause-steps : goal.returns-clause-steps
returns-clause-steps c =
    let r = c.self.inside in
    let end = c.run_end-self-inside in
    sym c.self.view_is
    ∙ next_is (shared_of r.context) r.run_start.time r.run_start.place (view c.in-Some.trun) (of_kind trun r.walk) (of_kind trun c.next_of.new.walk)
    c.run_of-run.result end.result.time end.result.place c.in-Some.ensures.first c.run_of-run.ensures end.ensures.time end.ensures.place

pub returns-clause-goes : goal.returns-clause-goes
returns-clause-goes c = rw (returns-clause-steps c) (record { on = λ _. (tt, tt, omega arith); keeps = tt; rests = λ _. tt })

pub invariant_of-self-2 : goal.invariant_of-self-2
invariant_of-self-2 c = (subst (λ (runs : List Run). AllByRecursion InRange runs) (c.self.view_is ∙ returns-clause-steps c) c.self.invariant).1
