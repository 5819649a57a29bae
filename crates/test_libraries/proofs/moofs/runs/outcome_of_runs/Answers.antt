use Rattle.std.proofs.Common.{◌∙◌, [], ◌++◌, List, ap, sym}
use Rattle.std.specs.List.{flat_map}
use Rattle.mp4_traf.specs.declared.run.Run.{Run}
use Rattle.mp4_traf.specs.Runs.{TrackFragment, runs_of}
use Rattle.test_libraries.proofs.moofs.runs.outcome_of_runs.Goals as goal

pub after-requires-clause-run : goal.after-requires-clause-run
after-requires-clause-run c =
    let runs = ap (λ (ts : List TrackFragment). flat_map runs_of ts) (sym c.trafs-trafs.ensures ∙ c.in-Some.ensures.steps) in
    let first = ap (λ (xs : List Run). xs ++ flat_map runs_of c.next.new.self) (sym c.runs-runs.ensures ∙ c.in-Some-next.ensures.steps) in
    ([], c.next-in-Some.new.self ++ flat_map runs_of c.next.new.self, record { is = runs ∙ first })
