use Rattle.std.proofs.Common.{rules, inr}
use Rattle.fmp4_program.proofs.runs.run.Goals as goal
use Rattle.fmp4_program.proofs.runs.run.Goals.{in-Boxes, in-Samples, in-Fragments, in-Check, in-Split}

pub returns : goal.returns
returns g c =
    let asked = rw c.as_slice.ensures.value at c.in-Ok.ensures.ok in
    rw asked (inr (elim c.match-asked.branch [
      | in-Boxes w ↦ search rules
      | in-Samples w ↦ search rules
      | in-Fragments w ↦ search rules
      | in-Check w ↦ search rules
      | in-Split w ↦ search rules
    ]))
