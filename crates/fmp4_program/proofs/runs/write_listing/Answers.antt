use Rattle.fmp4_program.proofs.runs.write_listing.Goals as goal

pub returns-in-Boxes-clause-runs : goal.returns-in-Boxes-clause-runs
returns-in-Boxes-clause-runs g c = rw c.in-Boxes.is c.boxes.ensures.runs

pub returns-in-Samples-clause-runs : goal.returns-in-Samples-clause-runs
returns-in-Samples-clause-runs g c = rw c.in-Samples.is (c.samples.new.totals, c.samples.ensures.runs)

pub returns-in-Fragments-clause-runs : goal.returns-in-Fragments-clause-runs
returns-in-Fragments-clause-runs g c = rw c.in-Fragments.is (c.fragments.new.totals, c.fragments.ensures.runs)
