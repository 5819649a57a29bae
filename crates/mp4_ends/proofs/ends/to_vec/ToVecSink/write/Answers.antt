use Rattle.std.proofs.Common.{arith, inr}
use Rattle.mp4_ends.proofs.ends.to_vec.ToVecSink.write.Goals as goal

pub returns-then-n-eq0-clause-fails : goal.returns-then-n-eq0-clause-fails
returns-then-n-eq0-clause-fails c =
    inr (rw (← c.self.view_is) (omega (arith, c.self.invariant, c.requires, c.min-n.ensures, c.min.ensures, c.len.ensures)))
