use Rattle.std.proofs.Common.{ap, arith, length}
use Rattle.std.proofs.lemmas.List.{length-take-le}
use Rattle.mp4_lines.proofs.AgainLemmas.{again}
use Rattle.mp4_lines.proofs.text.Text.push_again.Goals as goal

pub returns-clause-text : goal.returns-clause-text
returns-clause-text g c =
    let all = c.self.inside.bytes in
    let len = c.self.inside.len in
    let text = length-take-le len all (omega arith) in
    let seen = ap length c.self.view_is in
    rw (← c.self.view_is) (again 32 all len c.args.from c.args.n _ (omega arith) (omega (arith, text, seen)) (omega arith) (omega (arith, text, seen)))
