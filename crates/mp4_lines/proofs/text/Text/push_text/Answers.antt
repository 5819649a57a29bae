use Rattle.std.proofs.Common.{ap, arith, length, refl}
use Rattle.std.proofs.lemmas.List.{length-take-le}
use Rattle.std.proofs.lemmas.Slice.{take-put_mid}
use Rattle.mp4_lines.proofs.MoreLemmas.{more}
use Rattle.mp4_lines.proofs.text.Text.push_text.Goals as goal

pub returns-clause-text : goal.returns-clause-text
returns-clause-text g c =
    let all = c.self.inside.bytes in
    let at = c.self.inside.len in
    let bytes = c.more.inside.bytes in
    let text = length-take-le at all (omega arith) in
    let seen = ap length c.self.view_is in
    rw (← c.self.view_is, ← c.more.view_is, c.copy_from_slice.ensures.after) (more _ all bytes at c.more.inside.len (take-put_mid at _ all bytes _ refl (omega arith)) (omega arith) (omega (arith, text, seen)))
