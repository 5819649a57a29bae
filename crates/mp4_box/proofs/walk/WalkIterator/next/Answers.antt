use Rattle.std.proofs.Common.{◌≡◌, ◌∙◌, ◌+◌, ◌∷◌, ℕ, suc, List, length, drop, sym, ap, arith}
use Rattle.mp4_box.specs.Trees.{view, box_len, boxes}
use Rattle.mp4_box.proofs.TreeLemmas.{boxes_more}
use Rattle.mp4_box.proofs.walk.WalkIterator.next.Goals as goal

step : (c : goal.After-self-1) → c.args.self.now ≡ view c.in-Some.child ∷ boxes (c.self.inside.offset + box_len (view c.in-Some.child)) c.split_at.result.1.now
step c =
    let child = c.in-Some.ensures in
    let o = c.self.inside.offset in
    let x = c.self.inside.rest.now in
    let b = view c.in-Some.child in
    let back : c.split_at.result.1.now ≡ drop (box_len b) x = c.split_at.ensures.back in
    sym c.self.view_is ∙ boxes_more o x b (sym child.exact) child.within.0 child.within.1 ∙ ap (λ (y : List ℕ). b ∷ boxes (o + box_len b) y) (sym back)

pub returns-clause-steps : goal.returns-clause-steps
returns-clause-steps c = step c

pub returns-clause-goes : goal.returns-clause-goes
returns-clause-goes c =
    let e : length c.args.self.now ≡ suc (length (boxes (c.self.inside.offset + box_len (view c.in-Some.child)) c.split_at.result.1.now)) = ap length (step c) in
    record { on = λ _. (tt, tt, omega (arith, e)); keeps = tt; rests = λ _. tt }
