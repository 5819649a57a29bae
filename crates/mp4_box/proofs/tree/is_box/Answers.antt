use Rattle.std.proofs.Common.{sym, arith, length}
use Rattle.std.proofs.lemmas.Bool.Decides.{Decides-eqb}
use Rattle.mp4_box.specs.Trees.{view, box_len}
use Rattle.mp4_box.proofs.GrammarLemmas.{is_whole, whole_len, whole_found}
use Rattle.mp4_box.proofs.tree.is_box.Goals as goal

pub returns-in-Some : goal.returns-in-Some
returns-in-Some c =
    let test = Decides-eqb (box_len (view c.in-Some.this)) (length c.args.bytes.now) in (
      λ e. is_whole c.args.bytes.now (view c.in-Some.this) (λ i. omega (arith, c.type_inv.bytes i)) (sym c.in-Some.ensures.exact) (test.0 e),
      λ w. test.1 (whole_len 0 c.args.bytes.now (view c.in-Some.this) w (sym c.in-Some.ensures.exact)),
    )

pub returns-in-None : goal.returns-in-None
returns-in-None c = (λ e. absurd cc, λ w. absurd (whole_found 0 c.args.bytes.now w (sym c.in-None.ensures.exact)))
