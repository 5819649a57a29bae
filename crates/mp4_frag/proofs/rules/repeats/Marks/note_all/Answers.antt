use Rattle.std.proofs.Common.{◌≡◌, ◌∙◌, ◌+◌, ◌++◌, ◌∷◌, [], drop, length, List, Option, sym, ap, arith}
use Rattle.mp4_box.specs.declared.rules.Fault.{Fault}
use Rattle.mp4_box.specs.Trees.{Box, view, children}
use Rattle.mp4_box.specs.Order.{least_from}
use Rattle.mp4_frag.specs.Repeats.{repeats, trafs_before}
use Rattle.mp4_frag.specs.Implementation.RepeatMarks.{marks}
use Rattle.mp4_frag.proofs.PassLemmas.{trafs, before_more, after_more, marks_more, repeats_more}
use Rattle.mp4_frag.proofs.rules.repeats.Marks.note_all.Goals as goal

pub loop-child-preserved : goal.loop-child-preserved
loop-child-preserved g c =
    let m = view c.args.moof.now in
    let n = c.loop-child.passed in
    let b = view c.in-Some.child in
    let bs = c.next.new.self in
    let old = c.note_child.new.self in
    let first : c.loop-child.child-iterator ≡ b ∷ bs = c.in-Some.ensures.steps in
    let here : drop n (children m) ≡ b ∷ bs = c.loop-child.invariant.rest ∙ first in
    let more : trafs_before (n + 1) m ≡ trafs_before n m ++ trafs (b ∷ []) = before_more n m b bs here in
    record {
      few = omega (arith, c.loop-child.invariant.few, ap (λ (zs : List Box). length zs) first);
      rest = sym (after_more n (children m) b bs here);
      seen =
          c.pass.ensures.seen
          ∙ marks_more g.row.N old.ids.items old.seen (trafs_before n m) (trafs (b ∷ [])) c.note_child.ensures.seen
          ∙ ap (λ (ts : List Box). marks g.row.N old.ids.items ts) (sym more)
          ∙ ap (λ ids. marks g.row.N ids.items (trafs_before (n + 1) m)) (sym c.pass.ensures.ids);
      left =
          ap (λ (best : Option Fault). least_from best (repeats (trafs_before (n + 1) m) (trafs bs))) c.note_child.ensures.best
          ∙ ap (λ (ts : List Box). least_from (least_from c.loop-child.best (repeats (trafs_before n m) (trafs (b ∷ [])))) (repeats ts (trafs bs))) more
          ∙ sym (repeats_more c.loop-child.best (trafs_before n m) b bs)
          ∙ ap (λ (zs : List Box). least_from c.loop-child.best (repeats (trafs_before n m) (trafs zs))) (sym first)
          ∙ c.loop-child.invariant.left;
    }
