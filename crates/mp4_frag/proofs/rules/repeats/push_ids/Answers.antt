use Rattle.std.proofs.Common.{◌∙◌, ◌++◌, ◌∷◌, [], ℕ, List, drop, take, sym, ap, append-nil}
use Rattle.mp4_box.specs.Trees.{Box, view}
use Rattle.mp4_frag.specs.Repeats.{untimed_ids}
use Rattle.mp4_frag.proofs.PassLemmas.{trafs, drop_first, no_untimed, room_for_all, untimed_next}
use Rattle.mp4_frag.proofs.rules.repeats.push_ids.Goals as goal

pub loop-child-preserved-then-left-eq0 : goal.loop-child-preserved-then-left-eq0
loop-child-preserved-then-left-eq0 g c =
    let so_far = c.loop-child.ids.items in
    let here = view c.in-Some.child in
    let later = c.next.new.self in
    record {
      fits = c.push_id.ensures.fits;
      rest =
          ap (λ (xs : List ℕ). xs ++ untimed_ids (trafs (drop c.loop-child.left later))) c.push_id.ensures.ids
          ∙ ap (λ (n : ℕ). so_far ++ untimed_ids (trafs (here ∷ [])) ++ untimed_ids (trafs (drop n later))) c.if-left-eq0.true
          ∙ untimed_next so_far here later
          ∙ ap (λ (n : ℕ). so_far ++ untimed_ids (trafs (drop n (here ∷ later)))) (sym c.if-left-eq0.true)
          ∙ ap (λ (bs : List Box). so_far ++ untimed_ids (trafs (drop c.loop-child.left bs))) (sym c.in-Some.ensures.steps)
          ∙ c.loop-child.invariant.rest;
    }

pub loop-child-preserved : goal.loop-child-preserved
loop-child-preserved g c =
    let so_far = c.loop-child.ids.items in
    record {
      fits = c.loop-child.invariant.fits;
      rest =
          ap (λ (bs : List Box). so_far ++ untimed_ids (trafs bs)) (sym (drop_first c.loop-child.left (view c.in-Some.child) c.next.new.self c.if-left-eq0.false))
          ∙ ap (λ (bs : List Box). so_far ++ untimed_ids (trafs (drop c.loop-child.left bs))) (sym c.in-Some.ensures.steps)
          ∙ c.loop-child.invariant.rest;
    }

pub returns : goal.returns
returns g c =
    let so_far = c.loop-child.ids.items in
    room_for_all g.row.N so_far c.loop-child.invariant.fits ∙ ap (λ (xs : List ℕ). take g.row.N xs)
    (sym (append-nil so_far) ∙ ap (λ (xs : List ℕ). so_far ++ xs) (sym (no_untimed c.loop-child.left))
    ∙ ap (λ (bs : List Box). so_far ++ untimed_ids (trafs (drop c.loop-child.left bs))) (sym c.in-None.ensures.steps.0)
    ∙ c.loop-child.invariant.rest)
