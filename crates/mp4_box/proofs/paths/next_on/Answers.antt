use Rattle.std.proofs.Common.{rules, ◌≡◌, ◌∙◌, ◌++◌, ◌<◌, [], ◌∷◌, ℕ, List, drop, sym, ap, subst}
use Rattle.std.proofs.lemmas.Option.{MatchOption-at_some}
use Rattle.mp4_box.specs.Trees.{Box, children, view}
use Rattle.mp4_box.specs.Paths.{left_on}
use Rattle.mp4_box.proofs.PathLemmas.{left_end, path_from, reads_below, reads_on}
use Rattle.mp4_box.proofs.paths.next_on.Goals as goal

pub returns-then-is_empty-clause-first : goal.returns-then-is_empty-clause-first
returns-then-is_empty-clause-first c =
    let path = c.args.path.now in
    let above = c.loop-child.above.items in
    let child = view c.in-Some.child in
    let left = c.next.new.self in
    let one : c.loop-child.walk ≡ child ∷ left = search rules in
    sym c.loop-child.invariant.left
    ∙ (ap (λ (bs : List Box). left_on path (above ++ bs ∷ [])) one
    ∙ left_end path above c.unwrap.result.0.now c.unwrap.result.1.now child left (ap (λ (n : ℕ). drop n path) (sym c.len.ensures.value) ∙ path_from path c.len.result _ (MatchOption-at_some _ _ c.unwrap.result c.unwrap.ensures c.split_first.ensures.cases).0) (search rules) (search rules))

pub loop-child-smaller-then-is : goal.loop-child-smaller-then-is
loop-child-smaller-then-is c =
    let path = c.args.path.now in
    let above = c.loop-child.above.items in
    let child = view c.in-Some.child in
    let left = c.next.new.self in
    let old : c.loop-child.walk ≡ child ∷ left = search rules in
    let out : c.replace.result ≡ left = search rules in
    let in_place : c.replace.new.dest ≡ children child = search rules in
    let new : c.push.new.self.items ++ c.replace.new.dest ∷ [] ≡ (above ++ left ∷ []) ++ children child ∷ [] =
    ap (λ (levels : List (List Box)). levels ++ c.replace.new.dest ∷ []) (c.push.ensures.items ∙ ap (λ (bs : List Box). above ++ bs ∷ []) out)
    ∙ ap (λ (bs : List Box). (above ++ left ∷ []) ++ bs ∷ []) in_place in
    subst (λ (levels : List (List Box)). reads_on path levels < reads_on path (above ++ c.loop-child.walk ∷ [])) (sym new)
    (subst (λ (bs : List Box). reads_on path ((above ++ left ∷ []) ++ children child ∷ []) < reads_on path (above ++ bs ∷ [])) (sym old)
    (reads_below path above c.unwrap.result.0.now c.unwrap.result.1.now child left (ap (λ (n : ℕ). drop n path) (sym c.len.ensures.value) ∙ path_from path c.len.result _ (MatchOption-at_some _ _ c.unwrap.result c.unwrap.ensures c.split_first.ensures.cases).0) (search rules)))
