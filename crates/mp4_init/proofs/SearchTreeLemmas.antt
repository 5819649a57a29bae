-- What a search among nodes finds.
use Rattle.std.proofs.Common.{◌≡◌, ◌∙◌, ◌<◌, ◌≤◌, ◌+◌, ◌-◌, ◌/◌, ◌==◌, ℕ, zero, suc, Bool, true, false, cond, List, [], ◌∷◌, drop, length, Some, None, refl, sym, ap, arith}
use Rattle.std.specs.Prelude.{slice_get, slice_index_or}
use Rattle.std.proofs.lemmas.Bool.Decides.{nat_tests}
use Rattle.std.proofs.lemmas.List.{drop-drop}
use Rattle.mp4_init.specs.declared.search_tree.Ending.{Ending}
use Rattle.mp4_init.specs.declared.search_tree.Ending.TheVariants.{Found, After, Unasked}
use Rattle.mp4_init.specs.declared.search_tree.Link.{Link}
use Rattle.mp4_init.specs.declared.search_tree.Node.{Node}
use Rattle.mp4_init.specs.Implementation.SearchTrees.{or_before, ending_from, link_at, next_by}

-- ---- numbers that are the same, and lists

pub is_same : (x id : ℕ) → (x == id) ≡ true → x ≡ id
is_same x id same = grind (arith, nat_tests)

pub same_test : (x id : ℕ) → x ≡ id → (x == id) ≡ true
same_test x id same = grind (arith, nat_tests)

pub other_test : (x id : ℕ) → (x ≡ id → ⊥) → (x == id) ≡ false
other_test x id h = by (x == id) refl
  where
    by : (t : Bool) → (x == id) ≡ t → (x == id) ≡ false
    by true e = absurd (h (is_same x id e))
    by false e = e

-- within a list the default for what isn't there doesn't matter
pub any_default : {A : Type 0} (xs : List A) (k : ℕ) (d e : A) → k < length xs → slice_index_or xs k d ≡ slice_index_or xs k e
any_default [] k d e h = absurd (omega arith)
any_default (x ∷ xs) zero d e h = refl
any_default (x ∷ xs) (suc k) d e h = any_default xs k d e (omega arith)

-- ---- a search among a node and others

-- after a node that was compared
abbrev pub after : Node → List Node → ℕ → ℕ → ℕ → Ending
after n ns here id bits = ending_from ns (here + 1) (next_by bits n) id (bits / 2)

-- it finds the node, goes on from there, or passes it over
pub by_cases : (P : Ending → Type 0) (n : Node) (ns : List Node) (here at id bits : ℕ)
    → (here ≡ at → n.id ≡ id → P (Found here))
    → (here ≡ at → (n.id ≡ id → ⊥) → P (or_before (After (link_at here bits)) (after n ns here id bits)))
    → ((here ≡ at → ⊥) → P (ending_from ns (here + 1) at id bits))
    → P (ending_from (n ∷ ns) here at id bits)
unfolding ending_from
by_cases P n ns here at id bits found on over = by (here == at) (n.id == id) refl refl
  where
    by : (t u : Bool) → (here == at) ≡ t → (n.id == id) ≡ u
        → P (cond t (cond u (Found here) (or_before (After (link_at here bits)) (after n ns here id bits))) (ending_from ns (here + 1) at id bits))
    by true true here_is id_is = found (is_same here at here_is) (is_same n.id id id_is)
    by true false here_is id_is = on (is_same here at here_is) (λ e. let clash : true ≡ false = sym (same_test n.id id e) ∙ id_is in absurd cc)
    by false u here_is id_is = over (λ e. let clash : true ≡ false = sym (same_test here at e) ∙ here_is in absurd cc)

pub stops : (n : Node) (ns : List Node) (here at id bits : ℕ) → here ≡ at → n.id ≡ id → ending_from (n ∷ ns) here at id bits ≡ Found here
unfolding ending_from
stops n ns here at id bits here_is id_is = rw (same_test here at here_is, same_test n.id id id_is) refl

pub goes_on : (n : Node) (ns : List Node) (here at id bits : ℕ) → here ≡ at → (n.id ≡ id → ⊥)
    → ending_from (n ∷ ns) here at id bits ≡ or_before (After (link_at here bits)) (after n ns here id bits)
unfolding ending_from
goes_on n ns here at id bits here_is other = rw (same_test here at here_is, other_test n.id id other) refl

pub passes : (n : Node) (ns : List Node) (here at id bits : ℕ) → (here ≡ at → ⊥) → ending_from (n ∷ ns) here at id bits ≡ ending_from ns (here + 1) at id bits
unfolding ending_from
passes n ns here at id bits other = rw (other_test here at other) refl

-- ---- which nodes are asked

-- the node at a place that was gone over isn't asked
before : (ns : List Node) (here at id bits : ℕ) → at < here → ending_from ns here at id bits ≡ Unasked
unfolding ending_from
before [] here at id bits h = refl
before (n ∷ ns) here at id bits h =
    rw (other_test here at (λ e. omega arith)) (before ns (here + 1) at id bits (omega arith))

-- nor one that isn't there
pub past : (ns : List Node) (here at id bits : ℕ) → here + length ns ≤ at → ending_from ns here at id bits ≡ Unasked
unfolding ending_from
past [] here at id bits h = refl
past (n ∷ ns) here at id bits h =
    rw (other_test here at (λ e. omega arith)) (past ns (here + 1) at id bits (omega arith))

-- the nodes before the one that is asked are passed over
passed : (ns : List Node) (here d id bits : ℕ) → ending_from ns here (here + d) id bits ≡ ending_from (drop d ns) (here + d) (here + d) id bits
unfolding ending_from
passed ns here zero id bits = let same : here + 0 ≡ here = omega arith in rw same refl
passed [] here (suc d) id bits = refl
passed (n ∷ ns) here (suc d) id bits =
    let on : here + suc d ≡ here + 1 + d = omega arith in
    rw (other_test here (here + suc d) (λ e. omega arith)) (rw on (passed ns (here + 1) d id bits))

-- ---- the turns of a search

last_before : (early : Ending) (link : Link) (later : Ending) → or_before early (or_before (After link) later) ≡ or_before (After link) later
last_before early link (Found k) = refl
last_before early link (After l) = refl
last_before early link Unasked = refl

at_front : (nodes : List Node) (at : ℕ) (n : Node) → slice_get nodes at ≡ Some n → drop at nodes ≡ n ∷ drop (at + 1) nodes
at_front [] at n e = absurd cc
at_front (x ∷ xs) zero n e = cc
at_front (x ∷ xs) (suc at) n e = let more : suc at + 1 ≡ suc (at + 1) = omega arith in rw more (at_front xs at n e)

none_left : (nodes : List Node) (at : ℕ) → slice_get nodes at ≡ None → drop at nodes ≡ []
none_left [] zero e = refl
none_left [] (suc at) e = refl
none_left (x ∷ xs) zero e = absurd cc
none_left (x ∷ xs) (suc at) e = none_left xs at e

pub turn_out : (nodes : List Node) (id bits at : ℕ) (early : Ending) → slice_get nodes at ≡ None → or_before early (ending_from (drop at nodes) at at id bits) ≡ early
unfolding ending_from
turn_out nodes id bits at early e = rw (none_left nodes at e) refl

pub turn_found : (nodes : List Node) (id bits at : ℕ) (early : Ending) (n : Node) → slice_get nodes at ≡ Some n → n.id ≡ id → or_before early (ending_from (drop at nodes) at at id bits) ≡ Found at
unfolding ending_from
turn_found nodes id bits at early n e same = rw (at_front nodes at n e, same_test at at refl, same_test n.id id same) refl

asked : (nodes : List Node) (id bits at : ℕ) (early : Ending) (n : Node) → slice_get nodes at ≡ Some n → (n.id ≡ id → ⊥)
    → or_before early (ending_from (drop at nodes) at at id bits) ≡ or_before (After (link_at at bits)) (ending_from (drop (at + 1) nodes) (at + 1) (next_by bits n) id (bits / 2))
unfolding ending_from
asked nodes id bits at early n e other =
    rw (at_front nodes at n e, same_test at at refl, other_test n.id id other) (last_before early (link_at at bits) (ending_from (drop (at + 1) nodes) (at + 1) (next_by bits n) id (bits / 2)))

pub turn_back : (nodes : List Node) (id bits at : ℕ) (early : Ending) (n : Node) → slice_get nodes at ≡ Some n → (n.id ≡ id → ⊥) → next_by bits n ≤ at
    → or_before early (ending_from (drop at nodes) at at id bits) ≡ After (link_at at bits)
turn_back nodes id bits at early n e other back =
    asked nodes id bits at early n e other
    ∙ ap (or_before (After (link_at at bits))) (before (drop (at + 1) nodes) (at + 1) (next_by bits n) id (bits / 2) (omega (arith, back)))

pub turn_on : (nodes : List Node) (id bits at next : ℕ) (early : Ending) (n : Node) → slice_get nodes at ≡ Some n → (n.id ≡ id → ⊥) → next ≡ next_by bits n → at < next
    → or_before (After (link_at at bits)) (ending_from (drop next nodes) next next id (bits / 2)) ≡ or_before early (ending_from (drop at nodes) at at id bits)
turn_on nodes id bits at next early n e other leads on =
    let d : ℕ = next - (at + 1) in
    let there : at + 1 + d ≡ next = omega (arith, on) in
    sym (asked nodes id bits at early n e other
    ∙ ap (or_before (After (link_at at bits)))
    (ap (λ (k : ℕ). ending_from (drop (at + 1) nodes) (at + 1) k id (bits / 2)) (sym (there ∙ leads))
    ∙ passed (drop (at + 1) nodes) (at + 1) d id (bits / 2)
    ∙ rw (drop-drop d (at + 1) nodes, there) refl))
