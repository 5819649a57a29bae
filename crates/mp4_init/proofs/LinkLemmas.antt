-- What searches find when one more node was linked after the others.
use Rattle.std.proofs.Common.{◌≡◌, ◌∙◌, ◌≤◌, ◌+◌, ◌-◌, ◌/◌, ◌%◌, ◌==◌, ℕ, zero, suc, Bool, true, false, cond, List, [], ◌∷◌, ◌++◌, length, Option, Some, None, refl, sym, ap, subst, arith}
use Rattle.std.specs.Prelude.{slice_index_or, slice_set}
use Rattle.std.specs.List.{position_from}
use Rattle.std.proofs.lemmas.List.{length-set}
use Rattle.std.proofs.lemmas.Iterator.Adapters.{position_from-zero}
use Rattle.mp4_init.specs.declared.search_tree.Ending.{Ending}
use Rattle.mp4_init.specs.declared.search_tree.Ending.TheVariants.{Found, After, Unasked}
use Rattle.mp4_init.specs.declared.search_tree.Link.{Link}
use Rattle.mp4_init.specs.declared.search_tree.Node.{Node}
use Rattle.mp4_init.specs.Implementation.SearchTrees.{or_before, ending, ending_from, found_at, link_at, link_of, next_by, with_link, sought, no_node, IsIndexed}
use Rattle.mp4_init.proofs.SearchTreeLemmas.{is_same, same_test, other_test, past, after, by_cases, stops, goes_on, passes}

-- ---- where a search ends

-- the link after which it ends is one of the nodes that were gone over
after_from : (ns : List Node) (here at id bits : ℕ) (l : Link) → ending_from ns here at id bits ≡ After l → here ≤ l.at
unfolding ending_from
after_from [] here at id bits l e = absurd cc
after_from (n ∷ ns) here at id bits l e =
    by_cases (λ f. f ≡ After l → here ≤ l.at) n ns here at id bits
    (λ _ _ e. absurd cc)
    (λ _ _ e. by (after_from ns (here + 1) (next_by bits n) id (bits / 2) l) (after n ns here id bits) refl e)
    (λ _ e. omega (arith, after_from ns (here + 1) at id bits l e))
    e
  where
    by : (after n ns here id bits ≡ After l → here + 1 ≤ l.at)
        → (f : Ending) → after n ns here id bits ≡ f → or_before (After (link_at here bits)) f ≡ After l → here ≤ l.at
    by later (Found k) is e = absurd cc
    by later (After m) is e = omega (arith, later (is ∙ e))
    by later Unasked is e = let same : here ≡ l.at = cc in omega arith

-- where it asks no node, it asks none for another track_ID
unasked : (ns : List Node) (here at id bits y b : ℕ) → ending_from ns here at id bits ≡ Unasked → ending_from ns here at y b ≡ Unasked
unfolding ending_from
unasked [] here at id bits y b e = refl
unasked (n ∷ ns) here at id bits y b e =
    by_cases (λ f. f ≡ Unasked → ending_from (n ∷ ns) here at y b ≡ Unasked) n ns here at id bits
    (λ _ _ e. absurd cc)
    (λ _ _ e. by (after n ns here id bits) e)
    (λ other e. passes n ns here at y b other ∙ unasked ns (here + 1) at id bits y b e)
    e
  where
    by : (f : Ending) → or_before (After (link_at here bits)) f ≡ Unasked → ending_from (n ∷ ns) here at y b ≡ Unasked
    by (Found k) e = absurd cc
    by (After m) e = absurd cc
    by Unasked e = absurd cc

-- a node that waits after all others is found
pub waits : (ns : List Node) (here at id bits : ℕ) (x : Node) → here + length ns ≡ at → x.id ≡ id → ending_from (ns ++ x ∷ []) here at id bits ≡ Found at
waits [] here at id bits x there same =
    let here_is : here ≡ at = omega (arith, there) in
    stops x [] here at id bits here_is same ∙ ap Found here_is
waits (n ∷ ns) here at id bits x there same =
    passes n (ns ++ x ∷ []) here at id bits (λ e. omega (arith, there)) ∙ waits ns (here + 1) at id bits x (omega (arith, there)) same

-- ---- one more node after the others

-- what was found is found
pub kept : (ns : List Node) (here at id bits k : ℕ) (x : Node) → ending_from ns here at id bits ≡ Found k → ending_from (ns ++ x ∷ []) here at id bits ≡ Found k
unfolding ending_from
kept [] here at id bits k x e = absurd cc
kept (n ∷ ns) here at id bits k x e =
    by_cases (λ f. f ≡ Found k → ending_from (n ∷ (ns ++ x ∷ [])) here at id bits ≡ Found k) n ns here at id bits
    (λ here_is id_is e. stops n (ns ++ x ∷ []) here at id bits here_is id_is ∙ e)
    (λ here_is other e. by other here_is (λ e. kept ns (here + 1) (next_by bits n) id (bits / 2) k x e) (after n ns here id bits) refl e)
    (λ other e. passes n (ns ++ x ∷ []) here at id bits other ∙ kept ns (here + 1) at id bits k x e)
    e
  where
    by : (n.id ≡ id → ⊥) → here ≡ at
        → (after n ns here id bits ≡ Found k → ending_from (ns ++ x ∷ []) (here + 1) (next_by bits n) id (bits / 2) ≡ Found k)
        → (f : Ending) → after n ns here id bits ≡ f → or_before (After (link_at here bits)) f ≡ Found k
        → ending_from (n ∷ (ns ++ x ∷ [])) here at id bits ≡ Found k
    by other here_is later (Found j) is e =
        goes_on n (ns ++ x ∷ []) here at id bits here_is other ∙ ap (or_before (After (link_at here bits))) (later (is ∙ e))
    by other here_is later (After m) is e = absurd cc
    by other here_is later Unasked is e = absurd cc

found_later : (link : Link) (f : Ending) → found_at (or_before (After link) f) ≡ found_at f
found_later link (Found k) = refl
found_later link (After l) = refl
found_later link Unasked = refl

-- two searches that find the same after a node, and the same past it, find the same from it on
alike : (t u : Bool) (k : ℕ) (link : Link) (e f g h : Ending) → found_at e ≡ found_at f → found_at g ≡ found_at h
    → found_at (cond t (cond u (Found k) (or_before (After link) e)) g) ≡ found_at (cond t (cond u (Found k) (or_before (After link) f)) h)
alike true true k link e f g h following over = refl
alike true false k link e f g h following over = found_later link e ∙ following ∙ sym (found_later link f)
alike false u k link e f g h following over = over

-- of one more node no search for another track_ID takes notice
pub others : (ns : List Node) (here at id bits : ℕ) (x : Node) → (x.id ≡ id → ⊥) → found_at (ending_from (ns ++ x ∷ []) here at id bits) ≡ found_at (ending_from ns here at id bits)
unfolding ending_from
others [] here at id bits x other =
    by_cases (λ f. found_at f ≡ None) x [] here at id bits (λ _ same. absurd (other same)) (λ _ _. refl) (λ _. refl)
others (n ∷ ns) here at id bits x other =
    alike (here == at) (n.id == id) here (link_at here bits) _ _ _ _
    (others ns (here + 1) (next_by bits n) id (bits / 2) x other) (others ns (here + 1) at id bits x other)

-- ---- one more node, and a link that leads to it

-- the nodes, of which one leads to a place by one of its links
abbrev pub relinked : List Node → ℕ → Bool → ℕ → List Node
relinked ns i odd to = slice_set ns i (with_link odd to (slice_index_or ns i no_node))

id_kept : (odd : Bool) (to : ℕ) (n : Node) → (with_link odd to n).id ≡ n.id
id_kept true to n = refl
id_kept false to n = refl

leads : (odd : Bool) (to : ℕ) (n : Node) → link_of odd (with_link odd to n) ≡ to
leads true to n = refl
leads false to n = refl

-- after a node that leads on as before
shifted : (n : Node) (ns : List Node) (here to : ℕ) (l : Link) → here + 1 ≤ l.at → relinked (n ∷ ns) (l.at - here) l.is_odd to ≡ n ∷ relinked ns (l.at - (here + 1)) l.is_odd to
shifted n ns here to l far = let more : l.at - here ≡ suc (l.at - (here + 1)) = omega (arith, far) in rw more refl

-- with the link where it ended set to a place, the search finds the new node there
abbrev Reaches : List Node → ℕ → ℕ → ℕ → ℕ → Link → Node → ℕ → Type 0
Reaches ns here at id bits l x to = ending_from (relinked ns (l.at - here) l.is_odd to ++ x ∷ []) here at id bits ≡ Found to

-- where a search ends it goes on to the new node, where that is linked there
pub reaches : (ns : List Node) (here at id bits to : ℕ) (l : Link) (x : Node) → to ≡ here + length ns → x.id ≡ id → ending_from ns here at id bits ≡ After l
    → Reaches ns here at id bits l x to
unfolding ending_from
reaches [] here at id bits to l x there same e = absurd cc
reaches (n ∷ ns) here at id bits to l x there same e =
    by_cases (λ f. f ≡ After l → Reaches (n ∷ ns) here at id bits l x to) n ns here at id bits
    (λ _ _ e. absurd cc)
    (λ here_is other e. by here_is other (reaches ns (here + 1) (next_by bits n) id (bits / 2) to l x (omega (arith, there)) same) (after n ns here id bits) refl e)
    (λ other e.
    rw (shifted n ns here to l (after_from ns (here + 1) at id bits l e))
    (passes n (relinked ns (l.at - (here + 1)) l.is_odd to ++ x ∷ []) here at id bits other ∙ reaches ns (here + 1) at id bits to l x (omega (arith, there)) same e))
    e
  where
    by : here ≡ at → (n.id ≡ id → ⊥)
        → (after n ns here id bits ≡ After l → Reaches ns (here + 1) (next_by bits n) id (bits / 2) l x to)
        → (f : Ending) → after n ns here id bits ≡ f → or_before (After (link_at here bits)) f ≡ After l
        → Reaches (n ∷ ns) here at id bits l x to
    by here_is other later (Found k) is e = absurd cc
    by here_is other later (After m) is e =
        rw (shifted n ns here to l (after_from ns (here + 1) (next_by bits n) id (bits / 2) l (is ∙ e)))
        (goes_on n (relinked ns (l.at - (here + 1)) l.is_odd to ++ x ∷ []) here at id bits here_is other
        ∙ ap (or_before (After (link_at here bits))) (later (is ∙ e)))
    by here_is other later Unasked is e =
        let last : link_at here bits ≡ l = cc in
        let front : here - here ≡ 0 = omega arith in
        subst (λ (l : Link). Reaches (n ∷ ns) here at id bits l x to) last
        (rw front
        (goes_on (with_link (bits % 2 == 1) to n) (ns ++ x ∷ []) here at id bits here_is (λ e. other (sym (id_kept (bits % 2 == 1) to n) ∙ e))
        ∙ rw (leads (bits % 2 == 1) to n) (ap (or_before (After (link_at here bits))) (waits ns (here + 1) to id (bits / 2) x (omega (arith, there)) same))))

-- with that link set, each search for another track_ID finds what it found
abbrev Unmoved : List Node → ℕ → Link → Node → ℕ → ℕ → Type 0
Unmoved ns here l x to y = (at b : ℕ) → found_at (ending_from (relinked ns (l.at - here) l.is_odd to ++ x ∷ []) here at y b) ≡ found_at (ending_from ns here at y b)

-- of the link no search for another track_ID takes notice
pub unmoved : (ns : List Node) (here at id bits to y : ℕ) (l : Link) (x : Node) → to ≡ here + length ns → (x.id ≡ y → ⊥) → ending_from ns here at id bits ≡ After l → Unmoved ns here l x to y
unfolding ending_from
unmoved [] here at id bits to y l x there apart e = absurd cc
unmoved (n ∷ ns) here at id bits to y l x there apart e =
    by_cases (λ f. f ≡ After l → Unmoved (n ∷ ns) here l x to y) n ns here at id bits
    (λ _ _ e. absurd cc)
    (λ _ _ e. by (unmoved ns (here + 1) (next_by bits n) id (bits / 2) to y l x (omega (arith, there)) apart) (after n ns here id bits) refl e)
    (λ _ e. after_one (after_from ns (here + 1) at id bits l e) (unmoved ns (here + 1) at id bits to y l x (omega (arith, there)) apart e))
    e
  where
    after_one : here + 1 ≤ l.at → Unmoved ns (here + 1) l x to y → Unmoved (n ∷ ns) here l x to y
    after_one far later at b =
        rw (shifted n ns here to l far)
        (alike (here == at) (n.id == y) here (link_at here b) _ _ _ _ (later (next_by b n) (b / 2)) (later at b))

    leads_on : (odd to_odd : Bool) (b : ℕ) → ((y b : ℕ) → ending_from ns (here + 1) (link_of odd n) y b ≡ Unasked)
        → found_at (ending_from (ns ++ x ∷ []) (here + 1) (link_of to_odd (with_link odd to n)) y b) ≡ found_at (ending_from ns (here + 1) (link_of to_odd n) y b)
    leads_on true true b none =
        others ns (here + 1) to y b x apart ∙ ap found_at (past ns (here + 1) to y b (omega (arith, there)) ∙ sym (none y b))
    leads_on true false b none = others ns (here + 1) n.even y b x apart
    leads_on false true b none = others ns (here + 1) n.odd y b x apart
    leads_on false false b none =
        others ns (here + 1) to y b x apart ∙ ap found_at (past ns (here + 1) to y b (omega (arith, there)) ∙ sym (none y b))

    by : (after n ns here id bits ≡ After l → Unmoved ns (here + 1) l x to y)
        → (f : Ending) → after n ns here id bits ≡ f → or_before (After (link_at here bits)) f ≡ After l
        → Unmoved (n ∷ ns) here l x to y
    by later (Found k) is e = absurd cc
    by later (After m) is e = after_one (after_from ns (here + 1) (next_by bits n) id (bits / 2) l (is ∙ e)) (later (is ∙ e))
    by later Unasked is e =
        let last : link_at here bits ≡ l = cc in
        let front : here - here ≡ 0 = omega arith in
        subst (λ (l : Link). Unmoved (n ∷ ns) here l x to y) last
        (λ at b. rw (front, id_kept (bits % 2 == 1) to n)
        (alike (here == at) (n.id == y) here (link_at here b) _ _ _ _
        (leads_on (bits % 2 == 1) (b % 2 == 1) (b / 2) (λ y b. unasked ns (here + 1) (next_by bits n) id (bits / 2) y b is))
        (others ns (here + 1) at y b x apart)))

-- ---- the first node of a track_ID

-- where it is from a place on
abbrev first_from : ℕ → ℕ → List Node → Option ℕ
first_from id i ns = position_from (λ n. n.id == id) i ns

first_relinked : (ns : List Node) (i k id to : ℕ) (odd : Bool) → first_from id i (relinked ns k odd to) ≡ first_from id i ns
first_relinked [] i k id to odd = refl
first_relinked (n ∷ ns) i zero id to odd = rw (id_kept odd to n) refl
first_relinked (n ∷ ns) i (suc k) id to odd = ap (cond (n.id == id) (Some i)) (first_relinked ns (i + 1) k id to odd)

first_kept : (ns : List Node) (i k id : ℕ) (x : Node) → first_from id i ns ≡ Some k → first_from id i (ns ++ x ∷ []) ≡ Some k
first_kept [] i k id x e = absurd cc
first_kept (n ∷ ns) i k id x e = by (first_kept ns (i + 1) k id x) (n.id == id) e
  where
    by : (first_from id (i + 1) ns ≡ Some k → first_from id (i + 1) (ns ++ x ∷ []) ≡ Some k) → (t : Bool)
        → cond t (Some i) (first_from id (i + 1) ns) ≡ Some k → cond t (Some i) (first_from id (i + 1) (ns ++ x ∷ [])) ≡ Some k
    by later true e = e
    by later false e = later e

first_new : (ns : List Node) (i id to : ℕ) (x : Node) → to ≡ i + length ns → x.id ≡ id → first_from id i ns ≡ None → first_from id i (ns ++ x ∷ []) ≡ Some to
first_new [] i id to x there same e = let here : to ≡ i = omega (arith, there) in rw (same_test x.id id same, here) refl
first_new (n ∷ ns) i id to x there same e = by (first_new ns (i + 1) id to x (omega (arith, there)) same) (n.id == id) e
  where
    by : (first_from id (i + 1) ns ≡ None → first_from id (i + 1) (ns ++ x ∷ []) ≡ Some to) → (t : Bool)
        → cond t (Some i) (first_from id (i + 1) ns) ≡ None → cond t (Some i) (first_from id (i + 1) (ns ++ x ∷ [])) ≡ Some to
    by later true e = absurd cc
    by later false e = later e

first_of_others : (ns : List Node) (i id : ℕ) (x : Node) → (x.id ≡ id → ⊥) → first_from id i (ns ++ x ∷ []) ≡ first_from id i ns
first_of_others [] i id x other = rw (other_test x.id id other) refl
first_of_others (n ∷ ns) i id x other = ap (cond (n.id == id) (Some i)) (first_of_others ns (i + 1) id x other)

-- ---- searches find the first of each track_ID

decided : (P : Type 0) (x id : ℕ) → (x ≡ id → P) → ((x ≡ id → ⊥) → P) → P
decided P x id same other = by (x == id) refl
  where
    by : (t : Bool) → (x == id) ≡ t → P
    by true e = same (is_same x id e)
    by false e = other (λ is. let clash : true ≡ false = sym (same_test x id is) ∙ e in absurd cc)

is_first : (ns : List Node) (id : ℕ) → IsIndexed ns → sought ns id ≡ first_from id 0 ns
is_first ns id ix = ix.each id ∙ position_from-zero (λ n. n.id == id) ns

indexed : (ns : List Node) → ((id : ℕ) → sought ns id ≡ first_from id 0 ns) → IsIndexed ns
indexed ns all = record { each = λ id. all id ∙ sym (position_from-zero (λ n. n.id == id) ns) }

pub indexed_none : IsIndexed []
unfolding ending_from
indexed_none = indexed [] (λ id. refl)

-- also with one more whose track_ID is there
pub indexed_again : (ns : List Node) (x : Node) (k : ℕ) → IsIndexed ns → ending ns x.id ≡ Found k → IsIndexed (ns ++ x ∷ [])
indexed_again ns x k ix e = indexed (ns ++ x ∷ []) (λ id. decided (sought (ns ++ x ∷ []) id ≡ first_from id 0 (ns ++ x ∷ [])) x.id id (same id) (other id))
  where
    same : (id : ℕ) → x.id ≡ id → sought (ns ++ x ∷ []) id ≡ first_from id 0 (ns ++ x ∷ [])
    same id is =
        subst (λ (id : ℕ). sought (ns ++ x ∷ []) id ≡ first_from id 0 (ns ++ x ∷ [])) is
        (ap found_at (kept ns 0 0 x.id x.id k x e) ∙ sym (first_kept ns 0 k x.id x (sym (is_first ns x.id ix) ∙ ap found_at e)))

    other : (id : ℕ) → (x.id ≡ id → ⊥) → sought (ns ++ x ∷ []) id ≡ first_from id 0 (ns ++ x ∷ [])
    other id apart = others ns 0 0 id id x apart ∙ is_first ns id ix ∙ sym (first_of_others ns 0 id x apart)

-- with one more that is linked where the search for its track_ID ended
pub indexed_more : (ns : List Node) (x : Node) (l : Link) → IsIndexed ns → ending ns x.id ≡ After l → IsIndexed (relinked ns l.at l.is_odd (length ns) ++ x ∷ [])
indexed_more ns x l ix e = indexed more (λ id. decided (sought more id ≡ first_from id 0 more) x.id id (same id) (other id))
  where
    more : List Node
    more = relinked ns l.at l.is_odd (length ns) ++ x ∷ []

    same : (id : ℕ) → x.id ≡ id → sought more id ≡ first_from id 0 more
    same id is =
        let at : l.at - 0 ≡ l.at = omega arith in
        subst (λ (id : ℕ). sought more id ≡ first_from id 0 more) is
        (ap found_at (rw at at (reaches ns 0 0 x.id x.id (length ns) l x (omega arith) refl e))
        ∙ sym (first_new (relinked ns l.at l.is_odd (length ns)) 0 x.id (length ns) x (omega (arith, length-set ns l.at (with_link l.is_odd (length ns) (slice_index_or ns l.at no_node)))) refl
        (first_relinked ns 0 l.at x.id (length ns) l.is_odd ∙ sym (is_first ns x.id ix) ∙ ap found_at e)))

    other : (id : ℕ) → (x.id ≡ id → ⊥) → sought more id ≡ first_from id 0 more
    other id apart =
        let at : l.at - 0 ≡ l.at = omega arith in
        (rw at at (unmoved ns 0 0 x.id x.id (length ns) id l x (omega arith) apart e)) 0 id
        ∙ is_first ns id ix
        ∙ sym (first_of_others (relinked ns l.at l.is_odd (length ns)) 0 id x apart ∙ first_relinked ns 0 l.at id (length ns) l.is_odd)

-- and the first of all
pub indexed_first : (ns : List Node) (x : Node) → ending ns x.id ≡ Unasked → IsIndexed (ns ++ x ∷ [])
unfolding ending_from
indexed_first [] x e = indexed (x ∷ []) (λ id. decided (sought (x ∷ []) id ≡ first_from id 0 (x ∷ [])) x.id id (same id) (other id))
  where
    same : (id : ℕ) → x.id ≡ id → sought (x ∷ []) id ≡ first_from id 0 (x ∷ [])
    same id is = rw (same_test x.id id is) refl

    other : (id : ℕ) → (x.id ≡ id → ⊥) → sought (x ∷ []) id ≡ first_from id 0 (x ∷ [])
    other id apart = rw (other_test x.id id apart) refl
indexed_first (n ∷ ns) x e = absurd (
    by_cases (λ f. f ≡ Unasked → ⊥) n ns 0 0 x.id x.id
    (λ _ _ e. absurd cc)
    (λ _ _ e. by (ending_from ns (0 + 1) (link_of (x.id % 2 == 1) n) x.id (x.id / 2)) e)
    (λ other e. other refl)
    e)
  where
    by : (f : Ending) → or_before (After (link_at 0 x.id)) f ≡ Unasked → ⊥
    by (Found k) e = absurd cc
    by (After m) e = absurd cc
    by Unasked e = absurd cc
