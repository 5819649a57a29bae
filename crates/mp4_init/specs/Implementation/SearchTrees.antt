-- Only the code's own way; no public clause needs this.
-- The search for a track_ID among nodes. From the first on, each node of another track_ID leads on by the next
-- bit of the track_ID, the lowest first.
use Rattle.std.specs.Prelude.{ℕ, Bool, true, false, List, [], ◌∷◌, Option, Some, None, ⊤, ◌==◌, ◌+◌, ◌/◌, ◌%◌, ◌≡◌, ◌<◌, if◌then◌else◌}
use Rattle.std.specs.List.{position}
use Rattle.mp4_init.specs.declared.search_tree.Ending.{Ending}
use Rattle.mp4_init.specs.declared.search_tree.Ending.TheVariants.{Found, After, Unasked}
use Rattle.mp4_init.specs.declared.search_tree.Link.{Link}
use Rattle.mp4_init.specs.declared.search_tree.Node.{Node}

-- the node to which the odd link of a node leads, or the even one
abbrev pub link_of : Bool → Node → ℕ
link_of true n = n.odd
link_of false n = n.even

-- the node whose odd link, or even one, leads to this place
abbrev pub with_link : Bool → ℕ → Node → Node
with_link true to n = record n { odd = to }
with_link false to n = record n { even = to }

-- where a search continues from a node, by the lowest of these bits
abbrev pub next_by : ℕ → Node → ℕ
next_by bits n = link_of (bits % 2 == 1) n

-- the link by which it continues from the node at a place
abbrev pub link_at : ℕ → ℕ → Link
link_at at bits = record { at = at; is_odd = bits % 2 == 1 }

-- a search that continues ends where it would have ended if no more node is compared
abbrev pub or_before : Ending → Ending → Ending
or_before early (Found k) = Found k
or_before early (After link) = After link
or_before early Unasked = early

-- the nodes are gone over in order, from the one at place `here` on; the next that is compared is the one at place `at`, if it is one of them
unfoldable pub ending_from : List Node → ℕ → ℕ → ℕ → ℕ → Ending
ending_from [] here at id bits = Unasked
ending_from (n ∷ ns) here at id bits =
    if here == at
    then (if n.id == id then Found here else or_before (After (link_at here bits)) (ending_from ns (here + 1) (next_by bits n) id (bits / 2)))
    else ending_from ns (here + 1) at id bits

-- the search begins at the first, with all bits of the track_ID
abbrev pub ending : List Node → ℕ → Ending
ending nodes id = ending_from nodes 0 0 id id

-- the place of the node that was found
abbrev pub found_at : Ending → Option ℕ
found_at (Found k) = Some k
found_at (After link) = None
found_at Unasked = None

-- the place of the node of this track_ID
abbrev pub sought : List Node → ℕ → Option ℕ
sought nodes id = found_at (ending nodes id)

-- it ends at one of the first n nodes, or compares none
abbrev pub EndsWithin : ℕ → Ending → Type 0
EndsWithin n (Found k) = k < n
EndsWithin n (After link) = link.at < n
EndsWithin n Unasked = ⊤

-- the placeholder for a node where there is none
abbrev pub no_node : Node
no_node = record { id = 0; even = 0; odd = 0 }

-- a search for a track_ID finds the first node that has it
pub record IsIndexed (nodes : List Node) : Type 0 where
  pub each : (id : ℕ) → sought nodes id ≡ position (λ n. n.id == id) nodes
