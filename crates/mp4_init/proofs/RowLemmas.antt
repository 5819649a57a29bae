-- Tracks in rows.
use Rattle.std.proofs.Common.{◌≡◌, ◌∙◌, ◌+◌, ◌^◌, ◌<◌, ◌≤◌, ◌==◌, cond, sym, subst, ℕ, zero, suc, List, [], ◌∷◌, ◌++◌, length, Some, None, refl, ap, arith}
use Rattle.std.specs.Prelude.{map, slice_get, slice_index, slice_index_or, slice_set}
use Rattle.std.specs.List.{AllByRecursion, position, position_from}
use Rattle.std.proofs.lemmas.List.{get_or_append_left, length-map, map-append, map-set, set-append_left}
use Rattle.std.proofs.Math.Seq.{map-set_same}
use Rattle.std.proofs.lemmas.Iterator.Adapters.{position_from-zero}
use Rattle.mp4_init.specs.declared.search_tree.Node.{Node}
use Rattle.mp4_init.specs.declared.table.Track.{Track}
use Rattle.mp4_init.specs.declared.search_tree.Ending.{Ending}
use Rattle.mp4_init.specs.declared.search_tree.Ending.TheVariants.{Found, After, Unasked}
use Rattle.mp4_init.specs.declared.search_tree.Link.{Link}
use Rattle.mp4_init.specs.Implementation.SearchTrees.{ending, sought, with_link, no_node, IsIndexed}
use Rattle.mp4_init.proofs.LinkLemmas.{relinked, indexed_again, indexed_first, indexed_more}
use Rattle.mp4_init.specs.Implementation.Rows.{node_of_row, track_of_row, upper}
use Rattle.mp4_init.specs.Tracks.{with_next}

-- the track of a row
pub row_at : (rows : List (List ℕ)) (i : ℕ) (d : Track) (e : List ℕ) → i < length rows → slice_index_or (map track_of_row rows) i d ≡ track_of_row (slice_index_or rows i e)
row_at [] i d e h = absurd (omega arith)
row_at (r ∷ rows) zero d e h = refl
row_at (r ∷ rows) (suc i) d e h = row_at rows i d e (omega arith)

pub set_row : (rows : List (List ℕ)) (i next : ℕ) (r e : List ℕ) → i < length rows → track_of_row r ≡ record (track_of_row (slice_index_or rows i e)) { next = next } → map track_of_row (slice_set rows i r) ≡ with_next i next (map track_of_row rows)
unfolding with_next
set_row [] i next r e h same = absurd (omega arith)
set_row (x ∷ rows) zero next r e h same = ap (λ (t : Track). t ∷ map track_of_row rows) same
set_row (x ∷ rows) (suc i) next r e h same = ap (λ (ts : List Track). track_of_row x ∷ ts) (set_row rows i next r e (omega arith) same)

pub length_with_next : (i next : ℕ) (ts : List Track) → length (with_next i next ts) ≡ length ts
unfolding with_next
length_with_next i next [] = refl
length_with_next zero next (t ∷ ts) = refl
length_with_next (suc i) next (t ∷ ts) = ap suc (length_with_next i next ts)

-- ---- nodes in rows

pub node_at : (rows : List (List ℕ)) (i : ℕ) (e : List ℕ) → i < length rows → slice_get (map node_of_row rows) i ≡ Some (node_of_row (slice_index_or rows i e))
node_at [] i e h = absurd (omega arith)
node_at (r ∷ rows) zero e h = refl
node_at (r ∷ rows) (suc i) e h = node_at rows i e (omega arith)

pub node_past : (rows : List (List ℕ)) (i : ℕ) → length rows ≤ i → slice_get (map node_of_row rows) i ≡ None
node_past [] i h = refl
node_past (r ∷ rows) zero h = absurd (omega arith)
node_past (r ∷ rows) (suc i) h = node_past rows i (omega arith)

pub node_is : (rows : List (List ℕ)) (i : ℕ) (e : List ℕ) → i < length rows → slice_index_or (map node_of_row rows) i no_node ≡ node_of_row (slice_index_or rows i e)
node_is [] i e h = absurd (omega arith)
node_is (r ∷ rows) zero e h = refl
node_is (r ∷ rows) (suc i) e h = node_is rows i e (omega arith)

-- ---- one more row, and a link to its node

row_id : (r : List ℕ) (t : Track) → track_of_row r ≡ t → t.id ≡ (node_of_row r).id
unfolding track_of_row node_of_row
row_id r t e = ap (λ (t : Track). t.id) (sym e)

pub tracks_more : (rows : List (List ℕ)) (r : List ℕ) (t : Track) → track_of_row r ≡ t → map track_of_row (rows ++ r ∷ []) ≡ map track_of_row rows ++ t ∷ []
tracks_more rows r t e = map-append track_of_row rows (r ∷ []) ∙ ap (λ (t : Track). map track_of_row rows ++ t ∷ []) e

pub tracks_linked : (rows : List (List ℕ)) (r s e : List ℕ) (t : Track) (at : ℕ) → track_of_row r ≡ t → track_of_row s ≡ track_of_row (slice_index_or (rows ++ r ∷ []) at e)
    → map track_of_row (slice_set (rows ++ r ∷ []) at s) ≡ map track_of_row rows ++ t ∷ []
tracks_linked rows r s e t at is same = map-set_same track_of_row (rows ++ r ∷ []) at s e same ∙ tracks_more rows r t is

pub nodes_more : (rows : List (List ℕ)) (r : List ℕ) (t : Track) (f : Ending) → track_of_row r ≡ t → IsIndexed (map node_of_row rows) → f ≡ ending (map node_of_row rows) t.id
    → ((l : Link) → f ≡ After l → ⊥) → IsIndexed (map node_of_row (rows ++ r ∷ []))
nodes_more rows r t f is ix e none =
    subst (λ (ns : List Node). IsIndexed ns) (sym (map-append node_of_row rows (r ∷ [])))
    (by f (rw (row_id r t is) at e) none)
  where
    by : (f : Ending) → f ≡ ending (map node_of_row rows) (node_of_row r).id → ((l : Link) → f ≡ After l → ⊥) → IsIndexed (map node_of_row rows ++ node_of_row r ∷ [])
    by (Found k) e none = indexed_again (map node_of_row rows) (node_of_row r) k ix (sym e)
    by (After l) e none = absurd (none l refl)
    by Unasked e none = indexed_first (map node_of_row rows) (node_of_row r) (sym e)

pub nodes_linked : (rows : List (List ℕ)) (r s e : List ℕ) (t : Track) (l : Link) → track_of_row r ≡ t → IsIndexed (map node_of_row rows) → After l ≡ ending (map node_of_row rows) t.id → l.at < length rows
    → node_of_row s ≡ with_link l.is_odd (length rows) (node_of_row (slice_index_or (rows ++ r ∷ []) l.at e)) → IsIndexed (map node_of_row (slice_set (rows ++ r ∷ []) l.at s))
nodes_linked rows r s e t l is ix ends h links =
    let old : slice_index_or (rows ++ r ∷ []) l.at e ≡ slice_index_or rows l.at e = get_or_append_left rows (r ∷ []) e l.at h in
    let more : IsIndexed (relinked (map node_of_row rows) l.at l.is_odd (length (map node_of_row rows)) ++ node_of_row r ∷ []) =
    indexed_more (map node_of_row rows) (node_of_row r) l ix (sym (rw (row_id r t is) at ends)) in
    subst (λ (ns : List Node). IsIndexed ns)
    (sym (rw (set-append_left rows (r ∷ []) l.at s h, map-append node_of_row (slice_set rows l.at s) (r ∷ []), map-set node_of_row rows l.at s, links, old) refl))
    (rw (length-map rows node_of_row, node_is rows l.at e h) at more)

-- a row's track and its node have one track_ID, so the first of one is the first of the other
first_of_rows : (rows : List (List ℕ)) (i id : ℕ) → position_from (λ n. n.id == id) i (map node_of_row rows) ≡ position_from (λ t. t.id == id) i (map track_of_row rows)
unfolding track_of_row node_of_row
first_of_rows [] i id = refl
first_of_rows (r ∷ rows) i id = ap (cond (upper (slice_index r 0) == id) (Some i)) (first_of_rows rows (i + 1) id)

-- where nodes are indexed a search finds the place of the track
pub sought_is : (rows : List (List ℕ)) (id : ℕ) → IsIndexed (map node_of_row rows) → sought (map node_of_row rows) id ≡ position (λ t. t.id == id) (map track_of_row rows)
sought_is rows id ix =
    ix.each id
    ∙ position_from-zero (λ n. n.id == id) (map node_of_row rows)
    ∙ first_of_rows rows 0 id
    ∙ sym (position_from-zero (λ t. t.id == id) (map track_of_row rows))

-- the default size of a sample has 32 bits
size_small : (row : List ℕ) → (track_of_row row).size < 2 ^ 32
unfolding track_of_row
size_small row = omega arith

pub sizes_small : (rows : List (List ℕ)) → AllByRecursion (λ (t : Track). t.size < 2 ^ 32) (map track_of_row rows)
sizes_small [] = tt
sizes_small (row ∷ rows) = (size_small row, sizes_small rows)
