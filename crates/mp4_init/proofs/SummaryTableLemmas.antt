-- Summaries of many track_IDs: each is that of its track_ID alone.
use Rattle.std.proofs.Common.{◌≡◌, ◌∙◌, ◌<◌, ◌+◌, ◌≤◌, ◌==◌, ℕ, Bool, true, false, cond, List, [], ◌∷◌, length, take, Option, Some, None, refl, sym, ap, arith, ltb}
use Rattle.std.specs.Prelude.{replicate, slice_index_or}
use Rattle.std.proofs.lemmas.List.{length-replicate, length-set, get_or-replicate, get_or-set_same, get_or-set_other, take_all}
use Rattle.std.proofs.lemmas.Bool.Decides.{nat_tests}
use Rattle.mp4_box.specs.Trees.{Box}
use Rattle.mp4_box.specs.Paths.{at_path}
use Rattle.mp4_init.specs.declared.summary.Summary.{Summary}
use Rattle.mp4_init.specs.declared.summary.Source.{Source}
use Rattle.mp4_init.specs.declared.summary.Source.TheVariants.{Tkhd, Trex}
use Rattle.mp4_init.specs.Kinds.{to_tkhd, to_trex}
use Rattle.mp4_init.specs.Fields.{tkhd_id}
use Rattle.mp4_init.specs.OrderedIds.{sought}
use Rattle.mp4_init.specs.Implementation.Summaries.{empty_summary, id_by, added, gathered, ids_from, summary_in, added_at, all_added, summaries_in}
use Rattle.mp4_init.proofs.SearchTreeLemmas.{any_default, is_same}
use Rattle.mp4_init.proofs.OrderedIdLemmas.{none_sought, same_id}

-- ---- one of them

pub length-added_at : (source : Source) (b : Box) (xs : List Summary) (o : Option ℕ) → length (added_at source b xs o) ≡ length xs
length-added_at source b xs None = refl
length-added_at source b xs (Some k) = length-set xs k (added source (slice_index_or xs k empty_summary) b)

pub length-all_added : (source : Source) (ids : List ℕ) (xs : List Summary) (bs : List Box) → length (all_added source ids xs bs) ≡ length xs
unfolding all_added
length-all_added source ids xs [] = refl
length-all_added source ids xs (b ∷ bs) =
    length-all_added source ids (added_at source b xs (sought ids (id_by source b))) bs ∙ length-added_at source b xs (sought ids (id_by source b))

-- an id has a place
record Holds (ids : List ℕ) (id j : ℕ) (xs : List Summary) : Type 0 where
  here : sought ids id ≡ Some j
  within : j < length xs

is_other : (x id : ℕ) → (x == id) ≡ false → x ≡ id → ⊥
is_other x id e same = grind (arith, nat_tests)

-- a box is added to the summary of one id, or of another
added_is : (source : Source) (ids : List ℕ) (id j : ℕ) (b : Box) (xs : List Summary) → Holds ids id j xs
    → slice_index_or (added_at source b xs (sought ids (id_by source b))) j empty_summary ≡ cond (id_by source b == id) (added source (slice_index_or xs j empty_summary) b) (slice_index_or xs j empty_summary)
added_is source ids id j b xs h = by (id_by source b == id) refl
  where
    away : (id_by source b ≡ id → ⊥) → (o : Option ℕ) → sought ids (id_by source b) ≡ o → slice_index_or (added_at source b xs o) j empty_summary ≡ slice_index_or xs j empty_summary
    away apart None e = refl
    away apart (Some k) e = get_or-set_other xs k j (added source (slice_index_or xs k empty_summary) b) empty_summary (λ same. apart (same_id ids (id_by source b) id k e (h.here ∙ ap (λ (i : ℕ). Some i) same)))

    by : (t : Bool) → (id_by source b == id) ≡ t → slice_index_or (added_at source b xs (sought ids (id_by source b))) j empty_summary ≡ cond t (added source (slice_index_or xs j empty_summary) b) (slice_index_or xs j empty_summary)
    by true e =
        ap (λ (o : Option ℕ). slice_index_or (added_at source b xs o) j empty_summary) (ap (sought ids) (is_same (id_by source b) id e) ∙ h.here)
        ∙ get_or-set_same xs j (added source (slice_index_or xs j empty_summary) b) empty_summary h.within
    by false e = away (is_other (id_by source b) id e) (sought ids (id_by source b)) refl

added_all : (source : Source) (ids : List ℕ) (id j : ℕ) (xs : List Summary) (bs : List Box) → Holds ids id j xs
    → slice_index_or (all_added source ids xs bs) j empty_summary ≡ gathered source id (slice_index_or xs j empty_summary) bs
unfolding all_added gathered
added_all source ids id j xs [] h = refl
added_all source ids id j xs (b ∷ bs) h =
    let next = added_at source b xs (sought ids (id_by source b)) in
    added_all source ids id j next bs (record { here = h.here; within = omega (arith, h.within, length-added_at source b xs (sought ids (id_by source b))) })
    ∙ ap (λ (s : Summary). gathered source id s bs) (added_is source ids id j b xs h)

summary_at : (moov : Box) (ids : List ℕ) (id j : ℕ) → j < length ids → sought ids id ≡ Some j → slice_index_or (summaries_in moov ids) j empty_summary ≡ summary_in moov id
unfolding summaries_in summary_in
summary_at moov ids id j within here =
    let n : ℕ = length ids in
    let none : List Summary = replicate n empty_summary in
    let tkhds : List Summary = all_added Tkhd ids none (at_path to_tkhd moov) in
    added_all Trex ids id j tkhds (at_path to_trex moov) (record { here = here; within = omega (arith, within, length-all_added Tkhd ids none (at_path to_tkhd moov), length-replicate n empty_summary) })
    ∙ ap (λ (s : Summary). gathered Trex id s (at_path to_trex moov))
    (added_all Tkhd ids id j none (at_path to_tkhd moov) (record { here = here; within = omega (arith, within, length-replicate n empty_summary) })
    ∙ ap (λ (s : Summary). gathered Tkhd id s (at_path to_tkhd moov)) (get_or-replicate n j empty_summary empty_summary within))

-- there is a summary for each
pub length-summaries : (moov : Box) (ids : List ℕ) → length (summaries_in moov ids) ≡ length ids
unfolding summaries_in
length-summaries moov ids =
    let none : List Summary = replicate (length ids) empty_summary in
    length-all_added Trex ids (all_added Tkhd ids none (at_path to_tkhd moov)) (at_path to_trex moov)
    ∙ length-all_added Tkhd ids none (at_path to_tkhd moov) ∙ length-replicate (length ids) empty_summary

pub summary_at_place : (moov : Box) (ids : List ℕ) (xs : List Summary) (id j : ℕ) (d : Summary) → j < length ids → sought ids id ≡ Some j → xs ≡ summaries_in moov ids
    → slice_index_or xs j d ≡ summary_in moov id
summary_at_place moov ids xs id j d within here e =
    any_default xs j d empty_summary (omega (arith, within, ap (λ (ys : List Summary). length ys) e, length-summaries moov ids))
    ∙ ap (λ (ys : List Summary). slice_index_or ys j empty_summary) e ∙ summary_at moov ids id j within here

-- ---- none

all_of_none : (source : Source) (xs : List Summary) (bs : List Box) → all_added source [] xs bs ≡ xs
unfolding all_added
all_of_none source xs [] = refl
all_of_none source xs (b ∷ bs) = ap (λ (o : Option ℕ). all_added source [] (added_at source b xs o) bs) (none_sought (id_by source b)) ∙ all_of_none source xs bs

pub summaries_of_none : (moov : Box) (ids : List ℕ) (xs : List Summary) → ids ≡ [] → xs ≡ [] → xs ≡ summaries_in moov ids
unfolding summaries_in
summaries_of_none moov ids xs none empty =
    empty
    ∙ sym (ap (summaries_in moov) none
    ∙ ap (λ (ys : List Summary). all_added Trex [] ys (at_path to_trex moov)) (all_of_none Tkhd [] (at_path to_tkhd moov))
    ∙ all_of_none Trex [] (at_path to_trex moov))

-- ---- ids, as many as there is room for

pub room_for_all : (n : ℕ) (xs : List ℕ) → length xs ≤ n → xs ≡ take n xs
room_for_all n xs h = sym (take_all n xs h)

pub id_here : (from : ℕ) (b : Box) (bs : List Box) → from ≤ b.offset → ids_from from (b ∷ bs) ≡ tkhd_id b ∷ ids_from from bs
unfolding ids_from
id_here from b bs h =
    let test : ltb b.offset from ≡ false = grind (arith, nat_tests) in
    ap (λ (t : Bool). cond t (ids_from from bs) (tkhd_id b ∷ ids_from from bs)) test

pub id_before : (from : ℕ) (b : Box) (bs : List Box) → b.offset < from → ids_from from (b ∷ bs) ≡ ids_from from bs
unfolding ids_from
id_before from b bs h =
    let test : ltb b.offset from ≡ true = grind (arith, nat_tests) in
    ap (λ (t : Bool). cond t (ids_from from bs) (tkhd_id b ∷ ids_from from bs)) test

pub no_ids : (from : ℕ) → ids_from from [] ≡ []
unfolding ids_from
no_ids from = refl

pub room_for_one : (full : Bool) (k n : ℕ) → full ≡ (k == n) → full ≡ false → k ≤ n → k + 1 ≤ n
room_for_one true k n e f h = absurd cc
room_for_one false k n e f h = grind (arith, nat_tests)
