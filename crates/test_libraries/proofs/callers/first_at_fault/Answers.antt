use Rattle.std.proofs.Common.{rules, ◌∙◌, ap, ℕ, Option}
use Rattle.std.specs.List.Sorted.{IsNonDecreasingBy}
use Rattle.std.proofs.lemmas.List.Sorted.{IsPermutation-trans, IsNonDecreasingBy-from_sort_by_key}
use Rattle.mp4_run_order.specs.Orders.{place_key, track_key}
use Rattle.mp4_run_order.specs.Implementation.Searches.{found_by_place}
use Rattle.mp4_run_order.proofs.OrderLemmas.{order_is_taken, place_keys_order, track_keys_order}
use Rattle.mp4_run_order.proofs.SearchLemmas.{search_is}
use Rattle.test_libraries.proofs.callers.first_at_fault.Goals as goal

pub returns-clause-found : goal.returns-clause-found
returns-clause-found c =
    let first = c.sort_unstable_by_key in
    let second = c.sort_unstable_by_key-2 in
    let l = c.requires.listing in
    let k = c.requires.keys in
    let up : IsNonDecreasingBy track_key first.new.self = IsNonDecreasingBy-from_sort_by_key track_key _ first.ensures.sorted (λ a r q e. search rules) in
    let rise : IsNonDecreasingBy place_key second.new.self = IsNonDecreasingBy-from_sort_by_key place_key _ second.ensures.sorted (λ a r q e. search rules) in
    let m = IsPermutation-trans c.args.runs.now first.new.self second.new.self first.ensures.permutation second.ensures.permutation in
    c.find_by_place.ensures
    ∙ (ap (λ (o : Option ℕ). found_by_place c.args.payload o second.new.self) c.find_by_track-offender.ensures
    ∙ search_is c.args.payload c.args.runs.now first.new.self second.new.self l (track_keys_order c.args.runs.now first.new.self l k first.ensures.permutation up) (place_keys_order c.args.runs.now second.new.self l k m rise))

pub returns-clause-taken : goal.returns-clause-taken
returns-clause-taken c =
    let first = c.sort_unstable_by_key in
    let second = c.sort_unstable_by_key-2 in
    let l = c.requires.listing in
    let rise : IsNonDecreasingBy place_key second.new.self = IsNonDecreasingBy-from_sort_by_key place_key _ second.ensures.sorted (λ a r q e. search rules) in
    let m = IsPermutation-trans c.args.runs.now first.new.self second.new.self first.ensures.permutation second.ensures.permutation in
    order_is_taken c.args.runs.now second.new.self l (place_keys_order c.args.runs.now second.new.self l c.requires.keys m rise)
