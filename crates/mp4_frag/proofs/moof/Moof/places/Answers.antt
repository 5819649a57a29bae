use Rattle.std.proofs.Common.{◌∙◌, ap, sym}
use Rattle.std.specs.Prelude.{option_map}
use Rattle.std.specs.List.{fold}
use Rattle.mp4_run_order.specs.declared.place_search.PlaceSearch.{PlaceSearch}
use Rattle.mp4_run_order.specs.Implementation.Searches.{place_step}
use Rattle.mp4_frag.specs.Implementation.RunRows.{listed_words}
use Rattle.mp4_frag.specs.Places.{run_place_fault}
use Rattle.mp4_frag.proofs.RunListLemmas.{place_found, place_means, search_begins}
use Rattle.mp4_frag.proofs.moof.Moof.places.Goals as goal

pub loop-taken-init : goal.loop-taken-init
loop-taken-init c = record {
  left =
      ap (fold place_step c.new-search.result) (c.into_iter-taken-iterator.ensures.into_iter_gives ∙ c.runs_of-taken-items.ensures)
      ∙ (ap (λ (s : PlaceSearch). fold place_step s (listed_words c.list.inside.rows.rows)) c.new-search.ensures
      ∙ search_begins c.args.payload c.args.list.now c.list.inside.rows.rows c.list.inside.faulty_by_track c.list.view_is);
}

pub returns-in-None-offender-clause-fault : goal.returns-in-None-offender-clause-fault
returns-in-None-offender-clause-fault c = λ tracks of.
    ap (option_map run_place_fault) (sym c.in-None-offender.is) ∙ place_found c.args.payload c.args.self.now tracks c.args.list.now c.loop-taken.search c.loop-taken.taken-iterator of c.in-None.ensures.steps.0 c.loop-taken.invariant.left

pub returns-in-Some-offender-clause-fault : goal.returns-in-Some-offender-clause-fault
returns-in-Some-offender-clause-fault c = λ tracks of.
    rw c.run_place_fault.ensures (ap (option_map run_place_fault) (sym c.in-Some-offender.is) ∙ place_found c.args.payload c.args.self.now tracks c.args.list.now c.loop-taken.search c.loop-taken.taken-iterator of c.in-None.ensures.steps.0 c.loop-taken.invariant.left)

pub returns-in-None-offender-clause-first : goal.returns-in-None-offender-clause-first
returns-in-None-offender-clause-first c = λ tracks of.
    place_means c.args.payload c.args.self.now tracks c.args.list.now _ of (ap (option_map run_place_fault) (sym c.in-None-offender.is) ∙ place_found c.args.payload c.args.self.now tracks c.args.list.now c.loop-taken.search c.loop-taken.taken-iterator of c.in-None.ensures.steps.0 c.loop-taken.invariant.left)

pub returns-in-Some-offender-clause-first : goal.returns-in-Some-offender-clause-first
returns-in-Some-offender-clause-first c = λ tracks of.
    rw c.run_place_fault.ensures (place_means c.args.payload c.args.self.now tracks c.args.list.now _ of (ap (option_map run_place_fault) (sym c.in-Some-offender.is) ∙ place_found c.args.payload c.args.self.now tracks c.args.list.now c.loop-taken.search c.loop-taken.taken-iterator of c.in-None.ensures.steps.0 c.loop-taken.invariant.left))
