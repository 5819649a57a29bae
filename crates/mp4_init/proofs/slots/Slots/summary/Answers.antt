use Rattle.std.proofs.Common.{◌≡◌, ◌∙◌, ℕ, List, length, sym, ap, arith}
use Rattle.mp4_box.specs.Trees.{view}
use Rattle.mp4_init.specs.declared.summary.Summary.{Summary}
use Rattle.mp4_init.specs.OrderedIds.{sought}
use Rattle.mp4_init.proofs.SummaryTableLemmas.{length-summaries, summary_at_place}
use Rattle.mp4_init.proofs.slots.Slots.summary.Goals as goal

pub bounds-as_slice-at : goal.bounds-as_slice-at
bounds-as_slice-at g c =
    let summaries : length c.as_slice-in-Some.result.now ≡ length c.args.self.now.ids.items =
    ap (λ (xs : List Summary). length xs) (c.as_slice-in-Some.ensures.value ∙ c.requires) ∙ length-summaries (view c.args.moov.now) c.args.self.now.ids.items in
    omega (arith, c.in-Some.ensures.within, ap (λ (ids : List ℕ). length ids) c.as_slice.ensures.value, summaries)

pub returns-in-Some-clause-summary : goal.returns-in-Some-clause-summary
returns-in-Some-clause-summary g c =
    summary_at_place (view c.args.moov.now) c.args.self.now.ids.items c.as_slice-in-Some.result.now c.args.id c.in-Some.at _
    (omega (arith, c.in-Some.ensures.within, ap (λ (ids : List ℕ). length ids) c.as_slice.ensures.value))
    (sym (ap (λ (xs : List ℕ). sought xs c.args.id) c.as_slice.ensures.value) ∙ sym c.seek_in_order.ensures.place ∙ c.in-Some.is)
    (c.as_slice-in-Some.ensures.value ∙ c.requires)
