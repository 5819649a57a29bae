use Rattle.std.proofs.Common.{◌≡◌, ◌∙◌, ◌*◌, ℕ, true, sym, ap}
use Rattle.std.specs.Option.{is_none}
use Rattle.mp4_box.specs.Trees.{view}
use Rattle.mp4_traf.specs.declared.trun.SampleFields.{SampleFields}
use Rattle.mp4_traf.specs.Fields.{flags_in}
use Rattle.mp4_traf.specs.Implementation.TrafContexts.{shared_of}
use Rattle.mp4_traf.specs.Trun.{sample_fields}
use Rattle.mp4_traf.proofs.TimeLemmas.{none_found, ticks_by_product}
use Rattle.mp4_traf.proofs.times.ticks_in.Goals as goal

pub returns-then-is_none : goal.returns-then-is_none
returns-then-is_none c =
    let b = view c.args.trun.now in
    let fields : c.sample_fields.result ≡ sample_fields (flags_in b.payload) = c.sample_fields.ensures.value ∙ ap sample_fields c.flags_of.ensures in
    let none : is_none (sample_fields (flags_in b.payload)).sample_duration ≡ true =
    sym (ap (λ (f : SampleFields). is_none f.sample_duration) fields) ∙ none_found c.sample_fields.result.sample_duration c.is_none.result c.is_none.ensures c.if-is_none.true in
    ap (λ (n : ℕ). n * c.from-then-is_none.result) c.from.ensures
    ∙ ap (λ (n : ℕ). c.args.context.now.header.duration * n) (c.from-then-is_none.ensures ∙ c.sample_count.ensures)
    ∙ ticks_by_product (shared_of c.args.context.now) b none
