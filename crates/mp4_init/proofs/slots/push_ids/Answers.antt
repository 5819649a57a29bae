use Rattle.std.proofs.Common.{◌≡◌, ◌∙◌, ◌++◌, ◌∷◌, [], ℕ, List, take, length, sym, ap, arith, append-nil, append_assoc}
use Rattle.mp4_box.specs.Trees.{Box, view}
use Rattle.mp4_box.specs.Paths.{at_path}
use Rattle.mp4_init.specs.Kinds.{to_tkhd}
use Rattle.mp4_init.specs.Implementation.Summaries.{ids_from}
use Rattle.mp4_init.proofs.SummaryTableLemmas.{id_before, id_here, no_ids, room_for_all, room_for_one}
use Rattle.mp4_init.proofs.slots.push_ids.Goals as goal

pub loop-tkhd-preserved-then-tkhd-from : goal.loop-tkhd-preserved-then-tkhd-from
loop-tkhd-preserved-then-tkhd-from g c =
    let from = c.args.from in
    let here = view c.in-Some.tkhd in
    let left = c.next.new.self in
    let so_far = c.loop-tkhd.ids.items in
    record {
      fits = omega (arith, c.push.ensures.len, room_for_one c.is_full.result (length so_far) g.row.N c.is_full.ensures.value c.if-is_full.false c.is_full.ensures.fits);
      left =
          ap (λ (xs : List ℕ). xs ++ ids_from from left) c.push.ensures.items
          ∙ append_assoc so_far (c.number_after_times.result ∷ []) (ids_from from left)
          ∙ ap (λ (id : ℕ). so_far ++ (id ∷ ids_from from left)) c.number_after_times.ensures
          ∙ ap (λ (xs : List ℕ). so_far ++ xs) (sym (id_here from here left c.if-tkhd-from.true))
          ∙ ap (λ (bs : List Box). so_far ++ ids_from from bs) (sym c.in-Some.ensures.steps)
          ∙ c.loop-tkhd.invariant.left;
    }

pub loop-tkhd-preserved : goal.loop-tkhd-preserved
loop-tkhd-preserved g c =
    let from = c.args.from in
    let so_far = c.loop-tkhd.ids.items in
    record {
      fits = c.loop-tkhd.invariant.fits;
      left =
          ap (λ (xs : List ℕ). so_far ++ xs) (sym (id_before from (view c.in-Some.tkhd) c.next.new.self c.if-tkhd-from.false))
          ∙ ap (λ (bs : List Box). so_far ++ ids_from from bs) (sym c.in-Some.ensures.steps)
          ∙ c.loop-tkhd.invariant.left;
    }

pub returns : goal.returns
returns g c =
    let from = c.args.from in
    let so_far = c.loop-tkhd.ids.items in
    let all : so_far ≡ ids_from from (at_path to_tkhd (view c.args.moov.now)) =
    sym (append-nil so_far) ∙ ap (λ (xs : List ℕ). so_far ++ xs) (sym (no_ids from))
    ∙ ap (λ (bs : List Box). so_far ++ ids_from from bs) (sym c.in-None.ensures.steps.0) ∙ c.loop-tkhd.invariant.left in
    room_for_all g.row.N so_far c.loop-tkhd.invariant.fits ∙ ap (λ (xs : List ℕ). take g.row.N xs) all
