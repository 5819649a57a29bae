use Rattle.std.proofs.Common.{◌∙◌, ◌+◌, ℕ, sym, ap, arith, List}
use Rattle.std.specs.Option.{unwrap_or}
use Rattle.mp4_box.specs.Trees.{Box, first_of, view}
use Rattle.mp4_frag.specs.Implementation.Rereads.{absent_box}
use Rattle.mp4_traf.specs.Runs.{MoofBytes}
use Rattle.mp4_frag.proofs.RunRowLemmas.{found_by, found_nothing}
use Rattle.mp4_frag.proofs.run_list.reread.box_in.Goals as goal

pub returns-then-at-moof_bytes : goal.returns-then-at-moof_bytes
returns-then-at-moof_bytes c =
    let h : MoofBytes = record { bytes = c.args.moof_bytes.now; offset = c.args.moof } in
    found_nothing h c.args.offset c.saturating_sub-at.result (view c.headless.result) (omega (arith, c.saturating_sub-at.ensures)) (omega (arith, c.if-at-moof_bytes.true)) c.headless.ensures

pub returns-in-Some : goal.returns-in-Some
returns-in-Some c =
    let h : MoofBytes = record { bytes = c.args.moof_bytes.now; offset = c.args.moof } in
    found_by h c.args.offset c.saturating_sub-at.result (view c.headless-part.result) (view c.in-Some.this) c.of.result (omega (arith, c.saturating_sub-at.ensures)) (c.headless-part.ensures ∙ ap (λ (p : List ℕ). record absent_box { offset = c.args.moof + c.saturating_sub-at.result; payload = p }) c.split_at.ensures.back) c.of.ensures.children
    (ap (λ (bs : List Box). unwrap_or (first_of bs) absent_box) c.in-Some.ensures.steps)

pub returns-in-None : goal.returns-in-None
returns-in-None c =
    let h : MoofBytes = record { bytes = c.args.moof_bytes.now; offset = c.args.moof } in
    found_by h c.args.offset c.saturating_sub-at.result (view c.headless-part.result) (view c.headless-in-None.result) c.of.result (omega (arith, c.saturating_sub-at.ensures)) (c.headless-part.ensures ∙ ap (λ (p : List ℕ). record absent_box { offset = c.args.moof + c.saturating_sub-at.result; payload = p }) c.split_at.ensures.back) c.of.ensures.children
    (ap (λ (bs : List Box). unwrap_or (first_of bs) absent_box) c.in-None.ensures.steps.0 ∙ sym c.headless-in-None.ensures)
