use Rattle.std.proofs.Common.{◌≡◌, ◌∙◌, ℕ, Option, ap, subst, sym}
use Rattle.std.specs.Prelude.{IfSome}
use Rattle.mp4_frag.specs.declared.single_run.SingleRun.{SingleRun}
use Rattle.mp4_box.specs.Paths.{of_kind}
use Rattle.mp4_box.specs.Trees.{view}
use Rattle.mp4_traf.specs.Kinds.{traf}
use Rattle.mp4_traf.specs.Runs.{moof_at}
use Rattle.mp4_frag.proofs.SingleRunLemmas.{single_found_in, one_known, one_sound}
use Rattle.mp4_frag.proofs.MoofLemmas.{moof_is}
use Rattle.mp4_frag.proofs.MoofListLemmas.{is_moof}
use Rattle.mp4_frag.proofs.single_run.only_run.single_in.Goals as goal

pub single_of-requires-clause-sound : goal.single_of-requires-clause-sound
single_of-requires-clause-sound c =
    let m = view c.whole_box-moof.result in
    let moof = is_moof c.args.offset c.args.moof_bytes.now m c.requires.whole (λ i. (c.type_inv.moof_bytes i).fits) c.requires.room c.whole_box-moof.ensures in
    one_sound (moof_at c.args.moof_bytes.now c.args.offset) c.args.tracks.now m (view c.in-Some.traf) moof c.requires.read (ap (of_kind traf) (sym c.of.ensures.children) ∙ c.in-Some.ensures.only)

pub single_of-requires-clause-known : goal.single_of-requires-clause-known
single_of-requires-clause-known c =
    let m = view c.whole_box-moof.result in
    one_known (moof_at c.args.moof_bytes.now c.args.offset) c.args.tracks.now m (view c.in-Some.traf) (moof_is c.args.offset c.args.moof_bytes.now m c.whole_box-moof.ensures) c.requires.read (ap (of_kind traf) (sym c.of.ensures.children) ∙ c.in-Some.ensures.only)

IfSome-as : (o : Option SingleRun) (number same : ℕ) → number ≡ same → IfSome o (λ l. l.sequence ≡ number) → IfSome o (λ l. l.sequence ≡ same)
IfSome-as o number same e h = subst (λ n. IfSome o (λ l. l.sequence ≡ n)) e h

pub returns-clause-single_run : goal.returns-clause-single_run
returns-clause-single_run c =
    let m = view c.whole_box-moof.result in
    let found = c.single_of.ensures in
    single_found_in (moof_at c.args.moof_bytes.now c.args.offset) c.args.tracks.now m (view c.in-Some.traf) c.single_of.result (moof_is c.args.offset c.args.moof_bytes.now m c.whole_box-moof.ensures) (ap (of_kind traf) (sym c.of.ensures.children) ∙ c.in-Some.ensures.only) c.requires.read found.run found.range found.track found.within (IfSome-as c.single_of.result _ _ c.sequence_in-sequence.ensures found.sequence)
