use Rattle.std.proofs.Common.{◌∙◌, [], length, refl, sym, subst}
use Rattle.std.specs.List.{AllByRecursion}
use Rattle.mp4_box.specs.Trees.{Box, view}
use Rattle.mp4_frag.specs.Repeats.{trafs_of, untimed_ids}
use Rattle.mp4_traf.specs.Runs.{moof_at}
use Rattle.mp4_frag.specs.Implementation.AtOnce.{HasEarlyEnd, IsCount, most_64}
use Rattle.mp4_frag.proofs.EarlyLemmas.{early_in_time, none_untimed, values_count}
use Rattle.mp4_frag.proofs.MoofLemmas.{moof_is}
use Rattle.mp4_frag.proofs.PassLemmas.{no_traf_lacks, none_lacks}
use Rattle.mp4_frag.proofs.PassTreeLemmas.{none_early, repeats_count, repeats_early, repeats_least}
use Rattle.mp4_frag.proofs.moof.early.Goals as goal

pub returns-then-untimed-eq0-clause-fault : goal.returns-then-untimed-eq0-clause-fault
returns-then-untimed-eq0-clause-fault c =
    let m = view c.whole_box.result in
    let found = c.in-Some.ensures in
    none_early (moof_at c.args.moof_bytes.now c.args.offset) c.args.tracks.now m c.whole_box.ensures (moof_is c.args.offset c.args.moof_bytes.now m c.whole_box.ensures) (found.tree refl) (found.forms refl)
    (found.values refl ∙ none_lacks [] (trafs_of m) (no_traf_lacks (trafs_of m) c.read_at_once.new.untimed (found.count refl) c.if-untimed-eq0.true))

pub returns-then-untimed-eq0-clause-early : goal.returns-then-untimed-eq0-clause-early
returns-then-untimed-eq0-clause-early c = λ sure.
    let m = view c.whole_box.result in
    let found = c.in-Some.ensures in
    let timed = no_traf_lacks (trafs_of m) c.read_at_once.new.untimed (found.count refl) c.if-untimed-eq0.true in
    early_in_time (moof_at c.args.moof_bytes.now c.args.offset) c.args.tracks.now m c.requires.whole (λ i. (c.type_inv.moof_bytes i).fits) c.whole_box.ensures (moof_is c.args.offset c.args.moof_bytes.now m c.whole_box.ensures)
    (values_count c.args.tracks.now m (found.values refl ∙ none_lacks [] (trafs_of m) timed))
    (found.early sure (none_untimed c.args.tracks.now (trafs_of m) timed))

pub returns-in-Ok-clause-fault : goal.returns-in-Ok-clause-fault
returns-in-Ok-clause-fault c =
    let m = view c.whole_box.result in
    let found = c.in-Some.ensures in
    repeats_early (moof_at c.args.moof_bytes.now c.args.offset) c.args.tracks.now m c.whole_box.ensures (moof_is c.args.offset c.args.moof_bytes.now m c.whole_box.ensures) (found.tree refl) (found.forms refl) (found.values refl) _ c.in-Ok.ensures.fault

pub returns-in-Ok-clause-early : goal.returns-in-Ok-clause-early
returns-in-Ok-clause-early c = λ sure.
    let m = view c.whole_box.result in
    let is = moof_is c.args.offset c.args.moof_bytes.now m c.whole_box.ensures in
    let found = c.in-Some.ensures in
    early_in_time (moof_at c.args.moof_bytes.now c.args.offset) c.args.tracks.now m c.requires.whole (λ i. (c.type_inv.moof_bytes i).fits) c.whole_box.ensures is
    (repeats_count (moof_at c.args.moof_bytes.now c.args.offset) c.args.tracks.now m c.whole_box.ensures is (found.tree refl) (found.forms refl) (found.values refl) c.in-Ok.ensures.fault)
    (found.early (c.in-Ok.ensures.early sure) (subst (λ (b : Box). AllByRecursion (HasEarlyEnd c.args.tracks.now) (trafs_of b)) is (c.in-Ok.ensures.ends sure)))

pub returns-in-Err-clause-fault : goal.returns-in-Err-clause-fault
returns-in-Err-clause-fault c =
    let m = view c.whole_box.result in
    let found = c.in-Some.ensures in
    repeats_early (moof_at c.args.moof_bytes.now c.args.offset) c.args.tracks.now m c.whole_box.ensures (moof_is c.args.offset c.args.moof_bytes.now m c.whole_box.ensures) (found.tree refl) (found.forms refl) (found.values refl) _ c.in-Err.ensures.fault

pub returns-in-Err-clause-least : goal.returns-in-Err-clause-least
returns-in-Err-clause-least c =
    let m = view c.whole_box.result in
    let found = c.in-Some.ensures in
    repeats_least (moof_at c.args.moof_bytes.now c.args.offset) c.args.tracks.now m c.whole_box.ensures (moof_is c.args.offset c.args.moof_bytes.now m c.whole_box.ensures) (found.tree refl) (found.forms refl) (found.values refl) c.in-Err.fault c.in-Err.ensures.fault

pub untimed_findings-requires-clause-count : goal.untimed_findings-requires-clause-count
untimed_findings-requires-clause-count c =
    let m = view c.whole_box.result in
    let is = moof_is c.args.offset c.args.moof_bytes.now m c.whole_box.ensures in
    subst (λ (b : Box). IsCount most_64 0 (length (untimed_ids (trafs_of b))) c.read_at_once.new.untimed) (sym is) (c.in-Some.ensures.count refl)
