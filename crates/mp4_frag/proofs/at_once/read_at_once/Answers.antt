use Rattle.std.proofs.Common.{◌≡◌, sym, arith}
use Rattle.mp4_box.specs.Paths.{at_path}
use Rattle.mp4_box.specs.Trees.{view}
use Rattle.mp4_traf.specs.Kinds.{to_trun}
use Rattle.mp4_frag.specs.Repeats.{trafs_of}
use Rattle.mp4_frag.specs.Rules.{samples_of}
use Rattle.mp4_frag.proofs.AddLemmas.{early_found, few_enough, samples_found, truns_found}
use Rattle.mp4_frag.proofs.AtOnceLemmas.{Passed, no_forms, only_repeats, passed, passed_heads}
use Rattle.mp4_frag.proofs.EarlyLemmas.{trafs_start}
use Rattle.mp4_frag.proofs.PassTreeLemmas.{no_tree}
use Rattle.mp4_frag.proofs.at_once.read_at_once.Goals as goal

pass : (c : goal.Else-sound-gt-MOST_TRUNS) → Passed c.args.tracks.now (view c.args.moof.now)
pass c =
    passed c.args.tracks.now (view c.args.moof.now) c.note_moof.new.best c.note_moof.ensures.best (sym c.if-is_some.ensures) (c.note_moof.ensures.complete c.if-not-note_moof.false)

samples : (c : goal.Else-sound-gt-MOST_TRUNS) → c.note_moof.new.sound.samples ≡ samples_of (view c.args.moof.now)
samples c = samples_found (view c.args.moof.now) c.note_moof.new.sound c.note_moof.ensures.adds (omega (arith, c.if-sound-gt-MOST_IN_MOOF.false))

pub returns-clause-tree : goal.returns-clause-tree
returns-clause-tree c = λ _. no_tree c.args.tracks.now (view c.args.moof.now) (pass c)

pub returns-clause-forms : goal.returns-clause-forms
returns-clause-forms c = λ _. no_forms c.args.tracks.now (view c.args.moof.now) (pass c)

pub returns-clause-values : goal.returns-clause-values
returns-clause-values c = λ _.
    only_repeats c.args.tracks.now (view c.args.moof.now) (pass c) (few_enough 0 (at_path to_trun (view c.args.moof.now)) (omega (arith, samples c, c.if-sound-gt-MOST_IN_MOOF.false)))

pub returns-clause-samples : goal.returns-clause-samples
returns-clause-samples c = samples c

pub returns-clause-truns : goal.returns-clause-truns
returns-clause-truns c = truns_found (view c.args.moof.now) c.note_moof.new.sound c.note_moof.ensures.adds (omega (arith, c.if-sound-gt-MOST_TRUNS.false))

pub returns-clause-early : goal.returns-clause-early
returns-clause-early c = λ sure ends.
    let m = view c.args.moof.now in
    record {
      heads = passed_heads c.args.tracks.now m (pass c);
      times = trafs_start c.args.tracks.now (trafs_of m) (early_found m c.note_moof.new.sound c.note_moof.ensures.adds sure) ends;
      ticks = c.note_moof.ensures.ticks;
    }
