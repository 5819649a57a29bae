use Rattle.std.proofs.Common.{arith}
use Rattle.mp4_box.specs.Trees.{view}
use Rattle.mp4_frag.specs.Repeats.{trafs_of}
use Rattle.mp4_frag.proofs.PassLemmas.{no_traf_lacks, none_earlier, none_untimed}
use Rattle.mp4_frag.proofs.rules.repeats.note_among.Goals as goal

pub returns-then-count-eq0 : goal.returns-then-count-eq0
returns-then-count-eq0 c =
    let m = view c.args.moof.now in
    none_untimed m c.args.best.now (no_traf_lacks (trafs_of m) c.args.count c.requires c.if-count-eq0.true)

pub returns-then-count_of-lt2 : goal.returns-then-count_of-lt2
returns-then-count_of-lt2 c = none_earlier (view c.args.moof.now) c.args.best.now (omega (arith, c.count_of.ensures, c.if-count_of-lt2.true))
