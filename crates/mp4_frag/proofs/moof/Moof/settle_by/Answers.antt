use Rattle.std.proofs.Common.{◌∙◌, length, ap, arith}
use Rattle.mp4_frag.specs.Moofs.{moof_of, moof_trafs}
use Rattle.mp4_frag.proofs.MoofLemmas.{read_count}
use Rattle.mp4_frag.proofs.SettleLemmas.{settled_length}
use Rattle.mp4_frag.proofs.SoundLemmas.{few_timed}
use Rattle.mp4_frag.proofs.TrafEndLemmas.{settled_so}
use Rattle.mp4_frag.proofs.moof.Moof.settle_by.Goals as goal

pub returns-clause-tracks : goal.returns-clause-tracks
returns-clause-tracks c =
    let less = c.has_room.ensures cc in
    c.settle-2.ensures ∙ settled_so c.args.tracks.now (moof_trafs c.args.self.now c.args.tracks.now) c.args.ends.now.ends.items c.requires.ends.ends less

pub returns-clause-len : goal.returns-clause-len
returns-clause-len c =
    let less = c.has_room.ensures cc in
    let ts = moof_trafs c.args.self.now c.args.tracks.now in
    ap length (c.settle-2.ensures ∙ settled_so c.args.tracks.now ts c.args.ends.now.ends.items c.requires.ends.ends less) ∙ settled_length c.args.tracks.now ts

pub returns-clause-few : goal.returns-clause-few
returns-clause-few c =
    let few = few_timed (moof_of c.args.self.now) (read_count c.args.self.now c.args.tracks.now c.requires.read) in
    omega (arith, few.timed, c.from.ensures, c.timed.ensures, c.requires.ends.timed)
