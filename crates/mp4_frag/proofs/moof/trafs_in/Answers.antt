use Rattle.std.proofs.Common.{◌≡◌, ◌^◌, ◌≤◌, arith, subst}
use Rattle.std.specs.List.{AllByRecursion}
use Rattle.mp4_box.specs.Trees.{Box, children, view}
use Rattle.mp4_traf.specs.Ranges.{IsSound}
use Rattle.mp4_traf.specs.Runs.{MoofBytes, trafs_by}
use Rattle.mp4_frag.specs.Moofs.{moof_of}
use Rattle.mp4_frag.proofs.MoofLemmas.{moof_is}
use Rattle.mp4_frag.proofs.SoundLemmas.{all_sound}
use Rattle.mp4_frag.proofs.moof.trafs_in.Goals as goal

pub of-requires : goal.of-requires
of-requires c =
    let h : MoofBytes = record { bytes = c.args.moof_bytes.now; offset = c.args.offset } in
    let m : Box = view c.whole_box.result in
    let is : moof_of h ≡ m = moof_is c.args.offset c.args.moof_bytes.now m c.whole_box.ensures in
    let near : h.offset ≤ 2 ^ 62 = omega (arith, c.requires.room) in
    subst (λ (b : Box). AllByRecursion IsSound (trafs_by h c.args.tracks.now (children b))) is
    (all_sound h c.args.tracks.now m near c.requires.whole (λ i. (c.type_inv.moof_bytes i).fits) c.whole_box.ensures is c.requires.read)
