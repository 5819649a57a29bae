use Rattle.std.proofs.Common.{◌≡◌, List, sym, subst}
use Rattle.std.specs.List.{AllByRecursion}
use Rattle.mp4_box.specs.Paths.{of_kind}
use Rattle.mp4_box.specs.Trees.{children}
use Rattle.mp4_frag.specs.Moofs.{moof_of, moof_trafs}
use Rattle.mp4_traf.specs.Kinds.{traf}
use Rattle.mp4_traf.specs.Ranges.{IsSound}
use Rattle.mp4_traf.specs.Runs.{MoofBytes, TrackFragment, moof_at}
use Rattle.mp4_frag.proofs.MoofTotalLemmas.{moof_sound}
use Rattle.mp4_fragment_machine.proofs.FragmentLineLemmas.{trafs_bytes}
use Rattle.mp4_fragment_machine.proofs.mdat.traf_lines.list_trafs.Goals as goal

pub put_trafs-requires : goal.put_trafs-requires
put_trafs-requires g c =
    let h : MoofBytes = moof_at c.args.moof_bytes.now c.args.at in
    let is : c.trafs-trafs.result ≡ moof_trafs h c.args.tracks.now = rw (c.again-moof.ensures) at c.trafs-trafs.ensures in
    let all = trafs_bytes h c.args.tracks.now (of_kind traf (children (moof_of h))) in
    record { bytes = subst (λ (ts : List TrackFragment). AllByRecursion (λ (t : TrackFragment). t.shared.moof.bytes ≡ c.args.moof_bytes.now) ts) (sym is) all; sound = subst (λ (ts : List TrackFragment). AllByRecursion IsSound ts) (sym is) (moof_sound h c.args.tracks.now c.requires.room c.requires.whole (λ i. (c.type_inv.moof_bytes i).fits) c.requires.read) }
