use Rattle.std.proofs.Common.{◌∙◌, ◌∷◌, [], ap, sym}
use Rattle.mp4_box.specs.Paths.{at_path}
use Rattle.mp4_box.specs.Trees.{first_of, view}
use Rattle.mp4_traf.specs.Fields.{payload_of}
use Rattle.mp4_traf.specs.Kinds.{mfhd}
use Rattle.mp4_traf.proofs.ChildLemmas.{path_kind}
use Rattle.mp4_frag.specs.Mfhd.{sequence_number}
use Rattle.mp4_traf.specs.Runs.{moof_at}
use Rattle.mp4_frag.proofs.SingleRunLemmas.{one_single, one_sound}
use Rattle.mp4_frag.proofs.MoofListLemmas.{is_moof}
use Rattle.mp4_traf.proofs.StartLemmas.{headed}
use Rattle.mp4_frag.proofs.CommonLayoutLemmas.{of_mfhds, of_trafs, common_read}
use Rattle.mp4_frag.proofs.single_run.common_layout.common_run.Goals as goal

pub run_with-requires-clause-tfhd : goal.run_with-requires-clause-tfhd
run_with-requires-clause-tfhd c =
    let u = c.in-Some-common_of.common_layout in
    (headed (view u.traf) (view u.tfhd) (view u.tfdt) (view u.trun ∷ []) c.in-Some-common_of.ensures.three.are c.in-Some-common_of.ensures.is_tfhd c.in-Some-common_of.ensures.is_tfdt).tfhd

pub run_with-requires-clause-time : goal.run_with-requires-clause-time
run_with-requires-clause-time c = λ next.
    let u = c.in-Some-common_of.common_layout in
    c.base_media_decode_time-time.ensures ∙ (headed (view u.traf) (view u.tfhd) (view u.tfdt) (view u.trun ∷ []) c.in-Some-common_of.ensures.three.are c.in-Some-common_of.ensures.is_tfhd c.in-Some-common_of.ensures.is_tfdt).time next

pub run_with-requires-clause-sound : goal.run_with-requires-clause-sound
run_with-requires-clause-sound c =
    let u = c.in-Some-common_of.common_layout in
    let h = moof_at c.args.moof_bytes.now c.args.offset in
    let m = view c.in-Some.moof in
    let moof = is_moof c.args.offset c.args.moof_bytes.now m c.requires.whole (λ i. (c.type_inv.moof_bytes i).fits) c.requires.room c.in-Some.ensures.here in
    let trafs = of_trafs c.args.tracks.now m (view u.mfhd) (view u.traf) (view u.tfhd) (view u.tfdt) (view u.trun) c.in-Some-common_of.ensures in
    let sound = c.sound_track.ensures.sound m c.in-Some-common_of.ensures cc in
    let read = common_read h c.args.tracks.now m moof sound.tree sound.forms sound.values sound.early in
    one_sound h c.args.tracks.now m (view u.traf) moof read trafs

pub returns : goal.returns
returns c =
    let u = c.in-Some-common_of.common_layout in
    let h = moof_at c.args.moof_bytes.now c.args.offset in
    let m = view c.in-Some.moof in
    let moof = is_moof c.args.offset c.args.moof_bytes.now m c.requires.whole (λ i. (c.type_inv.moof_bytes i).fits) c.requires.room c.in-Some.ensures.here in
    let trafs = of_trafs c.args.tracks.now m (view u.mfhd) (view u.traf) (view u.tfhd) (view u.tfdt) (view u.trun) c.in-Some-common_of.ensures in
    let sound = c.sound_track.ensures.sound m c.in-Some-common_of.ensures cc in
    let read = common_read h c.args.tracks.now m moof sound.tree sound.forms sound.values sound.early in
    let found = c.run_with.ensures in
    let mfhd_here = of_mfhds c.args.tracks.now m (view u.mfhd) (view u.traf) (view u.tfhd) (view u.tfdt) (view u.trun) c.in-Some-common_of.ensures in
    let sequence = c.sequence_number.ensures ∙ sym (ap (λ box. sequence_number (payload_of (first_of (at_path (mfhd ∷ []) box)))) moof.is ∙ ap (λ bs. sequence_number (payload_of (first_of bs))) (path_kind mfhd m ∙ mfhd_here)) in
    one_single h c.args.tracks.now m (view u.traf) _ moof.is trafs read found.run found.range found.track c.in-Some-sound_track.ensures.within sequence
