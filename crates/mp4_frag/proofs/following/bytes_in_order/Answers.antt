use Rattle.std.proofs.Common.{◌∙◌, [], ◌∷◌, ◌++◌, ap, refl, sym, arith}
use Rattle.std.specs.Prelude.{take}
use Rattle.mp4_box.specs.Paths.{at_path}
use Rattle.mp4_traf.specs.Kinds.{traf}
use Rattle.mp4_frag.specs.TrafEnds.{few_trafs}
use Rattle.mp4_frag.specs.Implementation.Following.{ends_by, runs_of_trafs}
use Rattle.mp4_box.specs.Trees.{view}
use Rattle.mp4_traf.specs.Runs.{MoofBytes}
use Rattle.mp4_frag.proofs.FollowingLemmas.{bytes_taken, bytes_within, order_found, order_known, order_placed, truns_of}
use Rattle.mp4_frag.proofs.MoofListLemmas.{is_moof, sound_trafs}
use Rattle.mp4_frag.proofs.TrafEndLemmas.{ends_are, timed_all, timed_few}
use Rattle.mp4_frag.proofs.following.bytes_in_order.Goals as goal

pub follow_trafs-requires-clause-sound : goal.follow_trafs-requires-clause-sound
follow_trafs-requires-clause-sound c =
    let h : MoofBytes = record { bytes = c.args.moof_bytes.now; offset = c.args.offset } in
    let m = view c.whole_box-moof.result in
    let f = is_moof c.args.offset c.args.moof_bytes.now m c.requires.whole (λ i. (c.type_inv.moof_bytes i).fits) c.requires.room c.whole_box-moof.ensures in
    sound_trafs h c.args.tracks.now m f c.requires.read

pub returns-then-not-follow_trafs-clause-all : goal.returns-then-not-follow_trafs-clause-all
returns-then-not-follow_trafs-clause-all c = λ all.
    let h : MoofBytes = record { bytes = c.args.moof_bytes.now; offset = c.args.offset } in
    let m = view c.whole_box-moof.result in
    let f = is_moof c.args.offset c.args.moof_bytes.now m c.requires.whole (λ i. (c.type_inv.moof_bytes i).fits) c.requires.room c.whole_box-moof.ensures in
    let yes = order_found h c.args.tracks.now m c.args.payload f c.before_all-so_far.result.end c.before_all-so_far.ensures.end c.follow_trafs.result c.follow_trafs.ensures.is all in
    absurd (cc)

pub returns-clause-some : goal.returns-clause-some
returns-clause-some c = λ _.
    let h : MoofBytes = record { bytes = c.args.moof_bytes.now; offset = c.args.offset } in
    let m = view c.whole_box-moof.result in
    let f = is_moof c.args.offset c.args.moof_bytes.now m c.requires.whole (λ i. (c.type_inv.moof_bytes i).fits) c.requires.room c.whole_box-moof.ensures in
    order_known h c.args.tracks.now m c.args.payload f c.before_all-so_far.result.end c.before_all-so_far.ensures.end c.follow_trafs.result c.follow_trafs.ensures.is cc

pub returns-clause-within : goal.returns-clause-within
returns-clause-within c = λ end is le.
    let h : MoofBytes = record { bytes = c.args.moof_bytes.now; offset = c.args.offset } in
    let m = view c.whole_box-moof.result in
    bytes_within c.args.payload c.before_all-so_far.result.end c.follow_trafs.new.so_far.end (runs_of_trafs h c.args.tracks.now (at_path (traf ∷ []) m)) c.follow_trafs.new.so_far.bytes end c.before_all-so_far.ensures.end (c.follow_trafs.ensures.end cc) (sym c.follow_trafs.ensures.is ∙ cc) (c.follow_trafs.ensures.room cc) is le

pub returns-clause-placed : goal.returns-clause-placed
returns-clause-placed c = λ _.
    let h : MoofBytes = record { bytes = c.args.moof_bytes.now; offset = c.args.offset } in
    let m = view c.whole_box-moof.result in
    let f = is_moof c.args.offset c.args.moof_bytes.now m c.requires.whole (λ i. (c.type_inv.moof_bytes i).fits) c.requires.room c.whole_box-moof.ensures in
    order_placed h c.args.tracks.now c.args.payload f.fits (order_known h c.args.tracks.now m c.args.payload f c.before_all-so_far.result.end c.before_all-so_far.ensures.end c.follow_trafs.result c.follow_trafs.ensures.is cc)

pub returns-clause-runs : goal.returns-clause-runs
returns-clause-runs c =
    let h : MoofBytes = record { bytes = c.args.moof_bytes.now; offset = c.args.offset } in
    let m = view c.whole_box-moof.result in
    let f = is_moof c.args.offset c.args.moof_bytes.now m c.requires.whole (λ i. (c.type_inv.moof_bytes i).fits) c.requires.room c.whole_box-moof.ensures in
    truns_of h c.args.tracks.now m f

pub returns-then-not-follow_trafs-clause-runs : goal.returns-then-not-follow_trafs-clause-runs
returns-then-not-follow_trafs-clause-runs c =
    let h : MoofBytes = record { bytes = c.args.moof_bytes.now; offset = c.args.offset } in
    let m = view c.whole_box-moof.result in
    let f = is_moof c.args.offset c.args.moof_bytes.now m c.requires.whole (λ i. (c.type_inv.moof_bytes i).fits) c.requires.room c.whole_box-moof.ensures in
    truns_of h c.args.tracks.now m f

pub returns-clause-bytes : goal.returns-clause-bytes
returns-clause-bytes c =
    let h : MoofBytes = record { bytes = c.args.moof_bytes.now; offset = c.args.offset } in
    let m = view c.whole_box-moof.result in
    let f = is_moof c.args.offset c.args.moof_bytes.now m c.requires.whole (λ i. (c.type_inv.moof_bytes i).fits) c.requires.room c.whole_box-moof.ensures in
    let more = c.follow_trafs.ensures.bytes cc in
    bytes_taken h c.args.tracks.now m c.follow_trafs.new.so_far.bytes f (omega (arith, more, c.before_all-so_far.ensures.bytes))

pub follow_trafs-requires-clause-few : goal.follow_trafs-requires-clause-few
follow_trafs-requires-clause-few c =
    let h : MoofBytes = record { bytes = c.args.moof_bytes.now; offset = c.args.offset } in
    let m = view c.whole_box-moof.result in
    let f = is_moof c.args.offset c.args.moof_bytes.now m c.requires.whole (λ i. (c.type_inv.moof_bytes i).fits) c.requires.room c.whole_box-moof.ensures in
    let few = timed_few h c.args.tracks.now m f c.requires.read in
    omega (arith, few, c.before_all-so_far.ensures.timed)

pub follow_trafs-requires-clause-fits : goal.follow_trafs-requires-clause-fits
follow_trafs-requires-clause-fits c = rw c.requires.empty refl

pub returns-clause-ends : goal.returns-clause-ends
returns-clause-ends c = λ _.
    let h : MoofBytes = record { bytes = c.args.moof_bytes.now; offset = c.args.offset } in
    let m = view c.whole_box-moof.result in
    let f = is_moof c.args.offset c.args.moof_bytes.now m c.requires.whole (λ i. (c.type_inv.moof_bytes i).fits) c.requires.room c.whole_box-moof.ensures in
    let more = c.follow_trafs.ensures.timed cc in
    let timed = timed_all h c.args.tracks.now m f in
    let ends = c.follow_trafs.ensures.ends cc in
    record {
      ends = ap (λ es. es.items) c.set_timed.ensures.ends ∙ (ends ∙ (ap (λ es. take few_trafs (es ++ ends_by h c.args.tracks.now (at_path (traf ∷ []) m))) c.requires.empty ∙ ap (take few_trafs) (ends_are h c.args.tracks.now m f)));
      timed = omega (arith, more, c.set_timed.ensures.timed, c.before_all-so_far.ensures.timed, timed);
    }
