use Rattle.std.proofs.Common.{◌≡◌, [], None, arith, sym, rules, true}
use Rattle.std.proofs.lemmas.Bool.Decides.{nat_tests}
use Rattle.mp4_box.specs.Order.{least_from}
use Rattle.mp4_box.specs.Trees.{view}
use Rattle.mp4_box.proofs.OrderLemmas.{least_from_append}
use Rattle.mp4_frag.specs.Implementation.AtOnce.{is_early}
use Rattle.mp4_frag.specs.Implementation.CommonLayout.{common_faults}
use Rattle.mp4_frag.proofs.CommonLayoutLemmas.{none_noted, common_early, common_forms, common_tree, common_values}
use Rattle.mp4_frag.proofs.single_run.common_layout.sound_track.Goals as goal

none : (c : goal.Else-base_media_decode_time-ge-LATE) → common_faults c.args.tracks.now (view c.args.common_layout.now.mfhd) (view c.args.common_layout.now.tfhd) (view c.args.common_layout.now.tfdt) (view c.args.common_layout.now.trun) ≡ []
none c =
    let u = c.args.common_layout.now in
    let faults = common_faults c.args.tracks.now (view u.mfhd) (view u.tfhd) (view u.tfdt) (view u.trun) in
    let noted : c.note_at-5.new.best ≡ least_from None faults = search (rules, least_from_append) in
    none_noted faults c.note_at-5.new.best noted (sym c.if-is_some.ensures)

pub returns-clause-sound : goal.returns-clause-sound
returns-clause-sound c = λ moof layout _.
    let tracks = c.args.tracks.now in
    let u = c.args.common_layout.now in
    let early : is_early (view u.tfdt) ≡ true = grind (arith, nat_tests, c.base_media_decode_time.ensures, c.if-base_media_decode_time-ge-LATE.false) in
    record {
      tree = common_tree tracks moof (view u.mfhd) (view u.traf) (view u.tfhd) (view u.tfdt) (view u.trun) layout (none c);
      forms = common_forms tracks moof (view u.mfhd) (view u.traf) (view u.tfhd) (view u.tfdt) (view u.trun) layout (none c);
      values = common_values tracks moof (view u.mfhd) (view u.traf) (view u.tfhd) (view u.tfdt) (view u.trun) layout (none c) (omega (arith, c.sample_count.ensures, c.if-sample_count-gt-MOST_IN_MOOF.false));
      early = common_early tracks moof (view u.mfhd) (view u.traf) (view u.tfhd) (view u.tfdt) (view u.trun) layout (none c) early c.note_tfhd-found.ensures.ticks;
    }
