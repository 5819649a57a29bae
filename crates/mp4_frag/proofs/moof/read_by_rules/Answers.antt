use Rattle.std.proofs.Common.{◌≡◌, ◌∙◌, None, sym}
use Rattle.std.proofs.lemmas.Bool.{not-false}
use Rattle.mp4_box.specs.Order.{least}
use Rattle.mp4_frag.specs.Moofs.{moof_trafs, time_faults}
use Rattle.mp4_frag.proofs.EarlyLemmas.{none_least}
use Rattle.mp4_frag.proofs.MoofLemmas.{count_none, late_least, read_in_time}
use Rattle.mp4_traf.specs.Runs.{MoofBytes}
use Rattle.mp4_frag.proofs.moof.read_by_rules.Goals as goal
use Rattle.mp4_frag.proofs.moof.read_by_rules.Goals.{then-not-sound+in_default, else-not-sound}

pub returns-in-Some-clause-least : goal.returns-in-Some-clause-least
returns-in-Some-clause-least c =
    late_least (record { bytes = c.args.moof_bytes.now; offset = c.args.offset }) c.args.tracks.now c.in-Some.fault (sym c.in-Ok.ensures.fault) (sym c.in-Some.ensures)

pub of-requires-clause-count : goal.of-requires-clause-count
of-requires-clause-count c = count_none (record { bytes = c.args.moof_bytes.now; offset = c.args.offset }) c.args.tracks.now (sym c.in-Ok.ensures.fault)

pub returns-clause-good : goal.returns-clause-good
returns-clause-good c =
    let h : MoofBytes = record { bytes = c.args.moof_bytes.now; offset = c.args.offset } in
    let in_time : None ≡ least (time_faults (moof_trafs h c.args.tracks.now)) = elim c.if-not-sound.branch [
      | then-not-sound+in_default w ↦ sym w.in_default.is ∙ w.late_fault.ensures
      | else-not-sound w ↦ none_least (time_faults (moof_trafs h c.args.tracks.now)) (c.in-Ok.ensures.early (not-false _ w.if-not-sound.false))
    ] in
    read_in_time h c.args.tracks.now (sym c.in-Ok.ensures.fault) (sym in_time)
