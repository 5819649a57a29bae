use Rattle.std.proofs.Common.{◌≡◌, ◌+◌, ap, arith, length, subst, sym, None}
use Rattle.mp4_frag.specs.Moofs.{moof_runs}
use Rattle.mp4_frag.specs.Places.{place_fault}
use Rattle.mp4_traf.specs.Ranges.{IsRunOf}
use Rattle.mp4_frag.specs.RunLists.{taken_runs}
use Rattle.mp4_recut.specs.Cursors.{fragments_left}
use Rattle.mp4_recut.specs.Media.{media_position}
use Rattle.mp4_recut.specs.OutputFragments.{Ascends}
use Rattle.mp4_recut.proofs.FragmentLemmas.{spans_ascend}
use Rattle.mp4_recut.proofs.RiseLemmas.{rises-all}
use Rattle.mp4_recut.proofs.RoomLemmas.{all_each, runs_length}
use Rattle.mp4_fragment_machine.specs.Implementation.Recuts.{recut_fragment, with_samples}
use Rattle.mp4_fragment_machine.specs.States.{moof_in}
use Rattle.mp4_fragment_machine.proofs.RecutLemmas.{Outputs-first, WriteFailedIn-first, all-runs, none-first, room-in}
use Rattle.mp4_fragment_machine.proofs.mdat.accept_recut.begin_media.Goals as goal
use Rattle.mp4_machine.proofs.ReadingAskLemmas.{same_tally}

pub returns-in-Ok : goal.returns-in-Ok
returns-in-Ok g c = λ h room none.
    let w = c.args.pending_moof.now in
    let cut = c.args.cut.now in
    let tracks = c.args.tracks.now in
    let tally = c.args.tally.now in
    let number = tally.fragments + 1 in
    let f = recut_fragment w tracks number h in
    let first = c.begin-media.result in
    let n = c.write_ready_heads.new.fragments in
    let a = g.W.Sink.contents c.args.w.now in
    let b = g.W.Sink.contents c.write_ready_heads.new.w in
    let q = media_position cut (moof_in w) tracks f.payload.start (n + 1) c.in-Ok.media in
    let ps = fragments_left cut (moof_in w) tracks number first.later in
    let begun = rw c.moof-moof.ensures at c.begin-media.ensures in
    let writes_heads = rw (c.count_samples.ensures, c.moof-moof.ensures) at c.in-Ok.ensures.writes_heads in
    let next = writes_heads.next in
    let all = begun.all number in
    let after = w.moof.at + length w.moof.bytes in
    let good : place_fault f.payload (moof_runs f.moof f.tracks) ≡ None = none-first (place_fault f.payload (moof_runs f.moof f.tracks)) _ none in
    let m = c.args.moof_totals in
    let counted : with_samples f tally n ≡ record c.count_samples.new.tally { fragments = n } =
    rw c.count_samples.ensures (same_tally (omega arith) (omega (arith, c.requires.samples)) (omega (arith, c.requires.bytes)) (omega arith)) in
    record {
      outputs = Outputs-first cut f a b c.args.out.now c.write_ready_heads.new.out tally.fragments n first.copy_span ps q begun.left all (writes_heads.outputs f.payload.start);
      begun = record {
        media = record { pending_moof = c.requires.pending_moof; are_cut = c.requires.cut; at = next.at; no_head_ready = next.no_head_ready; numbers = omega (arith, next.numbers, ap length all, c.requires.numbers) };
        rises = λ end ends.
            let up = spans_ascend cut f w.runs c.requires.pending_moof.list (all_each (IsRunOf f.moof.bytes) (taken_runs (moof_in w) tracks) (all-runs cut w.moof.bytes (taken_runs (moof_in w) tracks) c.requires.cut)) good end (room-in after h.header_len h.size end room ends) ends in
            writes_heads.rises f.payload.start end (rises-all f.payload.start end first.copy_span.place first.copy_span.left ps begun.left (subst (Ascends f.payload.start end) (sym all) up));
        numbers = omega (arith, next.numbers, ap length all, runs_length cut w.moof.bytes tracks number (taken_runs (moof_in w) tracks));
      };
      unfailed = writes_heads.unfailed;
      counted = record { tally = sym counted; few = c.in-Ok.ensures.few };
    }

pub returns-in-Err : goal.returns-in-Err
returns-in-Err g c = λ h room none.
    let w = c.args.pending_moof.now in
    let cut = c.args.cut.now in
    let tracks = c.args.tracks.now in
    let tally = c.args.tally.now in
    let number = tally.fragments + 1 in
    let f = recut_fragment w tracks number h in
    let first = c.begin-media.result in
    let n = c.write_ready_heads.new.fragments in
    let a = g.W.Sink.contents c.args.w.now in
    let b = g.W.Sink.contents c.write_ready_heads.new.w in
    let begun = rw c.moof-moof.ensures at c.begin-media.ensures in
    let fails = rw (c.count_samples.ensures, c.moof-moof.ensures) at c.in-Err.ensures.writes_heads in
    let m = c.args.moof_totals in
    let counted : with_samples f tally n ≡ record c.count_samples.new.tally { fragments = n } =
    rw c.count_samples.ensures (same_tally (omega arith) (omega (arith, c.requires.samples)) (omega (arith, c.requires.bytes)) (omega arith)) in
    record {
      cut_short = WriteFailedIn-first cut f a b c.args.out.now c.write_ready_heads.new.out tally.fragments n first.copy_span (fragments_left cut (moof_in w) tracks number first.later) begun.left (begun.all number) (fails.cut_short f.payload.start);
      failed = fails.failed;
      counted = record { tally = sym counted; few = c.in-Err.ensures.few };
    }
