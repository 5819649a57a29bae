use Rattle.std.proofs.Common.{◌≡◌, ◌∙◌, ◌+◌, ◌-◌, ◌*◌, ◌≤◌, [], Some, ap, arith, length, refl, subst, sym, take}
use Rattle.mp4_ledger.specs.Memory.{given_back}
use Rattle.mp4_frag.specs.Moofs.{moof_samples, moof_trafs}
use Rattle.mp4_traf.specs.Settling.{settled}
use Rattle.mp4_machine.specs.Bodies.{extent_after, latest_end}
use Rattle.mp4_machine.specs.Ends.{sent}
use Rattle.mp4_machine.specs.Inputs.{GoesOn, environment}
use Rattle.mp4_machine.specs.declared.body.Extent.TheVariants as extents
use Rattle.mp4_machine.proofs.ContinuationLemmas.{IsLeft-after, sized_before}
use Rattle.mp4_machine.proofs.StepLemmas.{GoesOn-then}
use Rattle.mp4_grammar.specs.Contexts.{context}
use Rattle.mp4_recut.specs.Cursors.{fragments_left}
use Rattle.mp4_recut.specs.Media.{Copied, output_from, media_position}
use Rattle.mp4_recut.specs.Splitting.{splitting}
use Rattle.mp4_recut.specs.declared.operation.Operation.TheVariants as operations
use Rattle.mp4_recut.proofs.RiseLemmas.{rises-over}
use Rattle.mp4_fragment_machine.specs.Places.{InBody, InHeader, continuation_at}
use Rattle.mp4_fragment_machine.specs.States.{bound_in, claimed_in, in_extent, moof_in, most_counted, number_after, position_in, taken_by, tracks_after}
use Rattle.mp4_fragment_machine.proofs.BodyLemmas.{Moves-settled, back_twice, claimed_apart}
use Rattle.mp4_fragment_machine.proofs.CountLemmas.{counted_later, counted_recut}
use Rattle.mp4_fragment_machine.proofs.ExtentLemmas.{claim_in, counted-after}
use Rattle.mp4_fragment_machine.proofs.RecutLemmas.{GoesOn-recut, GoesOn-recut_over, Refuses-recut, RisesIn-taken, WriteFailed-recut}
use Rattle.mp4_fragment_machine.proofs.StepLemmas.{no_head}
use Rattle.mp4_fragment_machine.proofs.mdat.recut.take_recut.Goals as goal

pub returns-then-recutting-eq0 : goal.returns-then-recutting-eq0
returns-then-recutting-eq0 g c =
    let r = c.in-Media.recutting in
    let cut = c.in-Split.cut in
    let w = r.pending_moof in
    let carried = c.args.carried.now in
    let ledger = c.args.ledger.now in
    let list = c.in-Some.list in
    let is = rw (c.in-Media.is, c.in-Some.is, c.in-Split.is) at c.requires.state in
    let can = rw (c.in-Media.is, c.in-Some.is, c.in-Split.is) at c.requires.can in
    let split = can.counted in
    let first = carried.counter.tally.fragments + 1 in
    let tracks = tracks_after (Some list) (Some w) in
    let own = claimed_in (Some list) (Some w) in
    let p = position_in cut first (Some list) r in
    let low : own ≤ ledger.live = subst (λ k. k ≤ ledger.live) (claim_in (output_from p) r.body.at r.body.kind tracks (number_after (operations.Split cut) first (Some list) r) r.body.left own r.body.extent) can.claim in
    let apart = claimed_apart (Some list) (Some w) in
    let o = environment (g.W.Sink.contents c.args.w.now) c.args.out.now ledger carried.counter.tally in
    let given = c.let_go.ensures.back in (
      c.let_go.ensures.after,
      rw (c.in-Media.is, c.in-Some.is, c.in-Split.is, given, c.too_far-stop.ensures) (record {
        step = record {
          stops = λ more. Refuses-recut (splitting cut) r.body.at r.body.kind o tracks (number_after (operations.Split cut) first (Some list) r) r.body.left own r.body.extent p c.args.input.now more (64 * length list) (taken_by (Some w)) c.if-recutting-eq0.true is.2.body.more is.2.media.no_head_ready c.requires.some apart low;
          failed = λ is. absurd cc;
          unfailed = λ _. refl;
        };
        operation = refl;
        tracks = refl;
        empty = is.0;
        left = omega (arith, apart, low);
        counted = counted_later (operations.Split cut) carried.counter (bound_in r.body.extent) most_counted (moof_samples (moof_in w)) 0 split.far (omega arith) (omega arith) split;
      }),
    )

pub returns-in-Err : goal.returns-in-Err
returns-in-Err g c =
    let r = c.in-Media.recutting in
    let cut = c.in-Split.cut in
    let carried = c.args.carried.now in
    let old = carried.counter in
    let w = r.pending_moof in
    let list = c.in-Some.list in
    let is = rw (c.in-Media.is, c.in-Some.is, c.in-Split.is) at c.requires.state in
    let can = rw (c.in-Media.is, c.in-Some.is, c.in-Split.is) at c.requires.can in
    let split = can.counted in
    let first = old.tally.fragments + 1 in
    let ledger = c.args.ledger.now in
    let tracks = tracks_after (Some list) (Some w) in
    let own = claimed_in (Some list) (Some w) in
    let low : own ≤ ledger.live = subst (λ k. k ≤ ledger.live) (claim_in (output_from (position_in cut first (Some list) r)) r.body.at r.body.kind tracks (number_after (operations.Split cut) first (Some list) r) r.body.left own r.body.extent) can.claim in
    let apart = claimed_apart (Some list) (Some w) in
    let s = sent g.W.Sink.contents g.W.Sink.has_failed c.args.w.now c.recut_front.new.w in
    let fails = c.in-Err.ensures.takes in
    let all : given_back (given_back ledger (taken_by (Some w))) (64 * length list) ≡ given_back ledger own =
    back_twice ledger (taken_by (Some w)) (64 * length list) ∙ ap (given_back ledger) (sym apart) in
    let given = rw c.recut_front.ensures.moof at c.let_go-in-Err.ensures.back in (
      c.let_go-in-Err.ensures.after,
      rw (c.in-Media.is, c.in-Some.is, c.in-Split.is, given) (record {
        step = record {
          stops = λ more later. rw all
              (WriteFailed-recut cut list w s c.args.out.now c.recut_front.new.out old.tally c.recut_front.new.tally r.media c.args.input.now (splitting cut) r.body.at r.body.kind own ledger tracks (first + length (fragments_left cut (moof_in w) list first r.media.later)) r.body.left r.body.extent low fails more later);
          failed = λ _. fails.uncopied.failed;
          unfailed = λ other. absurd (other refl);
        };
        operation = refl;
        tracks = refl;
        empty = is.0;
        left = omega (arith, apart, low);
        counted = counted_recut cut old (record { tally = c.recut_front.new.tally; steps = old.steps }) (bound_in r.body.extent) most_counted (moof_samples (moof_in w)) 0 split split.far (omega arith)
            fails.counted.few fails.counted.tally (omega arith) (omega arith);
      }),
    )

pub leave_media-requires : goal.leave_media-requires
leave_media-requires g c = (record c.recut_front.new.recutting { body = c.pass.new.self }, refl)

pub returns-in-Some-next : goal.returns-in-Some-next
returns-in-Some-next g c =
    let r = c.in-Media.recutting in
    let cut = c.in-Split.cut in
    let carried = c.args.carried.now in
    let old = carried.counter in
    let w = r.pending_moof in
    let list = c.in-Some.list in
    let end = c.in-Some-next.next in
    let (over, same) = rw (c.pass.ensures, c.recut_front.ensures.body) at c.in-Some-next.ensures.some in
    let sized = sized_before c.in-Ok.count end r.body.extent same in
    let is = rw (c.in-Media.is, c.in-Some.is, c.in-Split.is, sized) at c.requires.state in
    let can = rw (c.in-Media.is, c.in-Some.is, c.in-Split.is, sized) at c.requires.can in
    let low = can.claim in
    let split = can.counted in
    let recut = is.2 in
    let first = old.tally.fragments + 1 in
    let n = c.recut_front.new.tally.fragments in
    let ends = settled list (moof_trafs (moof_in w) list) in
    let number' = first + length (fragments_left cut (moof_in w) list first r.media.later) in
    let next = context end (Some ends) number' in
    let ledger = c.args.ledger.now in
    let own = claimed_in (Some list) (Some w) in
    let taken : Copied = record { count = c.in-Ok.count; media = c.recut_front.new.recutting.media } in
    let effects = rw sized at c.in-Ok.ensures.takes in
    let meaning = splitting cut in
    let s = sent g.W.Sink.contents g.W.Sink.has_failed c.args.w.now c.recut_front.new.w in
    let left = r.body.left - taken.count in
    let q = media_position cut (moof_in w) list (end - left) (n + 1) taken.media in
    let o = environment (g.W.Sink.contents c.recut_front.new.w) c.recut_front.new.out ledger c.recut_front.new.tally in
    let left_is = rw c.recut_front.ensures.moof at (c.leave_media.ensures (record c.recut_front.new.recutting { body = c.pass.new.self }) refl) in
    let ended = rw left_is.0 at c.end_fragment.ensures in
    let table : 64 * length ends ≡ 64 * length list = ap (λ l. 64 * length l) (sym ended.tracks) ∙ ap (λ k. 64 * k) ended.len in
    let past : end ≤ end - left = omega (arith, over) in
    let ps = fragments_left cut (moof_in w) list (n + 1) taken.media.later in
    let rises = RisesIn-taken cut list w s c.args.out.now c.recut_front.new.out old.tally c.recut_front.new.tally r.media c.args.input.now r.body.left (extents.Sized end) taken recut.body.within effects recut.rises in
    let none : length ps ≡ 0 = ap length (effects.media.no_head_ready (rises-over (end - left) end taken.media.copy_span.place taken.media.copy_span.left ps rises past)) in
    let same_number : number' ≡ n + 1 = omega (arith, effects.copy_taken.next.numbers, none) in
    let there = c.end_fragment.new.ledger in
    let goes : GoesOn (environment (g.W.Sink.contents c.args.w.now) c.args.out.now ledger old.tally) (environment (g.W.Sink.contents c.recut_front.new.w) c.recut_front.new.out there c.recut_front.new.tally) (continuation_at meaning (InBody (output_from (media_position cut (moof_in w) list (end - r.body.left) first r.media)) r.body.at r.body.kind next r.body.left own)) (take taken.count c.args.input.now) (continuation_at meaning (InHeader next [])) =
    rw ended.back
    (GoesOn-then low (GoesOn-recut cut list w s c.args.out.now c.recut_front.new.out old.tally c.recut_front.new.tally r.media c.args.input.now meaning r.body.at r.body.kind own ledger (Some ends) number' r.body.left (extents.Sized end) taken recut.body.within effects) (continuation_at meaning (InHeader next []))
    (GoesOn-recut_over meaning r.body.at r.body.kind o _ q next left own effects.media.no_head_ready over
    (Moves-settled o (64 * length list) w.moof.size (64 * length w.runs.rows) (64 * length ends) table low))) in (
      omega (arith, effects.count, recut.body.more, c.requires.some),
      omega (arith, effects.count),
      rw (c.in-Media.is, left_is.1, c.in-Some.is, c.in-Split.is, sized, is.0, ended.tracks) (record {
        step = record {
          goes = rw ended.tally
              (subst (λ k. GoesOn (environment (g.W.Sink.contents c.args.w.now) c.args.out.now ledger old.tally) (environment (g.W.Sink.contents c.recut_front.new.w) c.recut_front.new.out there c.recut_front.new.tally) (continuation_at meaning (InBody (output_from (media_position cut (moof_in w) list (end - r.body.left) first r.media)) r.body.at r.body.kind next r.body.left own)) (take taken.count c.args.input.now) (continuation_at meaning (InHeader (context end (Some ends) k) []))) same_number goes);
          unfailed = effects.copy_taken.unfailed;
          claim = rw ended.back (omega (arith, low, table));
        };
        operation = refl;
        state = (no_head [] refl, recut.body.near);
        counted = counted_recut cut old c.end_fragment.new.counter end end (moof_samples (moof_in w)) 0 split (omega arith) split.far
            (rw ended.tally effects.counted.few) (rw ended.tally effects.counted.tally) (omega (arith, ended.rows_read)) (omega (arith, ended.few));
      }),
    )

pub returns : goal.returns
returns g c =
    let r = c.in-Media.recutting in
    let cut = c.in-Split.cut in
    let carried = c.args.carried.now in
    let old = carried.counter in
    let w = r.pending_moof in
    let list = c.in-Some.list in
    let is = rw (c.in-Media.is, c.in-Some.is, c.in-Split.is) at c.requires.state in
    let can = rw (c.in-Media.is, c.in-Some.is, c.in-Split.is) at c.requires.can in
    let split = can.counted in
    let recut = is.2 in
    let first = old.tally.fragments + 1 in
    let n = c.recut_front.new.tally.fragments in
    let ends = settled list (moof_trafs (moof_in w) list) in
    let number' = first + length (fragments_left cut (moof_in w) list first r.media.later) in
    let ledger = c.args.ledger.now in
    let own = claimed_in (Some list) (Some w) in
    let low : own ≤ ledger.live = subst (λ k. k ≤ ledger.live) (claim_in (output_from (position_in cut first (Some list) r)) r.body.at r.body.kind (Some ends) (number_after (operations.Split cut) first (Some list) r) r.body.left own r.body.extent) can.claim in
    let taken : Copied = record { count = c.in-Ok.count; media = c.recut_front.new.recutting.media } in
    let effects = c.in-Ok.ensures.takes in
    let meaning = splitting cut in
    let s = sent g.W.Sink.contents g.W.Sink.has_failed c.args.w.now c.recut_front.new.w in
    let left = r.body.left - taken.count in
    let e = extent_after taken.count r.body.extent in
    let ps = fragments_left cut (moof_in w) list (n + 1) taken.media.later in
    let same : number' ≡ n + 1 + length ps = omega (arith, effects.copy_taken.next.numbers) in
    let q = media_position cut (moof_in w) list (latest_end e - left) (n + 1) taken.media in
    let p = media_position cut (moof_in w) list (latest_end r.body.extent - r.body.left) first r.media in
    let o = environment (g.W.Sink.contents c.args.w.now) c.args.out.now ledger old.tally in
    let o' = environment (g.W.Sink.contents c.recut_front.new.w) c.recut_front.new.out ledger c.recut_front.new.tally in
    let more = rw (c.pass.ensures, c.recut_front.ensures.body) at c.in_default-next.ensures.none in
    let goes = GoesOn-recut cut list w s c.args.out.now c.recut_front.new.out old.tally c.recut_front.new.tally r.media c.args.input.now meaning r.body.at r.body.kind own ledger (Some ends) number' r.body.left r.body.extent taken recut.body.within effects in (
      omega (arith, effects.count, c.if-recutting-eq0.false, c.requires.some),
      omega (arith, effects.count),
      rw (c.in-Media.is, c.in-Some.is, c.in-Split.is, c.pass.ensures, c.recut_front.ensures.body, c.recut_front.ensures.moof) (record {
        step = record {
          goes = subst (λ k. GoesOn o o' (continuation_at meaning (in_extent (output_from p) r.body.at r.body.kind (Some ends) number' r.body.left own r.body.extent)) (take taken.count c.args.input.now) (continuation_at meaning (in_extent (output_from q) r.body.at r.body.kind (Some ends) k left own e))) same goes;
          unfailed = effects.copy_taken.unfailed;
          claim = subst (λ k. k ≤ ledger.live) (sym (claim_in (output_from q) r.body.at r.body.kind (Some ends) (n + 1 + length ps) left own e)) low;
        };
        operation = refl;
        state = (
          is.0,
          refl,
          record {
            body = IsLeft-after r.body.left taken.count r.body.extent recut.body more;
            media = effects.media;
            rises = RisesIn-taken cut list w s c.args.out.now c.recut_front.new.out old.tally c.recut_front.new.tally r.media c.args.input.now r.body.left r.body.extent taken recut.body.within effects recut.rises;
          },
        );
        counted = counted-after (operations.Split cut) (record { tally = c.recut_front.new.tally; steps = old.steps }) taken.count (moof_samples (moof_in w)) r.body.extent
            (counted_recut cut old (record { tally = c.recut_front.new.tally; steps = old.steps }) (bound_in r.body.extent) (bound_in r.body.extent) (moof_samples (moof_in w)) (moof_samples (moof_in w)) split (omega arith) split.far
            effects.counted.few effects.counted.tally (omega arith) (omega arith));
      }),
    )
