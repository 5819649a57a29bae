use Rattle.std.proofs.Common.{◌≡◌, ◌∙◌, ◌+◌, ◌*◌, ◌++◌, ◌<◌, ◌≤◌, ap, arith, length, subst, sym, refl, Some, None}
use Rattle.std.specs.Option.{option_or}
use Rattle.mp4_box.proofs.HeaderLemmas.{need-least, whole_is}
use Rattle.mp4_frag.specs.Moofs.{moof_runs, moof_samples}
use Rattle.mp4_frag.specs.Places.{place_fault}
use Rattle.mp4_frag.specs.RunLists.{taken_runs}
use Rattle.mp4_ledger.specs.Memory.{given_back}
use Rattle.mp4_pieces.specs.Rooms.{room_fault}
use Rattle.mp4_grammar.specs.Contexts.{context}
use Rattle.mp4_grammar.specs.Meanings.{fragment_fault, reach}
use Rattle.mp4_machine.specs.Bodies.{least_end, longest}
use Rattle.mp4_machine.specs.Ends.{sent}
use Rattle.mp4_machine.specs.Inputs.{environment}
use Rattle.mp4_recut.specs.Splitting.{splitting}
use Rattle.mp4_recut.specs.declared.operation.Operation.TheVariants as operations
use Rattle.mp4_fragment_machine.specs.Places.{InMdatHeader, continuation_at}
use Rattle.mp4_fragment_machine.specs.Implementation.Recuts.{recut_fragment}
use Rattle.mp4_fragment_machine.specs.declared.counter.Counter.{Counter}
use Rattle.mp4_fragment_machine.specs.States.{bound_after, moof_in, most_counted, taken_by}
use Rattle.mp4_fragment_machine.proofs.MdatHeaderLemmas.{rows_of}
use Rattle.mp4_fragment_machine.proofs.BodyLemmas.{back_twice, claimed_apart}
use Rattle.mp4_fragment_machine.proofs.CountLemmas.{counted_begun, counted_later, counted_refused, counted_unlisted}
use Rattle.mp4_fragment_machine.proofs.RecutLemmas.{GoesOn-has_begun, WriteFailed-fails}
use Rattle.mp4_fragment_machine.proofs.SecondLemmas.{misplaced-after, payload-of}
use Rattle.mp4_fragment_machine.proofs.SplitLemmas.{Refuses-split, claims-split}
use Rattle.mp4_fragment_machine.proofs.mdat.accept_recut.begin_fragment.Goals as goal

pub returns-in-Err : goal.returns-in-Err
returns-in-Err g c = λ header_bytes len is_header.
    let w = c.args.pending_moof in
    let tracks = c.args.tracks.now in
    let cut = c.args.cut.now in
    let old = c.args.counter.now in
    let number = old.tally.fragments + 1 in
    let o = environment (g.W.Sink.contents c.args.w.now) c.args.out.now c.args.ledger.now old.tally in
    rw c.back.ensures (record {
      step = record {
        stops = λ more. Refuses-split (splitting cut) number o w tracks header_bytes (rows_of tracks w c.requires.pending_moof) c.requires.claim more c.in-Err.fault (λ later. c.in-Err.ensures.fault (splitting cut) number header_bytes later len is_header);
        failed = λ is. absurd cc;
        unfailed = λ _. refl;
      };
      left = omega (arith, claimed_apart (Some tracks) (Some w), c.requires.claim);
      counted = λ i. counted_unlisted (operations.Split cut) old (w.moof.at + w.moof.size) (moof_samples (moof_in w)) i;
    })

pub returns-in-Err-check_fragment : goal.returns-in-Err-check_fragment
returns-in-Err-check_fragment g c = λ header_bytes len is_header.
    let w = c.args.pending_moof in
    let tracks = c.args.tracks.now in
    let old = c.args.counter.now in
    let number = old.tally.fragments + 1 in
    let cut = c.args.cut.now in
    let o = environment (g.W.Sink.contents c.args.w.now) c.args.out.now c.args.ledger.now old.tally in
    let f = recut_fragment w tracks number c.args.header.now in
    let room = c.in-Err-check_fragment.ensures.fault in
    let bad : fragment_fault (splitting cut) f ≡ Some c.in-Err-check_fragment.fault = ap (λ e. option_or e (room_fault cut f.moof (moof_runs f.moof f.tracks) f.number)) (c.in-Ok.ensures.good number) ∙ sym room in
    let same : w.moof.at + w.moof.size ≡ w.moof.at + length w.moof.bytes = omega (arith, c.requires.pending_moof.size) in
    let most = rw c.add_up_runs-totals.ensures.samples at c.check_fragment.ensures.most in
    rw c.back-in-Err-check_fragment.ensures (record {
      step = record {
        stops = λ more. Refuses-split (splitting cut) number o w tracks header_bytes (rows_of tracks w c.requires.pending_moof) c.requires.claim more c.in-Err-check_fragment.fault
            (λ later. misplaced-after (splitting cut) (context w.moof.at (Some tracks) number) tracks w.moof.bytes (w.moof.at + w.moof.size) same c.args.header.now header_bytes len is_header later c.in-Err-check_fragment.fault c.in-Ok.ensures.near c.in-Ok.ensures.mdat bad);
        failed = λ is. absurd cc;
        unfailed = λ _. refl;
      };
      left = omega (arith, claimed_apart (Some tracks) (Some w), c.requires.claim);
      counted = λ i. counted_refused cut old (record { tally = old.tally; steps = c.check_fragment.new.steps }) (w.moof.at + w.moof.size) (moof_samples (moof_in w)) i i.far refl c.check_fragment.ensures.low most;
    })

pub add_up_runs-totals-requires-clause-good : goal.add_up_runs-totals-requires-clause-good
add_up_runs-totals-requires-clause-good g c =
    let w = c.args.pending_moof in
    let tracks = c.args.tracks.now in
    let same : c.offset.result + c.size.result ≡ w.moof.at + length w.moof.bytes = omega (arith, c.offset.ensures.at, c.size.ensures, c.requires.pending_moof.size) in
    subst (λ p. place_fault p (moof_runs (moof_in w) tracks) ≡ None) (sym (payload-of c.payload_of.result (context w.moof.at (Some tracks) 1) tracks w.moof.bytes _ c.args.header.now same c.payload_of.ensures.start c.payload_of.ensures.end)) (c.in-Ok.ensures.good 1)

pub returns-in-Ok-begin_media : goal.returns-in-Ok-begin_media
returns-in-Ok-begin_media g c = λ header_bytes len is_header.
    let w = c.args.pending_moof in
    let h = c.args.header.now in
    let tracks = c.args.tracks.now in
    let old = c.args.counter.now in
    let number = old.tally.fragments + 1 in
    let cut = c.args.cut.now in
    let f = recut_fragment w tracks number h in
    let good : fragment_fault (splitting cut) f ≡ None = ap (λ e. option_or e (room_fault cut f.moof (moof_runs f.moof f.tracks) f.number)) (c.in-Ok.ensures.good number) ∙ sym c.in-Ok-check_fragment.ensures.fault in
    let s = sent g.W.Sink.contents g.W.Sink.has_failed c.args.w.now c.begin_media.new.w in
    let near : least_end (w.moof.at + length w.moof.bytes) h h.size ≤ longest = subst (λ k. least_end (w.moof.at + k) h h.size ≤ longest) (sym c.requires.pending_moof.size) c.in-Ok.ensures.near in
    let at : c.offset.result + c.size.result ≡ w.moof.at + w.moof.size = omega (arith, c.offset.ensures.at, c.size.ensures) in
    let measured = c.add_up_runs-totals.ensures in
    let some : 0 < h.header_len = omega (arith, (whole_is header_bytes h is_header).1, need-least header_bytes) in
    let new : Counter = record { tally = c.begin_media.new.tally; steps = c.check_fragment.new.steps } in
    let has = c.in-Ok-begin_media.ensures h c.requires.room good in
    let counted = counted_begun (w.moof.at + w.moof.size) _ (moof_samples (moof_in w)) c.add_up_runs-totals.result.samples c.add_up_runs-totals.result.bytes h c.payload_of.result at c.payload_of.ensures.start c.payload_of.ensures.end c.requires.room some c.in-Ok.ensures.near measured.within measured.open measured.samples measured.few
    cut old new _ has.counted.few has.counted.tally measured.bytes c.in-Ok-check_fragment.ensures.least c.check_fragment.ensures.most in
    let first : c.payload_of.result.start ≡ f.payload.start = omega (arith, at, c.payload_of.ensures.start, c.requires.pending_moof.size) in
    let needed = measured.needed ∙ ap (λ k. reach k (taken_runs (moof_in w) tracks)) first in
    record {
      goes = GoesOn-has_begun cut (context w.moof.at (Some tracks) number) tracks w.moof.bytes header_bytes h len is_header near c.in-Ok.ensures.mdat good w s c.args.out.now c.begin_media.new.out old.tally c.begin_media.new.tally c.in-Ok-begin_media.media c.args.ledger.now c.requires.room has;
      unfailed = has.unfailed;
      ledger = refl;
      same = refl;
      split = record { begun = has.begun; needed = needed };
      near = near;
      counted = counted;
    }

pub returns-in-Err-begin_media : goal.returns-in-Err-begin_media
returns-in-Err-begin_media g c = λ header_bytes len is_header.
    let w = c.args.pending_moof in
    let h = c.args.header.now in
    let tracks = c.args.tracks.now in
    let old = c.args.counter.now in
    let number = old.tally.fragments + 1 in
    let cut = c.args.cut.now in
    let f = recut_fragment w tracks number h in
    let good : fragment_fault (splitting cut) f ≡ None = ap (λ e. option_or e (room_fault cut f.moof (moof_runs f.moof f.tracks) f.number)) (c.in-Ok.ensures.good number) ∙ sym c.in-Ok-check_fragment.ensures.fault in
    let s = sent g.W.Sink.contents g.W.Sink.has_failed c.args.w.now c.begin_media.new.w in
    let near : least_end (w.moof.at + length w.moof.bytes) h h.size ≤ longest = subst (λ k. least_end (w.moof.at + k) h h.size ≤ longest) (sym c.requires.pending_moof.size) c.in-Ok.ensures.near in
    let at : c.offset.result + c.size.result ≡ w.moof.at + w.moof.size = omega (arith, c.offset.ensures.at, c.size.ensures) in
    let measured = c.add_up_runs-totals.ensures in
    let some : 0 < h.header_len = omega (arith, (whole_is header_bytes h is_header).1, need-least header_bytes) in
    let new : Counter = record { tally = c.begin_media.new.tally; steps = c.check_fragment.new.steps } in
    let fails = c.in-Err-begin_media.ensures h c.requires.room good in
    let counted = counted_begun (w.moof.at + w.moof.size) _ (moof_samples (moof_in w)) c.add_up_runs-totals.result.samples c.add_up_runs-totals.result.bytes h c.payload_of.result at c.payload_of.ensures.start c.payload_of.ensures.end c.requires.room some c.in-Ok.ensures.near measured.within measured.open measured.samples measured.few
    cut old new _ fails.counted.few fails.counted.tally measured.bytes c.in-Ok-check_fragment.ensures.least c.check_fragment.ensures.most in
    let ledger = c.args.ledger.now in
    let o = environment (g.W.Sink.contents c.args.w.now) c.args.out.now ledger old.tally in
    let place = continuation_at (splitting cut) (InMdatHeader (context w.moof.at (Some tracks) number) tracks w.moof.bytes header_bytes) in
    let own = claims-split (splitting cut) number o w tracks header_bytes (rows_of tracks w c.requires.pending_moof) c.requires.claim in
    let all : given_back (given_back ledger (taken_by (Some w))) (64 * length tracks) ≡ given_back ledger place.claim =
    back_twice ledger (taken_by (Some w)) (64 * length tracks) ∙ ap (given_back ledger) (sym own) in
    rw c.back-in-Err-begin_media.ensures (record {
      step = record {
        stops = λ more later. rw all
            (WriteFailed-fails cut (context w.moof.at (Some tracks) number) tracks w.moof.bytes header_bytes h len is_header near c.in-Ok.ensures.mdat good s c.args.out.now c.begin_media.new.out old.tally c.begin_media.new.tally place.claim ledger (omega (arith, own, c.requires.claim)) fails (more ++ later));
        failed = λ _. fails.failed;
        unfailed = λ other. absurd (other refl);
      };
      left = omega (arith, claimed_apart (Some tracks) (Some w), c.requires.claim);
      counted = λ i. counted_later (operations.Split cut) new (bound_after (w.moof.at + w.moof.size) h.size) most_counted (moof_samples (moof_in w)) 0 (counted i).far (omega arith) (omega arith) (counted i);
    })
