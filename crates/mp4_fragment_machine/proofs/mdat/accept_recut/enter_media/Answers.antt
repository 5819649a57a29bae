use Rattle.std.proofs.Common.{◌≡◌, ◌∙◌, ℕ, ◌+◌, ◌*◌, ◌≤◌, [], Some, ap, arith, length, refl, subst, sym}
use Rattle.mp4_frag.specs.Moofs.{moof_samples, moof_trafs}
use Rattle.mp4_traf.specs.Settling.{settled}
use Rattle.mp4_grammar.specs.Items.{end_of}
use Rattle.mp4_machine.specs.Inputs.{environment}
use Rattle.mp4_recut.specs.Cursors.{fragments_left}
use Rattle.mp4_machine.specs.Bodies.{extent_of, left_of}
use Rattle.mp4_machine.proofs.ContinuationLemmas.{IsLeft-begun}
use Rattle.mp4_recut.specs.Media.{Rises, media_position, output_from}
use Rattle.mp4_recut.specs.Splitting.{splitting}
use Rattle.mp4_recut.specs.declared.operation.Operation.TheVariants as operations
use Rattle.mp4_recut.proofs.RiseLemmas.{rises-over}
use Rattle.mp4_fragment_machine.specs.States.{IsCounted, claimed_in, moof_in, number_after, position_in, tracks_after}
use Rattle.mp4_fragment_machine.proofs.RecutStateLemmas.{GoesOn-same, begun_known, begun_media, media_over, recut_begins, recut_rises}
use Rattle.mp4_fragment_machine.proofs.ExtentLemmas.{bound_in-begun, claim_in}
use Rattle.mp4_fragment_machine.proofs.BodyLemmas.{Moves-settled}
use Rattle.mp4_fragment_machine.proofs.CountLemmas.{counted_ended}
use Rattle.mp4_fragment_machine.proofs.StepLemmas.{no_head}
use Rattle.mp4_fragment_machine.proofs.mdat.accept_recut.enter_media.Goals as goal

pub returns-in-Empty : goal.returns-in-Empty
returns-in-Empty c = λ cut number u operation split.
    let w = c.args.split.pending_moof in
    let m = c.args.split.media in
    let carried = c.args.carried.now in
    let list = c.in-Some.list in
    let h = c.args.header.now in
    let at = c.args.at in
    let (size, is, all, far, near) = c.in-Empty.ensures in
    let n = carried.counter.tally.fragments + 1 in
    let is_split = rw c.in-Some.is at split in
    let begun = is_split.begun in
    let media = begun.media in
    let ps = fragments_left cut (moof_in w) list n m.later in
    let o = environment u.written u.waiting c.args.ledger.now carried.counter.tally in
    let ends = settled list (moof_trafs (moof_in w) list) in
    let low = rw c.in-Some.is at c.requires.claim in
    let counted = rw (is, operation) at c.requires.counted in
    let ends_at : end_of (w.moof.at + length w.moof.bytes) h.size ≡ Some (at + size) = rw is (ap (λ k. Some (k + size)) (sym c.requires.at)) in
    let rises : Rises (at + size) (media_position cut (moof_in w) list (at + h.header_len) n m) = subst (λ k. Rises (at + size) (media_position cut (moof_in w) list (k + h.header_len) n m)) (sym c.requires.at) (begun.rises (at + size) ends_at) in
    let short : size ≤ h.header_len = omega (arith, all) in
    let none : ps ≡ [] = media.no_head_ready (rises-over (at + h.header_len) (at + size) m.copy_span.place m.copy_span.left ps rises (omega (arith, short))) in
    let ended = c.end_fragment.ensures in
    let table : 64 * length ends ≡ 64 * length list = ap (λ l. 64 * length l) (sym ended.tracks) ∙ ap (λ k. 64 * k) ended.len in
    rw (c.in-Some.is, operation, c.requires.empty, ended.tracks, ended.back, far) (record {
      step = record {
        goes = rw ended.tally
            (begun_known cut w list number n m at h carried.tracks o _ _ c.in-Some.is c.requires.pending_moof c.requires.at (media_over cut w list number n m at h size h.size ends o _ is short (sym begun.numbers ∙ omega (arith, ap length none)) refl media.no_head_ready
            (Moves-settled o (64 * length list) w.moof.size (64 * length w.runs.rows) (64 * length ends) table low)));
        unfailed = refl;
        claim = omega (arith, low, table);
      };
      operation = refl;
      state = (no_head [] refl, rw far at near);
      counted = counted_ended (operations.Split cut) carried.counter c.end_fragment.new.counter (at + size) (moof_samples (moof_in w)) counted ended.tally (omega (arith, ended.rows_read)) ended.few;
    })

pub returns-in-Bytes : goal.returns-in-Bytes
returns-in-Bytes c = λ cut number u operation split.
    let w = c.args.split.pending_moof in
    let m = c.args.split.media in
    let needed = c.args.split.needed in
    let carried = c.args.carried.now in
    let ledger = c.args.ledger.now in
    let list = c.in-Some.list in
    let h = c.args.header.now in
    let at = c.args.at in
    let (same, some) = c.in-Bytes.ensures in
    let n = carried.counter.tally.fragments + 1 in
    let is_split = rw c.in-Some.is at split in
    let begun = is_split.begun in
    let o = environment u.written u.waiting ledger carried.counter.tally in
    let low = rw c.in-Some.is at c.requires.claim in
    let r = begun_media cut w list number n m at h needed h.size in
    let rises : (end : ℕ) → end_of at h.size ≡ Some end → Rises end (media_position cut (moof_in w) list (at + h.header_len) n m) =
    λ end e. subst (λ k. Rises end (media_position cut (moof_in w) list (k + h.header_len) n m)) (sym c.requires.at) (begun.rises end (subst (λ k. end_of k h.size ≡ Some end) c.requires.at e)) in
    rw (c.in-Some.is, operation, same) (record {
      step = record {
        goes = begun_known cut w list number n m at h carried.tracks o o _ c.in-Some.is c.requires.pending_moof c.requires.at (GoesOn-same (splitting cut) o _ _ (recut_begins cut w list number n m at h needed h.size some begun.numbers is_split.needed));
        unfailed = refl;
        claim = subst (λ k. k ≤ ledger.live) (sym (claim_in (output_from (position_in cut n (Some list) r)) at h.kind (tracks_after (Some list) (Some w)) (number_after (operations.Split cut) n (Some list) r) (left_of at h h.size) (claimed_in (Some list) (Some w)) (extent_of at needed h.size))) low;
      };
      operation = refl;
      state = (
        c.requires.empty,
        refl,
        record {
          body = IsLeft-begun at needed h h.size some;
          media = begun.media;
          rises = recut_rises cut w list number n m at h needed h.size some rises;
        },
      );
      counted = subst (λ b. IsCounted (operations.Split cut) carried.counter b 0 (moof_samples (moof_in w))) (bound_in-begun at needed h.size) (rw operation at c.requires.counted);
    })
