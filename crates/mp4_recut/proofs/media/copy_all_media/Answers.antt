use Rattle.std.proofs.Common.{arith, ◌≡◌, ◌∙◌, ◌+◌, ◌++◌, ◌-◌, ◌≤◌, [], ap, append_assoc, drop, length, refl, subst, sym, take, take-append-drop}
use Rattle.std.proofs.Math.Seq.{take-add, take-length}
use Rattle.mp4_recut.specs.Media.{Outputs, Rises, WriteFailedIn, output_from, media_position}
use Rattle.mp4_recut.proofs.MediaLemmas.{Outputs-fails, Outputs-more, Outputs-none}
use Rattle.mp4_recut.proofs.media.copy_all_media.Goals as goal

pub loop-count-init : goal.loop-count-init
loop-count-init g c =
    let cut = c.args.cut_moof.now.cut.now in
    let h = c.args.cut_moof.now.moof.now in
    let tracks = c.args.cut_moof.now.tracks.now in
    let n = c.args.fragments.now in
    let here : c.args.at ≡ c.args.at + 0 = omega arith in
    let a = g.W.Sink.contents c.args.w.now in
    record {
      within = omega arith;
      copy_taken = record {
        outputs = subst (λ k. Outputs a a c.args.out.now c.args.out.now n n (media_position cut h tracks c.args.at (n + 1) c.args.media.now) [] (media_position cut h tracks k (n + 1) c.args.media.now)) here (Outputs-none a c.args.out.now n (media_position cut h tracks c.args.at (n + 1) c.args.media.now));
        rises = λ end room r. subst (λ k. Rises end (media_position cut h tracks k (n + 1) c.args.media.now)) here r;
        next = record { no_head_ready = c.requires.no_head_ready; at = c.requires.may.at; numbers = refl };
        unfailed = refl;
      };
    }

pub loop-count-preserved : goal.loop-count-preserved
loop-count-preserved g c =
    let cut = c.args.cut_moof.now.cut.now in
    let h = c.args.cut_moof.now.moof.now in
    let tracks = c.args.cut_moof.now.tracks.now in
    let a = g.W.Sink.contents c.args.w.now in
    let d = g.W.Sink.contents c.copy_media.new.w in
    let m = c.args.fragments.now in
    let k = c.copy_media.new.fragments in
    let input = c.args.input.now in
    let i = c.loop-count.count in
    let taken = c.in-Ok.n in
    let media = c.copy_media.new.media in
    let first = media_position cut h tracks c.args.at (m + 1) c.args.media.now in
    let there : c.args.at + i + taken ≡ c.args.at + (i + taken) = omega arith in
    let before = c.loop-count.invariant.copy_taken in
    let copies = rw c.split_at.ensures.back at c.in-Ok.ensures.copies in
    let copy_taken = copies.2 in
    let few : taken ≤ length input - i = omega (arith, c.in-Ok.ensures.copies.1, c.split_at.ensures.back_len) in
    let all = Outputs-more (take i input) (take taken (drop i input)) before.outputs copy_taken.outputs in
    record {
      within = omega (arith, few, c.loop-count.invariant.within);
      copy_taken = record {
        outputs = subst (λ l. Outputs a d c.args.out.now c.copy_media.new.out m k first l (media_position cut h tracks (c.args.at + (i + taken)) (k + 1) media)) (sym (take-add i taken input))
            (subst (λ z. Outputs a d c.args.out.now c.copy_media.new.out m k first (take i input ++ take taken (drop i input)) (media_position cut h tracks z (k + 1) media)) there all);
        rises = λ end room r. subst (λ z. Rises end (media_position cut h tracks z (k + 1) media)) there
            (copy_taken.rises end (omega (arith, room)) (before.rises end (omega (arith, room)) r));
        next = record { no_head_ready = copy_taken.next.no_head_ready; at = copy_taken.next.at; numbers = copy_taken.next.numbers ∙ before.next.numbers };
        unfailed = copy_taken.unfailed ∙ before.unfailed;
      };
    }

pub returns-in-Err-clause-copies : goal.returns-in-Err-clause-copies
returns-in-Err-clause-copies g c =
    let cut = c.args.cut_moof.now.cut.now in
    let h = c.args.cut_moof.now.moof.now in
    let tracks = c.args.cut_moof.now.tracks.now in
    let a = g.W.Sink.contents c.args.w.now in
    let b = g.W.Sink.contents c.loop-count.w in
    let d = g.W.Sink.contents c.copy_media.new.w in
    let m = c.args.fragments.now in
    let n = c.loop-count.fragments in
    let k = c.copy_media.new.fragments in
    let input = c.args.input.now in
    let i = c.loop-count.count in
    let first = media_position cut h tracks c.args.at (m + 1) c.args.media.now in
    let media = c.loop-count.media in
    let uncopied = rw c.split_at.ensures.back at c.in-Err.ensures.copies in
    record {
      cut_short = λ later.
          let same : take i input ++ (drop i input ++ later) ≡ input ++ later = sym (append_assoc (take i input) (drop i input) later) ∙ ap (λ l. l ++ later) (take-append-drop i input) in
          subst (λ l. WriteFailedIn a d c.args.out.now c.copy_media.new.out m k (output_from first l)) same
          (Outputs-fails a b d c.args.out.now c.loop-count.out c.copy_media.new.out m n k first (media_position cut h tracks (c.args.at + i) (n + 1) media) (take i input) (drop i input ++ later) c.loop-count.invariant.copy_taken.outputs (uncopied.cut_short later));
      failed = uncopied.failed;
    }

pub returns-clause-copies : goal.returns-clause-copies
returns-clause-copies g c =
    let all : c.loop-count.count ≡ length c.args.input.now = omega (arith, c.loop-count.invariant.within, c.loop-count-test.false) in
    rw (all, take-length c.args.input.now) at c.loop-count.invariant.copy_taken
