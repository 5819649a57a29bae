use Rattle.mp4_recut.proofs.RiseLemmas.{rises-all, rises-next, rises-none}
use Rattle.std.proofs.Common.{rules, arith, ◌≡◌, ◌∙◌, ◌+◌, [], ap, length, refl, subst, sym, Option}
use Rattle.mp4_machine.specs.Ends.{sent}
use Rattle.mp4_recut.specs.Cursors.{fragments_left}
use Rattle.mp4_recut.specs.OutputFragments.{Ascends}
use Rattle.mp4_recut.specs.Media.{FailsInHead, NoFragmentLeft, StartsFragment, media_position}
use Rattle.mp4_recut.specs.declared.cursor.FragmentCursor.{FragmentCursor}
use Rattle.mp4_recut.specs.declared.next.StartedFragment.{StartedFragment}
use Rattle.mp4_recut.proofs.MediaLemmas.{StartsFragment-fewer, Outputs-none, Outputs-over, Outputs-turn, Outputs-fails, output_from-misses}
use Rattle.mp4_recut.proofs.media.write_ready_in.Goals as goal

pub loop-media-init : goal.loop-media-init
loop-media-init g c = record { outputs = λ at. Outputs-none _ _ _ _; at = c.requires.at; few = refl; rises = λ at end r. r; kept = refl }

pub loop-media-preserved : goal.loop-media-preserved
loop-media-preserved g c =
    let cut = c.args.cut_moof.now.cut.now in
    let h = c.args.cut_moof.now.moof.now in
    let tracks = c.args.cut_moof.now.tracks.now in
    let a = g.W.Sink.contents c.args.w.now in
    let n = c.loop-media.fragments in
    let media = c.loop-media.media in
    let started : StartedFragment = record { copy_span = c.in-Ok-Some.copy_span; later = c.next_fragment.new.c } in
    let left : media.copy_span.left ≡ 0 = search rules in
    let old = fragments_left cut h tracks (n + 1) media.later in
    let starts : StartsFragment cut h tracks (n + 1) (sent g.W.Sink.contents g.W.Sink.has_failed c.loop-media.w c.next_fragment.new.w) c.loop-media.out c.next_fragment.new.out old started =
    subst (λ (o : Option FragmentCursor). StartsFragment cut h tracks (n + 1) (sent g.W.Sink.contents g.W.Sink.has_failed c.loop-media.w c.next_fragment.new.w) c.loop-media.out c.next_fragment.new.out (fragments_left cut h tracks (n + 1) o) started) (sym c.in-Some.is) (rw c.in-Ok-Some.field-0-is at c.in-Ok-Some.ensures) in
    record {
      outputs = λ at. Outputs-turn cut h tracks a (sent g.W.Sink.contents g.W.Sink.has_failed c.loop-media.w c.next_fragment.new.w) c.args.out.now c.loop-media.out c.next_fragment.new.out c.args.fragments.now n at c.args.media.now.copy_span media.copy_span started
          (fragments_left cut h tracks (c.args.fragments.now + 1) c.args.media.now.later) old (c.loop-media.invariant.outputs at) left starts;
      at = starts.at;
      rises = λ at end r. rises-next at end starts (rises-none at end media.copy_span.place media.copy_span.left old left (c.loop-media.invariant.rises at end r));
      few = omega (arith, c.loop-media.invariant.few, StartsFragment-fewer starts);
      kept = starts.put.unfailed ∙ c.loop-media.invariant.kept;
    }

pub returns-in-Ok-None-clause-writes_heads : goal.returns-in-Ok-None-clause-writes_heads
returns-in-Ok-None-clause-writes_heads g c =
    let cut = c.args.cut_moof.now.cut.now in
    let h = c.args.cut_moof.now.moof.now in
    let tracks = c.args.cut_moof.now.tracks.now in
    let i = c.loop-media.invariant in
    let n = c.loop-media.fragments in
    let media = c.loop-media.media in
    let left : media.copy_span.left ≡ 0 = search rules in
    let old = fragments_left cut h tracks (n + 1) media.later in
    let over : NoFragmentLeft (sent g.W.Sink.contents g.W.Sink.has_failed c.loop-media.w c.next_fragment.new.w) c.loop-media.out c.next_fragment.new.out old =
    subst (λ (o : Option FragmentCursor). NoFragmentLeft (sent g.W.Sink.contents g.W.Sink.has_failed c.loop-media.w c.next_fragment.new.w) c.loop-media.out c.next_fragment.new.out (fragments_left cut h tracks (n + 1) o)) (sym c.in-Some.is) (rw c.in-Ok-None.field-0-is at c.in-Ok-None.ensures) in
    record {
      outputs = λ at. Outputs-over (g.W.Sink.contents c.args.w.now) (sent g.W.Sink.contents g.W.Sink.has_failed c.loop-media.w c.next_fragment.new.w) c.args.out.now c.loop-media.out c.next_fragment.new.out c.args.fragments.now n at c.args.media.now.copy_span media.copy_span
          (fragments_left cut h tracks (c.args.fragments.now + 1) c.args.media.now.later) old (i.outputs at) over;
      rises = λ at end r. rises-all at end media.copy_span.place media.copy_span.left [] left (subst (Ascends at end) over.none (rises-none at end media.copy_span.place media.copy_span.left old left (i.rises at end r)));
      next = record { no_head_ready = λ _. refl; at = tt; numbers = omega (arith, i.few, ap length over.none) };
      unfailed = over.unfailed ∙ i.kept;
    }

pub returns-in-Err-clause-writes_heads : goal.returns-in-Err-clause-writes_heads
returns-in-Err-clause-writes_heads g c =
    let cut = c.args.cut_moof.now.cut.now in
    let h = c.args.cut_moof.now.moof.now in
    let tracks = c.args.cut_moof.now.tracks.now in
    let a = g.W.Sink.contents c.args.w.now in
    let b = g.W.Sink.contents c.loop-media.w in
    let d = g.W.Sink.contents c.next_fragment.new.w in
    let n = c.loop-media.fragments in
    let media = c.loop-media.media in
    let left : media.copy_span.left ≡ 0 = search rules in
    let missed : FailsInHead (sent g.W.Sink.contents g.W.Sink.has_failed c.loop-media.w c.next_fragment.new.w) c.loop-media.out c.next_fragment.new.out (fragments_left cut h tracks (n + 1) media.later) =
    subst (λ (o : Option FragmentCursor). FailsInHead (sent g.W.Sink.contents g.W.Sink.has_failed c.loop-media.w c.next_fragment.new.w) c.loop-media.out c.next_fragment.new.out (fragments_left cut h tracks (n + 1) o)) (sym c.in-Some.is) c.in-Err.ensures in
    record {
      cut_short = λ at later. Outputs-fails a b d c.args.out.now c.loop-media.out c.next_fragment.new.out c.args.fragments.now n n (media_position cut h tracks at (c.args.fragments.now + 1) c.args.media.now) (media_position cut h tracks at (n + 1) media) [] later (c.loop-media.invariant.outputs at)
          (output_from-misses (sent g.W.Sink.contents g.W.Sink.has_failed c.loop-media.w c.next_fragment.new.w) c.loop-media.out c.next_fragment.new.out n at media.copy_span (fragments_left cut h tracks (n + 1) media.later) later left missed);
      failed = missed.front.failed;
    }

pub returns-clause-writes_heads : goal.returns-clause-writes_heads
returns-clause-writes_heads g c =
    let i = c.loop-media.invariant in
    record {
      outputs = i.outputs;
      rises = i.rises;
      next = record { no_head_ready = λ none. absurd (search rules); at = i.at; numbers = i.few };
      unfailed = i.kept;
    }
