use Rattle.std.proofs.Common.{rules, ◌∙◌, ◌+◌, arith, length, refl}
use Rattle.mp4_recut.specs.Cursors.{fragments_left}
use Rattle.mp4_recut.proofs.MediaLemmas.{Outputs-done, Outputs-skips, Outputs-copy_taken, output_from-cut_short, output_from-stopped}
use Rattle.mp4_recut.proofs.RiseLemmas.{rises-copies, rises-done, rises-skips}
use Rattle.mp4_recut.proofs.media.copy_media.Goals as goal

pub returns-then-copy_span-eq0-clause-copies : goal.returns-then-copy_span-eq0-clause-copies
returns-then-copy_span-eq0-clause-copies g c =
    let copy_span = c.args.media.now.copy_span in
    let ps = fragments_left c.args.cut_moof.now.cut.now c.args.cut_moof.now.moof.now c.args.cut_moof.now.tracks.now (c.args.fragments.now + 1) c.args.media.now.later in
    let none = c.if-copy_span-eq0.true in (
      c.requires.some,
      omega arith,
      record {
        outputs = Outputs-done _ _ _ c.args.at _ copy_span _ _ none (c.requires.no_head_ready none);
        rises = λ end within r. rises-done c.args.at end copy_span.place copy_span.left (length c.args.input.now) ps none (c.requires.no_head_ready none) within;
        next = record { no_head_ready = c.requires.no_head_ready; at = c.requires.may.at; numbers = refl };
        unfailed = refl;
      },
    )

pub returns-then-at-copy_span-clause-copies : goal.returns-then-at-copy_span-clause-copies
returns-then-at-copy_span-clause-copies g c =
    let copy_span = c.args.media.now.copy_span in
    let ps = fragments_left c.args.cut_moof.now.cut.now c.args.cut_moof.now.moof.now c.args.cut_moof.now.tracks.now (c.args.fragments.now + 1) c.args.media.now.later in (
      search rules,
      search rules,
      record {
        outputs = Outputs-skips c.args.at copy_span _ c.min-n.result c.args.input.now (search rules) (search rules) _ _ _ (search rules) (search rules);
        rises = λ end within r. rises-skips c.args.at end copy_span.place copy_span.left c.min-n.result ps (search rules) (search rules) r;
        next = record { no_head_ready = c.requires.no_head_ready; at = c.requires.may.at; numbers = refl };
        unfailed = refl;
      },
    )

pub returns-in-Err-clause-copies : goal.returns-in-Err-clause-copies
returns-in-Err-clause-copies g c =
    let ps = fragments_left c.args.cut_moof.now.cut.now c.args.cut_moof.now.moof.now c.args.cut_moof.now.tracks.now (c.args.fragments.now + 1) c.args.media.now.later in
    record {
      cut_short = λ later. output_from-cut_short c.args.at c.args.media.now.copy_span ps c.min-n-2.result c.args.input.now (search rules) (search rules) (search rules) (search rules) _ _ _ _ later _ (rw (← c.split_at.ensures.front) c.in-Err.ensures.puts.breaks);
      failed = c.in-Err.ensures.puts.failed;
    }

pub returns-in-Ok-write_ready_in-clause-copies : goal.returns-in-Ok-write_ready_in-clause-copies
returns-in-Ok-write_ready_in-clause-copies g c =
    let copy_span = c.args.media.now.copy_span in
    let n = c.min-n-2.result in
    let ps = fragments_left c.args.cut_moof.now.cut.now c.args.cut_moof.now.moof.now c.args.cut_moof.now.tracks.now (c.args.fragments.now + 1) c.args.media.now.later in
    let new = fragments_left c.args.cut_moof.now.cut.now c.args.cut_moof.now.moof.now c.args.cut_moof.now.tracks.now (c.write_ready_in.new.fragments + 1) c.write_ready_in.new.media.later in
    let no_head_ready = c.in-Ok-write_ready_in.ensures.writes_heads in (
      search rules,
      search rules,
      record {
        outputs = Outputs-copy_taken c.args.at copy_span ps n c.args.input.now (search rules) (search rules) (search rules) (search rules) c.args.fragments.now c.write_ready_in.new.fragments c.write_ready_in.new.media.copy_span new
            (rw (← c.split_at.ensures.front) c.in-Ok.ensures.puts.passes) no_head_ready.outputs;
        rises = λ end within r. no_head_ready.rises (c.args.at + n) end (rises-copies c.args.at end copy_span.place copy_span.left n ps (search rules) (search rules) (search rules) r);
        next = record { no_head_ready = no_head_ready.next.no_head_ready; at = no_head_ready.next.at; numbers = no_head_ready.next.numbers };
        unfailed = no_head_ready.unfailed ∙ c.in-Ok.ensures.puts.unfailed;
      },
    )

pub returns-in-Err-write_ready_in-clause-copies : goal.returns-in-Err-write_ready_in-clause-copies
returns-in-Err-write_ready_in-clause-copies g c =
    let ps = fragments_left c.args.cut_moof.now.cut.now c.args.cut_moof.now.moof.now c.args.cut_moof.now.tracks.now (c.args.fragments.now + 1) c.args.media.now.later in
    record {
      cut_short = λ later. output_from-stopped c.args.at c.args.media.now.copy_span ps c.min-n-2.result c.args.input.now (search rules) (search rules) (search rules) (search rules) _ _ _ _ _ _ later c.args.fragments.now c.write_ready_in.new.fragments
          (rw (← c.split_at.ensures.front) c.in-Ok.ensures.puts.passes) c.in-Err-write_ready_in.ensures.writes_heads.cut_short;
      failed = c.in-Err-write_ready_in.ensures.writes_heads.failed;
    }
