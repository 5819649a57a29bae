use Rattle.std.proofs.Common.{rules, arith, ◌≡◌, ◌∙◌, ◌+◌, length}
use Rattle.std.proofs.lemmas.Bool.{false≢true}
use Rattle.mp4_frag.specs.RunLists.{taken_runs}
use Rattle.mp4_recut.proofs.CursorLemmas.{left_next, left_none, rows_taken}
use Rattle.mp4_recut.proofs.cursor.seek_run.Goals as goal

pub overflow_add-index : goal.overflow_add-index
overflow_add-index c = omega (arith, c.loop-c.invariant.within, rows_taken c.args.moof.now c.args.tracks.now c.args.runs.now c.requires.list, c.len-len.ensures, c.len-len.type_inv)

pub returns-then-index-len : goal.returns-then-index-len
returns-then-index-len c = λ cut is are.
    let over : c.loop-c.c.at.row ≡ c.loop-c.c.run.count = search rules in
    let last : c.loop-c.c.index + 1 ≡ length (taken_runs c.args.moof.now c.args.tracks.now) = omega (arith, c.if-index-len.true, c.len-len.ensures, rows_taken c.args.moof.now c.args.tracks.now c.args.runs.now c.requires.list) in
    record {
      same = λ e. absurd (false≢true e);
      at = λ e. absurd (false≢true e);
      some = λ e. absurd (false≢true e);
      none = λ _ number. c.loop-c.invariant.same cut is are number ∙ left_none cut c.args.moof.now c.args.tracks.now c.loop-c.c over last number;
    }

pub loop-c-preserved : goal.loop-c-preserved
loop-c-preserved c =
    let over : c.loop-c.c.at.row ≡ c.loop-c.c.run.count = search rules in
    let next = c.begin_run.result in
    record {
      same = λ cut is are number. c.loop-c.invariant.same cut is are number
          ∙ left_next cut c.args.moof.now c.args.tracks.now c.loop-c.c over next c.begin_run.ensures.index (c.begin_run.ensures.at cut are) c.begin_run.ensures.row c.begin_run.ensures.group number;
      at = λ cut is are. c.begin_run.ensures.at cut are;
      within = omega (arith, c.begin_run.ensures.index, c.if-index-len.false, c.loop-c.invariant.within, rows_taken c.args.moof.now c.args.tracks.now c.args.runs.now c.requires.list, c.len-len.ensures);
    }
