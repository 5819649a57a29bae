use Rattle.std.proofs.Common.{◌∙◌, ◌++◌, [], ap, refl}
use Rattle.mp4_traf.specs.Cursors.{past}
use Rattle.mp4_machine.proofs.PutLemmas.{HasFailed-front, HasFailed-then, HasPut-none, HasPut-then}
use Rattle.mp4_grammar.specs.Samples.{sample_line, sample_lines, samples_from}
use Rattle.mp4_traf.proofs.CursorLemmas.{room_on}
use Rattle.mp4_fragment_machine.proofs.LineLemmas.{next_line, put_all}
use Rattle.mp4_fragment_machine.proofs.mdat.sample_lines.put_many_rows.Goals as goal

pub loop-row-init : goal.loop-row-init
loop-row-init g c = record {
  text = [];
  put = HasPut-none _ _ _;
  left = refl;
  room = c.requires;
}

pub returns-in_default : goal.returns-in_default
returns-in_default g c = put_all c.args.run.now c.loop-row.rows c.loop-row.cursor c.in_default.ensures.steps.0 c.loop-row.invariant.left c.loop-row.invariant.put

pub returns-in-Err : goal.returns-in-Err
returns-in-Err g c =
    let at = c.loop-row.cursor in
    let row = c.in-Some.row in
    let text = c.loop-row.invariant.text in
    let line = sample_line c.set.new.self in
    let rest = c.next.new.self in
    let all = sample_lines (samples_from c.args.run.now c.args.rows.now c.args.from.time c.args.from.place) in
    HasFailed-front (text ++ line) (sample_lines (samples_from c.args.run.now rest (past at row).time (past at row).place)) all
    (next_line c.args.run.now row rest c.loop-row.rows at text line all c.in-Some.ensures.steps (ap sample_line (c.set.ensures ∙ c.sample_at.ensures)) c.loop-row.invariant.left)
    (HasFailed-then c.loop-row.invariant.put c.in-Err.ensures.puts)

pub loop-row-preserved : goal.loop-row-preserved
loop-row-preserved g c =
    let at = c.loop-row.cursor in
    let row = c.in-Some.row in
    let text = c.loop-row.invariant.text in
    let line = sample_line c.set.new.self in
    let rest = c.next.new.self in
    let all = sample_lines (samples_from c.args.run.now c.args.rows.now c.args.from.time c.args.from.place) in
    record {
      text = text ++ line;
      put = HasPut-then c.loop-row.invariant.put c.in-Ok.ensures.puts;
      left = rw c.past-cursor.ensures (next_line c.args.run.now row rest c.loop-row.rows at text line all c.in-Some.ensures.steps (ap sample_line (c.set.ensures ∙ c.sample_at.ensures)) c.loop-row.invariant.left);
      room = rw c.past-cursor.ensures (room_on at row rest c.loop-row.rows c.in-Some.ensures.steps c.loop-row.invariant.room);
    }
