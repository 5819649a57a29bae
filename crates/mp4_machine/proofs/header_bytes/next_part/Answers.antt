use Rattle.std.proofs.Common.{◌≡◌, ◌∙◌, arith, length, sym}
use Rattle.mp4_box.specs.Headers.{need}
use Rattle.mp4_box.proofs.HeaderLemmas.{bad_is, room_of, whole_is}
use Rattle.mp4_machine.proofs.header_bytes.next_part.Goals as goal

pub returns-in-BadSize : goal.returns-in-BadSize
returns-in-BadSize c =
    let came = c.take_head-taken.ensures in
    let header_bytes = c.take_head-taken.new.header_bytes in
    let bad = sym came.step ∙ c.in-BadSize.is in
    let len : length header_bytes ≡ need header_bytes = omega (arith, came.len, bad_is header_bytes bad) in
    record {
      count = c.take_head-taken.result.count;
      some = came.count.0;
      most = came.count.1;
      is = rw came.bytes at bad;
      len = rw came.bytes at len;
      kind = rw came.bytes at c.kind-kind.ensures.computed;
      empty = c.new.ensures;
    }

pub returns-in-Whole : goal.returns-in-Whole
returns-in-Whole c =
    let came = c.take_head-taken.ensures in
    let header_bytes = c.take_head-taken.new.header_bytes in
    let is = sym came.step ∙ c.in-Whole.is in
    rw c.replace-header_bytes.ensures.value (
      (record {
        some = came.count.0;
        most = came.count.1;
        are = came.bytes;
        is = is;
        len = omega (arith, came.len, (whole_is header_bytes c.in-Whole.header is).0);
        room = room_of header_bytes c.in-Whole.header is;
        empty = c.replace-header_bytes.ensures.after ∙ c.new-in-Whole.ensures;
      }),
      tt,
    )
