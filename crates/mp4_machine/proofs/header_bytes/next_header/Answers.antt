use Rattle.std.proofs.Common.{◌∙◌, arith, refl, sym}
use Rattle.mp4_machine.proofs.HeadLemmas.{front-is, front-len, header_is}
use Rattle.mp4_machine.proofs.header_bytes.next_header.Goals as goal

pub returns-in-Ok : goal.returns-in-Ok
returns-in-Ok c =
    let input = c.args.input.now in
    let is = header_is (sym c.header_of.ensures.computed ∙ c.in-Ok.is) in
    let none = c.is_empty.ensures.0 c.if-is_empty.true in
    rw none (
      (record {
        some = omega (arith, c.in-Ok.ensures.within);
        most = c.in-Ok.ensures.within.1;
        are = refl;
        is = front-is input c.in-Ok.header is;
        len = front-len input c.in-Ok.header is;
        room = c.in-Ok.ensures.room;
        empty = refl;
      }),
      refl,
    )
