use Rattle.std.proofs.Common.{arith, append_assoc}
use Rattle.mp4_lines.proofs.DigitLemmas.{hex_bytes-take_more}
use Rattle.mp4_lines.proofs.text.Text.push_hex.Goals as goal

pub loop-byte-preserved : goal.loop-byte-preserved
loop-byte-preserved g c =
    let more = hex_bytes-take_more c.loop-byte.byte-index c.args.bytes.now c.loop-byte-test.true in
    record {
      text = rw (more, c.push_array.ensures.text, c.loop-byte.invariant.text, c.hex_pair.ensures) (simp append_assoc);
      len = omega arith;
    }
