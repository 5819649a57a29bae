use Rattle.std.proofs.Common.{◌≡◌, ◌+◌, ◌*◌, ◌++◌, length, take}
use Rattle.mp4_lines.specs.Digits.{hex_bytes}
use Rattle.mp4_lines.proofs.text.Text.push_hex.Given as goal

abbrev pub invariant-loop-byte : goal.invariant-loop-byte
invariant-loop-byte g l = record {
  text : l.self ≡ l.initial.self ++ hex_bytes (take l.byte-index l.bytes);
  len : length l.self ≡ length l.initial.self + 2 * l.byte-index;
}
