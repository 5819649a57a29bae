use Rattle.std.proofs.Common.{◌≡◌, ◌+◌, ◌^◌, ◌<◌, length}
use Rattle.std.specs.Prelude.{count_by}
use Rattle.std.specs.Str.{bytes_eq}
use Rattle.mp4_box.specs.Trees.{view, children}
use Rattle.test_libraries.proofs.boxes.count_of.Given as goal

abbrev pub invariant-loop-child : goal.invariant-loop-child
invariant-loop-child l = record {
  few : l.count + length l.child-iterator < 2 ^ 63;
  rest : l.count + count_by (λ b. bytes_eq b.header.kind.0 l.kind.0) l.child-iterator ≡ count_by (λ b. bytes_eq b.header.kind.0 l.kind.0) (children (view l.this));
}
