use Rattle.std.proofs.Common.{◌≡◌, ◌∙◌, ◌+◌, ℕ, List, drop, ap, arith, length}
use Rattle.mp4_box.specs.Trees.{Box, box_len, view}
use Rattle.mp4_frag.proofs.CommonLayoutLemmas.{three_are, two_are}
use Rattle.mp4_frag.proofs.single_run.common_layout.common_of.Goals as goal

-- the bytes after a box with a header of eight bytes
after : (b : Box) (bytes rest : List ℕ) → rest ≡ drop (8 + length b.payload) bytes → b.header.header_len ≡ 8 → rest ≡ drop (box_len b) bytes
after b bytes rest is head = is ∙ ap (λ n. drop n bytes) (omega (arith, head))

pub returns : goal.returns
returns c =
    let a = c.in_ok-mfhd in
    let t = c.in_ok-traf in
    let b = c.in_ok-tfhd in
    let d = c.in_ok-tfdt in
    let e = c.in_ok-trun in
    record {
      two = two_are (view c.args.moof.now) (view a.mfhd) (view t.traf) _ c.split_at.result.1.now a.ensures.here a.ensures.within.0 a.ensures.within.1
          (after (view a.mfhd) _ _ c.split_at.ensures.back a.ensures.head) (omega (arith, a.ensures.head)) t.ensures.here t.ensures.within.0 (omega (arith, t.ensures.head, c.if-traf-rest.false));
      three = three_are (view t.traf) (view b.tfhd) (view d.tfdt) (view e.trun) _ _ c.split_at-2.result.1.now c.split_at-3.result.1.now b.ensures.here b.ensures.within.0 b.ensures.within.1
          (after (view b.tfhd) _ _ c.split_at-2.ensures.back b.ensures.head) (omega (arith, b.ensures.head)) d.ensures.here d.ensures.within.0 d.ensures.within.1
          (after (view d.tfdt) _ _ c.split_at-3.ensures.back d.ensures.head) (omega (arith, d.ensures.head)) e.ensures.here e.ensures.within.0 (omega (arith, e.ensures.head, c.if-trun-rest.false));
      is_mfhd = a.ensures.kind;
      is_traf = t.ensures.kind;
      is_tfhd = b.ensures.kind;
      is_tfdt = d.ensures.kind;
      is_trun = e.ensures.kind;
    }
