-- When all of a held box came, its bytes are one whole box.
use Rattle.std.proofs.Common.{◌≡◌, ◌∙◌, ℕ, ◌-◌, List, ◌++◌, length, drop, length-take, length-drop, Some, ap, sym, refl, arith}
use Rattle.std.specs.Prelude.{slice_range}
use Rattle.mp4_box.specs.declared.headers.Header.{Header}
use Rattle.mp4_box.specs.declared.headers.Size.TheVariants.{Exact}
use Rattle.mp4_box.specs.declared.headers.Step.TheVariants as steps
use Rattle.mp4_box.specs.Headers.{header_at, IsBytes, IsWhole}
use Rattle.mp4_box.specs.Trees.{Box, box_at, box_by}
use Rattle.mp4_box.proofs.HeaderLemmas.{whole_is, header_at-append}
use Rattle.mp4_box.proofs.GrammarLemmas.{is_whole}
use Rattle.mp4_machine.specs.Buffering.{Begins}
use Rattle.mp4_machine.proofs.BodyLemmas.{nat_lt_false}

pub found : (at : ℕ) (x : List ℕ) (h : Header) → header_at x ≡ steps.Whole h → h.size ≡ Exact (length x) → box_at at x ≡ Some (record { header = h; offset = at; payload = slice_range x h.header_len (length x) })
unfolding box_at
found at x h e size = ap (box_by at x) e ∙ rw (size, nat_lt_false (length x) (length x) (omega arith)) refl

pub rest-len : (n : ℕ) (x : List ℕ) → length (slice_range x n (length x)) ≡ length x - n
rest-len n x = length-take (length x - n) (drop n x) ∙ omega (arith, length-drop n x)

pub begins_whole : (size : ℕ) (x : List ℕ) → IsBytes x → Begins size x → length x ≡ size → IsWhole x
begins_whole size x fits (h, e, exact) len =
    let w = whole_is x h e in
    let box : Box = record { header = h; offset = 0; payload = slice_range x h.header_len (length x) } in
    is_whole x box fits (found 0 x h e (exact ∙ ap Exact (sym len))) (omega (arith, w.0, w.1, rest-len h.header_len x))

-- more of the box came
pub begins_more : (size : ℕ) (x y : List ℕ) → Begins size x → Begins size (x ++ y)
begins_more size x y (h, e, exact) = (h, header_at-append x y (whole_is x h e).0 ∙ e, exact)
