-- A box that is buffered until all of it has come.
use Rattle.std.specs.Prelude.{◌≡◌, ℕ, List}
use Rattle.mp4_box.specs.declared.headers.FourCc.{FourCc}
use Rattle.mp4_box.specs.declared.headers.Header.{Header}
use Rattle.mp4_box.specs.declared.headers.Size.TheVariants.{Exact}
use Rattle.mp4_box.specs.declared.headers.Step.TheVariants as steps
use Rattle.mp4_box.specs.Headers.{header_at}

-- a box of a type at an offset with a stated size, and its bytes so far
pub record Buffering : Type 0 where
  pub at : ℕ
  pub kind : FourCc
  pub size : ℕ
  pub bytes : List ℕ

-- the bytes begin with the header of a box of this size
abbrev pub Begins : ℕ → List ℕ → Type 0
Begins size x = (h : Header) × (header_at x ≡ steps.Whole h) × (h.size ≡ Exact size)
