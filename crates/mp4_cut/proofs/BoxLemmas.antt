-- Boxes that are written are found again.
use Rattle.std.proofs.Common.{◌≡◌, ℕ, ◌+◌, ◌<◌, ◌≤◌, ◌^◌, false, List, [], ◌++◌, length, drop, Some, refl, sym, ap, ◌∙◌, arith, append-nil, append_assoc, inl, length-append}
use Rattle.std.proofs.lemmas.List.{drop_at}
use Rattle.std.proofs.lemmas.Bool.{false≢true}
use Rattle.std.proofs.lemmas.Slice.Eq.{bytes_eq-Decides}
use Rattle.std.specs.Str.{bytes_eq}
use Rattle.byteorder.specs.Endian.{big_bytes}
use Rattle.mp4_box.specs.declared.headers.FourCc.{FourCc}
use Rattle.mp4_box.specs.declared.headers.Size.TheVariants.{Exact}
use Rattle.mp4_box.specs.Headers.{Head, IsBox, uuid}
use Rattle.mp4_box.specs.Trees.{Box, box_at, over}
use Rattle.mp4_box.proofs.GrammarLemmas.{found}
use Rattle.mp4_box.proofs.TreeLemmas.{over-box, over-end}
use Rattle.mp4_cut.specs.Boxes.{box_bytes}
use Rattle.mp4_cut.specs.Reads.{header_of}

-- its header can be short
pub record IsShort (kind : FourCc) (payload : List ℕ) : Type 0 where
  pub four : length kind.0 ≡ 4
  pub other : bytes_eq kind.0 uuid ≡ false
  pub small : 8 + length payload < 2 ^ 32

-- a box that was written, at an offset
abbrev pub box_of : ℕ → FourCc → List ℕ → Box
box_of o kind payload = record { header = header_of kind (8 + length payload) 8; offset = o; payload = payload }

pub head_is : (kind : FourCc) (size : ℕ) → length kind.0 ≡ 4 → bytes_eq kind.0 uuid ≡ false → 8 ≤ size → size < 2 ^ 32 → Head (header_of kind size 8) (big_bytes 4 size ++ kind.0)
head_is kind size four other low small =
    let len : length (big_bytes 4 size ++ kind.0) ≡ 8 = omega (arith, four) in
    record {
      kind = four;
      user = λ e. absurd (false≢true (sym other ∙ (bytes_eq-Decides kind.0 uuid).1 e));
      spelled = inl (sym (append-nil (big_bytes 4 size ++ kind.0)), omega (arith, len), small);
      header_len = sym len;
    }

pub length_box : (kind : FourCc) (payload : List ℕ) → length kind.0 ≡ 4 → length (box_bytes kind payload) ≡ 8 + length payload
length_box kind payload four = omega (arith, length-append kind.0 payload, four)

pub is_box : (kind : FourCc) (p : List ℕ) → IsShort kind p → IsBox (header_of kind (8 + length p) 8) p (box_bytes kind p)
is_box kind p s = record {
  header_bytes = big_bytes 4 (8 + length p) ++ kind.0;
  spelled = head_is kind (8 + length p) s.four s.other (omega arith) s.small;
  whole = sym (append_assoc (big_bytes 4 (8 + length p)) kind.0 p);
  size = ap Exact (sym (length_box kind p s.four));
}

pub found_box : (kind : FourCc) (p rest : List ℕ) (o : ℕ) → IsShort kind p → box_at o (box_bytes kind p ++ rest) ≡ Some (box_of o kind p)
found_box kind p rest o s = (found (header_of kind (8 + length p) 8) p (box_bytes kind p) rest o (is_box kind p s)).0

-- reading a box that was written, and then what follows it
pub over_written : {R : Type 0} (f : Box → List R) (g : ℕ → List ℕ → List R) (kind : FourCc) (p rest : List ℕ) (o : ℕ) → IsShort kind p → over f g (box_bytes kind p ++ rest) 0 o ≡ f (box_of o kind p) ++ over f g rest 0 (o + (8 + length p))
over_written f g kind p rest o s =
    let len = length_box kind p s.four in
    let x : List ℕ = box_bytes kind p ++ rest in
    let back : drop (8 + length p) x ≡ rest = drop_at (box_bytes kind p) rest (8 + length p) len in
    over-box f g x o (box_of o kind p) (found_box kind p rest o s) (omega arith) (omega (arith, length-append (box_bytes kind p) rest, len))
    ∙ ap (λ (z : List ℕ). f (box_of o kind p) ++ over f g z 0 (o + (8 + length p))) back

-- the last of such boxes
pub over_last : {R : Type 0} (f : Box → List R) (g : ℕ → List ℕ → List R) (kind : FourCc) (p : List ℕ) (o : ℕ) → IsShort kind p → over f g (box_bytes kind p) 0 o ≡ f (box_of o kind p) ++ []
over_last {R} f g kind p o s =
    ap (λ (x : List ℕ). over f g x 0 o) (sym (append-nil (box_bytes kind p)))
    ∙ (over_written f g kind p [] o s ∙ ap (λ (rs : List R). f (box_of o kind p) ++ rs) (over-end f g [] (o + (8 + length p)) refl))
