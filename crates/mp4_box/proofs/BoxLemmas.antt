-- A box whose header has eight bytes.
use Rattle.std.proofs.Common.{◌≡◌, ◌∙◌, ℕ, ◌<◌, ◌≤◌, Bool, not, true, false, List, length, Some, None, sym, ap, arith}
use Rattle.std.specs.Prelude.{if◌then◌else◌, slice_range}
use Rattle.std.specs.Str.{bytes_eq}
use Rattle.std.proofs.lemmas.Bool.{le-ltb, lt-ltb}
use Rattle.mp4_box.specs.declared.headers.Step.TheVariants.{Whole}
use Rattle.mp4_box.specs.Headers.{uuid, kind_field, size_field, plain_header, header_at}
use Rattle.mp4_box.specs.Trees.{Box, box_at, box_by}
use Rattle.mp4_box.proofs.HeaderLemmas.{is_cut, need-least, plain_at}

no_user : (b c : Bool) → b ≡ c → not b ≡ true → c ≡ false
no_user true c e n = absurd cc
no_user false c e n = cc

pub plain_is : (x kind : List ℕ) → 8 ≤ length x → 8 ≤ size_field x → kind ≡ kind_field x → not (bytes_eq kind uuid) ≡ true → header_at x ≡ Whole (plain_header x)
plain_is x kind long room type e = plain_at x long room (no_user _ _ (ap (λ (k : List ℕ). bytes_eq k uuid) type) e)

-- no box is shorter
pub short_none : (o : ℕ) (x : List ℕ) → length x < 8 → None ≡ box_at o x
unfolding box_at
short_none o x short = ap (box_by o x) (sym (is_cut x (omega (arith, short, need-least x))))

abbrev pub plain : ℕ → List ℕ → Box
plain o x = record { header = plain_header x; offset = o; payload = slice_range x 8 (size_field x) }

-- it is there, or the bytes are too few
pub plain_box : (o : ℕ) (x : List ℕ) → header_at x ≡ Whole (plain_header x) → size_field x ≤ length x → Some (plain o x) ≡ box_at o x
unfolding box_at
plain_box o x e room = let t = le-ltb (length x) (size_field x) room in ap (λ (b : Bool). if b then None else Some (plain o x)) (sym t) ∙ ap (box_by o x) (sym e)

pub plain_none : (o : ℕ) (x : List ℕ) → header_at x ≡ Whole (plain_header x) → length x < size_field x → None ≡ box_at o x
unfolding box_at
plain_none o x e short = let t = lt-ltb (length x) (size_field x) short in ap (λ (b : Bool). if b then None else Some (plain o x)) (sym t) ∙ ap (box_by o x) (sym e)

-- the first box of some bytes, where its header is the plain one
pub ruleset first_steps = (plain_box, plain_none, short_none)
