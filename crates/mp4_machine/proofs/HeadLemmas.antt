-- Headers at the front of some bytes.
use Rattle.std.proofs.Common.{◌≡◌, ◌∙◌, ℕ, ◌≤◌, List, ◌++◌, length, take, drop, Ok, ap, sym, refl, arith, append_assoc, length-append, length-drop, length-take, length-take-le, take-append-drop}
use Rattle.std.proofs.Math.Seq.{take-take}
use Rattle.std.proofs.lemmas.List.{take-append-le, drop-append-le}
use Rattle.mp4_box.specs.declared.headers.Header.{Header}
use Rattle.mp4_box.specs.declared.headers.Step.{Step}
use Rattle.mp4_box.specs.declared.headers.Step.TheVariants as steps
use Rattle.mp4_box.specs.Headers.{need, header_at, kind_of, kind_field, HasRoom, result_of}
use Rattle.mp4_box.proofs.HeaderLemmas.{header_at-append, need-append, whole_is, need-least}
use Rattle.mp4_box.proofs.HeaderAnswers.{header-room}
use Rattle.mp4_machine.proofs.BodyLemmas.{nat_lt_false}

pub kind_of-append : (x y : List ℕ) → 8 ≤ length x → kind_of (x ++ y) ≡ kind_of x
kind_of-append x y eight =
    let after : drop 4 (x ++ y) ≡ drop 4 x ++ y = drop-append-le 4 x y (omega arith) in
    let kind : kind_field (x ++ y) ≡ kind_field x = ap (take 4) after ∙ take-append-le 4 (drop 4 x) y (omega (arith, length-drop 4 x)) in
    rw (nat_lt_false (length (x ++ y)) 8 (omega (arith, length-append x y)), nat_lt_false (length x) 8 eight, kind) refl

-- a header has room in the box that it begins
pub head-room : (x : List ℕ) (h : Header) → header_at x ≡ steps.Whole h → HasRoom h.size (length (take h.header_len x))
head-room x h e =
    let w = whole_is x h e in
    let len : length (take h.header_len x) ≡ h.header_len = omega (arith, length-take h.header_len x, w.0, w.1) in
    rw len (rw e at (header-room x))

-- a header that is read from the front of the input
pub header_is : {step : Step} {h : Header} → result_of step ≡ Ok h → step ≡ steps.Whole h
header_is {step = steps.Whole k} e = cc
header_is {step = steps.More} e = absurd cc
header_is {step = steps.BadSize} e = absurd cc

-- a front of some bytes, the rest, and more
pub apart : (n : ℕ) (x more : List ℕ) → take n x ++ (drop n x ++ more) ≡ x ++ more
apart n x more = sym (append_assoc (take n x) (drop n x) more) ∙ ap (λ l. l ++ more) (take-append-drop n x)

-- a header at the front of some bytes, by itself
pub front-len : (x : List ℕ) (h : Header) → header_at x ≡ steps.Whole h → length (take h.header_len x) ≡ need (take h.header_len x)
front-len x h is =
    let w = whole_is x h is in
    let len : length (take h.header_len x) ≡ h.header_len = length-take-le h.header_len x (omega (arith, w.0, w.1)) in
    let same : need x ≡ need (take h.header_len x) = ap need (sym (take-append-drop h.header_len x)) ∙ need-append (take h.header_len x) (drop h.header_len x) (omega (arith, len, w.1, need-least x)) in
    len ∙ w.1 ∙ same

pub front-is : (x : List ℕ) (h : Header) → header_at x ≡ steps.Whole h → header_at (take h.header_len x) ≡ steps.Whole h
front-is x h is =
    let whole : need (take h.header_len x) ≤ length (take h.header_len x) = omega (arith, front-len x h is) in
    sym (header_at-append (take h.header_len x) (drop h.header_len x) whole) ∙ ap header_at (take-append-drop h.header_len x) ∙ is

-- and so does each front of it that has all of the header
pub take-is : (n : ℕ) (x : List ℕ) (h : Header) → header_at x ≡ steps.Whole h → h.header_len ≤ n → header_at (take n x) ≡ steps.Whole h
take-is n x h is far =
    let front : take h.header_len (take n x) ≡ take h.header_len x = take-take h.header_len n x far in
    let whole : need (take h.header_len x) ≤ length (take h.header_len x) = omega (arith, front-len x h is) in
    ap header_at (sym (take-append-drop h.header_len (take n x)) ∙ ap (λ l. l ++ drop h.header_len (take n x)) front) ∙ header_at-append (take h.header_len x) (drop h.header_len (take n x)) whole ∙ front-is x h is

-- a header at the front, with more after it
pub header-grows : (b x : List ℕ) (h : Header) → header_at b ≡ steps.Whole h → (header_at (b ++ x) ≡ steps.Whole h) × (take h.header_len (b ++ x) ≡ take h.header_len b) × (drop h.header_len (b ++ x) ≡ drop h.header_len b ++ x)
header-grows b x h e =
    let w = whole_is b h e in
    (header_at-append b x w.0 ∙ e, take-append-le h.header_len b x (omega (arith, w.0, w.1)), drop-append-le h.header_len b x (omega (arith, w.0, w.1)))

-- it is at the front of all bytes that begin so
pub is-further : (n : ℕ) (x : List ℕ) (h : Header) → header_at (take n x) ≡ steps.Whole h → header_at x ≡ steps.Whole h
is-further n x h e = ap header_at (sym (take-append-drop n x)) ∙ (header-grows (take n x) (drop n x) h e).0
