-- The boxes of a payload, one step at a time.
use Rattle.std.proofs.Common.{Bool, not, ◌≡◌, ℕ, zero, suc, ◌+◌, ◌-◌, ◌<◌, ◌≤◌, ◌==◌, true, false, List, [], ◌∷◌, ◌++◌, length, drop, Option, Some, None, Ok, Err, refl, sym, ap, ◌∙◌, arith}
use Rattle.std.specs.Option.{option_or, is_some}
use Rattle.mp4_box.specs.declared.rules.Rule.TheVariants.{Depth}
use Rattle.mp4_box.specs.declared.rules.Fault.{Fault}
use Rattle.mp4_box.specs.Trees.{Box, box_len, box_at, box_then, over, is_container, bad_rest, no_rest, bad_below, deep_below, payload_offset, first_of, verdict, fault_at, bad_size, boxes}

-- bytes that are passed over
pub over-skip : {R : Type 0} (f : Box → List R) (g : ℕ → List ℕ → List R) (x : List ℕ) (k o : ℕ) → over f g x k o ≡ over f g (drop k x) 0 (o + k)
unfolding over
over-skip f g [] zero o = refl
over-skip f g [] (suc k) o = refl
over-skip f g (a ∷ xs) zero o = ap (λ (p : ℕ). over f g (a ∷ xs) 0 p) (omega arith)
over-skip f g (a ∷ xs) (suc k) o = over-skip f g xs k (o + 1) ∙ ap (λ (p : ℕ). over f g (drop k xs) 0 p) (omega arith)

-- the first box, and then the others
pub over-box : {R : Type 0} (f : Box → List R) (g : ℕ → List ℕ → List R) (x : List ℕ) (o : ℕ) (b : Box) → box_at o x ≡ Some b → 1 ≤ box_len b → box_len b ≤ length x → over f g x 0 o ≡ f b ++ over f g (drop (box_len b) x) 0 (o + box_len b)
unfolding over
over-box f g [] o b e low high = absurd (omega arith)
over-box {R} f g (a ∷ xs) o b e low high =
    let back : suc (box_len b - 1) ≡ box_len b = omega arith in
    let rest : over f g xs (box_len b - 1) (o + 1) ≡ over f g (drop (suc (box_len b - 1)) (a ∷ xs)) 0 (o + suc (box_len b - 1)) = over-skip f g (a ∷ xs) (suc (box_len b - 1)) o in
    ap (λ (p : Option Box). box_then {R = R} p f (g o (a ∷ xs)) (λ k. over f g xs k (o + 1))) e
    ∙ ap (λ (ys : List R). f b ++ ys) (rest ∙ ap (λ (n : ℕ). over f g (drop n (a ∷ xs)) 0 (o + n)) back)

-- no box lies here
pub over-none : {R : Type 0} (f : Box → List R) (g : ℕ → List ℕ → List R) (x : List ℕ) (o : ℕ) → box_at o x ≡ None → 0 < length x → over f g x 0 o ≡ g o x
unfolding over
over-none f g [] o e h = absurd (omega arith)
over-none {R} f g (a ∷ xs) o e h = ap (λ (p : Option Box). box_then {R = R} p f (g o (a ∷ xs)) (λ k. over f g xs k (o + 1))) e

pub over-end : {R : Type 0} (f : Box → List R) (g : ℕ → List ℕ → List R) (x : List ℕ) (o : ℕ) → length x ≡ 0 → over f g x 0 o ≡ []
unfolding over
over-end f g [] o h = refl
over-end f g (a ∷ xs) o h = absurd (omega arith)

-- ---- what is at fault below a box

pub bad-step : (n : ℕ) (b : Box) → 0 < n → is_container b.header.kind.0 ≡ true → bad_below n b ≡ over (bad_below (n - 1)) bad_rest b.payload 0 (payload_offset b)
unfolding bad_below
bad-step zero b h c = absurd (omega arith)
bad-step (suc n) b h c = rw c (ap (λ (k : ℕ). over (bad_below k) bad_rest b.payload 0 (payload_offset b)) (omega arith))

pub deep-step : (n : ℕ) (b : Box) → 0 < n → is_container b.header.kind.0 ≡ true → deep_below n b ≡ over (deep_below (n - 1)) no_rest b.payload 0 (payload_offset b)
unfolding deep_below
deep-step zero b h c = absurd (omega arith)
deep-step (suc n) b h c = rw c (ap (λ (k : ℕ). over (deep_below k) no_rest b.payload 0 (payload_offset b)) (omega arith))

pub bad-leaf : (n : ℕ) (b : Box) → is_container b.header.kind.0 ≡ false → bad_below n b ≡ []
unfolding bad_below
bad-leaf zero b c = refl
bad-leaf (suc n) b c = rw c refl

pub deep-leaf : (n : ℕ) (b : Box) → 0 < n → is_container b.header.kind.0 ≡ false → deep_below n b ≡ []
unfolding deep_below
deep-leaf zero b h c = absurd (omega arith)
deep-leaf (suc n) b h c = rw c refl

pub none_held : (held k : Bool) → held ≡ k → not held ≡ true → k ≡ false
none_held true k e n = absurd cc
none_held false k e n = sym e

pub verdict-ok : (fs : List Fault) → verdict fs ≡ Ok tt → fs ≡ []
verdict-ok [] e = refl
verdict-ok (f ∷ fs) e = absurd cc

pub verdict-err : (fs gs : List Fault) (f : Fault) → verdict fs ≡ Err f → verdict (fs ++ gs) ≡ Err f
verdict-err [] gs f e = absurd cc
verdict-err (h ∷ fs) gs f e = e

pub first-append : {A : Type 0} (fs gs : List A) → first_of (fs ++ gs) ≡ option_or (first_of fs) (first_of gs)
first-append [] gs = refl
first-append (f ∷ fs) gs = refl

pub or-assoc : (a b c : Option Fault) → option_or a (option_or b c) ≡ option_or (option_or a b) c
or-assoc None b c = refl
or-assoc (Some a) b c = refl

pub bad-zero : (n : ℕ) (b : Box) → n ≡ 0 → bad_below n b ≡ []
unfolding bad_below
bad-zero zero b e = refl
bad-zero (suc n) b e = absurd (omega arith)

pub deep-zero : (n : ℕ) (b : Box) → n ≡ 0 → deep_below n b ≡ fault_at Depth b ∷ []
unfolding deep_below
deep-zero zero b e = refl
deep-zero (suc n) b e = absurd (omega arith)

-- ---- the steps of a check, over what was found so far

-- a sound child, and then the others
pub bad-past : (n o : ℕ) (x : List ℕ) (b : Box) (all : List Fault) → box_at o x ≡ Some b → 8 ≤ box_len b → box_len b ≤ length x → verdict (bad_below n b) ≡ Ok tt → over (bad_below n) bad_rest x 0 o ≡ all → over (bad_below n) bad_rest (drop (box_len b) x) 0 (o + box_len b) ≡ all
bad-past n o x b all e low high ok so =
    sym (over-box (bad_below n) bad_rest x o b e (omega arith) high ∙ ap (λ (fs : List Fault). fs ++ over (bad_below n) bad_rest (drop (box_len b) x) 0 (o + box_len b)) (verdict-ok _ ok)) ∙ so

pub deep-past : (n o : ℕ) (x : List ℕ) (b : Box) (d e : Option Fault) (all : Option Fault) → box_at o x ≡ Some b → 8 ≤ box_len b → box_len b ≤ length x → e ≡ option_or d (first_of (deep_below n b)) → option_or d (first_of (over (deep_below n) no_rest x 0 o)) ≡ all
    → option_or e (first_of (over (deep_below n) no_rest (drop (box_len b) x) 0 (o + box_len b))) ≡ all
deep-past n o x b d e all at low high step so =
    let rest = over (deep_below n) no_rest (drop (box_len b) x) 0 (o + box_len b) in
    ap (λ (z : Option Fault). option_or z (first_of rest)) step
    ∙ (sym (or-assoc d (first_of (deep_below n b)) (first_of rest))
    ∙ (ap (option_or d) (sym (first-append (deep_below n b) rest) ∙ ap first_of (sym (over-box (deep_below n) no_rest x o b at (omega arith) high))) ∙ so))

-- a child at fault
pub bad-child : (n o : ℕ) (x : List ℕ) (b : Box) (f : Fault) (all : List Fault) → box_at o x ≡ Some b → 8 ≤ box_len b → box_len b ≤ length x → verdict (bad_below n b) ≡ Err f → over (bad_below n) bad_rest x 0 o ≡ all → verdict all ≡ Err f
bad-child n o x b f all e low high bad so =
    ap verdict (sym so ∙ over-box (bad_below n) bad_rest x o b e (omega arith) high) ∙ verdict-err _ _ f bad

-- no child
pub bad-stop : (n o : ℕ) (x : List ℕ) (all : List Fault) → box_at o x ≡ None → 0 < length x → over (bad_below n) bad_rest x 0 o ≡ all → verdict all ≡ Err (bad_size o x)
bad-stop n o x all e h so = ap verdict (sym so ∙ over-none (bad_below n) bad_rest x o e h)

pub none-first : (d : Option Fault) (n : ℕ) (b : Box) (f : Fault) → is_some d ≡ false → n ≡ 0 → f ≡ fault_at Depth b → Some f ≡ option_or d (first_of (deep_below n b))
none-first None n b f e z h = ap Some h ∙ sym (ap first_of (deep-zero n b z))
none-first (Some g) n b f e z h = absurd cc

pub or-none : (d : Option Fault) → option_or d None ≡ d
or-none None = refl
or-none (Some f) = refl

pub not_empty : (x : List ℕ) → false ≡ (length x == 0) → 0 < length x
not_empty [] e = absurd cc
not_empty (a ∷ xs) e = omega arith

-- ---- the boxes of a payload

pub boxes_more : (o : ℕ) (x : List ℕ) (b : Box) → box_at o x ≡ Some b → 8 ≤ box_len b → box_len b ≤ length x → boxes o x ≡ b ∷ boxes (o + box_len b) (drop (box_len b) x)
boxes_more o x b e low high = over-box (λ b. b ∷ []) (λ _ _. []) x o b e (omega arith) high

pub boxes_end : (o : ℕ) (x : List ℕ) → box_at o x ≡ None → boxes o x ≡ []
boxes_end o [] e = over-end (λ b. b ∷ []) (λ _ _. []) [] o refl
boxes_end o (a ∷ xs) e = over-none (λ b. b ∷ []) (λ _ _. []) (a ∷ xs) o e (omega arith)

-- there are no more boxes than bytes

few_after : (m : Option Box) (n : ℕ) (go : ℕ → List Box) → ((k : ℕ) → length (go k) ≤ n) → length (box_then m (λ b. b ∷ []) [] go) ≤ suc n
few_after None n go h = omega arith
few_after (Some b) n go h = omega (arith, h (box_len b - 1))

few_over : (x : List ℕ) (k o : ℕ) → length (over (λ b. b ∷ []) (λ _ _. []) x k o) ≤ length x
unfolding over
few_over [] k o = omega arith
few_over (a ∷ xs) zero o = few_after (box_at o (a ∷ xs)) (length xs) (λ k. over (λ b. b ∷ []) (λ _ _. []) xs k (o + 1)) (λ k. few_over xs k (o + 1))
few_over (a ∷ xs) (suc k) o = omega (arith, few_over xs k (o + 1))

pub few_boxes : (o : ℕ) (x : List ℕ) → length (boxes o x) ≤ length x
few_boxes o x = few_over x 0 o
