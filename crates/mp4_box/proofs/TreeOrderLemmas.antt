-- The faults of a tree are found in the order of their offsets.
use Rattle.std.proofs.Common.{◌≡◌, ◌∙◌, ◌+◌, ◌-◌, ◌<◌, ◌≤◌, ℕ, zero, suc, false, List, [], ◌∷◌, ◌++◌, length, drop, Option, Some, None, Result, Ok, Err, refl, sym, ap, subst, inl, inr, arith, length-drop}
use Rattle.std.specs.Prelude.{IfErr}
use Rattle.std.specs.List.{AllByRecursion}
use Rattle.std.proofs.lemmas.Bool.Decides.{nat_tests}
use Rattle.mp4_box.specs.declared.rules.Fault.{Fault}
use Rattle.mp4_box.specs.declared.rules.Rule.{Rule}
use Rattle.mp4_box.specs.declared.rules.Rule.TheVariants.{BadSize, Depth}
use Rattle.mp4_box.specs.Headers.{IsBytes}
use Rattle.mp4_box.specs.Rules.{number_of}
use Rattle.mp4_box.specs.Order.{comes_first, IsIn, IsLeast}
use Rattle.mp4_box.specs.Trees.{Box, box_len, box_at, over, is_container, bad_rest, no_rest, bad_below, deep_below, payload_offset, verdict, tree_faults, faults_of}
use Rattle.mp4_box.proofs.HeaderLemmas.{IsBytes-drop, bool_is}
use Rattle.mp4_box.proofs.TreeLemmas.{over-box, over-none, over-end, bad-leaf, deep-leaf, bad-step, deep-step}
use Rattle.mp4_box.proofs.GrammarLemmas.{lies_at, option_is}

-- faults of one rule in the order of their offsets, from one offset on and before another
abbrev IsRun : Rule → ℕ → ℕ → List Fault → Type 0
IsRun rule o e [] = Unit {0}
IsRun rule o e (f ∷ fs) = (f.rule ≡ rule) × (o ≤ f.offset) × (f.offset < e) × IsRun rule f.offset e fs

IsRun-wider : (rule : Rule) (o m e n : ℕ) (fs : List Fault) → o ≤ m → e ≤ n → IsRun rule m e fs → IsRun rule o n fs
IsRun-wider rule o m e n [] p q r = tt
IsRun-wider rule o m e n (f ∷ fs) p q r = (r.0, omega (arith, r.1), omega (arith, r.2), IsRun-wider rule f.offset f.offset e n fs (omega arith) q r.3)

IsRun-append : (rule : Rule) (o m e : ℕ) (fs gs : List Fault) → o ≤ m → m ≤ e → IsRun rule o m fs → IsRun rule m e gs → IsRun rule o e (fs ++ gs)
IsRun-append rule o m e [] gs p q r s = IsRun-wider rule o m e e gs p (omega arith) s
IsRun-append rule o m e (f ∷ fs) gs p q r s = (r.0, r.1, omega (arith, r.2), IsRun-append rule f.offset m e fs gs (omega (arith, r.2)) q r.3 s)

-- what is found in a box lies in it
abbrev InBox : Rule → (Box → List Fault) → Type 0
InBox rule f = (o : ℕ) (x : List ℕ) (b : Box) → IsBytes x → box_at o x ≡ Some b → IsRun rule o (o + box_len b) (f b)

abbrev InRest : Rule → (ℕ → List ℕ → List Fault) → Type 0
InRest rule g = (o : ℕ) (y : List ℕ) → 0 < length y → IsRun rule o (o + length y) (g o y)

over-run : (rule : Rule) (f : Box → List Fault) (g : ℕ → List ℕ → List Fault) → InBox rule f → InRest rule g
    → (fuel : ℕ) (x : List ℕ) (o : ℕ) → length x ≤ fuel → IsBytes x → IsRun rule o (o + length x) (over f g x 0 o)
over-run rule f g p q fuel [] o h fits = subst (IsRun rule o (o + 0)) (sym (over-end f g [] o refl)) tt
over-run rule f g p q zero (a ∷ xs) o h fits = absurd (omega arith)
over-run rule f g p q (suc fuel) (a ∷ xs) o h fits =
    let x : List ℕ = a ∷ xs in
    elim (option_is (box_at o x)) [
      | inl none ↦ subst (IsRun rule o (o + length x)) (sym (over-none f g x o none (omega arith))) (q o x (omega arith))
      | inr some ↦
          let b = some.0 in
          let s = lies_at o x b fits some.1 in
          let rest = drop (box_len b) x in
          let len : length rest ≡ length x - box_len b = length-drop (box_len b) x in
          let more = over-run rule f g p q fuel rest (o + box_len b) (omega (arith, len, s.low)) (IsBytes-drop (box_len b) x fits) in
          subst (IsRun rule o (o + length x)) (sym (over-box f g x o b some.1 (omega (arith, s.low)) s.high))
          (IsRun-append rule o (o + box_len b) (o + length x) (f b) (over f g rest 0 (o + box_len b)) (omega arith) (omega (arith, s.high)) (p o x b fits some.1)
          (IsRun-wider rule (o + box_len b) (o + box_len b) (o + box_len b + length rest) (o + length x) (over f g rest 0 (o + box_len b)) (omega arith) (omega (arith, len, s.high)) more))
    ]

bad_rest-run : InRest BadSize bad_rest
bad_rest-run o y h = (refl, omega arith, omega arith, tt)

no_rest-run : InRest Depth no_rest
no_rest-run o y h = tt

-- below a container
below-run : (rule : Rule) (f : Box → List Fault) (g : ℕ → List ℕ → List Fault) → InBox rule f → InRest rule g
    → (o : ℕ) (x : List ℕ) (b : Box) → IsBytes x → box_at o x ≡ Some b → IsRun rule o (o + box_len b) (over f g b.payload 0 (payload_offset b))
below-run rule f g p q o x b fits e =
    let s = lies_at o x b fits e in
    IsRun-wider rule o (payload_offset b) (payload_offset b + length b.payload) (o + box_len b) (over f g b.payload 0 (payload_offset b)) (omega (arith, s.place)) (omega (arith, s.place))
    (over-run rule f g p q (length b.payload) b.payload (payload_offset b) (omega arith) s.bytes)

bad-run : (n : ℕ) → InBox BadSize (bad_below n)
unfolding bad_below
bad-run zero o x b fits e = tt
bad-run (suc n) o x b fits e =
    elim (bool_is (is_container b.header.kind.0)) [
      | inl holds ↦ subst (IsRun BadSize o (o + box_len b)) (sym (bad-step (suc n) b (omega arith) holds ∙ ap (λ (k : ℕ). over (bad_below k) bad_rest b.payload 0 (payload_offset b)) (omega arith)))
          (below-run BadSize (bad_below n) bad_rest (bad-run n) bad_rest-run o x b fits e)
      | inr leaf ↦ subst (IsRun BadSize o (o + box_len b)) (sym (bad-leaf (suc n) b leaf)) tt
    ]

deep-run : (n : ℕ) → InBox Depth (deep_below n)
unfolding deep_below
deep-run zero o x b fits e = let s = lies_at o x b fits e in (refl, omega (arith, s.place), omega (arith, s.place, s.low), tt)
deep-run (suc n) o x b fits e =
    elim (bool_is (is_container b.header.kind.0)) [
      | inl holds ↦ subst (IsRun Depth o (o + box_len b)) (sym (deep-step (suc n) b (omega arith) holds ∙ ap (λ (k : ℕ). over (deep_below k) no_rest b.payload 0 (payload_offset b)) (omega arith)))
          (below-run Depth (deep_below n) no_rest (deep-run n) no_rest-run o x b fits e)
      | inr leaf ↦ subst (IsRun Depth o (o + box_len b)) (sym (deep-leaf (suc n) b (omega arith) leaf)) tt
    ]

-- ---- so the first is the least

not_before_same : (f g : Fault) → g.rule ≡ f.rule → f.offset ≤ g.offset → comes_first g f ≡ false
unfolding comes_first
not_before_same f g e h = let same : number_of g.rule ≡ number_of f.rule = ap number_of e in grind (arith, nat_tests)

not_before_lower : (f g : Fault) → f.rule ≡ BadSize → g.rule ≡ Depth → comes_first g f ≡ false
unfolding comes_first
not_before_lower f g e h = rw (e, h) refl

later-run : (rule : Rule) (f : Fault) (o e : ℕ) (fs : List Fault) → f.rule ≡ rule → f.offset ≤ o → IsRun rule o e fs → AllByRecursion (λ g. comes_first g f ≡ false) fs
later-run rule f o e [] is low r = tt
later-run rule f o e (g ∷ fs) is low r = (not_before_same f g (r.0 ∙ sym is) (omega (arith, r.1)), later-run rule f g.offset e fs is (omega (arith, r.1)) r.3)

lower-run : (f : Fault) (o e : ℕ) (fs : List Fault) → f.rule ≡ BadSize → IsRun Depth o e fs → AllByRecursion (λ g. comes_first g f ≡ false) fs
lower-run f o e [] is r = tt
lower-run f o e (g ∷ fs) is r = (not_before_lower f g is r.0, lower-run f g.offset e fs is r.3)

all-append : (f : Fault) (fs gs : List Fault) → AllByRecursion (λ g. comes_first g f ≡ false) fs → AllByRecursion (λ g. comes_first g f ≡ false) gs → AllByRecursion (λ g. comes_first g f ≡ false) (fs ++ gs)
all-append f [] gs p q = q
all-append f (g ∷ fs) gs p q = (p.0, all-append f fs gs p.1 q)

err_is : (f g : Fault) → ◌≡◌ {A = Result (Unit {0}) Fault} (Err f) (Err g) → f ≡ g
err_is f g e = cc

first-least : (o e : ℕ) (bad deep : List Fault) (f : Fault) → IsRun BadSize o e bad → IsRun Depth o e deep → verdict (bad ++ deep) ≡ Err f → IsLeast f (bad ++ deep)
unfolding IsIn
first-least o e [] [] f p q is = absurd cc
first-least o e [] (g ∷ gs) f p q is = subst (λ (z : Fault). IsLeast z (g ∷ gs)) (err_is g f is)
    (record { among = inl refl; before = (not_before_same g g refl (omega arith), later-run Depth g g.offset e gs q.0 (omega arith) q.3) })
first-least o e (g ∷ gs) deep f p q is = subst (λ (z : Fault). IsLeast z (g ∷ (gs ++ deep))) (err_is g f is)
    (record { among = inl refl; before = (not_before_same g g refl (omega arith), all-append g gs deep (later-run BadSize g g.offset e gs p.0 (omega arith) p.3) (lower-run g o e deep p.0 q)) })

faults-least : (o : ℕ) (x : List ℕ) (b : Option Box) (f : Fault) → IsBytes x → box_at o x ≡ b → verdict (faults_of b) ≡ Err f → IsLeast f (faults_of b)
faults-least o x None f fits e is = absurd cc
faults-least o x (Some b) f fits e is = first-least o (o + box_len b) (bad_below 8 b) (deep_below 8 b) f (bad-run 8 o x b fits e) (deep-run 8 o x b fits e) is

pub tree-least : (o : ℕ) (x : List ℕ) (f : Fault) → IsBytes x → verdict (tree_faults o x) ≡ Err f → IsLeast f (tree_faults o x)
tree-least o x f fits is = faults-least o x (box_at o x) f fits refl is

pub if_err_by : (r : Result (Unit {0}) Fault) (P : Fault → Type 0) → ((f : Fault) → r ≡ Err f → P f) → IfErr r P
if_err_by (Ok u) P g = tt
if_err_by (Err f) P g = g f refl
