-- What more bytes change of a reading, whatever the items are.
use Rattle.std.proofs.Common.{◌≡◌, ◌∙◌, ℕ, zero, suc, ◌≤◌, List, [], ◌∷◌, ◌++◌, length, None, ap, sym, refl, arith, append_assoc, append-nil, length-append, subst}
use Rattle.mp4_machine.specs.Readings.{ArePast, Outcome, Sound, Faulty, CutOff, Effects, no_effects, says, uncounted, both, Reading, FirstItem, Last, Whole, IsPrefix, Extends, GrowsTo, decided_in, after, after_effects, moved, then_read, read_all, shifted}
use Rattle.mp4_machine.proofs.MarkLemmas.{moved-append}
use Rattle.mp4_machine.proofs.PastLemmas.{ArePast-append, ArePast-fewer, ArePast-moved, IsPast, all-past, effects_of}
use Rattle.mp4_machine.proofs.ReadingAskLemmas.{AtMost-none, AtMost-after, AtMost-plus, AtMost-same, AtMost-trans, shifted-append}
use Rattle.mp4_machine.proofs.ReadingLemmas.{Below, IsItemwise, read_all-front}

-- more bytes change nothing of a reading that ends with a decided fault, and else may add to the effects
abbrev pub LastGrows : {C : Type 0} → Reading → Outcome → FirstItem C → Type 0
LastGrows r (Faulty f) g = g ≡ Last r
LastGrows r Sound g = Extends r.effects (effects_of g)
LastGrows r (CutOff f) g = Extends r.effects (effects_of g)

-- more bytes change nothing of a whole item but what follows it
abbrev pub FrontGrows : {C : Type 0} → List ℕ → FirstItem C → FirstItem C → Type 0
FrontGrows x (Whole text next rest) g = g ≡ Whole text next (rest ++ x)
FrontGrows x (Last r) g = LastGrows r r.outcome g

-- ---- the effects

prefix-trans : {X : Type 0} (xs ys zs : List X) → IsPrefix xs ys → IsPrefix ys zs → IsPrefix xs zs
prefix-trans xs ys zs p q = (p.0 ++ q.0, sym (append_assoc xs p.0 q.0) ∙ ap (λ l. l ++ q.0) p.1 ∙ q.1)

pub Extends-silent : (t : Effects) → ArePast 0 t.fragment_ends → Extends no_effects t
Extends-silent t past = record {
  text = (t.text, refl);
  requests = (t.requests, refl);
  fragment_ends = (t.fragment_ends, refl, past);
  tally = AtMost-none t.tally;
}

pub Extends-same : (t : Effects) → Extends t t
Extends-same t = record { text = ([], append-nil t.text); requests = ([], append-nil t.requests); fragment_ends = ([], append-nil t.fragment_ends, tt); tally = AtMost-same t.tally }

pub Extends-trans : (s t u : Effects) → Extends s t → Extends t u → Extends s u
Extends-trans s t u p q =
    let (x, e, past) = p.fragment_ends in
    let (y, f, far) = q.fragment_ends in
    let few : length s.text ≤ length t.text = subst (λ l. length s.text ≤ length l) p.text.1 (omega (arith, length-append s.text p.text.0)) in
    record {
      text = prefix-trans s.text t.text u.text p.text q.text;
      requests = prefix-trans s.requests t.requests u.requests p.requests q.requests;
      fragment_ends = (x ++ y, sym (append_assoc s.fragment_ends x y) ∙ ap (λ l. l ++ y) e ∙ f, ArePast-append (length s.text) x y past (ArePast-fewer (length t.text) (length s.text) y few far));
      tally = AtMost-trans s.tally t.tally u.tally p.tally q.tally;
    }

pub Extends-after : (u s t : Effects) → Extends s t → Extends (both u s) (both u t)
Extends-after u s t p =
    let n = length u.text in
    let (x, e, past) = p.fragment_ends in
    record {
      text = (p.text.0, append_assoc u.text s.text p.text.0 ∙ ap (λ l. u.text ++ l) p.text.1);
      requests = (shifted u p.requests.0, append_assoc u.requests (shifted u s.requests) (shifted u p.requests.0) ∙ ap (λ l. u.requests ++ l) (sym (shifted-append u s.requests p.requests.0) ∙ ap (shifted u) p.requests.1));
      fragment_ends = (
        moved n x,
        append_assoc u.fragment_ends (moved n s.fragment_ends) (moved n x) ∙ ap (λ l. u.fragment_ends ++ l) (sym (moved-append n s.fragment_ends x) ∙ ap (moved n) e),
        ArePast-moved n (length s.text) (length (u.text ++ s.text)) x (omega (arith, length-append u.text s.text)) past,
      );
      tally = AtMost-after u.tally s.tally t.tally p.tally;
    }

Extends-both : (s t : Effects) → ArePast 0 t.fragment_ends → Extends s (both s t)
Extends-both s t past = record {
  text = (t.text, refl);
  requests = (shifted s t.requests, refl);
  fragment_ends = (moved (length s.text) t.fragment_ends, refl, ArePast-moved (length s.text) 0 (length s.text) t.fragment_ends (omega arith) past);
  tally = AtMost-plus s.tally t.tally;
}

-- more text alone
pub Extends-says : (x y : List ℕ) → Extends (says x) (says (x ++ y))
Extends-says x y = record { text = (y, refl); requests = ([], refl); fragment_ends = ([], refl, tt); tally = AtMost-same uncounted }

-- a text, and then what more text begins with
pub Extends-goes_on : (x y : List ℕ) (t : Effects) → ArePast 0 t.fragment_ends → Extends (says x) (both (says (x ++ y)) t)
Extends-goes_on x y t past = Extends-trans (says x) (says (x ++ y)) (both (says (x ++ y)) t) (Extends-says x y) (Extends-both (says (x ++ y)) t past)

-- the effects of an item come first
pub emitted_of-first : {C : Type 0} (r : C → List ℕ → Reading) (g : FirstItem C) → ((c : C) (b : List ℕ) → ArePast 0 (r c b).effects.fragment_ends) → Extends (effects_of g) (then_read r g).effects
emitted_of-first r (Last s) past = Extends-same s.effects
emitted_of-first r (Whole effects next rest) past = Extends-both effects (r next rest).effects (past next rest)

-- effects before the front
pub emitted-grows : {C : Type 0} (t : Effects) (x : List ℕ) (f g : FirstItem C) → FrontGrows x f g → FrontGrows x (after_effects t f) (after_effects t g)
emitted-grows {C = C} t x (Whole effects next rest) g h = ap (after_effects t) h
emitted-grows {C = C} t x (Last r) g h = last r r.outcome refl h
  where
    following : (r : Reading) (g : FirstItem C) → Extends r.effects (effects_of g) → Extends (both t r.effects) (effects_of (after_effects t g))
    following r (Last s) h = Extends-after t r.effects s.effects h
    following r (Whole effects next rest) h = Extends-after t r.effects effects h

    last : (r : Reading) (e : Outcome) → r.outcome ≡ e → LastGrows r e g → LastGrows (after t r) e (after_effects t g)
    last r (Faulty f) e h = ap (after_effects t) h
    last r Sound e h = following r g h
    last r (CutOff f) e h = following r g h

-- ---- readings

GrowsTo-same : (r : Reading) → GrowsTo r r
GrowsTo-same r = record { effects = Extends-same r.effects; early = λ f e. refl }

GrowsTo-after : (t : Effects) (r s : Reading) → GrowsTo r s → GrowsTo (after t r) (after t s)
GrowsTo-after t r s g = record { effects = Extends-after t r.effects s.effects g.effects; early = λ f e. ap (after t) (g.early f e) }

module _ {C : Type 0} (first_item : C → List ℕ → FirstItem C) (items : IsItemwise first_item) (grows : (c : C) (b x : List ℕ) → FrontGrows x (first_item c b) (first_item c (b ++ x))) (past : (c : C) (b : List ℕ) → IsPast (first_item c b)) where
  -- the front is the last item
  last_grows : (r : Reading) (e : Outcome) (c : C) (b x : List ℕ) → r.outcome ≡ e → LastGrows r e (first_item c (b ++ x)) → GrowsTo r (read_all first_item c (b ++ x))
  last_grows r (Faulty f) c b x is g = subst (GrowsTo r) (sym (read_all-front first_item items c (b ++ x) ∙ ap (then_read (read_all first_item)) g)) (GrowsTo-same r)
  last_grows r Sound c b x is g = record {
    effects = Extends-trans r.effects (effects_of (first_item c (b ++ x))) _ g (subst (λ (s : Reading). Extends (effects_of (first_item c (b ++ x))) s.effects) (sym (read_all-front first_item items c (b ++ x))) (emitted_of-first (read_all first_item) (first_item c (b ++ x)) (all-past first_item past)));
    early = λ f e. let none : decided_in r.outcome ≡ None = ap decided_in is in absurd cc;
  }
  last_grows r (CutOff h) c b x is g = record {
    effects = Extends-trans r.effects (effects_of (first_item c (b ++ x))) _ g (subst (λ (s : Reading). Extends (effects_of (first_item c (b ++ x))) s.effects) (sym (read_all-front first_item items c (b ++ x))) (emitted_of-first (read_all first_item) (first_item c (b ++ x)) (all-past first_item past)));
    early = λ f e. let none : decided_in r.outcome ≡ None = ap decided_in is in absurd cc;
  }

  grows_by : (n : ℕ) → ((c : C) (b x : List ℕ) → length b ≤ n → GrowsTo (read_all first_item c b) (read_all first_item c (b ++ x)))
      → (c : C) (b x : List ℕ) (v : FirstItem C) → first_item c b ≡ v → Below v n → FrontGrows x v (first_item c (b ++ x)) → GrowsTo (then_read (read_all first_item) v) (read_all first_item c (b ++ x))
  grows_by n more c b x (Last r) e below g = last_grows r r.outcome c b x refl g
  grows_by n more c b x (Whole text next rest) e below g =
      subst (GrowsTo (after text (read_all first_item next rest))) (sym (read_all-front first_item items c (b ++ x) ∙ ap (then_read (read_all first_item)) g))
      (GrowsTo-after text (read_all first_item next rest) (read_all first_item next (rest ++ x)) (more next rest x below))

  below_of : (n : ℕ) (c : C) (b : List ℕ) → length b ≤ suc n → Below (first_item c b) n
  below_of n c [] h = subst (λ v. Below v n) (sym (items.empty c)) tt
  below_of n c (a ∷ b) h = Below-less (first_item c (a ∷ b)) (length b) n (omega arith) (items.shorter c a b)
    where
      Below-less : (f : FirstItem C) (k m : ℕ) → k ≤ m → Below f k → Below f m
      Below-less (Last r) k m p q = tt
      Below-less (Whole text next rest) k m p q = omega arith

  reading_grows_for : (n : ℕ) (c : C) (b x : List ℕ) → length b ≤ n → GrowsTo (read_all first_item c b) (read_all first_item c (b ++ x))
  reading_grows_for zero c [] x h = subst (λ r. GrowsTo r (read_all first_item c x)) (sym (read_all-front first_item items c [] ∙ ap (then_read (read_all first_item)) (items.empty c)))
      (record { effects = Extends-silent (read_all first_item c x).effects (all-past first_item past c x); early = λ f e. absurd cc })
  reading_grows_for zero c (a ∷ b) x h = absurd (omega arith)
  reading_grows_for (suc n) c b x h = subst (λ r. GrowsTo r (read_all first_item c (b ++ x))) (sym (read_all-front first_item items c b))
      (grows_by n (reading_grows_for n) c b x (first_item c b) refl (below_of n c b h) (grows c b x))

  -- what more bytes write begins with what fewer write, and a fault that is decided stays
  pub reading_grows : (c : C) (b x : List ℕ) → GrowsTo (read_all first_item c b) (read_all first_item c (b ++ x))
  reading_grows c b x = reading_grows_for (length b) c b x (omega arith)
