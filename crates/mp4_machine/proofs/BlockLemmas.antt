-- How bytes pass through a block.
use Rattle.std.proofs.Common.{◌≡◌, ℕ, ◌+◌, ◌<◌, ◌≤◌, List, [], ◌∷◌, ◌++◌, length, take, drop, Option, sym, ap, ◌∙◌, append_assoc, append-nil, length-append, length-take-le, take-append-drop, refl, subst, arith}
use Rattle.std.proofs.lemmas.List.{length-drop}
use Rattle.std.proofs.KnownBytes.{Appends-nil, Appends-trans}
use Rattle.std.specs.Io.KnownBytes.{Appends}
use Rattle.std.specs.List.{AllByRecursion}
use Rattle.mp4_ends.specs.Streams.{AppendsPrefix}
use Rattle.mp4_machine.specs.Blocks.{IsSent, Pending, unused, whole_by, Passes, PassesMarked, Breaks, BreaksMarked}
use Rattle.mp4_machine.specs.Readings.{moved, whole_in}
use Rattle.mp4_machine.specs.declared.fragment_end.FragmentEnd.{FragmentEnd}
use Rattle.mp4_machine.proofs.MarkLemmas.{moved-append, moved-moved, moved-none, whole_in-append, whole_in-early, whole_in-late, whole_in-moved}

-- no byte was sent, and no mark put
alike-none : (v : Pending) (n : ℕ) → whole_by (length {A = ℕ} [] + n) v [] ≡ whole_in n v.whole v.ends
alike-none v n =
    let e : 0 + n ≡ n = omega arith in
    ap (λ k. whole_in k v.whole (v.ends ++ [])) e ∙ ap (whole_in n v.whole) (append-nil v.ends)

pub Passes-none : (a : Option (List ℕ)) (v : Pending) → Passes a a v v []
Passes-none a v = record { sent = []; written = Appends-nil a; all = append-nil v.bytes; alike = alike-none v }

-- ---- one text after the other

-- what is whole in the first n bytes by the marks of a text and of one after it
whole-both : (n : ℕ) (v : Pending) (s : List ℕ) (xs ys : List FragmentEnd) → whole_by n v (xs ++ moved (length s) ys) ≡ whole_in n (whole_by n v xs) (moved (length v.bytes + length s) ys)
whole-both n v s xs ys =
    let k = length v.bytes in
    ap (λ l. whole_in n v.whole (v.ends ++ l)) (moved-append k xs (moved (length s) ys) ∙ ap (λ l. moved k xs ++ l) (moved-moved k (length s) ys))
    ∙ ap (whole_in n v.whole) (sym (append_assoc v.ends (moved k xs) (moved (k + length s) ys)))
    ∙ whole_in-append n v.whole (v.ends ++ moved k xs) (moved (k + length s) ys)

module _ {a b : Option (List ℕ)} {v w : Pending} {s : List ℕ} {xs : List FragmentEnd} (p : PassesMarked a b v w s xs) where
  lengths : length v.bytes + length s ≡ length p.sent + length w.bytes
  lengths = sym (length-append v.bytes s) ∙ ap length p.all ∙ length-append p.sent w.bytes

  -- what is whole by both texts, after what was sent
  alike-both : (n : ℕ) (ys : List FragmentEnd) → whole_by (length p.sent + n) v (xs ++ moved (length s) ys) ≡ whole_by n w ys
  alike-both n ys =
      let j = length p.sent in
      whole-both (j + n) v s xs ys
      ∙ ap (λ k. whole_in (j + n) k (moved (length v.bytes + length s) ys)) (p.alike n)
      ∙ ap (λ k. whole_in (j + n) (whole_in n w.whole w.ends) (moved k ys)) lengths
      ∙ ap (whole_in (j + n) (whole_in n w.whole w.ends)) (sym (moved-moved j (length w.bytes) ys))
      ∙ whole_in-moved j n (whole_in n w.whole w.ends) (moved (length w.bytes) ys)
      ∙ sym (whole_in-append n w.whole w.ends (moved (length w.bytes) ys))

  all-both : (t rest : List ℕ) (sent : List ℕ) → w.bytes ++ t ≡ sent ++ rest → v.bytes ++ (s ++ t) ≡ (p.sent ++ sent) ++ rest
  all-both t rest sent e = sym (append_assoc v.bytes s t) ∙ ap (λ l. l ++ t) p.all ∙ append_assoc p.sent w.bytes t ∙ ap (λ l. p.sent ++ l) e ∙ sym (append_assoc p.sent sent rest)

  pub PassesMarked-more : {c : Option (List ℕ)} {u : Pending} {t : List ℕ} {ys : List FragmentEnd} → PassesMarked b c w u t ys → PassesMarked a c v u (s ++ t) (xs ++ moved (length s) ys)
  PassesMarked-more {c = c} {u = u} {t = t} {ys = ys} q = record {
    sent = p.sent ++ q.sent;
    written = Appends-trans a b c p.sent q.sent p.written q.written;
    all = all-both t u.bytes q.sent q.all;
    alike = λ n.
        let e : length (p.sent ++ q.sent) + n ≡ length p.sent + (length q.sent + n) = omega (arith, length-append p.sent q.sent) in
        ap (λ k. whole_by k v (xs ++ moved (length s) ys)) e ∙ alike-both (length q.sent + n) ys ∙ q.alike n;
  }

  -- some text passed, and of the next a front of what was to be sent
  pub BreaksMarked-passed : {c : Option (List ℕ)} {u : Pending} {t : List ℕ} {ys : List FragmentEnd} → BreaksMarked b c w u t ys → BreaksMarked a c v u (s ++ t) (xs ++ moved (length s) ys)
  BreaksMarked-passed {c = c} {u = u} {t = t} {ys = ys} q = record {
    front = p.sent ++ q.front;
    rest = q.rest;
    written = Appends-trans a b c p.sent q.front p.written q.written;
    all = all-both t q.rest q.front q.all;
    short = q.short;
    whole = q.whole ∙ sym (ap (λ k. whole_by k v (xs ++ moved (length s) ys)) (length-append p.sent q.front) ∙ alike-both (length q.front) ys);
  }

-- a front of some text is one of more text
pub BreaksMarked-longer : {a b : Option (List ℕ)} {v w : Pending} {s : List ℕ} {xs : List FragmentEnd} (t : List ℕ) (ys : List FragmentEnd) → BreaksMarked a b v w s xs → BreaksMarked a b v w (s ++ t) (xs ++ moved (length s) ys)
BreaksMarked-longer {v = v} {w = w} {s = s} {xs = xs} t ys p =
    let less : length p.front < length v.bytes + length s = omega (arith, p.short, sym (length-append v.bytes s) ∙ ap length p.all ∙ length-append p.front p.rest) in
    record {
      front = p.front;
      rest = p.rest ++ t;
      written = p.written;
      all = sym (append_assoc v.bytes s t) ∙ ap (λ l. l ++ t) p.all ∙ append_assoc p.front p.rest t;
      short = omega (arith, p.short, length-append p.rest t);
      whole = p.whole ∙ sym (whole-both (length p.front) v s xs ys ∙ whole_in-late (length v.bytes + length s) (length p.front) (whole_by (length p.front) v xs) ys less);
    }

pub Passes-more : {a b c : Option (List ℕ)} {v w u : Pending} {s t : List ℕ} → Passes a b v w s → Passes b c w u t → Passes a c v u (s ++ t)
Passes-more p q = PassesMarked-more p q

pub Breaks-passed : {a b : Option (List ℕ)} (c : Option (List ℕ)) {v w u : Pending} {s : List ℕ} (t : List ℕ) → Passes a b v w s → Breaks b c w u t → Breaks a c v u (s ++ t)
Breaks-passed c t p q = BreaksMarked-passed p q

pub Breaks-longer : {a b : Option (List ℕ)} {v w : Pending} {s : List ℕ} (t : List ℕ) → Breaks a b v w s → Breaks a b v w (s ++ t)
Breaks-longer t p = BreaksMarked-longer t [] p

-- a front of what is put first is one of the whole
pub Breaks-front : {a b : Option (List ℕ)} {v w : Pending} (text rest whole : List ℕ) → text ++ rest ≡ whole → Breaks a b v w text → Breaks a b v w whole
Breaks-front {a = a} {b = b} {v = v} {w = w} text rest whole e p = subst (Breaks a b v w) e (Breaks-longer rest p)

-- ---- what is written

-- what began and ended with no bytes that wait was written
pub Appends-passed : {a b : Option (List ℕ)} {v w : Pending} {s : List ℕ} {xs : List FragmentEnd} → PassesMarked a b v w s xs → v.bytes ≡ [] → w.bytes ≡ [] → Appends a b s
Appends-passed {a = a} {b = b} {s = s} p e f =
    subst (Appends a b) (sym (sym (ap (λ l. l ++ s) e) ∙ p.all ∙ ap (λ l. p.sent ++ l) f ∙ append-nil p.sent)) p.written

-- where all was sent before and after, of each more bytes as many fragments are whole
pub whole-passed : {a b : Option (List ℕ)} {v w : Pending} {s : List ℕ} {xs : List FragmentEnd} → PassesMarked a b v w s xs → IsSent v → IsSent w → (n : ℕ) → whole_in (length s + n) v.whole xs ≡ w.whole
whole-passed {v = v} {w = w} {s = s} {xs = xs} p before after n =
    let all : length s + n ≡ length p.sent + n = omega (arith, ap length p.all, length-append p.sent w.bytes, length-append v.bytes s, ap length before.bytes, ap length after.bytes) in
    ap (λ k. whole_in k v.whole xs) all
    ∙ ap (whole_in (length p.sent + n) v.whole) (sym (ap (λ l. moved (length l) xs) before.bytes ∙ moved-none xs))
    ∙ ap (λ l. whole_in (length p.sent + n) v.whole (l ++ moved (length v.bytes) xs)) (sym before.ends)
    ∙ p.alike n ∙ ap (whole_in n w.whole) after.ends

-- of what was put into a new block, and sent, so many fragments are whole
pub whole-sent : {a b : Option (List ℕ)} {w : Pending} {s : List ℕ} {xs : List FragmentEnd} → PassesMarked a b unused w s xs → IsSent w → w.whole ≡ whole_in (length s) 0 xs
whole-sent {s = s} {xs = xs} p done =
    let all : length s + 0 ≡ length s = omega arith in
    sym (whole-passed p (record { bytes = refl; ends = refl }) done 0) ∙ ap (λ k. whole_in k 0 xs) all

-- so many are whole in the front that was written where a write failed
pub whole-broken : {a b : Option (List ℕ)} {v w : Pending} {s : List ℕ} {xs : List FragmentEnd} (p : BreaksMarked a b v w s xs) → IsSent v → w.whole ≡ whole_in (length p.front) v.whole xs
whole-broken {v = v} {xs = xs} p before =
    p.whole ∙ ap (λ l. whole_in (length p.front) v.whole (l ++ moved (length v.bytes) xs)) before.ends
    ∙ ap (whole_in (length p.front) v.whole) (ap (λ l. moved (length l) xs) before.bytes ∙ moved-none xs)

-- and where a write failed a front of it
pub AppendsPrefix-broken : {a b : Option (List ℕ)} {v w : Pending} {s : List ℕ} {xs : List FragmentEnd} → BreaksMarked a b v w s xs → AppendsPrefix a b (v.bytes ++ s)
AppendsPrefix-broken p = (p.front, p.rest, p.written, p.all)

-- ---- one call

-- nothing waited, and a text was sent by itself
pub Passes-through : (a b : Option (List ℕ)) (v : Pending) (t : List ℕ) → v.bytes ≡ [] → v.ends ≡ [] → Appends a b t → Passes a b v v t
Passes-through a b v t e f p = record {
  sent = t;
  written = p;
  all = ap (λ l. l ++ t) e ∙ sym (append-nil t) ∙ ap (λ l. t ++ l) (sym e);
  alike = λ n. ap (λ l. whole_in (length t + n) v.whole (l ++ [])) f ∙ sym (ap (whole_in n v.whole) f);
}

-- nothing waited, and of a text that was to be sent by itself the first bytes were
pub Breaks-through : (a b : Option (List ℕ)) (v : Pending) (t : List ℕ) (n : ℕ) → v.bytes ≡ [] → v.ends ≡ [] → n < length t → Appends a b (take n t) → Breaks a b v v t
Breaks-through a b v t n e f short p = record {
  front = take n t;
  rest = drop n t;
  written = p;
  all = ap (λ l. l ++ t) e ∙ sym (take-append-drop n t);
  short = omega (arith, short, length-drop n t);
  whole = sym (ap (λ l. whole_in (length (take n t)) v.whole (l ++ [])) f);
}

-- some text passed, and then what waited was sent on
pub Passes-sent_on : {a b c : Option (List ℕ)} {v w u : Pending} {t : List ℕ} {xs : List FragmentEnd} → PassesMarked a b v w t xs → Passes b c w u [] → PassesMarked a c v u t xs
Passes-sent_on {a = a} {c = c} {v = v} {u = u} {t = t} {xs = xs} p q =
    subst (λ l. PassesMarked a c v u l xs) (append-nil t) (subst (PassesMarked a c v u (t ++ [])) (append-nil xs) (PassesMarked-more p q))

-- or of it a front
pub Breaks-sent_on : {a b : Option (List ℕ)} {c : Option (List ℕ)} {v w u : Pending} {t : List ℕ} {xs : List FragmentEnd} → PassesMarked a b v w t xs → Breaks b c w u [] → BreaksMarked a c v u t xs
Breaks-sent_on {a = a} {c = c} {v = v} {u = u} {t = t} {xs = xs} p q =
    subst (λ l. BreaksMarked a c v u l xs) (append-nil t) (subst (BreaksMarked a c v u (t ++ [])) (append-nil xs) (BreaksMarked-passed p q))

-- all that waited was sent
pub Passes-sent : (a b : Option (List ℕ)) (v : Pending) (n : ℕ) → n ≡ length v.bytes → AllByRecursion (λ m. m.end ≤ length v.bytes) v.ends → Appends a b v.bytes → Passes a b v (record { bytes = []; ends = []; whole = whole_in n v.whole v.ends }) []
Passes-sent a b v n is within p = record {
  sent = v.bytes;
  written = p;
  all = refl;
  alike = λ k. ap (whole_in (length v.bytes + k) v.whole) (append-nil v.ends) ∙ whole_in-early (length v.bytes) k v.whole v.ends within ∙ ap (λ j. whole_in j v.whole v.ends) (sym is);
}

-- of all that waited the first bytes were sent
pub Breaks-sent : (a b : Option (List ℕ)) (v w : Pending) (n : ℕ) → n < length v.bytes → Appends a b (take n v.bytes) → w.whole ≡ whole_in n v.whole v.ends → Breaks a b v w []
Breaks-sent a b v w n short p e = record {
  front = take n v.bytes;
  rest = drop n v.bytes;
  written = p;
  all = append-nil v.bytes ∙ sym (take-append-drop n v.bytes);
  short = omega (arith, short, length-drop n v.bytes);
  whole =
      let k : length (take n v.bytes) ≡ n = length-take-le n v.bytes (omega (arith, short)) in
      e ∙ sym (ap (λ j. whole_in j v.whole (v.ends ++ [])) k ∙ ap (whole_in n v.whole) (append-nil v.ends));
}

-- an end was put after all buffered bytes
pub PassesMarked-end : (a : Option (List ℕ)) (v : Pending) (n count : ℕ) → n ≡ length v.bytes → PassesMarked a a v (record { bytes = v.bytes; ends = v.ends ++ record { end = n; count = count } ∷ []; whole = v.whole }) [] (record { end = 0; count = count } ∷ [])
PassesMarked-end a v n count is = record {
  sent = [];
  written = Appends-nil a;
  all = append-nil v.bytes;
  alike = λ k.
      let e : 0 + k ≡ k = omega arith in
      let f : length v.bytes + 0 ≡ n = omega (arith, is) in
      ap (λ j. whole_by j v (record { end = 0; count = count } ∷ [])) e ∙ ap (λ j. whole_in k v.whole (v.ends ++ record { end = j; count = count } ∷ [])) f;
}

-- some text passed, and then an end was put
pub PassesMarked-then_end : {a b : Option (List ℕ)} {v w : Pending} (n count : ℕ) → n ≡ length w.bytes → Passes a b v w [] → PassesMarked a b v (record { bytes = w.bytes; ends = w.ends ++ record { end = n; count = count } ∷ []; whole = w.whole }) [] (record { end = 0; count = count } ∷ [])
PassesMarked-then_end {b = b} {w = w} n count is p = PassesMarked-more p (PassesMarked-end b w n count is)
