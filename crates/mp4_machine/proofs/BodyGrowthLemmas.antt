-- What more bytes change of a body with effects as it comes, and how little of them it leaves.
use Rattle.std.proofs.Common.{◌≡◌, ◌∙◌, ℕ, ◌+◌, ◌-◌, ◌<◌, ◌≤◌, List, ◌++◌, length, take, drop, Some, Bool, true, false, ap, sym, refl, arith, length-append, length-drop, subst}
use Rattle.std.proofs.Math.Seq.{take-append-add}
use Rattle.std.specs.Prelude.{nat_lt, if◌then◌else◌}
use Rattle.std.proofs.lemmas.Bool.{ltb-true, ltb-false}
use Rattle.std.proofs.lemmas.List.{take-append-le, drop-append-le}
use Rattle.mp4_box.specs.declared.headers.FourCc.{FourCc}
use Rattle.mp4_box.specs.declared.rules.Rule.TheVariants.{Truncated, StreamTooLong}
use Rattle.mp4_machine.specs.Bodies.{fault, body_item, open_body_item}
use Rattle.mp4_machine.specs.Readings.{Effects, Sound, Faulty, CutOff, Last, Whole, Extends}
use Rattle.mp4_machine.proofs.BodyLemmas.{nat_lt_true, nat_lt_false}
use Rattle.mp4_machine.proofs.ReadingGrowthLemmas.{FrontGrows}
use Rattle.mp4_machine.proofs.ReadingLemmas.{Below}

pub emitted-below : {C : Type 0} (emit : List ℕ → Effects) (at : ℕ) (kind : FourCc) (next : C) (left n : ℕ) (bytes : List ℕ) → length bytes ≤ n + left → Below (body_item emit at kind next left bytes) n
emitted-below emit at kind next left n bytes h = elim (nat_lt (length bytes) left) as (λ v. Below (if v then Last (record { effects = emit bytes; outcome = CutOff (fault Truncated (Some kind) at) }) else Whole (emit (take left bytes)) next (drop left bytes)) n) [
  | true ↦ tt
  | false ↦ omega (arith, h, length-drop left bytes)
]

pub emitted_open-below : (C : Type 0) (emit : List ℕ → Effects) (at : ℕ) (kind : FourCc) (needed left n : ℕ) (bytes : List ℕ) → Below {C = C} (open_body_item emit at kind needed left bytes) n
emitted_open-below C emit at kind needed left n bytes = by (nat_lt left (length bytes)) (nat_lt (length bytes) needed)
  where
    by : (u v : Bool) → Below {C = C} (if u then Last (record { effects = emit (take left bytes); outcome = Faulty (fault StreamTooLong (Some kind) at) }) else if v then Last (record { effects = emit bytes; outcome = CutOff (fault Truncated (Some kind) at) }) else Last (record { effects = emit bytes; outcome = Sound })) n
    by true v = tt
    by false true = tt
    by false false = tt

-- more bytes have more effects
module _ (emit : List ℕ → Effects) (grow : (b x : List ℕ) → Extends (emit b) (emit (b ++ x))) where
  emit-front : (n : ℕ) (b x : List ℕ) → length b ≤ n → Extends (emit b) (emit (take n (b ++ x)))
  emit-front n b x h =
      let parts : take n (b ++ x) ≡ b ++ take (n - length b) x = ap (λ k. take k (b ++ x)) (omega arith) ∙ take-append-add b x (n - length b) in
      subst (λ l. Extends (emit b) (emit l)) (sym parts) (grow b (take (n - length b) x))

  body_by-grows : {C : Type 0} (at : ℕ) (kind : FourCc) (next : C) (left : ℕ) (b x : List ℕ) (t u : Bool) → nat_lt (length b) left ≡ t → nat_lt (length (b ++ x)) left ≡ u → FrontGrows x (body_item emit at kind next left b) (body_item emit at kind next left (b ++ x))
  body_by-grows at kind next left b x true true e f = rw (e, f) (grow b x)
  body_by-grows at kind next left b x true false e f =
      let short : length b < left = ltb-true _ _ e in
      rw (e, f) (emit-front left b x (omega arith))
  body_by-grows at kind next left b x false u e f =
      let enough : left ≤ length b = ltb-false _ _ e in
      rw (e, nat_lt_false (length (b ++ x)) left (omega (arith, length-append b x)), drop-append-le left b x enough, take-append-le left b x enough) refl

  pub emitted_body-grows : {C : Type 0} (at : ℕ) (kind : FourCc) (next : C) (left : ℕ) (b x : List ℕ) → FrontGrows x (body_item emit at kind next left b) (body_item emit at kind next left (b ++ x))
  emitted_body-grows at kind next left b x = body_by-grows at kind next left b x _ _ refl refl

  open_by-grows : (C : Type 0) (at : ℕ) (kind : FourCc) (needed left : ℕ) (b x : List ℕ) (t u v w : Bool) → nat_lt left (length b) ≡ t → nat_lt (length b) needed ≡ u → nat_lt left (length (b ++ x)) ≡ v → nat_lt (length (b ++ x)) needed ≡ w
      → FrontGrows {C = C} x (open_body_item emit at kind needed left b) (open_body_item emit at kind needed left (b ++ x))
  open_by-grows C at kind needed left b x true u v w e f g h =
      let far : left < length b = ltb-true _ _ e in
      rw (e, nat_lt_true left (length (b ++ x)) (omega (arith, length-append b x)), take-append-le left b x (omega arith)) refl
  open_by-grows C at kind needed left b x false true true w e f g h = rw (e, f, g) (emit-front left b x (ltb-false _ _ e))
  open_by-grows C at kind needed left b x false true false true e f g h = rw (e, f, g, h) (grow b x)
  open_by-grows C at kind needed left b x false true false false e f g h = rw (e, f, g, h) (grow b x)
  open_by-grows C at kind needed left b x false false true w e f g h = rw (e, f, g) (emit-front left b x (ltb-false _ _ e))
  open_by-grows C at kind needed left b x false false false true e f g h = rw (e, f, g, h) (grow b x)
  open_by-grows C at kind needed left b x false false false false e f g h = rw (e, f, g, h) (grow b x)

  pub emitted_open-grows : (C : Type 0) (at : ℕ) (kind : FourCc) (needed left : ℕ) (b x : List ℕ) → FrontGrows {C = C} x (open_body_item emit at kind needed left b) (open_body_item emit at kind needed left (b ++ x))
  emitted_open-grows C at kind needed left b x = open_by-grows C at kind needed left b x _ _ _ _ refl refl refl refl
