-- There is one list of pieces, and each piece is cut into itself.
use Rattle.std.proofs.Common.{◌≡◌, ◌<◌, Bool, true, false, List, [], ◌∷◌, ◌++◌, length, refl, sym, ap, ◌∙◌, arith, inl, inr, ◌⊎◌, append_assoc, append-nil}
use Rattle.std.specs.List.{AllByRecursion}
use Rattle.mp4_pieces.specs.Cutting.{join, IsFull, AllFull, ArePieces, IsLimit, cut_from, cut_by}

bool_is : (b : Bool) → (b ≡ true) ⊎ (b ≡ false)
bool_is true = inl refl
bool_is false = inr refl

-- together the pieces are what is cut
cut_joined : {A : Type 0} (fits : List A → Bool) (p xs : List A) → join (cut_from fits p xs) ≡ p ++ xs
unfolding cut_from
cut_joined fits p [] = refl
cut_joined {A} fits p (y ∷ xs) =
    elim (bool_is (fits (p ++ y ∷ []))) [
      | inl t ↦ rw t (cut_joined fits (p ++ y ∷ []) xs ∙ append_assoc p (y ∷ []) xs)
      | inr f ↦ rw f (ap (λ (z : List A). p ++ z) (cut_joined fits (y ∷ []) xs))
    ]

-- none is empty
cut_some : {A : Type 0} (fits : List A → Bool) (x : A) (p xs : List A) → AllByRecursion (λ q. 0 < length q) (cut_from fits (x ∷ p) xs)
unfolding cut_from
cut_some fits x p [] = (omega arith, tt)
cut_some {A} fits x p (y ∷ xs) =
    elim (bool_is (fits (x ∷ (p ++ y ∷ [])))) [
      | inl t ↦ rw t (cut_some fits x (p ++ y ∷ []) xs)
      | inr f ↦ rw f (omega arith, cut_some fits y [] xs)
    ]

-- each fits
cut_fit : {A : Type 0} (fits : List A → Bool) (x : A) (p xs : List A) → IsLimit fits → fits (x ∷ p) ≡ true → AllByRecursion (λ q. fits q ≡ true) (cut_from fits (x ∷ p) xs)
unfolding cut_from
cut_fit fits x p [] limit fit = (fit, tt)
cut_fit {A} fits x p (y ∷ xs) limit fit =
    elim (bool_is (fits (x ∷ (p ++ y ∷ [])))) [
      | inl t ↦ rw t (cut_fit fits x (p ++ y ∷ []) xs limit t)
      | inr f ↦ rw f (fit, cut_fit fits y [] xs limit (limit.one y))
    ]

-- each takes what it can
starts_full : {A : Type 0} (fits : List A → Bool) (q : List A) (x : A) (p xs : List A) → fits (q ++ x ∷ []) ≡ false → IsFull fits q (cut_from fits (x ∷ p) xs)
unfolding cut_from
starts_full fits q x p [] e = e
starts_full {A} fits q x p (y ∷ xs) e =
    elim (bool_is (fits (x ∷ (p ++ y ∷ [])))) [
      | inl t ↦ rw t (starts_full fits q x (p ++ y ∷ []) xs e)
      | inr f ↦ rw f e
    ]

cut_full : {A : Type 0} (fits : List A → Bool) (x : A) (p xs : List A) → AllFull fits (cut_from fits (x ∷ p) xs)
unfolding cut_from
cut_full fits x p [] = (tt, tt)
cut_full {A} fits x p (y ∷ xs) =
    elim (bool_is (fits (x ∷ (p ++ y ∷ [])))) [
      | inl t ↦ rw t (cut_full fits x (p ++ y ∷ []) xs)
      | inr f ↦ rw f (starts_full fits (x ∷ p) y [] xs f, cut_full fits y [] xs)
    ]

-- what is computed are the pieces
pub pieces_are : {A : Type 0} (fits : List A → Bool) (xs : List A) → IsLimit fits → ArePieces fits xs (cut_by fits xs)
unfolding cut_by
pieces_are fits [] limit = record { some = tt; joined = refl; fit = tt; full = tt }
pieces_are fits (x ∷ xs) limit = record {
  some = cut_some fits x [] xs;
  joined = cut_joined fits (x ∷ []) xs;
  fit = cut_fit fits x [] xs limit (limit.one x);
  full = cut_full fits x [] xs;
}

-- what fits together is not cut
grow : {A : Type 0} (fits : List A → Bool) (x : A) (p q rest : List A) → IsLimit fits → fits (x ∷ (p ++ q)) ≡ true → cut_from fits (x ∷ p) (q ++ rest) ≡ cut_from fits (x ∷ (p ++ q)) rest
unfolding cut_from
grow {A} fits x p [] rest limit fit = ap (λ (z : List A). cut_from fits (x ∷ z) rest) (sym (append-nil p))
grow {A} fits x p (z ∷ q) rest limit fit =
    let same : (p ++ z ∷ []) ++ q ≡ p ++ z ∷ q = append_assoc p (z ∷ []) q in
    let all : fits (x ∷ ((p ++ z ∷ []) ++ q)) ≡ true = ap (λ (w : List A). fits (x ∷ w)) same ∙ fit in
    let t : fits (x ∷ (p ++ z ∷ [])) ≡ true = limit.front x (p ++ z ∷ []) q all in
    rw t (grow fits x (p ++ z ∷ []) q rest limit all ∙ ap (λ (w : List A). cut_from fits (x ∷ w) rest) same)

-- a piece that is full ends before the next
only : {A : Type 0} (fits : List A → Bool) (x : A) (p : List A) (ps : List (List A)) → IsLimit fits → IsFull fits (x ∷ p) ps → AllByRecursion (λ q. 0 < length q) ps → AllByRecursion (λ q. fits q ≡ true) ps → AllFull fits ps → cut_from fits (x ∷ p) (join ps) ≡ (x ∷ p) ∷ ps
unfolding cut_from
only fits x p [] limit here some fit full = refl
only fits x p ([] ∷ ps) limit here some fit full = absurd (omega (arith, some.0))
only {A} fits x p ((y ∷ q) ∷ ps) limit here some fit full =
    rw here (ap (λ (z : List (List A)). (x ∷ p) ∷ z) (grow fits y [] q (join ps) limit fit.0 ∙ only fits y q ps limit full.0 some.1 fit.1 full.1))

joined_only : {A : Type 0} (fits : List A → Bool) (ps : List (List A)) → IsLimit fits → AllByRecursion (λ q. 0 < length q) ps → AllByRecursion (λ q. fits q ≡ true) ps → AllFull fits ps → cut_by fits (join ps) ≡ ps
unfolding cut_by
joined_only fits [] limit some fit full = refl
joined_only fits ([] ∷ ps) limit some fit full = absurd (omega (arith, some.0))
joined_only fits ((x ∷ p) ∷ ps) limit some fit full = grow fits x [] p (join ps) limit fit.0 ∙ only fits x p ps limit full.0 some.1 fit.1 full.1

-- there are no other pieces
pub pieces_only : {A : Type 0} (fits : List A → Bool) (xs : List A) (ps : List (List A)) → IsLimit fits → ArePieces fits xs ps → ps ≡ cut_by fits xs
pieces_only fits xs ps limit are = sym (joined_only fits ps limit are.some are.fit are.full) ∙ ap (cut_by fits) are.joined

-- what fits is one piece
pub piece_again : {A : Type 0} (fits : List A → Bool) (x : A) (p : List A) → IsLimit fits → fits (x ∷ p) ≡ true → cut_by fits (x ∷ p) ≡ (x ∷ p) ∷ []
piece_again fits x p limit fit =
    sym (pieces_only fits (x ∷ p) ((x ∷ p) ∷ []) limit (record { some = (omega arith, tt); joined = append-nil (x ∷ p); fit = (fit, tt); full = (tt, tt) }))
