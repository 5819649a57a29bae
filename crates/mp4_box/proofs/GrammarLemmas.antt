-- Nothing is at fault below a box exactly where it is a tree.
use Rattle.std.proofs.Common.{◌≡◌, ℕ, zero, suc, ◌+◌, ◌-◌, ◌<◌, ◌≤◌, Bool, true, false, cond, ltb, List, [], ◌∷◌, ◌++◌, length, take, drop, Option, Some, None, refl, sym, ap, subst, ◌∙◌, append_assoc, arith, append-nil, inl, inr, ◌⊎◌}
use Rattle.std.specs.Prelude.{slice_range, IsOk, IsSome, option_map}
use Rattle.std.specs.List.{concat, flat_map, AllByRecursion}
use Rattle.std.proofs.lemmas.Bool.{ltb-false, le-ltb, cond-false}
use Rattle.std.proofs.lemmas.List.{take_at, drop_at, take-append-drop, length-append, length-take, length-drop, take_all}
use Rattle.std.proofs.Math.Seq.{take-add}
use Rattle.mp4_box.specs.declared.headers.Header.{Header}
use Rattle.mp4_box.specs.declared.headers.Size.{Size}
use Rattle.mp4_box.specs.declared.headers.Size.TheVariants.{Exact, ToEnd}
use Rattle.mp4_box.specs.declared.rules.Fault.{Fault}
use Rattle.mp4_box.specs.Headers.{IsBytes, Spells, user_bytes, header_at, HasRoom}
use Rattle.mp4_box.specs.Trees.{Box, box_len, box_at, box_by, sized_box, over, is_container, bad_rest, no_rest, bad_below, deep_below, payload_offset, verdict, boxes, tree_faults, faults_of}
use Rattle.mp4_box.specs.declared.headers.Step.{Step}
use Rattle.mp4_box.specs.declared.headers.Step.TheVariants as steps
use Rattle.mp4_box.specs.Headers.{IsBox, IsWhole}
use Rattle.mp4_box.specs.Grammar.{IsTree, AreBoxes, NoBox}
use Rattle.mp4_box.proofs.HeaderLemmas.{IsBytes-take, IsBytes-drop, read_is, read_again, whole_is, need-least, bool_is}
use Rattle.mp4_box.proofs.TreeLemmas.{over-box, over-none, over-end, bad-leaf, deep-leaf, bad-step, deep-step}

abbrev pub mk : Header → ℕ → List ℕ → Box
mk h o p = record { header = h; offset = o; payload = p }

-- the parts of a box at the front of the bytes
pub record LiesAt (o : ℕ) (x : List ℕ) (b : Box) : Type 0 where
  pub box : IsBox b.header b.payload (take (box_len b) x)
  pub low : 8 ≤ box_len b
  pub high : box_len b ≤ length x
  pub place : b.offset ≡ o
  pub bytes : IsBytes b.payload

some_is : (a b : Box) → Some a ≡ Some b → a ≡ b
some_is a b e = cc

pub cond_some : (t : Bool) (a b : Box) → cond t None (Some a) ≡ Some b → (t ≡ false) × (a ≡ b)
cond_some true a b e = absurd cc
cond_some false a b e = (refl, cc)

-- a header that is spelled has room for itself
room_by : (size : Size) (kind user x : List ℕ) (n : ℕ) → n ≡ length x → Spells size kind user x → HasRoom size n
room_by (Exact s) kind user x n e (inl h) = omega (arith, e, h.1)
room_by (Exact s) kind user x n e (inr h) = omega (arith, e, h.1)
room_by ToEnd kind user x n e h = tt

sized_lies : (o : ℕ) (x : List ℕ) (h : Header) (size : Size) (b : Box) → IsBytes x → h.size ≡ size → header_at x ≡ steps.Whole h → sized_box o x h size ≡ Some b → LiesAt o x b
sized_lies o x h ToEnd b fits is e s = absurd cc
sized_lies o x h (Exact n) b fits is e s =
    let t = cond_some (ltb (length x) n) (mk h o (slice_range x h.header_len n)) b s in
    let enough : n ≤ length x = ltb-false _ _ t.0 in
    let w = whole_is x h e in
    let least = need-least x in
    let spelled = read_is x h fits e in
    let room : h.header_len ≤ n = subst (λ (z : Size). HasRoom z h.header_len) is (room_by h.size h.kind.0 (user_bytes h.user) (take h.header_len x) h.header_len spelled.header_len spelled.spelled) in
    let p = slice_range x h.header_len n in
    let len : length p ≡ n - h.header_len = length-take (n - h.header_len) (drop h.header_len x) ∙ omega (arith, length-drop h.header_len x) in
    let all : h.header_len + length p ≡ n = omega (arith, len, room) in
    let split : take (h.header_len + length p) x ≡ take h.header_len x ++ p = take-add h.header_len (length p) x ∙ ap (λ (k : ℕ). take h.header_len x ++ take k (drop h.header_len x)) len in
    subst (LiesAt o x) t.1 (record {
      box = record {
        header_bytes = take h.header_len x;
        spelled = spelled;
        whole = split;
        size = is ∙ ap Exact (sym all ∙ omega (arith, length-take (h.header_len + length p) x));
      };
      low = omega (arith, w.1, all, room);
      high = omega (arith, all);
      place = refl;
      bytes = IsBytes-take (n - h.header_len) (drop h.header_len x) (IsBytes-drop h.header_len x fits);
    })

by_lies : (o : ℕ) (x : List ℕ) (r : Step) (b : Box) → IsBytes x → header_at x ≡ r → box_by o x r ≡ Some b → LiesAt o x b
by_lies o x (steps.Whole h) b fits e s = sized_lies o x h h.size b fits refl e s
by_lies o x steps.More b fits e s = absurd cc
by_lies o x steps.BadSize b fits e s = absurd cc

pub lies_at : (o : ℕ) (x : List ℕ) (b : Box) → IsBytes x → box_at o x ≡ Some b → LiesAt o x b
unfolding box_at
lies_at o x b fits e = by_lies o x (header_at x) b fits refl e

-- a box is found, whatever follows
pub found : (h : Header) (p x rest : List ℕ) (o : ℕ) → IsBox h p x → (box_at o (x ++ rest) ≡ Some (mk h o p)) × (box_len (mk h o p) ≡ length x)
unfolding box_at
found h p x rest o b =
    let y = x ++ rest in
    let same : y ≡ b.header_bytes ++ (p ++ rest) = ap (λ (z : List ℕ). z ++ rest) b.whole ∙ append_assoc b.header_bytes p rest in
    let read : header_at y ≡ steps.Whole h = ap header_at same ∙ read_again h b.header_bytes (p ++ rest) b.spelled in
    let n : ℕ = length x in
    let lens : n ≡ h.header_len + length p = omega (arith, ap length b.whole, length-append b.header_bytes p, b.spelled.header_len) in
    let t : ltb (length y) n ≡ false = le-ltb _ _ (omega (arith, length-append x rest)) in
    let cut : slice_range y h.header_len n ≡ p =
    ap (λ (z : List ℕ). take (n - h.header_len) (drop h.header_len z)) same
    ∙ (ap (take (n - h.header_len)) (drop_at b.header_bytes (p ++ rest) h.header_len (sym b.spelled.header_len))
    ∙ take_at p rest (n - h.header_len) (omega (arith, lens))) in (
      ap (box_by o y) read ∙ (ap (sized_box o y h) b.size ∙ (cond-false {A = Option Box} (ltb (length y) n) None (Some (mk h o (slice_range y h.header_len n))) t ∙ ap (λ (z : List ℕ). Some (mk h o z)) cut)),
      sym lens,
    )

-- ---- nothing at fault: a tree

no_fault : (xs ys : List Fault) → xs ++ ys ≡ [] → (xs ≡ []) × (ys ≡ [])
no_fault [] ys e = (refl, e)
no_fault (x ∷ xs) ys e = absurd cc

-- the trees that the bytes are the join of
abbrev pub Joined : ℕ → List ℕ → Type 0
Joined n x = (xs : List (List ℕ)) × (concat xs ≡ x) × AllByRecursion (IsTree n) xs

abbrev Sound : ℕ → Type 0
Sound n = (o : ℕ) (x : List ℕ) (b : Box) → IsBytes x → box_at o x ≡ Some b → bad_below n b ≡ [] → deep_below n b ≡ [] → IsTree n (take (box_len b) x)

pub option_is : (o : Option Box) → (o ≡ None) ⊎ ((b : Box) × (o ≡ Some b))
option_is None = inl refl
option_is (Some b) = inr (b, refl)

joined : (n : ℕ) (p : Sound n) (fuel : ℕ) (x : List ℕ) (o : ℕ) → length x ≤ fuel → IsBytes x → over (bad_below n) bad_rest x 0 o ≡ [] → over (deep_below n) no_rest x 0 o ≡ [] → Joined n x
joined n p fuel [] o h fits bad deep = ([], refl, tt)
joined n p zero (a ∷ xs) o h fits bad deep = absurd (omega arith)
joined n p (suc fuel) (a ∷ xs) o h fits bad deep =
    let x : List ℕ = a ∷ xs in
    elim (option_is (box_at o x)) [
      | inl none ↦ let e = sym (over-none (bad_below n) bad_rest x o none (omega arith)) ∙ bad in absurd cc
      | inr some ↦
          let b = some.0 in
          let s = lies_at o x b fits some.1 in
          let bads = no_fault (bad_below n b) _ (sym (over-box (bad_below n) bad_rest x o b some.1 (omega (arith, s.low)) s.high) ∙ bad) in
          let deeps = no_fault (deep_below n b) _ (sym (over-box (deep_below n) no_rest x o b some.1 (omega (arith, s.low)) s.high) ∙ deep) in
          let rest = joined n p fuel (drop (box_len b) x) (o + box_len b) (omega (arith, length-drop (box_len b) x, s.low)) (IsBytes-drop (box_len b) x fits) bads.1 deeps.1 in
          (take (box_len b) x ∷ rest.0, ap (λ (z : List ℕ). take (box_len b) x ++ z) rest.1 ∙ take-append-drop (box_len b) x, (p o x b fits some.1 bads.0 deeps.0, rest.2))
    ]

sound : (n : ℕ) → Sound n
unfolding IsTree bad_below deep_below
sound zero o x b fits e bad deep = absurd cc
sound (suc n) o x b fits e bad deep =
    let s = lies_at o x b fits e in (
      b.header,
      b.payload,
      s.box,
      λ yes.
          joined n (sound n) (length b.payload) b.payload (payload_offset b) (omega arith) s.bytes
          (sym (bad-step (suc n) b (omega arith) yes ∙ ap (λ (k : ℕ). over (bad_below k) bad_rest b.payload 0 (payload_offset b)) (omega arith)) ∙ bad)
          (sym (deep-step (suc n) b (omega arith) yes ∙ ap (λ (k : ℕ). over (deep_below k) no_rest b.payload 0 (payload_offset b)) (omega arith)) ∙ deep),
    )

-- ---- a tree: nothing at fault

abbrev Clean : ℕ → Type 0
Clean n = (x rest : List ℕ) (o : ℕ) → IsTree n x → (b : Box) × (box_at o (x ++ rest) ≡ Some b) × (box_len b ≡ length x) × (8 ≤ length x) × (bad_below n b ≡ []) × (deep_below n b ≡ [])

clean_join : (n : ℕ) (q : Clean n) (xs : List (List ℕ)) (o : ℕ) → AllByRecursion (IsTree n) xs → (over (bad_below n) bad_rest (concat xs) 0 o ≡ []) × (over (deep_below n) no_rest (concat xs) 0 o ≡ [])
clean_join n q [] o all = (over-end (bad_below n) bad_rest [] o refl, over-end (deep_below n) no_rest [] o refl)
clean_join n q (x ∷ xs) o all =
    let rest = concat xs in
    let t = q x rest o all.0 in
    let b = t.0 in
    let back : drop (box_len b) (x ++ rest) ≡ rest = drop_at x rest (box_len b) (sym t.2) in
    let high : box_len b ≤ length (x ++ rest) = omega (arith, length-append x rest, t.2) in
    let low : 1 ≤ box_len b = omega (arith, t.2, t.3) in
    let more = clean_join n q xs (o + box_len b) all.1 in (
      over-box (bad_below n) bad_rest (x ++ rest) o b t.1 low high ∙ (ap (λ (fs : List Fault). fs ++ over (bad_below n) bad_rest (drop (box_len b) (x ++ rest)) 0 (o + box_len b)) t.4 ∙ (ap (λ (z : List ℕ). over (bad_below n) bad_rest z 0 (o + box_len b)) back ∙ more.0)),
      over-box (deep_below n) no_rest (x ++ rest) o b t.1 low high ∙ (ap (λ (fs : List Fault). fs ++ over (deep_below n) no_rest (drop (box_len b) (x ++ rest)) 0 (o + box_len b)) t.5 ∙ (ap (λ (z : List ℕ). over (deep_below n) no_rest z 0 (o + box_len b)) back ∙ more.1)),
    )

-- a box is as long as its header at least
box_long : (h : Header) (p x : List ℕ) → IsBox h p x → 8 ≤ length x
box_long h p x b =
    let w = whole_is b.header_bytes h (ap header_at (sym (append-nil b.header_bytes)) ∙ read_again h b.header_bytes [] b.spelled) in
    omega (arith, w.0, need-least b.header_bytes, ap length b.whole, length-append b.header_bytes p)

clean : (n : ℕ) → Clean n
unfolding IsTree
clean zero x rest o t = absurd t
clean (suc n) x rest o t =
    let h = t.0 in
    let p = t.1 in
    let f = found h p x rest o t.2 in
    let b = mk h o p in
    let long = box_long h p x t.2 in
    elim (bool_is (is_container h.kind.0)) [
      | inl holds ↦
          let j = t.3 holds in
          let c = clean_join n (clean n) j.0 (payload_offset b) j.2 in (
            b,
            f.0,
            f.1,
            long,
            bad-step (suc n) b (omega arith) holds ∙ (ap (λ (k : ℕ). over (bad_below k) bad_rest p 0 (payload_offset b)) (omega arith) ∙ (ap (λ (z : List ℕ). over (bad_below n) bad_rest z 0 (payload_offset b)) (sym j.1) ∙ c.0)),
            deep-step (suc n) b (omega arith) holds ∙ (ap (λ (k : ℕ). over (deep_below k) no_rest p 0 (payload_offset b)) (omega arith) ∙ (ap (λ (z : List ℕ). over (deep_below n) no_rest z 0 (payload_offset b)) (sym j.1) ∙ c.1)),
          )
      | inr leaf ↦ (b, f.0, f.1, long, bad-leaf (suc n) b leaf, deep-leaf (suc n) b (omega arith) leaf)
    ]

verdict_ok : (fs : List Fault) → IsOk (verdict fs) → fs ≡ []
verdict_ok [] e = refl
verdict_ok (f ∷ fs) e = absurd cc

-- the tree of a whole box
pub tree_law : (o : ℕ) (x : List ℕ) → IsBytes x → IsWhole x → (IsOk (verdict (tree_faults o x)) → IsTree 8 x) × (IsTree 8 x → IsOk (verdict (tree_faults o x)))
tree_law o x fits w =
    let f = found w.0 w.1 x [] o w.2 in
    let b = mk w.0 o w.1 in
    let at : box_at o x ≡ Some b = ap (box_at o) (sym (append-nil x)) ∙ f.0 in
    let faults : tree_faults o x ≡ bad_below 8 b ++ deep_below 8 b = ap faults_of at in (
      λ ok.
          let none = no_fault (bad_below 8 b) (deep_below 8 b) (sym faults ∙ verdict_ok _ ok) in
          subst (IsTree 8) (take_all (box_len b) x (omega (arith, f.1))) (sound 8 o x b fits at none.0 none.1),
      λ t.
          let c = clean 8 x [] o t in
          let same : c.0 ≡ b = some_is c.0 b (sym c.1 ∙ f.0) in
          let none : tree_faults o x ≡ [] = faults ∙ (ap (λ (z : Box). bad_below 8 z ++ deep_below 8 z) (sym same) ∙ (ap (λ (fs : List Fault). fs ++ deep_below 8 c.0) c.4 ∙ c.5)) in
          rw none refl,
    )

-- ---- the boxes of a payload

-- boxes that are joined are found, whatever follows
pub found_all : {R : Type 0} (f : Box → List R) (g : ℕ → List ℕ → List R) (xs : List (List ℕ)) (y : List ℕ) (o : ℕ) → AllByRecursion IsWhole xs
    → (bs : List Box) × AreBoxes o xs bs × (over f g (concat xs ++ y) 0 o ≡ flat_map f bs ++ over f g y 0 (o + length (concat xs)))
unfolding AreBoxes
found_all f g [] y o all = ([], tt, ap (λ (n : ℕ). over f g y 0 n) (omega arith))
found_all {R} f g (x ∷ xs) y o all =
    let h = all.0.0 in
    let p = all.0.1 in
    let rest = concat xs ++ y in
    let e = found h p x rest o all.0.2 in
    let b = mk h o p in
    let same : concat (x ∷ xs) ++ y ≡ x ++ rest = append_assoc x (concat xs) y in
    let back : drop (box_len b) (x ++ rest) ≡ rest = drop_at x rest (box_len b) (sym e.1) in
    let high : box_len b ≤ length (x ++ rest) = omega (arith, length-append x rest, e.1) in
    let low : 1 ≤ box_len b = omega (arith, e.1, box_long h p x all.0.2) in
    let more = found_all f g xs y (o + length x) all.1 in
    let ends : (o + length x) + length (concat xs) ≡ o + length (x ++ concat xs) = omega (arith, length-append x (concat xs)) in (
      b ∷ more.0,
      (all.0.2, refl, more.1),
      ap (λ (z : List ℕ). over f g z 0 o) same
          ∙ (over-box f g (x ++ rest) o b e.0 low high
          ∙ (ap (λ (z : List ℕ). f b ++ over f g z 0 (o + box_len b)) back
          ∙ (ap (λ (n : ℕ). f b ++ over f g rest 0 (o + n)) e.1
          ∙ (ap (λ (rs : List R). f b ++ rs) (more.2 ∙ ap (λ (n : ℕ). flat_map f more.0 ++ over f g y 0 n) ends)
          ∙ sym (append_assoc (f b) (flat_map f more.0) (over f g y 0 (o + length (x ++ concat xs)))))))),
    )

each_is : (bs : List Box) → flat_map (λ b. b ∷ []) bs ≡ bs
each_is [] = refl
each_is (b ∷ bs) = ap (λ (cs : List Box). b ∷ cs) (each_is bs)

-- the children of a payload that is a join of boxes are these boxes
pub children_are : (xs : List (List ℕ)) (o : ℕ) → AllByRecursion IsWhole xs → AreBoxes o xs (boxes o (concat xs))
children_are xs o all =
    let f = found_all (λ b. b ∷ []) (λ _ _. []) xs [] o all in
    let is : boxes o (concat xs) ≡ f.0 =
    ap (boxes o) (sym (append-nil (concat xs))) ∙ (f.2 ∙ (ap (λ (bs : List Box). flat_map (λ b. b ∷ []) f.0 ++ bs) (over-end (λ b. b ∷ []) (λ _ _. []) [] (o + length (concat xs)) refl) ∙ (append-nil _ ∙ each_is f.0))) in
    subst (AreBoxes o xs) (sym is) f.1

-- if no box is found there is none, and if there is none no box is found
pub none_lies : (o : ℕ) (y : List ℕ) → IsBytes y → (box_at o y ≡ None → NoBox y) × (NoBox y → box_at o y ≡ None)
none_lies o y fits = (
  λ e n w.
      let f = found w.0 w.1 (take n y) (drop n y) o w.2 in
      let at : box_at o y ≡ Some (mk w.0 o w.1) = ap (box_at o) (sym (take-append-drop n y)) ∙ f.0 in
      absurd cc,
  λ no. elim (option_is (box_at o y)) [
    | inl none ↦ none
    | inr some ↦ let s = lies_at o y some.0 fits some.1 in absurd (no (box_len some.0) (some.0.header, some.0.payload, s.box))
  ],
)

-- bytes that are a box begin with it
pub whole_found : (o : ℕ) (x : List ℕ) → IsWhole x → box_at o x ≡ None → ⊥
whole_found o x w e =
    let f = found w.0 w.1 x [] o w.2 in
    let at : box_at o x ≡ Some (mk w.0 o w.1) = ap (box_at o) (sym (append-nil x)) ∙ f.0 in
    absurd cc

-- and whatever shows the box that they begin with is there
pub whole_some : {X : Type 0} (f : X → Box) (o : ℕ) (x : List ℕ) (r : Option X) → IsWhole x → option_map f r ≡ box_at o x → IsSome r
whole_some f o x None w e = absurd (whole_found o x w (sym e))
whole_some f o x (Some r) w e = refl

-- a box that takes all of the bytes
pub is_whole : (x : List ℕ) (b : Box) → IsBytes x → box_at 0 x ≡ Some b → box_len b ≡ length x → IsWhole x
is_whole x b fits e all =
    let s = lies_at 0 x b fits e in
    (b.header, b.payload, subst (IsBox b.header b.payload) (take_all (box_len b) x (omega (arith, all))) s.box)

-- bytes that are a box are all of it
pub whole_len : (o : ℕ) (x : List ℕ) (b : Box) → IsWhole x → box_at o x ≡ Some b → box_len b ≡ length x
whole_len o x b w e =
    let f = found w.0 w.1 x [] o w.2 in
    let same : mk w.0 o w.1 ≡ b = some_is (mk w.0 o w.1) b (sym f.0 ∙ ap (box_at o) (append-nil x) ∙ e) in
    ap box_len (sym same) ∙ f.1

-- ---- bytes are boxes and a rest

-- the boxes and the rest of some bytes
pub Split : List ℕ → Type 0
Split x = (xs : List (List ℕ)) × (y : List ℕ) × (concat xs ++ y ≡ x) × AllByRecursion IsWhole xs × ((y ≡ []) ⊎ ((0 < length y) × NoBox y))

split_of : (fuel : ℕ) (x : List ℕ) → length x ≤ fuel → IsBytes x → Split x
unfolding Split
split_of fuel [] h fits = ([], [], refl, tt, inl refl)
split_of zero (a ∷ xs) h fits = absurd (omega arith)
split_of (suc fuel) (a ∷ xs) h fits =
    let x : List ℕ = a ∷ xs in
    elim (option_is (box_at 0 x)) [
      | inl none ↦ ([], x, refl, tt, inr (omega arith, (none_lies 0 x fits).0 none))
      | inr some ↦
          let b = some.0 in
          let s = lies_at 0 x b fits some.1 in
          let rest = split_of fuel (drop (box_len b) x) (omega (arith, length-drop (box_len b) x, s.low)) (IsBytes-drop (box_len b) x fits) in (
            take (box_len b) x ∷ rest.0,
            rest.1,
            append_assoc (take (box_len b) x) (concat rest.0) rest.1 ∙ (ap (λ (z : List ℕ). take (box_len b) x ++ z) rest.2 ∙ take-append-drop (box_len b) x),
            ((b.header, b.payload, s.box), rest.3),
            rest.4,
          )
    ]

pub split_all : (x : List ℕ) → IsBytes x → (xs : List (List ℕ)) × (y : List ℕ) × (concat xs ++ y ≡ x) × AllByRecursion IsWhole xs × ((y ≡ []) ⊎ ((0 < length y) × NoBox y))
unfolding Split
split_all x fits = split_of (length x) x (omega arith) fits

pub gone_over_whole : {R : Type 0} (f : Box → List R) (g : ℕ → List ℕ → List R) (xs : List (List ℕ)) (o : ℕ) → AllByRecursion IsWhole xs
    → (bs : List Box) × AreBoxes o xs bs × (over f g (concat xs) 0 o ≡ flat_map f bs)
gone_over_whole {R} f g xs o all =
    let p = found_all f g xs [] o all in (
      p.0,
      p.1,
      ap (λ (z : List ℕ). over f g z 0 o) (sym (append-nil (concat xs))) ∙ (p.2 ∙ (ap (λ (rs : List R). flat_map f p.0 ++ rs) (over-end f g [] (o + length (concat xs)) refl) ∙ append-nil (flat_map f p.0))),
    )

pub gone_over_rest : {R : Type 0} (f : Box → List R) (g : ℕ → List ℕ → List R) (xs : List (List ℕ)) (y : List ℕ) (o : ℕ) → AllByRecursion IsWhole xs → IsBytes y → 0 < length y → NoBox y
    → (bs : List Box) × AreBoxes o xs bs × (over f g (concat xs ++ y) 0 o ≡ flat_map f bs ++ g (o + length (concat xs)) y)
gone_over_rest {R} f g xs y o all fits long none =
    let p = found_all f g xs y o all in
    let at = o + length (concat xs) in
    (p.0, p.1, p.2 ∙ ap (λ (rs : List R). flat_map f p.0 ++ rs) (over-none f g y at ((none_lies at y fits).1 none) long))
