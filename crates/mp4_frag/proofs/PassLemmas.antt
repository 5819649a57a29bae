-- Trafs that are passed, child by child.
use Rattle.std.proofs.Common.{◌≡◌, ◌≢◌, ◌∙◌, ◌+◌, ◌-◌, ◌<◌, ◌≤◌, ◌==◌, ◌&&◌, ◌||◌, ℕ, zero, suc, Bool, true, false, cond, List, [], ◌∷◌, ◌++◌, length, take, drop, Option, refl, sym, ap, arith, append-nil, append_assoc, length-append}
use Rattle.std.specs.Prelude.{replicate}
use Rattle.std.specs.List.{list_any}
use Rattle.std.proofs.lemmas.Bool.Decides.{nat_tests}
use Rattle.std.proofs.lemmas.List.{take_all}
use Rattle.std.specs.Str.{bytes_eq}
use Rattle.mp4_box.specs.declared.rules.Fault.{Fault}
use Rattle.mp4_box.specs.declared.rules.Rule.TheVariants.{Unsupported}
use Rattle.mp4_box.specs.Trees.{Box, children}
use Rattle.mp4_box.specs.Order.{least_from}
use Rattle.mp4_box.specs.Paths.{of_kind}
use Rattle.mp4_box.proofs.OrderLemmas.{least_from_append}
use Rattle.mp4_init.specs.OrderedIds.{sought}
use Rattle.mp4_traf.specs.Kinds.{traf}
use Rattle.mp4_traf.specs.Rules.{fault_if}
use Rattle.mp4_frag.specs.Repeats.{traf_id, is_listed, is_repeat, lacks_time, repeat_faults, repeats, trafs_before, trafs_of, untimed_ids}
use Rattle.mp4_frag.specs.Implementation.AtOnce.{IsCount, most_64}
use Rattle.mp4_frag.specs.Implementation.RepeatMarks.{marked_at, all_marked, marks}

abbrev pub trafs : List Box → List Box
trafs bs = of_kind traf bs

-- ---- lists

trafs-append : (xs ys : List Box) → trafs (xs ++ ys) ≡ trafs xs ++ trafs ys
trafs-append [] ys = refl
trafs-append (x ∷ xs) ys = by (bytes_eq x.header.kind.0 traf.0) (trafs-append xs ys)
  where
    by : (t : Bool) → trafs (xs ++ ys) ≡ trafs xs ++ trafs ys → cond t (x ∷ trafs (xs ++ ys)) (trafs (xs ++ ys)) ≡ cond t (x ∷ trafs xs) (trafs xs) ++ trafs ys
    by true e = ap (λ (zs : List Box). x ∷ zs) e
    by false e = e

-- the first of some is one of them
trafs-first : (x : Box) (xs : List Box) → trafs (x ∷ xs) ≡ trafs (x ∷ []) ++ trafs xs
trafs-first x xs = trafs-append (x ∷ []) xs

take_first : (n : ℕ) (x : Box) (xs : List Box) → n ≢ 0 → take n (x ∷ xs) ≡ x ∷ take (n - 1) xs
take_first zero x xs h = absurd (h refl)
take_first (suc n) x xs h = let e : n ≡ suc n - 1 = omega arith in ap (λ (m : ℕ). x ∷ take m xs) e

rest_more : (xs : List Box) (n : ℕ) (c : Box) (ys : List Box) → drop n xs ≡ c ∷ ys → drop (suc n) xs ≡ ys
rest_more [] zero c ys e = absurd cc
rest_more [] (suc n) c ys e = absurd cc
rest_more (x ∷ xs) zero c ys e = cc
rest_more (x ∷ xs) (suc n) c ys e = rest_more xs n c ys e

take_more : (xs : List Box) (n : ℕ) (c : Box) (ys : List Box) → drop n xs ≡ c ∷ ys → take (suc n) xs ≡ take n xs ++ c ∷ []
take_more [] zero c ys e = absurd cc
take_more [] (suc n) c ys e = absurd cc
take_more (x ∷ xs) zero c ys e = let f : x ≡ c = cc in ap (λ (b : Box). b ∷ []) f
take_more (x ∷ xs) (suc n) c ys e = ap (λ (zs : List Box). x ∷ zs) (take_more xs n c ys e)

-- ---- marks

marked-append : (ids : List ℕ) (seen : List Bool) (xs ys : List Box) → all_marked ids seen (xs ++ ys) ≡ all_marked ids (all_marked ids seen xs) ys
unfolding all_marked
marked-append ids seen [] ys = refl
marked-append ids seen (x ∷ xs) ys = marked-append ids (marked_at seen (sought ids (traf_id x))) xs ys

pub listed-append : (id : ℕ) (xs ys : List Box) → is_listed id (xs ++ ys) ≡ cond (is_listed id xs) true (is_listed id ys)
unfolding is_listed
listed-append id [] ys = refl
listed-append id (x ∷ xs) ys = by (traf_id x == id) (listed-append id xs ys)
  where
    by : (t : Bool) → is_listed id (xs ++ ys) ≡ cond (is_listed id xs) true (is_listed id ys) → cond t true (is_listed id (xs ++ ys)) ≡ cond (cond t true (is_listed id xs)) true (is_listed id ys)
    by true e = refl
    by false e = e

pub marked_next : (ids : List ℕ) (seen : List Bool) (n : ℕ) (x : Box) (xs : List Box) → n ≢ 0
    → all_marked ids seen (trafs (take n (x ∷ xs))) ≡ all_marked ids (all_marked ids seen (trafs (x ∷ []))) (trafs (take (n - 1) xs))
marked_next ids seen n x xs h =
    ap (λ (bs : List Box). all_marked ids seen (trafs bs)) (take_first n x xs h)
    ∙ ap (all_marked ids seen) (trafs-first x (take (n - 1) xs))
    ∙ marked-append ids seen (trafs (x ∷ [])) (trafs (take (n - 1) xs))

pub listed_next : (id n : ℕ) (x : Box) (xs : List Box) → n ≢ 0
    → is_listed id (trafs (take n (x ∷ xs))) ≡ cond (is_listed id (trafs (x ∷ []))) true (is_listed id (trafs (take (n - 1) xs)))
listed_next id n x xs h =
    ap (λ (bs : List Box). is_listed id (trafs bs)) (take_first n x xs h)
    ∙ ap (is_listed id) (trafs-first x (take (n - 1) xs))
    ∙ listed-append id (trafs (x ∷ [])) (trafs (take (n - 1) xs))

pub marked_none : (ids : List ℕ) (seen : List Bool) → all_marked ids seen [] ≡ seen
unfolding all_marked
marked_none ids seen = refl

-- however many were to be passed
pub marked_none_left : (ids : List ℕ) (seen : List Bool) (left : ℕ) → all_marked ids seen (trafs (take left [])) ≡ seen
unfolding all_marked
marked_none_left ids seen zero = refl
marked_none_left ids seen (suc left) = refl

pub listed_none_left : (found : Bool) (id left : ℕ) → cond found true (is_listed id (trafs (take left []))) ≡ found
unfolding is_listed
listed_none_left true id left = refl
listed_none_left false id zero = refl
listed_none_left false id (suc left) = refl

pub listed_none : (id : ℕ) → is_listed id [] ≡ false
unfolding is_listed
listed_none id = refl

-- ---- all children

pub before_more : (n : ℕ) (m : Box) (c : Box) (ys : List Box) → drop n (children m) ≡ c ∷ ys → trafs_before (n + 1) m ≡ trafs_before n m ++ trafs (c ∷ [])
before_more n m c ys e =
    let s : n + 1 ≡ suc n = omega arith in
    ap (λ (k : ℕ). trafs (take k (children m))) s ∙ ap trafs (take_more (children m) n c ys e) ∙ trafs-append (take n (children m)) (c ∷ [])

pub after_more : (n : ℕ) (xs : List Box) (c : Box) (ys : List Box) → drop n xs ≡ c ∷ ys → ys ≡ drop (n + 1) xs
after_more n xs c ys e = let s : suc n ≡ n + 1 = omega arith in sym (rest_more xs n c ys e) ∙ ap (λ (k : ℕ). drop k xs) s

pub marks_more : (n : ℕ) (ids : List ℕ) (seen : List Bool) (ts us : List Box) → seen ≡ marks n ids ts → all_marked ids seen us ≡ marks n ids (ts ++ us)
unfolding marks
marks_more n ids seen ts us e = ap (λ (xs : List Bool). all_marked ids xs us) e ∙ sym (marked-append ids (replicate n false) ts us)

repeats-append : (earlier xs ys : List Box) → repeats earlier (xs ++ ys) ≡ repeats earlier xs ++ repeats (earlier ++ xs) ys
unfolding repeats
repeats-append earlier [] ys = ap (λ (zs : List Box). repeats zs ys) (sym (append-nil earlier))
repeats-append earlier (x ∷ xs) ys =
    ap (λ (fs : List Fault). fault_if (is_repeat earlier x) Unsupported x ++ fs) (repeats-append (earlier ++ x ∷ []) xs ys ∙ ap (λ (zs : List Box). repeats (earlier ++ x ∷ []) xs ++ repeats zs ys) (append_assoc earlier (x ∷ []) xs))
    ∙ sym (append_assoc (fault_if (is_repeat earlier x) Unsupported x) (repeats (earlier ++ x ∷ []) xs) (repeats (earlier ++ x ∷ xs) ys))

pub repeats_more : (best : Option Fault) (earlier : List Box) (c : Box) (ys : List Box)
    → least_from best (repeats earlier (trafs (c ∷ ys))) ≡ least_from (least_from best (repeats earlier (trafs (c ∷ [])))) (repeats (earlier ++ trafs (c ∷ [])) (trafs ys))
repeats_more best earlier c ys =
    ap (λ (ts : List Box). least_from best (repeats earlier ts)) (trafs-first c ys)
    ∙ ap (least_from best) (repeats-append earlier (trafs (c ∷ [])) (trafs ys))
    ∙ least_from_append best (repeats earlier (trafs (c ∷ []))) (repeats (earlier ++ trafs (c ∷ [])) (trafs ys))

pub repeats_none : (best : Option Fault) (earlier : List Box) → least_from best (repeats earlier (trafs [])) ≡ best
unfolding repeats least_from
repeats_none best earlier = refl

-- ---- those without tfdt

untimed-append : (xs ys : List Box) → untimed_ids (xs ++ ys) ≡ untimed_ids xs ++ untimed_ids ys
unfolding untimed_ids
untimed-append [] ys = refl
untimed-append (x ∷ xs) ys = by (lacks_time x) (untimed-append xs ys)
  where
    by : (t : Bool) → untimed_ids (xs ++ ys) ≡ untimed_ids xs ++ untimed_ids ys → cond t (traf_id x ∷ untimed_ids (xs ++ ys)) (untimed_ids (xs ++ ys)) ≡ cond t (traf_id x ∷ untimed_ids xs) (untimed_ids xs) ++ untimed_ids ys
    by true e = ap (λ (ids : List ℕ). traf_id x ∷ ids) e
    by false e = e

-- the first of some, and those after it
pub untimed_next : (so_far : List ℕ) (x : Box) (xs : List Box) → so_far ++ untimed_ids (trafs (x ∷ [])) ++ untimed_ids (trafs xs) ≡ so_far ++ untimed_ids (trafs (x ∷ xs))
untimed_next so_far x xs =
    append_assoc so_far (untimed_ids (trafs (x ∷ []))) (untimed_ids (trafs xs))
    ∙ ap (λ (ids : List ℕ). so_far ++ ids) (sym (untimed-append (trafs (x ∷ [])) (trafs xs)) ∙ ap untimed_ids (sym (trafs-first x xs)))

pub no_untimed : (left : ℕ) → untimed_ids (trafs (drop left [])) ≡ []
unfolding untimed_ids
no_untimed zero = refl
no_untimed (suc left) = refl

pub drop_first : (n : ℕ) (x : Box) (xs : List Box) → n ≢ 0 → drop n (x ∷ xs) ≡ drop (n - 1) xs
drop_first zero x xs h = absurd (h refl)
drop_first (suc n) x xs h = let e : n ≡ suc n - 1 = omega arith in ap (λ (m : ℕ). drop m xs) e

pub room_for_all : (n : ℕ) (xs : List ℕ) → length xs ≤ n → xs ≡ take n xs
room_for_all n xs h = sym (take_all n xs h)

pub room_for_one : (full : Bool) (k n : ℕ) → full ≡ (k == n) → full ≡ false → k ≤ n → k < n
room_for_one true k n e f h = absurd cc
room_for_one false k n e f h = grind (arith, nat_tests)

-- how many of them
abbrev pub count_of_trafs : List Box → ℕ
count_of_trafs bs = length (untimed_ids (trafs bs))

pub count_next : (x : Box) (xs : List Box) → count_of_trafs (x ∷ xs) ≡ count_of_trafs (x ∷ []) + count_of_trafs xs
count_next x xs =
    ap (λ (ts : List Box). length (untimed_ids ts)) (trafs-first x xs)
    ∙ ap (λ (ids : List ℕ). length ids) (untimed-append (trafs (x ∷ [])) (trafs xs))
    ∙ length-append (untimed_ids (trafs (x ∷ []))) (untimed_ids (trafs xs))

pub no_more : (n : ℕ) → n ≡ n + count_of_trafs []
unfolding untimed_ids
no_more n = omega arith

-- ---- if no traf lacks a tfdt, or none comes before another

pub none_lacks : (earlier ts : List Box) → list_any lacks_time ts ≡ false → repeats earlier ts ≡ []
unfolding repeats
none_lacks earlier [] e = refl
none_lacks earlier (t ∷ ts) e = by (lacks_time t) refl (none_lacks (earlier ++ t ∷ []) ts) e
  where
    by : (u : Bool) → lacks_time t ≡ u → (list_any lacks_time ts ≡ false → repeats (earlier ++ t ∷ []) ts ≡ []) → u || list_any lacks_time ts ≡ false → repeats earlier (t ∷ ts) ≡ []
    by true is later e = absurd cc
    by false is later e = ap (λ (u : Bool). fault_if (u && is_listed (traf_id t) earlier) Unsupported t ++ repeats (earlier ++ t ∷ []) ts) is ∙ later e

all_timed : (ts : List Box) → length (untimed_ids ts) ≡ 0 → list_any lacks_time ts ≡ false
unfolding untimed_ids
all_timed [] e = refl
all_timed (t ∷ ts) e = by (lacks_time t) (all_timed ts) e
  where
    by : (u : Bool) → (length (untimed_ids ts) ≡ 0 → list_any lacks_time ts ≡ false) → length (cond u (traf_id t ∷ untimed_ids ts) (untimed_ids ts)) ≡ 0 → u || list_any lacks_time ts ≡ false
    by true later e = absurd (omega (arith, e))
    by false later e = later e

-- by a count of them
pub no_traf_lacks : (ts : List Box) (n : ℕ) → IsCount most_64 0 (length (untimed_ids ts)) n → n ≡ 0 → list_any lacks_time ts ≡ false
no_traf_lacks ts n counted none = let all = counted (omega (arith, none)) in all_timed ts (omega (arith, all, none))

pub none_untimed : (m : Box) (best : Option Fault) → list_any lacks_time (trafs_of m) ≡ false → best ≡ least_from best (repeat_faults m)
unfolding least_from
none_untimed m best none = sym (ap (least_from best) (none_lacks [] (trafs_of m) none))

one_alone : (ts : List Box) → length ts < 2 → repeats [] ts ≡ []
unfolding repeats is_listed
one_alone [] h = refl
one_alone (t ∷ []) h = by (lacks_time t)
  where
    by : (u : Bool) → fault_if (u && false) Unsupported t ++ [] ≡ []
    by true = refl
    by false = refl
one_alone (t ∷ (u ∷ ts)) h = absurd (omega (arith, h))

pub none_earlier : (m : Box) (best : Option Fault) → length (trafs_of m) < 2 → best ≡ least_from best (repeat_faults m)
unfolding least_from
none_earlier m best h = sym (ap (least_from best) (one_alone (trafs_of m) h))

-- a pass over the trafs before one
pub ruleset next = (marked_next, listed_next, marked_none, listed_none)
