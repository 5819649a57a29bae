-- What the summary of a track_ID says of the rules.
use Rattle.std.proofs.Common.{◌≡◌, ◌∙◌, ◌≤◌, ◌<◌, ℕ, suc, Bool, true, false, cond, not, List, [], ◌∷◌, length, Some, None, refl, sym, ap, arith, ltb, ◌==◌, ◌-◌, ◌^◌}
use Rattle.std.proofs.lemmas.Bool.Decides.{nat_tests}
use Rattle.mp4_box.specs.Trees.{Box, first_of}
use Rattle.mp4_box.specs.Paths.{at_path}
use Rattle.mp4_init.specs.declared.summary.Defaults.{Defaults}
use Rattle.mp4_init.specs.declared.summary.Summary.{Summary}
use Rattle.mp4_init.specs.declared.summary.Source.TheVariants.{Tkhd, Trex}
use Rattle.mp4_init.specs.Kinds.{to_tkhd, to_trex}
use Rattle.mp4_init.specs.Fields.{tkhd_id, trex_id}
use Rattle.mp4_init.specs.Rules.{with_id, before, is_known, tkhds_of, trexes_of}
use Rattle.mp4_init.specs.Tracks.{defaults_of}
use Rattle.mp4_init.specs.Implementation.Summaries.{empty_summary, added, gathered, summary_in}

abbrev with_all : ℕ → ℕ → Defaults → Summary
with_all first trexes defaults = record { first = first; trexes = trexes; defaults = defaults }

-- tkhds change the offset alone
tkhds_keep : (id : ℕ) (s : Summary) (bs : List Box) → gathered Tkhd id s bs ≡ record s { first = (gathered Tkhd id s bs).first }
unfolding gathered
tkhds_keep id s [] = refl
tkhds_keep id s (b ∷ bs) = by (tkhd_id b == id) (tkhds_keep id (added Tkhd s b) bs) (tkhds_keep id s bs)
  where
    by : (t : Bool) → gathered Tkhd id (added Tkhd s b) bs ≡ record s { first = (gathered Tkhd id (added Tkhd s b) bs).first } → gathered Tkhd id s bs ≡ record s { first = (gathered Tkhd id s bs).first }
        → gathered Tkhd id (cond t (added Tkhd s b) s) bs ≡ record s { first = (gathered Tkhd id (cond t (added Tkhd s b) s) bs).first }
    by true e f = e
    by false e f = f

lesser : (a s o : ℕ) → ltb (cond (ltb a s) a s) o ≡ cond (ltb s o) true (ltb a o)
lesser a s o = grind (arith, nat_tests)

some_test : (n : ℕ) → (suc n == 0) ≡ false
some_test n = grind (arith, nat_tests)

-- one more may begin before the offset
one_before : (t u : Bool) (b : Box) (bs : List Box) → cond (cond u true t) true (not (length bs == 0)) ≡ cond u true (not (length (cond t (b ∷ bs) bs) == 0))
one_before true true b bs = refl
one_before true false b bs = sym (ap not (some_test (length bs)))
one_before false true b bs = refl
one_before false false b bs = refl

-- the offset that is kept is less than another where that of a tkhd is
first_before : (id o : ℕ) (s : Summary) (bs : List Box) → ltb (gathered Tkhd id s bs).first o ≡ cond (ltb s.first o) true (not (length (before o (with_id tkhd_id id bs)) == 0))
unfolding gathered
first_before id o s [] = by (ltb s.first o)
  where
    by : (t : Bool) → t ≡ cond t true false
    by true = refl
    by false = refl
first_before id o s (b ∷ bs) = by (tkhd_id b == id) (first_before id o (added Tkhd s b) bs) (first_before id o s bs)
  where
    by : (t : Bool)
        → ltb (gathered Tkhd id (added Tkhd s b) bs).first o ≡ cond (ltb (added Tkhd s b).first o) true (not (length (before o (with_id tkhd_id id bs)) == 0))
        → ltb (gathered Tkhd id s bs).first o ≡ cond (ltb s.first o) true (not (length (before o (with_id tkhd_id id bs)) == 0))
        → ltb (gathered Tkhd id (cond t (added Tkhd s b) s) bs).first o ≡ cond (ltb s.first o) true (not (length (before o (cond t (b ∷ with_id tkhd_id id bs) (with_id tkhd_id id bs))) == 0))
    by true e f =
        e ∙ ap (λ (t : Bool). cond t true (not (length (before o (with_id tkhd_id id bs)) == 0))) (lesser b.offset s.first o)
        ∙ one_before (ltb b.offset o) (ltb s.first o) b (before o (with_id tkhd_id id bs))
    by false e f = f

-- trexes: more than one, one, none so far
two : (id first : ℕ) (d : Defaults) (bs : List Box) → gathered Trex id (with_all first 2 d) bs ≡ with_all first 2 d
unfolding gathered
two id first d [] = refl
two id first d (b ∷ bs) = by (trex_id b == id) (two id first d bs)
  where
    by : (t : Bool) → gathered Trex id (with_all first 2 d) bs ≡ with_all first 2 d → gathered Trex id (cond t (with_all first 2 d) (with_all first 2 d)) bs ≡ with_all first 2 d
    by true e = e
    by false e = e

-- how many there are of a list: none, one, or more
abbrev few : List Box → ℕ
few [] = 0
few (b ∷ []) = 1
few (b ∷ (c ∷ bs)) = 2

abbrev after_one : List Box → ℕ
after_one [] = 1
after_one (b ∷ bs) = 2

one : (id first : ℕ) (d : Defaults) (bs : List Box) → gathered Trex id (with_all first 1 d) bs ≡ with_all first (after_one (with_id trex_id id bs)) d
unfolding gathered
one id first d [] = refl
one id first d (b ∷ bs) = by (trex_id b == id) (one id first d bs)
  where
    by : (t : Bool) → gathered Trex id (with_all first 1 d) bs ≡ with_all first (after_one (with_id trex_id id bs)) d
        → gathered Trex id (cond t (with_all first 2 d) (with_all first 1 d)) bs ≡ with_all first (after_one (cond t (b ∷ with_id trex_id id bs) (with_id trex_id id bs))) d
    by true e = two id first d bs
    by false e = e

few_more : (b : Box) (bs : List Box) → after_one bs ≡ few (b ∷ bs)
few_more b [] = refl
few_more b (c ∷ bs) = refl

none : (id first : ℕ) (bs : List Box) → gathered Trex id (with_all first 0 (defaults_of None)) bs ≡ with_all first (few (with_id trex_id id bs)) (defaults_of (first_of (with_id trex_id id bs)))
unfolding gathered
none id first [] = refl
none id first (b ∷ bs) = by (trex_id b == id) (none id first bs)
  where
    by : (t : Bool) → gathered Trex id (with_all first 0 (defaults_of None)) bs ≡ with_all first (few (with_id trex_id id bs)) (defaults_of (first_of (with_id trex_id id bs)))
        → gathered Trex id (cond t (with_all first 1 (defaults_of (Some b))) (with_all first 0 (defaults_of None))) bs
        ≡ with_all first (few (cond t (b ∷ with_id trex_id id bs) (with_id trex_id id bs))) (defaults_of (first_of (cond t (b ∷ with_id trex_id id bs) (with_id trex_id id bs))))
    by true e = one id first (defaults_of (Some b)) bs ∙ ap (λ n. with_all first n (defaults_of (Some b))) (few_more b (with_id trex_id id bs))
    by false e = e

-- the summary by its parts
summary_is : (moov : Box) (id : ℕ) → summary_in moov id ≡ with_all (gathered Tkhd id empty_summary (at_path to_tkhd moov)).first (few (trexes_of moov id)) (defaults_of (first_of (trexes_of moov id)))
unfolding summary_in
summary_is moov id =
    ap (λ s. gathered Trex id s (at_path to_trex moov)) (tkhds_keep id empty_summary (at_path to_tkhd moov))
    ∙ none id (gathered Tkhd id empty_summary (at_path to_tkhd moov)).first (at_path to_trex moov)

pub defaults_by : (moov : Box) (id : ℕ) → (summary_in moov id).defaults ≡ defaults_of (first_of (trexes_of moov id))
defaults_by moov id = ap (λ (s : Summary). s.defaults) (summary_is moov id)

few_one : (bs : List Box) → (few bs == 1) ≡ (length bs == 1)
few_one [] = refl
few_one (b ∷ []) = refl
few_one (b ∷ (c ∷ bs)) = grind (arith, nat_tests)

max_not_before : (o : ℕ) → o < 2 ^ 63 → ltb (2 ^ 64 - 1) o ≡ false
max_not_before o h = grind (arith, nat_tests)

known_by : (moov b : Box) → b.offset < 2 ^ 63 → is_known moov b ≡ cond (ltb (summary_in moov (tkhd_id b)).first b.offset) false ((summary_in moov (tkhd_id b)).trexes == 1)
unfolding is_known
known_by moov b h =
    let id = tkhd_id b in
    let early = length (before b.offset (tkhds_of moov id)) == 0 in
    let first : ltb (summary_in moov id).first b.offset ≡ not early =
    ap (λ (s : Summary). ltb s.first b.offset) (summary_is moov id)
    ∙ first_before id b.offset empty_summary (at_path to_tkhd moov)
    ∙ ap (λ (t : Bool). cond t true (not early)) (max_not_before b.offset h) in
    let trexes : ((summary_in moov id).trexes == 1) ≡ (length (trexes_of moov id) == 1) =
    ap (λ (s : Summary). s.trexes == 1) (summary_is moov id) ∙ few_one (trexes_of moov id) in
    sym (ap (λ (t : Bool). cond t false ((summary_in moov id).trexes == 1)) first ∙ ap (λ (t : Bool). cond (not early) false t) trexes ∙ turned early (length (trexes_of moov id) == 1))
  where
    turned : (t u : Bool) → cond (not t) false u ≡ cond t u false
    turned true u = refl
    turned false u = refl

pub not_known : (moov b : Box) (s : Summary) → s ≡ summary_in moov (tkhd_id b) → b.offset < 2 ^ 63 → s.first < b.offset → false ≡ is_known moov b
not_known moov b s e h early =
    let test : ltb s.first b.offset ≡ true = grind (arith, nat_tests) in
    sym (known_by moov b h ∙ ap (λ (r : Summary). cond (ltb r.first b.offset) false (r.trexes == 1)) (sym e) ∙ ap (λ (t : Bool). cond t false (s.trexes == 1)) test)

pub known_once : (moov b : Box) (s : Summary) → s ≡ summary_in moov (tkhd_id b) → b.offset < 2 ^ 63 → b.offset ≤ s.first → (s.trexes == 1) ≡ is_known moov b
known_once moov b s e h late =
    let test : ltb s.first b.offset ≡ false = grind (arith, nat_tests) in
    sym (known_by moov b h ∙ ap (λ (r : Summary). cond (ltb r.first b.offset) false (r.trexes == 1)) (sym e) ∙ ap (λ (t : Bool). cond t false (s.trexes == 1)) test)
