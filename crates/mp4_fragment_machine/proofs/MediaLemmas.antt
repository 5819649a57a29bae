-- Sums over the runs of a moof in a payload in which they may lie where they do.
use lib.IntN.{negsuc}
use Rattle.std.proofs.Common.{◌≡◌, ◌∙◌, ℕ, ℤ, zero, suc, pos, ◌+◌, ◌-◌, ◌<◌, ◌≤◌, ◌^◌, ◌==◌, ◌+ℤ◌, ◌<ℤ◌, ◌≤ℤ◌, max, if◌then◌else◌, Bool, true, false, not, List, [], ◌∷◌, ◌++◌, length, length-append, take, drop, get_or, Option, None, Some, inl, inr, ap, sym, refl, subst, arith}
use Rattle.std.specs.Prelude.{map}
use Rattle.std.specs.List.{AllByRecursion, filter, flat_map, sum_by}
use Rattle.std.specs.Option.{IfSome}
use Rattle.std.proofs.Math.Seq.{drop-cons, take-suc}
use Rattle.std.proofs.lemmas.Bool.{and_from, cases_lt, ne_eqb, not_from_false}
use Rattle.std.proofs.lemmas.Int.{ints}
use Rattle.std.proofs.lemmas.List.Sums.{sum_by-cons, sum_by-take-drop, sum_by_push}
use Rattle.std.proofs.lemmas.List.Sorted.{sum_by-IsPermutation}
use Rattle.mp4_box.specs.Headers.{IsBytes}
use Rattle.mp4_init.specs.declared.table.Track.{Track}
use Rattle.mp4_run_order.specs.declared.runs.Payload.{Payload}
use Rattle.mp4_run_order.specs.Orders.{taken}
use Rattle.mp4_run_order.specs.Places.{LiesIn}
use Rattle.mp4_run_order.specs.Runs.{end_of}
use Rattle.mp4_run_order.specs.Takings.{IsTakenWell, has_bytes, has_samples}
use Rattle.mp4_run_order.proofs.ListLemmas.{Each, Pairs, each_both, each_moved, each_of_all, pairs_of_all, pairs_of_map, pairs_with}
use Rattle.mp4_run_order.proofs.OrderLemmas.{taken_is_order, taken_map, taken_permutes}
use Rattle.mp4_run_order.proofs.TakingLemmas.{taken_well}
use Rattle.mp4_traf.specs.declared.rows.Row.{Row}
use Rattle.mp4_traf.specs.declared.run.Run.{Run}
use Rattle.mp4_frag.specs.Moofs.{moof_of, moof_runs, moof_samples}
use Rattle.mp4_traf.specs.Rules.{most_in_moof}
use Rattle.mp4_frag.specs.Places.{place_fault, listed_run}
use Rattle.mp4_traf.specs.Rows.{rows_of, sizes}
use Rattle.mp4_frag.specs.RunLists.{moof_listing, taken_runs, ListedRows}
use Rattle.mp4_frag.specs.ListsOfRuns.{IsListOf}
use Rattle.mp4_traf.specs.Runs.{MoofBytes, end_place}
use Rattle.mp4_traf.proofs.RowLemmas.{length_rows_of}
use Rattle.mp4_frag.proofs.RunListLemmas.{place_means}
use Rattle.mp4_frag.proofs.MoofLemmas.{read_count}
use Rattle.mp4_frag.proofs.SoundLemmas.{all_small, few_timed, rows_are_samples}
use Rattle.mp4_grammar.specs.Meanings.{reach}
use Rattle.mp4_run_order.specs.Runs.{beyond}
use Rattle.mp4_traf.specs.Ranges.{AreRunsOf, IsRunOf}
use Rattle.mp4_fragment_machine.specs.States.{IsPendingMoof, moof_in}
use Rattle.mp4_fragment_machine.specs.declared.pending_moof.PendingMoof.{PendingMoof}
use Rattle.mp4_fragment_machine.proofs.LineLemmas.{rows_taken, taken_are}

-- how many bytes some runs have
abbrev pub media_of : List Run → ℕ
media_of runs = sum_by (λ (run : Run). run.bytes) runs

-- how many samples some runs have
abbrev pub count_of : List Run → ℕ
count_of runs = sum_by (λ (run : Run). run.count) runs

counts_are_rows : (moof_bytes : List ℕ) (runs : List Run) → count_of runs ≡ length (flat_map (λ (run : Run). rows_of run moof_bytes) runs)
counts_are_rows moof_bytes [] = refl
counts_are_rows moof_bytes (run ∷ runs) =
    omega (arith, sum_by-cons (λ (r : Run). r.count) run runs, counts_are_rows moof_bytes runs, length_rows_of run moof_bytes, length-append (rows_of run moof_bytes) (flat_map (λ (r : Run). rows_of r moof_bytes) runs))

-- the first of them have no more
pub count_first : (runs : List Run) (n : ℕ) → count_of (take n runs) ≤ count_of runs
count_first runs n = omega (arith, sum_by-take-drop (λ (run : Run). run.count) runs n)

-- ---- what a filter keeps

kept_by : {X : Type 0} (p : X → Bool) (P : X → Type 0) (x : X) (xs : List X) → (b : Bool) → p x ≡ b → Each P (if b then x ∷ filter p xs else filter p xs) → (p x ≡ true → P x) × Each P (filter p xs)
kept_by p P x xs true e h = (λ _. h.0, h.1)
kept_by p P x xs false e h = (λ t. absurd (cc), h)

-- what holds of each that is kept holds of each, if that is kept
each_unfiltered : {X : Type 0} (p : X → Bool) (P : X → Type 0) (xs : List X) → Each P (filter p xs) → Each (λ x. p x ≡ true → P x) xs
each_unfiltered p P [] h = tt
each_unfiltered p P (x ∷ xs) h = let r = kept_by p P x xs (p x) refl h in (r.0, each_unfiltered p P xs r.1)

pairs_kept_by : {X : Type 0} (p : X → Bool) (R : X → X → Type 0) (x : X) (xs : List X) → (b : Bool) → p x ≡ b → Pairs R (if b then x ∷ filter p xs else filter p xs)
    → (p x ≡ true → Each (R x) (filter p xs)) × Pairs R (filter p xs)
pairs_kept_by p R x xs true e h = (λ _. h.0, h.1)
pairs_kept_by p R x xs false e h = (λ t. absurd (cc), h)

pairs_unfiltered : {X : Type 0} (p : X → Bool) (R : X → X → Type 0) (xs : List X) → Pairs R (filter p xs) → Pairs (λ a b. p a ≡ true → p b ≡ true → R a b) xs
pairs_unfiltered p R [] h = tt
pairs_unfiltered p R (x ∷ xs) h =
    let r = pairs_kept_by p R x xs (p x) refl h in
    (turned p (R x) (p x ≡ true) xs (λ t. each_unfiltered p (R x) xs (r.0 t)), pairs_unfiltered p R xs r.1)
  where
    turned : {X : Type 0} (p : X → Bool) (P : X → Type 0) (T : Type 0) (xs : List X) → (T → Each (λ x. p x ≡ true → P x) xs) → Each (λ x. T → p x ≡ true → P x) xs
    turned p P T [] h = tt
    turned p P T (x ∷ xs) h = (λ t. (h t).0, turned p P T xs (λ t. (h t).1))

each_mapped : {X Y : Type 0} (f : X → Y) (P : Y → Type 0) (xs : List X) → Each P (map f xs) → Each (λ x. P (f x)) xs
each_mapped f P [] h = tt
each_mapped f P (x ∷ xs) h = (h.0, each_mapped f P xs h.1)

each_first : {X : Type 0} (P : X → Type 0) (xs : List X) (n : ℕ) → Each P xs → Each P (take n xs)
each_first P xs zero h = tt
each_first P [] (suc n) h = tt
each_first P (x ∷ xs) (suc n) h = (h.0, each_first P xs n h.1)

pairs_first : {X : Type 0} (R : X → X → Type 0) (xs : List X) (n : ℕ) → Pairs R xs → Pairs R (take n xs)
pairs_first R xs zero h = tt
pairs_first R [] (suc n) h = tt
pairs_first R (x ∷ xs) (suc n) h = (each_first (R x) xs n h.0, pairs_first R xs n h.1)

-- ---- runs that may lie where they do, in the order in which they are taken

-- of two runs with bytes the first ends before the second begins
abbrev Rises : Run → Run → Type 0
Rises a b = has_bytes (listed_run a) ≡ true → has_bytes (listed_run b) ≡ true → end_place a ≤ℤ b.place

-- a run with samples lies in the payload
abbrev Lies : Payload → Run → Type 0
Lies p run = has_samples (listed_run run) ≡ true → LiesIn p (listed_run run)

pub record AreIn (p : Payload) (runs : List Run) : Type 0 where
  pub rise : Pairs Rises runs
  pub lie : Each (Lies p) runs

taken_in : (p : Payload) (h : MoofBytes) (tracks : List Track) (l : ListedRows) → IsListOf h tracks l → place_fault p (moof_runs h tracks) ≡ None → AreIn p (taken_runs h tracks)
taken_in p h tracks l list good =
    let listing = moof_listing h tracks in
    let runs = taken_runs h tracks in
    let well : IsTakenWell p listing (taken listing) = taken_well p listing (taken listing) list.ordered.listing (taken_is_order listing list.ordered.listing) (place_means p h tracks l None list (sym good)) in
    let of_runs : IsTakenWell p listing (map listed_run runs) = subst (IsTakenWell p listing) (sym (taken_map listed_run (moof_runs h tracks))) well in
    record {
      rise = pairs_of_map listed_run (λ a b. has_bytes a ≡ true → has_bytes b ≡ true → end_of a ≤ℤ b.place) runs
          (pairs_unfiltered has_bytes (λ a b. end_of a ≤ℤ b.place) (map listed_run runs) (pairs_of_all (λ a b. end_of a ≤ℤ b.place) (filter has_bytes (map listed_run runs)) of_runs.ascend));
      lie = each_mapped listed_run (λ a. has_samples a ≡ true → LiesIn p a) runs
          (each_unfiltered has_samples (LiesIn p) (map listed_run runs) (each_of_all (LiesIn p) (filter has_samples (map listed_run runs)) of_runs.lie));
    }

first_in : (p : Payload) (runs : List Run) (n : ℕ) → AreIn p runs → AreIn p (take n runs)
first_in p runs n placed = record { rise = pairs_first Rises runs n placed.rise; lie = each_first (Lies p) runs n placed.lie }

-- ---- the sum of their bytes

-- a run with bytes lies from z to y, and ends before the next with bytes begins
abbrev Between : (z y : ℤ) → Run → Type 0
Between z y run = 0 < run.bytes → (z ≤ℤ run.place) × (end_place run ≤ℤ y)

abbrev Clear : Run → Run → Type 0
Clear a b = 0 < a.bytes → 0 < b.bytes → end_place a ≤ℤ b.place

media_step : (z place y : ℤ) (bytes rest all : ℕ) → z ≤ℤ place → all ≡ bytes + rest → ((place +ℤ pos bytes) +ℤ pos rest) ≤ℤ y → (z +ℤ pos all) ≤ℤ y
media_step z place y bytes rest all low sum h = omega (arith, ints, low, sum, h)

media_fits : (z y : ℤ) (runs : List Run) → z ≤ℤ y → Each (Between z y) runs → Pairs Clear runs → (z +ℤ pos (media_of runs)) ≤ℤ y
media_fits z y [] room lie up = omega (arith, ints, room)
media_fits z y (run ∷ runs) room lie up =
    let sum = sum_by-cons (λ (r : Run). r.bytes) run runs in
    elim (cases_lt 0 run.bytes) [
      | inl some ↦
          let after = each_both (Clear run) (Between z y) (Between (end_place run) y) (λ b from l more. (from some more, (l more).1)) runs up.0 lie.1 in
          media_step z run.place y run.bytes (media_of runs) (media_of (run ∷ runs)) (lie.0 some).0 sum (media_fits (end_place run) y runs (lie.0 some).1 after up.1)
      | inr none ↦
          let same : media_of runs ≡ media_of (run ∷ runs) = omega (arith, sum, none) in
          subst (λ n. (z +ℤ pos n) ≤ℤ y) same (media_fits z y runs room lie.1 up.1)
    ]

-- ---- runs of a moof that was read

no_sizes : (rows : List Row) → length rows ≡ 0 → sizes rows ≡ 0
no_sizes [] e = refl
no_sizes (row ∷ rows) e = absurd (omega (arith, e))

-- a sum that ends there
ends_at : (start bytes end : ℕ) → (pos start +ℤ pos bytes) ≤ℤ pos end → start + bytes ≤ end
ends_at start bytes end h = omega (arith, ints, h)

no_later : (z y : ℤ) → z <ℤ y → z ≤ℤ y
no_later z y h = omega (arith, ints, h)

no_less : (m n : ℕ) → m ≤ n → pos m ≤ℤ pos n
no_less m n h = omega (arith, ints, h)

module _ (moof_bytes : List ℕ) where
  -- a run with bytes has samples
  some_samples : (run : Run) → IsRunOf moof_bytes run → 0 < run.bytes → has_samples (listed_run run) ≡ true
  some_samples run is some =
      not_from_false (run.count == 0) (ne_eqb run.count 0 (λ e. absurd (omega (arith, some, is.bytes, no_sizes (rows_of run moof_bytes) (length_rows_of run moof_bytes ∙ e)))))

  some_bytes : (run : Run) → IsRunOf moof_bytes run → 0 < run.bytes → has_bytes (listed_run run) ≡ true
  some_bytes run is some =
      and_from (has_samples (listed_run run)) (not (run.bytes == 0)) (some_samples run is some) (not_from_false (run.bytes == 0) (ne_eqb run.bytes 0 (λ e. absurd (omega (arith, some, e)))))

  -- they have no more bytes than lie between the start of the payload and y
  media_within : (p : Payload) (y : ℤ) (runs : List Run) → pos p.start ≤ℤ y → ((run : Run) → IsRunOf moof_bytes run → LiesIn p (listed_run run) → end_place run ≤ℤ y)
      → AreIn p runs → Each (IsRunOf moof_bytes) runs → (pos p.start +ℤ pos (media_of runs)) ≤ℤ y
  media_within p y runs room ends placed are =
      media_fits (pos p.start) y runs room
      (each_both (IsRunOf moof_bytes) (Lies p) (Between (pos p.start) y) (λ run is lies some. let l = lies (some_samples run is some) in (l.from, ends run is l)) runs are placed.lie)
      (pairs_with (IsRunOf moof_bytes) Rises Clear (λ a b m n r x y. r (some_bytes a m x) (some_bytes b n y)) runs are placed.rise)

  -- the first of them lie in a payload with an end
  pub media_in : (p : Payload) (end : ℕ) (runs : List Run) (n : ℕ) → p.end ≡ Some end → p.start ≤ end → AreIn p runs → Each (IsRunOf moof_bytes) (take n runs) → p.start + media_of (take n runs) ≤ end
  media_in p end runs n e room placed are =
      ends_at p.start (media_of (take n runs)) end (media_within p (pos end) (take n runs) (no_less p.start end room)
      (λ run is lies. subst (λ (o : Option ℕ). IfSome o (λ z. end_place run ≤ℤ pos z)) e lies.to) (first_in p runs n placed) are)

  -- and in any below byte 2^63
  pub media_far : (p : Payload) (runs : List Run) (n : ℕ) → p.start ≤ 2 ^ 62 → AreIn p runs → Each (IsRunOf moof_bytes) (take n runs) → p.start + media_of (take n runs) ≤ 2 ^ 63
  media_far p runs n near placed are =
      ends_at p.start (media_of (take n runs)) (2 ^ 63) (media_within p (pos (2 ^ 63)) (take n runs) (no_less p.start (2 ^ 63) (omega (arith, near)))
      (λ run is lies. no_later (end_place run) (pos (2 ^ 63)) is.range.high) (first_in p runs n placed) are)

-- ---- how far they reach

beyond_most : (start end : ℕ) (z : ℤ) → z ≤ℤ pos end → beyond start z ≤ end - start
beyond_most start end (pos n) h = let k : n ≤ end = omega (arith, ints, h) in omega (arith, k)
beyond_most start end (negsuc n) h = omega arith

reach_step : (start end : ℕ) (run : Run) (runs : List Run) (t : Bool) → reach start runs ≤ end - start → (t ≡ false → end_place run ≤ℤ pos end) → (if t then reach start runs else max (beyond start (end_place run)) (reach start runs)) ≤ end - start
reach_step start end run runs true rest ends = rest
reach_step start end run runs false rest ends = omega (arith, rest, beyond_most start end (end_place run) (ends refl))

reach_most : (p : Payload) (end : ℕ) (runs : List Run) → p.end ≡ Some end → Each (Lies p) runs → reach p.start runs ≤ end - p.start
reach_most p end [] e lie = omega arith
reach_most p end (run ∷ runs) e lie =
    reach_step p.start end run runs (run.count == 0) (reach_most p end runs e lie.1)
    (λ some. subst (λ (o : Option ℕ). IfSome o (λ z. end_place run ≤ℤ pos z)) e (lie.0 (not_from_false (run.count == 0) some)).to)

pub reach_in : (p : Payload) (end : ℕ) (runs : List Run) → p.end ≡ Some end → p.start ≤ end → AreIn p runs → p.start + reach p.start runs ≤ end
reach_in p end runs e room placed = omega (arith, room, reach_most p end runs e placed.lie)

-- ---- run after run

module _ (runs : List Run) (i : ℕ) (run : Run) (here : i < length runs) (at : run ≡ get_or runs i run) where
  one_more : take (i + 1) runs ≡ take i runs ++ run ∷ []
  one_more =
      let one : i + 1 ≡ suc i = omega arith in
      ap (λ n. take n runs) one ∙ take-suc runs i run here ∙ ap (λ r. take i runs ++ r ∷ []) (sym at)

  one_less : drop i runs ≡ run ∷ drop (i + 1) runs
  one_less =
      let one : suc i ≡ i + 1 = omega arith in
      drop-cons runs i run here ∙ ap (λ r. r ∷ drop (suc i) runs) (sym at) ∙ ap (λ n. run ∷ drop n runs) one

  pub media_more : media_of (take (i + 1) runs) ≡ media_of (take i runs) + run.bytes
  media_more = ap media_of one_more ∙ sum_by_push (λ (r : Run). r.bytes) (take i runs) run

  pub count_more : count_of (take (i + 1) runs) ≡ count_of (take i runs) + run.count
  count_more = ap (sum_by (λ (r : Run). r.count)) one_more ∙ sum_by_push (λ (r : Run). r.count) (take i runs) run

  pub are_more : (moof_bytes : List ℕ) → Each (IsRunOf moof_bytes) (take i runs) → IsRunOf moof_bytes run → Each (IsRunOf moof_bytes) (take (i + 1) runs)
  are_more moof_bytes are is = subst (Each (IsRunOf moof_bytes)) (sym one_more) (pushed (IsRunOf moof_bytes) (take i runs) run are is)
    where
      pushed : {X : Type 0} (P : X → Type 0) (xs : List X) (x : X) → Each P xs → P x → Each P (xs ++ x ∷ [])
      pushed P [] x all one = (one, tt)
      pushed P (y ∷ xs) x all one = (all.0, pushed P xs x all.1 one)

  pub reach_more : (start m n all : ℕ) → n ≡ max m (if run.count == 0 then 0 else beyond start (end_place run)) → max m (reach start (drop i runs)) ≡ all → max n (reach start (drop (i + 1) runs)) ≡ all
  reach_more start m n all new whole =
      by (run.count == 0) new (ap (λ l. max m (reach start l)) (sym one_less) ∙ whole)
    where
      by : (t : Bool) → n ≡ max m (if t then 0 else beyond start (end_place run))
          → max m (if t then reach start (drop (i + 1) runs) else max (beyond start (end_place run)) (reach start (drop (i + 1) runs))) ≡ all → max n (reach start (drop (i + 1) runs)) ≡ all
      by true new whole = omega (arith, new, whole)
      by false new whole = omega (arith, new, whole)

-- the run at an index
pub record RunAt (moof_bytes : List ℕ) (runs : List Run) (i : ℕ) : Type 0 where
  pub run : Run
  pub at : run ≡ get_or runs i run
  pub is : IsRunOf moof_bytes run

pub run_at : (moof_bytes : List ℕ) (runs : List Run) (i : ℕ) → AllByRecursion (IsRunOf moof_bytes) runs → i < length runs → RunAt moof_bytes runs i
run_at moof_bytes [] i all h = absurd (omega arith)
run_at moof_bytes (x ∷ runs) zero all h = record { run = x; at = refl; is = all.0 }
run_at moof_bytes (x ∷ runs) (suc i) all h = let rest = run_at moof_bytes runs i all.1 (omega arith) in record { run = rest.run; at = rest.at; is = rest.is }

all_each : {X : Type 0} (P : X → Type 0) (xs : List X) → AllByRecursion P xs → Each P xs
all_each P [] all = tt
all_each P (x ∷ xs) all = (all.0, all_each P xs all.1)

both_hold : (moof_bytes : List ℕ) (runs : List Run) → AreRunsOf moof_bytes runs → Each (λ (run : Run). run.size < 2 ^ 32) runs → AllByRecursion (IsRunOf moof_bytes) runs
both_hold moof_bytes [] are small = tt
both_hold moof_bytes (x ∷ runs) are small = (are.0 small.0, both_hold moof_bytes runs are.1 small.1)

-- ---- the runs of the pending moof

module _ (w : PendingMoof) (tracks : List Track) (waits : IsPendingMoof (Some tracks) w) where
  pub listed : (i : ℕ) → i < length w.runs.rows → i < length (taken_runs (moof_in w) tracks)
  listed i h = omega (arith, h, rows_taken (moof_in w) tracks w.runs waits.list)

  -- their samples are those of the moof
  pub counted : count_of (taken_runs (moof_in w) tracks) ≡ moof_samples (moof_in w)
  counted =
      let h = moof_in w in
      sum_by-IsPermutation (λ (run : Run). run.count) (moof_runs h tracks) (taken_runs h tracks) (taken_permutes listed_run (moof_runs h tracks))
      ∙ counts_are_rows h.bytes (moof_runs h tracks) ∙ rows_are_samples h tracks

  pub few_samples : moof_samples (moof_in w) ≤ most_in_moof
  few_samples = (few_timed (moof_of (moof_in w)) (read_count (moof_in w) tracks waits.read)).most

  -- they are sound
  pub taken_sound : IsBytes w.moof.bytes → AllByRecursion (λ (t : Track). t.size < 2 ^ 32) tracks → AllByRecursion (IsRunOf w.moof.bytes) (taken_runs (moof_in w) tracks)
  taken_sound fits small =
      let h = moof_in w in
      both_hold w.moof.bytes (taken_runs h tracks) (taken_are h tracks (omega (arith, waits.size, waits.near)) waits.whole fits waits.read)
      (each_moved (λ (run : Run). run.size < 2 ^ 32) (moof_runs h tracks) (taken_runs h tracks) (taken_permutes listed_run (moof_runs h tracks)) (all_each (λ (run : Run). run.size < 2 ^ 32) (moof_runs h tracks) (all_small h tracks waits.whole fits small)))

  pub placed_in : (p : Payload) → place_fault p (moof_runs (moof_in w) tracks) ≡ None → AreIn p (taken_runs (moof_in w) tracks)
  placed_in p good = taken_in p (moof_in w) tracks w.runs waits.list good
