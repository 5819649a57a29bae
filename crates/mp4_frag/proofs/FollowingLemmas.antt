-- Runs that follow one another as they are listed.
use Rattle.std.proofs.Common.{◌==◌, ◌≡◌, ◌≢◌, ◌∙◌, ◌+◌, ◌<◌, ◌≤◌, ℕ, ℤ, pos, ◌≤ℤ◌, Bool, true, false, ◌&&◌, List, [], ◌∷◌, ◌++◌, length, Option, Some, None, refl, sym, ap, arith}
use Rattle.std.specs.Prelude.{map, option_map}
use Rattle.std.specs.List.{AllByRecursion, sum_by}
use Rattle.std.specs.Int.Signed.{le_z}
use Rattle.std.proofs.lemmas.Bool.{and_from, and_parts, eqb-false, eqb-true}
use Rattle.std.proofs.lemmas.Int.{ints}
use Rattle.std.proofs.lemmas.List.Sorted.{sum_by-IsPermutation}
use Rattle.std.proofs.lemmas.List.Sums.{sum_by-append, sum_by-cons}
use Rattle.mp4_box.specs.Headers.{IsBytes}
use Rattle.mp4_box.specs.Paths.{at_path, of_kind}
use Rattle.mp4_box.specs.Trees.{Box, children}
use Rattle.mp4_init.specs.declared.table.Track.{Track}
use Rattle.mp4_run_order.specs.declared.runs.ListedRun.{ListedRun}
use Rattle.mp4_run_order.specs.declared.runs.Payload.{Payload}
use Rattle.mp4_run_order.specs.Places.{IsOffender, LiesIn, MayBePlaced, Placed, first_offender, lies_in}
use Rattle.mp4_run_order.specs.Runs.{IsListing, end_of}
use Rattle.mp4_run_order.specs.Takings.{AllFollow, Follows}
use Rattle.mp4_run_order.proofs.ListLemmas.{Each, Pairs, all_of_each, both_ways, each_always, each_at, each_both, each_of_all, each_weaker, pairs_both, pairs_of_all}
use Rattle.mp4_run_order.proofs.OrderLemmas.{taken_permutes}
use Rattle.mp4_run_order.proofs.RunLemmas.{le_from, le_to, lies_from, lies_to}
use Rattle.mp4_run_order.proofs.SearchLemmas.{offender_means}
use Rattle.mp4_run_order.proofs.TakingLemmas.{follows_placed}
use Rattle.mp4_traf.specs.declared.run.Run.{Run}
use Rattle.mp4_traf.specs.Kinds.{to_trun, traf}
use Rattle.mp4_frag.specs.Moofs.{moof_of, moof_runs, moof_truns}
use Rattle.mp4_frag.specs.Places.{listed_run, place_fault, run_place_fault}
use Rattle.mp4_frag.specs.RunLists.{moof_listing, taken_runs}
use Rattle.mp4_traf.specs.Rows.{rows_of, sizes}
use Rattle.mp4_traf.specs.Runs.{MoofBytes, end_place, runs_of, traf_of}
use Rattle.mp4_frag.specs.Implementation.Following.{all_follow, bytes_with, follows, past_run, past_runs, runs_of_trafs, timed_run}
use Rattle.mp4_frag.proofs.ListingLemmas.{is_listing}
use Rattle.mp4_frag.proofs.MoofListLemmas.{IsMoof, claim_is, runs_are}
use Rattle.mp4_frag.proofs.ReadRunLemmas.{IsSummed, trafs_summed}
use Rattle.mp4_traf.proofs.RowLemmas.{length_rows_of}
use Rattle.mp4_frag.proofs.RunRowLemmas.{on_path, runs_by}

-- ---- those of one traf, and then the others

both : (a b c d : Bool) → b ≡ (c && d) → (a && b) ≡ ((a && c) && d)
both true b c d e = e
both false b c d e = refl

pub all_follow_append : (p : Payload) (e : ℤ) (xs ys : List Run) → all_follow p e (xs ++ ys) ≡ (all_follow p e xs && all_follow p (past_runs e xs) ys)
unfolding all_follow past_runs
all_follow_append p e [] ys = refl
all_follow_append p e (x ∷ xs) ys =
    both (follows p e x) (all_follow p (past_run e x) (xs ++ ys)) (all_follow p (past_run e x) xs) (all_follow p (past_runs (past_run e x) xs) ys) (all_follow_append p (past_run e x) xs ys)

pub past_runs_append : (e : ℤ) (xs ys : List Run) → past_runs e (xs ++ ys) ≡ past_runs (past_runs e xs) ys
unfolding past_runs
past_runs_append e [] ys = refl
past_runs_append e (x ∷ xs) ys = past_runs_append (past_run e x) xs ys

pub bytes_append : (xs ys : List Run) → sum_by bytes_with (xs ++ ys) ≡ sum_by bytes_with xs + sum_by bytes_with ys
bytes_append xs ys = sum_by-append bytes_with xs ys

pub timed_append : (xs ys : List Run) → sum_by timed_run (xs ++ ys) ≡ sum_by timed_run xs + sum_by timed_run ys
timed_append xs ys = sum_by-append timed_run xs ys

-- past the first of some trafs

module _ (h : MoofBytes) (tracks : List Track) (all rest : List Box) (t : Box) (steps : all ≡ t ∷ rest) where
  pub follow_on : (p : Payload) (e last : ℤ) (x : Bool) → all_follow p e (runs_of (traf_of h tracks t)) ≡ true → last ≡ past_runs e (runs_of (traf_of h tracks t)) → all_follow p e (runs_of_trafs h tracks all) ≡ x → all_follow p last (runs_of_trafs h tracks rest) ≡ x
  follow_on p e last x here is whole =
      ap (λ (n : ℤ). all_follow p n (runs_of_trafs h tracks rest)) is
      ∙ (ap (λ (b : Bool). b && all_follow p (past_runs e (runs_of (traf_of h tracks t))) (runs_of_trafs h tracks rest)) (sym here)
      ∙ (sym (all_follow_append p e (runs_of (traf_of h tracks t)) (runs_of_trafs h tracks rest))
      ∙ (ap (λ (bs : List Box). all_follow p e (runs_of_trafs h tracks bs)) (sym steps) ∙ whole)))

  pub past_on : (e last x : ℤ) → last ≡ past_runs e (runs_of (traf_of h tracks t)) → past_runs e (runs_of_trafs h tracks all) ≡ x → past_runs last (runs_of_trafs h tracks rest) ≡ x
  past_on e last x is whole =
      ap (λ (n : ℤ). past_runs n (runs_of_trafs h tracks rest)) is
      ∙ (sym (past_runs_append e (runs_of (traf_of h tracks t)) (runs_of_trafs h tracks rest))
      ∙ (ap (λ (bs : List Box). past_runs e (runs_of_trafs h tracks bs)) (sym steps) ∙ whole))

  pub sum_on : (f : Run → ℕ) (n more x : ℕ) → more ≡ n + sum_by f (runs_of (traf_of h tracks t)) → n + sum_by f (runs_of_trafs h tracks all) ≡ x → more + sum_by f (runs_of_trafs h tracks rest) ≡ x
  sum_on f n more x is whole =
      let both = ap (λ (bs : List Box). sum_by f (runs_of_trafs h tracks bs)) steps ∙ sum_by-append f (runs_of (traf_of h tracks t)) (runs_of_trafs h tracks rest) in
      omega (arith, both, is, whole)

-- ---- what that means

-- it begins at a place or after it
abbrev From : ℤ → ListedRun → Type 0
From e r = r.count ≢ 0 → e ≤ℤ r.place

abbrev Lies : Payload → ListedRun → Type 0
Lies p r = r.count ≢ 0 → LiesIn p r

-- the second begins where the first ends, or after that
abbrev After : ListedRun → ListedRun → Type 0
After a b = a.count ≢ 0 → b.count ≢ 0 → end_of a ≤ℤ b.place

record InOrder (p : Payload) (e : ℤ) (runs : List ListedRun) : Type 0 where
  from : Each (From e) runs
  lies : Each (Lies p) runs
  after : Pairs After runs

order_step : (p : Payload) (e : ℤ) (x : Run) (xs : List ListedRun) (b : Bool) → (x.count == 0) ≡ b → follows p e x ≡ true → InOrder p (past_run e x) xs → InOrder p e (listed_run x ∷ xs)
unfolding follows past_run
order_step p e x xs true z f r =
    let none : x.count ≡ 0 = eqb-true x.count 0 z in
    let rest : InOrder p e xs = rw z at r in
    record {
      from = (λ ne. absurd (ne none), rest.from);
      lies = (λ ne. absurd (ne none), rest.lies);
      after = (each_always (After (listed_run x)) (λ y na. absurd (na none)) xs, rest.after);
    }
order_step p e x xs false z f r =
    let g : (le_z e x.place && lies_in p (listed_run x)) ≡ true = rw z at f in
    let parts = and_parts (le_z e x.place) (lies_in p (listed_run x)) g in
    let le = le_from e x.place parts.0 in
    let rest : InOrder p (end_place x) xs = rw z at r in
    record {
      from = (λ ne. le, each_weaker (From (end_place x)) (From e) (λ y h ne. let k = h ne in omega (arith, ints)) xs rest.from);
      lies = (λ ne. lies_from p (listed_run x) parts.1, rest.lies);
      after = (each_weaker (From (end_place x)) (After (listed_run x)) (λ y h na nb. h nb) xs rest.from, rest.after);
    }

in_order : (p : Payload) (e : ℤ) (runs : List Run) → all_follow p e runs ≡ true → InOrder p e (map listed_run runs)
unfolding all_follow
in_order p e [] h = record { from = tt; lies = tt; after = tt }
in_order p e (x ∷ xs) h =
    let parts = and_parts (follows p e x) (all_follow p (past_run e x) xs) h in
    order_step p e x (map listed_run xs) (x.count == 0) refl parts.0 (in_order p (past_run e x) xs parts.1)

back_step : (p : Payload) (e : ℤ) (x : Run) (xs : List ListedRun) (b : Bool) → (x.count == 0) ≡ b → InOrder p e (listed_run x ∷ xs) → (follows p e x ≡ true) × InOrder p (past_run e x) xs
unfolding follows past_run
back_step p e x xs true z r = (rw z refl, rw z (record { from = r.from.1; lies = r.lies.1; after = r.after.1 }))
back_step p e x xs false z r =
    let some = eqb-false x.count 0 z in (
      rw z (and_from (le_z e x.place) (lies_in p (listed_run x)) (le_to e x.place (r.from.0 some)) (lies_to p (listed_run x) (r.lies.0 some))),
      rw z (record { from = each_weaker (After (listed_run x)) (From (end_place x)) (λ y h nb. h some nb) xs r.after.0; lies = r.lies.1; after = r.after.1 }),
    )

back_in_order : (p : Payload) (e : ℤ) (runs : List Run) → InOrder p e (map listed_run runs) → all_follow p e runs ≡ true
unfolding all_follow
back_in_order p e [] r = refl
back_in_order p e (x ∷ xs) r =
    let s = back_step p e x (map listed_run xs) (x.count == 0) refl r in
    and_from (follows p e x) (all_follow p (past_run e x) xs) s.0 (back_in_order p (past_run e x) xs s.1)

-- they end where the payload does, or before

ends_step : (p : Payload) (e : ℤ) (x : Run) (end : ℕ) (b : Bool) → (x.count == 0) ≡ b → p.end ≡ Some end → e ≤ℤ pos end → follows p e x ≡ true → past_run e x ≤ℤ pos end
unfolding follows past_run
ends_step p e x end true z is le f = rw z le
ends_step p e x end false z is le f =
    let g : (le_z e x.place && lies_in p (listed_run x)) ≡ true = rw z at f in
    let parts = and_parts (le_z e x.place) (lies_in p (listed_run x)) g in
    let lies = rw is at (lies_from p (listed_run x) parts.1).to in
    rw z lies

past_within : (p : Payload) (e : ℤ) (runs : List Run) (end : ℕ) → p.end ≡ Some end → e ≤ℤ pos end → all_follow p e runs ≡ true → past_runs e runs ≤ℤ pos end
unfolding all_follow past_runs
past_within p e [] end is le h = le
past_within p e (x ∷ xs) end is le h =
    let parts = and_parts (follows p e x) (all_follow p (past_run e x) xs) h in
    past_within p (past_run e x) xs end is (ends_step p e x end (x.count == 0) refl is le parts.0) parts.1

pub bytes_within : (p : Payload) (e last : ℤ) (runs : List Run) (b end : ℕ) → e ≡ pos p.start → last ≡ past_runs e runs → all_follow p e runs ≡ true → pos (p.start + b) ≤ℤ last → p.end ≡ Some end → p.start ≤ end → p.start + b ≤ end
bytes_within p e last runs b end start is h room some le =
    let from : e ≤ℤ pos end = omega (arith, ints, start, le) in
    let past = past_within p e runs end some from h in
    omega (arith, ints, past, is, room)

-- ---- the same of all runs with a lower number

abbrev Lower : ListedRun → ListedRun → Type 0
Lower a b = a.number < b.number

abbrev Clear : ListedRun → ListedRun → Type 0
Clear a b = a.number < b.number → a.count ≢ 0 → b.count ≢ 0 → end_of a ≤ℤ b.place

all_from : (p : Payload) (e : ℤ) (runs : List ListedRun) → IsListing runs → InOrder p e runs → AllFollow p runs
all_from p e runs l r =
    let two = pairs_both Lower After (λ a b. Clear a b × Clear b a) (λ a b less h. (λ _. h, λ more. absurd (omega (arith, less, more)))) runs (pairs_of_all Lower runs l) r.after in
    let all = both_ways Clear runs two (each_always (λ a. Clear a a) (λ a less. absurd (omega (arith, less))) runs) in
    all_of_each (λ run. run.count ≢ 0 → Follows p runs run) runs
    (each_both (Lies p) (λ b. Each (λ a. Clear a b) runs) (λ run. run.count ≢ 0 → Follows p runs run)
    (λ b lies clear nb. record {
      lies = lies nb;
      after = all_of_each (λ a. a.number < b.number → a.count ≢ 0 → end_of a ≤ℤ b.place) runs
          (each_weaker (λ a. Clear a b) (λ a. a.number < b.number → a.count ≢ 0 → end_of a ≤ℤ b.place) (λ a h less na. h less na nb) runs clear);
    }) runs r.lies all)

pairs_from : (xs : List ListedRun) → Each (λ b. Each (λ a. Clear a b) xs) xs → Pairs Lower xs → Pairs After xs
pairs_from [] c l = tt
pairs_from (x ∷ xs) c l = (
  each_both (λ b. Clear x b × Each (λ a. Clear a b) xs) (Lower x) (After x) (λ b q less na nb. q.0 less na nb) xs c.1 l.0,
  pairs_from xs (each_weaker (λ b. Clear x b × Each (λ a. Clear a b) xs) (λ b. Each (λ a. Clear a b) xs) (λ b q. q.1) xs c.1) l.1,
)

all_to : (p : Payload) (runs : List ListedRun) → IsListing runs → AllFollow p runs → InOrder p (pos p.start) runs
all_to p runs l f =
    let each = each_of_all (λ run. run.count ≢ 0 → Follows p runs run) runs f in
    let clear = each_weaker (λ run. run.count ≢ 0 → Follows p runs run) (λ b. Each (λ a. Clear a b) runs)
    (λ b h. each_of_all (λ a. Clear a b) runs (λ i d lt less na nb. (h nb).after i d lt less na)) runs each in
    record {
      from = each_weaker (λ run. run.count ≢ 0 → Follows p runs run) (From (pos p.start)) (λ b h nb. (h nb).lies.from) runs each;
      lies = each_weaker (λ run. run.count ≢ 0 → Follows p runs run) (Lies p) (λ b h nb. (h nb).lies) runs each;
      after = pairs_from runs clear (pairs_of_all Lower runs l);
    }

-- ---- the runs of a moof

runs_in : (h : MoofBytes) (tracks : List Track) (m : Box) → IsMoof h m → runs_of_trafs h tracks (at_path (traf ∷ []) m) ≡ moof_runs h tracks
runs_in h tracks m f = ap (runs_by h tracks) (on_path traf m) ∙ sym (runs_are h tracks m f)

no_offender : (p : Payload) (runs : List ListedRun) (o : Option ListedRun) → IsOffender p runs o → Placed p runs → o ≡ None
no_offender p runs None h placed = refl
no_offender p runs (Some run) h placed = absurd (h.offends (each_at (MayBePlaced p runs) runs run (each_of_all (MayBePlaced p runs) runs placed) h.listed))

pub order_placed : (h : MoofBytes) (tracks : List Track) (p : Payload) → IsBytes h.bytes → AllFollow p (moof_listing h tracks) → place_fault p (moof_runs h tracks) ≡ None
order_placed h tracks p fits all =
    let runs = moof_listing h tracks in
    ap (option_map (λ (run : ListedRun). run_place_fault run.number))
    (no_offender p runs (first_offender p runs) (offender_means p runs (is_listing h tracks fits)) (follows_placed p runs all))

module _ (h : MoofBytes) (tracks : List Track) (m : Box) (p : Payload) (f : IsMoof h m) (e : ℤ) (start : e ≡ pos p.start) (r : Bool)
    (is : r ≡ all_follow p e (runs_of_trafs h tracks (at_path (traf ∷ []) m))) where
  here : r ≡ all_follow p (pos p.start) (moof_runs h tracks)
  here = is ∙ (ap (λ (x : ℤ). all_follow p x (runs_of_trafs h tracks (at_path (traf ∷ []) m))) start ∙ ap (all_follow p (pos p.start)) (runs_in h tracks m f))

  pub order_known : r ≡ true → AllFollow p (moof_listing h tracks)
  order_known found =
      all_from p (pos p.start) (moof_listing h tracks) (is_listing h tracks f.fits) (in_order p (pos p.start) (moof_runs h tracks) (sym here ∙ found))

  pub order_found : AllFollow p (moof_listing h tracks) → r ≡ true
  order_found all =
      here ∙ back_in_order p (pos p.start) (moof_runs h tracks) (all_to p (moof_listing h tracks) (is_listing h tracks f.fits) all)

-- a run for each trun
pub truns_of : (h : MoofBytes) (tracks : List Track) (m : Box) → IsMoof h m → moof_truns h ≡ length (moof_runs h tracks)
truns_of h tracks m f = claim_is h tracks m (moof_truns h) f (ap (λ (b : Box). length (at_path to_trun b)) f.is)

-- ---- their bytes

no_bytes : (moof_bytes : List ℕ) (run : Run) → IsSummed moof_bytes run → run.count ≡ 0 → run.bytes ≡ 0
no_bytes moof_bytes run s z = let e = length_rows_of run moof_bytes in s.bytes ∙ none (rows_of run moof_bytes) (omega (arith, e, z))
  where
    none : (rows : List _) → length rows ≡ 0 → sizes rows ≡ 0
    none [] e = refl
    none (row ∷ rows) e = absurd (omega (arith, e))

bytes_step : (moof_bytes : List ℕ) (run : Run) (b : Bool) → (run.count == 0) ≡ b → IsSummed moof_bytes run → bytes_with run ≡ run.bytes
unfolding bytes_with
bytes_step moof_bytes run true z s = rw z (sym (no_bytes moof_bytes run s (eqb-true run.count 0 z)))
bytes_step moof_bytes run false z s = rw z refl

bytes_all : (moof_bytes : List ℕ) (runs : List Run) → AllByRecursion (IsSummed moof_bytes) runs → sum_by bytes_with runs ≡ sum_by (λ (run : Run). run.bytes) runs
bytes_all moof_bytes [] s = refl
bytes_all moof_bytes (run ∷ runs) s =
    let with = sum_by-cons bytes_with run runs in
    let all = sum_by-cons (λ (run : Run). run.bytes) run runs in
    omega (arith, with, all, bytes_step moof_bytes run (run.count == 0) refl s.0, bytes_all moof_bytes runs s.1)

pub bytes_taken : (h : MoofBytes) (tracks : List Track) (m : Box) (b : ℕ) → IsMoof h m → b ≡ sum_by bytes_with (runs_of_trafs h tracks (at_path (traf ∷ []) m)) → b ≡ sum_by (λ (run : Run). run.bytes) (taken_runs h tracks)
bytes_taken h tracks m b f e =
    e
    ∙ (ap (sum_by bytes_with) (runs_in h tracks m f)
    ∙ (bytes_all h.bytes (moof_runs h tracks) (trafs_summed h tracks (of_kind traf (children (moof_of h))))
    ∙ sym (sum_by-IsPermutation (λ (run : Run). run.bytes) (moof_runs h tracks) (taken_runs h tracks) (taken_permutes listed_run (moof_runs h tracks)))))

pub all_follow_none : (p : Payload) (e : ℤ) → all_follow p e [] ≡ true
unfolding all_follow
all_follow_none p e = refl

pub past_runs_none : (e : ℤ) → past_runs e [] ≡ e
unfolding past_runs
past_runs_none e = refl

-- a pass over the trafs of a moof
pub ruleset traf_steps = (all_follow_append, past_runs_append, bytes_append, timed_append, all_follow_none, past_runs_none)
