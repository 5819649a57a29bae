-- The parts of a fragment without a fault ascend.
use Rattle.std.proofs.Common.{◌≡◌, ◌∙◌, ℕ, ◌≤ℤ◌, ◌+◌, ◌<◌, true, not, List, [], ◌∷◌, length, ◌⊎◌, inl, inr, None, refl, sym, ap, arith, subst, map}
use Rattle.std.specs.Prelude.{◌==◌}
use Rattle.std.specs.List.{AllByRecursion, filter}
use Rattle.std.proofs.lemmas.Bool.{and_from, ne_eqb, not_from_false}
use Rattle.std.proofs.lemmas.Int.{ints}
use Rattle.mp4_box.specs.Headers.{IsBytes}
use Rattle.mp4_init.specs.declared.table.Track.{Track}
use Rattle.mp4_run_order.specs.declared.runs.ListedRun.{ListedRun}
use Rattle.mp4_run_order.specs.declared.runs.Payload.{Payload}
use Rattle.mp4_run_order.specs.Orders.{taken}
use Rattle.mp4_run_order.specs.Places.{IsOffender, Placed, first_offender}
use Rattle.mp4_run_order.specs.Runs.{end_of}
use Rattle.mp4_run_order.specs.Takings.{IsTakenWell, has_bytes, has_samples}
use Rattle.mp4_run_order.proofs.ListLemmas.{Each, Pairs, pairs_of_all, pairs_of_map}
use Rattle.mp4_run_order.proofs.OrderLemmas.{taken_is_order, taken_map}
use Rattle.mp4_run_order.proofs.SearchLemmas.{offender_means}
use Rattle.mp4_run_order.proofs.TakingLemmas.{taken_well}
use Rattle.mp4_traf.specs.declared.rows.Row.{Row}
use Rattle.mp4_traf.specs.declared.run.Run.{Run}
use Rattle.mp4_frag.specs.Moofs.{moof_runs}
use Rattle.mp4_frag.specs.Places.{run_place_fault, place_fault, listed_run}
use Rattle.mp4_traf.specs.Rows.{rows_of, sizes}
use Rattle.mp4_frag.specs.RunLists.{moof_listing, taken_runs}
use Rattle.mp4_traf.specs.Runs.{MoofBytes, end_place}
use Rattle.mp4_traf.proofs.RowLemmas.{length_rows_of}
use Rattle.mp4_frag.proofs.ListingLemmas.{is_listing}
use Rattle.mp4_pieces.specs.declared.cut.Cut.{Cut}
use Rattle.mp4_traf.specs.Ranges.{IsRunOf}
use Rattle.mp4_recut.specs.OutputFragments.{Ascends}
use Rattle.mp4_recut.specs.Splitting.{runs_fragments}
use Rattle.mp4_recut.proofs.AscendLemmas.{Between, Clear, runs_ascend}
use Rattle.mp4_recut.proofs.FragmentLemmas.{pairs_unfiltered}
use Rattle.mp4_recut_laws.specs.PieceItems.{LiesIn}
use Rattle.mp4_recut_laws.specs.Premises.{IsRunIn}
use Rattle.mp4_recut_laws.proofs.FragmentLemmas.{map_none}

-- ---- its runs may lie where they do

placed : (p : Payload) (h : MoofBytes) (tracks : List Track) → IsBytes h.bytes → place_fault p (moof_runs h tracks) ≡ None → Placed p (moof_listing h tracks)
placed p h tracks fits good =
    subst (IsOffender p (moof_listing h tracks)) (map_none (λ (run : ListedRun). run_place_fault run.number) (first_offender p (moof_listing h tracks)) good)
    (offender_means p (moof_listing h tracks) (is_listing h tracks fits))

-- ---- of two runs with bytes the first ends before the second begins

abbrev Rises : Run → Run → Type 0
Rises a b = has_bytes (listed_run a) ≡ true → has_bytes (listed_run b) ≡ true → end_place a ≤ℤ b.place

taken_rise : (p : Payload) (h : MoofBytes) (tracks : List Track) → IsBytes h.bytes → place_fault p (moof_runs h tracks) ≡ None → Pairs Rises (taken_runs h tracks)
taken_rise p h tracks fits good =
    let listing = moof_listing h tracks in
    let runs = taken_runs h tracks in
    let listed = is_listing h tracks fits in
    let well : IsTakenWell p listing (taken listing) = taken_well p listing (taken listing) listed (taken_is_order listing listed) (placed p h tracks fits good) in
    let of_runs : IsTakenWell p listing (map listed_run runs) = subst (IsTakenWell p listing) (sym (taken_map listed_run (moof_runs h tracks))) well in
    pairs_of_map listed_run (λ a b. has_bytes a ≡ true → has_bytes b ≡ true → end_of a ≤ℤ b.place) runs
    (pairs_unfiltered has_bytes (λ a b. end_of a ≤ℤ b.place) (map listed_run runs) (pairs_of_all (λ a b. end_of a ≤ℤ b.place) (filter has_bytes (map listed_run runs)) of_runs.ascend))

-- ---- what is asked of runs

no_sizes : (rows : List Row) → length rows ≡ 0 → sizes rows ≡ 0
no_sizes [] e = refl
no_sizes (row ∷ rows) e = absurd (omega (arith, e))

module _ (cut : Cut) (tracks : List Track) (start : ℕ) (payload moof_bytes : List ℕ) where
  some_bytes : (run : Run) → IsRunOf moof_bytes run → 0 < run.bytes → has_bytes (listed_run run) ≡ true
  some_bytes run is some =
      let samples : has_samples (listed_run run) ≡ true = not_from_false (run.count == 0) (ne_eqb run.count 0 (λ e. absurd (omega (arith, some, is.bytes, no_sizes (rows_of run moof_bytes) (length_rows_of run moof_bytes ∙ e))))) in
      and_from (has_samples (listed_run run)) (not (run.bytes == 0)) samples (not_from_false (run.bytes == 0) (ne_eqb run.bytes 0 (λ e. absurd (omega (arith, some, e)))))

  each_run : (runs : List Run) → AllByRecursion (IsRunIn tracks start payload moof_bytes) runs → Each (IsRunOf moof_bytes) runs
  each_run [] all = tt
  each_run (run ∷ runs) all = (all.0.of, each_run runs all.1)

  between_by : (run : Run) → IsRunOf moof_bytes run → (rows_of run moof_bytes ≡ []) ⊎ LiesIn start payload moof_bytes run → Between cut moof_bytes start (start + length payload) run
  between_by run is (inl none) some = absurd (omega (arith, some, is.bytes, ap sizes none))
  between_by run is (inr lies) some = (omega (arith, ints, lies.place, lies.from), omega (arith, ints, lies.place, lies.to, is.bytes))

  each_between : (runs : List Run) → AllByRecursion (IsRunIn tracks start payload moof_bytes) runs → Each (Between cut moof_bytes start (start + length payload)) runs
  each_between [] all = tt
  each_between (run ∷ runs) all = (between_by run all.0.of all.0.lies, each_between runs all.1)

  clear_of : (a : Run) → IsRunOf moof_bytes a → (runs : List Run) → Each (IsRunOf moof_bytes) runs → Each (Rises a) runs → Each (Clear cut moof_bytes a) runs
  clear_of a is [] are rise = tt
  clear_of a is (b ∷ runs) are rise = (λ x y. rise.0 (some_bytes a is x) (some_bytes b are.0 y), clear_of a is runs are.1 rise.1)

  all_clear : (runs : List Run) → Each (IsRunOf moof_bytes) runs → Pairs Rises runs → Pairs (Clear cut moof_bytes) runs
  all_clear [] are rise = tt
  all_clear (run ∷ runs) are rise = (clear_of run are.0 runs are.1 rise.0, all_clear runs are.1 rise.1)

-- the parts of a fragment without a fault ascend, whatever its payload states of its end, where all media that its runs need came
pub fragments_ascend : (cut : Cut) (h : MoofBytes) (tracks : List Track) (number start : ℕ) (payload : List ℕ) (p : Payload) → IsBytes h.bytes → place_fault p (moof_runs h tracks) ≡ None → AllByRecursion (IsRunIn tracks start payload h.bytes) (taken_runs h tracks)
    → Ascends start (start + length payload) (runs_fragments cut h.bytes tracks number (taken_runs h tracks))
fragments_ascend cut h tracks number start payload p fits good given =
    let runs = taken_runs h tracks in
    let are = each_run cut tracks start payload h.bytes runs given in
    runs_ascend cut h.bytes tracks number start (start + length payload) runs (omega arith) are (each_between cut tracks start payload h.bytes runs given)
    (all_clear cut tracks start payload h.bytes runs are (taken_rise p h tracks fits good))
