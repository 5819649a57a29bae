-- A fragment whose mdat goes to the end of the stream.
use Rattle.std.proofs.Common.{◌≡◌, ◌∙◌, ℕ, pos, ◌≤ℤ◌, ◌+◌, ◌<◌, ◌≤◌, ◌^◌, Bool, true, false, not, cond, List, [], ◌∷◌, ◌⊎◌, inl, inr, length, max, Some, None, refl, sym, ap, arith, map}
use Rattle.std.specs.Prelude.{◌==◌}
use Rattle.std.specs.List.{AllByRecursion}
use Rattle.std.proofs.lemmas.Int.{ints}
use Rattle.mp4_box.specs.Headers.{IsBytes, IsWhole}
use Rattle.mp4_box.specs.declared.headers.Header.{Header}
use Rattle.mp4_box.specs.declared.headers.Size.{Size}
use Rattle.mp4_box.specs.declared.headers.Size.TheVariants.{ToEnd}
use Rattle.mp4_init.specs.declared.table.Track.{Track}
use Rattle.mp4_init.proofs.MoovLemmas.{first_none}
use Rattle.mp4_init.proofs.SearchTreeLemmas.{is_same}
use Rattle.mp4_run_order.specs.declared.runs.ListedRun.{ListedRun}
use Rattle.mp4_run_order.specs.declared.runs.Payload.{Payload}
use Rattle.mp4_run_order.specs.Places.{first_offender, lies_in, may_be_placed}
use Rattle.mp4_run_order.proofs.OrderLemmas.{taken_permutes}
use Rattle.mp4_run_order.proofs.RunLemmas.{le_from}
use Rattle.mp4_traf.specs.declared.run.Run.{Run}
use Rattle.mp4_frag.specs.Moofs.{IsRead, moof_runs}
use Rattle.mp4_frag.specs.Places.{run_place_fault, place_fault, listed_run}
use Rattle.mp4_frag.specs.RunLists.{taken_runs}
use Rattle.mp4_traf.specs.Runs.{MoofBytes, end_place, moof_at}
use Rattle.mp4_pieces.specs.declared.cut.Cut.{Cut}
use Rattle.mp4_traf.specs.Ranges.{AreRunsOf, IsRunOf}
use Rattle.mp4_pieces.specs.Rooms.{room_fault}
use Rattle.mp4_frag.proofs.ReadRunLemmas.{runs_are, runs_kept}
use Rattle.mp4_pieces.proofs.OrderLemmas.{count_kept}
use Rattle.mp4_cut.specs.Reads.{FitsTrack}
use Rattle.mp4_cut.specs.Reads.{IsSoundRun}
use Rattle.mp4_cut.proofs.GivenLemmas.{all_sound}
use Rattle.mp4_grammar.specs.Contexts.{context}
use Rattle.mp4_grammar.specs.Items.{end_of}
use Rattle.mp4_grammar.specs.Joined.{IsGood, fragment_here}
use Rattle.mp4_grammar.specs.Meanings.{Fragment, needed_in, reach, runs_in}
use Rattle.mp4_run_order.specs.Runs.{beyond}
use Rattle.mp4_recut_laws.specs.Premises.{IsRunIn}
use Rattle.mp4_recut_laws.specs.RecutItems.{AreRecutAnywhere, fragment_items, without_index}
use Rattle.mp4_recut_laws.specs.MediaSamples.{media_samples_in}
use Rattle.mp4_recut.specs.Splitting.{splitting}
use Rattle.mp4_recut_laws.proofs.FragmentLemmas.{all_kept, and_both, counts_same, find_none, from_place, has_numbers, map_none, no_rows, not_false, or_true}
use Rattle.mp4_recut_laws.proofs.RunLemmas.{runs_recut, runs_count, runs_out}

abbrev open_copy : ℕ → Payload
open_copy start = record { start = start; end = None }

lies_by : (start : ℕ) (runs : List ListedRun) (run : Run) → not (may_be_placed (open_copy start) runs (listed_run run)) ≡ false → (run.count ≡ 0) ⊎ (pos start ≤ℤ run.place)
lies_by start runs run e =
    elim (or_true (run.count == 0) _ (not_false (may_be_placed (open_copy start) runs (listed_run run)) e)) [
      | inl none ↦ inl (is_same run.count 0 none)
      | inr some ↦ inr (le_from (pos start) run.place (and_both _ _ (and_both (lies_in (open_copy start) (listed_run run)) _ some).0).0)
    ]

all_lie : (start : ℕ) (all : List ListedRun) (runs : List Run) → AllByRecursion (λ (r : ListedRun). not (may_be_placed (open_copy start) all r) ≡ false) (map listed_run runs) → AllByRecursion (λ (run : Run). (run.count ≡ 0) ⊎ (pos start ≤ℤ run.place)) runs
all_lie start all [] h = tt
all_lie start all (run ∷ runs) h = (lies_by start all run h.0, all_lie start all runs h.1)

runs_lie : (start : ℕ) (runs : List Run) → place_fault (open_copy start) runs ≡ None → AllByRecursion (λ (run : Run). (run.count ≡ 0) ⊎ (pos start ≤ℤ run.place)) runs
runs_lie start runs e = all_lie start (map listed_run runs) runs (find_none _ (map listed_run runs) (map_none (λ (run : ListedRun). run_place_fault run.number) (first_offender (open_copy start) (map listed_run runs)) e))

-- how far they reach
reach_by : (t : Bool) (n b r : ℕ) (run : Run) → (run.count == 0) ≡ t → cond t r (max b r) ≤ n → ((run.count ≡ 0) ⊎ (b ≤ n)) × (r ≤ n)
reach_by true n b r run e h = (inl (is_same run.count 0 e), h)
reach_by false n b r run e h = (inr (omega (arith, h)), omega (arith, h))

reached : (start n : ℕ) (runs : List Run) → reach start runs ≤ n → AllByRecursion (λ (run : Run). (run.count ≡ 0) ⊎ (beyond start (end_place run) ≤ n)) runs
reached start n [] h = tt
reached start n (run ∷ runs) h = let both = reach_by (run.count == 0) n (beyond start (end_place run)) (reach start runs) run refl h in (both.0, reached start n runs both.1)

one_run_in : (tracks : List Track) (start : ℕ) (payload moof_bytes : List ℕ) (run : Run) → IsSoundRun tracks moof_bytes run → (run.size < 2 ^ 32 → IsRunOf moof_bytes run) → (run.count ≡ 0) ⊎ (pos start ≤ℤ run.place) → (run.count ≡ 0) ⊎ (beyond start (end_place run) ≤ length payload) → IsRunIn tracks start payload moof_bytes run
one_run_in tracks start payload moof_bytes run sound of (inl none) far = record { sound = sound; of = of sound.size; lies = inl (no_rows run moof_bytes none) }
one_run_in tracks start payload moof_bytes run sound of (inr from) (inl none) = record { sound = sound; of = of sound.size; lies = inl (no_rows run moof_bytes none) }
one_run_in tracks start payload moof_bytes run sound of (inr from) (inr far) =
    let at = from_place run.place start from in
    let end : end_place run ≡ pos (at.0 + run.bytes) = omega (arith, ints, at.1) in
    record { sound = sound; of = of sound.size; lies = inr (record { at = at.0; place = at.1; from = omega (arith, ints, from, at.1); to = omega (arith, ap (beyond start) end, far, (of sound.size).bytes) }) }

all_in : (tracks : List Track) (start : ℕ) (payload moof_bytes : List ℕ) (runs : List Run) → AllByRecursion (IsSoundRun tracks moof_bytes) runs → AreRunsOf moof_bytes runs → AllByRecursion (λ (run : Run). (run.count ≡ 0) ⊎ (pos start ≤ℤ run.place)) runs → AllByRecursion (λ (run : Run). (run.count ≡ 0) ⊎ (beyond start (end_place run) ≤ length payload)) runs → AllByRecursion (IsRunIn tracks start payload moof_bytes) runs
all_in tracks start payload moof_bytes [] a b c d = tt
all_in tracks start payload moof_bytes (run ∷ runs) a b c d = (one_run_in tracks start payload moof_bytes run a.0 b.0 c.0 d.0, all_in tracks start payload moof_bytes runs a.1 b.1 c.1 d.1)

payload_is : (n : ℕ) (h : Header) → h.size ≡ ToEnd → ◌≡◌ {A = Payload} (record { start = n + h.header_len; end = end_of n h.size }) (open_copy (n + h.header_len))
payload_is n h e = ap (λ (s : Size). record { start = n + h.header_len; end = end_of n s }) e

module _ (cut : Cut) (at number : ℕ) (tracks : List Track) (x more : List ℕ) (h : Header) (is_open : h.size ≡ ToEnd) (whole : IsWhole x) (moof_bytes : IsBytes x) (room : at + length x + length more ≤ 2 ^ 62) (all : AllByRecursion FitsTrack tracks) (low : number ≤ 4294967296)
    (read : IsRead (moof_at x at) tracks) (good : IsGood (splitting cut) (context at (Some tracks) number) x h) (far : needed_in (fragment_here (context at (Some tracks) number) x h) ≤ length more) where
  abbrev m : MoofBytes
  m = moof_at x at

  abbrev f : Fragment
  f = fragment_here (context at (Some tracks) number) x h

  abbrev runs : List Run
  runs = moof_runs m tracks

  both : (place_fault f.payload runs ≡ None) × (room_fault cut m runs number ≡ None)
  both = first_none (place_fault f.payload runs) (room_fault cut m runs number) good

  pub open_runs : AllByRecursion (IsRunIn tracks f.payload.start more x) (taken_runs m tracks)
  open_runs =
      all_in tracks f.payload.start more x (taken_runs m tracks)
      (all_kept (IsSoundRun tracks x) runs (taken_runs m tracks) (taken_permutes listed_run runs) (all_sound m tracks whole moof_bytes all read))
      (runs_kept x runs (taken_runs m tracks) (taken_permutes listed_run runs) (runs_are m tracks (omega (arith, room)) whole moof_bytes read))
      (all_kept (λ (run : Run). (run.count ≡ 0) ⊎ (pos f.payload.start ≤ℤ run.place)) runs (taken_runs m tracks) (taken_permutes listed_run runs) (runs_lie f.payload.start runs (ap (λ (p : Payload). place_fault p runs) (sym (payload_is (at + length x) h is_open)) ∙ both.0)))
      (reached f.payload.start (length more) (taken_runs m tracks) far)

  -- its recut text has no fault, and the same samples, where all media that its runs need came
  pub open_recut : AreRecutAnywhere (without_index cut) number tracks (fragment_items cut f more) (runs_out cut x f.payload.start more tracks number (runs_in f)) (runs_count cut x f.payload.start more tracks (runs_in f)) (media_samples_in f more)
  open_recut =
      runs_recut cut x f.payload.start more tracks (omega (arith, room)) number tracks (taken_runs m tracks) open_runs
      (omega (arith, has_numbers cut m runs number low both.1, counts_same cut x f.payload.start more tracks (taken_runs m tracks), count_kept cut x runs (taken_runs m tracks) (taken_permutes listed_run runs)))
