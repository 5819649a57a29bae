-- The fragments of the recut text of a fragment.
use Rattle.std.proofs.Common.{◌≡◌, ◌∙◌, ℕ, ℤ, pos, ◌+ℤ◌, ◌≤ℤ◌, ◌+◌, ◌-◌, ◌<◌, ◌≤◌, ◌^◌, Bool, true, false, not, ◌&&◌, ◌||◌, cond, List, [], ◌∷◌, ◌++◌, ◌⊎◌, inl, inr, length, length-append, Option, Some, None, refl, sym, ap, arith, map}
use Rattle.std.specs.Prelude.{◌==◌, drop, option_map, nat_lt}
use Rattle.std.specs.List.{AllByRecursion, find, list_any, range_with_len}
use Rattle.std.specs.List.Sorted.{IsPermutation}
use Rattle.std.proofs.lemmas.Bool.{ltb-false}
use Rattle.std.proofs.lemmas.Int.{ints}
use Rattle.std.proofs.lemmas.List.Elements.{All-from_recursion, recursion_from_All}
use Rattle.std.proofs.lemmas.List.Sorted.{All-permutation}
use Rattle.mp4_box.specs.Headers.{IsBytes, IsWhole}
use Rattle.mp4_box.specs.declared.headers.Size.{Size}
use Rattle.mp4_box.specs.declared.rules.Fault.{Fault}
use Rattle.mp4_box.proofs.OrderLemmas.{least-none}
use Rattle.mp4_init.specs.declared.table.Track.{Track}
use Rattle.mp4_init.proofs.MoovLemmas.{first_none}
use Rattle.mp4_init.proofs.SearchTreeLemmas.{is_same}
use Rattle.std.proofs.lemmas.List.{length-drop}
use Rattle.std.proofs.lemmas.List.Sums.{sum_by-cons}
use Rattle.mp4_grammar.specs.Contexts.{context}
use Rattle.mp4_grammar.specs.Items.{end_of}
use Rattle.mp4_grammar.specs.Joined.{IsOne, IsSound, MovieFragment, OneBox, fragment_in}
use Rattle.mp4_grammar.specs.declared.kinds.Kind.TheVariants.{Mdat}
use Rattle.mp4_grammar.specs.Meanings.{Fragment, runs_in}
use Rattle.mp4_recut.specs.Splitting.{splitting}
use Rattle.mp4_recut_laws.specs.MediaSamples.{media_samples_in}
use Rattle.mp4_recut_laws.proofs.RunLemmas.{runs_recut, runs_count, runs_out}
use Rattle.mp4_run_order.specs.declared.runs.ListedRun.{ListedRun}
use Rattle.mp4_run_order.specs.declared.runs.Payload.{Payload}
use Rattle.mp4_run_order.specs.Places.{first_offender, lies_in, may_be_placed}
use Rattle.mp4_run_order.proofs.OrderLemmas.{taken_permutes}
use Rattle.mp4_run_order.proofs.RunLemmas.{le_from}
use Rattle.mp4_traf.specs.declared.run.Run.{Run}
use Rattle.mp4_frag.specs.Moofs.{IsRead, moof_runs}
use Rattle.mp4_frag.specs.Places.{run_place_fault, place_fault, listed_run}
use Rattle.mp4_traf.specs.Rows.{row_of, rows_of}
use Rattle.mp4_frag.specs.RunLists.{taken_runs}
use Rattle.mp4_traf.specs.Runs.{MoofBytes, moof_at}
use Rattle.mp4_pieces.specs.declared.cut.Cut.{Cut}
use Rattle.mp4_pieces.specs.Pieces.{piece_count, pieces_of}
use Rattle.mp4_traf.specs.Ranges.{AreRunsOf, IsRunOf}
use Rattle.mp4_pieces.specs.Rooms.{numbers, room_fault, sequence_fault}
use Rattle.mp4_pieces.specs.Rooms as rooms
use Rattle.mp4_pieces.proofs.RoomLemmas.{past_last}
use Rattle.mp4_frag.proofs.ReadRunLemmas.{runs_are}
use Rattle.mp4_pieces.proofs.OrderLemmas.{count_kept}
use Rattle.mp4_cut.specs.Reads.{FitsTrack}
use Rattle.mp4_cut.specs.Reads.{IsSoundRun}
use Rattle.mp4_cut.proofs.GivenLemmas.{all_sound}
use Rattle.mp4_recut_laws.specs.Premises.{IsRunIn}
use Rattle.mp4_recut_laws.specs.RecutItems.{AreRecutAnywhere, fragment_items, without_index}

-- ---- where the runs lie

find_by : {X : Type 0} (p : X → Bool) (x : X) (xs : List X) (t : Bool) → p x ≡ t → cond t (Some x) (find p xs) ≡ None → (p x ≡ false) × (find p xs ≡ None)
find_by p x xs true e h = absurd cc
find_by p x xs false e h = (e, h)

pub find_none : {X : Type 0} (p : X → Bool) (xs : List X) → find p xs ≡ None → AllByRecursion (λ (x : X). p x ≡ false) xs
find_none p [] e = tt
find_none p (x ∷ xs) e = let both = find_by p x xs (p x) refl e in (both.0, find_none p xs both.1)

pub map_none : {X Y : Type 0} (f : X → Y) (o : Option X) → option_map f o ≡ None → o ≡ None
map_none f None e = refl
map_none f (Some x) e = absurd cc

pub not_false : (t : Bool) → not t ≡ false → t ≡ true
not_false true e = refl
not_false false e = absurd cc

pub or_true : (a b : Bool) → (a || b) ≡ true → (a ≡ true) ⊎ (b ≡ true)
or_true true b e = inl refl
or_true false b e = inr e

pub and_both : (a b : Bool) → (a && b) ≡ true → (a ≡ true) × (b ≡ true)
and_both true b e = (refl, e)
and_both false b e = absurd cc

abbrev pub copy_media : ℕ → ℕ → Payload
copy_media start end = record { start = start; end = Some end }

record Lies (start end : ℕ) (run : Run) : Type 0 where
  from : pos start ≤ℤ run.place
  to : (run.place +ℤ pos run.bytes) ≤ℤ pos end

lies_by : (start end : ℕ) (runs : List ListedRun) (run : Run) → not (may_be_placed (copy_media start end) runs (listed_run run)) ≡ false → (run.count ≡ 0) ⊎ Lies start end run
lies_by start end runs run e =
    elim (or_true (run.count == 0) _ (not_false (may_be_placed (copy_media start end) runs (listed_run run)) e)) [
      | inl none ↦ inl (is_same run.count 0 none)
      | inr some ↦
          let lies = and_both _ _ (and_both (lies_in (copy_media start end) (listed_run run)) _ some).0 in
          inr (record { from = le_from (pos start) run.place lies.0; to = le_from (run.place +ℤ pos run.bytes) (pos end) lies.1 })
    ]

all_lie : (start end : ℕ) (all : List ListedRun) (runs : List Run) → AllByRecursion (λ (r : ListedRun). not (may_be_placed (copy_media start end) all r) ≡ false) (map listed_run runs) → AllByRecursion (λ (run : Run). (run.count ≡ 0) ⊎ Lies start end run) runs
all_lie start end all [] h = tt
all_lie start end all (run ∷ runs) h = (lies_by start end all run h.0, all_lie start end all runs h.1)

runs_lie : (start end : ℕ) (runs : List Run) → place_fault (copy_media start end) runs ≡ None → AllByRecursion (λ (run : Run). (run.count ≡ 0) ⊎ Lies start end run) runs
runs_lie start end runs e = all_lie start end (map listed_run runs) runs (find_none _ (map listed_run runs) (map_none (λ (run : ListedRun). run_place_fault run.number) (first_offender (copy_media start end) (map listed_run runs)) e))

-- ---- what is asked of them

pub from_place : (z : ℤ) (start : ℕ) → pos start ≤ℤ z → (n : ℕ) × (z ≡ pos n)
from_place (pos n) start h = (n, refl)
from_place z start h = absurd (omega (arith, ints, h))

pub no_rows : (run : Run) (moof_bytes : List ℕ) → run.count ≡ 0 → rows_of run moof_bytes ≡ []
no_rows run moof_bytes e = ap (λ (n : ℕ). map (row_of run moof_bytes) (range_with_len 0 (n - 0))) e

run_in : (tracks : List Track) (start : ℕ) (payload moof_bytes : List ℕ) (run : Run) → IsSoundRun tracks moof_bytes run → (run.size < 2 ^ 32 → IsRunOf moof_bytes run) → (run.count ≡ 0) ⊎ Lies start (start + length payload) run → IsRunIn tracks start payload moof_bytes run
run_in tracks start payload moof_bytes run sound of (inl none) = record { sound = sound; of = of sound.size; lies = inl (no_rows run moof_bytes none) }
run_in tracks start payload moof_bytes run sound of (inr lies) =
    let at = from_place run.place start lies.from in
    record { sound = sound; of = of sound.size; lies = inr (record { at = at.0; place = at.1; from = omega (arith, ints, lies.from, at.1); to = omega (arith, ints, lies.to, at.1, (of sound.size).bytes) }) }

all_in : (tracks : List Track) (start : ℕ) (payload moof_bytes : List ℕ) (runs : List Run) → AllByRecursion (IsSoundRun tracks moof_bytes) runs → AreRunsOf moof_bytes runs → AllByRecursion (λ (run : Run). (run.count ≡ 0) ⊎ Lies start (start + length payload) run) runs → AllByRecursion (IsRunIn tracks start payload moof_bytes) runs
all_in tracks start payload moof_bytes [] a b c = tt
all_in tracks start payload moof_bytes (run ∷ runs) a b c = (run_in tracks start payload moof_bytes run a.0 b.0 c.0, all_in tracks start payload moof_bytes runs a.1 b.1 c.1)

pub all_kept : (P : Run → Type 0) (xs ys : List Run) → IsPermutation xs ys → AllByRecursion P xs → AllByRecursion P ys
all_kept P xs ys same all = recursion_from_All P ys (All-permutation P xs ys same (All-from_recursion P xs all))

-- the runs of a fragment without a fault
pub runs_in_payload : (h : MoofBytes) (tracks : List Track) (start : ℕ) (payload : List ℕ) → IsWhole h.bytes → IsBytes h.bytes → h.offset + length h.bytes ≤ 2 ^ 62 → AllByRecursion FitsTrack tracks → IsRead h tracks → place_fault (copy_media start (start + length payload)) (moof_runs h tracks) ≡ None
    → AllByRecursion (IsRunIn tracks start payload h.bytes) (taken_runs h tracks)
runs_in_payload h tracks start payload whole moof_bytes room all read placed =
    all_kept (IsRunIn tracks start payload h.bytes) (moof_runs h tracks) (taken_runs h tracks) (taken_permutes listed_run (moof_runs h tracks))
    (all_in tracks start payload h.bytes (moof_runs h tracks) (all_sound h tracks whole moof_bytes all read) (runs_are h tracks (omega (arith, room)) whole moof_bytes read) (runs_lie start (start + length payload) (moof_runs h tracks) placed))

-- ---- their numbers

given_none : (t : Bool) (f : Fault) → cond t (f ∷ []) [] ≡ [] → t ≡ false
given_none true f e = absurd cc
given_none false f e = refl

last_none : {X : Type 0} (xs ys : List X) → xs ++ ys ≡ [] → ys ≡ []
last_none [] ys e = e
last_none (x ∷ xs) ys e = absurd cc

pub has_numbers : (cut : Cut) (h : MoofBytes) (runs : List Run) (number : ℕ) → number ≤ 4294967296 → room_fault cut h runs number ≡ None → number + piece_count cut h.bytes runs ≤ 4294967296
unfolding rooms.room_faults
has_numbers cut h runs number low e =
    let none = last_none (rooms.index_faults cut h.bytes runs) _ (least-none (rooms.room_faults cut h runs number) e) in
    ltb-false _ _ (sym (past_last number (piece_count cut h.bytes runs) low) ∙ given_none (list_any (nat_lt 4294967295) (numbers number (piece_count cut h.bytes runs))) (sequence_fault h.offset) none)

pub counts_same : (cut : Cut) (moof_bytes : List ℕ) (start : ℕ) (payload : List ℕ) (tracks : List Track) (runs : List Run) → runs_count cut moof_bytes start payload tracks runs ≡ piece_count cut moof_bytes runs
counts_same cut moof_bytes start payload tracks [] = refl
counts_same cut moof_bytes start payload tracks (run ∷ runs) = omega (arith, counts_same cut moof_bytes start payload tracks runs, sum_by-cons (λ (r : Run). length (pieces_of cut moof_bytes r)) run runs)

-- ---- a fragment

same_end : (start a b : ℕ) → a ≡ b → ◌≡◌ {A = Payload} (record { start = start; end = Some a }) (copy_media start b)
same_end start a b e = cc

payload_is : (n : ℕ) (mdat : OneBox) → IsOne Mdat mdat → ◌≡◌ {A = Payload} (record { start = n + mdat.header.header_len; end = end_of n mdat.header.size }) (copy_media (n + mdat.header.header_len) (n + mdat.header.header_len + length (drop mdat.header.header_len mdat.bytes)))
payload_is n mdat one =
    let len : mdat.header.header_len ≤ length mdat.bytes = omega (arith, one.is.spelled.header_len, ap length one.is.whole, length-append one.is.header_bytes one.payload) in
    ap (λ (s : Size). record { start = n + mdat.header.header_len; end = end_of n s }) one.is.size
    ∙ same_end (n + mdat.header.header_len) _ _ (omega (arith, len, length-drop mdat.header.header_len mdat.bytes))

module _ (cut : Cut) (at number : ℕ) (tracks : List Track) (moof mdat : OneBox) (sound : IsSound (splitting cut) (context at (Some tracks) number) (MovieFragment moof mdat)) (moof_bytes : IsBytes moof.bytes) (room : at + length moof.bytes + length mdat.bytes ≤ 2 ^ 62) (all : AllByRecursion FitsTrack tracks) (low : number ≤ 4294967296) where
  abbrev h : MoofBytes
  h = moof_at moof.bytes at

  abbrev f : Fragment
  f = fragment_in (context at (Some tracks) number) moof mdat

  abbrev payload : List ℕ
  payload = drop mdat.header.header_len mdat.bytes

  good : (place_fault f.payload (moof_runs h tracks) ≡ None) × (room_fault cut h (moof_runs h tracks) number ≡ None)
  good = first_none (place_fault f.payload (moof_runs h tracks)) (room_fault cut h (moof_runs h tracks) number) sound.3

  pub fragment_runs : AllByRecursion (IsRunIn tracks f.payload.start payload moof.bytes) (taken_runs h tracks)
  fragment_runs =
      runs_in_payload h tracks f.payload.start payload (moof.header, sound.0.one.payload, sound.0.one.is) moof_bytes (omega (arith, room)) all sound.1
      (ap (λ (p : Payload). place_fault p (moof_runs h tracks)) (sym (payload_is (at + length moof.bytes) mdat sound.2)) ∙ good.0)

  pub fragment_count : runs_count cut moof.bytes f.payload.start payload tracks (taken_runs h tracks) ≡ piece_count cut moof.bytes (taken_runs h tracks)
  fragment_count = counts_same cut moof.bytes f.payload.start payload tracks (taken_runs h tracks)

  -- the recut text of a fragment without a fault has none, and the same samples
  pub fragment_recut : AreRecutAnywhere (without_index cut) number tracks (fragment_items cut f payload) (runs_out cut moof.bytes f.payload.start payload tracks number (runs_in f)) (runs_count cut moof.bytes f.payload.start payload tracks (runs_in f)) (media_samples_in f payload)
  fragment_recut =
      runs_recut cut moof.bytes f.payload.start payload tracks (omega (arith, room, length-drop mdat.header.header_len mdat.bytes)) number tracks (taken_runs h tracks)
      fragment_runs
      (omega (arith, has_numbers cut h (moof_runs h tracks) number low good.1, fragment_count, count_kept cut moof.bytes (moof_runs h tracks) (taken_runs h tracks) (taken_permutes listed_run (moof_runs h tracks))))
