-- What is known of the runs of a moof, for a list of them.
use Rattle.std.proofs.Common.{◌≡◌, ◌∙◌, ◌+◌, ◌*◌, ◌^◌, ◌<◌, ◌≤◌, ◌↔◌, ℕ, List, [], ◌∷◌, ◌++◌, length, Some, sym, ap, subst, arith}
use Rattle.std.specs.Prelude.{map, Result, Ok, Err}
use Rattle.mp4_ledger.specs.declared.ledger.Refused.{Refused}
use Rattle.std.specs.List.{All, AllByRecursion}
use Rattle.std.proofs.lemmas.List.{length-map}
use Rattle.mp4_box.specs.Headers.{IsBytes, IsWhole}
use Rattle.mp4_box.specs.Paths.{of_kind, at_path}
use Rattle.mp4_box.specs.Trees.{Box, box_at, box_len, children}
use Rattle.mp4_box.proofs.GrammarLemmas.{lies_at, whole_len}
use Rattle.mp4_init.specs.declared.table.Track.{Track}
use Rattle.mp4_run_order.specs.declared.runs.ListedRun.{ListedRun}
use Rattle.mp4_run_order.specs.Orders.{FitsKeys}
use Rattle.mp4_frag.specs.declared.run_list.run_row.RunRow.{RunRow}
use Rattle.mp4_traf.specs.Kinds.{to_trun, traf}
use Rattle.mp4_frag.specs.Moofs.{IsRead, moof_of, moof_runs}
use Rattle.mp4_traf.specs.Ranges.{IsSound}
use Rattle.mp4_frag.specs.Implementation.Rereads.{run_of_row}
use Rattle.mp4_frag.specs.Implementation.RunRows.{listed_row, listed_words, row_of_words, rows_of_trafs, rows_of_words}
use Rattle.mp4_traf.specs.Runs.{MoofBytes, traf_of, trafs_by}
use Rattle.mp4_frag.proofs.MoofLemmas.{moof_is}
use Rattle.mp4_frag.proofs.PlaceLemmas.{Lies, moof_lies}
use Rattle.mp4_frag.proofs.RunListLemmas.{Filled, Known, map_map}
use Rattle.mp4_frag.proofs.RunRowLemmas.{Given, RunsRise, few_runs, moof_given, moof_rows, moof_runs_rise, on_path, runs_by}
use Rattle.mp4_frag.proofs.SoundLemmas.{all_sound}

-- the box that the bytes of a moof are
pub record IsMoof (h : MoofBytes) (m : Box) : Type 0 where
  pub whole : IsWhole h.bytes
  pub fits : IsBytes h.bytes
  pub room : h.offset + length h.bytes ≤ 2 ^ 62
  pub here : box_at h.offset h.bytes ≡ Some m
  pub is : moof_of h ≡ m

pub is_moof : (offset : ℕ) (x : List ℕ) (m : Box) → IsWhole x → IsBytes x → offset + length x ≤ 2 ^ 62 → box_at offset x ≡ Some m → IsMoof (record { bytes = x; offset = offset }) m
is_moof offset x m whole fits room here = record { whole = whole; fits = fits; room = room; here = here; is = moof_is offset x m here }

-- that of a moof whose bytes these are
pub viewed_moof : (h : MoofBytes) (offset : ℕ) (x : List ℕ) (m : Box) → record { bytes = x; offset = offset } ≡ h → IsWhole x → IsBytes x → offset + length x ≤ 2 ^ 62 → box_at offset x ≡ Some m → IsMoof h m
viewed_moof h offset x m e whole fits room here = subst (λ (h : MoofBytes). IsMoof h m) e (is_moof offset x m whole fits room here)

lies : (h : MoofBytes) (m : Box) → IsMoof h m → Lies h m
lies h m f = moof_lies h m f.whole f.fits f.here

ends : (h : MoofBytes) (m : Box) → IsMoof h m → m.offset + box_len m ≤ 2 ^ 62
ends h m f =
    let s = lies_at h.offset h.bytes m f.fits f.here in
    omega (arith, s.place, whole_len h.offset h.bytes m f.whole f.here, f.room)

pub runs_are : (h : MoofBytes) (tracks : List Track) (m : Box) → IsMoof h m → moof_runs h tracks ≡ runs_by h tracks (of_kind traf (children m))
runs_are h tracks m f = ap (λ (b : Box). runs_by h tracks (of_kind traf (children b))) f.is

given : (h : MoofBytes) (tracks : List Track) (m : Box) → IsMoof h m → Given h tracks (rows_of_trafs h tracks (at_path (traf ∷ []) m)) (moof_runs h tracks)
given h tracks m f =
    subst (Given h tracks (rows_of_trafs h tracks (at_path (traf ∷ []) m))) (sym (runs_are h tracks m f)) (moof_given h tracks m (lies h m f) f.room)

rises : (h : MoofBytes) (tracks : List Track) (m : Box) → IsMoof h m → RunsRise (m.offset + box_len m) (moof_runs h tracks)
rises h tracks m f =
    subst (RunsRise (m.offset + box_len m)) (sym (runs_are h tracks m f)) (moof_runs_rise h tracks m (lies h m f).bytes)

-- one run for each trun
pub truns_are_runs : (h : MoofBytes) (tracks : List Track) (m : Box) → IsMoof h m → length (at_path to_trun m) ≡ length (moof_runs h tracks)
truns_are_runs h tracks m f =
    let rows = rows_of_trafs h tracks (at_path (traf ∷ []) m) in
    let g = given h tracks m f in
    let n = ap length g.runs_are in
    omega (arith, n, length-map rows (run_of_row h tracks), moof_rows h tracks m)

pub claim_is : (h : MoofBytes) (tracks : List Track) (m : Box) (n : ℕ) → IsMoof h m → n ≡ length (at_path to_trun m) → n ≡ length (moof_runs h tracks)
claim_is h tracks m n f e = e ∙ truns_are_runs h tracks m f

pub few_truns : (h : MoofBytes) (m : Box) → IsMoof h m → length (at_path to_trun m) ≤ 2 ^ 62
few_truns h m f =
    let n = few_runs (m.offset + box_len m) (moof_runs h []) (rises h [] m f) in
    omega (arith, n, truns_are_runs h [] m f, ends h m f)

pub room_for : (h : MoofBytes) (tracks : List Track) (m : Box) → length (rows_of_trafs h tracks (at_path (traf ∷ []) m)) ≡ length (at_path to_trun m)
room_for h tracks m = moof_rows h tracks m

each_sound : (h : MoofBytes) (tracks : List Track) (ts : List Box) → AllByRecursion IsSound (map (traf_of h tracks) ts) → AllByRecursion (λ t. IsSound (traf_of h tracks t)) ts
each_sound h tracks [] s = tt
each_sound h tracks (t ∷ ts) s = (s.0, each_sound h tracks ts s.1)

pub sound_trafs : (h : MoofBytes) (tracks : List Track) (m : Box) → IsMoof h m → IsRead h tracks → AllByRecursion (λ t. IsSound (traf_of h tracks t)) (at_path (traf ∷ []) m)
sound_trafs h tracks m f r =
    let near : h.offset ≤ 2 ^ 62 = omega (arith, f.room) in
    let all = all_sound h tracks m near f.whole f.fits f.here f.is r in
    let here = subst (λ (b : Box). AllByRecursion IsSound (trafs_by h tracks (children b))) f.is all in
    subst (λ (ts : List Box). AllByRecursion (λ t. IsSound (traf_of h tracks t)) ts) (sym (on_path traf m)) (each_sound h tracks (of_kind traf (children m)) here)

-- ---- once its rows are filled

-- rows that were put into an empty table
pub put_in : (ws all : List (List ℕ)) (rows : List RunRow) → ws ≡ [] → rows_of_words all ≡ rows_of_words ws ++ rows → rows_of_words all ≡ rows
put_in ws all rows e put = put ∙ ap (λ (vs : List (List ℕ)). rows_of_words vs ++ rows) e

pub filled : (h : MoofBytes) (tracks : List Track) (m : Box) (ws : List (List ℕ)) → IsMoof h m → rows_of_words ws ≡ rows_of_trafs h tracks (at_path (traf ∷ []) m) → Filled h tracks (rows_of_words ws)
filled h tracks m ws f e = subst (λ (rows : List RunRow). Given h tracks rows (moof_runs h tracks)) (sym e) (given h tracks m f)

pub known : (h : MoofBytes) (tracks : List Track) (m : Box) (ws : List (List ℕ)) → IsMoof h m → Filled h tracks (rows_of_words ws) → All FitsKeys (listed_words ws) → Known h tracks
known h tracks m ws f g fits = record {
  rise = (rises h tracks m f).rise;
  fits = subst (λ (xs : List ListedRun). All FitsKeys xs) (sym (map_map row_of_words listed_row ws) ∙ g.listed) fits;
}

pub length_filled : (h : MoofBytes) (tracks : List Track) (m : Box) (ws : List (List ℕ)) → rows_of_words ws ≡ rows_of_trafs h tracks (at_path (traf ∷ []) m) → length ws ≡ length (at_path to_trun m)
length_filled h tracks m ws e = omega (arith, ap length e, length-map ws row_of_words, moof_rows h tracks m)

-- ---- claims of as many rows

same_refusal : (A B : Type 0) (r f : Refused) → ◌≡◌ {A = Result A Refused} (Err r) (Err f) → ◌≡◌ {A = Result B Refused} (Err r) (Err f)
same_refusal A B r f e = let g : r ≡ f = cc in ap Err g

-- a refusal is handed on
pub refused_so : (A B : Type 0) (r f : Refused) (n m limit live : ℕ) → n ≡ m → ◌≡◌ {A = Result A Refused} (Err r) (Err f) ↔ (limit < live + 64 * n) → ◌≡◌ {A = Result B Refused} (Err r) (Err f) ↔ (limit < live + 64 * m)
refused_so A B r f n m limit live e h = (λ x. let g = h.0 (same_refusal B A r f x) in omega (arith, e, g), λ lt. same_refusal A B r f (h.1 (omega (arith, e, lt))))

-- and so is a claim
pub claimed_so : {A B : Type 0} (a : A) (b : B) (f : Refused) (n m limit live : ℕ) → n ≡ m → ◌≡◌ {A = Result A Refused} (Ok a) (Err f) ↔ (limit < live + 64 * n) → ◌≡◌ {A = Result B Refused} (Ok b) (Err f) ↔ (limit < live + 64 * m)
claimed_so a b f n m limit live e h = (λ x. absurd cc, λ lt. let g = h.1 (omega (arith, e, lt)) in absurd cc)
