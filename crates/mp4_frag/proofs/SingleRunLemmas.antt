-- A moof with one traf, and one trun in it.
use Rattle.std.proofs.Common.{◌≡◌, ◌≢◌, ◌∙◌, ◌+◌, ◌^◌, ◌<◌, ◌≤◌, ◌==◌, ◌↔◌, Bool, ℕ, ℤ, pos, true, List, [], ◌∷◌, map, length, Option, Some, None, refl, sym, ap, subst, arith, append-nil}
use Rattle.std.specs.Prelude.{IfNone, IfSome, IsSome, slice_get}
use Rattle.std.specs.List.{AllByRecursion, flat_map, position}
use Rattle.std.specs.Option.{is_some, option_and_then, unwrap_or}
use Rattle.mp4_box.specs.Checks.{along, alone, one}
use Rattle.mp4_box.specs.Paths.{at_path, of_kind}
use Rattle.mp4_box.specs.Trees.{Box, children, first_of, view}
use Rattle.mp4_box.specs.declared.box_ref.BoxRef.{BoxRef}
use Rattle.mp4_init.specs.declared.table.Track.{Track}
use Rattle.mp4_init.specs.Tracks.{with_next}
use Rattle.mp4_frag.specs.declared.single_run.SingleRun.{SingleRun}
use Rattle.mp4_traf.specs.declared.run.Run.{Run}
use Rattle.mp4_traf.specs.declared.traf.TrafHeader.{TrafHeader}
use Rattle.mp4_traf.specs.Fields.{payload_of}
use Rattle.mp4_traf.specs.Kinds.{tfhd, to_tfhd, traf, trun}
use Rattle.mp4_frag.specs.SingleRuns.{IsSingle}
use Rattle.mp4_frag.specs.Moofs.{IsRead, moof_of, moof_runs, moof_samples, moof_trafs, sequence_of}
use Rattle.mp4_traf.specs.Ranges.{InRange, IsSound}
use Rattle.mp4_traf.specs.Rows.{rows_of}
use Rattle.mp4_frag.specs.Rules.{form_faults}
use Rattle.mp4_traf.specs.Rules.{tfhd_faults, track_faults, track_with}
use Rattle.mp4_traf.specs.Runs.{MoofBytes, Shared, TrackFragment, base_of, end_in, end_of, header_by, no_track, track_of, end_place, last_end, run_of, runs_from, runs_of, shared_by, tfhd_of, traf_of, trafs_by}
use Rattle.mp4_traf.specs.Settling.{ended_at, settled}
use Rattle.mp4_traf.specs.Tfhd.{track_id}
use Rattle.mp4_traf.specs.Implementation.Times.{ticks_in}
use Rattle.mp4_frag.proofs.MoofLemmas.{early, last_none, read_early, values}
use Rattle.mp4_traf.proofs.ChildLemmas.{path_kind}
use Rattle.mp4_frag.proofs.MoofListLemmas.{IsMoof}
use Rattle.mp4_traf.proofs.RowLemmas.{length_rows_of}
use Rattle.mp4_traf.proofs.RunLemmas.{first_in_range}
use Rattle.mp4_frag.proofs.SoundLemmas.{all_sound, rows_are_samples}
use Rattle.mp4_traf.proofs.StartLemmas.{Starts, runs_are, runs_in_range}

-- ---- the only trun of a traf

run_count : (s : Shared) (time : ℕ) (last : ℤ) (bs : List Box) → length (runs_from s time last bs) ≡ length bs
unfolding runs_from
run_count s time last [] = refl
run_count s time last (b ∷ bs) = let e = run_count s (run_of s time last b).end (end_place (run_of s time last b)) bs in omega (arith, e)

only_run : (s : Shared) (time : ℕ) (last : ℤ) (b : Box) (bs : List Box) → bs ≡ b ∷ [] → runs_from s time last bs ≡ run_of s time last b ∷ []
unfolding runs_from
only_run s time last b bs e = rw e refl

-- the run of a traf with one trun
pub record Single (h : MoofBytes) (tracks : List Track) (t : Box) (s : Shared) (time : ℕ) (last : ℤ) (b : Box) : Type 0 where
  pub is : runs_of (traf_of h tracks t) ≡ run_of s time last b ∷ []
  pub range : InRange (run_of s time last b)
  pub fits : time + ticks_in s b < 2 ^ 64

pub single_run : (h : MoofBytes) (tracks : List Track) (t : Box) (s : Shared) (time : ℕ) (last : ℤ) (bs : List Box) (b : Box) → Starts h tracks t s time last bs → s.header.size < 2 ^ 32 → IsSound (traf_of h tracks t) → of_kind trun bs ≡ b ∷ [] → Single h tracks t s time last b
single_run h tracks t s time last bs b starts small sound e =
    let first = first_in_range s time last b (of_kind trun bs) [] e (runs_in_range h tracks t s time last bs starts small sound) in
    record {
      is = sym (runs_are h tracks t s time last bs starts) ∙ only_run s time last b (of_kind trun bs) e;
      range = first.here;
      fits = first.fits;
    }

-- its track was found by its tfhd, and its time
pub single_found : (h : MoofBytes) (tracks : List Track) (t b : Box) (p : List ℕ) (id : ℕ) (o : Option ℕ) (track : Track) (header : TrafHeader) (ends time : ℕ) (last : ℤ)
    → p ≡ tfhd_of t → id ≡ track_id p → o ≡ position (λ (x : Track). x.id == id) tracks → track ≡ unwrap_or (option_and_then (slice_get tracks) o) no_track → header ≡ header_by track p → header.size < 2 ^ 32 → ends ≡ end_in h t → time ≡ base_of track.next t → last ≡ pos h.offset
    → IsSound (traf_of h tracks t) → of_kind trun (children t) ≡ b ∷ [] → Single h tracks t (record { moof = h; header = header; ends_at = ends }) time last b
single_found h tracks t b p id o track header ends time last tfhd is found at by small end begins place sound e =
    let known : track ≡ track_of tracks t = at ∙ ap (λ (q : Option ℕ). unwrap_or (option_and_then (slice_get tracks) q) no_track) (found ∙ ap (λ (k : ℕ). position (λ (x : Track). x.id == k) tracks) (is ∙ ap track_id tfhd)) in
    let starts : Starts h tracks t (record { moof = h; header = header; ends_at = ends }) time last (children t) = record {
      shared = rw (by, end, known, tfhd) refl;
      begins = begins ∙ ap (λ (x : Track). base_of x.next t) known;
      last = place;
      truns = refl;
    } in
    single_run h tracks t (record { moof = h; header = header; ends_at = ends }) time last (children t) b starts small sound e

pub not_single : (h : MoofBytes) (tracks : List Track) (t : Box) (s : Shared) (time : ℕ) (last : ℤ) (bs : List Box) → Starts h tracks t s time last bs → length (of_kind trun bs) ≢ 1 → length (runs_of (traf_of h tracks t)) ≢ 1
not_single h tracks t s time last bs starts more one =
    more (sym (run_count s time last (of_kind trun bs)) ∙ ap length (runs_are h tracks t s time last bs starts) ∙ one)

-- ---- the only traf of a moof

pub one_traf : (h : MoofBytes) (tracks : List Track) (m t : Box) → moof_of h ≡ m → of_kind traf (children m) ≡ t ∷ [] → moof_trafs h tracks ≡ traf_of h tracks t ∷ []
one_traf h tracks m t is e = ap (λ (b : Box). trafs_by h tracks (children b)) is ∙ ap (map (traf_of h tracks)) e

pub one_sound : (h : MoofBytes) (tracks : List Track) (m t : Box) → IsMoof h m → IsRead h tracks → of_kind traf (children m) ≡ t ∷ [] → IsSound (traf_of h tracks t)
one_sound h tracks m t f read e =
    let near : h.offset ≤ 2 ^ 62 = omega (arith, f.room) in
    (subst (λ (ts : List TrackFragment). AllByRecursion IsSound ts) (one_traf h tracks m t f.is e) (all_sound h tracks m near f.whole f.fits f.here f.is read)).0

-- its runs are those of the moof
moof_is_one : (h : MoofBytes) (tracks : List Track) (m t : Box) → moof_of h ≡ m → of_kind traf (children m) ≡ t ∷ [] → moof_runs h tracks ≡ runs_of (traf_of h tracks t)
moof_is_one h tracks m t is e = ap (flat_map runs_of) (one_traf h tracks m t is e) ∙ append-nil (runs_of (traf_of h tracks t))

-- as many as it has truns
pub runs_count : (h : MoofBytes) (tracks : List Track) (m t : Box) → moof_of h ≡ m → of_kind traf (children m) ≡ t ∷ [] → length (moof_runs h tracks) ≡ length (of_kind trun (children t))
runs_count h tracks m t is e =
    let track = track_of tracks t in
    let starts : Starts h tracks t (shared_by h track t) (base_of track.next t) (pos h.offset) (children t) = record { shared = refl; begins = refl; last = refl; truns = refl } in
    ap length (moof_is_one h tracks m t is e)
    ∙ ap length (sym (runs_are h tracks t (shared_by h track t) (base_of track.next t) (pos h.offset) (children t) starts))
    ∙ run_count (shared_by h track t) (base_of track.next t) (pos h.offset) (of_kind trun (children t))

pub only_one : (o : Option BoxRef) (bs : List Box) → IfSome o (λ b. bs ≡ view b ∷ []) → IfNone o (length bs ≢ 1) → (is_some o ≡ true) ↔ (length bs ≡ 1)
only_one None bs only none = (λ e. absurd cc, λ e. absurd (none e))
only_one (Some b) bs only none = (λ _. ap length only, λ _. refl)

pub one_run : (h : MoofBytes) (tracks : List Track) (m t : Box) (one : Bool) → moof_of h ≡ m → of_kind traf (children m) ≡ t ∷ [] → (one ≡ true) ↔ (length (of_kind trun (children t)) ≡ 1)
    → (one ≡ true) ↔ ((length (moof_trafs h tracks) ≡ 1) × (length (moof_runs h tracks) ≡ 1))
one_run h tracks m t one is e found =
    let runs = runs_count h tracks m t is e in
    (λ yes. (ap length (one_traf h tracks m t is e), runs ∙ found.0 yes), λ both. found.1 (sym runs ∙ both.1))

-- ---- its track is known

some_position : (tracks : List Track) (o : Option ℕ) (b : Box) → track_faults (option_and_then (slice_get tracks) o) b ≡ [] → IsSome o
some_position tracks None b e = absurd cc
some_position tracks (Some i) b e = refl

id_known : (tracks : List Track) (b : Box) → tfhd_faults tracks b ≡ [] → IsSome (position (λ (t : Track). t.id == track_id b.payload) tracks)
unfolding tfhd_faults
id_known tracks b e = some_position tracks (position (λ (t : Track). t.id == track_id b.payload) tracks) b (last_none _ (track_faults (track_with (track_id b.payload) tracks) b) e).1

header_known : (tracks : List Track) (t : Box) (hs : List Box) → alone t hs ≡ [] → flat_map (tfhd_faults tracks) hs ≡ [] → IsSome (position (λ (x : Track). x.id == track_id (payload_of (first_of hs))) tracks)
header_known tracks t [] a e = absurd cc
header_known tracks t (b ∷ bs) a e = id_known tracks b (last_none (tfhd_faults tracks b) (flat_map (tfhd_faults tracks) bs) e).0

one_header : (m : Box) → form_faults m ≡ [] → along (one tfhd) (traf ∷ []) m ≡ []
unfolding form_faults
one_header m e =
    let a = last_none _ _ e in
    let b = last_none _ _ a.0 in
    let c = last_none _ _ b.0 in
    let d = last_none _ _ c.0 in
    let f = last_none _ _ d.0 in
    (last_none _ _ f.0).1

-- of the only traf
traf_known : (tracks : List Track) (m t : Box) → along (one tfhd) (traf ∷ []) m ≡ [] → along (tfhd_faults tracks) to_tfhd m ≡ [] → of_kind traf (children m) ≡ t ∷ [] → IsSome (position (λ (x : Track). x.id == track_id (tfhd_of t)) tracks)
unfolding at_path
traf_known tracks m t form value e =
    let hs : List Box = of_kind tfhd (children t) in
    let alone_so : alone t hs ≡ [] = (last_none (one tfhd t) [] (ap (flat_map (one tfhd)) (sym (path_kind traf m ∙ e)) ∙ form)).0 in
    let path : at_path to_tfhd m ≡ at_path (tfhd ∷ []) t = ap (flat_map (at_path (tfhd ∷ []))) e ∙ append-nil (at_path (tfhd ∷ []) t) in
    let none : flat_map (tfhd_faults tracks) hs ≡ [] = ap (flat_map (tfhd_faults tracks)) (sym (path ∙ path_kind tfhd t)) ∙ value in
    subst (λ (bs : List Box). IsSome (position (λ (x : Track). x.id == track_id (payload_of (first_of bs))) tracks)) (sym (path_kind tfhd t)) (header_known tracks t hs alone_so none)

pub one_known : (h : MoofBytes) (tracks : List Track) (m t : Box) → moof_of h ≡ m → IsRead h tracks → of_kind traf (children m) ≡ t ∷ [] → IsSome (position (λ (x : Track). x.id == track_id (tfhd_of t)) tracks)
one_known h tracks m t is read e =
    let none = early h tracks (read_early h tracks read) in
    let form : along (one tfhd) (traf ∷ []) m ≡ [] = ap (along (one tfhd) (traf ∷ [])) (sym is) ∙ one_header (moof_of h) none.form in
    let value : along (tfhd_faults tracks) to_tfhd m ≡ [] = ap (along (tfhd_faults tracks) to_tfhd) (sym is) ∙ (values tracks (moof_of h) none.value).tfhds in
    traf_known tracks m t form value e

-- ---- the moof by its run

run_samples : (h : MoofBytes) (tracks : List Track) (run : Run) → moof_runs h tracks ≡ run ∷ [] → run.count ≡ moof_samples h
run_samples h tracks run e =
    sym (ap length (append-nil (rows_of run h.bytes)) ∙ length_rows_of run h.bytes)
    ∙ ap (λ (runs : List Run). length (flat_map (λ (r : Run). rows_of r h.bytes) runs)) (sym e)
    ∙ rows_are_samples h tracks

traf_id : (h : MoofBytes) (tracks : List Track) (t : Box) → (traf_of h tracks t).shared.header.track ≡ track_id (tfhd_of t)
unfolding traf_of
traf_id h tracks t = refl

end_by : (time : ℕ) (run : Run) (runs : List Run) → runs ≡ run ∷ [] → last_end time runs ≡ run.end
end_by time run runs e = rw e refl

run_ends : (h : MoofBytes) (tracks : List Track) (m t : Box) (run : Run) (i : ℕ) → moof_of h ≡ m → of_kind traf (children m) ≡ t ∷ [] → runs_of (traf_of h tracks t) ≡ run ∷ [] → position (λ (x : Track). x.id == track_id (tfhd_of t)) tracks ≡ Some i
    → settled tracks (moof_trafs h tracks) ≡ with_next i run.end tracks
run_ends h tracks m t run i is e only at =
    ap (settled tracks) (one_traf h tracks m t is e)
    ∙ ap (λ (id : ℕ). ended_at (position (λ (x : Track). x.id == id) tracks) (end_of (traf_of h tracks t)) tracks) (traf_id h tracks t)
    ∙ ap (λ (o : Option ℕ). ended_at o (end_of (traf_of h tracks t)) tracks) at
    ∙ ap (λ (n : ℕ). with_next i n tracks) (end_by (traf_of h tracks t).time run (runs_of (traf_of h tracks t)) only)

-- ---- the findings on a moof with one run

pub one_single : (h : MoofBytes) (tracks : List Track) (m t : Box) (l : SingleRun) → moof_of h ≡ m → of_kind traf (children m) ≡ t ∷ [] → IsRead h tracks → runs_of (traf_of h tracks t) ≡ l.run ∷ [] → InRange l.run
    → position (λ (x : Track). x.id == track_id (tfhd_of t)) tracks ≡ Some l.track → l.track < length tracks → l.sequence ≡ sequence_of h → IsSingle h tracks l
one_single h tracks m t l is e read only range at known sequence =
    let run = moof_is_one h tracks m t is e ∙ only in
    record {
      read = read;
      traf = ap length (one_traf h tracks m t is e);
      run = run;
      range = range;
      samples = run_samples h tracks l.run run;
      sequence = sequence;
      known = known;
      ends = run_ends h tracks m t l.run l.track is e only at;
    }

pub single_found_in : (h : MoofBytes) (tracks : List Track) (m t : Box) (o : Option SingleRun) → moof_of h ≡ m → of_kind traf (children m) ≡ t ∷ [] → IsRead h tracks → IfSome o (λ l. runs_of (traf_of h tracks t) ≡ l.run ∷ []) → IfSome o (λ l. InRange l.run)
    → IfSome o (λ l. position (λ (x : Track). x.id == track_id (tfhd_of t)) tracks ≡ Some l.track) → IfSome o (λ l. l.track < length tracks) → IfSome o (λ l. l.sequence ≡ sequence_of h) → IfSome o (λ l. IsSingle h tracks l)
single_found_in h tracks m t None is e read only range at known sequence = tt
single_found_in h tracks m t (Some l) is e read only range at known sequence = one_single h tracks m t l is e read only range at known sequence
