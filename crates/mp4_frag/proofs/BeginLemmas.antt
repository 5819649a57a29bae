-- No run of a moof ends past 64 bits whose trafs have early times of their own.
use Rattle.std.proofs.Common.{◌≡◌, ◌∙◌, ◌^◌, ◌<◌, ◌≤◌, ◌++◌, ℕ, zero, suc, true, List, [], ◌∷◌, map, Option, Some, None, refl, ap, subst, arith, inl, inr}
use Rattle.std.specs.Prelude.{◌==◌, slice_get, nat_lt}
use Rattle.std.specs.List.{AllByRecursion, list_all, position}
use Rattle.std.specs.Option.{option_and_then, unwrap_or}
use Rattle.std.proofs.lemmas.Bool.{ltb-true}
use Rattle.mp4_box.specs.declared.rules.Fault.{Fault}
use Rattle.mp4_box.proofs.GrammarLemmas.{option_is, whole_found}
use Rattle.mp4_box.specs.Headers.{IsBytes, IsWhole}
use Rattle.mp4_box.specs.Paths.{at_path, of_kind}
use Rattle.mp4_box.specs.Trees.{Box, box_at, children, first_of}
use Rattle.mp4_init.specs.declared.table.Track.{Track}
use Rattle.mp4_init.specs.TrackFields.{FitsTrackFields}
use Rattle.mp4_frag.specs.Implementation.AtOnce.{StartsEarly}
use Rattle.mp4_traf.specs.Kinds.{tfdt, traf, trun}
use Rattle.mp4_frag.specs.Moofs.{moof_of, moof_trafs, time_faults}
use Rattle.mp4_frag.specs.Rules.{count_faults}
use Rattle.mp4_traf.specs.Rules.{most_in_moof, samples_in}
use Rattle.mp4_traf.specs.Runs.{MoofBytes, base_by, begins_early, no_track, tfhd_of, track_of, traf_of, trafs_by}
use Rattle.mp4_traf.specs.Tfdt.{base_media_decode_time}
use Rattle.mp4_traf.specs.Tfhd.{track_id}
use Rattle.mp4_frag.proofs.EarlyLemmas.{begun_in_time, both_true}
use Rattle.mp4_frag.proofs.MoofLemmas.{moof_is}
use Rattle.mp4_traf.proofs.ChildLemmas.{on_path}
use Rattle.mp4_frag.proofs.PlaceLemmas.{Lies, children_lie, kind_all, moof_lies}
use Rattle.mp4_frag.proofs.SoundLemmas.{trafs_few}

-- ---- a track's default duration has 32 bits

found_small : (tracks : List Track) (i : ℕ) → AllByRecursion FitsTrackFields tracks → (unwrap_or (slice_get tracks i) no_track).duration < 2 ^ 32
found_small [] i small = omega arith
found_small (t ∷ ts) zero small = small.0.duration
found_small (t ∷ ts) (suc i) small = found_small ts i small.1

duration_small : (tracks : List Track) (o : Option ℕ) → AllByRecursion FitsTrackFields tracks → (unwrap_or (option_and_then (slice_get tracks) o) no_track).duration < 2 ^ 32
duration_small tracks None small = omega arith
duration_small tracks (Some i) small = found_small tracks i small

-- ---- such a traf begins early, wherever its track ended

by_own : (next : ℕ) (o : Option Box) → nat_lt (base_by (2 ^ 63) o) (2 ^ 63) ≡ true → base_by next o < 2 ^ 63
by_own next None early = absurd (let less = ltb-true (2 ^ 63) (2 ^ 63) early in omega (arith, less))
by_own next (Some b) early = ltb-true (base_media_decode_time b.payload) (2 ^ 63) early

-- ---- the trafs of a moof

trafs_begin : (h : MoofBytes) (tracks : List Track) (ts : List Box) → IsBytes h.bytes → AllByRecursion FitsTrackFields tracks → AllByRecursion (Lies h) ts → AllByRecursion (λ (t : Box). samples_in (of_kind trun (children t)) ≤ most_in_moof) ts
    → list_all begins_early ts ≡ true → time_faults (map (traf_of h tracks) ts) ≡ []
trafs_begin h tracks [] fits small lie few early = refl
trafs_begin h tracks (t ∷ ts) fits small lie few early =
    let soon = both_true (begins_early t) (list_all begins_early ts) early in
    let track = duration_small tracks (position (λ (x : Track). x.id == track_id (tfhd_of t)) tracks) small in
    let own : StartsEarly tracks t = by_own (track_of tracks t).next (first_of (at_path (tfdt ∷ []) t)) soon.0 in
    ap (λ (fs : List Fault). fs ++ time_faults (map (traf_of h tracks) ts)) (begun_in_time h tracks t fits lie.0 few.0 own track) ∙ trafs_begin h tracks ts fits small lie.1 few.1 soon.1

pub begin_in_time : (h : MoofBytes) (tracks : List Track) → IsWhole h.bytes → IsBytes h.bytes → AllByRecursion FitsTrackFields tracks → count_faults (moof_of h) ≡ [] → list_all begins_early (at_path (traf ∷ []) (moof_of h)) ≡ true → time_faults (moof_trafs h tracks) ≡ []
begin_in_time h tracks whole fits small count early =
    elim (option_is (box_at h.offset h.bytes)) [
      | inl none ↦ absurd (whole_found h.offset h.bytes whole none)
      | inr some ↦
          let m = some.0 in
          let is = moof_is h.offset h.bytes m some.1 in
          let lie = kind_all (Lies h) traf (children m) (children_lie h m (moof_lies h m whole fits some.1)) in
          let few = trafs_few m (subst (λ (b : Box). count_faults b ≡ []) is count) in
          let soon = subst (λ (b : Box). list_all begins_early (at_path (traf ∷ []) b) ≡ true) is early in
          let on = subst (λ (ts : List Box). list_all begins_early ts ≡ true) (on_path m) soon in
          ap (λ (b : Box). time_faults (trafs_by h tracks (children b))) is ∙ trafs_begin h tracks (of_kind traf (children m)) fits small lie few on
    ]
