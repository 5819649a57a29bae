-- The tracks after a moof: the ends before it serve each traf that has no tfdt.
use Rattle.std.proofs.Common.{◌≡◌, ◌∙◌, ◌+◌, ◌^◌, ◌<◌, ◌≤◌, ◌==◌, ◌&&◌, ℕ, pos, suc, Bool, true, false, cond, List, [], ◌∷◌, ◌++◌, map, Option, Some, None, refl, sym, ap, subst, arith, length}
use Rattle.std.specs.Prelude.{option_map, slice_get}
use Rattle.std.specs.List.{AllByRecursion, flat_map, fold, position, position_from}
use Rattle.std.specs.Option.{is_none, option_and_then, unwrap_or}
use Rattle.std.proofs.lemmas.Bool.{lt-ltb}
use Rattle.std.proofs.lemmas.Iterator.Adapters.{position_from-zero}
use Rattle.mp4_box.specs.declared.rules.Fault.{Fault}
use Rattle.mp4_box.specs.declared.rules.Rule.TheVariants.{Unsupported}
use Rattle.mp4_box.specs.Headers.{IsBytes, IsWhole}
use Rattle.std.proofs.lemmas.List.Sums.{sum_by-append}
use Rattle.mp4_box.specs.Paths.{at_path, of_kind, paths_below}
use Rattle.mp4_box.specs.Trees.{Box, box_at, children, first_of}
use Rattle.mp4_init.specs.declared.table.Track.{Track}
use Rattle.mp4_init.specs.Tracks.{with_next}
use Rattle.mp4_init.proofs.RowLemmas.{length_with_next}
use Rattle.mp4_init.proofs.SearchTreeLemmas.{is_same}
use Rattle.mp4_traf.specs.declared.run.Run.{Run}
use Rattle.mp4_traf.specs.Kinds.{tfdt, traf, trun}
use Rattle.mp4_traf.specs.Rules.{fault_if, track_with}
use Rattle.mp4_traf.specs.Tfhd.{track_id}
use Rattle.mp4_traf.specs.Runs.{MoofBytes, TrackFragment, base_by, base_of, end_of, header_by, no_track, runs_of, tfhd_of, traf_of, trafs_by, track_of}
use Rattle.mp4_traf.specs.Ranges.{IsSound}
use Rattle.mp4_frag.specs.Moofs.{IsRead, moof_of, moof_trafs}
use Rattle.mp4_traf.specs.TimeFaults.{late}
use Rattle.mp4_frag.specs.Repeats.{traf_id, lacks_time, is_listed, is_repeat, repeat_faults, repeats}
use Rattle.mp4_traf.specs.Settling.{ended, ended_at, settled, timed, timed_in, with_end}
use Rattle.mp4_frag.specs.Implementation.SettlingSteps.{EachInTime, settled_on}
use Rattle.mp4_traf.specs.Implementation.Ends.{EndsInTime}
use Rattle.mp4_frag.specs.Laws.{in_turn}
use Rattle.mp4_traf.proofs.ChildLemmas.{on_path}
use Rattle.mp4_frag.proofs.MoofLemmas.{early, read_early, values}
use Rattle.mp4_frag.proofs.PassLemmas.{listed-append}
use Rattle.mp4_frag.proofs.SoundLemmas.{all_sound}
use Rattle.mp4_traf.proofs.TimeLemmas.{late_are}

-- ---- the track of a track_ID

shift : (p : Track → Bool) (i : ℕ) (ts : List Track) → position_from p (i + 1) ts ≡ option_map suc (position_from p i ts)
shift p i [] = refl
shift p i (t ∷ ts) = by (p t) (shift p (i + 1) ts)
  where
    by : (u : Bool) → position_from p (i + 1 + 1) ts ≡ option_map suc (position_from p (i + 1) ts) → cond u (Some (i + 1)) (position_from p (i + 1 + 1) ts) ≡ option_map suc (cond u (Some i) (position_from p (i + 1) ts))
    by true e = ap (λ (n : ℕ). Some n) (omega arith)
    by false e = e

position_first : (p : Track → Bool) (t : Track) (ts : List Track) → position p (t ∷ ts) ≡ cond (p t) (Some 0) (option_map suc (position p ts))
position_first p t ts =
    position_from-zero p (t ∷ ts)
    ∙ ap (λ (o : Option ℕ). cond (p t) (Some 0) o) (shift p 0 ts)
    ∙ ap (λ (o : Option ℕ). cond (p t) (Some 0) (option_map suc o)) (sym (position_from-zero p ts))

with_first : (id : ℕ) (t : Track) (ts : List Track) → track_with id (t ∷ ts) ≡ cond (t.id == id) (Some t) (track_with id ts)
with_first id t ts = ap (option_and_then (slice_get (t ∷ ts))) (position_first (λ (t : Track). t.id == id) t ts) ∙ by (t.id == id) (position (λ (t : Track). t.id == id) ts)
  where
    by : (u : Bool) (o : Option ℕ) → option_and_then (slice_get (t ∷ ts)) (cond u (Some 0) (option_map suc o)) ≡ cond u (Some t) (option_and_then (slice_get ts) o)
    by true o = refl
    by false None = refl
    by false (Some i) = refl

end_first : (id next : ℕ) (t : Track) (ts : List Track) → with_end id next (t ∷ ts) ≡ cond (t.id == id) (record t { next = next } ∷ ts) (t ∷ with_end id next ts)
unfolding with_next
end_first id next t ts = ap (λ (o : Option ℕ). ended_at o next (t ∷ ts)) (position_first (λ (t : Track). t.id == id) t ts) ∙ by (t.id == id) (position (λ (t : Track). t.id == id) ts)
  where
    by : (u : Bool) (o : Option ℕ) → ended_at (cond u (Some 0) (option_map suc o)) next (t ∷ ts) ≡ cond u (record t { next = next } ∷ ts) (t ∷ ended_at o next ts)
    by true o = refl
    by false None = refl
    by false (Some i) = refl

-- the end of another track changes nothing
not_both : (x y z : ℕ) → (x == y) ≡ true → (y == z) ≡ false → (x == z) ≡ false
not_both x y z e f = ap (λ (n : ℕ). n == z) (is_same x y e) ∙ f

other_kept : (id other next : ℕ) (ts : List Track) → (other == id) ≡ false → track_with id (with_end other next ts) ≡ track_with id ts
other_kept id other next [] apart = refl
other_kept id other next (t ∷ ts) apart =
    ap (track_with id) (end_first other next t ts)
    ∙ by (t.id == other) refl (other_kept id other next ts apart)
    ∙ sym (with_first id t ts)
  where
    by : (u : Bool) → (t.id == other) ≡ u → track_with id (with_end other next ts) ≡ track_with id ts
        → track_with id (cond u (record t { next = next } ∷ ts) (t ∷ with_end other next ts)) ≡ cond (t.id == id) (Some t) (track_with id ts)
    by true e rest =
        with_first id (record t { next = next }) ts
        ∙ ap (λ (v : Bool). cond v (Some (record t { next = next })) (track_with id ts)) (not_both t.id other id e apart)
        ∙ sym (ap (λ (v : Bool). cond v (Some t) (track_with id ts)) (not_both t.id other id e apart))
    by false e rest = with_first id t (with_end other next ts) ∙ ap (λ (o : Option Track). cond (t.id == id) (Some t) o) rest

-- of a track, but for its end
abbrev but_end : Track → Track
but_end t = record t { next = 0 }

map_cond : (u : Bool) (a : Track) (b : Option Track) → option_map but_end (cond u (Some a) b) ≡ cond u (Some (but_end a)) (option_map but_end b)
map_cond true a b = refl
map_cond false a b = refl

end_kept : (id other next : ℕ) (ts : List Track) → option_map but_end (track_with id (with_end other next ts)) ≡ option_map but_end (track_with id ts)
end_kept id other next [] = refl
end_kept id other next (t ∷ ts) =
    ap (λ (xs : List Track). option_map but_end (track_with id xs)) (end_first other next t ts)
    ∙ by (t.id == other) (end_kept id other next ts)
    ∙ sym (ap (option_map but_end) (with_first id t ts) ∙ map_cond (t.id == id) t (track_with id ts))
  where
    by : (u : Bool) → option_map but_end (track_with id (with_end other next ts)) ≡ option_map but_end (track_with id ts)
        → option_map but_end (track_with id (cond u (record t { next = next } ∷ ts) (t ∷ with_end other next ts))) ≡ cond (t.id == id) (Some (but_end t)) (option_map but_end (track_with id ts))
    by true rest = ap (option_map but_end) (with_first id (record t { next = next }) ts) ∙ map_cond (t.id == id) (record t { next = next }) (track_with id ts)
    by false rest =
        ap (option_map but_end) (with_first id t (with_end other next ts)) ∙ map_cond (t.id == id) t (track_with id (with_end other next ts)) ∙ ap (λ (o : Option Track). cond (t.id == id) (Some (but_end t)) o) rest

-- ---- the tracks so far and those before the moof

-- of tracks that none of these trafs has, the ends are as they were, and all else is
record Agree (now before : List Track) (earlier : List Box) : Type 0 where
  same : (id : ℕ) → is_listed id earlier ≡ false → track_with id now ≡ track_with id before
  like : (id : ℕ) → option_map but_end (track_with id now) ≡ option_map but_end (track_with id before)

neither : (a b : Bool) → cond a true b ≡ false → (a ≡ false) × (b ≡ false)
neither true b e = absurd cc
neither false b e = (refl, e)

listed_one : (id : ℕ) (t : Box) → is_listed id (t ∷ []) ≡ false → (traf_id t == id) ≡ false
unfolding is_listed
listed_one id t e = (neither (traf_id t == id) false e).0

agree_after : (now before : List Track) (earlier : List Box) (t : Box) (next : ℕ) → Agree now before earlier → Agree (with_end (traf_id t) next now) before (earlier ++ t ∷ [])
agree_after now before earlier t next a = record {
  same = λ id e.
      let both = neither (is_listed id earlier) (is_listed id (t ∷ [])) (sym (listed-append id earlier (t ∷ [])) ∙ e) in
      other_kept id (traf_id t) next now (listed_one id t both.1) ∙ a.same id both.0;
  like = λ id. end_kept id (traf_id t) next now ∙ a.like id;
}

-- ---- a traf by either

known_like : (a b : Option Track) → option_map but_end a ≡ option_map but_end b → but_end (unwrap_or a no_track) ≡ but_end (unwrap_or b no_track)
known_like None None e = refl
known_like None (Some t) e = absurd cc
known_like (Some t) None e = absurd cc
known_like (Some t) (Some u) e = cc

header_like : (t u : Track) (p : List ℕ) → but_end t ≡ but_end u → header_by t p ≡ header_by u p
header_like t u p e = ap (λ (x : Track). header_by x p) e

base_like : (n m : ℕ) (time : Option Box) → (is_none time ≡ true → n ≡ m) → base_by n time ≡ base_by m time
base_like n m None f = f refl
base_like n m (Some b) f = refl

id_is : (t : Box) → traf_id t ≡ track_id (tfhd_of t)
unfolding traf_id
id_is t = refl

base_same : (now before : List Track) (earlier : List Box) (t : Box) → Agree now before earlier → is_repeat earlier t ≡ false → base_of (track_of now t).next t ≡ base_of (track_of before t).next t
unfolding lacks_time
base_same now before earlier t a e =
    base_like (track_of now t).next (track_of before t).next (first_of (at_path (tfdt ∷ []) t))
    (λ none.
    let unlisted : is_listed (traf_id t) earlier ≡ false = ap (λ (u : Bool). u && is_listed (traf_id t) earlier) (sym none) ∙ e in
    ap (λ (o : Option Track). (unwrap_or o no_track).next) (ap (λ (id : ℕ). track_with id now) (sym (id_is t)) ∙ a.same (traf_id t) unlisted ∙ ap (λ (id : ℕ). track_with id before) (id_is t)))

traf_same : (h : MoofBytes) (now before : List Track) (earlier : List Box) (t : Box) → Agree now before earlier → is_repeat earlier t ≡ false → traf_of h now t ≡ traf_of h before t
unfolding traf_of
traf_same h now before earlier t a e =
    let like : but_end (track_of now t) ≡ but_end (track_of before t) = known_like (track_with (track_id (tfhd_of t)) now) (track_with (track_id (tfhd_of t)) before) (a.like (track_id (tfhd_of t))) in
    rw (header_like (track_of now t) (track_of before t) (tfhd_of t) like, base_same now before earlier t a e) refl

-- ---- traf after traf

no_fault : (u : Bool) (t : Box) (fs : List Fault) → fault_if u Unsupported t ++ fs ≡ [] → (u ≡ false) × (fs ≡ [])
no_fault true t fs e = absurd cc
no_fault false t fs e = (refl, e)

ended_id : (h : MoofBytes) (before now : List Track) (t : Box) → ended now (traf_of h before t) ≡ with_end (traf_id t) (end_of (traf_of h before t)) now
unfolding traf_of traf_id
ended_id h before now t = refl

agree_ended : (h : MoofBytes) (now before : List Track) (earlier : List Box) (t : Box) → Agree now before earlier → Agree (ended now (traf_of h before t)) before (earlier ++ t ∷ [])
agree_ended h now before earlier t a =
    subst (λ (x : List Track). Agree x before (earlier ++ t ∷ [])) (sym (ended_id h before now t)) (agree_after now before earlier t (end_of (traf_of h before t)) a)

settled_are : (h : MoofBytes) (now before : List Track) (earlier ts : List Box) → Agree now before earlier → repeats earlier ts ≡ [] → settled_on h now ts ≡ fold ended now (map (traf_of h before) ts)
unfolding settled_on repeats
settled_are h now before earlier [] a e = refl
settled_are h now before earlier (t ∷ ts) a e =
    let none = no_fault (is_repeat earlier t) t (repeats (earlier ++ t ∷ []) ts) e in
    ap (λ (x : TrackFragment). settled_on h (ended now x) ts) (traf_same h now before earlier t a none.0)
    ∙ settled_are h (ended now (traf_of h before t)) before (earlier ++ t ∷ []) ts (agree_ended h now before earlier t a) none.1

-- ---- all of them end in time

not_late : (runs : List Run) → AllByRecursion (λ (run : Run). run.end < 2 ^ 64) runs → flat_map late runs ≡ []
not_late [] all = refl
not_late (run ∷ runs) all = rw (lt-ltb run.end (2 ^ 64) all.0) (not_late runs all.1)

sound_in_time : (t : TrackFragment) → IsSound t → EndsInTime t
sound_in_time t s = sym (late_are t.shared t.time (pos t.shared.moof.offset) t.truns) ∙ not_late (runs_of t) s.ends

each_in_time : (h : MoofBytes) (now before : List Track) (earlier ts : List Box) → Agree now before earlier → repeats earlier ts ≡ [] → AllByRecursion IsSound (map (traf_of h before) ts) → EachInTime h now ts
unfolding EachInTime repeats
each_in_time h now before earlier [] a e sound = tt
each_in_time h now before earlier (t ∷ ts) a e sound =
    let none = no_fault (is_repeat earlier t) t (repeats (earlier ++ t ∷ []) ts) e in
    let is = traf_same h now before earlier t a none.0 in (
      subst (λ (x : TrackFragment). EndsInTime x) (sym is) (sound_in_time (traf_of h before t) sound.0),
      subst (λ (x : TrackFragment). EachInTime h (ended now x) ts) (sym is) (each_in_time h (ended now (traf_of h before t)) before (earlier ++ t ∷ []) ts (agree_ended h now before earlier t a) none.1 sound.1),
    )

same_tracks : (tracks : List Track) → Agree tracks tracks []
same_tracks tracks = record { same = λ id e. refl; like = λ id. refl }

-- ---- a moof that was read

pub record Settles (h : MoofBytes) (tracks : List Track) (ts : List Box) : Type 0 where
  pub is : settled_on h tracks ts ≡ settled tracks (moof_trafs h tracks)
  pub each : EachInTime h tracks ts

pub settles : (h : MoofBytes) (tracks : List Track) (m : Box) → h.offset ≤ 2 ^ 62 → IsWhole h.bytes → IsBytes h.bytes → box_at h.offset h.bytes ≡ Some m → moof_of h ≡ m → IsRead h tracks → Settles h tracks (at_path (traf ∷ []) m)
settles h tracks m near whole fits here is read =
    let none : repeat_faults m ≡ [] = ap repeat_faults (sym is) ∙ (values tracks (moof_of h) (early h tracks (read_early h tracks read)).value).repeats in
    let sound : AllByRecursion IsSound (trafs_by h tracks (children m)) = subst (λ (b : Box). AllByRecursion IsSound (trafs_by h tracks (children b))) is (all_sound h tracks m near whole fits here is read) in
    subst (λ (ts : List Box). Settles h tracks ts) (sym (on_path m)) (record {
      is = settled_are h tracks tracks [] (of_kind traf (children m)) (same_tracks tracks) none ∙ ap (λ (b : Box). fold ended tracks (trafs_by h tracks (children b))) (sym is);
      each = each_in_time h tracks tracks [] (of_kind traf (children m)) (same_tracks tracks) none sound;
    })

-- ---- the loop over the truns of a traf

-- past a traf
pub timed_past : (b : Box) (bs : List Box) → timed_in (paths_below (trun ∷ []) (b ∷ bs)) ≡ timed_in (at_path (trun ∷ []) b) + timed_in (paths_below (trun ∷ []) bs)
timed_past b bs = sum_by-append (λ (b : Box). timed b.payload) (at_path (trun ∷ []) b) (paths_below (trun ∷ []) bs)

-- ---- the loop over the trafs of a moof

pub each_first : (h : MoofBytes) (tracks : List Track) (b : Box) (bs : List Box) → EachInTime h tracks (b ∷ bs) → EndsInTime (traf_of h tracks b)
unfolding EachInTime
each_first h tracks b bs e = e.0

pub each_more : (h : MoofBytes) (tracks : List Track) (b : Box) (bs : List Box) → EachInTime h tracks (b ∷ bs) → EachInTime h (ended tracks (traf_of h tracks b)) bs
unfolding EachInTime
each_more h tracks b bs e = e.1

pub settled_more : (h : MoofBytes) (tracks : List Track) (b : Box) (bs : List Box) → settled_on h tracks (b ∷ bs) ≡ settled_on h (ended tracks (traf_of h tracks b)) bs
unfolding settled_on
settled_more h tracks b bs = refl

pub settled_none : (h : MoofBytes) (tracks : List Track) → settled_on h tracks [] ≡ tracks
unfolding settled_on
settled_none h tracks = refl

-- ---- trafs in turn

turns_are : (h : MoofBytes) (now before : List Track) (earlier ts : List Box) → Agree now before earlier → repeats earlier ts ≡ [] → in_turn h now ts ≡ map (traf_of h before) ts
unfolding in_turn repeats
turns_are h now before earlier [] a e = refl
turns_are h now before earlier (t ∷ ts) a e =
    let none = no_fault (is_repeat earlier t) t (repeats (earlier ++ t ∷ []) ts) e in
    ap (λ (x : TrackFragment). x ∷ in_turn h (ended now x) ts) (traf_same h now before earlier t a none.0)
    ∙ ap (λ (xs : List TrackFragment). traf_of h before t ∷ xs) (turns_are h (ended now (traf_of h before t)) before (earlier ++ t ∷ []) ts (agree_ended h now before earlier t a) none.1)

pub in_turn_are : (h : MoofBytes) (tracks : List Track) → repeat_faults (moof_of h) ≡ [] → in_turn h tracks (of_kind traf (children (moof_of h))) ≡ moof_trafs h tracks
in_turn_are h tracks none = turns_are h tracks tracks [] (of_kind traf (children (moof_of h))) (same_tracks tracks) none

-- ---- how many tracks there are

ended_length : (o : Option ℕ) (next : ℕ) (tracks : List Track) → length (ended_at o next tracks) ≡ length tracks
ended_length None next tracks = refl
ended_length (Some i) next tracks = length_with_next i next tracks

pub settled_length : (tracks : List Track) (ts : List TrackFragment) → length (settled tracks ts) ≡ length tracks
settled_length tracks [] = refl
settled_length tracks (t ∷ ts) =
    settled_length (ended tracks t) ts ∙ ended_length (position (λ (x : Track). x.id == t.shared.header.track) tracks) (end_of t) tracks

-- a pass over the trafs of a moof
pub ruleset settle_steps = (each_first, each_more, settled_more, settled_none, timed_past)
