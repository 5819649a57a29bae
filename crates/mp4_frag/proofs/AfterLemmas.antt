-- The runs after a run of a moof.
use Rattle.std.proofs.Common.{◌≡◌, ◌∙◌, ◌+◌, ◌-◌, ◌^◌, ◌<◌, ◌≤◌, ◌⊎◌, ℕ, ℤ, pos, Bool, true, false, cond, List, [], ◌∷◌, ◌++◌, map, length, take, drop, Option, Some, refl, sym, ap, subst, arith, inl, inr, append_assoc}
use Rattle.std.specs.Prelude.{slice_range, IfSome}
use Rattle.std.specs.List.{AllByRecursion, flat_map}
use Rattle.std.specs.Str.{bytes_eq}
use Rattle.std.proofs.lemmas.List.{drop-take, drop-drop, length-drop}
use Rattle.mp4_box.specs.Headers.{IsBytes, IsWhole}
use Rattle.mp4_box.specs.Paths.{of_kind}
use Rattle.mp4_box.specs.Trees.{Box, box_at, box_len, boxes, children, first_of, payload_offset}
use Rattle.mp4_box.proofs.GrammarLemmas.{lies_at, option_is, whole_found, whole_len}
use Rattle.mp4_box.proofs.HeaderLemmas.{IsBytes-drop}
use Rattle.mp4_box.proofs.TreeLemmas.{boxes_more, boxes_end}
use Rattle.mp4_init.specs.declared.table.Track.{Track}
use Rattle.mp4_traf.specs.declared.run.Run.{Run}
use Rattle.mp4_traf.specs.declared.traf.TrafHeader.{TrafHeader}
use Rattle.mp4_traf.specs.Kinds.{traf, trun}
use Rattle.mp4_traf.specs.Ranges.{InRange, IsSound}
use Rattle.mp4_traf.specs.Runs.{MoofBytes, Shared, TrackFragment, end_in, end_place, run_at, run_of, runs_from, runs_of, shared_by, track_of, base_of, traf_of, trafs_by}
use Rattle.mp4_frag.specs.After.{IsBetween, IsOneOf}
use Rattle.mp4_frag.specs.Implementation.LaterRuns.{all_after, boxes_between, header_after, runs_after, shared_after, trafs_after}
use Rattle.mp4_frag.specs.Moofs.{IsRead, moof_of, moof_runs}
use Rattle.mp4_frag.proofs.MoofLemmas.{moof_is}
use Rattle.mp4_frag.proofs.PlaceLemmas.{Lies, children_lie, moof_lies}
use Rattle.mp4_frag.proofs.SoundLemmas.{all_sound}
use Rattle.mp4_traf.proofs.RangeLemmas.{in_range}

-- ---- the boxes after a box

record Rest (o : ℕ) (x : List ℕ) (b : Box) (ys : List Box) : Type 0 where
  k : ℕ
  end : payload_offset b + length b.payload ≡ o + k
  within : k ≤ length x
  rest : boxes (o + k) (drop k x) ≡ ys

head_is : (b c : Box) (bs cs : List Box) → b ∷ bs ≡ c ∷ cs → (b ≡ c) × (bs ≡ cs)
head_is b c bs cs e = (cc, cc)

following : (xs : List Box) (o : ℕ) (x : List ℕ) (b : Box) (ys : List Box) → IsBytes x → boxes o x ≡ xs ++ b ∷ ys → Rest o x b ys
following [] o x b ys fits e =
    elim (option_is (box_at o x)) [
      | inl none ↦ let f : [] ≡ b ∷ ys = sym (boxes_end o x none) ∙ e in absurd cc
      | inr some ↦
          let c = some.0 in
          let s = lies_at o x c fits some.1 in
          let both = head_is c b (boxes (o + box_len c) (drop (box_len c) x)) ys (sym (boxes_more o x c some.1 s.low s.high) ∙ e) in
          subst (λ (z : Box). Rest o x z ys) both.0 (record { k = box_len c; end = omega (arith, s.place); within = s.high; rest = both.1 })
    ]
following (d ∷ xs) o x b ys fits e =
    elim (option_is (box_at o x)) [
      | inl none ↦ let f : [] ≡ d ∷ (xs ++ b ∷ ys) = sym (boxes_end o x none) ∙ e in absurd cc
      | inr some ↦
          let c = some.0 in
          let n : ℕ = box_len c in
          let s = lies_at o x c fits some.1 in
          let both = head_is c d (boxes (o + n) (drop n x)) (xs ++ b ∷ ys) (sym (boxes_more o x c some.1 s.low s.high) ∙ e) in
          let r = following xs (o + n) (drop n x) b ys (IsBytes-drop n x fits) both.1 in
          record {
            k = n + r.k;
            end = omega (arith, r.end);
            within = omega (arith, r.within, s.high, length-drop n x);
            rest = ap (λ (y : List ℕ). boxes (o + (n + r.k)) y) (sym (drop-drop r.k n x)) ∙ ap (λ (m : ℕ). boxes m (drop r.k (drop n x))) (omega arith) ∙ r.rest;
          }
    ]

-- the same in a box that lies in the bytes that are held
record RestIn (h : MoofBytes) (p b : Box) (ys : List Box) : Type 0 where
  within : end_in h b ≤ end_in h p
  rest : boxes_between h (end_in h b) (end_in h p) ≡ ys

ends_at : (h : MoofBytes) (p : Box) (lies : Lies h p) → end_in h p ≡ lies.at + length p.payload
ends_at h p lies = omega (arith, lies.place)

after_in : (h : MoofBytes) (p b : Box) (xs ys : List Box) → Lies h p → children p ≡ xs ++ b ∷ ys → RestIn h p b ys
after_in h p b xs ys lies e =
    let n : ℕ = length p.payload in
    let r = following xs (payload_offset p) p.payload b ys lies.bytes e in
    let here : end_in h b ≡ lies.at + r.k = omega (arith, lies.place, r.end) in
    let there = ends_at h p lies in
    let all : n ≡ r.k + (n - r.k) = omega (arith, r.within) in
    let part : drop r.k p.payload ≡ slice_range h.bytes (lies.at + r.k) (lies.at + n) =
    ap (drop r.k) lies.is
    ∙ ap (λ (m : ℕ). drop r.k (take m (drop lies.at h.bytes))) all
    ∙ drop-take r.k (n - r.k) (drop lies.at h.bytes)
    ∙ ap (take (n - r.k)) (drop-drop r.k lies.at h.bytes)
    ∙ ap (λ (m : ℕ). take m (drop (lies.at + r.k) h.bytes)) (omega arith) in
    record {
      within = omega (arith, here, there, r.within);
      rest =
          ap (λ (m : ℕ). boxes_between h m (end_in h p)) here
          ∙ ap (λ (m : ℕ). boxes_between h (lies.at + r.k) m) there
          ∙ ap (λ (y : List ℕ). boxes (h.offset + (lies.at + r.k)) y) (sym part)
          ∙ ap (λ (m : ℕ). boxes m (drop r.k p.payload)) (omega (arith, lies.place))
          ∙ r.rest;
    }

-- ---- in a traf

record InTraf (h : MoofBytes) (s : Shared) (t : Box) (run : Run) (after : List Run) : Type 0 where
  header : header_after run ≡ s.header
  ends : run.traf_ends_at ≡ s.ends_at
  within : run.ends_at ≤ end_in h t
  is : after ≡ runs_from s run.end (end_place run) (of_kind trun (boxes_between h run.ends_at (end_in h t)))

none_is : (run : Run) (before after : List Run) → [] ≡ before ++ run ∷ after → ⊥
none_is run [] after e = absurd cc
none_is run (x ∷ before) after e = absurd cc

run_head : (x y : Run) (xs ys : List Run) → x ∷ xs ≡ y ∷ ys → (x ≡ y) × (xs ≡ ys)
run_head x y xs ys e = (cc, cc)

of_trun : (h : MoofBytes) (s : Shared) (time : ℕ) (last : ℤ) (b : Box) → s.moof ≡ h → (header_after (run_of s time last b) ≡ s.header) × ((run_of s time last b).traf_ends_at ≡ s.ends_at) × ((run_of s time last b).ends_at ≡ end_in h b)
unfolding run_of run_at
of_trun h s time last b e = (refl, refl, ap (λ (m : MoofBytes). end_in m b) e)

-- the first trun is that of the run
this_trun : (h : MoofBytes) (s : Shared) (t c : Box) (pre cs : List Box) (time : ℕ) (last : ℤ) (run : Run) (after : List Run) → Lies h t → s.moof ≡ h → children t ≡ pre ++ c ∷ cs → run_of s time last c ≡ run
    → runs_from s (run_of s time last c).end (end_place (run_of s time last c)) (of_kind trun cs) ≡ after → InTraf h s t run after
this_trun h s t c pre cs time last run after lies m split is rest =
    let parts = of_trun h s time last c m in
    let r = after_in h t c pre cs lies split in
    let here : InTraf h s t (run_of s time last c) after = record {
      header = parts.0;
      ends = parts.1;
      within = omega (arith, parts.2, r.within);
      is =
          sym rest
          ∙ ap (λ (bs : List Box). runs_from s (run_of s time last c).end (end_place (run_of s time last c)) (of_kind trun bs)) (sym r.rest)
          ∙ ap (λ (n : ℕ). runs_from s (run_of s time last c).end (end_place (run_of s time last c)) (of_kind trun (boxes_between h n (end_in h t)))) (sym parts.2);
    } in
    subst (λ (x : Run). InTraf h s t x after) is here

next_split : (pre : List Box) (c : Box) (cs bs : List Box) → bs ≡ pre ++ c ∷ cs → bs ≡ (pre ++ c ∷ []) ++ cs
next_split pre c cs bs e = e ∙ sym (append_assoc pre (c ∷ []) cs)

in_traf : (h : MoofBytes) (s : Shared) (t : Box) → Lies h t → s.moof ≡ h → (pre cs : List Box) (time : ℕ) (last : ℤ) (before after : List Run) (run : Run) → children t ≡ pre ++ cs
    → runs_from s time last (of_kind trun cs) ≡ before ++ run ∷ after → InTraf h s t run after
unfolding runs_from
in_traf h s t lies m pre [] time last before after run split e = absurd (none_is run before after e)
in_traf h s t lies m pre (c ∷ cs) time last before after run split e =
    by (bytes_eq c.header.kind.0 trun.0)
    (λ time last before e. in_traf h s t lies m (pre ++ c ∷ []) cs time last before after run (next_split pre c cs (children t) split) e)
    before e
  where
    first : (before : List Run) → ((time : ℕ) (last : ℤ) (before : List Run) → runs_from s time last (of_kind trun cs) ≡ before ++ run ∷ after → InTraf h s t run after)
        → run_of s time last c ∷ runs_from s (run_of s time last c).end (end_place (run_of s time last c)) (of_kind trun cs) ≡ before ++ run ∷ after → InTraf h s t run after
    first [] later e =
        let both = run_head (run_of s time last c) run (runs_from s (run_of s time last c).end (end_place (run_of s time last c)) (of_kind trun cs)) after e in
        this_trun h s t c pre cs time last run after lies m split both.0 both.1
    first (x ∷ before) later e =
        let both = run_head (run_of s time last c) x (runs_from s (run_of s time last c).end (end_place (run_of s time last c)) (of_kind trun cs)) (before ++ run ∷ after) e in
        later (run_of s time last c).end (end_place (run_of s time last c)) before both.1

    by : (u : Bool) → ((time : ℕ) (last : ℤ) (before : List Run) → runs_from s time last (of_kind trun cs) ≡ before ++ run ∷ after → InTraf h s t run after)
        → (before : List Run) → runs_from s time last (cond u (c ∷ of_kind trun cs) (of_kind trun cs)) ≡ before ++ run ∷ after → InTraf h s t run after
    by true later before e = first before later e
    by false later before e = later time last before e

-- ---- in a moof

pub record AfterIn (h : MoofBytes) (tracks : List Track) (run : Run) (after : List Run) : Type 0 where
  pub low : run.ends_at ≤ run.traf_ends_at
  pub high : run.traf_ends_at ≤ length h.bytes
  pub here : run.size < 2 ^ 32 → InRange run
  pub range : run.size < 2 ^ 32 → AllByRecursion InRange (runs_after h run)
  pub sound : AllByRecursion IsSound (trafs_after h tracks run)
  pub is : after ≡ all_after h tracks run

-- the place of a run among the runs of two lists
split_first : (xs ys before after : List Run) (run : Run) → xs ++ ys ≡ before ++ run ∷ after
    → ((a : List Run) × (xs ≡ before ++ run ∷ a) × (after ≡ a ++ ys)) ⊎ ((b : List Run) × (ys ≡ b ++ run ∷ after))
split_first [] ys before after run e = inr (before, e)
split_first (x ∷ xs) ys [] after run e = let both = run_head x run (xs ++ ys) after e in inl (xs, ap (λ (y : Run). y ∷ xs) both.0, sym both.1)
split_first (x ∷ xs) ys (b ∷ before) after run e =
    let both = run_head x b (xs ++ ys) (before ++ run ∷ after) e in
    elim (split_first xs ys before after run both.1) [
      | inl here ↦ inl (here.0, ap (λ (y : Run). y ∷ xs) both.0 ∙ ap (λ (zs : List Run). b ∷ zs) here.1, here.2)
      | inr there ↦ inr there
    ]

all_last : (before : List Run) (run : Run) (after : List Run) → AllByRecursion InRange (before ++ run ∷ after) → InRange run × AllByRecursion InRange after
all_last [] run after all = all
all_last (b ∷ before) run after all = all_last before run after all.1

-- what the runs of its traf share
shared_is : (h : MoofBytes) (s : Shared) (run : Run) → s.moof ≡ h → header_after run ≡ s.header → run.traf_ends_at ≡ s.ends_at → shared_after h run ≡ s
shared_is h s run m header ends = rw (← m, header, ends) refl

runs_after_are : (h : MoofBytes) (s : Shared) (t : Box) (run : Run) (a : List Run) → s.moof ≡ h → s.ends_at ≡ end_in h t → InTraf h s t run a → runs_after h run ≡ a
unfolding runs_after
runs_after_are h s t run a m at i =
    ap (λ (x : Shared). runs_from x run.end (end_place run) (of_kind trun (boxes_between h run.ends_at run.traf_ends_at))) (shared_is h s run m i.header i.ends)
    ∙ ap (λ (n : ℕ). runs_from s run.end (end_place run) (of_kind trun (boxes_between h run.ends_at n))) (i.ends ∙ at)
    ∙ sym i.is

trafs_after_are : (h : MoofBytes) (tracks : List Track) (m t : Box) (run : Run) (bs : List Box) → run.traf_ends_at ≡ end_in h t → end_in h m ≡ length h.bytes → boxes_between h (end_in h t) (end_in h m) ≡ bs → trafs_after h tracks run ≡ trafs_by h tracks bs
unfolding trafs_after
trafs_after_are h tracks m t run bs ends all e =
    ap (λ (n : ℕ). trafs_by h tracks (boxes_between h n (length h.bytes))) ends
    ∙ ap (λ (n : ℕ). trafs_by h tracks (boxes_between h (end_in h t) n)) (sym all)
    ∙ ap (trafs_by h tracks) e

this_traf : (h : MoofBytes) (tracks : List Track) (m t : Box) (pre bs : List Box) (before after a : List Run) (run : Run) → Lies h m → Lies h t → end_in h m ≡ length h.bytes → children m ≡ pre ++ t ∷ bs
    → IsSound (traf_of h tracks t) → AllByRecursion IsSound (trafs_by h tracks bs) → runs_of (traf_of h tracks t) ≡ before ++ run ∷ a → after ≡ a ++ flat_map runs_of (trafs_by h tracks bs) → AfterIn h tracks run after
unfolding traf_of
this_traf h tracks m t pre bs before after a run lies here all split sound sounds e rest =
    let s : Shared = shared_by h (track_of tracks t) t in
    let i = in_traf h s t here refl [] (children t) (base_of (track_of tracks t).next t) (pos h.offset) before a run refl e in
    let r = after_in h m t pre bs lies split in
    let runs : runs_after h run ≡ a = runs_after_are h s t run a refl refl i in
    let trafs : trafs_after h tracks run ≡ trafs_by h tracks bs = trafs_after_are h tracks m t run bs i.ends all r.rest in
    let size : run.size ≡ s.header.size = ap (λ (x : TrafHeader). x.size) i.header in
    let ranges = λ (small : run.size < 2 ^ 32). all_last before run a (subst (λ (xs : List Run). AllByRecursion InRange xs) e (in_range (traf_of h tracks t) (omega (arith, small, size)) sound)) in
    record {
      low = omega (arith, i.within, i.ends);
      high = omega (arith, r.within, i.ends, all);
      here = λ small. (ranges small).0;
      range = λ small. subst (λ (xs : List Run). AllByRecursion InRange xs) (sym runs) (ranges small).1;
      sound = subst (λ (ts : List TrackFragment). AllByRecursion IsSound ts) (sym trafs) sounds;
      is = rest ∙ ap (λ (ts : List TrackFragment). a ++ flat_map runs_of ts) (sym trafs) ∙ ap (λ (xs : List Run). xs ++ flat_map runs_of (trafs_after h tracks run)) (sym runs);
    }

in_moof : (h : MoofBytes) (tracks : List Track) (m : Box) → Lies h m → end_in h m ≡ length h.bytes → (pre bs : List Box) → AllByRecursion (Lies h) bs → AllByRecursion IsSound (trafs_by h tracks bs) → (before after : List Run) (run : Run)
    → children m ≡ pre ++ bs → flat_map runs_of (trafs_by h tracks bs) ≡ before ++ run ∷ after → AfterIn h tracks run after
in_moof h tracks m lies all pre [] lie sound before after run split e = absurd (none_is run before after e)
in_moof h tracks m lies all pre (t ∷ bs) lie sound before after run split e =
    by (bytes_eq t.header.kind.0 traf.0)
    (λ sound before e. in_moof h tracks m lies all (pre ++ t ∷ []) bs lie.1 sound before after run (next_split pre t bs (children m) split) e)
    sound e
  where
    by : (u : Bool) → (AllByRecursion IsSound (trafs_by h tracks bs) → (before : List Run) → flat_map runs_of (trafs_by h tracks bs) ≡ before ++ run ∷ after → AfterIn h tracks run after)
        → AllByRecursion IsSound (map (traf_of h tracks) (cond u (t ∷ of_kind traf bs) (of_kind traf bs))) → flat_map runs_of (map (traf_of h tracks) (cond u (t ∷ of_kind traf bs) (of_kind traf bs))) ≡ before ++ run ∷ after
        → AfterIn h tracks run after
    by true later sound e =
        elim (split_first (runs_of (traf_of h tracks t)) (flat_map runs_of (trafs_by h tracks bs)) before after run e) [
          | inl here ↦ this_traf h tracks m t pre bs before after here.0 run lies lie.0 all split sound.0 sound.1 here.1 here.2
          | inr there ↦ later sound.1 there.0 there.1
        ]
    by false later sound e = later sound before e

pub after_is : (h : MoofBytes) (tracks : List Track) (m : Box) → h.offset ≤ 2 ^ 62 → IsWhole h.bytes → IsBytes h.bytes → box_at h.offset h.bytes ≡ Some m → moof_of h ≡ m → IsRead h tracks → (before after : List Run) (run : Run)
    → moof_runs h tracks ≡ before ++ run ∷ after → AfterIn h tracks run after
after_is h tracks m near whole fits here is read before after run e =
    let lies = moof_lies h m whole fits here in
    let all : end_in h m ≡ length h.bytes = ends_at h m lies ∙ omega (arith, whole_len h.offset h.bytes m whole here, lies.place, (lies_at h.offset h.bytes m fits here).place) in
    let sound : AllByRecursion IsSound (trafs_by h tracks (children m)) = subst (λ (b : Box). AllByRecursion IsSound (trafs_by h tracks (children b))) is (all_sound h tracks m near whole fits here is read) in
    let runs : flat_map runs_of (trafs_by h tracks (children m)) ≡ before ++ run ∷ after = ap (λ (b : Box). flat_map runs_of (trafs_by h tracks (children b))) (sym is) ∙ e in
    in_moof h tracks m lies all [] (children m) (children_lie h m lies) sound before after run refl runs

pub after_run : (h : MoofBytes) (tracks : List Track) → h.offset ≤ 2 ^ 62 → IsWhole h.bytes → IsBytes h.bytes → IsRead h tracks → (before after : List Run) (run : Run) → IsBetween (moof_runs h tracks) before run after → AfterIn h tracks run after
after_run h tracks near whole fits read before after run s =
    elim (option_is (box_at h.offset h.bytes)) [
      | inl none ↦ absurd (whole_found h.offset h.bytes whole none)
      | inr some ↦ after_is h tracks some.0 near whole fits some.1 (moof_is h.offset h.bytes some.0 some.1) read before after run s.is
    ]

-- the first of two lists
pub first_of_both : (xs ys : List Run) (x : Run) (rest : List Run) → xs ≡ x ∷ rest → Some x ≡ first_of (xs ++ ys)
first_of_both xs ys x rest e = ap (λ (zs : List Run). first_of (zs ++ ys)) (sym e)

pub first_of_last : (xs ys : List Run) (r : Option Run) → xs ≡ [] → r ≡ first_of ys → r ≡ first_of (xs ++ ys)
first_of_last xs ys r e f = f ∙ ap (λ (zs : List Run). first_of (zs ++ ys)) (sym e)

-- the place of the run after a run, too
pub is_one_of : (runs : List Run) (run : Run) (r : Option Run) → IsOneOf run runs → ((before after : List Run) → IsBetween runs before run after → r ≡ first_of after) → IfSome r (λ (next : Run). IsOneOf next runs)
is_one_of runs run r lies_at is = by lies_at.0 lies_at.1 lies_at.2 (is lies_at.0 lies_at.1 lies_at.2)
  where
    by : (before after : List Run) → IsBetween runs before run after → r ≡ first_of after → IfSome r (λ (next : Run). IsOneOf next runs)
    by before [] s e = subst (λ (o : Option Run). IfSome o (λ (next : Run). IsOneOf next runs)) (sym e) tt
    by before (x ∷ rest) s e =
        subst (λ (o : Option Run). IfSome o (λ (next : Run). IsOneOf next runs)) (sym e) (before ++ run ∷ [], rest, record { is = s.is ∙ sym (append_assoc before (run ∷ []) (x ∷ rest)) })
