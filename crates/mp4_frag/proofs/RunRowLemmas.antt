-- The runs of a moof are found again by their rows, and their truns rise.
use Rattle.std.proofs.Common.{◌≡◌, ◌∙◌, ◌+◌, ◌-◌, ◌^◌, ◌<◌, ◌≤◌, ℕ, ℤ, pos, List, [], ◌∷◌, ◌++◌, length, take, drop, Some, refl, sym, ap, subst, arith}
use Rattle.std.specs.Prelude.{map}
use Rattle.std.specs.List.{AllByRecursion, flat_map}
use Rattle.std.specs.Option.{unwrap_or}
use Rattle.std.proofs.lemmas.List.{take-append-drop, length-append, length-drop, length-map, map-append}
use Rattle.mp4_box.specs.declared.headers.FourCc.{FourCc}
use Rattle.mp4_box.specs.Headers.{IsBytes}
use Rattle.mp4_box.specs.Paths.{of_kind, at_path}
use Rattle.mp4_box.specs.Trees.{Box, box_at, box_len, boxes, children, first_of, payload_offset}
use Rattle.mp4_box.proofs.TreeLemmas.{boxes_more}
use Rattle.mp4_box.proofs.GrammarLemmas.{lies_at, found}
use Rattle.mp4_box.proofs.HeaderLemmas.{IsBytes-drop}
use Rattle.mp4_init.specs.declared.table.Track.{Track}
use Rattle.mp4_run_order.proofs.ListLemmas.{Each, Pairs, each_always, each_weaker}
use Rattle.mp4_traf.specs.declared.run.Run.{Run}
use Rattle.mp4_run_order.specs.declared.runs.ListedRun.{ListedRun}
use Rattle.mp4_frag.specs.declared.run_list.run_row.RunRow.{RunRow}
use Rattle.mp4_traf.specs.Fields.{payload_of}
use Rattle.mp4_traf.specs.Kinds.{tfhd, to_trun, traf, trun}
use Rattle.mp4_traf.specs.Runs.{MoofBytes, Shared, end_place, header_by, known_track, run_at, run_of, runs_from, runs_of, shared_by, tfhd_of, track_of, traf_of}
use Rattle.mp4_traf.specs.Tfhd.{track_id}
use Rattle.mp4_frag.specs.Implementation.Rereads.{box_after, box_in, absent_box, run_of_row}
use Rattle.mp4_frag.specs.Implementation.RunRows.{listed_row, row_of_run, rows_of_traf, rows_of_trafs}
use Rattle.mp4_traf.specs.Implementation.Heads.{offset_or_none, tfhd_at}
use Rattle.mp4_frag.specs.Places.{listed_run}
use Rattle.mp4_frag.proofs.PlaceLemmas.{Lies, children_lie, inner, kind_all}
use Rattle.mp4_frag.proofs.BoxOrderLemmas.{FoundIn, IsBoxAfter, none_left, boxes_found, boxes_rise, kind_found, kind_rise}

-- ---- boxes are found again

pub refound : (h : MoofBytes) (p b : Box) → Lies h p → FoundIn (payload_offset p) p.payload b → box_in h b.offset ≡ b
unfolding box_in
refound h p b lies f =
    let x : List ℕ = drop f.at p.payload in
    let n : ℕ = box_len b in
    let at : ℕ = lies.at + f.at in
    let y : List ℕ = drop at h.bytes in
    let s = lies_at (payload_offset p + f.at) x b (IsBytes-drop f.at p.payload lies.bytes) f.here in
    let within = f.within in
    let place = f.place in
    let there = lies.place in
    let inside = lies.within in
    let same : take n x ≡ take n y = ap (λ (z : List ℕ). take n (drop f.at z)) lies.is ∙ inner h.bytes lies.at (length p.payload) f.at n (omega arith) in
    let again = (found b.header b.payload (take n x) (drop n y) b.offset s.box).0 in
    let whole : box_at b.offset y ≡ Some b =
    ap (box_at b.offset) (sym (take-append-drop n y)) ∙ (ap (λ (z : List ℕ). box_at b.offset (z ++ drop n y)) (sym same) ∙ again) in
    let k : b.offset - h.offset ≡ at = omega arith in
    let o : h.offset + at ≡ b.offset = omega arith in
    let more = boxes_more b.offset y b whole f.low (omega (arith, length-drop at h.bytes)) in
    ap (box_after h) k
    ∙ (ap (λ (m : ℕ). unwrap_or (first_of (boxes m y)) absent_box) o
    ∙ ap (λ (bs : List Box). unwrap_or (first_of bs) absent_box) more)

-- past the end nothing is found
pub found_nothing : (h : MoofBytes) (offset at : ℕ) (b : Box) → at ≡ offset - h.offset → length h.bytes ≤ at → b ≡ absent_box → b ≡ box_in h offset
unfolding box_in
found_nothing h offset at b e far is =
    let none : boxes (h.offset + at) (drop at h.bytes) ≡ [] = none_left (h.offset + at) (drop at h.bytes) (omega (arith, length-drop at h.bytes)) in
    is ∙ sym (ap (box_after h) (sym e) ∙ ap (λ (bs : List Box). unwrap_or (first_of bs) absent_box) none)

-- what follows a place, as the payload of a box without a header
part_boxes : (h : MoofBytes) (at : ℕ) (part : Box) → part ≡ record absent_box { offset = h.offset + at; payload = drop at h.bytes } → children part ≡ boxes (h.offset + at) (drop at h.bytes)
part_boxes h at part e =
    let z : h.offset + at + 0 ≡ h.offset + at = omega arith in
    ap children e ∙ ap (λ (o : ℕ). boxes o (drop at h.bytes)) z

pub found_by : (h : MoofBytes) (offset at : ℕ) (part b : Box) (bs : List Box) → at ≡ offset - h.offset → part ≡ record absent_box { offset = h.offset + at; payload = drop at h.bytes } → bs ≡ children part → unwrap_or (first_of bs) absent_box ≡ b → b ≡ box_in h offset
unfolding box_in
found_by h offset at part b bs e is all first =
    sym (ap (box_after h) (sym e) ∙ (ap (λ (cs : List Box). unwrap_or (first_of cs) absent_box) (sym (all ∙ part_boxes h at part is)) ∙ first))

-- ---- so are runs

-- the run is that of its row
abbrev pub Reread : MoofBytes → List Track → ℕ → Run → Type 0
Reread h tracks tfhd run = run_of_row h tracks (row_of_run tfhd run) ≡ run

again : (h : MoofBytes) (tracks : List Track) (payload : List ℕ) (ends_at time : ℕ) (last : ℤ) (o : ℕ) (b : Box) → box_in h b.offset ≡ b → (box_in h o).payload ≡ payload
    → Reread h tracks o (run_of (record { moof = h; header = header_by (known_track (track_id payload) tracks) payload; ends_at = ends_at }) time last b)
unfolding run_of_row run_of run_at
again h tracks payload ends_at time last o b here tfhd = rw (here, tfhd) refl

pub reread : (h : MoofBytes) (tracks : List Track) (t : Box) (o : ℕ) → (box_in h o).payload ≡ tfhd_of t → (time : ℕ) (last : ℤ) (bs : List Box) → Each (λ b. box_in h b.offset ≡ b) bs → Each (Reread h tracks o) (runs_from (shared_by h (track_of tracks t) t) time last bs)
unfolding runs_from
reread h tracks t o e time last [] f = tt
reread h tracks t o e time last (b ∷ bs) f =
    let run = run_of (shared_by h (track_of tracks t) t) time last b in (
      again h tracks (tfhd_of t) (shared_by h (track_of tracks t) t).ends_at time last o b f.0 e,
      reread h tracks t o e run.end (end_place run) bs f.1,
    )

-- ---- truns rise

at_truns : (P : ℕ → Type 0) (s : Shared) (time : ℕ) (last : ℤ) (bs : List Box) → Each (λ b. P b.offset) bs → Each (λ run. P run.offset) (runs_from s time last bs)
unfolding runs_from run_of run_at
at_truns P s time last [] h = tt
at_truns P s time last (b ∷ bs) h = let run = run_of s time last b in (h.0, at_truns P s run.end (end_place run) bs h.1)

abbrev pub Earlier : Run → Run → Type 0
Earlier a b = a.offset < b.offset

rise_truns : (s : Shared) (time : ℕ) (last : ℤ) (bs : List Box) → Pairs (λ a b. a.offset < b.offset) bs → Pairs Earlier (runs_from s time last bs)
unfolding runs_from run_of run_at
rise_truns s time last [] h = tt
rise_truns s time last (b ∷ bs) h =
    let run = run_of s time last b in
    (at_truns (λ n. b.offset < n) s run.end (end_place run) bs h.0, rise_truns s run.end (end_place run) bs h.1)

-- the trun lies between these offsets
abbrev Between : ℕ → ℕ → ℕ → Type 0
Between from to n = (from ≤ n) × (n < to)

record RunsOf (t : Box) (runs : List Run) : Type 0 where
  pub between : Each (λ run. Between t.offset (t.offset + box_len t) run.offset) runs
  pub rise : Pairs Earlier runs

traf_runs : (h : MoofBytes) (tracks : List Track) (t : Box) → IsBytes t.payload → RunsOf t (runs_of (traf_of h tracks t))
unfolding traf_of
traf_runs h tracks t fits =
    let o = payload_offset t in
    let bs = of_kind trun (children t) in
    let found = kind_found (FoundIn o t.payload) trun (children t) (boxes_found o t.payload fits) in
    let rise = kind_rise trun (children t) (boxes_rise o t.payload fits) in
    let s = shared_by h (track_of tracks t) t in
    let r = traf_of h tracks t in
    record {
      between = at_truns (Between t.offset (t.offset + box_len t)) s r.time (pos h.offset) bs
          (each_weaker (FoundIn o t.payload) (λ b. Between t.offset (t.offset + box_len t) b.offset) (λ b f. let p = f.place in let l = f.low in let w = f.within in (omega arith, omega arith)) bs found);
      rise = rise_truns s r.time (pos h.offset) bs (pairs_both_found o t.payload bs found rise);
    }
  where
    pairs_both_found : (o : ℕ) (x : List ℕ) (bs : List Box) → Each (FoundIn o x) bs → Pairs IsBoxAfter bs → Pairs (λ a b. a.offset < b.offset) bs
    pairs_both_found o x [] f h = tt
    pairs_both_found o x (b ∷ bs) f h = (each_weaker (IsBoxAfter b) (λ c. b.offset < c.offset) (λ c g. let l = f.0.low in omega arith) bs h.0, pairs_both_found o x bs f.1 h.1)

each_append : {X : Type 0} (P : X → Type 0) (xs ys : List X) → Each P xs → Each P ys → Each P (xs ++ ys)
each_append P [] ys h k = k
each_append P (x ∷ xs) ys h k = (h.0, each_append P xs ys h.1 k)

pairs_append : {X : Type 0} (R : X → X → Type 0) (xs ys : List X) → Pairs R xs → Pairs R ys → Each (λ x. Each (R x) ys) xs → Pairs R (xs ++ ys)
pairs_append R [] ys h k c = k
pairs_append R (x ∷ xs) ys h k c = (each_append (R x) xs ys h.0 c.0, pairs_append R xs ys h.1 k c.1)

abbrev pub runs_by : MoofBytes → List Track → List Box → List Run
runs_by h tracks ts = flat_map runs_of (map (traf_of h tracks) ts)

runs_after : (h : MoofBytes) (tracks : List Track) (n : ℕ) (ts : List Box) → Each (λ t. RunsOf t (runs_of (traf_of h tracks t))) ts → Each (λ t. n ≤ t.offset) ts → Each (λ run. n ≤ run.offset) (runs_by h tracks ts)
runs_after h tracks n [] r b = tt
runs_after h tracks n (t ∷ ts) r b =
    each_append (λ run. n ≤ run.offset) (runs_of (traf_of h tracks t)) (runs_by h tracks ts)
    (each_weaker (λ run. Between t.offset (t.offset + box_len t) run.offset) (λ run. n ≤ run.offset) (λ run w. let from = w.0 in let le = b.0 in omega arith) (runs_of (traf_of h tracks t)) r.0.between)
    (runs_after h tracks n ts r.1 b.1)

runs_before : (h : MoofBytes) (tracks : List Track) (n : ℕ) (ts : List Box) → Each (λ t. RunsOf t (runs_of (traf_of h tracks t))) ts → Each (λ t. t.offset + box_len t ≤ n) ts → Each (λ run. run.offset < n) (runs_by h tracks ts)
runs_before h tracks n [] r b = tt
runs_before h tracks n (t ∷ ts) r b =
    each_append (λ run. run.offset < n) (runs_of (traf_of h tracks t)) (runs_by h tracks ts)
    (each_weaker (λ run. Between t.offset (t.offset + box_len t) run.offset) (λ run. run.offset < n) (λ run w. let to = w.1 in let le = b.0 in omega arith) (runs_of (traf_of h tracks t)) r.0.between)
    (runs_before h tracks n ts r.1 b.1)

runs_rise : (h : MoofBytes) (tracks : List Track) (ts : List Box) → Each (λ t. RunsOf t (runs_of (traf_of h tracks t))) ts → Pairs IsBoxAfter ts → Pairs Earlier (runs_by h tracks ts)
runs_rise h tracks [] r b = tt
runs_rise h tracks (t ∷ ts) r b =
    let later = runs_after h tracks (t.offset + box_len t) ts r.1 b.0 in
    pairs_append Earlier (runs_of (traf_of h tracks t)) (runs_by h tracks ts) r.0.rise (runs_rise h tracks ts r.1 b.1)
    (each_weaker (λ run. Between t.offset (t.offset + box_len t) run.offset) (λ a. Each (Earlier a) (runs_by h tracks ts))
    (λ a w. each_weaker (λ run. t.offset + box_len t ≤ run.offset) (Earlier a) (λ run le. let to = w.1 in omega arith) (runs_by h tracks ts) later) (runs_of (traf_of h tracks t)) r.0.between)

-- the runs of a moof, whose truns rise from its first byte on
pub record RunsRise (end : ℕ) (runs : List Run) : Type 0 where
  pub rise : Pairs Earlier runs
  pub before : Each (λ run. run.offset < end) runs

pub moof_runs_rise : (h : MoofBytes) (tracks : List Track) (m : Box) → IsBytes m.payload → RunsRise (m.offset + box_len m) (runs_by h tracks (of_kind traf (children m)))
moof_runs_rise h tracks m fits =
    let o = payload_offset m in
    let ts = of_kind traf (children m) in
    let found = kind_found (FoundIn o m.payload) traf (children m) (boxes_found o m.payload fits) in
    let runs = each_weaker (FoundIn o m.payload) (λ t. RunsOf t (runs_of (traf_of h tracks t))) (λ t f. traf_runs h tracks t (lies_at (o + f.at) (drop f.at m.payload) t (IsBytes-drop f.at m.payload fits) f.here).bytes) ts found in
    record {
      rise = runs_rise h tracks ts runs (kind_rise traf (children m) (boxes_rise o m.payload fits));
      before = runs_before h tracks (m.offset + box_len m) ts runs (each_weaker (FoundIn o m.payload) (λ t. t.offset + box_len t ≤ m.offset + box_len m) (λ t f. let p = f.place in let w = f.within in omega arith) ts found);
    }

-- numbers that rise below an end are no more than it
few_below : (n end : ℕ) (runs : List Run) → Pairs Earlier runs → Each (λ run. run.offset < end) runs → Each (λ run. n ≤ run.offset) runs → n ≤ end → n + length runs ≤ end
few_below n end [] r b f le = omega arith
few_below n end (run ∷ runs) r b f le =
    let a = f.0 in
    let c = b.0 in
    let e = few_below (run.offset + 1) end runs r.1 b.1 (each_weaker (Earlier run) (λ x. run.offset + 1 ≤ x.offset) (λ x lt. omega arith) runs r.0) (omega arith) in
    omega arith

pub few_runs : (end : ℕ) (runs : List Run) → RunsRise end runs → length runs ≤ end
few_runs end runs r = let e = few_below 0 end runs r.rise r.before (each_always (λ run. 0 ≤ run.offset) (λ run. omega arith) runs) (omega arith) in omega arith

-- ---- the rows of a moof

path_one : (bs : List Box) → flat_map (at_path []) bs ≡ bs
unfolding at_path
path_one [] = refl
path_one (b ∷ bs) = ap (λ (cs : List Box). b ∷ cs) (path_one bs)

pub on_path : (kind : FourCc) (b : Box) → at_path (kind ∷ []) b ≡ of_kind kind (children b)
unfolding at_path
on_path kind b = path_one (of_kind kind (children b))

first_found : (h : MoofBytes) (p : Box) → Lies h p → (bs : List Box) → Each (FoundIn (payload_offset p) p.payload) bs → h.offset + length h.bytes ≤ 2 ^ 62 → (box_in h (offset_or_none (first_of bs))).payload ≡ payload_of (first_of bs)
first_found h p lies [] f room = ap (λ (b : Box). b.payload) (sym (found_nothing h (2 ^ 64 - 1) (2 ^ 64 - 1 - h.offset) absent_box refl (omega (arith, room)) refl))
first_found h p lies (b ∷ bs) f room = ap (λ (c : Box). c.payload) (refound h p b lies f.0)

-- the tfhd of a traf is found again
tfhd_found : (h : MoofBytes) (t : Box) → Lies h t → h.offset + length h.bytes ≤ 2 ^ 62 → (box_in h (tfhd_at t)).payload ≡ tfhd_of t
tfhd_found h t lies room =
    let o = payload_offset t in
    let bs = of_kind tfhd (children t) in
    let e = on_path tfhd t in
    let f = first_found h t lies bs (kind_found (FoundIn o t.payload) tfhd (children t) (boxes_found o t.payload lies.bytes)) room in
    ap (λ (cs : List Box). (box_in h (offset_or_none (first_of cs))).payload) e ∙ (f ∙ ap (λ (cs : List Box). payload_of (first_of cs)) (sym e))

traf_reread : (h : MoofBytes) (tracks : List Track) (t : Box) → Lies h t → h.offset + length h.bytes ≤ 2 ^ 62 → Each (Reread h tracks (tfhd_at t)) (runs_of (traf_of h tracks t))
unfolding traf_of
traf_reread h tracks t lies room =
    let o = payload_offset t in
    let r = traf_of h tracks t in
    reread h tracks t (tfhd_at t) (tfhd_found h t lies room) r.time (pos h.offset) (of_kind trun (children t))
    (each_weaker (FoundIn o t.payload) (λ b. box_in h b.offset ≡ b) (λ b f. refound h t b lies f) (of_kind trun (children t)) (kind_found (FoundIn o t.payload) trun (children t) (boxes_found o t.payload lies.bytes)))

-- what the rows of runs give
pub record Given (h : MoofBytes) (tracks : List Track) (rows : List RunRow) (runs : List Run) : Type 0 where
  pub runs_are : map (run_of_row h tracks) rows ≡ runs
  pub listed : map listed_row rows ≡ map listed_run runs

given_run : (h : MoofBytes) (tracks : List Track) (o : ℕ) (runs : List Run) → Each (Reread h tracks o) runs → Given h tracks (map (row_of_run o) runs) runs
given_run h tracks o [] r = record { runs_are = refl; listed = refl }
given_run h tracks o (run ∷ runs) r =
    let g = given_run h tracks o runs r.1 in
    record {
      runs_are = ap (λ (x : Run). x ∷ map (run_of_row h tracks) (map (row_of_run o) runs)) r.0 ∙ ap (λ (xs : List Run). run ∷ xs) g.runs_are;
      listed = ap (λ (xs : List ListedRun). listed_run run ∷ xs) g.listed;
    }

given_append : (h : MoofBytes) (tracks : List Track) (a b : List RunRow) (x y : List Run) → Given h tracks a x → Given h tracks b y → Given h tracks (a ++ b) (x ++ y)
given_append h tracks a b x y g k = record {
  runs_are = map-append (run_of_row h tracks) a b ∙ (ap (λ (z : List Run). z ++ map (run_of_row h tracks) b) g.runs_are ∙ ap (λ (z : List Run). x ++ z) k.runs_are);
  listed = map-append listed_row a b ∙ (ap (λ (z : List ListedRun). z ++ map listed_row b) g.listed ∙ (ap (λ (z : List ListedRun). map listed_run x ++ z) k.listed ∙ sym (map-append listed_run x y)));
}

given_trafs : (h : MoofBytes) (tracks : List Track) (ts : List Box) → AllByRecursion (Lies h) ts → h.offset + length h.bytes ≤ 2 ^ 62 → Given h tracks (rows_of_trafs h tracks ts) (runs_by h tracks ts)
given_trafs h tracks [] lie room = record { runs_are = refl; listed = refl }
given_trafs h tracks (t ∷ ts) lie room =
    given_append h tracks (rows_of_traf h tracks t) (rows_of_trafs h tracks ts) (runs_of (traf_of h tracks t)) (runs_by h tracks ts)
    (given_run h tracks (tfhd_at t) (runs_of (traf_of h tracks t)) (traf_reread h tracks t lie.0 room)) (given_trafs h tracks ts lie.1 room)

-- the rows of the trafs of a moof give its runs
pub moof_given : (h : MoofBytes) (tracks : List Track) (m : Box) → Lies h m → h.offset + length h.bytes ≤ 2 ^ 62 → Given h tracks (rows_of_trafs h tracks (at_path (traf ∷ []) m)) (runs_by h tracks (of_kind traf (children m)))
moof_given h tracks m lies room =
    subst (λ (ts : List Box). Given h tracks (rows_of_trafs h tracks ts) (runs_by h tracks (of_kind traf (children m)))) (sym (on_path traf m))
    (given_trafs h tracks (of_kind traf (children m)) (kind_all (Lies h) traf (children m) (children_lie h m lies)) room)

-- ---- how many there are

length_runs : (s : Shared) (time : ℕ) (last : ℤ) (bs : List Box) → length (runs_from s time last bs) ≡ length bs
unfolding runs_from
length_runs s time last [] = refl
length_runs s time last (b ∷ bs) = let run = run_of s time last b in omega (arith, length_runs s run.end (end_place run) bs)

traf_rows : (h : MoofBytes) (tracks : List Track) (t : Box) → length (rows_of_traf h tracks t) ≡ length (at_path (trun ∷ []) t)
unfolding traf_of
traf_rows h tracks t =
    let r = traf_of h tracks t in
    length-map (runs_of r) (row_of_run (tfhd_at t)) ∙ (length_runs r.shared r.time (pos h.offset) r.truns ∙ sym (ap length (on_path trun t)))

trafs_rows : (h : MoofBytes) (tracks : List Track) (ts : List Box) → length (rows_of_trafs h tracks ts) ≡ length (flat_map (at_path (trun ∷ [])) ts)
trafs_rows h tracks [] = refl
trafs_rows h tracks (t ∷ ts) =
    let a = length-append (rows_of_traf h tracks t) (rows_of_trafs h tracks ts) in
    let b = length-append (at_path (trun ∷ []) t) (flat_map (at_path (trun ∷ [])) ts) in
    omega (arith, a, b, traf_rows h tracks t, trafs_rows h tracks ts)

two_steps : (m : Box) → at_path to_trun m ≡ flat_map (at_path (trun ∷ [])) (of_kind traf (children m))
unfolding at_path
two_steps m = refl

pub moof_rows : (h : MoofBytes) (tracks : List Track) (m : Box) → length (rows_of_trafs h tracks (at_path (traf ∷ []) m)) ≡ length (at_path to_trun m)
moof_rows h tracks m =
    ap (λ (ts : List Box). length (rows_of_trafs h tracks ts)) (on_path traf m) ∙ (trafs_rows h tracks (of_kind traf (children m)) ∙ sym (ap length (two_steps m)))
