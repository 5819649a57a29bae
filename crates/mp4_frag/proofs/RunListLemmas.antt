-- A list of rows that was sorted twice is that of its moof.
use Rattle.std.proofs.Common.{◌≡◌, ◌∙◌, ◌<◌, ◌≤◌, ℕ, List, [], ◌∷◌, length, drop, append-nil, get_or, zero, suc, Option, Some, None, refl, sym, ap, subst, arith}
use Rattle.std.specs.Prelude.{map, option_map}
use Rattle.std.specs.List.{All, fold}
use Rattle.std.specs.List.Sorted.{IsPermutation, IsNonDecreasingBy}
use Rattle.std.proofs.lemmas.List.{length-map, take_all, drop_all}
use Rattle.mp4_ledger.specs.Memory.{overwritten}
use Rattle.std.proofs.lemmas.List.Sorted.{IsPermutation-map}
use Rattle.mp4_init.specs.declared.table.Track.{Track}
use Rattle.mp4_run_order.specs.declared.runs.ListedRun.{ListedRun}
use Rattle.mp4_run_order.specs.declared.place_search.PlaceSearch.{PlaceSearch}
use Rattle.mp4_run_order.specs.declared.runs.Payload.{Payload}
use Rattle.mp4_run_order.specs.Orders.{FitsKeys, IsTakenBefore, IsTakingOrder, IsTrackOrder, place_key, taken, track_key}
use Rattle.mp4_box.specs.declared.rules.Fault.{Fault}
use Rattle.mp4_run_order.specs.Places.{IsOffender, first_offender}
use Rattle.mp4_run_order.specs.Runs.{IsListing}
use Rattle.mp4_run_order.specs.Implementation.Searches.{found_by_place, found_by_track, place_start, place_step}
use Rattle.mp4_run_order.proofs.ListLemmas.{Each, Pairs, all_of_pairs, each_moved, pairs_of_all, pairs_of_map, pairs_with}
use Rattle.mp4_run_order.proofs.OrderLemmas.{TakenBefore, order_is_taken, place_keys_order, taken_alone, taken_is_order, taken_map, track_keys_order}
use Rattle.mp4_run_order.proofs.SearchLemmas.{offender_means, search_is}
use Rattle.mp4_traf.specs.declared.run.Run.{Run}
use Rattle.mp4_frag.specs.declared.run_list.run_row.RunRow.{RunRow}
use Rattle.mp4_frag.specs.Moofs.{moof_runs}
use Rattle.mp4_traf.specs.Runs.{MoofBytes}
use Rattle.mp4_frag.specs.Implementation.Rereads.{run_of_row}
use Rattle.mp4_frag.specs.Implementation.RunRows.{listed_row, listed_words, place_word, row_of_words, rows_of_words, track_word}
use Rattle.mp4_frag.specs.Places.{listed_run, IsPlaceFault, run_place_fault, place_fault}
use Rattle.mp4_frag.specs.RunLists.{moof_listing, taken_runs, ListedRows}
use Rattle.mp4_frag.specs.ListsOfRuns.{IsListOf}
use Rattle.mp4_frag.specs.Implementation.ListedRows.{IsFaultyByTrack, IsSorted}
use Rattle.mp4_frag.proofs.RunRowLemmas.{Earlier, Given}

-- ---- maps

each_map : {X Y : Type 0} (f : X → Y) (P : Y → Type 0) (xs : List X) → Each (λ x. P (f x)) xs → Each P (map f xs)
each_map f P [] h = tt
each_map f P (x ∷ xs) h = (h.0, each_map f P xs h.1)

pairs_map : {X Y : Type 0} (f : X → Y) (R : Y → Y → Type 0) (xs : List X) → Pairs (λ x y. R (f x) (f y)) xs → Pairs R (map f xs)
pairs_map f R [] h = tt
pairs_map f R (x ∷ xs) h = (each_map f (R (f x)) xs h.0, pairs_map f R xs h.1)

pub map_map : {X Y Z : Type 0} (f : X → Y) (g : Y → Z) (xs : List X) → map g (map f xs) ≡ map (λ x. g (f x)) xs
map_map f g [] = refl
map_map f g (x ∷ xs) = ap (λ (zs : _). g (f x) ∷ zs) (map_map f g xs)

-- ---- rows of a moof

-- the row is that of its run
abbrev Gives : MoofBytes → List Track → RunRow → Type 0
Gives h tracks row = listed_run (run_of_row h tracks row) ≡ listed_row row

abbrev pub Filled : MoofBytes → List Track → List RunRow → Type 0
Filled h tracks rows = Given h tracks rows (moof_runs h tracks)

pointwise : {X Y : Type 0} (f g : X → Y) (xs : List X) → map f xs ≡ map g xs → Each (λ x. f x ≡ g x) xs
pointwise f g [] e = tt
pointwise f g (x ∷ xs) e = (cc, pointwise f g xs cc)

each_gives : (h : MoofBytes) (tracks : List Track) (rows : List RunRow) → Filled h tracks rows → Each (Gives h tracks) rows
each_gives h tracks rows f =
    pointwise (λ row. listed_run (run_of_row h tracks row)) listed_row rows
    (sym (map_map (run_of_row h tracks) listed_run rows) ∙ (ap (map listed_run) f.runs_are ∙ sym f.listed))

-- ---- in order

no_fall_map : {X Y : Type 0} (f : X → Y) (key : Y → ℕ) (xs : List X) → IsNonDecreasingBy (λ x. key (f x)) xs → IsNonDecreasingBy key (map f xs)
no_fall_map f key xs h = λ i j d le lt. let l = length-map xs f in at f key xs h i j d le (omega arith)
  where
    get_map : {X Y : Type 0} (f : X → Y) (xs : List X) (i : ℕ) (d : Y) (e : X) → i < length xs → get_or (map f xs) i d ≡ f (get_or xs i e)
    get_map f [] i d e h = absurd (omega arith)
    get_map f (x ∷ xs) zero d e h = refl
    get_map f (x ∷ xs) (suc i) d e h = get_map f xs i d e (omega arith)

    some : {X : Type 0} (xs : List X) (i : ℕ) → i < length xs → X
    some [] i h = absurd (omega arith)
    some (x ∷ xs) i h = x

    at : {X Y : Type 0} (f : X → Y) (key : Y → ℕ) (xs : List X) → IsNonDecreasingBy (λ x. key (f x)) xs → (i j : ℕ) (d : Y) → i ≤ j → j < length xs → key (get_or (map f xs) i d) ≤ key (get_or (map f xs) j d)
    at f key xs h i j d le lt =
        let e = some xs j lt in
        let k = h i j e le lt in
        let a = ap key (get_map f xs i d e (omega arith)) in
        let b = ap key (get_map f xs j d e lt) in
        omega (arith, a, b, k)

-- rows that were sorted by a key of their runs
listed_up : (key : ListedRun → ℕ) (ws : List (List ℕ)) → IsNonDecreasingBy (λ w. key (listed_row (row_of_words w))) ws → IsNonDecreasingBy key (listed_words ws)
listed_up key ws h = no_fall_map (λ (w : List ℕ). listed_row (row_of_words w)) key ws h

listed_moved : (h : MoofBytes) (tracks : List Track) (from to : List (List ℕ)) → Filled h tracks (map row_of_words from) → IsPermutation from to → IsPermutation (moof_listing h tracks) (listed_words to)
listed_moved h tracks from to f m =
    subst (λ (xs : List ListedRun). IsPermutation xs (listed_words to)) (sym (map_map row_of_words listed_row from) ∙ f.listed)
    (IsPermutation-map (λ (w : List ℕ). listed_row (row_of_words w)) from to m)

-- what is known of the runs of a moof
pub record Known (h : MoofBytes) (tracks : List Track) : Type 0 where
  pub rise : Pairs Earlier (moof_runs h tracks)
  pub fits : All FitsKeys (moof_listing h tracks)

is_listing : (h : MoofBytes) (tracks : List Track) → Known h tracks → IsListing (moof_listing h tracks)
is_listing h tracks k = all_of_pairs (λ a b. a.number < b.number) (moof_listing h tracks) (pairs_map listed_run (λ a b. a.number < b.number) (moof_runs h tracks) k.rise)

by_track : (h : MoofBytes) (tracks : List Track) (from to : List (List ℕ)) → Known h tracks → Filled h tracks (map row_of_words from) → IsPermutation from to → IsNonDecreasingBy track_word to → IsTrackOrder (moof_listing h tracks) (listed_words to)
by_track h tracks from to k f m up =
    track_keys_order (moof_listing h tracks) (listed_words to) (is_listing h tracks k) k.fits (listed_moved h tracks from to f m) (listed_up track_key to up)

by_place : (h : MoofBytes) (tracks : List Track) (from to : List (List ℕ)) → Known h tracks → Filled h tracks (map row_of_words from) → IsPermutation from to → IsNonDecreasingBy place_word to → IsTakingOrder (moof_listing h tracks) (listed_words to)
by_place h tracks from to k f m up =
    place_keys_order (moof_listing h tracks) (listed_words to) (is_listing h tracks k) k.fits (listed_moved h tracks from to f m) (listed_up place_key to up)

-- rows in the order in which their runs are taken give the runs so
given_order : (h : MoofBytes) (tracks : List Track) (rows : List RunRow) → Each (Gives h tracks) rows → Pairs (λ a b. IsTakenBefore (listed_row a) (listed_row b)) rows → Pairs (TakenBefore listed_run) (map (run_of_row h tracks) rows)
given_order h tracks rows g o =
    pairs_map (run_of_row h tracks) (TakenBefore listed_run) rows
    (pairs_with (Gives h tracks) (λ a b. IsTakenBefore (listed_row a) (listed_row b)) (λ a b. IsTakenBefore (listed_run (run_of_row h tracks a)) (listed_run (run_of_row h tracks b)))
    (λ a b x y t. subst (λ (r : ListedRun). IsTakenBefore r (listed_run (run_of_row h tracks b))) (sym x) (subst (λ (r : ListedRun). IsTakenBefore (listed_row a) r) (sym y) t)) rows g o)

runs_taken : (h : MoofBytes) (tracks : List Track) (from to : List RunRow) → Known h tracks → Filled h tracks from → IsPermutation from to → Pairs (λ a b. IsTakenBefore (listed_row a) (listed_row b)) to → map (run_of_row h tracks) to ≡ taken_runs h tracks
runs_taken h tracks from to k f m o =
    taken_alone listed_run (moof_runs h tracks) (map (run_of_row h tracks) to) k.rise
    (subst (λ (runs : List Run). IsPermutation runs (map (run_of_row h tracks) to)) f.runs_are (IsPermutation-map (run_of_row h tracks) from to m))
    (given_order h tracks to (each_moved (Gives h tracks) from to m (each_gives h tracks from f)) o)

-- rows of a moof that were sorted by track and then by place
pub list_is : (h : MoofBytes) (tracks : List Track) (filled placed : List (List ℕ)) (faulty_by_track : Option ℕ) → Known h tracks → Filled h tracks (rows_of_words filled) → IsFaultyByTrack filled faulty_by_track → IsSorted filled placed → IsListOf h tracks (record { rows = rows_of_words placed; faulty_by_track = faulty_by_track })
list_is h tracks filled placed faulty_by_track k f l s =
    let order = by_place h tracks filled placed k f s.same s.up in
    let rows = rows_of_words placed in
    let same : listed_words placed ≡ map listed_row rows = sym (map_map row_of_words listed_row placed) in
    let pairs = pairs_of_map (λ (w : List ℕ). listed_row (row_of_words w)) IsTakenBefore placed (pairs_of_all IsTakenBefore (listed_words placed) order.order) in
    record {
      runs = runs_taken h tracks (rows_of_words filled) rows k f (IsPermutation-map row_of_words filled placed s.same) (pairs_map row_of_words (λ a b. IsTakenBefore (listed_row a) (listed_row b)) placed pairs);
      ordered = record {
        listing = is_listing h tracks k;
        taken = sym same ∙ order_is_taken (moof_listing h tracks) (listed_words placed) (is_listing h tracks k) order;
        faulty_by_track = record { sorted = listed_words l.sorted; order = by_track h tracks filled l.sorted k f l.same l.up; is = l.is };
      };
    }

pub length_rows : (ws : List (List ℕ)) → length (rows_of_words ws) ≡ length ws
length_rows ws = length-map ws row_of_words

-- ---- the search

both_maps : (o : Option ListedRun) → option_map run_place_fault (option_map (λ run. run.number) o) ≡ option_map (λ run. run_place_fault run.number) o
both_maps None = refl
both_maps (Some run) = refl

place_is : (p : Payload) (h : MoofBytes) (tracks : List Track) (l : ListedRows) (r : Option ℕ) → IsListOf h tracks l → r ≡ found_by_place p l.faulty_by_track (map listed_row l.rows) → option_map run_place_fault r ≡ place_fault p (moof_runs h tracks)
place_is p h tracks l r of e =
    let listing = moof_listing h tracks in
    let faulty_by_track = of.ordered.faulty_by_track in
    let s = search_is p listing faulty_by_track.sorted (taken listing) of.ordered.listing faulty_by_track.order (taken_is_order listing of.ordered.listing) in
    let found : r ≡ option_map (λ run. run.number) (first_offender p listing) =
    e ∙ (ap (λ (o : Option ℕ). found_by_place p o (map listed_row l.rows)) faulty_by_track.is ∙ (ap (found_by_place p (found_by_track faulty_by_track.sorted)) of.ordered.taken ∙ s)) in
    ap (option_map run_place_fault) found ∙ both_maps (first_offender p listing)

-- before the first row
pub search_begins : (p : Payload) (l : ListedRows) (ws : List (List ℕ)) (faulty_by_track : Option ℕ) → record { rows = rows_of_words ws; faulty_by_track = faulty_by_track } ≡ l
    → fold place_step (place_start p faulty_by_track) (listed_words ws) ≡ fold place_step (place_start p l.faulty_by_track) (map listed_row l.rows)
search_begins p l ws faulty_by_track e =
    ap (fold place_step (place_start p faulty_by_track)) (sym (map_map row_of_words listed_row ws))
    ∙ ap (λ (l : ListedRows). fold place_step (place_start p l.faulty_by_track) (map listed_row l.rows)) e

-- past the last
pub place_found : (p : Payload) (h : MoofBytes) (tracks : List Track) (l : ListedRows) (s : PlaceSearch) (rest : List ListedRun) → IsListOf h tracks l → rest ≡ []
    → fold place_step s rest ≡ fold place_step (place_start p l.faulty_by_track) (map listed_row l.rows) → option_map run_place_fault s.offender ≡ place_fault p (moof_runs h tracks)
place_found p h tracks l s rest of none e =
    place_is p h tracks l s.offender of (ap (λ (s : PlaceSearch). s.offender) (ap (fold place_step s) (sym none) ∙ e))

-- what the fault means

means_by : (p : Payload) (runs : List ListedRun) (o : Option ListedRun) → IsOffender p runs o → IsPlaceFault p runs (option_map (λ run. run_place_fault run.number) o)
means_by p runs None h = h
means_by p runs (Some run) h = record { run = run; first = h; is = refl }

pub place_means : (p : Payload) (h : MoofBytes) (tracks : List Track) (l : ListedRows) (o : Option Fault) → IsListOf h tracks l → o ≡ place_fault p (moof_runs h tracks) → IsPlaceFault p (moof_listing h tracks) o
place_means p h tracks l o of e =
    let listing = moof_listing h tracks in
    subst (IsPlaceFault p listing) (sym e) (means_by p listing (first_offender p listing) (offender_means p listing of.ordered.listing))

-- ---- the run at an index

map_at : {X Y : Type 0} (f : X → Y) (xs : List X) (i : ℕ) (d : Y) (e : X) → i < length xs → get_or (map f xs) i d ≡ f (get_or xs i e)
map_at f [] i d e h = absurd (omega arith)
map_at f (x ∷ xs) zero d e h = refl
map_at f (x ∷ xs) (suc i) d e h = map_at f xs i d e (omega arith)

pub run_is : (h : MoofBytes) (tracks : List Track) (l : ListedRows) (ws : List (List ℕ)) (i : ℕ) (w : List ℕ) (r : Run) → IsListOf h tracks l → rows_of_words ws ≡ l.rows → i < length l.rows → w ≡ get_or ws i w → r ≡ run_of_row h tracks (row_of_words w)
    → r ≡ get_or (taken_runs h tracks) i r
run_is h tracks l ws i w r of e lt at is =
    let n = ap length e in
    let m = length_rows ws in
    let same : map (run_of_row h tracks) (rows_of_words ws) ≡ taken_runs h tracks = ap (map (run_of_row h tracks)) e ∙ of.runs in
    is
    ∙ (ap (λ (v : List ℕ). run_of_row h tracks (row_of_words v)) at
    ∙ (ap (run_of_row h tracks) (sym (map_at row_of_words ws i (row_of_words w) w (omega arith)))
    ∙ (sym (map_at (run_of_row h tracks) (rows_of_words ws) i r (row_of_words w) (omega arith)) ∙ ap (λ (xs : List Run). get_or xs i r) same)))

-- what is listed of it
pub listed_is : (h : MoofBytes) (tracks : List Track) (l : ListedRows) (ws : List (List ℕ)) (i : ℕ) (w : List ℕ) (run : Run) → IsListOf h tracks l → rows_of_words ws ≡ l.rows → i < length l.rows → w ≡ get_or ws i w → run ≡ get_or (taken_runs h tracks) i run
    → listed_row (row_of_words w) ≡ listed_run run
listed_is h tracks l ws i w run of e lt at is =
    let n = ap length e in
    let m = length_rows ws in
    let k = ap length of.runs in
    let same : map listed_row (rows_of_words ws) ≡ map listed_run (taken_runs h tracks) = ap (map listed_row) e ∙ of.ordered.taken ∙ sym (taken_map listed_run (moof_runs h tracks)) in
    ap (λ (v : List ℕ). listed_row (row_of_words v)) at
    ∙ (ap listed_row (sym (map_at row_of_words ws i (row_of_words w) w (omega arith)))
    ∙ (sym (map_at listed_row (rows_of_words ws) i (listed_run run) (row_of_words w) (omega arith))
    ∙ (ap (λ (xs : List ListedRun). get_or xs i (listed_run run)) same
    ∙ (map_at listed_run (taken_runs h tracks) i (listed_run run) run (omega (arith, k, length-map l.rows (run_of_row h tracks)))
    ∙ ap listed_run (sym is)))))

-- ---- the borrow ends

pub overwritten_all : (xs w : List (List ℕ)) → length w ≡ length xs → overwritten xs w ≡ w
overwritten_all xs w e =
    let d : drop (length w) xs ≡ [] = drop_all (length w) xs (omega arith) in
    rw (d, append-nil w) (rw (sym e) (take_all (length w) w (omega arith)))
