-- A piece without its least composition time, and the first piece where only the number of samples bounds it.
use Rattle.std.proofs.Common.{◌≡◌, ℕ, ℤ, zero, suc, ◌+◌, ◌-◌, ◌*◌, ◌/◌, ◌<◌, ◌≤◌, Bool, true, false, List, [], ◌∷◌, ◌++◌, length, map, take, drop, max, min, refl, subst, sym, ap, ◌∙◌, arith, inl, inr, append_assoc, append-nil, Option, None, Some}
use Rattle.std.specs.Prelude.{◌&&◌, ◌||◌, nat_le}
use Rattle.std.specs.List.{AllByRecursion, range_with_len}
use Rattle.std.specs.Option.{is_some}
use Rattle.std.proofs.lemmas.Bool.{cases_lt, le-leb, leb-true}
use Rattle.std.proofs.lemmas.List.{length-drop, length-take}
use Rattle.std.proofs.lemmas.List.Sums.{sum_by-cons}
use Rattle.std.proofs.Math.Nat.{le-div_iff_mul-le}
use Rattle.std.proofs.lemmas.Nat.{le-div}
use Rattle.mp4_traf.specs.CompositionTimes.{composition_times, least_of}
use Rattle.mp4_traf.specs.declared.run.Run.{Run}
use Rattle.mp4_traf.specs.declared.rows.Row.{Row}
use Rattle.mp4_traf.specs.declared.rows.Cursor.{Cursor}
use Rattle.mp4_traf.specs.Rows.{IsCursor, durations, row_of, rows_of, sizes}
use Rattle.mp4_traf.proofs.RowLemmas.{length_rows_of}
use Rattle.mp4_pieces.specs.declared.cut.Cut.{Cut}
use Rattle.mp4_pieces.specs.declared.piece.Piece.{Piece}
use Rattle.mp4_pieces.specs.declared.plain.PlainPiece.{PlainPiece}
use Rattle.mp4_pieces.specs.Cutting.{IsLimit, cut_by, cut_from, join}
use Rattle.mp4_pieces.specs.Fitting.{cut_for, fits}
use Rattle.mp4_pieces.specs.Implementation.Counting.{CutsAs, IsFirst, LastsWithin}
use Rattle.mp4_pieces.specs.Bounds.{IsCounted, IsTimed, LastsAs}
use Rattle.mp4_pieces.specs.Pieces.{IsPieceOf, cursor_at, cut_rows, past_rows, piece_at, pieces_at, pieces_from, rows_in}
use Rattle.mp4_pieces.specs.PlainPieces.{piece_of, plain_at, plain_end}
use Rattle.mp4_pieces.proofs.CutLemmas.{pieces_are}
use Rattle.mp4_pieces.proofs.FitLemmas.{and_is, and_so, is_limit}
use Rattle.mp4_pieces.proofs.WhatFitsLemmas.{or_either, or_so}
use Rattle.mp4_pieces.proofs.GrowLemmas.{bool_is}
use Rattle.mp4_pieces.proofs.PieceLemmas.{goes_on}

-- ---- a piece without its least composition time

pub plain_is : (moof_bytes : List ℕ) (run : Run) (p : Piece) → IsPieceOf moof_bytes run p → piece_of moof_bytes run p.plain ≡ p
unfolding piece_at
plain_is moof_bytes run p is =
    let rows : List Row = rows_in moof_bytes run p in
    let c : Cursor = cursor_at moof_bytes run p.plain.first in
    let time : p.plain.time ≡ c.time = ap (λ (x : Piece). x.plain.time) is.is in
    let least : p.least ≡ least_of (composition_times c.time rows) = ap (λ (x : Piece). x.least) is.is in
    let same : least_of (composition_times p.plain.time rows) ≡ p.least = ap (λ (t : ℕ). least_of (composition_times t rows)) time ∙ sym least in
    with_least same
  where
    with_least : {z : ℤ} → z ≡ p.least → record { plain = p.plain; least = z } ≡ p
    with_least e = rw e refl

-- what is found of a piece holds of it without its least composition time
pub plain_first : (cut : Cut) (moof_bytes : List ℕ) (run : Run) (c : Cursor) (p : Piece) (ps : List Piece) → IsCursor run moof_bytes c → pieces_from cut moof_bytes run c ≡ p ∷ ps
    → pieces_from cut moof_bytes run c ≡ piece_of moof_bytes run p.plain ∷ pieces_from cut moof_bytes run (plain_end p.plain)
plain_first cut moof_bytes run c p ps at e =
    let next = goes_on cut moof_bytes run c p ps at e in
    e ∙ ap (λ (x : Piece). x ∷ ps) (sym (plain_is moof_bytes run p next.piece)) ∙ ap (λ (xs : List Piece). piece_of moof_bytes run p.plain ∷ xs) (sym next.rest)

at_none : (c : Cursor) (q : List (List Row)) → pieces_at c q ≡ [] → q ≡ []
unfolding pieces_at
at_none c [] e = refl
at_none c (x ∷ q) e = absurd cc

-- where rows are left there is a first piece
pub some_first : (cut : Cut) (moof_bytes : List ℕ) (run : Run) (c : Cursor) → c.row < run.count → pieces_from cut moof_bytes run c ≡ [] → ⊥
some_first cut moof_bytes run c h e =
    let rows : List Row = drop c.row (rows_of run moof_bytes) in
    let own : Cut = cut_for run.timescale cut in
    let none : [] ≡ rows = sym (ap join (at_none c (cut_rows own rows) e)) ∙ (pieces_are (fits own) rows (is_limit own)).joined in
    absurd (omega (arith, ap length none, length-drop c.row (rows_of run moof_bytes), length_rows_of run moof_bytes, h))

-- ---- where only the number of samples bounds a piece

pub not_some : {A : Type 0} (o : Option A) → is_some o ≡ false → o ≡ None
not_some None e = refl
not_some (Some n) e = absurd cc

lasts_as : (moof_bytes : List ℕ) (run : Run) (i : ℕ) → LastsAs run (row_of run moof_bytes i)
unfolding row_of
lasts_as moof_bytes run i none = rw none refl

all_last : (moof_bytes : List ℕ) (run : Run) (ns : List ℕ) → AllByRecursion (LastsAs run) (map (row_of run moof_bytes) ns)
all_last moof_bytes run [] = tt
all_last moof_bytes run (n ∷ ns) = (lasts_as moof_bytes run n, all_last moof_bytes run ns)

all_dropped : (run : Run) (n : ℕ) (xs : List Row) → AllByRecursion (LastsAs run) xs → AllByRecursion (LastsAs run) (drop n xs)
all_dropped run zero xs all = all
all_dropped run (suc n) [] all = tt
all_dropped run (suc n) (x ∷ xs) all = all_dropped run n xs all.1

all_more : (run : Run) (p : List Row) (x : Row) → AllByRecursion (LastsAs run) p → LastsAs run x → AllByRecursion (LastsAs run) (p ++ x ∷ [])
all_more run [] x all one = (one, tt)
all_more run (y ∷ p) x all one = (all.0, all_more run p x all.1 one)

-- ---- how many samples a piece may have

same_tests : (a b : Bool) → (a ≡ true → b ≡ true) → (b ≡ true → a ≡ true) → a ≡ b
same_tests true b to from = sym (to refl)
same_tests false true to from = from refl
same_tests false false to from = refl

-- samples that last equally long
by_product : (run : Run) (rows : List Row) → run.fields.sample_duration ≡ None → AllByRecursion (LastsAs run) rows → durations rows ≡ length rows * run.duration
by_product run [] none all = omega arith
by_product run (row ∷ rows) none all = omega (arith, sum_by-cons (λ (r : Row). r.duration) row rows, all.0 none, by_product run rows none all.1)

at_once : (len samples ticks duration most : ℕ) → 0 < duration → most ≡ min (max (ticks / duration) 1) samples
    → (nat_le len samples && (true && ((nat_le len 1 || nat_le (len * duration) ticks) && (true && true)))) ≡ nat_le len most
at_once len samples ticks duration most some is =
    same_tests (nat_le len samples && (true && ((nat_le len 1 || nat_le (len * duration) ticks) && (true && true)))) (nat_le len most)
    (λ fit.
    let both = and_is (nat_le len samples) _ fit in
    let few : len ≤ samples = leb-true len samples both.0 in
    let one = and_is (nat_le len 1 || nat_le (len * duration) ticks) (true && true) both.1 in
    elim (or_either (nat_le len 1) (nat_le (len * duration) ticks) one.0) [
      | inl l ↦ le-leb len most (omega (arith, is, few, leb-true len 1 l))
      | inr r ↦ le-leb len most (omega (arith, is, few, le-div len ticks duration some (leb-true (len * duration) ticks r)))
    ])
    (λ fit.
    let few : len ≤ most = leb-true len most fit in
    and_so (nat_le len samples) _ (le-leb len samples (omega (arith, is, few)))
    (and_so (nat_le len 1 || nat_le (len * duration) ticks) (true && true)
    (elim (cases_lt 1 len) [
      | inl more ↦ or_so (nat_le len 1) (nat_le (len * duration) ticks) (inr (le-leb (len * duration) ticks (back len ticks duration some (omega (arith, is, few, more)))))
      | inr one ↦ or_so (nat_le len 1) (nat_le (len * duration) ticks) (inl (le-leb len 1 one))
    ])
    refl))
  where
    back : (m n k : ℕ) → 0 < k → m ≤ n / k → m * k ≤ n
    back m n k h e = (le-div_iff_mul-le h).0 e

-- a limit in ticks is one of samples, where all have the default duration
pub counted_ticks : (cut : Cut) (run : Run) (ticks most : ℕ) → cut.bytes ≡ None → cut.sync ≡ false → cut.keyframes ≡ false → (cut_for run.timescale cut).ticks ≡ Some ticks → run.fields.sample_duration ≡ None → 0 < run.duration → 0 < cut.samples
    → most ≡ min (max (ticks / run.duration) 1) cut.samples → IsCounted cut run most
counted_ticks cut run ticks most b s k t none long some is = record {
  some = omega (arith, is, some);
  counts = λ rows all. rw (b, s, k, t, by_product run rows none all) (at_once (length rows) cut.samples ticks run.duration most long is);
}

pub long_one : (n : ℕ) → (n ≡ 0 → ⊥) → 0 < n
long_one zero h = absurd (h refl)
long_one (suc n) h = omega arith

pub most_is : (ticks duration samples d fit s : ℕ) → d ≡ duration → fit ≡ max (ticks / d) 1 → s ≡ samples → min fit s ≡ min (max (ticks / duration) 1) samples
most_is ticks duration samples d fit s p q r = rw (q, p, r) refl

-- samples without a duration pass no limit in ticks
pub counted_still : (cut : Cut) (run : Run) (ticks : ℕ) → cut.bytes ≡ None → cut.sync ≡ false → cut.keyframes ≡ false → (cut_for run.timescale cut).ticks ≡ Some ticks → run.fields.sample_duration ≡ None → run.duration ≡ 0 → IsCounted cut run cut.samples
counted_still cut run ticks b s k t none still_zero = record {
  some = cut.some;
  counts = λ rows all.
      let sum : durations rows ≡ 0 = by_product run rows none all ∙ (ap (λ (d : ℕ). length rows * d) still_zero ∙ omega arith) in
      let none_passes : nat_le 0 ticks ≡ true = le-leb 0 ticks (omega arith) in
      rw (b, s, k, t, sum, none_passes) (still (nat_le (length rows) cut.samples) (nat_le (length rows) 1));
}
  where
    still : (a l : Bool) → (a && (true && ((l || true) && (true && true)))) ≡ a
    still true true = refl
    still true false = refl
    still false l = refl

-- ---- two tests that agree on the samples of a run cut them alike

same_from : (f g : List Row → Bool) (run : Run) (p xs : List Row) → ((rows : List Row) → AllByRecursion (LastsAs run) rows → f rows ≡ g rows) → AllByRecursion (LastsAs run) p → AllByRecursion (LastsAs run) xs
    → cut_from f p xs ≡ cut_from g p xs
unfolding cut_from
same_from f g run p [] same here all = refl
same_from f g run p (x ∷ xs) same here all =
    let more_here = all_more run p x here all.0 in
    let e : f (p ++ x ∷ []) ≡ g (p ++ x ∷ []) = same (p ++ x ∷ []) more_here in
    elim (bool_is (g (p ++ x ∷ []))) [
      | inl t ↦ let yes : f (p ++ x ∷ []) ≡ true = e ∙ t in rw (yes, t) (same_from f g run (p ++ x ∷ []) xs same more_here all.1)
      | inr n ↦ let no_more : f (p ++ x ∷ []) ≡ false = e ∙ n in rw (no_more, n) (ap (λ (q : List (List Row)). p ∷ q) (same_from f g run (x ∷ []) xs same (all.0, tt) all.1))
    ]

same_cut : (f g : List Row → Bool) (run : Run) (rows : List Row) → ((rows : List Row) → AllByRecursion (LastsAs run) rows → f rows ≡ g rows) → AllByRecursion (LastsAs run) rows → cut_by f rows ≡ cut_by g rows
unfolding cut_by
same_cut f g run [] same all = refl
same_cut f g run (x ∷ xs) same all = same_from f g run (x ∷ []) xs same (all.0, tt) all.1

-- so does the cut of a run
pub cut_as : (cut : Cut) (moof_bytes : List ℕ) (run : Run) (own : Cut) (n : ℕ) → CutsAs cut run own → cut_rows own (drop n (rows_of run moof_bytes)) ≡ cut_rows (cut_for run.timescale cut) (drop n (rows_of run moof_bytes))
cut_as cut moof_bytes run own n same =
    same_cut (fits own) (fits (cut_for run.timescale cut)) run (drop n (rows_of run moof_bytes)) same
    (all_dropped run n (rows_of run moof_bytes) (all_last moof_bytes run (range_with_len 0 (run.count - 0))))

-- ---- the first piece

take_empty : (n : ℕ) → take {A = Row} n [] ≡ []
take_empty zero = refl
take_empty (suc n) = refl

take_more : (k : ℕ) (x : Row) (xs : List Row) → take (suc k + 1) (x ∷ xs) ≡ x ∷ take (k + 1) xs
take_more k x xs = let e : suc k + 1 ≡ suc (k + 1) = omega arith in ap (λ (n : ℕ). take n (x ∷ xs)) e

-- rows that fit after those of a piece, and not with one more, are the rest of it
first_from : (test : List Row → Bool) → IsLimit test → (y : Row) (p xs : List Row) (k : ℕ) → k ≤ length xs → test (y ∷ (p ++ take k xs)) ≡ true → (k < length xs → test (y ∷ (p ++ take (k + 1) xs)) ≡ false)
    → (rest : List (List Row)) × (cut_from test (y ∷ p) xs ≡ (y ∷ (p ++ take k xs)) ∷ rest)
unfolding cut_from
first_from test limit y p [] k few fit full = ([], ap (λ (q : List Row). (y ∷ q) ∷ []) (sym (append-nil p) ∙ ap (λ (q : List Row). p ++ q) (sym (take_empty k))))
first_from test limit y p (x ∷ xs) zero few fit full =
    let no_more : test (y ∷ (p ++ x ∷ [])) ≡ false = full (omega arith) in
    (cut_from test (x ∷ []) xs, rw no_more (ap (λ (q : List Row). (y ∷ q) ∷ cut_from test (x ∷ []) xs) (sym (append-nil p))))
first_from test limit y p (x ∷ xs) (suc k) few fit full =
    let same : (p ++ x ∷ []) ++ take k xs ≡ p ++ x ∷ take k xs = append_assoc p (x ∷ []) (take k xs) in
    let one_more : (p ++ x ∷ []) ++ take (k + 1) xs ≡ p ++ x ∷ take (k + 1) xs = append_assoc p (x ∷ []) (take (k + 1) xs) in
    let here : test (y ∷ ((p ++ x ∷ []) ++ take k xs)) ≡ true = ap (λ (q : List Row). test (y ∷ q)) same ∙ fit in
    let yes : test (y ∷ (p ++ x ∷ [])) ≡ true = limit.front y (p ++ x ∷ []) (take k xs) here in
    let more = first_from test limit y (p ++ x ∷ []) xs k (omega (arith, few)) here (λ less. ap (λ (q : List Row). test (y ∷ q)) one_more ∙ ap (λ (q : List Row). test (y ∷ (p ++ q))) (sym (take_more k x xs)) ∙ full (omega (arith, less))) in
    (more.0, rw yes (more.1 ∙ ap (λ (q : List Row). (y ∷ q) ∷ more.0) same))

first_rows : (test : List Row → Bool) → IsLimit test → (rows : List Row) (count : ℕ) → 0 < count → count ≤ length rows → test (take count rows) ≡ true → (count < length rows → test (take (count + 1) rows) ≡ false)
    → (rest : List (List Row)) × (cut_by test rows ≡ take count rows ∷ rest)
unfolding cut_by
first_rows test limit rows zero some few fit full = absurd (omega (arith, some))
first_rows test limit [] (suc k) some few fit full = absurd (omega (arith, few))
first_rows test limit (y ∷ xs) (suc k) some few fit full = first_from test limit y [] xs k (omega (arith, few)) fit (λ less. ap test (sym (take_more k y xs)) ∙ full (omega (arith, less)))

piece_is : (moof_bytes : List ℕ) (run : Run) (c : Cursor) (count bytes ticks : ℕ) (q : List Row) → take count (drop c.row (rows_of run moof_bytes)) ≡ q → count ≡ length q → bytes ≡ sizes q → ticks ≡ durations q
    → piece_of moof_bytes run (plain_at c count bytes ticks) ≡ piece_at c q
unfolding piece_at
piece_is moof_bytes run c count bytes ticks q same len size ticks_are = rw (same, len, size, ticks_are) refl

-- a piece of these samples, and those after it
followed_by : (cut : Cut) (moof_bytes : List ℕ) (run : Run) (c : Cursor) (x : Piece) (q : List Row) (rest : List (List Row)) → IsCursor run moof_bytes c → cut_rows (cut_for run.timescale cut) (drop c.row (rows_of run moof_bytes)) ≡ q ∷ rest → x ≡ piece_at c q
    → pieces_from cut moof_bytes run c ≡ x ∷ pieces_from cut moof_bytes run (plain_end x.plain)
unfolding pieces_at
followed_by cut moof_bytes run c x q rest at found is =
    let ps : List Piece = pieces_at (past_rows c q) rest in
    let e : pieces_from cut moof_bytes run c ≡ x ∷ ps = ap (pieces_at c) found ∙ ap (λ (y : Piece). y ∷ ps) (sym is) in
    e ∙ ap (λ (xs : List Piece). x ∷ xs) (sym (goes_on cut moof_bytes run c x ps at e).rest)

pub first_is : (cut : Cut) (moof_bytes : List ℕ) (run : Run) (c : Cursor) (count bytes ticks : ℕ) → IsCursor run moof_bytes c → IsFirst cut moof_bytes run c count
    → bytes ≡ sizes (take count (drop c.row (rows_of run moof_bytes))) → ticks ≡ durations (take count (drop c.row (rows_of run moof_bytes)))
    → pieces_from cut moof_bytes run c
    ≡ piece_of moof_bytes run (plain_at c count bytes ticks)
    ∷ pieces_from cut moof_bytes run (plain_end (plain_at c count bytes ticks))
first_is cut moof_bytes run c count bytes ticks at is bytes_are ticks_are =
    let rows : List Row = drop c.row (rows_of run moof_bytes) in
    let own : Cut = cut_for run.timescale cut in
    let within = is.within in
    let n : length rows ≡ run.count - c.row = length-drop c.row (rows_of run moof_bytes) ∙ omega (arith, length_rows_of run moof_bytes) in
    let found = first_rows (fits own) (is_limit own) rows count is.some (omega (arith, n, within)) is.fit (λ less. is.full (omega (arith, n, less))) in
    let len : count ≡ length (take count rows) = omega (arith, length-take count rows, n, within) in
    let p : PlainPiece = plain_at c count bytes ticks in
    followed_by cut moof_bytes run c (piece_of moof_bytes run p) (take count rows) found.0 at found.1 (piece_is moof_bytes run c count bytes ticks (take count rows) refl len bytes_are ticks_are)

-- ---- how many samples it has

by_truth : (t : Bool) (n m : ℕ) → nat_le n m ≡ t → m < n → nat_le n m ≡ false
by_truth true n m e h = absurd (omega (arith, leb-true n m e, h))
by_truth false n m e h = e

leb_not : (n m : ℕ) → m < n → nat_le n m ≡ false
leb_not n m h = by_truth (nat_le n m) n m refl h

all_taken : (run : Run) (n : ℕ) (xs : List Row) → AllByRecursion (LastsAs run) xs → AllByRecursion (LastsAs run) (take n xs)
all_taken run zero xs all = tt
all_taken run (suc n) [] all = tt
all_taken run (suc n) (x ∷ xs) all = (all.0, all_taken run n xs all.1)

-- as many as it may have, or all that are left
pub first_counted : (cut : Cut) (moof_bytes : List ℕ) (run : Run) (c : Cursor) (most count : ℕ) → IsCounted cut run most
    → c.row < run.count → count ≡ min most (run.count - c.row) → IsFirst cut moof_bytes run c count
first_counted cut moof_bytes run c most count counted h is =
    let rows : List Row = drop c.row (rows_of run moof_bytes) in
    let n : length rows ≡ run.count - c.row = length-drop c.row (rows_of run moof_bytes) ∙ omega (arith, length_rows_of run moof_bytes) in
    let some = counted.some in
    let lasts = all_dropped run c.row (rows_of run moof_bytes) (all_last moof_bytes run (range_with_len 0 (run.count - 0))) in
    let fits_is : (k : ℕ) → fits (cut_for run.timescale cut) (take k rows) ≡ nat_le (length (take k rows)) most = λ k. counted.counts (take k rows) (all_taken run k rows lasts) in
    record {
      some = omega (arith, is, some, h);
      within = omega (arith, is, h);
      fit = fits_is count ∙ le-leb (length (take count rows)) most (omega (arith, length-take count rows, is));
      full = λ less. fits_is (count + 1) ∙ leb_not (length (take (count + 1) rows)) most (omega (arith, length-take (count + 1) rows, n, is, less));
    }

-- one row more lasts no shorter
lasts_more : (n : ℕ) (rows : List Row) → durations (take n rows) ≤ durations (take (n + 1) rows)
lasts_more zero rows = omega arith
lasts_more (suc n) [] = omega arith
lasts_more (suc n) (x ∷ rows) =
    let one = sum_by-cons (λ (r : Row). r.duration) x (take n rows) in
    let more = sum_by-cons (λ (r : Row). r.duration) x (take (n + 1) rows) in
    omega (arith, one, more, lasts_more n rows, ap durations (take_more n x rows))

-- as many as last so long
pub first_timed : (cut : Cut) (moof_bytes : List ℕ) (run : Run) (c : Cursor) (t most count : ℕ) → IsTimed cut run t
    → c.row < run.count → most ≡ min cut.samples (run.count - c.row) → LastsWithin t most (drop c.row (rows_of run moof_bytes)) count → IsFirst cut moof_bytes run c count
first_timed cut moof_bytes run c t most count timed h is lasts =
    let rows : List Row = drop c.row (rows_of run moof_bytes) in
    let sums = timed.sums in
    let n : length rows ≡ run.count - c.row = length-drop c.row (rows_of run moof_bytes) ∙ omega (arith, length_rows_of run moof_bytes) in
    let some = lasts.some in
    let few = lasts.few in
    let here : length (take count rows) ≡ count = omega (arith, length-take count rows, n, few, is) in
    let fits_is : (q : List Row) → fits (cut_for run.timescale cut) q ≡ (nat_le (length q) cut.samples && (nat_le (length q) 1 || nat_le (durations q) t)) = λ q. rw (sums.bytes, sums.sync, sums.keyframes, timed.ticks) (in_time (nat_le (length q) cut.samples) (nat_le (length q) 1 || nat_le (durations q) t)) in
    record {
      some = some;
      within = omega (arith, few, is, h);
      fit = fits_is (take count rows) ∙ and_so (nat_le (length (take count rows)) cut.samples) _ (le-leb (length (take count rows)) cut.samples (omega (arith, here, few, is)))
          (or_so (nat_le (length (take count rows)) 1) (nat_le (durations (take count rows)) t) (elim lasts.within [
            | inl one ↦ inl (le-leb (length (take count rows)) 1 (omega (arith, here, one)))
            | inr ticks ↦ inr (le-leb (durations (take count rows)) t ticks)
          ]));
      full = λ less.
          let more : length (take (count + 1) rows) ≡ count + 1 = omega (arith, length-take (count + 1) rows, n, less) in
          fits_is (take (count + 1) rows) ∙ elim (cases_lt count most) [
            | inl under ↦ and_none (nat_le (length (take (count + 1) rows)) cut.samples) (nat_le (length (take (count + 1) rows)) 1) (nat_le (durations (take (count + 1) rows)) t)
                (leb_not (length (take (count + 1) rows)) 1 (omega (arith, more, some)))
                (leb_not (durations (take (count + 1) rows)) t (lasts.full under))
            | inr over ↦ ap (λ (a : Bool). a && (nat_le (length (take (count + 1) rows)) 1 || nat_le (durations (take (count + 1) rows)) t)) (leb_not (length (take (count + 1) rows)) cut.samples (omega (arith, more, over, is, less, few)))
          ];
    }
  where
    in_time : (a b : Bool) → (a && (true && (b && (true && true)))) ≡ (a && b)
    in_time true true = refl
    in_time true false = refl
    in_time false b = refl

    and_none : (a l d : Bool) → l ≡ false → d ≡ false → (a && (l || d)) ≡ false
    and_none true l d p q = rw (p, q) refl
    and_none false l d p q = refl

-- the first of them is a piece where it lasts longer
pub in_time_or_one : (ticks most fit : ℕ) (rows : List Row) (count : ℕ) → 0 < most → fit ≤ most → durations (take fit rows) ≤ ticks → (fit < most → ticks < durations (take (fit + 1) rows)) → count ≡ max fit 1 → LastsWithin ticks most rows count
in_time_or_one ticks most zero rows count some few within full is =
    let one : count ≡ 1 = omega (arith, is) in
    record {
      some = omega (arith, one);
      few = omega (arith, one, some);
      within = inl (omega (arith, one));
      full = λ less.
          let long = full some in
          let more = lasts_more 1 rows in
          subst (λ (n : ℕ). ticks < durations (take (n + 1) rows)) (sym one) (omega (arith, long, more));
    }
in_time_or_one ticks most (suc k) rows count some few within full is =
    let same : count ≡ suc k = omega (arith, is) in
    record {
      some = omega (arith, same);
      few = omega (arith, same, few);
      within = inr (subst (λ (n : ℕ). durations (take n rows) ≤ ticks) (sym same) within);
      full = λ less. subst (λ (n : ℕ). ticks < durations (take (n + 1) rows)) (sym same) (full (omega (arith, same, less)));
    }

none_of : (cut : Cut) (c : Cursor) (rows : List Row) → length rows ≡ 0 → pieces_at c (cut_rows cut rows) ≡ []
unfolding cut_by pieces_at
none_of cut c [] e = refl
none_of cut c (x ∷ rows) e = absurd (omega (arith, e))

-- after the last row there is no piece
pub none_left : (cut : Cut) (moof_bytes : List ℕ) (run : Run) (c : Cursor) → run.count ≤ c.row → pieces_from cut moof_bytes run c ≡ []
none_left cut moof_bytes run c h =
    none_of (cut_for run.timescale cut) c (drop c.row (rows_of run moof_bytes)) (omega (arith, length-drop c.row (rows_of run moof_bytes), length_rows_of run moof_bytes, h))
