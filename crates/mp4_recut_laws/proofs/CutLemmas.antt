-- The pieces of a run, as portions.
use Rattle.std.proofs.Common.{◌≡◌, ◌∙◌, ℕ, ◌+◌, ◌-◌, ◌≤◌, ◌^◌, true, ℤ, pos, ◌+ℤ◌, List, [], ◌∷◌, ◌++◌, length, Option, Some, refl, sym, ap, arith, map}
use Rattle.std.specs.Prelude.{take, drop}
use Rattle.std.specs.List.{AllByRecursion, flat_map}
use Rattle.std.proofs.lemmas.Int.{ints}
use Rattle.std.proofs.lemmas.List.{drop_at, take_at, length-take, length-drop}
use Rattle.std.proofs.lemmas.List.Sums.{sum_by-append}
use Rattle.mp4_init.specs.declared.table.Track.{Track}
use Rattle.mp4_traf.specs.declared.run.Run.{Run}
use Rattle.mp4_traf.specs.declared.rows.Row.{Row}
use Rattle.mp4_traf.specs.declared.rows.Cursor.{Cursor}
use Rattle.mp4_traf.specs.Cursors.{first_cursor}
use Rattle.mp4_traf.specs.Rows.{durations, rows_of, sizes}
use Rattle.mp4_traf.specs.Rules.{track_with}
use Rattle.mp4_pieces.specs.declared.cut.Cut.{Cut}
use Rattle.mp4_pieces.specs.declared.piece.Piece.{Piece}
use Rattle.mp4_pieces.specs.Cutting.{ArePieces, join}
use Rattle.mp4_pieces.specs.Fitting.{cut_for, fits}
use Rattle.mp4_pieces.specs.Pieces.{IsPieceOf, cut_rows, past_rows, piece_at, pieces_at, pieces_of, rows_in}
use Rattle.mp4_traf.specs.Ranges.{IsRunOf}
use Rattle.mp4_pieces.proofs.CutLemmas.{pieces_are}
use Rattle.mp4_pieces.proofs.FitLemmas.{is_limit}
use Rattle.mp4_pieces.proofs.PieceLemmas.{pieces_are_of}
use Rattle.mp4_cut.specs.Sidx.{natural}
use Rattle.mp4_cut.specs.Moof.{WrittenFragment, written_fragment}
use Rattle.mp4_cut.specs.Reads.{CanBeRead, IsSoundRun}
use Rattle.mp4_cut.proofs.GivenLemmas.{can_be_read}
use Rattle.mp4_cut.proofs.PieceLemmas.{bytes_are, count_is}
use Rattle.mp4_recut_laws.specs.PieceItems.{IsOnePiece, LiesIn, PieceWithMedia, piece_samples, piece_with_media, pieces_with_media}
use Rattle.mp4_recut_laws.specs.RecutItems.{without_index}
use Rattle.mp4_recut_laws.specs.MediaSamples.{media_samples_from, media_samples_of_run}
use Rattle.mp4_recut.specs.Texts.{media_of}
use Rattle.mp4_recut_laws.proofs.SampleLemmas.{cut_samples, drop_on, join_same}

-- the rows of a piece, where they lie in the run
rows_back : (moof_bytes : List ℕ) (run : Run) (c : Cursor) (rows more : List Row) → drop c.row (rows_of run moof_bytes) ≡ rows ++ more → rows_in moof_bytes run (piece_at c rows) ≡ rows
unfolding piece_at
rows_back moof_bytes run c rows more e = ap (take (length rows)) e ∙ take_at rows more (length rows) refl

drop_rows : (n m k : ℕ) (xs : List Row) → k ≡ n + m → drop k xs ≡ drop m (drop n xs)
drop_rows n m k xs e = drop_on n m k xs e

more_back : (moof_bytes : List ℕ) (run : Run) (c : Cursor) (rows more : List Row) → drop c.row (rows_of run moof_bytes) ≡ rows ++ more → drop (c.row + length rows) (rows_of run moof_bytes) ≡ more
more_back moof_bytes run c rows more e = drop_rows c.row (length rows) (c.row + length rows) (rows_of run moof_bytes) refl ∙ (ap (drop (length rows)) e ∙ drop_at rows more (length rows) refl)

record Within (start : ℕ) (payload : List ℕ) (c : Cursor) (rs : List (List Row)) : Type 0 where
  at : ℕ
  place : c.place ≡ pos at
  from : start ≤ at
  to : at + sizes (join rs) ≤ start + length payload

sizes_join : (rows : List Row) (rs : List (List Row)) → sizes (join (rows ∷ rs)) ≡ sizes rows + sizes (join rs)
sizes_join rows rs = sum_by-append (λ (r : Row). r.size) rows (join rs)

place_on : (z : ℤ) (at n : ℕ) → z ≡ pos at → z +ℤ pos n ≡ pos (at + n)
place_on z at n e = omega (arith, ints, e)

within_more : (start : ℕ) (payload : List ℕ) (c : Cursor) (rows : List Row) (rs : List (List Row)) → Within start payload c (rows ∷ rs) → Within start payload (past_rows c rows) rs
within_more start payload c rows rs w = record { at = w.at + sizes rows; place = place_on c.place w.at (sizes rows) w.place; from = omega (arith, w.from); to = omega (arith, w.to, sizes_join rows rs) }

at_on : (a b at n start : ℕ) → a ≡ at + n → b ≡ at → start ≤ at → a - start ≡ (b - start) + n
at_on a b at n start e f h = omega (arith, e, f, h)

pieces_samples : (moof_bytes : List ℕ) (start : ℕ) (payload : List ℕ) (run : Run) (c : Cursor) (rs : List (List Row)) → drop c.row (rows_of run moof_bytes) ≡ join rs → Within start payload c rs
    → flat_map piece_samples (map (piece_with_media moof_bytes start payload run) (pieces_at c rs)) ≡ media_samples_from run.track run.entry (join rs) c.time (drop (natural c.place - start) payload)
unfolding pieces_at piece_at
pieces_samples moof_bytes start payload run c [] e w = refl
pieces_samples moof_bytes start payload run c (rows ∷ rs) e w =
    let p = piece_at c rows in
    let media = drop (natural c.place - start) payload in
    let next = within_more start payload c rows rs w in
    let here : rows_in moof_bytes run p ≡ rows = rows_back moof_bytes run c rows (join rs) e in
    let step : natural (c.place +ℤ pos (sizes rows)) - start ≡ (natural c.place - start) + sizes rows = at_on (natural (c.place +ℤ pos (sizes rows))) (natural c.place) w.at (sizes rows) start (ap natural (place_on c.place w.at (sizes rows) w.place)) (ap natural w.place) w.from in
    join_same _ _ _ _
    (ap (λ (xs : List Row). media_samples_from run.track run.entry xs c.time (take (sizes rows) media)) here)
    (pieces_samples moof_bytes start payload run (past_rows c rows) rs (more_back moof_bytes run c rows (join rs) e) next
    ∙ ap (media_samples_from run.track run.entry (join rs) (c.time + durations rows)) (drop_on (natural c.place - start) (sizes rows) (natural (c.place +ℤ pos (sizes rows)) - start) payload step))
    ∙ sym (cut_samples run.track run.entry c.time rows (join rs) media)

-- the cut for the timescale of a run
abbrev own : Cut → Run → Cut
own cut run = cut_for run.timescale cut

are : (cut : Cut) (moof_bytes : List ℕ) (run : Run) → ArePieces (fits (own cut run)) (rows_of run moof_bytes) (cut_rows (own cut run) (rows_of run moof_bytes))
are cut moof_bytes run = pieces_are (fits (own cut run)) (rows_of run moof_bytes) (is_limit (own cut run))

within_first : (cut : Cut) (moof_bytes : List ℕ) (start : ℕ) (payload : List ℕ) (run : Run) → LiesIn start payload moof_bytes run → Within start payload (first_cursor run) (cut_rows (own cut run) (rows_of run moof_bytes))
within_first cut moof_bytes start payload run w = record { at = w.at; place = w.place; from = w.from; to = omega (arith, w.to, ap sizes (are cut moof_bytes run).joined) }

pub run_samples : (cut : Cut) (moof_bytes : List ℕ) (start : ℕ) (payload : List ℕ) (run : Run) → LiesIn start payload moof_bytes run → flat_map piece_samples (pieces_with_media cut moof_bytes start payload run) ≡ media_samples_of_run moof_bytes start payload run
run_samples cut moof_bytes start payload run w =
    pieces_samples moof_bytes start payload run (first_cursor run) (cut_rows (own cut run) (rows_of run moof_bytes)) (sym (are cut moof_bytes run).joined) (within_first cut moof_bytes start payload run w)
    ∙ ap (λ (rows : List Row). media_samples_from run.track run.entry rows run.time (drop (natural run.place - start) payload)) (are cut moof_bytes run).joined

-- ---- each of them is one piece

record Fine (cut : Cut) (moof_bytes : List ℕ) (start : ℕ) (payload : List ℕ) (run : Run) (p : Piece) : Type 0 where
  fits : fits (own cut run) (rows_in moof_bytes run p) ≡ true
  all : length (media_of start payload p) ≡ sizes (rows_in moof_bytes run p)

media_long : (start at n : ℕ) (payload : List ℕ) → start ≤ at → at + n ≤ start + length payload → length (take n (drop (at - start) payload)) ≡ n
media_long start at n payload from to = omega (arith, length-take n (drop (at - start) payload), length-drop (at - start) payload, from, to)

fine : (cut : Cut) (moof_bytes : List ℕ) (start : ℕ) (payload : List ℕ) (run : Run) (c : Cursor) (rs : List (List Row)) → drop c.row (rows_of run moof_bytes) ≡ join rs → Within start payload c rs → AllByRecursion (λ (rows : List Row). fits (own cut run) rows ≡ true) rs
    → AllByRecursion (Fine cut moof_bytes start payload run) (pieces_at c rs)
unfolding pieces_at piece_at
fine cut moof_bytes start payload run c [] e w fit = tt
fine cut moof_bytes start payload run c (rows ∷ rs) e w fit =
    let here : rows_in moof_bytes run (piece_at c rows) ≡ rows = rows_back moof_bytes run c rows (join rs) e in (
      record {
        fits = ap (fits (own cut run)) here ∙ fit.0;
        all = ap (λ (n : ℕ). length (take (sizes rows) (drop (n - start) payload))) (ap natural w.place) ∙ (media_long start w.at (sizes rows) payload w.from (omega (arith, w.to, sizes_join rows rs)) ∙ ap sizes (sym here));
      },
      fine cut moof_bytes start payload run (past_rows c rows) rs (more_back moof_bytes run c rows (join rs) e) (within_more start payload c rows rs w) fit.1,
    )

same_timescale : (o : Option Track) (t u : Track) → o ≡ Some t → o ≡ Some u → t.timescale ≡ u.timescale
same_timescale o t u p q = let same : t ≡ u = cc in ap (λ (x : Track). x.timescale) same

-- the track of what is written for a run has the timescale of the run
own_timescale : (tracks : List Track) (moof_bytes : List ℕ) (run : Run) (sound : IsSoundRun tracks moof_bytes run) (f : WrittenFragment) (can : CanBeRead tracks f) → f.track ≡ run.track → can.track.timescale ≡ run.timescale
own_timescale tracks moof_bytes run sound f can is = same_timescale (track_with run.track tracks) can.track sound.of (ap (λ (id : ℕ). track_with id tracks) (sym is) ∙ can.known) sound.known ∙ sym sound.timescale

each : (cut : Cut) (tracks : List Track) (moof_bytes : List ℕ) (start : ℕ) (payload : List ℕ) (run : Run) → length payload ≤ 2 ^ 62 → IsSoundRun tracks moof_bytes run → IsRunOf moof_bytes run → (ps : List Piece) → AllByRecursion (IsPieceOf moof_bytes run) ps → AllByRecursion (Fine cut moof_bytes start payload run) ps
    → AllByRecursion (λ (q : PieceWithMedia). IsOnePiece (without_index cut) tracks q.written q.media) (map (piece_with_media moof_bytes start payload run) ps)
each cut tracks moof_bytes start payload run small sound of [] is fine = tt
each cut tracks moof_bytes start payload run small sound of (p ∷ ps) is fine = (
  record {
    can = can_be_read tracks moof_bytes run p sound of is.0;
    some = omega (arith, count_is moof_bytes run p is.0, is.0.some);
    fits = ap (λ (n : ℕ). fits (cut_for n cut) (rows_in moof_bytes run p)) (own_timescale tracks moof_bytes run sound (written_fragment moof_bytes run p) (can_be_read tracks moof_bytes run p sound of is.0) refl) ∙ fine.0.fits;
    all = fine.0.all;
    small = omega (arith, length-take p.plain.bytes (drop (natural p.plain.place - start) payload), length-drop (natural p.plain.place - start) payload, small);
  },
  each cut tracks moof_bytes start payload run small sound of ps is.1 fine.1,
)

-- the pieces of a run that lies in its mdat are pieces by themselves
pub run_pieces : (cut : Cut) (tracks : List Track) (moof_bytes : List ℕ) (start : ℕ) (payload : List ℕ) (run : Run) → length payload ≤ 2 ^ 62 → IsSoundRun tracks moof_bytes run → IsRunOf moof_bytes run → LiesIn start payload moof_bytes run
    → AllByRecursion (λ (q : PieceWithMedia). IsOnePiece (without_index cut) tracks q.written q.media) (pieces_with_media cut moof_bytes start payload run)
run_pieces cut tracks moof_bytes start payload run small sound of w =
    each cut tracks moof_bytes start payload run small sound of (pieces_of cut moof_bytes run) (pieces_are_of cut moof_bytes run)
    (fine cut moof_bytes start payload run (first_cursor run) (cut_rows (own cut run) (rows_of run moof_bytes)) (sym (are cut moof_bytes run).joined) (within_first cut moof_bytes start payload run w) (are cut moof_bytes run).fit)

long_each : (cut : Cut) (moof_bytes : List ℕ) (start : ℕ) (payload : List ℕ) (run : Run) (ps : List Piece) → AllByRecursion (IsPieceOf moof_bytes run) ps → AllByRecursion (Fine cut moof_bytes start payload run) ps → AllByRecursion (λ (p : Piece). length (media_of start payload p) ≡ p.plain.bytes) ps
long_each cut moof_bytes start payload run [] is fine = tt
long_each cut moof_bytes start payload run (p ∷ ps) is fine = (fine.0.all ∙ bytes_are moof_bytes run p is.0, long_each cut moof_bytes start payload run ps is.1 fine.1)

-- all bytes of the media of its pieces are in the payload
pub run_long : (cut : Cut) (moof_bytes : List ℕ) (start : ℕ) (payload : List ℕ) (run : Run) → LiesIn start payload moof_bytes run → AllByRecursion (λ (p : Piece). length (media_of start payload p) ≡ p.plain.bytes) (pieces_of cut moof_bytes run)
run_long cut moof_bytes start payload run w =
    long_each cut moof_bytes start payload run (pieces_of cut moof_bytes run) (pieces_are_of cut moof_bytes run)
    (fine cut moof_bytes start payload run (first_cursor run) (cut_rows (own cut run) (rows_of run moof_bytes)) (sym (are cut moof_bytes run).joined) (within_first cut moof_bytes start payload run w) (are cut moof_bytes run).fit)
