-- The moofs of a recut text end at its marks.
use Rattle.std.proofs.Common.{◌≡◌, ◌∙◌, ℕ, zero, suc, ◌+◌, ◌-◌, Bool, true, false, cond, List, [], ◌∷◌, ◌++◌, length, length-append, take, drop, map, refl, sym, ap, arith, append-nil}
use Rattle.std.specs.List.{AllByRecursion}
use Rattle.mp4_init.specs.declared.table.Track.{Track}
use Rattle.mp4_traf.specs.declared.run.Run.{Run}
use Rattle.mp4_pieces.specs.declared.cut.Cut.{Cut}
use Rattle.mp4_pieces.specs.declared.piece.Piece.{Piece}
use Rattle.mp4_pieces.specs.Groups.{groups, groups_from}
use Rattle.mp4_pieces.specs.Pieces.{pieces_of}
use Rattle.mp4_cut.specs.Mdat.{mdat_header}
use Rattle.mp4_cut.specs.Moof.{written_moof}
use Rattle.mp4_cut.specs.Sidx.{written_index}
use Rattle.mp4_machine.specs.Readings.{moved, moved_by}
use Rattle.mp4_machine.specs.declared.fragment_end.FragmentEnd.{FragmentEnd}
use Rattle.mp4_grammar.specs.Joined.{Item, Movie, MovieFragment, PassedOver, joined}
use Rattle.mp4_recut.specs.OutputFragments.{OutputFragment, fragment_ends_in, slices}
use Rattle.mp4_recut.specs.Splitting.{head_of, index_of, run_fragments, runs_fragments, timescale_of}
use Rattle.mp4_recut.specs.Texts.{media_of}
use Rattle.mp4_recut.proofs.RoomLemmas.{run_length}
use Rattle.mp4_recut_laws.specs.MoofEnds.{moof_ends}
use Rattle.mp4_recut_laws.specs.PieceItems.{piece_with_media, pieces_items}
use Rattle.mp4_recut_laws.specs.RecutItems.{groups_items, index_items, runs_items}
use Rattle.mp4_recut_laws.proofs.TextLemmas.{joined_append}

-- ---- marks that are moved

mark_at : (a b n : ℕ) (ms : List FragmentEnd) → a ≡ b → ◌≡◌ {A = List FragmentEnd} (record { end = a; count = n } ∷ ms) (record { end = b; count = n } ∷ ms)
mark_at a b n ms e = ap (λ (k : ℕ). record { end = k; count = n } ∷ ms) e

pub moved-none : (ms : List FragmentEnd) → moved 0 ms ≡ ms
moved-none [] = refl
moved-none (m ∷ ms) = mark_at (0 + m.end) m.end m.count (moved 0 ms) (omega arith) ∙ ap (λ (l : List FragmentEnd). m ∷ l) (moved-none ms)

pub moved-twice : (a b : ℕ) (ms : List FragmentEnd) → moved a (moved b ms) ≡ moved (a + b) ms
moved-twice a b [] = refl
moved-twice a b (m ∷ ms) = mark_at (a + (b + m.end)) (a + b + m.end) m.count (moved a (moved b ms)) (omega arith) ∙ ap (λ (l : List FragmentEnd). moved_by (a + b) m ∷ l) (moved-twice a b ms)

pub moved-append : (a : ℕ) (xs ys : List FragmentEnd) → moved a (xs ++ ys) ≡ moved a xs ++ moved a ys
moved-append a [] ys = refl
moved-append a (x ∷ xs) ys = ap (λ (l : List FragmentEnd). moved_by a x ∷ l) (moved-append a xs ys)

pub length-moved : (a : ℕ) (ms : List FragmentEnd) → length (moved a ms) ≡ length ms
length-moved a [] = refl
length-moved a (m ∷ ms) = ap suc (length-moved a ms)

pub same-lists : (a b c d : List FragmentEnd) → a ≡ b → c ≡ d → a ++ c ≡ b ++ d
same-lists a b c d p q = ap (λ (x : List FragmentEnd). x ++ c) p ∙ ap (λ (y : List FragmentEnd). b ++ y) q

-- ---- the ends of moofs

pub ends_at : (a b n : ℕ) (is : List Item) → a ≡ b → moof_ends a n is ≡ moof_ends b n is
ends_at a b n is e = ap (λ (k : ℕ). moof_ends k n is) e

pub ends_from : (a n k : ℕ) (is : List Item) → n ≡ k → moof_ends a n is ≡ moof_ends a k is
ends_from a n k is e = ap (λ (m : ℕ). moof_ends a m is) e

-- after more bytes
pub ends-moved : (a at n : ℕ) (is : List Item) → moof_ends (a + at) n is ≡ moved a (moof_ends at n is)
ends-moved a at n [] = refl
ends-moved a at n (PassedOver b ∷ is) = ends_at (a + at + length b.bytes) (a + (at + length b.bytes)) n is (omega arith) ∙ ends-moved a (at + length b.bytes) n is
ends-moved a at n (Movie b ∷ is) = ends_at (a + at + length b.bytes) (a + (at + length b.bytes)) n is (omega arith) ∙ ends-moved a (at + length b.bytes) n is
ends-moved a at n (MovieFragment moof mdat ∷ is) =
    mark_at (a + at + length moof.bytes) (a + (at + length moof.bytes)) n _ (omega arith)
    ∙ ap (λ (l : List FragmentEnd). record { end = a + (at + length moof.bytes); count = n } ∷ l)
    (ends_at (a + at + length moof.bytes + length mdat.bytes) (a + (at + length moof.bytes + length mdat.bytes)) (n + 1) is (omega arith) ∙ ends-moved a (at + length moof.bytes + length mdat.bytes) (n + 1) is)

pub ends-after : (a n : ℕ) (is : List Item) → moof_ends a n is ≡ moved a (moof_ends 0 n is)
ends-after a n is = ends_at a (a + 0) n is (omega arith) ∙ ends-moved a 0 n is

-- of items, one after the other
pub ends-append : (at n : ℕ) (xs ys : List Item) → moof_ends at n (xs ++ ys) ≡ moof_ends at n xs ++ moof_ends (at + length (joined xs)) (n + length (moof_ends at n xs)) ys
ends-append at n [] ys = ends_at at (at + 0) n ys (omega arith) ∙ ends_from (at + 0) n (n + 0) ys (omega arith)
ends-append at n (PassedOver b ∷ xs) ys =
    let len = length-append b.bytes (joined xs) in
    let at' = at + length b.bytes in
    ends-append at' n xs ys ∙ ap (λ (k : ℕ). moof_ends at' n xs ++ moof_ends k (n + length (moof_ends at' n xs)) ys) (omega (arith, len))
ends-append at n (Movie b ∷ xs) ys =
    let len = length-append b.bytes (joined xs) in
    let at' = at + length b.bytes in
    ends-append at' n xs ys ∙ ap (λ (k : ℕ). moof_ends at' n xs ++ moof_ends k (n + length (moof_ends at' n xs)) ys) (omega (arith, len))
ends-append at n (MovieFragment moof mdat ∷ xs) ys =
    let one = length-append moof.bytes mdat.bytes in
    let len = length-append (moof.bytes ++ mdat.bytes) (joined xs) in
    let at' = at + length moof.bytes + length mdat.bytes in
    let ends = moof_ends at' (n + 1) xs in
    ap (λ (l : List FragmentEnd). record { end = at + length moof.bytes; count = n } ∷ l)
    (ends-append at' (n + 1) xs ys
    ∙ ap (λ (k : ℕ). ends ++ moof_ends k (n + 1 + length ends) ys) (omega (arith, one, len))
    ∙ ap (λ (k : ℕ). ends ++ moof_ends (at + length (joined (MovieFragment moof mdat ∷ xs))) k ys) (omega arith))

-- an index has none
ends-index : (n : ℕ) (t : Bool) (run : Run) (timescale : ℕ) (g : List Piece) (is : List Item) → moof_ends 0 n (index_items t run timescale g ++ is) ≡ moof_ends (length (cond t (written_index run timescale g) [])) n is
ends-index n true run timescale g is = ends_at (0 + length (written_index run timescale g)) (length (written_index run timescale g)) n is (omega arith)
ends-index n false run timescale g is = refl

-- ---- pieces of a run

module _ (cut : Cut) (moof_bytes : List ℕ) (start : ℕ) (payload : List ℕ) where
  abbrev Long : Piece → Type 0
  Long p = length (media_of start payload p) ≡ p.plain.bytes

  module _ (run : Run) (timescale : ℕ) where
    -- k pieces of a group are left, and then the groups that start after them
    abbrev left : (k number : ℕ) → List Piece → List Item
    left k number ps =
        pieces_items number (map (piece_with_media moof_bytes start payload run) (take k ps)) ++ groups_items cut moof_bytes start payload run timescale (number + length (take k ps)) (groups_from k ps)

    abbrev ahead : (k number : ℕ) → List Piece → List OutputFragment
    ahead k number ps = run_fragments cut moof_bytes run timescale k number ps

    -- a piece with what precedes it, and what follows it
    one-more : (before : List ℕ) (number : ℕ) (p : Piece) (later : List Item) (after : List OutputFragment) → Long p
        → fragment_ends_in start payload after ≡ moof_ends 0 (number + 1) later
        → ◌≡◌ {A = List FragmentEnd} (record { end = length before + length (written_moof p run moof_bytes number); count = number } ∷ moved (length (before ++ head_of moof_bytes run p number)) (moved (length (media_of start payload p)) (fragment_ends_in start payload after)))
        (moof_ends (length before) number (pieces_items number (map (piece_with_media moof_bytes start payload run) (p ∷ [])) ++ later))
    one-more before number p later after long e =
        let m = media_of start payload p in
        let moof = written_moof p run moof_bytes number in
        let a = length (before ++ head_of moof_bytes run p number) in
        let end : FragmentEnd = record { end = length before + length moof; count = number } in
        let head = length-append before (head_of moof_bytes run p number) in
        let ahead = length-append moof (mdat_header p.plain.bytes) in
        let mdat = length-append (mdat_header (length m)) m in
        let same : length (mdat_header (length m)) ≡ length (mdat_header p.plain.bytes) = ap (λ (n : ℕ). length (mdat_header n)) long in
        ap (λ (l : List FragmentEnd). end ∷ moved a (moved (length m) l)) e
        ∙ ap (λ (l : List FragmentEnd). end ∷ l)
        (moved-twice a (length m) (moof_ends 0 (number + 1) later)
        ∙ sym (ends-after (a + length m) (number + 1) later)
        ∙ ends_at (a + length m) (length before + length moof + length (mdat_header (length m) ++ m)) (number + 1) later (omega (arith, head, ahead, mdat, same)))

    run-ends : (k number : ℕ) (ps : List Piece) → AllByRecursion Long ps → fragment_ends_in start payload (ahead k number ps) ≡ moof_ends 0 number (left k number ps)
    unfolding run_fragments groups_from
    run-ends zero number [] long = refl
    run-ends (suc k) number [] long = refl
    run-ends zero number (p ∷ ps) long =
        let z : number + 0 ≡ number = omega arith in
        let e : number + 1 + length (take 65534 ps) ≡ number + suc (length (take 65534 ps)) = omega arith in
        let g = p ∷ take 65534 ps in
        let index = index_of cut run timescale g in
        let later = left 65534 (number + 1) ps in
        one-more index number p later (ahead 65534 (number + 1) ps) long.0 (run-ends 65534 (number + 1) ps long.1)
        ∙ sym (ends-index number cut.index run timescale g (pieces_items number (map (piece_with_media moof_bytes start payload run) (p ∷ [])) ++ later))
        ∙ ap (λ (n : ℕ). moof_ends 0 number (index_items cut.index run timescale g ++ (pieces_items number (map (piece_with_media moof_bytes start payload run) g) ++ groups_items cut moof_bytes start payload run timescale n (groups_from 65534 ps)))) e
        ∙ ap (λ (n : ℕ). moof_ends 0 number (groups_items cut moof_bytes start payload run timescale n (g ∷ groups_from 65534 ps))) (sym z)
    run-ends (suc k) number (p ∷ ps) long =
        let e : number + 1 + length (take k ps) ≡ number + suc (length (take k ps)) = omega arith in
        one-more [] number p (left k (number + 1) ps) (ahead k (number + 1) ps) long.0 (run-ends k (number + 1) ps long.1)
        ∙ ap (λ (n : ℕ). moof_ends 0 number (pieces_items number (map (piece_with_media moof_bytes start payload run) (p ∷ take k ps)) ++ groups_items cut moof_bytes start payload run timescale n (groups_from k ps))) e

    index-long : (t : Bool) (g : List Piece) → length (joined (index_items t run timescale g)) ≡ length (cond t (written_index run timescale g) [])
    index-long true g = ap length (append-nil (written_index run timescale g))
    index-long false g = refl

    long-more : (before : List ℕ) (number : ℕ) (p : Piece) (rest : List ℕ) (later : List Item) → Long p → length rest ≡ length (joined later)
        → length ((before ++ head_of moof_bytes run p number) ++ (media_of start payload p ++ rest)) ≡ length before + length (joined (pieces_items number (map (piece_with_media moof_bytes start payload run) (p ∷ [])) ++ later))
    long-more before number p rest later long e =
        let m = media_of start payload p in
        let moof = written_moof p run moof_bytes number in
        let same : length (mdat_header (length m)) ≡ length (mdat_header p.plain.bytes) = ap (λ (n : ℕ). length (mdat_header n)) long in
        omega (
          arith,
          length-append (before ++ head_of moof_bytes run p number) (m ++ rest),
          length-append before (head_of moof_bytes run p number),
          length-append moof (mdat_header p.plain.bytes),
          length-append m rest,
          length-append (moof ++ (mdat_header (length m) ++ m)) (joined later),
          length-append moof (mdat_header (length m) ++ m),
          length-append (mdat_header (length m)) m,
          same,
          e,
        )

    run-long : (k number : ℕ) (ps : List Piece) → AllByRecursion Long ps → length (slices start payload (ahead k number ps)) ≡ length (joined (left k number ps))
    unfolding run_fragments groups_from
    run-long zero number [] long = refl
    run-long (suc k) number [] long = refl
    run-long zero number (p ∷ ps) long =
        let z : number + 0 ≡ number = omega arith in
        let e : number + 1 + length (take 65534 ps) ≡ number + suc (length (take 65534 ps)) = omega arith in
        let g = p ∷ take 65534 ps in
        let index = index_of cut run timescale g in
        let later = left 65534 (number + 1) ps in
        let one = pieces_items number (map (piece_with_media moof_bytes start payload run) (p ∷ [])) ++ later in
        let items = index_items cut.index run timescale g in
        let all : length (slices start payload (ahead 0 number (p ∷ ps))) ≡ length (joined (items ++ one)) =
        omega (arith, long-more index number p (slices start payload (ahead 65534 (number + 1) ps)) later long.0 (run-long 65534 (number + 1) ps long.1), ap length (joined_append items one), length-append (joined items) (joined one), index-long cut.index g) in
        all
        ∙ ap (λ (n : ℕ). length (joined (items ++ (pieces_items number (map (piece_with_media moof_bytes start payload run) g) ++ groups_items cut moof_bytes start payload run timescale n (groups_from 65534 ps))))) e
        ∙ ap (λ (n : ℕ). length (joined (groups_items cut moof_bytes start payload run timescale n (g ∷ groups_from 65534 ps)))) (sym z)
    run-long (suc k) number (p ∷ ps) long =
        let e : number + 1 + length (take k ps) ≡ number + suc (length (take k ps)) = omega arith in
        let later = left k (number + 1) ps in
        let one = long-more [] number p (slices start payload (ahead k (number + 1) ps)) later long.0 (run-long k (number + 1) ps long.1) in
        let all : length (slices start payload (ahead (suc k) number (p ∷ ps))) ≡ length (joined (pieces_items number (map (piece_with_media moof_bytes start payload run) (p ∷ [])) ++ later)) = omega (arith, one) in
        all ∙ ap (λ (n : ℕ). length (joined (pieces_items number (map (piece_with_media moof_bytes start payload run) (p ∷ take k ps)) ++ groups_items cut moof_bytes start payload run timescale n (groups_from k ps)))) e

  -- ---- runs

  marks-append : (xs ys : List OutputFragment) → fragment_ends_in start payload (xs ++ ys) ≡ fragment_ends_in start payload xs ++ moved (length (slices start payload xs)) (fragment_ends_in start payload ys)
  marks-append [] ys = sym (moved-none (fragment_ends_in start payload ys))
  marks-append (x ∷ xs) ys =
      let m = take x.len (drop (x.place - start) payload) in
      let a = length x.head in
      let b = length m in
      let s = slices start payload xs in
      let after = fragment_ends_in start payload ys in
      let len : a + b + length s ≡ length (x.head ++ (m ++ s)) = omega (arith, length-append x.head (m ++ s), length-append m s) in
      ap (λ (l : List FragmentEnd). x.mark ∷ moved a (moved b l)) (marks-append xs ys)
      ∙ ap (λ (l : List FragmentEnd). x.mark ∷ moved a l) (moved-append b (fragment_ends_in start payload xs) (moved (length s) after))
      ∙ ap (λ (l : List FragmentEnd). x.mark ∷ l) (moved-append a (moved b (fragment_ends_in start payload xs)) (moved b (moved (length s) after)))
      ∙ ap (λ (l : List FragmentEnd). x.mark ∷ (moved a (moved b (fragment_ends_in start payload xs)) ++ l)) (moved-twice a b (moved (length s) after) ∙ moved-twice (a + b) (length s) after ∙ ap (λ (k : ℕ). moved k after) len)

  pub length-marks : (ps : List OutputFragment) → length (fragment_ends_in start payload ps) ≡ length ps
  length-marks [] = refl
  length-marks (p ∷ ps) = ap suc (length-moved (length p.head) _ ∙ length-moved (length (take p.len (drop (p.place - start) payload))) (fragment_ends_in start payload ps) ∙ length-marks ps)

  pub runs-ends : (tracks : List Track) (number : ℕ) (runs : List Run) → AllByRecursion (λ (run : Run). AllByRecursion Long (pieces_of cut moof_bytes run)) runs → fragment_ends_in start payload (runs_fragments cut moof_bytes tracks number runs) ≡ moof_ends 0 number (runs_items cut moof_bytes start payload tracks number runs)
  unfolding runs_fragments
  runs-ends tracks number [] long = refl
  runs-ends tracks number (run ∷ runs) long =
      let scale = timescale_of tracks run.track in
      let ps = pieces_of cut moof_bytes run in
      let first = run_fragments cut moof_bytes run scale 0 number ps in
      let rest = runs_fragments cut moof_bytes tracks (number + length ps) runs in
      let xs = groups_items cut moof_bytes start payload run scale number (groups ps) in
      let ys = runs_items cut moof_bytes start payload tracks (number + length ps) runs in
      let z : number + 0 ≡ number = omega arith in
      let mine : fragment_ends_in start payload first ≡ moof_ends 0 number xs = run-ends run scale 0 number ps long.0 ∙ ap (λ (n : ℕ). moof_ends 0 number (groups_items cut moof_bytes start payload run scale n (groups ps))) z in
      let len : length (slices start payload first) ≡ length (joined xs) = run-long run scale 0 number ps long.0 ∙ ap (λ (n : ℕ). length (joined (groups_items cut moof_bytes start payload run scale n (groups ps)))) z in
      let count : length ps ≡ length (moof_ends 0 number xs) = sym (run_length cut moof_bytes run scale 0 number ps) ∙ sym (length-marks first) ∙ ap length mine in
      marks-append first rest
      ∙ same-lists _ _ _ _ mine
      (ap (moved (length (slices start payload first))) (runs-ends tracks (number + length ps) runs long.1)
      ∙ sym (ends-after (length (slices start payload first)) (number + length ps) ys)
      ∙ ends_at (length (slices start payload first)) (0 + length (joined xs)) (number + length ps) ys (omega (arith, len))
      ∙ ends_from (0 + length (joined xs)) (number + length ps) (number + length (moof_ends 0 number xs)) ys (omega (arith, count)))
      ∙ sym (ends-append 0 number xs ys)
