-- Where the fragments of a recut text have room for an index each.
use Rattle.std.proofs.Common.{◌≡◌, ◌∙◌, ℕ, ◌+◌, ◌<◌, ◌≤◌, ◌^◌, Bool, true, false, List, [], ◌∷◌, ◌++◌, length, Some, None, inl, inr, refl, sym, ap, arith, subst, map}
use Rattle.std.specs.List.{AllByRecursion}
use Rattle.mp4_box.specs.declared.rules.Fault.{Fault}
use Rattle.mp4_box.specs.Order.{least}
use Rattle.mp4_box.specs.Order as order
use Rattle.mp4_box.specs.declared.headers.Header.{Header}
use Rattle.mp4_box.proofs.OrderLemmas.{least-none}
use Rattle.mp4_init.specs.declared.table.Track.{Track}
use Rattle.mp4_init.proofs.MoovLemmas.{first_none}
use Rattle.mp4_traf.specs.CompositionTimes.{composition_times, least_of}
use Rattle.mp4_traf.specs.declared.run.Run.{Run}
use Rattle.mp4_traf.specs.Cursors.{first_cursor}
use Rattle.mp4_frag.specs.Moofs.{moof_runs, moof_trafs}
use Rattle.mp4_frag.specs.Places.{place_fault}
use Rattle.mp4_traf.specs.Rows.{sizes}
use Rattle.mp4_traf.specs.Runs.{MoofBytes, moof_at}
use Rattle.mp4_pieces.specs.declared.cut.Cut.{Cut}
use Rattle.mp4_pieces.specs.declared.piece.Piece.{Piece}
use Rattle.mp4_pieces.specs.Cutting.{join}
use Rattle.mp4_pieces.specs.Fits.{BeginsInTime, FitsIndex, FitsReference, FitsTime}
use Rattle.mp4_pieces.specs.Fitting.{cut_for, fits}
use Rattle.mp4_pieces.specs.Groups.{groups}
use Rattle.mp4_pieces.specs.Pieces.{IsPieceOf, cursor_at, piece_at, piece_count, pieces_of, rows_in}
use Rattle.mp4_pieces.specs.Pieces as piece_specs
use Rattle.mp4_pieces.specs.Rooms.{index_faults, numbers, room_fault, sequence_faults}
use Rattle.mp4_pieces.specs.Rooms as rooms
use Rattle.mp4_pieces.specs.Sizes.{mdat_header_size}
use Rattle.mp4_pieces.proofs.FitsLemmas.{room_from, room_to}
use Rattle.mp4_pieces.proofs.GroupLemmas.{groups_are}
use Rattle.mp4_pieces.proofs.PieceLemmas.{pieces_are_of}
use Rattle.mp4_cut.specs.Moof.{WrittenFragment, written_fragment}
use Rattle.mp4_cut.specs.Reads.{Describes, held_moof}
use Rattle.mp4_cut.proofs.PieceLemmas.{bytes_are, count_is}
use Rattle.mp4_cut.proofs.ReadLemmas.{is_read_as}
use Rattle.mp4_grammar.specs.Contexts.{Context, context}
use Rattle.mp4_grammar.specs.Joined.{AreSound, IsGood, IsSound, Item, Movie, MovieFragment, PassedOver, context_after, context_after_all, tracks_in}
use Rattle.mp4_grammar.specs.Joined as items
use Rattle.mp4_recut.specs.Splitting.{splitting, timescale_of}
use Rattle.mp4_recut_laws.specs.PieceItems.{IsOnePiece, PieceWithMedia, piece_item, piece_with_media, pieces_items, without_ends}
use Rattle.mp4_recut_laws.specs.Premises.{IsRunIn}
use Rattle.mp4_recut_laws.specs.RecutItems.{groups_items, index_items, runs_items, without_index}
use Rattle.mp4_recut_laws.specs.PieceTimes.{FitsOwnIndex, RunTimesFit}
use Rattle.mp4_recut_laws.proofs.CutLemmas.{run_pieces}
use Rattle.mp4_recut_laws.proofs.OnePieceLemmas.{its_count, its_fit, its_piece, one_group}
use Rattle.mp4_recut_laws.proofs.WithoutIndexLemmas.{both_none, last_none, same_after}
use Rattle.mp4_recut_laws.proofs.RunLemmas.{none_of}
use Rattle.mp4_recut_laws.proofs.TrackLemmas.{ends_settled, can_still, still_timescale}

-- ---- one piece

its_index : (cut : Cut) (f : WrittenFragment) (h : MoofBytes) (run : Run) → Describes f h run → 0 < length f.rows → fits (cut_for run.timescale cut) f.rows ≡ true → FitsOwnIndex f → FitsIndex (pieces_of cut h.bytes run)
unfolding piece_specs.piece_at
its_index cut f h run t some e one =
    let p = piece_at (first_cursor run) f.rows in
    let time : FitsTime p.least = subst (λ (n : ℕ). FitsTime (least_of (composition_times n f.rows))) (sym t.time) one.time in
    subst FitsIndex (sym (its_piece cut f h run t some e)) (record {
      times = subst (λ (gs : List (List Piece)). AllByRecursion BeginsInTime gs) (sym (one_group p)) (time, tt);
      references = (record { size = one.size; duration = one.duration }, tt);
    })

first_nil : {X : Type 0} (xs ys : List X) → xs ++ ys ≡ [] → xs ≡ []
first_nil [] ys e = refl
first_nil (x ∷ xs) ys e = absurd cc

no_fault : (cut : Cut) (f : WrittenFragment) (h : MoofBytes) (run : Run) → Describes f h run → 0 < length f.rows → fits (cut_for run.timescale cut) f.rows ≡ true → FitsOwnIndex f → index_faults cut h.bytes (run ∷ []) ≡ []
unfolding rooms.room_faults
no_fault cut f h run t some e one =
    let count : piece_count cut h.bytes (run ∷ []) ≡ 1 = its_count cut h.bytes run (piece_at (first_cursor run) f.rows) (its_piece cut f h run t some e) in
    first_nil (index_faults cut h.bytes (run ∷ [])) (sequence_faults h.offset (numbers 0 (piece_count cut h.bytes (run ∷ []))))
    (room_to cut h (run ∷ []) 0 (record {
      indexes = λ _. (its_index cut f h run t some e one, tt);
      numbers = subst (λ (n : ℕ). AllByRecursion (λ (k : ℕ). k < 2 ^ 32) (numbers 0 n)) (sym count) (omega arith, tt);
    }))

index_means : (cut : Cut) (f : WrittenFragment) (h : MoofBytes) (run : Run) → Describes f h run → 0 < length f.rows → fits (cut_for run.timescale cut) f.rows ≡ true → FitsIndex (pieces_of cut h.bytes run) → FitsOwnIndex f
unfolding piece_specs.piece_at
index_means cut f h run t some e has =
    let p = piece_at (first_cursor run) f.rows in
    let one : FitsIndex (p ∷ []) = subst FitsIndex (its_piece cut f h run t some e) has in
    let begins : AllByRecursion BeginsInTime ((p ∷ []) ∷ []) = subst (λ (gs : List (List Piece)). AllByRecursion BeginsInTime gs) (one_group p) one.times in
    record {
      size = one.references.0.size;
      duration = one.references.0.duration;
      time = subst (λ (n : ℕ). FitsTime (least_of (composition_times n f.rows))) t.time begins.0;
    }

-- with an index a fragment by itself has a fault exactly where an index has no room for it
pub one_fits_index : (cut : Cut) (at number : ℕ) (tracks : List Track) (f : WrittenFragment) (media : List ℕ) → cut.index ≡ true → number < 2 ^ 32 → IsOnePiece cut tracks f media
    → (room_fault cut (held_moof f number at) (moof_runs (held_moof f number at) tracks) number ≡ None → FitsOwnIndex f) × (FitsOwnIndex f → room_fault cut (held_moof f number at) (moof_runs (held_moof f number at) tracks) number ≡ None)
unfolding order.least_from
one_fits_index cut at number tracks f media index small one =
    let h = held_moof f number at in
    let r = is_read_as f number at tracks one.can in
    let fit_here = its_fit cut tracks f media h one r in
    let count : piece_count cut h.bytes (r.run ∷ []) ≡ 1 = its_count cut h.bytes r.run (piece_at (first_cursor r.run) f.rows) (its_piece cut f h r.run r.describes one.some fit_here) in (
      λ none. index_means cut f h r.run r.describes one.some fit_here
          ((room_from cut h (r.run ∷ []) number (least-none (rooms.room_faults cut h (r.run ∷ []) number) (ap (λ (rs : List Run). room_fault cut h rs number) (sym r.all) ∙ none))).indexes index).0,
      λ fit. ap (λ (rs : List Run). room_fault cut h rs number) r.all ∙ ap least (room_to cut h (r.run ∷ []) number (record {
        indexes = λ _. (its_index cut f h r.run r.describes one.some fit_here fit, tt);
        numbers = subst (λ (n : ℕ). AllByRecursion (λ (k : ℕ). k < 2 ^ 32) (numbers number n)) (sym count) (small, tt);
      })),
    )

-- ---- items, wherever they are

-- an index has room for each run of a fragment
abbrev pub RoomAnywhere : Cut → List Track → Item → Type 0
RoomAnywhere cut tracks (PassedOver b) = Unit {0}
RoomAnywhere cut tracks (Movie b) = ⊥
RoomAnywhere cut tracks (MovieFragment moof mdat) = (at : ℕ) (us : List Track) → without_ends us ≡ without_ends tracks → index_faults cut moof.bytes (moof_runs (moof_at moof.bytes at) us) ≡ []

abbrev RoomHere : Cut → Context → Item → Type 0
RoomHere cut c (PassedOver b) = Unit {0}
RoomHere cut c (Movie b) = Unit {0}
RoomHere cut c (MovieFragment moof mdat) = index_faults cut moof.bytes (moof_runs (moof_at moof.bytes c.at) (tracks_in c)) ≡ []

abbrev pub HaveRoom : Cut → Context → List Item → Type 0
HaveRoom cut c [] = Unit {0}
HaveRoom cut c (i ∷ is) = RoomHere cut c i × HaveRoom cut (context_after (splitting (without_index cut)) c i) is

pub room_join : (cut : Cut) (c : Context) (xs ys : List Item) → HaveRoom cut c xs → HaveRoom cut (context_after_all (splitting (without_index cut)) c xs) ys → HaveRoom cut c (xs ++ ys)
room_join cut c [] ys p q = q
room_join cut c (x ∷ xs) ys p q = (p.0, room_join cut (context_after (splitting (without_index cut)) c x) xs ys p.1 q)

pub have_room : (cut : Cut) (tracks : List Track) (at number : ℕ) (us : List Track) (is : List Item) → without_ends us ≡ without_ends tracks → AllByRecursion (RoomAnywhere cut tracks) is → HaveRoom cut (context at (Some us) number) is
have_room cut tracks at number us [] e all = tt
have_room cut tracks at number us (PassedOver b ∷ is) e all = (tt, have_room cut tracks (at + length b.bytes) number us is e all.1)
have_room cut tracks at number us (Movie b ∷ is) e all = absurd all.0
have_room cut tracks at number us (MovieFragment moof mdat ∷ is) e all =
    let fs = moof_trafs (moof_at moof.bytes at) us in
    (all.0 at us e, have_room cut tracks _ _ _ is (ends_settled us fs ∙ e) all.1)

-- items that break no rule without an index break none with one
index_good : (cut : Cut) (c : Context) (x : List ℕ) (h : Header) → index_faults cut x (moof_runs (moof_at x c.at) (tracks_in c)) ≡ [] → IsGood (splitting (without_index cut)) c x h → IsGood (splitting cut) c x h
unfolding rooms.room_faults order.least_from
index_good cut c x h room good =
    let f = items.fragment_here c x h in
    let m = moof_at x c.at in
    let runs = moof_runs m (tracks_in c) in
    let both = first_none (place_fault f.payload runs) (room_fault (without_index cut) m runs c.number) good in
    let faults = sequence_faults m.offset (numbers c.number (piece_count cut m.bytes runs)) in
    let none : faults ≡ [] = last_none (index_faults (without_index cut) m.bytes runs) faults (least-none (rooms.room_faults (without_index cut) m runs c.number) both.1) in
    both_none (place_fault f.payload runs) (room_fault cut m runs c.number) both.0
    (ap (λ (fs : List Fault). least (fs ++ faults)) room ∙ ap least none)

index_item : (cut : Cut) (c : Context) (i : Item) → RoomHere cut c i → IsSound (splitting (without_index cut)) c i → IsSound (splitting cut) c i
index_item cut c (PassedOver b) room s = s
index_item cut c (Movie b) room s = s
index_item cut c (MovieFragment moof mdat) room s = (s.0, s.1, s.2, index_good cut c moof.bytes mdat.header room s.3)

pub index_sound : (cut : Cut) (c : Context) (is : List Item) → HaveRoom cut c is → AreSound (splitting (without_index cut)) c is → AreSound (splitting cut) c is
index_sound cut c [] room s = tt
index_sound cut c (i ∷ is) room s =
    (index_item cut c i room.0 s.0, subst (λ (d : Context). AreSound (splitting cut) d is) (sym (same_after cut c i)) (index_sound cut (context_after (splitting (without_index cut)) c i) is room.1 s.1))

-- ---- the fragments of a recut text

all_both : {X : Type 0} (P : X → Type 0) (xs ys : List X) → AllByRecursion P xs → AllByRecursion P ys → AllByRecursion P (xs ++ ys)
all_both P [] ys p q = q
all_both P (x ∷ xs) ys p q = (p.0, all_both P xs ys p.1 q)

all_first : {X : Type 0} (P : X → Type 0) (xs ys : List X) → AllByRecursion P (xs ++ ys) → AllByRecursion P xs
all_first P [] ys all = tt
all_first P (x ∷ xs) ys all = (all.0, all_first P xs ys all.1)

all_last : {X : Type 0} (P : X → Type 0) (xs ys : List X) → AllByRecursion P (xs ++ ys) → AllByRecursion P ys
all_last P [] ys all = all
all_last P (x ∷ xs) ys all = all_last P xs ys all.1

record Fine (cut : Cut) (tracks : List Track) (q : PieceWithMedia) : Type 0 where
  one : IsOnePiece (without_index cut) tracks q.written q.media
  fits : FitsOwnIndex q.written

one_room : (cut : Cut) (tracks : List Track) (q : PieceWithMedia) (number : ℕ) → Fine cut tracks q → RoomAnywhere cut tracks (piece_item q.written number q.media)
one_room cut tracks q number fine at us e =
    let f = q.written in
    let h = held_moof f number at in
    let can = can_still f tracks us e fine.one.can in
    let r = is_read_as f number at us can in
    let scale : r.run.timescale ≡ fine.one.can.track.timescale = r.timescale can.track can.known ∙ still_timescale f tracks us e fine.one.can in
    let fit : fits (cut_for r.run.timescale cut) f.rows ≡ true = ap (λ (n : ℕ). fits (cut_for n cut) f.rows) scale ∙ fine.one.fits in
    ap (index_faults cut h.bytes) r.all ∙ no_fault cut f h r.run r.describes fine.one.some fit fine.fits

pieces_room : (cut : Cut) (tracks : List Track) (number : ℕ) (qs : List PieceWithMedia) → AllByRecursion (Fine cut tracks) qs → AllByRecursion (RoomAnywhere cut tracks) (pieces_items number qs)
pieces_room cut tracks number [] all = tt
pieces_room cut tracks number (q ∷ qs) all = (one_room cut tracks q number all.0, pieces_room cut tracks (number + 1) qs all.1)

index_room : (cut : Cut) (tracks : List Track) (t : Bool) (run : Run) (timescale : ℕ) (g : List Piece) → AllByRecursion (RoomAnywhere cut tracks) (index_items t run timescale g)
index_room cut tracks true run timescale g = (tt, tt)
index_room cut tracks false run timescale g = tt

module _ (cut : Cut) (moof_bytes : List ℕ) (start : ℕ) (payload : List ℕ) (tracks : List Track) where
  abbrev IsFit : Run → Piece → Type 0
  IsFit run p = Fine cut tracks (piece_with_media moof_bytes start payload run p)

  all_mapped : (run : Run) (ps : List Piece) → AllByRecursion (IsFit run) ps → AllByRecursion (Fine cut tracks) (map (piece_with_media moof_bytes start payload run) ps)
  all_mapped run [] all = tt
  all_mapped run (p ∷ ps) all = (all.0, all_mapped run ps all.1)

  groups_room : (run : Run) (timescale number : ℕ) (gs : List (List Piece)) → AllByRecursion (IsFit run) (join gs) → AllByRecursion (RoomAnywhere cut tracks) (groups_items cut moof_bytes start payload run timescale number gs)
  groups_room run timescale number [] all = tt
  groups_room run timescale number (g ∷ gs) all =
      all_both (RoomAnywhere cut tracks) (index_items cut.index run timescale g) _ (index_room cut tracks cut.index run timescale g)
      (all_both (RoomAnywhere cut tracks) (pieces_items number (map (piece_with_media moof_bytes start payload run) g)) _
      (pieces_room cut tracks number _ (all_mapped run g (all_first (IsFit run) g (join gs) all)))
      (groups_room run timescale (number + length g) gs (all_last (IsFit run) g (join gs) all)))

  -- what an index has room for among other pieces, it has room for alone, if its time fits too
  fits_one : (run : Run) (p : Piece) → IsPieceOf moof_bytes run p → FitsReference p → FitsTime p.least → FitsOwnIndex (written_fragment moof_bytes run p)
  unfolding piece_specs.piece_at
  fits_one run p is fit time =
      let rows = rows_in moof_bytes run p in
      let header : mdat_header_size (sizes rows) ≡ mdat_header_size p.plain.bytes = ap mdat_header_size (bytes_are moof_bytes run p is) in
      let begin : (cursor_at moof_bytes run p.plain.first).time ≡ p.plain.time = sym (ap (λ (q : Piece). q.plain.time) is.is) in
      let same : p.least ≡ least_of (composition_times p.plain.time rows) = ap (λ (q : Piece). q.least) is.is ∙ ap (λ (t : ℕ). least_of (composition_times t rows)) begin in
      record {
        size = omega (arith, count_is moof_bytes run p is, header, bytes_are moof_bytes run p is, fit.size);
        duration = omega (arith, ap (λ (q : Piece). q.plain.duration) is.is, fit.duration);
        time = subst FitsTime same time;
      }

  all_fit : (run : Run) (ps : List Piece) → AllByRecursion (λ (q : PieceWithMedia). IsOnePiece (without_index cut) tracks q.written q.media) (map (piece_with_media moof_bytes start payload run) ps) → AllByRecursion (IsPieceOf moof_bytes run) ps → AllByRecursion FitsReference ps → AllByRecursion (λ (p : Piece). FitsTime p.least) ps → AllByRecursion (IsFit run) ps
  all_fit run [] ok is fit time = tt
  all_fit run (p ∷ ps) ok is fit time = (record { one = ok.0; fits = fits_one run p is.0 fit.0 time.0 }, all_fit run ps ok.1 is.1 fit.1 time.1)

  run_room : (run : Run) (timescale number : ℕ) → length payload ≤ 2 ^ 62 → IsRunIn tracks start payload moof_bytes run → FitsIndex (pieces_of cut moof_bytes run) → RunTimesFit cut moof_bytes run → AllByRecursion (RoomAnywhere cut tracks) (groups_items cut moof_bytes start payload run timescale number (groups (pieces_of cut moof_bytes run)))
  run_room run timescale number small g fit time =
      let ps = pieces_of cut moof_bytes run in
      groups_room run timescale number (groups ps)
      (subst (λ (qs : List Piece). AllByRecursion (IsFit run) qs) (sym (groups_are ps).joined) (elim g.lies [
        | inl none ↦ subst (λ (qs : List Piece). AllByRecursion (IsFit run) qs) (sym (none_of cut moof_bytes start payload tracks run none)) tt
        | inr lies ↦ all_fit run ps (run_pieces cut tracks moof_bytes start payload run small g.sound g.of lies) (pieces_are_of cut moof_bytes run) fit.references time
      ]))

  pub runs_room : (number : ℕ) (of : List Track) (runs : List Run) → length payload ≤ 2 ^ 62 → AllByRecursion (IsRunIn tracks start payload moof_bytes) runs → AllByRecursion (λ (run : Run). FitsIndex (pieces_of cut moof_bytes run)) runs → AllByRecursion (RunTimesFit cut moof_bytes) runs → AllByRecursion (RoomAnywhere cut tracks) (runs_items cut moof_bytes start payload of number runs)
  runs_room number of [] small given fit time = tt
  runs_room number of (run ∷ runs) small given fit time =
      all_both (RoomAnywhere cut tracks) _ _ (run_room run (timescale_of of run.track) number small given.0 fit.0 time.0)
      (runs_room (number + length (pieces_of cut moof_bytes run)) of runs small given.1 fit.1 time.1)
