-- What is asked of the items of a stream follows from what is asked of the stream.
use Rattle.std.proofs.Common.{◌≡◌, ℕ, ◌+◌, ◌<◌, ◌≤◌, ◌^◌, List, [], ◌∷◌, ◌++◌, length, length-append, refl, sym, ap, arith, subst}
use Rattle.std.specs.List.{AllByRecursion}
use Rattle.std.proofs.lemmas.List.{drop_at, take_at}
use Rattle.mp4_box.specs.Headers.{IsBytes}
use Rattle.mp4_box.proofs.HeaderLemmas.{IsBytes-drop, IsBytes-take}
use Rattle.mp4_init.specs.Moovs.{moov_tracks}
use Rattle.mp4_init.proofs.MoovLemmas.{first_none}
use Rattle.mp4_run_order.proofs.OrderLemmas.{taken_permutes}
use Rattle.mp4_frag.specs.Moofs.{moof_runs, moof_trafs}
use Rattle.mp4_frag.specs.Places.{place_fault, listed_run}
use Rattle.mp4_frag.specs.RunLists.{taken_runs}
use Rattle.mp4_traf.specs.Runs.{moof_at}
use Rattle.mp4_traf.specs.Settling.{settled}
use Rattle.mp4_pieces.specs.declared.cut.Cut.{Cut}
use Rattle.mp4_pieces.specs.Rooms.{room_fault}
use Rattle.mp4_pieces.proofs.OrderLemmas.{count_kept}
use Rattle.mp4_grammar.specs.Contexts.{Context}
use Rattle.mp4_grammar.specs.Joined.{AreSound, IsSound, Item, Movie, MovieFragment, PassedOver, context_after, context_after_all, bytes_of, fragment_in, joined, tracks_in}
use Rattle.mp4_recut_laws.specs.Premises.{CanAllBeRecut, CanBeRecut}
use Rattle.mp4_recut.specs.Splitting.{splitting}
use Rattle.mp4_recut_laws.proofs.FragmentLemmas.{has_numbers}
use Rattle.mp4_init.specs.TrackFields.{FitsTrackFields}
use Rattle.mp4_init.proofs.OffsetLemmas.{good_anywhere, tracks_anywhere}
use Rattle.mp4_init.proofs.TrackFieldLemmas.{moov_tracks_fit}
use Rattle.mp4_recut_laws.proofs.TrackLemmas.{ends_settled}
use Rattle.mp4_init.specs.declared.table.Track.{Track}
use Rattle.mp4_cut.specs.Reads.{FitsTrack}
use Rattle.mp4_recut_laws.specs.PieceItems.{without_end, without_ends}

same_head : (t u : Track) (ts us : List Track) → ◌≡◌ {A = List Track} (t ∷ ts) (u ∷ us) → (t ≡ u) × (ts ≡ us)
same_head t u ts us e = (cc, cc)

fits_without : (t u : Track) → without_end t ≡ without_end u → FitsTrack t → FitsTrack u
fits_without t u e f = record {
  entries = subst (λ (n : ℕ). n < 2 ^ 32) (ap (λ (x : Track). x.entries) e) f.entries;
  duration = subst (λ (n : ℕ). n < 2 ^ 32) (ap (λ (x : Track). x.duration) e) f.duration;
  size = subst (λ (n : ℕ). n < 2 ^ 32) (ap (λ (x : Track). x.size) e) f.size;
  flags = subst (λ (n : ℕ). n < 2 ^ 32) (ap (λ (x : Track). x.flags) e) f.flags;
}

-- where tracks ended doesn't matter to whether they fit
pub fits_ends : (ts us : List Track) → without_ends ts ≡ without_ends us → AllByRecursion FitsTrack ts → AllByRecursion FitsTrack us
fits_ends [] [] e all = tt
fits_ends [] (u ∷ us) e all = absurd cc
fits_ends (t ∷ ts) [] e all = tt
fits_ends (t ∷ ts) (u ∷ us) e all = let both = same_head (without_end t) (without_end u) (without_ends ts) (without_ends us) e in (fits_without t u both.0 all.0, fits_ends ts us both.1 all.1)

-- ---- the tracks of a moov

entries_fit : (ts : List Track) → AllByRecursion FitsTrackFields ts → AllByRecursion FitsTrack ts
entries_fit [] all = tt
entries_fit (t ∷ ts) all = (record { entries = all.0.entries; duration = all.0.duration; size = all.0.size; flags = all.0.flags }, entries_fit ts all.1)

scales_fit : (ts : List Track) → AllByRecursion FitsTrackFields ts → AllByRecursion (λ (t : Track). t.timescale < 2 ^ 32) ts
scales_fit [] all = tt
scales_fit (t ∷ ts) all = (all.0.timescale, scales_fit ts all.1)

pub moov_scaled : (o : ℕ) (x : List ℕ) → IsBytes x → AllByRecursion (λ (t : Track). t.timescale < 2 ^ 32) (moov_tracks o x)
moov_scaled o x moof_bytes = scales_fit (moov_tracks o x) (moov_tracks_fit o x moof_bytes)

moov_fits : (o : ℕ) (x : List ℕ) → IsBytes x → AllByRecursion FitsTrack (moov_tracks o x)
moov_fits o x moof_bytes = entries_fit (moov_tracks o x) (moov_tracks_fit o x moof_bytes)

-- where tracks ended doesn't matter to them
pub scaled_ends : (ts us : List Track) → without_ends ts ≡ without_ends us → AllByRecursion (λ (t : Track). t.timescale < 2 ^ 32) ts → AllByRecursion (λ (t : Track). t.timescale < 2 ^ 32) us
scaled_ends [] [] e all = tt
scaled_ends [] (u ∷ us) e all = absurd cc
scaled_ends (t ∷ ts) [] e all = tt
scaled_ends (t ∷ ts) (u ∷ us) e all =
    let both = same_head (without_end t) (without_end u) (without_ends ts) (without_ends us) e in
    (subst (λ (n : ℕ). n < 2 ^ 32) (ap (λ (x : Track). x.timescale) both.0) all.0, scaled_ends ts us both.1 all.1)

-- ---- the items of a stream

pub bytes_front : (xs ys : List ℕ) → IsBytes (xs ++ ys) → IsBytes xs
bytes_front xs ys h = subst IsBytes (take_at xs ys (length xs) refl) (IsBytes-take (length xs) (xs ++ ys) h)

pub bytes_back : (xs ys : List ℕ) → IsBytes (xs ++ ys) → IsBytes ys
bytes_back xs ys h = subst IsBytes (drop_at xs ys (length xs) refl) (IsBytes-drop (length xs) (xs ++ ys) h)

record ItemPremises (cut : Cut) (c : Context) (i : Item) : Type 0 where
  fine : CanBeRecut c i
  at : (context_after (splitting cut) c i).at ≡ c.at + length (bytes_of i)
  number : (context_after (splitting cut) c i).number ≤ 2 ^ 32
  tracks : AllByRecursion FitsTrack (tracks_in (context_after (splitting cut) c i))

item_premises : (cut : Cut) (c : Context) (i : Item) → IsSound (splitting cut) c i → IsBytes (bytes_of i) → c.at + length (bytes_of i) ≤ 2 ^ 62 → c.number ≤ 2 ^ 32 → AllByRecursion FitsTrack (tracks_in c) → ItemPremises cut c i
item_premises cut c (PassedOver b) s moof_bytes room low fit = record { fine = tt; at = refl; number = low; tracks = fit }
item_premises cut c (Movie b) s moof_bytes room low fit = record {
  fine = λ at. (good_anywhere b.bytes c.at at s.1, ap without_ends (tracks_anywhere b.bytes c.at at));
  at = refl;
  number = low;
  tracks = moov_fits c.at b.bytes moof_bytes;
}
item_premises cut c (MovieFragment moof mdat) s moof_bytes room low fit =
    let h = moof_at moof.bytes c.at in
    let ts = tracks_in c in
    let both = first_none (place_fault (fragment_in c moof mdat).payload (moof_runs h ts)) (room_fault cut h (moof_runs h ts) c.number) s.3 in
    let len = length-append moof.bytes mdat.bytes in
    record {
      fine = (bytes_front moof.bytes mdat.bytes moof_bytes, omega (arith, room, len), fit, low);
      at = omega (arith, len);
      number = omega (arith, has_numbers cut h (moof_runs h ts) c.number low both.1, count_kept cut moof.bytes (moof_runs h ts) (taken_runs h ts) (taken_permutes listed_run (moof_runs h ts)));
      tracks = fits_ends ts (settled ts (moof_trafs h ts)) (sym (ends_settled ts (moof_trafs h ts))) fit;
    }

pub all_can_be_recut : (cut : Cut) (c : Context) (is : List Item) → AreSound (splitting cut) c is → IsBytes (joined is) → c.at + length (joined is) ≤ 2 ^ 62 → c.number ≤ 2 ^ 32 → AllByRecursion FitsTrack (tracks_in c) → CanAllBeRecut cut c is
all_can_be_recut cut c [] s moof_bytes room low fit = tt
all_can_be_recut cut c (i ∷ is) s moof_bytes room low fit =
    let len = length-append (bytes_of i) (joined is) in
    let g = item_premises cut c i s.0 (bytes_front (bytes_of i) (joined is) moof_bytes) (omega (arith, room, len)) low fit in
    (g.fine, all_can_be_recut cut (context_after (splitting cut) c i) is s.1 (bytes_back (bytes_of i) (joined is) moof_bytes) (omega (arith, room, len, g.at)) g.number g.tracks)

pub after_good : (cut : Cut) (c : Context) (is : List Item) → AreSound (splitting cut) c is → IsBytes (joined is) → c.at + length (joined is) ≤ 2 ^ 62 → c.number ≤ 2 ^ 32 → AllByRecursion FitsTrack (tracks_in c) → ((context_after_all (splitting cut) c is).number ≤ 2 ^ 32) × AllByRecursion FitsTrack (tracks_in (context_after_all (splitting cut) c is))
after_good cut c [] s moof_bytes room low fit = (low, fit)
after_good cut c (i ∷ is) s moof_bytes room low fit =
    let len = length-append (bytes_of i) (joined is) in
    let g = item_premises cut c i s.0 (bytes_front (bytes_of i) (joined is) moof_bytes) (omega (arith, room, len)) low fit in
    after_good cut (context_after (splitting cut) c i) is s.1 (bytes_back (bytes_of i) (joined is) moof_bytes) (omega (arith, room, len, g.at)) g.number g.tracks
