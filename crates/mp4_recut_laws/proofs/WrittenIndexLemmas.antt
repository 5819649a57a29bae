-- Each index in the recut text of a stream is true.
use Rattle.std.proofs.Common.{◌≡◌, ℕ, ◌+◌, ◌<◌, ◌≤◌, ◌^◌, true, List, [], ◌∷◌, ◌++◌, length, length-append, Option, Some, None, sym, arith}
use Rattle.std.specs.Prelude.{drop}
use Rattle.std.specs.List.{AllByRecursion}
use Rattle.mp4_box.specs.Headers.{IsBytes, IsWhole}
use Rattle.mp4_box.specs.declared.headers.Header.{Header}
use Rattle.mp4_box.proofs.OrderLemmas.{least-none}
use Rattle.mp4_init.specs.declared.table.Track.{Track}
use Rattle.mp4_init.proofs.MoovLemmas.{first_none}
use Rattle.mp4_run_order.proofs.OrderLemmas.{taken_permutes}
use Rattle.mp4_traf.specs.declared.run.Run.{Run}
use Rattle.mp4_frag.specs.Moofs.{moof_runs, moof_trafs}
use Rattle.mp4_frag.specs.Places.{place_fault, listed_run}
use Rattle.mp4_frag.specs.RunLists.{taken_runs}
use Rattle.mp4_traf.specs.Runs.{MoofBytes, moof_at}
use Rattle.mp4_traf.specs.Settling.{settled}
use Rattle.mp4_pieces.specs.declared.cut.Cut.{Cut}
use Rattle.mp4_pieces.specs.Fits.{FitsIndex}
use Rattle.mp4_pieces.specs.Pieces.{pieces_of}
use Rattle.mp4_pieces.specs.Rooms.{room_fault, room_faults}
use Rattle.mp4_pieces.proofs.FitsLemmas.{room_from}
use Rattle.mp4_pieces.proofs.OrderLemmas.{room_kept}
use Rattle.mp4_cut.specs.Reads.{FitsTrack}
use Rattle.mp4_grammar.specs.Contexts.{Context, context, first_context}
use Rattle.mp4_grammar.specs.Joined.{AreSound, IsSound, Item, Movie, MovieFragment, OneBox, PassedOver, context_after, context_after_all, bytes_of, fragment_in, fragment_here, joined, listed, tracks_in}
use Rattle.mp4_recut.specs.Splitting.{splitting}
use Rattle.mp4_recut_laws.specs.Premises.{CanAllBeRecut, CanBeRecut}
use Rattle.mp4_recut_laws.specs.Indexes.{EndingIsIndexed, ItemIsIndexed, ItemsAreIndexed}
use Rattle.mp4_recut_laws.specs.Streams.{Ending, IsSoundEnding, IsSoundStream, NothingMore, OpenBox, OpenFragment, Stream, ending_context, ending_bytes}
use Rattle.mp4_recut_laws.proofs.PremiseLemmas.{after_good, all_can_be_recut, bytes_back, bytes_front, moov_scaled, scaled_ends}
use Rattle.mp4_recut_laws.proofs.FragmentLemmas.{fragment_runs}
use Rattle.mp4_recut_laws.proofs.IndexLemmas.{runs_indexed}
use Rattle.mp4_recut_laws.proofs.OpenFragmentLemmas.{open_runs}
use Rattle.mp4_recut_laws.proofs.StreamLemmas.{after_at}
use Rattle.mp4_recut_laws.proofs.TrackLemmas.{ends_settled}

abbrev pub AreScaled : List Track → Type 0
AreScaled ts = AllByRecursion (λ (t : Track). t.timescale < 2 ^ 32) ts

nothing_known : {X : Type 0} → ◌≡◌ {A = Option (List Track)} None (Some []) → X
nothing_known e = absurd cc

-- an index has room for the pieces of each run
pub all_index : (cut : Cut) (h : MoofBytes) (tracks : List Track) (number : ℕ) → cut.index ≡ true → room_fault cut h (moof_runs h tracks) number ≡ None → AllByRecursion (λ (run : Run). FitsIndex (pieces_of cut h.bytes run)) (taken_runs h tracks)
all_index cut h tracks number index none =
    let runs = moof_runs h tracks in
    (room_kept cut h runs (taken_runs h tracks) number (taken_permutes listed_run runs) (room_from cut h runs number (least-none (room_faults cut h runs number) none))).indexes index

module _ (cut : Cut) (index : cut.index ≡ true) where
  fragment_by : (at number : ℕ) (o : Option (List Track)) (moof mdat : OneBox) → AreScaled (listed o) → IsSound (splitting cut) (context at o number) (MovieFragment moof mdat) → CanBeRecut (context at o number) (MovieFragment moof mdat) → ItemIsIndexed cut (context at o number) (MovieFragment moof mdat)
  fragment_by at number None moof mdat scaled s fine = nothing_known s.0.known
  fragment_by at number (Some tracks) moof mdat scaled s fine =
      let f = fragment_in (context at (Some tracks) number) moof mdat in
      let h = moof_at moof.bytes at in
      let good = first_none (place_fault f.payload (moof_runs h tracks)) (room_fault cut h (moof_runs h tracks) number) s.3 in
      runs_indexed cut moof.bytes f.payload.start (drop mdat.header.header_len mdat.bytes) tracks number (taken_runs h tracks) scaled (fragment_runs cut at number tracks moof mdat s fine.0 fine.1 fine.2 fine.3) (all_index cut h tracks number index good.1)

  open_by : (at number : ℕ) (o : Option (List Track)) (moof : OneBox) (h : Header) (header_bytes more : List ℕ) → AreScaled (listed o) → IsSoundEnding (splitting cut) (context at o number) (OpenFragment moof h header_bytes more) → IsBytes moof.bytes → at + length moof.bytes + length more ≤ 2 ^ 62 → number ≤ 2 ^ 32 → AllByRecursion FitsTrack (listed o)
      → EndingIsIndexed cut (context at o number) (OpenFragment moof h header_bytes more)
  open_by at number None moof h header_bytes more scaled s moof_bytes room low fit = nothing_known s.2.known
  open_by at number (Some tracks) moof h header_bytes more scaled s moof_bytes room low fit =
      let f = fragment_here (context at (Some tracks) number) moof.bytes h in
      let m = moof_at moof.bytes at in
      let whole : IsWhole moof.bytes = (moof.header, s.2.one.payload, s.2.one.is) in
      let good = first_none (place_fault f.payload (moof_runs m tracks)) (room_fault cut m (moof_runs m tracks) number) s.4 in
      runs_indexed cut moof.bytes f.payload.start more tracks number (taken_runs m tracks) scaled (open_runs cut at number tracks moof.bytes more h s.1.1 whole moof_bytes room fit low s.3 s.4 s.5) (all_index cut m tracks number index good.1)

  pub item_scaled : (c : Context) (i : Item) → AreScaled (tracks_in c) → IsSound (splitting cut) c i → IsBytes (bytes_of i) → AreScaled (tracks_in (context_after (splitting cut) c i))
  item_scaled c (PassedOver b) scaled s moof_bytes = scaled
  item_scaled c (Movie b) scaled s moof_bytes = moov_scaled c.at b.bytes moof_bytes
  item_scaled c (MovieFragment moof mdat) scaled s moof_bytes =
      let ts = tracks_in c in
      let fs = moof_trafs (moof_at moof.bytes c.at) ts in
      scaled_ends ts (settled ts fs) (sym (ends_settled ts fs)) scaled

  item_indexed : (c : Context) (i : Item) → AreScaled (tracks_in c) → IsSound (splitting cut) c i → CanBeRecut c i → ItemIsIndexed cut c i
  item_indexed c (PassedOver b) scaled s fine = tt
  item_indexed c (Movie b) scaled s fine = tt
  item_indexed c (MovieFragment moof mdat) scaled s fine = fragment_by c.at c.number c.tracks moof mdat scaled s fine

  pub items_indexed : (c : Context) (is : List Item) → AreScaled (tracks_in c) → AreSound (splitting cut) c is → CanAllBeRecut cut c is → IsBytes (joined is) → ItemsAreIndexed cut c is × AreScaled (tracks_in (context_after_all (splitting cut) c is))
  items_indexed c [] scaled s fine moof_bytes = (tt, scaled)
  items_indexed c (i ∷ is) scaled s fine moof_bytes =
      let rest = items_indexed (context_after (splitting cut) c i) is (item_scaled c i scaled s.0 (bytes_front (bytes_of i) (joined is) moof_bytes)) s.1 fine.1 (bytes_back (bytes_of i) (joined is) moof_bytes) in
      ((item_indexed c i scaled s.0 fine.0, rest.0), rest.1)

  ending_indexed : (c : Context) (e : Ending) → AreScaled (tracks_in c) → IsSoundEnding (splitting cut) c e → IsBytes (ending_bytes e) → c.at + length (ending_bytes e) ≤ 2 ^ 62 → c.number ≤ 2 ^ 32 → AllByRecursion FitsTrack (tracks_in c) → EndingIsIndexed cut c e
  ending_indexed c NothingMore scaled s moof_bytes room low fit = tt
  ending_indexed c (OpenBox h header_bytes more) scaled s moof_bytes room low fit = tt
  ending_indexed c (OpenFragment moof h header_bytes more) scaled s moof_bytes room low fit =
      open_by c.at c.number c.tracks moof h header_bytes more scaled s (bytes_front moof.bytes (header_bytes ++ more) moof_bytes) (omega (arith, room, length-append moof.bytes (header_bytes ++ more), length-append header_bytes more)) low fit

  pub stream_indexed : (s : Stream) → IsSoundStream cut s → ItemsAreIndexed cut first_context s.items × EndingIsIndexed cut (ending_context cut s) s.ending
  stream_indexed s is =
      let e = ending_bytes s.ending in
      let len = length-append (joined s.items) e in
      let front = bytes_front (joined s.items) e is.bytes in
      let back = bytes_back (joined s.items) e is.bytes in
      let fine = all_can_be_recut cut first_context s.items is.sound front (omega (arith, is.near, len)) (omega arith) tt in
      let good = after_good cut first_context s.items is.sound front (omega (arith, is.near, len)) (omega arith) tt in
      let items = items_indexed first_context s.items tt is.sound fine front in
      (items.0, ending_indexed (ending_context cut s) s.ending items.1 is.ending back (omega (arith, is.near, len, after_at (splitting cut) first_context s.items)) good.0 good.1)
