-- A recut text is read with an index too, where an index has room for the time of each piece.
use Rattle.std.proofs.Common.{◌≡◌, ◌∙◌, ℕ, ◌+◌, ◌≤◌, ◌^◌, Bool, true, false, List, [], ◌∷◌, ◌++◌, length, length-append, Option, Some, None, refl, sym, ap, arith, subst}
use Rattle.std.specs.Prelude.{drop, option_map}
use Rattle.std.proofs.lemmas.List.{length-drop}
use Rattle.std.specs.List.{AllByRecursion}
use Rattle.mp4_box.specs.Headers.{IsBytes, IsWhole}
use Rattle.mp4_box.specs.declared.headers.Header.{Header}
use Rattle.mp4_init.specs.declared.table.Track.{Track}
use Rattle.mp4_init.proofs.MoovLemmas.{first_none}
use Rattle.mp4_frag.specs.Moofs.{moof_runs}
use Rattle.mp4_frag.specs.Places.{place_fault}
use Rattle.mp4_frag.specs.RunLists.{taken_runs}
use Rattle.mp4_traf.specs.Runs.{moof_at}
use Rattle.mp4_pieces.specs.declared.cut.Cut.{Cut}
use Rattle.mp4_pieces.specs.Rooms.{room_fault}
use Rattle.mp4_cut.specs.Reads.{FitsTrack}
use Rattle.mp4_machine.specs.Readings.{Sound}
use Rattle.mp4_grammar.specs.Contexts.{Context, context, first_context}
use Rattle.mp4_grammar.specs.Joined.{AreSound, IsSound, Item, Movie, MovieFragment, OneBox, PassedOver, context_after, context_after_all, fragment_in, fragment_here, joined, tracks_in}
use Rattle.mp4_recut.specs.Splitting.{is_dropped, reading, splitting}
use Rattle.mp4_recut_laws.specs.PieceItems.{without_ends}
use Rattle.mp4_recut_laws.specs.Premises.{CanAllBeRecut, CanBeRecut, SameButEnds}
use Rattle.mp4_recut_laws.specs.RecutItems.{item_recut, items_recut, copied_items, without_index}
use Rattle.mp4_recut_laws.specs.Streams.{Ending, IsSoundEnding, IsSoundStream, NothingMore, OpenBox, OpenFragment, Stream, ending_context, ending_bytes, ending_recut, ending_items, kept_ending, recut, stream_text}
use Rattle.mp4_recut_laws.specs.PieceTimes.{EndingTimesFit, ItemTimesFit, ItemsTimesFit}
use Rattle.mp4_recut_laws.specs.RecutText.{recut_text}
use Rattle.mp4_recut_laws.proofs.StreamBytesLemmas.{text_stream}
use Rattle.mp4_recut_laws.proofs.PremiseLemmas.{after_good, all_can_be_recut, bytes_back, bytes_front}
use Rattle.mp4_recut_laws.proofs.FragmentLemmas.{fragment_runs}
use Rattle.mp4_recut_laws.proofs.ItemLemmas.{items_agree, one_item, some_same}
use Rattle.mp4_recut_laws.proofs.OpenFragmentLemmas.{open_runs}
use Rattle.mp4_recut_laws.proofs.OwnIndexLemmas.{HaveRoom, have_room, index_sound, room_join, runs_room}
use Rattle.mp4_recut_laws.proofs.StreamLemmas.{after_at, laws}
use Rattle.mp4_recut_laws.proofs.ReadStreamLemmas.{recut_text_of_a_stream}
use Rattle.mp4_recut_laws.proofs.WrittenIndexLemmas.{all_index}

nothing_known : {X : Type 0} → ◌≡◌ {A = Option (List Track)} None (Some []) → X
nothing_known e = absurd cc

nothing_same : {X : Type 0} (ts : List Track) → ◌≡◌ {A = Option (List Track)} None (Some ts) → X
nothing_same ts e = absurd cc

kept_room : (cut : Cut) (d : Context) (t : Bool) (b : OneBox) → HaveRoom cut d (copied_items t b)
kept_room cut d true b = tt
kept_room cut d false b = (tt, tt)

module _ (cut : Cut) (index : cut.index ≡ true) where
  fragment_room : (at number : ℕ) (o : Option (List Track)) (to now : ℕ) (u : Option (List Track)) (moof mdat : OneBox) → option_map without_ends u ≡ option_map without_ends o → IsSound (splitting cut) (context at o number) (MovieFragment moof mdat) → CanBeRecut (context at o number) (MovieFragment moof mdat) → ItemTimesFit cut (context at o number) (MovieFragment moof mdat)
      → HaveRoom cut (context to u now) (item_recut cut (context at o number) (MovieFragment moof mdat))
  fragment_room at number None to now u moof mdat e s fine time = nothing_known s.0.known
  fragment_room at number (Some tracks) to now None moof mdat e s fine time = nothing_same (without_ends tracks) e
  fragment_room at number (Some tracks) to now (Some us) moof mdat e s fine time =
      let f = fragment_in (context at (Some tracks) number) moof mdat in
      let h = moof_at moof.bytes at in
      let payload = drop mdat.header.header_len mdat.bytes in
      let good = first_none (place_fault f.payload (moof_runs h tracks)) (room_fault cut h (moof_runs h tracks) number) s.3 in
      have_room cut tracks to now us _ (some_same (without_ends us) (without_ends tracks) e)
      (runs_room cut moof.bytes f.payload.start payload tracks number tracks (taken_runs h tracks) (omega (arith, fine.1, length-drop mdat.header.header_len mdat.bytes))
      (fragment_runs cut at number tracks moof mdat s fine.0 fine.1 fine.2 fine.3) (all_index cut h tracks number index good.1) time)

  item_room : (c d : Context) (i : Item) → SameButEnds c d → IsSound (splitting cut) c i → CanBeRecut c i → ItemTimesFit cut c i → HaveRoom cut d (item_recut cut c i)
  item_room c d (PassedOver b) a s fine time = kept_room cut d (is_dropped b.header.kind.0) b
  item_room c d (Movie b) a s fine time = (tt, tt)
  item_room c d (MovieFragment moof mdat) a s fine time = fragment_room c.at c.number c.tracks d.at d.number d.tracks moof mdat a.tracks s fine time

  items_room : (c d : Context) (is : List Item) → SameButEnds c d → AreSound (splitting cut) c is → CanAllBeRecut cut c is → ItemsTimesFit cut c is → HaveRoom cut d (items_recut cut c is)
  items_room c d [] a s fine time = tt
  items_room c d (i ∷ is) a s fine time =
      let one = one_item cut c d i a s.0 fine.0 in
      room_join cut d (item_recut cut c i) (items_recut cut (context_after (splitting cut) c i) is) (item_room c d i a s.0 fine.0 time.0)
      (items_room (context_after (splitting cut) c i) (context_after_all (splitting (without_index cut)) d (item_recut cut c i)) is one.same_tracks s.1 fine.1 time.1)

  open_room : (at number : ℕ) (o : Option (List Track)) (to now : ℕ) (u : Option (List Track)) (moof : OneBox) (h : Header) (header_bytes more : List ℕ) → option_map without_ends u ≡ option_map without_ends o → IsSoundEnding (splitting cut) (context at o number) (OpenFragment moof h header_bytes more) → IsBytes moof.bytes → at + length moof.bytes + length more ≤ 2 ^ 62 → number ≤ 2 ^ 32 → AllByRecursion FitsTrack (tracks_in (context at o number)) → EndingTimesFit cut (context at o number) (OpenFragment moof h header_bytes more)
      → HaveRoom cut (context to u now) (ending_items cut (context at o number) (OpenFragment moof h header_bytes more))
  open_room at number None to now u moof h header_bytes more e s moof_bytes room low fit time = nothing_known s.2.known
  open_room at number (Some tracks) to now None moof h header_bytes more e s moof_bytes room low fit time = nothing_same (without_ends tracks) e
  open_room at number (Some tracks) to now (Some us) moof h header_bytes more e s moof_bytes room low fit time =
      let f = fragment_here (context at (Some tracks) number) moof.bytes h in
      let m = moof_at moof.bytes at in
      let whole : IsWhole moof.bytes = (moof.header, s.2.one.payload, s.2.one.is) in
      let good = first_none (place_fault f.payload (moof_runs m tracks)) (room_fault cut m (moof_runs m tracks) number) s.4 in
      have_room cut tracks to now us _ (some_same (without_ends us) (without_ends tracks) e)
      (runs_room cut moof.bytes f.payload.start more tracks number tracks (taken_runs m tracks) (omega (arith, room))
      (open_runs cut at number tracks moof.bytes more h s.1.1 whole moof_bytes room fit low s.3 s.4 s.5) (all_index cut m tracks number index good.1) time)

  end_room : (c d : Context) (e : Ending) → SameButEnds c d → IsSoundEnding (splitting cut) c e → IsBytes (ending_bytes e) → c.at + length (ending_bytes e) ≤ 2 ^ 62 → c.number ≤ 2 ^ 32 → AllByRecursion FitsTrack (tracks_in c) → EndingTimesFit cut c e → HaveRoom cut d (ending_items cut c e)
  end_room c d NothingMore a s moof_bytes room low fit time = tt
  end_room c d (OpenBox h header_bytes more) a s moof_bytes room low fit time = tt
  end_room c d (OpenFragment moof h header_bytes more) a s moof_bytes room low fit time =
      open_room c.at c.number c.tracks d.at d.number d.tracks moof h header_bytes more a.tracks s (bytes_front moof.bytes (header_bytes ++ more) moof_bytes) (omega (arith, room, length-append moof.bytes (header_bytes ++ more), length-append header_bytes more)) low fit time

  -- the end of a recut text is as good with an index, in any context
  last_good : (c d : Context) (e : Ending) → IsSoundEnding (splitting (without_index cut)) c (ending_recut e) → IsSoundEnding (splitting cut) d (ending_recut e)
  last_good c d NothingMore s = s
  last_good c d (OpenFragment moof h header_bytes more) s = s
  last_good c d (OpenBox h header_bytes more) s = by (is_dropped h.kind.0) s
    where
      by : (t : Bool) → IsSoundEnding (splitting (without_index cut)) c (kept_ending t h header_bytes more) → IsSoundEnding (splitting cut) d (kept_ending t h header_bytes more)
      by true s = s
      by false s = s

  pub times_stream : (s : Stream) → IsSoundStream cut s → ItemsTimesFit cut first_context s.items → EndingTimesFit cut (ending_context cut s) s.ending → length (stream_text cut s) ≤ 2 ^ 62 → IsSoundStream cut (recut cut s)
  times_stream s is times last near =
      let e = ending_bytes s.ending in
      let len = length-append (joined s.items) e in
      let front = bytes_front (joined s.items) e is.bytes in
      let back = bytes_back (joined s.items) e is.bytes in
      let fine = all_can_be_recut cut first_context s.items is.sound front (omega (arith, is.near, len)) (omega arith) tt in
      let good = after_good cut first_context s.items is.sound front (omega (arith, is.near, len)) (omega arith) tt in
      let same_tracks : SameButEnds first_context first_context = record { number = refl; tracks = refl } in
      let survive = items_agree cut first_context first_context s.items same_tracks is.sound fine in
      let now = items_recut cut first_context s.items in
      let d = context_after_all (splitting (without_index cut)) first_context now in
      let room = room_join cut first_context now (ending_items cut (ending_context cut s) s.ending) (items_room first_context first_context s.items same_tracks is.sound fine times)
      (end_room (ending_context cut s) d s.ending survive.same_tracks is.ending back (omega (arith, is.near, len, after_at (splitting cut) first_context s.items)) good.0 good.1 last) in
      let plain = text_stream cut s is near in
      record {
        sound = index_sound cut first_context (recut cut s).items room plain.sound;
        ending = last_good (ending_context (without_index cut) (recut cut s)) (ending_context cut (recut cut s)) s.ending plain.ending;
        bytes = plain.bytes;
        near = plain.near;
      }

  pub times_read : (s : Stream) → IsSoundStream cut s → ItemsTimesFit cut first_context s.items → EndingTimesFit cut (ending_context cut s) s.ending → length (stream_text cut s) ≤ 2 ^ 62 → (reading cut (stream_text cut s)).outcome ≡ Sound
  times_read s is times last near =
      subst (λ (x : List ℕ). (reading cut x).outcome ≡ Sound) (laws cut s is).join (recut_text_of_a_stream cut (recut cut s) (times_stream s is times last near)).sound

  pub times_text : (s : Stream) → IsSoundStream cut s → ItemsTimesFit cut first_context s.items → EndingTimesFit cut (ending_context cut s) s.ending → length (stream_text cut s) ≤ 2 ^ 62 → recut_text cut (stream_text cut s) ≡ stream_text cut (recut cut s)
  times_text s is times last near = ap (recut_text cut) (sym (laws cut s is).join) ∙ (recut_text_of_a_stream cut (recut cut s) (times_stream s is times last near)).text
