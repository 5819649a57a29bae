-- Reports on the samples of a stream without a fault.
use Rattle.std.proofs.Common.{◌≡◌, ◌∙◌, ℕ, ◌+◌, ◌≤◌, ◌^◌, List, [], ◌∷◌, ◌++◌, length, append_assoc, Option, Some, None, refl, sym, ap}
use Rattle.std.specs.List.{flat_map}
use Rattle.std.proofs.lemmas.List.Concat.{flat_map-append}
use Rattle.mp4_box.specs.Headers.{IsBytes}
use Rattle.mp4_init.specs.Moovs.{moov_tracks}
use Rattle.mp4_init.specs.declared.table.Track.{Track}
use Rattle.mp4_pieces.specs.declared.cut.Cut.{Cut}
use Rattle.mp4_pieces.specs.Pieces.{piece_count}
use Rattle.mp4_machine.specs.Readings.{Reading}
use Rattle.mp4_grammar.specs.Contexts.{Context, context, first_context}
use Rattle.mp4_grammar.specs.Joined.{AreSound, Item, Movie, MovieFragment, PassedOver, context_after_all, fragment_in, items_effects}
use Rattle.mp4_grammar.specs.Meanings.{runs_in, settled_in}
use Rattle.mp4_recut.specs.Splitting.{splitting}
use Rattle.mp4_recut_laws.specs.MediaSamples.{MediaSample, items_samples, media_samples_in}
use Rattle.mp4_recut_laws.specs.Streams.{Ending, IsSoundEnding, NothingMore, OpenBox, OpenFragment, Stream, ending_context, ending_bytes, ending_samples, stream_bytes, stream_samples}
use Rattle.mp4_recut_laws.specs.RecutText.{reported_by, reporting}
use Rattle.mp4_recut_laws.proofs.OneRefusalLemmas.{ending_sound, good, moof_here, moov_here}
use Rattle.mp4_recut_laws.proofs.ReadStreamLemmas.{ended, stream_reads}

module _ (report : MediaSample → List ℕ) (cut : Cut) where
  ending_reported : (at : ℕ) (o : Option (List Track)) (n m : ℕ) (e : Ending) → (ended (reporting report) (context at o n) e).effects.text ≡ flat_map report (ending_samples (context at o m) e)
  ending_reported at o n m NothingMore = refl
  ending_reported at o n m (OpenBox h header_bytes more) = refl
  ending_reported at o n m (OpenFragment moof h header_bytes more) = refl

  -- the same items and end, after contexts that differ only in the number
  record Describes (c d : Context) (is : List Item) (e : Ending) : Type 0 where
    sound : AreSound (reporting report) c is
    ending : IsSoundEnding (reporting report) (context_after_all (reporting report) c is) e
    text : (items_effects (reporting report) c is).text ++ (ended (reporting report) (context_after_all (reporting report) c is) e).effects.text ≡ flat_map report (items_samples cut d is ++ ending_samples (context_after_all (splitting cut) d is) e)

  one_more : (s u v : List MediaSample) (t e : List ℕ) → t ++ e ≡ flat_map report (u ++ v) → (flat_map report s ++ t) ++ e ≡ flat_map report ((s ++ u) ++ v)
  one_more s u v t e h =
      append_assoc (flat_map report s) t e ∙ ap (λ (x : List ℕ). flat_map report s ++ x) h ∙ sym (flat_map-append report s (u ++ v)) ∙ ap (flat_map report) (sym (append_assoc s u v))

  describes : (at : ℕ) (o : Option (List Track)) (n m : ℕ) (is : List Item) (e : Ending) → AreSound (splitting cut) (context at o m) is → IsSoundEnding (splitting cut) (context_after_all (splitting cut) (context at o m) is) e → Describes (context at o n) (context at o m) is e
  describes at o n m [] e s z = record { sound = tt; ending = ending_sound cut (reporting report) (λ f. refl) at o n m e z; text = ending_reported at o n m e }
  describes at o n m (PassedOver b ∷ is) e s z =
      let rest = describes (at + length b.bytes) o n m is e s.1 z in
      record { sound = (s.0, rest.sound); ending = rest.ending; text = rest.text }
  describes at o n m (Movie b ∷ is) e s z =
      let rest = describes (at + length b.bytes) (Some (moov_tracks at b.bytes)) n m is e s.1 z in
      record { sound = ((moov_here at o n m b s.0.0, s.0.1), rest.sound); ending = rest.ending; text = rest.text }
  describes at o n m (MovieFragment moof mdat ∷ is) e s z =
      let f = fragment_in (context at o m) moof mdat in
      let rest = describes (at + length moof.bytes + length mdat.bytes) (Some (settled_in f)) n (m + piece_count cut moof.bytes (runs_in f)) is e s.1 z in
      record {
        sound = ((moof_here at o n m moof s.0.0, s.0.1, s.0.2, good cut (reporting report) (λ f. refl) at o n m moof.bytes mdat.header s.0.3), rest.sound);
        ending = rest.ending;
        text = one_more (media_samples_in f (Rattle.std.specs.Prelude.drop mdat.header.header_len mdat.bytes)) _ _ _ _ rest.text;
      }

  pub stream_reported_by : (s : Stream) → AreSound (splitting cut) first_context s.items → IsSoundEnding (splitting cut) (ending_context cut s) s.ending → IsBytes (ending_bytes s.ending) → length (stream_bytes s) ≤ 2 ^ 62 → reported_by report (stream_bytes s) ≡ flat_map report (stream_samples cut s)
  stream_reported_by s sound ending moof_bytes near =
      let t = describes 0 None 1 1 s.items s.ending sound ending in
      ap (λ (r : Reading). r.effects.text) (stream_reads (reporting report) s t.sound t.ending moof_bytes near) ∙ t.text
