-- What a command writes of a stream without a fault, and of its recut text.
use Rattle.std.proofs.Common.{◌≡◌, ◌∙◌, ℕ, ◌+◌, ◌≤◌, ◌^◌, Bool, true, false, List, [], ◌∷◌, ◌++◌, length, append-nil, append_assoc, Option, Some, None, refl, sym, ap}
use Rattle.mp4_box.specs.declared.headers.Header.{Header}
use Rattle.mp4_init.specs.Moovs.{moov_tracks}
use Rattle.mp4_init.specs.declared.table.Track.{Track}
use Rattle.mp4_pieces.specs.declared.cut.Cut.{Cut}
use Rattle.mp4_pieces.specs.Pieces.{piece_count}
use Rattle.mp4_machine.specs.Readings.{Reading}
use Rattle.mp4_grammar.specs.Commands.{command_meaning}
use Rattle.mp4_grammar.specs.Commands as commands
use Rattle.mp4_grammar.specs.Contexts.{Context, context, first_context}
use Rattle.mp4_grammar.specs.Joined.{AreSound, Item, Movie, MovieFragment, PassedOver, context_after_all, fragment_here, fragment_in, items_effects, joined}
use Rattle.mp4_grammar.specs.Meanings.{runs_in, settled_in}
use Rattle.mp4_grammar.specs.declared.command.Command.{Command}
use Rattle.mp4_grammar.specs.declared.command.Command.TheVariants.{Check, Fragments, Records, Samples}
use Rattle.mp4_recut.specs.Splitting.{is_dropped, splitting}
use Rattle.mp4_recut_laws.specs.Listings.{fragment_listing, item_listing, items_listing}
use Rattle.mp4_recut_laws.specs.RecutItems.{without_index}
use Rattle.mp4_recut_laws.specs.Streams.{Ending, IsSoundEnding, IsSoundStream, NothingMore, OpenBox, OpenFragment, Stream, ending_bytes, ending_context, ending_listing, ending_recut, kept_ending, recut, stream_bytes, stream_listing, stream_text}
use Rattle.mp4_recut_laws.proofs.OneRefusalLemmas.{ending_sound, good, moof_here, moov_here}
use Rattle.mp4_recut_laws.proofs.PremiseLemmas.{bytes_back}
use Rattle.mp4_recut_laws.proofs.ReadStreamLemmas.{ended, stream_reads}
use Rattle.mp4_recut_laws.proofs.StreamBytesLemmas.{text_stream}
use Rattle.mp4_recut_laws.proofs.StreamLemmas.{laws}

-- what is written of a fragment doesn't depend on its number
same_listing : (command : Command) (at : ℕ) (o : Option (List Track)) (n m : ℕ) (x : List ℕ) (h : Header) → fragment_listing command (fragment_here (context at o n) x h) ≡ fragment_listing command (fragment_here (context at o m) x h)
same_listing Samples at o n m x h = refl
same_listing Fragments at o n m x h = refl
same_listing Records at o n m x h = refl
same_listing Check at o n m x h = refl

one_more : (a u v t e : List ℕ) → t ++ e ≡ u ++ v → (a ++ t) ++ e ≡ (a ++ u) ++ v
one_more a u v t e h = append_assoc a t e ∙ ap (λ (x : List ℕ). a ++ x) h ∙ sym (append_assoc a u v)

fragment_more : (a b u v t e : List ℕ) → a ≡ b → t ++ e ≡ u ++ v → ((a ++ []) ++ t) ++ e ≡ (b ++ u) ++ v
fragment_more a b u v t e same h = ap (λ (x : List ℕ). (x ++ t) ++ e) (append-nil a ∙ same) ∙ one_more b u v t e h

module _ (command : Command) (cut : Cut) where
  ending_listed : (at : ℕ) (o : Option (List Track)) (n m : ℕ) (e : Ending) → (ended (command_meaning command) (context at o n) e).effects.text ≡ ending_listing command (context at o m) e
  ending_listed at o n m NothingMore = refl
  ending_listed at o n m (OpenBox h header_bytes more) = refl
  ending_listed at o n m (OpenFragment moof h header_bytes more) = append-nil _ ∙ same_listing command at o n m moof.bytes h

  -- the same items and end, after contexts that differ only in the number
  record Lists (c d : Context) (is : List Item) (e : Ending) : Type 0 where
    sound : AreSound (command_meaning command) c is
    ending : IsSoundEnding (command_meaning command) (context_after_all (command_meaning command) c is) e
    text : (items_effects (command_meaning command) c is).text ++ (ended (command_meaning command) (context_after_all (command_meaning command) c is) e).effects.text ≡ items_listing command cut d is ++ ending_listing command (context_after_all (splitting cut) d is) e

  lists : (at : ℕ) (o : Option (List Track)) (n m : ℕ) (is : List Item) (e : Ending) → AreSound (splitting cut) (context at o m) is → IsSoundEnding (splitting cut) (context_after_all (splitting cut) (context at o m) is) e → Lists (context at o n) (context at o m) is e
  lists at o n m [] e s z = record { sound = tt; ending = ending_sound cut (command_meaning command) (λ f. refl) at o n m e z; text = ending_listed at o n m e }
  lists at o n m (PassedOver b ∷ is) e s z =
      let rest = lists (at + length b.bytes) o n m is e s.1 z in
      record { sound = (s.0, rest.sound); ending = rest.ending; text = rest.text }
  lists at o n m (Movie b ∷ is) e s z =
      let meaning = command_meaning command in
      let there = at + length b.bytes in
      let tracks = moov_tracks at b.bytes in
      let c = context there (Some tracks) n in
      let d = context there (Some tracks) m in
      let rest = lists there (Some tracks) n m is e s.1 z in
      record {
        sound = ((moov_here at o n m b s.0.0, s.0.1), rest.sound);
        ending = rest.ending;
        text = one_more (item_listing command (context at o m) (Movie b)) (items_listing command cut d is) (ending_listing command (context_after_all (splitting cut) d is) e) (items_effects meaning c is).text (ended meaning (context_after_all meaning c is) e).effects.text rest.text;
      }
  lists at o n m (MovieFragment moof mdat ∷ is) e s z =
      let meaning = command_meaning command in
      let f = fragment_in (context at o m) moof mdat in
      let there = at + length moof.bytes + length mdat.bytes in
      let c = context there (Some (settled_in f)) n in
      let d = context there (Some (settled_in f)) (m + piece_count cut moof.bytes (runs_in f)) in
      let rest = lists there (Some (settled_in f)) n (m + piece_count cut moof.bytes (runs_in f)) is e s.1 z in
      record {
        sound = ((moof_here at o n m moof s.0.0, s.0.1, s.0.2, good cut meaning (λ f. refl) at o n m moof.bytes mdat.header s.0.3), rest.sound);
        ending = rest.ending;
        text = fragment_more (fragment_listing command (fragment_in (context at o n) moof mdat)) (fragment_listing command f) (items_listing command cut d is) (ending_listing command (context_after_all (splitting cut) d is) e) (items_effects meaning c is).text (ended meaning (context_after_all meaning c is) e).effects.text (same_listing command at o n m moof.bytes mdat.header) rest.text;
      }

  pub stream_listed : (s : Stream) → IsSoundStream cut s → (commands.reading command (stream_bytes s)).effects.text ≡ stream_listing command cut s
  stream_listed s is =
      let t = lists 0 None 1 1 s.items s.ending is.sound is.ending in
      ap (λ (r : Reading). r.effects.text) (stream_reads (command_meaning command) s t.sound t.ending (bytes_back (joined s.items) (ending_bytes s.ending) is.bytes) is.near) ∙ t.text

kept_unlisted : (command : Command) (t : Bool) (c : Context) (h : Header) (header_bytes more : List ℕ) → ending_listing command c (kept_ending t h header_bytes more) ≡ []
kept_unlisted command true c h header_bytes more = refl
kept_unlisted command false c h header_bytes more = refl

recut_unlisted : (command : Command) (c : Context) (e : Ending) → ending_listing command c (ending_recut e) ≡ []
recut_unlisted command c NothingMore = refl
recut_unlisted command c (OpenBox h header_bytes more) = kept_unlisted command (is_dropped h.kind.0) c h header_bytes more
recut_unlisted command c (OpenFragment moof h header_bytes more) = refl

pub recut_listed : (command : Command) (cut : Cut) (s : Stream) → IsSoundStream cut s → length (stream_text cut s) ≤ 2 ^ 62
    → (commands.reading command (stream_text cut s)).effects.text ≡ items_listing command (without_index cut) first_context (recut cut s).items
recut_listed command cut s is near =
    let r = recut cut s in
    let listing = items_listing command (without_index cut) first_context r.items in
    ap (λ (b : List ℕ). (commands.reading command b).effects.text) (sym (laws cut s is).join)
    ∙ stream_listed command (without_index cut) r (text_stream cut s is near)
    ∙ ap (λ (x : List ℕ). listing ++ x) (recut_unlisted command (ending_context (without_index cut) r) s.ending)
    ∙ append-nil listing
