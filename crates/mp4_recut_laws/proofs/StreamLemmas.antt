-- The recut text of a stream without a fault.
use Rattle.std.proofs.Common.{◌≡◌, ◌∙◌, ℕ, ◌+◌, ◌≤◌, ◌^◌, Bool, true, false, List, [], ◌∷◌, ◌++◌, length, length-append, append-nil, append_assoc, Option, Some, None, refl, sym, ap, arith, subst}
use Rattle.std.specs.Prelude.{option_map}
use Rattle.std.specs.List.{AllByRecursion}
use Rattle.mp4_box.specs.Headers.{Headed, IsBytes, IsWhole}
use Rattle.mp4_box.specs.declared.headers.Header.{Header}
use Rattle.mp4_init.specs.declared.table.Track.{Track}
use Rattle.mp4_frag.specs.RunLists.{taken_runs}
use Rattle.mp4_traf.specs.Runs.{moof_at}
use Rattle.mp4_pieces.specs.declared.cut.Cut.{Cut}
use Rattle.mp4_cut.specs.Reads.{FitsTrack}
use Rattle.mp4_machine.specs.Readings.{Reading, Sound}
use Rattle.mp4_machine.specs.Readings as readings
use Rattle.mp4_grammar.specs.Contexts.{Context, context, first_context}
use Rattle.mp4_grammar.specs.Items.{reads_in}
use Rattle.mp4_grammar.specs.Joined.{AreSound, Item, Movie, MovieFragment, OneBox, PassedOver, context_after, context_after_all, fragment_here, joined, tracks_in}
use Rattle.mp4_grammar.specs.Meanings.{Meaning}
use Rattle.mp4_grammar.specs.Rests.{Open, ends}
use Rattle.mp4_grammar.proofs.JoinLemmas.{reads-items}
use Rattle.mp4_grammar.proofs.RestLemmas.{rest-reads}
use Rattle.mp4_recut_laws.specs.EachFragment.{EachFragment}
use Rattle.mp4_recut_laws.specs.PieceItems.{IsPieceHere, without_ends}
use Rattle.mp4_recut_laws.specs.Premises.{SameButEnds}
use Rattle.mp4_recut_laws.specs.RecutItems.{items_recut, without_index}
use Rattle.mp4_recut_laws.specs.MediaSamples.{MediaSample, items_samples}
use Rattle.mp4_recut.specs.Splitting.{is_dropped, reading, splitting}
use Rattle.mp4_recut_laws.specs.Streams.{Ending, IsSoundEnding, IsSoundStream, NothingMore, OpenBox, OpenFragment, Stream, ending_context, ending_bytes, ending_samples, ending_text, ending_recut, ending_items, kept_ending, recut, stream_bytes, stream_samples, stream_text}
use Rattle.mp4_recut.specs.Texts.{box_text, items_text}
use Rattle.mp4_recut_laws.proofs.PremiseLemmas.{all_can_be_recut, bytes_back, bytes_front, after_good}
use Rattle.mp4_recut_laws.proofs.ItemLemmas.{items_joined, items_agree, samples_join, same_bytes, same_samples, some_same, sound_join, text_join, after_join}
use Rattle.mp4_recut_laws.proofs.OpenFragmentLemmas.{open_recut, open_runs}
use Rattle.mp4_recut_laws.proofs.PieceListLemmas.{pieces_join}
use Rattle.mp4_recut_laws.proofs.TextLemmas.{joined_append, out_is, runs_joined}

pub after_at : (meaning : Meaning) (c : Context) (is : List Item) → (context_after_all meaning c is).at ≡ c.at + length (joined is)
after_at meaning c [] = omega arith
after_at meaning c (PassedOver b ∷ is) = omega (arith, after_at meaning (context_after meaning c (PassedOver b)) is, length-append b.bytes (joined is))
after_at meaning c (Movie b ∷ is) = omega (arith, after_at meaning (context_after meaning c (Movie b)) is, length-append b.bytes (joined is))
after_at meaning c (MovieFragment moof mdat ∷ is) = omega (arith, after_at meaning (context_after meaning c (MovieFragment moof mdat)) is, length-append (moof.bytes ++ mdat.bytes) (joined is), length-append moof.bytes mdat.bytes)

-- the end, and that of its recut text
record EndingAgrees (cut : Cut) (c d : Context) (e : Ending) : Type 0 where
  sound : AreSound (splitting (without_index cut)) d (ending_items cut c e)
  ending : IsSoundEnding (splitting (without_index cut)) (context_after_all (splitting (without_index cut)) d (ending_items cut c e)) (ending_recut e)
  text : items_text (without_index cut) d (ending_items cut c e) ++ ending_text (without_index cut) (context_after_all (splitting (without_index cut)) d (ending_items cut c e)) (ending_recut e) ≡ ending_text (without_index cut) c e
  same : items_samples (without_index cut) d (ending_items cut c e) ++ ending_samples (context_after_all (splitting (without_index cut)) d (ending_items cut c e)) (ending_recut e) ≡ ending_samples c e
  pieces : EachFragment (IsPieceHere (without_index cut)) (without_index cut) d (ending_items cut c e)
  join : joined (ending_items cut c e) ++ ending_bytes (ending_recut e) ≡ ending_text cut c e

open_lasts : (cut : Cut) (c d : Context) (h : Header) (header_bytes more : List ℕ) (t : Bool) → is_dropped h.kind.0 ≡ t → IsSoundEnding (splitting cut) c (OpenBox h header_bytes more)
    → IsSoundEnding (splitting (without_index cut)) d (kept_ending t h header_bytes more) × (ending_text (without_index cut) d (kept_ending t h header_bytes more) ≡ box_text (is_dropped h.kind.0) (header_bytes ++ more)) × (ending_samples d (kept_ending t h header_bytes more) ≡ []) × (ending_bytes (kept_ending t h header_bytes more) ≡ box_text (is_dropped h.kind.0) (header_bytes ++ more))
open_lasts cut c d h header_bytes more true e s = (tt, ap (λ (t : Bool). box_text t (header_bytes ++ more)) (sym e), refl, ap (λ (t : Bool). box_text t (header_bytes ++ more)) (sym e))
open_lasts cut c d h header_bytes more false e s = (s, refl, refl, ap (λ (t : Bool). box_text t (header_bytes ++ more)) (sym e))

nothing_known : {X : Type 0} → ◌≡◌ {A = Option (List Track)} None (Some []) → X
nothing_known e = absurd cc

nothing_same : {X : Type 0} (ts : List Track) → ◌≡◌ {A = Option (List Track)} None (Some ts) → X
nothing_same ts e = absurd cc

fragment_lasts : (cut : Cut) (at number : ℕ) (o : Option (List Track)) (to now : ℕ) (u : Option (List Track)) (moof : OneBox) (h : Header) (header_bytes more : List ℕ) → now ≡ number → option_map without_ends u ≡ option_map without_ends o
    → IsSoundEnding (splitting cut) (context at o number) (OpenFragment moof h header_bytes more) → IsBytes moof.bytes → at + length moof.bytes + length more ≤ 2 ^ 62 → number ≤ 2 ^ 32 → AllByRecursion FitsTrack (tracks_in (context at o number))
    → EndingAgrees cut (context at o number) (context to u now) (OpenFragment moof h header_bytes more)
fragment_lasts cut at number None to now u moof h header_bytes more n e s moof_bytes room low fit = nothing_known s.2.known
fragment_lasts cut at number (Some tracks) to now None moof h header_bytes more n e s moof_bytes room low fit = nothing_same (without_ends tracks) e
fragment_lasts cut at number (Some tracks) to now (Some us) moof h header_bytes more n e s moof_bytes room low fit =
    let c = context at (Some tracks) number in
    let f = fragment_here c moof.bytes h in
    let whole : IsWhole moof.bytes = (moof.header, s.2.one.payload, s.2.one.is) in
    let again = open_recut cut at number tracks moof.bytes more h s.1.1 whole moof_bytes room fit low s.3 s.4 s.5 to us (some_same (without_ends us) (without_ends tracks) e) in
    let given = open_runs cut at number tracks moof.bytes more h s.1.1 whole moof_bytes room fit low s.3 s.4 s.5 in
    subst (λ (k : ℕ). EndingAgrees cut c (context to (Some us) k) (OpenFragment moof h header_bytes more)) (sym n) (record {
      sound = again.sound;
      ending = tt;
      text = append-nil _ ∙ (again.text ∙ out_is cut moof.bytes f.payload.start more tracks tracks number (taken_runs (moof_at moof.bytes at) tracks) given);
      same = append-nil _ ∙ again.same;
      pieces = again.pieces;
      join = append-nil _ ∙ runs_joined cut moof.bytes f.payload.start more tracks tracks number (taken_runs (moof_at moof.bytes at) tracks) given;
    })

ending_agrees : (cut : Cut) (c d : Context) (e : Ending) → SameButEnds c d → IsSoundEnding (splitting cut) c e → IsBytes (ending_bytes e) → c.at + length (ending_bytes e) ≤ 2 ^ 62 → c.number ≤ 2 ^ 32 → AllByRecursion FitsTrack (tracks_in c) → EndingAgrees cut c d e
ending_agrees cut c d NothingMore a s moof_bytes room low fit = record { sound = tt; ending = tt; text = refl; same = refl; pieces = tt; join = refl }
ending_agrees cut c d (OpenBox h header_bytes more) a s moof_bytes room low fit =
    let o = open_lasts cut c d h header_bytes more (is_dropped h.kind.0) refl s in
    record { sound = tt; ending = o.0; text = o.1; same = o.2; pieces = tt; join = o.3 }
ending_agrees cut c d (OpenFragment moof h header_bytes more) a s moof_bytes room low fit =
    fragment_lasts cut c.at c.number c.tracks d.at d.number d.tracks moof h header_bytes more a.number a.tracks s (bytes_front moof.bytes (header_bytes ++ more) moof_bytes) (omega (arith, room, length-append moof.bytes (header_bytes ++ more), length-append header_bytes more)) low fit

-- ---- the laws

pub record Laws (cut : Cut) (s : Stream) : Type 0 where
  pub join : stream_bytes (recut cut s) ≡ stream_text cut s
  pub sound : AreSound (splitting (without_index cut)) first_context (recut cut s).items
  pub ending : IsSoundEnding (splitting (without_index cut)) (ending_context (without_index cut) (recut cut s)) (recut cut s).ending
  pub text : stream_text (without_index cut) (recut cut s) ≡ stream_text (without_index cut) s
  pub same : stream_samples (without_index cut) (recut cut s) ≡ stream_samples cut s
  pub pieces : EachFragment (IsPieceHere (without_index cut)) (without_index cut) first_context (recut cut s).items

pub laws : (cut : Cut) (s : Stream) → IsSoundStream cut s → Laws cut s
laws cut s is =
    let meaning = splitting (without_index cut) in
    let c = ending_context cut s in
    let front = bytes_front (joined s.items) (ending_bytes s.ending) is.bytes in
    let len = length-append (joined s.items) (ending_bytes s.ending) in
    let fine = all_can_be_recut cut first_context s.items is.sound front (omega (arith, is.near, len)) (omega arith) tt in
    let good = after_good cut first_context s.items is.sound front (omega (arith, is.near, len)) (omega arith) tt in
    let survive = items_agree cut first_context first_context s.items (record { number = refl; tracks = refl }) is.sound fine in
    let now = items_recut cut first_context s.items in
    let d = context_after_all meaning first_context now in
    let last = ending_agrees cut c d s.ending survive.same_tracks is.ending (bytes_back (joined s.items) (ending_bytes s.ending) is.bytes) (omega (arith, is.near, len, after_at (splitting cut) first_context s.items)) good.0 good.1 in
    let more = ending_items cut c s.ending in
    let there = after_join (without_index cut) first_context now more in
    record {
      join = ap (λ (x : List ℕ). x ++ ending_bytes (ending_recut s.ending)) (joined_append now more) ∙ (append_assoc (joined now) (joined more) (ending_bytes (ending_recut s.ending)) ∙ same_bytes _ _ _ _ (items_joined cut first_context s.items is.sound fine) last.join);
      sound = sound_join (without_index cut) first_context now more survive.sound last.sound;
      ending = subst (λ (x : Context). IsSoundEnding meaning x (ending_recut s.ending)) (sym there) last.ending;
      text =
          ap (λ (x : List ℕ). x ++ ending_text (without_index cut) (context_after_all meaning first_context (now ++ more)) (ending_recut s.ending)) (text_join (without_index cut) first_context now more)
          ∙ (ap (λ (x : Context). (items_text (without_index cut) first_context now ++ items_text (without_index cut) d more) ++ ending_text (without_index cut) x (ending_recut s.ending)) there
          ∙ (append_assoc (items_text (without_index cut) first_context now) (items_text (without_index cut) d more) _
          ∙ same_bytes _ _ _ _ survive.text last.text));
      same =
          ap (λ (x : List MediaSample). x ++ ending_samples (context_after_all meaning first_context (now ++ more)) (ending_recut s.ending)) (samples_join (without_index cut) first_context now more)
          ∙ (ap (λ (x : Context). (items_samples (without_index cut) first_context now ++ items_samples (without_index cut) d more) ++ ending_samples x (ending_recut s.ending)) there
          ∙ (append_assoc (items_samples (without_index cut) first_context now) (items_samples (without_index cut) d more) _
          ∙ same_samples _ _ _ _ survive.same last.same));
      pieces = pieces_join (without_index cut) first_context now more survive.pieces last.pieces;
    }

-- ---- it is read without a fault

-- a stream of whole items and an open box, or none, in a context
open_ends : (meaning : Meaning) (c : Context) (e : Ending) → IsSoundEnding meaning c (ending_recut e) → IsBytes (ending_bytes (ending_recut e)) → c.at + length (ending_bytes (ending_recut e)) ≤ 2 ^ 62 → (reads_in meaning c (ending_bytes (ending_recut e))).outcome ≡ Sound
unfolding readings.read_all
open_ends meaning c NothingMore s moof_bytes room = refl
open_ends meaning c (OpenFragment moof h header_bytes more) s moof_bytes room = refl
open_ends meaning c (OpenBox h header_bytes more) s moof_bytes room = by (is_dropped h.kind.0) s moof_bytes room
  where
    by : (t : Bool) → IsSoundEnding meaning c (kept_ending t h header_bytes more) → IsBytes (ending_bytes (kept_ending t h header_bytes more)) → c.at + length (ending_bytes (kept_ending t h header_bytes more)) ≤ 2 ^ 62 → (reads_in meaning c (ending_bytes (kept_ending t h header_bytes more))).outcome ≡ Sound
    by true s moof_bytes room = refl
    by false s moof_bytes room =
        let b : Headed (header_bytes ++ more) = record { header = h; header_bytes = header_bytes; more = more; spelled = s.0; cut = refl } in
        ap (λ (r : Reading). r.outcome) (rest-reads meaning c (header_bytes ++ more) (ends (meaning.passed h.kind (header_bytes ++ more)) Sound) moof_bytes (Open b s.1 room refl))

last_bytes : (e : Ending) → IsBytes (ending_bytes e) → IsBytes (ending_bytes (ending_recut e))
last_bytes NothingMore moof_bytes = moof_bytes
last_bytes (OpenFragment moof h header_bytes more) moof_bytes = bytes_front [] (moof.bytes ++ (header_bytes ++ more)) moof_bytes
last_bytes (OpenBox h header_bytes more) moof_bytes = by (is_dropped h.kind.0)
  where
    by : (t : Bool) → IsBytes (ending_bytes (kept_ending t h header_bytes more))
    by true = bytes_front [] (header_bytes ++ more) moof_bytes
    by false = moof_bytes

pub text_reads : (cut : Cut) (s : Stream) → IsSoundStream cut s → length (stream_text cut s) ≤ 2 ^ 62 → (reading (without_index cut) (stream_text cut s)).outcome ≡ Sound
text_reads cut s is room =
    let l = laws cut s is in
    let meaning = splitting (without_index cut) in
    let r = recut cut s in
    let e = ending_bytes r.ending in
    let len = length-append (joined r.items) e in
    let near = ap length l.join in
    let at = after_at meaning first_context r.items in
    ap (λ (b : List ℕ). (reading (without_index cut) b).outcome) (sym l.join)
    ∙ (ap (λ (x : Reading). x.outcome) (reads-items meaning r.items first_context e l.sound (omega (arith, room, near, len)))
    ∙ open_ends meaning (ending_context (without_index cut) r) s.ending l.ending (last_bytes s.ending (bytes_back (joined s.items) (ending_bytes s.ending) is.bytes)) (omega (arith, room, near, len, at)))
