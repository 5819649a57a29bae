-- The laws over the bytes of a stream alone.
use Rattle.std.proofs.Common.{◌≡◌, ◌∙◌, ℕ, ◌≤◌, ◌^◌, false, Bool, List, length, sym, ap, subst}
use Rattle.std.specs.List.{flat_map}
use Rattle.mp4_box.specs.Headers.{IsBytes}
use Rattle.mp4_pieces.specs.declared.cut.Cut.{Cut}
use Rattle.mp4_machine.specs.Readings.{Sound}
use Rattle.mp4_grammar.specs.Joined.{joined}
use Rattle.mp4_recut.specs.Splitting.{reading}
use Rattle.mp4_recut_laws.specs.RecutItems.{without_index}
use Rattle.mp4_recut_laws.specs.MediaSamples.{MediaSample}
use Rattle.mp4_recut_laws.specs.Streams.{IsSoundStream, IsWellFormed, Stream, ending_bytes, recut, stream_bytes, stream_samples, stream_text}
use Rattle.mp4_recut_laws.specs.RecutText.{recut_text, reported_by}
use Rattle.mp4_recut_laws.proofs.ByteLemmas.{text_bytes}
use Rattle.mp4_recut_laws.proofs.PremiseLemmas.{bytes_back}
use Rattle.mp4_recut_laws.proofs.WithoutIndexLemmas.{stream_without_index}
use Rattle.mp4_recut_laws.proofs.EveryStreamLemmas.{every_sound_stream}
use Rattle.mp4_recut_laws.proofs.StreamLemmas.{laws, text_reads}
use Rattle.mp4_recut_laws.proofs.SameSampleLemmas.{same_samples}
use Rattle.mp4_recut_laws.proofs.ReportLemmas.{stream_reported_by}
use Rattle.mp4_recut_laws.proofs.ReadStreamLemmas.{recut_text_of_a_stream}

-- the recut text of a stream is that of a stream too
pub text_stream : (cut : Cut) (s : Stream) → IsSoundStream cut s → length (stream_text cut s) ≤ 2 ^ 62 → IsSoundStream (without_index cut) (recut cut s)
text_stream cut s is near =
    let l = laws cut s is in
    record {
      sound = l.sound;
      ending = l.ending;
      bytes = subst IsBytes (sym l.join) (text_bytes cut s is);
      near = subst (λ (x : List ℕ). length x ≤ 2 ^ 62) (sym l.join) near;
    }

pub text_recut : (cut : Cut) (s : Stream) → IsSoundStream cut s → length (stream_text cut s) ≤ 2 ^ 62 → recut_text (without_index cut) (stream_text cut s) ≡ recut_text (without_index cut) (stream_bytes s)
text_recut cut s is near =
    ap (recut_text (without_index cut)) (sym (laws cut s is).join)
    ∙ (recut_text_of_a_stream (without_index cut) (recut cut s) (text_stream cut s is near)).text
    ∙ (laws cut s is).text
    ∙ sym (recut_text_of_a_stream (without_index cut) s (stream_without_index cut s is)).text

pub reported_by_samples : (cut : Cut) (s : Stream) (report : MediaSample → List ℕ) → IsSoundStream cut s → reported_by report (stream_bytes s) ≡ flat_map report (stream_samples cut s)
reported_by_samples cut s report is = stream_reported_by report cut s is.sound is.ending (bytes_back (joined s.items) (ending_bytes s.ending) is.bytes) is.near

samples_agree : (cut : Cut) (s : Stream) (report : MediaSample → List ℕ) → IsSoundStream cut s → length (stream_text cut s) ≤ 2 ^ 62 → reported_by report (stream_text cut s) ≡ reported_by report (stream_bytes s)
samples_agree cut s report is near =
    ap (reported_by report) (sym (laws cut s is).join)
    ∙ reported_by_samples (without_index cut) (recut cut s) report (text_stream cut s is near)
    ∙ ap (flat_map report) (laws cut s is).same
    ∙ sym (reported_by_samples cut s report is)

-- ---- by the bytes alone

pub record TextLaws (cut : Cut) (b : List ℕ) : Type 0 where
  pub bytes : IsBytes (recut_text cut b)
  pub sound : length (recut_text cut b) ≤ 2 ^ 62 → (reading (without_index cut) (recut_text cut b)).outcome ≡ Sound
  pub again : length (recut_text cut b) ≤ 2 ^ 62 → recut_text (without_index cut) (recut_text cut b) ≡ recut_text (without_index cut) b
  pub samples : (report : MediaSample → List ℕ) → length (recut_text cut b) ≤ 2 ^ 62 → reported_by report (recut_text cut b) ≡ reported_by report b

text_laws_of : (cut : Cut) (s : Stream) (x : List ℕ) → IsSoundStream cut s → stream_text cut s ≡ x → IsBytes x × (length x ≤ 2 ^ 62 → (reading (without_index cut) x).outcome ≡ Sound) × (length x ≤ 2 ^ 62 → recut_text (without_index cut) x ≡ recut_text (without_index cut) (stream_bytes s)) × ((report : MediaSample → List ℕ) → length x ≤ 2 ^ 62 → reported_by report x ≡ reported_by report (stream_bytes s))
text_laws_of cut s x is e =
    subst (λ (x : List ℕ). IsBytes x × (length x ≤ 2 ^ 62 → (reading (without_index cut) x).outcome ≡ Sound) × (length x ≤ 2 ^ 62 → recut_text (without_index cut) x ≡ recut_text (without_index cut) (stream_bytes s)) × ((report : MediaSample → List ℕ) → length x ≤ 2 ^ 62 → reported_by report x ≡ reported_by report (stream_bytes s))) e
    (text_bytes cut s is, text_reads cut s is, text_recut cut s is, λ report near. samples_agree cut s report is near)

pub text_laws : (cut : Cut) (b : List ℕ) → IsBytes b → (reading cut b).outcome ≡ Sound → TextLaws cut b
text_laws cut b moof_bytes sound =
    let found = every_sound_stream cut b moof_bytes sound in
    let s = found.0 in
    let r = text_laws_of cut s (recut_text cut (stream_bytes s)) found.1 (sym (recut_text_of_a_stream cut s found.1).text) in
    subst (TextLaws cut) found.2 (record { bytes = r.0; sound = r.1; again = r.2; samples = r.3 })

pub text_of_stream : (cut : Cut) (b : List ℕ) → IsBytes b → (reading cut b).outcome ≡ Sound → (s : Stream) × IsSoundStream cut s × (stream_bytes s ≡ b) × (recut_text cut b ≡ stream_text cut s)
text_of_stream cut b moof_bytes sound =
    let found = every_sound_stream cut b moof_bytes sound in
    (found.0, found.1, found.2, ap (recut_text cut) (sym found.2) ∙ (recut_text_of_a_stream cut found.0 found.1).text)

-- without an index the text is exactly its own
pub own_recut : (cut : Cut) (b : List ℕ) → cut.index ≡ false → IsBytes b → (reading cut b).outcome ≡ Sound → length (recut_text cut b) ≤ 2 ^ 62 → recut_text cut (recut_text cut b) ≡ recut_text cut b
own_recut cut b e moof_bytes sound near =
    let same : without_index cut ≡ cut = ap (λ (t : Bool). record cut { index = t }) (sym e) in
    subst (λ (d : Cut). recut_text d (recut_text cut b) ≡ recut_text d b) same ((text_laws cut b moof_bytes sound).again near)

-- ---- the same samples, as a list

pub well_formed : (cut : Cut) (s : Stream) → IsSoundStream cut s → IsWellFormed (without_index cut) (recut cut s)
well_formed cut s is =
    let l = laws cut s is in
    record { sound = l.sound; ending = l.ending; bytes = subst IsBytes (sym l.join) (text_bytes cut s is) }

pub samples_stay : (cut : Cut) (b : List ℕ) → IsBytes b → (reading cut b).outcome ≡ Sound
    → (s : Stream) × IsSoundStream cut s × (stream_bytes s ≡ b) × IsWellFormed (without_index cut) (recut cut s) × (stream_bytes (recut cut s) ≡ recut_text cut b) × (stream_samples (without_index cut) (recut cut s) ≡ stream_samples cut s)
samples_stay cut b moof_bytes sound =
    let (s, is, bytes, text) = text_of_stream cut b moof_bytes sound in
    (s, is, bytes, well_formed cut s is, (laws cut s is).join ∙ sym text, (laws cut s is).same)

-- however a stream and its text are taken apart
pub one_list : (cut : Cut) (b : List ℕ) (s t : Stream) → IsBytes b → (reading cut b).outcome ≡ Sound → length (recut_text cut b) ≤ 2 ^ 62 → IsSoundStream cut s → stream_bytes s ≡ b → IsSoundStream (without_index cut) t → stream_bytes t ≡ recut_text cut b
    → stream_samples (without_index cut) t ≡ stream_samples cut s
one_list cut b s t moof_bytes sound near is e are f =
    same_samples (stream_samples (without_index cut) t) (stream_samples cut s)
    (λ report. sym (reported_by_samples (without_index cut) t report are) ∙ ap (reported_by report) f ∙ (text_laws cut b moof_bytes sound).samples report near ∙ ap (reported_by report) (sym e) ∙ reported_by_samples cut s report is)
