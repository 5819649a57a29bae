-- Effects without their text: what boxes request, and what is counted.
use Rattle.std.specs.Prelude.{◌≡◌, ℕ, List, [], map}
use Rattle.mp4_box.specs.declared.headers.FourCc.{FourCc}
use Rattle.mp4_machine.specs.Readings.{Request, Reading, Effects}
use Rattle.mp4_grammar.specs.Meanings.{Fragment, Meaning}

-- the request of a box, with no text before it
abbrev pub request_without_text : Request → Request
request_without_text a = record { at = a.at; sum = a.sum; text_before = 0; counted = a.counted }

-- without text no fragment ends in it
abbrev pub effects_without_text : Effects → Effects
effects_without_text t = record { text = []; requests = map request_without_text t.requests; fragment_ends = []; tally = t.tally }

abbrev pub without_text : Reading → Reading
without_text r = record { effects = effects_without_text r.effects; outcome = r.outcome }

-- an operation that reads each stream as `make` does, but writes no text
pub record IsWithoutText (meaning no_effects : Meaning) : Type 0 where
  pub of_moov : (x : List ℕ) → no_effects.of_moov x ≡ []
  pub passed : (kind : FourCc) (b : List ℕ) → no_effects.passed kind b ≡ effects_without_text (meaning.passed kind b)
  pub refuses : (f : Fragment) → no_effects.refuses f ≡ meaning.refuses f
  pub accepted : (f : Fragment) → no_effects.accepted f ≡ effects_without_text (meaning.accepted f)
  pub media : (f : Fragment) (b : List ℕ) → no_effects.media f b ≡ effects_without_text (meaning.media f b)
  pub numbered : (f : Fragment) → no_effects.numbered f ≡ meaning.numbered f
