-- What a recut reads without a fault, an operation that refuses no fragment reads without one.
use Rattle.std.proofs.Common.{◌≡◌, ◌∙◌, ℕ, List, Option, None, ap}
use Rattle.std.specs.Option.{option_or}
use Rattle.mp4_box.specs.declared.headers.Header.{Header}
use Rattle.mp4_box.specs.declared.rules.Fault.{Fault}
use Rattle.mp4_init.specs.declared.table.Track.{Track}
use Rattle.mp4_init.proofs.MoovLemmas.{first_none}
use Rattle.mp4_frag.specs.Moofs.{moof_runs}
use Rattle.mp4_frag.specs.Places.{place_fault}
use Rattle.mp4_traf.specs.Runs.{moof_at}
use Rattle.mp4_pieces.specs.declared.cut.Cut.{Cut}
use Rattle.mp4_pieces.specs.Rooms.{room_fault}
use Rattle.mp4_grammar.specs.Contexts.{context}
use Rattle.mp4_grammar.specs.Joined.{IsGood, IsMoofHere, IsMoovHere, OneBox, fragment_here, listed}
use Rattle.mp4_grammar.specs.Meanings.{Fragment, Meaning}
use Rattle.mp4_recut.specs.Splitting.{splitting}
use Rattle.mp4_recut_laws.specs.Streams.{Ending, IsSoundEnding, NothingMore, OpenBox, OpenFragment}

pub moof_here : (at : ℕ) (o : Option (List Track)) (n m : ℕ) (b : OneBox) → IsMoofHere (context at o m) b → IsMoofHere (context at o n) b
moof_here at o n m b s = record { one = s.one; known = s.known; small = s.small }

pub moov_here : (at : ℕ) (o : Option (List Track)) (n m : ℕ) (b : OneBox) → IsMoovHere (context at o m) b → IsMoovHere (context at o n) b
moov_here at o n m b s = record { one = s.one; none = s.none; small = s.small }

module _ (cut : Cut) (meaning : Meaning) (refuses : (f : Fragment) → meaning.refuses f ≡ None) where
  pub good : (at : ℕ) (o : Option (List Track)) (n m : ℕ) (x : List ℕ) (h : Header) → IsGood (splitting cut) (context at o m) x h → IsGood meaning (context at o n) x h
  good at o n m x h g =
      let f = fragment_here (context at o m) x h in
      let runs = moof_runs (moof_at x at) (listed o) in
      ap (λ (e : Option Fault). option_or e (meaning.refuses (fragment_here (context at o n) x h))) (first_none (place_fault f.payload runs) (room_fault cut (moof_at x at) runs m) g).0
      ∙ refuses (fragment_here (context at o n) x h)

  pub ending_sound : (at : ℕ) (o : Option (List Track)) (n m : ℕ) (e : Ending) → IsSoundEnding (splitting cut) (context at o m) e → IsSoundEnding meaning (context at o n) e
  ending_sound at o n m NothingMore s = s
  ending_sound at o n m (OpenBox h header_bytes more) s = s
  ending_sound at o n m (OpenFragment moof h header_bytes more) s = (s.0, s.1, moof_here at o n m moof s.2, s.3, good at o n m moof.bytes h s.4, s.5)
