-- Where a machine keeps the media of a fragment that was begun.
use Rattle.std.proofs.Common.{◌≡◌, ◌∙◌, ℕ, ◌+◌, ◌-◌, ◌*◌, ◌≤◌, List, [], length, Option, Some, ap, refl, sym, arith, subst}
use Rattle.mp4_box.specs.declared.headers.Header.{Header}
use Rattle.mp4_box.specs.declared.headers.Size.{Size}
use Rattle.mp4_box.specs.declared.headers.Size.TheVariants.{Exact, ToEnd}
use Rattle.mp4_init.specs.declared.table.Track.{Track}
use Rattle.mp4_frag.specs.Moofs.{moof_trafs}
use Rattle.mp4_traf.specs.Settling.{settled}
use Rattle.mp4_pieces.specs.declared.cut.Cut.{Cut}
use Rattle.mp4_machine.specs.Bodies.{HasBytes, extent_of, latest_end, left_of, longest}
use Rattle.mp4_machine.specs.Inputs.{Continuation, Environment, GoesOn, Moves}
use Rattle.mp4_machine.specs.Readings.{no_effects}
use Rattle.mp4_machine.proofs.InputLemmas.{GoesOn-none}
use Rattle.mp4_grammar.specs.Contexts.{context}
use Rattle.mp4_grammar.specs.Meanings.{Meaning, needed_in}
use Rattle.mp4_recut.specs.Cursors.{fragments_left}
use Rattle.mp4_recut.specs.Media.{NoHeadIsReady, Rises, output_from, media_position}
use Rattle.mp4_recut.specs.Splitting.{splitting}
use Rattle.mp4_recut.specs.declared.media.Media.{Media}
use Rattle.mp4_recut.specs.declared.operation.Operation.TheVariants as operations
use Rattle.mp4_fragment_machine.specs.Places.{InBody, InHeader, InOpenBody, Place, continuation_at}
use Rattle.mp4_fragment_machine.proofs.MdatHeaderLemmas.{claimed_after}
use Rattle.mp4_fragment_machine.proofs.RecutLemmas.{GoesOn-recut_over}
use Rattle.mp4_grammar.specs.Items.{end_of, with_runs}
use Rattle.mp4_fragment_machine.specs.Implementation.Splits.{in_begun}
use Rattle.mp4_fragment_machine.specs.Implementation.Recuts.{in_media, recut_fragment}
use Rattle.mp4_fragment_machine.specs.States.{IsPendingMoof, RisesIn, claimed_in, known, moof_in, place_of}
use Rattle.mp4_fragment_machine.specs.declared.state.Recutting.{Recutting}
use Rattle.mp4_fragment_machine.specs.declared.state.State.TheVariants as states
use Rattle.mp4_fragment_machine.specs.declared.pending_moof.PendingMoof.{PendingMoof}

-- the same place
pub GoesOn-same : (meaning : Meaning) (o : Environment) (p q : Place) → p ≡ q → GoesOn o o (continuation_at meaning p) [] (continuation_at meaning q)
GoesOn-same meaning o p q e = subst (λ r. GoesOn o o (continuation_at meaning p) [] (continuation_at meaning r)) e (GoesOn-none o (continuation_at meaning p))

module _ (cut : Cut) (w : PendingMoof) (tracks : List Track) (number n : ℕ) (m : Media) (at : ℕ) (h : Header) where
  abbrev own : ℕ
  own = claimed_in (Some tracks) (Some w)

  abbrev ends : List Track
  ends = settled tracks (moof_trafs (moof_in w) tracks)

  -- where its media are begun
  abbrev pub begun_at : Size → Place
  begun_at size = in_media cut (recut_fragment w tracks number h) (media_position cut (moof_in w) tracks (at + h.header_len) n m) at h own size

  -- so it is by the tracks that are known, where the mdat follows the moof
  pub begun_known : (ts : Option (List Track)) (o o' : Environment) (q : Continuation) → ts ≡ Some tracks → IsPendingMoof ts w → at ≡ w.moof.at + length w.moof.bytes → GoesOn o o' (continuation_at (splitting cut) (begun_at h.size)) [] q
      → GoesOn o o' (continuation_at (splitting cut) (in_begun cut (recut_fragment w (known ts) number h) w h n m)) [] q
  begun_known ts o o' q e i there g =
      let f = recut_fragment w tracks number h in
      let after = w.moof.at + length w.moof.bytes in
      let all : with_runs (context w.moof.at (Some tracks) number) tracks w.moof.bytes ≡ own = claimed_after number w (Some tracks) (subst (λ t. IsPendingMoof t w) e i) [] in
      let moved = subst (λ k. GoesOn o o' (continuation_at (splitting cut) (in_media cut f (media_position cut (moof_in w) tracks (k + h.header_len) n m) k h own h.size)) [] q) there g in
      let claimed = subst (λ k. GoesOn o o' (continuation_at (splitting cut) (in_media cut f (media_position cut (moof_in w) tracks (after + h.header_len) n m) after h k h.size)) [] q) (sym all) moved in
      subst (λ t. GoesOn o o' (continuation_at (splitting cut) (in_begun cut (recut_fragment w (known t) number h) w h n m)) [] q) (sym e) claimed

  -- the state there, by how many bytes of the mdat are needed
  abbrev pub begun_media : ℕ → Size → Recutting
  begun_media needed size = record { body = record { at = at; kind = h.kind; left = left_of at h size; extent = extent_of at needed size }; media = m; pending_moof = w }

  -- in an mdat that states its size
  media_begins : (s needed : ℕ) → h.header_len ≤ s → n + length (fragments_left cut (moof_in w) tracks n m.later) ≡ (splitting cut).numbered (recut_fragment w tracks number h)
      → begun_at (Exact s) ≡ place_of (operations.Split cut) n (Some tracks) [] (states.Media (begun_media needed (Exact s)))
  media_begins s needed room e =
      let start : at + h.header_len ≡ at + s - (s - h.header_len) = omega (arith, room) in
      ap (λ k. InBody (output_from (media_position cut (moof_in w) tracks k n m)) at h.kind (context (at + s) (Some ends) ((splitting cut).numbered (recut_fragment w tracks number h))) (s - h.header_len) own) start
      ∙ ap (λ k. InBody (output_from (media_position cut (moof_in w) tracks (at + s - (s - h.header_len)) n m)) at h.kind (context (at + s) (Some ends) k) (s - h.header_len) own) (sym e)

  -- in one without a payload: it is done
  pub media_over : (s : ℕ) (size : Size) (ts : List Track) (o o' : Environment) → size ≡ Exact s → s ≤ h.header_len → (splitting cut).numbered (recut_fragment w tracks number h) ≡ n → ts ≡ ends
      → NoHeadIsReady (media_position cut (moof_in w) tracks (at + h.header_len) n m) → Moves o o' own (64 * length ends) no_effects
      → GoesOn o o' (continuation_at (splitting cut) (begun_at size)) [] (continuation_at (splitting cut) (place_of (operations.Split cut) n (Some ts) [] (states.Header (at + s))))
  media_over s size ts o o' is none e same all moves =
      let meaning = splitting cut in
      let goes : GoesOn o o' (continuation_at meaning (begun_at (Exact s))) [] (continuation_at meaning (InHeader (context (at + s) (Some ends) ((splitting cut).numbered (recut_fragment w tracks number h))) [])) =
      GoesOn-recut_over meaning at h.kind o o' (media_position cut (moof_in w) tracks (at + h.header_len) n m) (context (at + s) (Some ends) ((splitting cut).numbered (recut_fragment w tracks number h))) (s - h.header_len) own all (omega (arith, none)) moves in
      let numbered = subst (λ k. GoesOn o o' (continuation_at meaning (begun_at (Exact s))) [] (continuation_at meaning (InHeader (context (at + s) (Some ends) k) []))) e goes in
      let tracked = subst (λ l. GoesOn o o' (continuation_at meaning (begun_at (Exact s))) [] (continuation_at meaning (InHeader (context (at + s) (Some l) n) []))) (sym same) numbered in
      subst (λ z. GoesOn o o' (continuation_at meaning (begun_at z)) [] (continuation_at meaning (InHeader (context (at + s) (Some ts) n) []))) (sym is) tracked

  -- within a body that goes to the end of the stream
  open_begins : (needed : ℕ) → at + h.header_len ≤ longest → needed ≡ needed_in (recut_fragment w tracks number h)
      → begun_at ToEnd ≡ place_of (operations.Split cut) n (Some tracks) [] (states.Media (begun_media needed ToEnd))
  open_begins needed near e =
      let start : at + h.header_len ≡ longest - (longest - (at + h.header_len)) = omega (arith, near) in
      ap (λ k. InOpenBody (output_from (media_position cut (moof_in w) tracks k n m)) at h.kind (needed_in (recut_fragment w tracks number h)) (longest - (at + h.header_len)) own) start
      ∙ ap (λ k. InOpenBody (output_from (media_position cut (moof_in w) tracks (longest - (longest - (at + h.header_len))) n m)) at h.kind k (longest - (at + h.header_len)) own) (sym e)

  -- by the stated size
  pub recut_begins : (needed : ℕ) (size : Size) → HasBytes at h size → n + length (fragments_left cut (moof_in w) tracks n m.later) ≡ (splitting cut).numbered (recut_fragment w tracks number h) → needed ≡ needed_in (recut_fragment w tracks number h)
      → begun_at size ≡ place_of (operations.Split cut) n (Some tracks) [] (states.Media (begun_media needed size))
  recut_begins needed (Exact s) some numbers e = media_begins s needed (omega (arith, some.0)) numbers
  recut_begins needed ToEnd near numbers e = open_begins needed near e

  -- the rest of its media ends within it
  pub recut_rises : (needed : ℕ) (size : Size) → HasBytes at h size → ((end : ℕ) → end_of at size ≡ Some end → Rises end (media_position cut (moof_in w) tracks (at + h.header_len) n m))
      → RisesIn (extent_of at needed size) (media_position cut (moof_in w) tracks (latest_end (extent_of at needed size) - left_of at h size) n m)
  recut_rises needed (Exact s) some rises =
      let start : at + h.header_len ≡ at + s - (s - h.header_len) = omega (arith, some.0) in
      subst (λ k. Rises (at + s) (media_position cut (moof_in w) tracks k n m)) start (rises (at + s) refl)
  recut_rises needed ToEnd near rises = tt
