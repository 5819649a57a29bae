-- The end of the stream at the place of a machine: it has no further effects, and no fault was decided before it.
use Rattle.std.proofs.Common.{◌≡◌, ◌∙◌, ℕ, zero, suc, ◌+◌, ◌^◌, ◌<◌, ◌≤◌, List, [], ◌∷◌, ◌++◌, length, Option, None, Some, append-nil, length-append, ap, refl, arith}
use Rattle.mp4_box.specs.declared.headers.FourCc.{FourCc}
use Rattle.mp4_box.specs.declared.rules.Rule.TheVariants.{MdatMissing, Truncated}
use Rattle.mp4_box.specs.Headers.{kind_of, need}
use Rattle.mp4_box.proofs.HeaderLemmas.{need-most}
use Rattle.mp4_init.specs.declared.table.Track.{Track}
use Rattle.mp4_machine.specs.Bodies.{IsLeft, cut_off, fault}
use Rattle.mp4_machine.specs.Inputs.{Continuation, HasNoEffects}
use Rattle.mp4_machine.specs.Readings.{CutOff, Reading, Sound, Effects, decided_in, fault_in, empty_reading, no_effects, says, then_read}
use Rattle.mp4_machine.specs.declared.body.Extent.{Extent}
use Rattle.mp4_machine.specs.declared.body.Extent.TheVariants as extents
use Rattle.mp4_machine.proofs.BodyLemmas.{body-none, nat_lt_false, nat_lt_true}
use Rattle.mp4_grammar.specs.Contexts.{Context, table_of}
use Rattle.mp4_grammar.specs.Items.{after_moof, reads_in}
use Rattle.mp4_grammar.specs.Kinds.{moof}
use Rattle.mp4_grammar.specs.Meanings.{Meaning}
use Rattle.mp4_fragment_machine.specs.Places.{InBody, InHeader, InBuffered, InMdatHeader, InOpenBody, IsPlace, Place, continuation_at, reached_of, reads_at}
use Rattle.mp4_recut.proofs.MediaLemmas.{output_from-quiet}
use Rattle.mp4_recut.specs.Media.{output_from}
use Rattle.mp4_recut.specs.declared.operation.Operation.{Operation}
use Rattle.mp4_recut.specs.declared.operation.Operation.TheVariants as operations
use Rattle.mp4_fragment_machine.specs.States.{IsState, claimed_in, in_extent, number_after, place_of, position_in, tracks_after}
use Rattle.mp4_fragment_machine.specs.declared.state.State.{State}
use Rattle.mp4_fragment_machine.specs.declared.state.State.TheVariants as states
use Rattle.mp4_fragment_machine.proofs.HeadLemmas.{reads-more, reads-none}
use Rattle.mp4_fragment_machine.proofs.SecondLemmas.{after-more, after-none}

-- ---- what is read where no byte follows

module _ (meaning : Meaning) where
  header-ended : (c : Context) (buffered : List ℕ) → 0 < length buffered → length buffered < need buffered → reads_at meaning (InHeader c buffered) [] ≡ cut_off Truncated (kind_of buffered) c.at
  header-ended c buffered some short = ap (reads_in meaning c) (append-nil buffered) ∙ reads-more meaning c buffered some short

  held-ended : (c : Context) (kind : FourCc) (size : ℕ) (buffered : List ℕ) → length buffered < size → reads_at meaning (InBuffered c kind size buffered) [] ≡ cut_off Truncated (Some kind) c.at
  held-ended c kind size buffered short = rw (nat_lt_true (length (buffered ++ [])) size (omega (arith, length-append buffered [], short))) refl

  after-ended : (c : Context) (tracks : List Track) (m buffered : List ℕ) → 0 < length buffered → length buffered < need buffered → reads_at meaning (InMdatHeader c tracks m buffered) [] ≡ cut_off Truncated (kind_of buffered) (c.at + length m)
  after-ended c tracks m buffered some short = ap (then_read (reads_in meaning)) (ap (after_moof meaning c tracks m) (append-nil buffered) ∙ after-more meaning c tracks m buffered some short)

  after-missing : (c : Context) (tracks : List Track) (m : List ℕ) → reads_at meaning (InMdatHeader c tracks m []) [] ≡ cut_off MdatMissing (Some moof) c.at
  after-missing c tracks m = ap (then_read (reads_in meaning)) (after-none meaning c tracks m)

  body-ended : (emit : List ℕ → Effects) (at : ℕ) (kind : FourCc) (next : Context) (left own : ℕ) → 0 < left → reads_at meaning (InBody emit at kind next left own) [] ≡ record { effects = emit []; outcome = CutOff (fault Truncated (Some kind) at) }
  body-ended emit at kind next left own some = body-none (reads_in meaning) at kind next emit left some

  open-ended : (emit : List ℕ → Effects) (at : ℕ) (kind : FourCc) (needed left own : ℕ) → needed ≡ 0 → reads_at meaning (InOpenBody emit at kind needed left own) [] ≡ record { effects = emit []; outcome = Sound }
  open-ended emit at kind needed left own none = rw (nat_lt_false left 0 (omega arith), nat_lt_false 0 needed (omega (arith, none))) refl

  open-short : (emit : List ℕ → Effects) (at : ℕ) (kind : FourCc) (needed left own : ℕ) → 0 < needed → reads_at meaning (InOpenBody emit at kind needed left own) [] ≡ record { effects = emit []; outcome = CutOff (fault Truncated (Some kind) at) }
  open-short emit at kind needed left own some = rw (nat_lt_false left 0 (omega arith), nat_lt_true 0 needed some) refl

-- ---- the fault of a stream that ends there (in a header: `ends-header` and `ends-none` of HeadLemmas)

module _ (meaning : Meaning) where
  pub ends-after : (c : Context) (tracks : List Track) (m buffered : List ℕ) → 0 < length buffered → length buffered < need buffered → fault_in (reads_at meaning (InMdatHeader c tracks m buffered) []).outcome ≡ Some (fault Truncated (kind_of buffered) (c.at + length m))
  ends-after c tracks m buffered some short = ap (λ r. fault_in r.outcome) (after-ended meaning c tracks m buffered some short)

  pub ends-missing : (c : Context) (tracks : List Track) (m buffered : List ℕ) → buffered ≡ [] → fault_in (reads_at meaning (InMdatHeader c tracks m buffered) []).outcome ≡ Some (fault MdatMissing (Some moof) c.at)
  ends-missing c tracks m buffered none = ap (λ l. fault_in (reads_at meaning (InMdatHeader c tracks m l) []).outcome) none ∙ ap (λ r. fault_in r.outcome) (after-missing meaning c tracks m)

-- some byte came
pub some_bytes : (x : List ℕ) → (x ≡ [] → ⊥) → 0 < length x
some_bytes [] h = absurd (h refl)
some_bytes (b ∷ x) h = omega arith

-- ---- at no place the end of the stream has effects, and no fault was decided

is_quiet : (p : Continuation) (r : Reading) → p.reads [] ≡ r → r.effects ≡ no_effects → decided_in r.outcome ≡ None → HasNoEffects p
is_quiet p r e effects early = record { effects = ap (λ s. s.effects) e ∙ effects; early = ap (λ s. decided_in s.outcome) e ∙ early }

pub quiet : (meaning : Meaning) (p : Place) → IsPlace p → HasNoEffects (continuation_at meaning p)
quiet meaning (InHeader c []) i = is_quiet (continuation_at meaning (InHeader c [])) empty_reading (reads-none meaning c) refl refl
quiet meaning (InHeader c (b ∷ buffered)) i = is_quiet (continuation_at meaning (InHeader c (b ∷ buffered))) (cut_off Truncated (kind_of (b ∷ buffered)) c.at) (header-ended meaning c (b ∷ buffered) (omega arith) i.0) refl refl
quiet meaning (InBuffered c kind size buffered) i = is_quiet (continuation_at meaning (InBuffered c kind size buffered)) (cut_off Truncated (Some kind) c.at) (held-ended meaning c kind size buffered i.0) refl refl
quiet meaning (InMdatHeader c tracks m []) i = is_quiet (continuation_at meaning (InMdatHeader c tracks m [])) (cut_off MdatMissing (Some moof) c.at) (after-missing meaning c tracks m) refl refl
quiet meaning (InMdatHeader c tracks m (b ∷ buffered)) i =
    is_quiet (continuation_at meaning (InMdatHeader c tracks m (b ∷ buffered))) (cut_off Truncated (kind_of (b ∷ buffered)) (c.at + length m)) (after-ended meaning c tracks m (b ∷ buffered) (omega arith) i.0) refl refl
quiet meaning (InBody emit at kind next left own) i =
    is_quiet (continuation_at meaning (InBody emit at kind next left own)) (record { effects = emit []; outcome = CutOff (fault Truncated (Some kind) at) }) (body-ended meaning emit at kind next left own i.0) i.3 refl
quiet meaning (InOpenBody emit at kind zero left own) i = is_quiet (continuation_at meaning (InOpenBody emit at kind zero left own)) (record { effects = emit []; outcome = Sound }) (open-ended meaning emit at kind zero left own refl) i.1 refl
quiet meaning (InOpenBody emit at kind (suc needed) left own) i =
    is_quiet (continuation_at meaning (InOpenBody emit at kind (suc needed) left own)) (record { effects = emit []; outcome = CutOff (fault Truncated (Some kind) at) }) (open-short meaning emit at kind (suc needed) left own (omega arith)) i.1 refl

-- ---- where a machine is by what it keeps is a place

in-place : (emit : List ℕ → Effects) (at : ℕ) (kind : FourCc) (tracks : Option (List Track)) (number left own : ℕ) (e : Extent) → IsLeft left e → emit [] ≡ no_effects → IsPlace (in_extent emit at kind tracks number left own e)
in-place emit at kind tracks number left own (extents.Sized next) i none = (i.more, i.within, i.near, none)
in-place emit at kind tracks number left own (extents.Open needed) i none = (i.within, none)

pub at-place : (operation : Operation) (number : ℕ) (tracks : Option (List Track)) (header_bytes : List ℕ) (s : State) → IsState operation number tracks header_bytes s → IsPlace (place_of operation number tracks header_bytes s)
at-place operation number tracks header_bytes (states.Header at) i = i
at-place operation number tracks header_bytes (states.Buffering h) i = (i.1, i.2)
at-place operation number tracks header_bytes (states.MdatHeader w) i = (i.0, omega (arith, i.1.size, i.1.near))
at-place operation number tracks header_bytes (states.Body b w) i = in-place (λ _. no_effects) b.at b.kind (tracks_after tracks w) number b.left (claimed_in tracks w) b.extent i.1 refl
at-place operation number tracks header_bytes (states.Copied b) i = in-place (λ x. says x) b.at b.kind tracks number b.left (table_of tracks) b.extent i.1 refl
at-place (operations.List command) number tracks header_bytes (states.Media r) i = absurd i.2
at-place (operations.Split cut) number tracks header_bytes (states.Media r) i =
    in-place (output_from (position_in cut number tracks r)) r.body.at r.body.kind (tracks_after tracks (Some r.pending_moof)) (number_after (operations.Split cut) number tracks r) r.body.left (claimed_in tracks (Some r.pending_moof)) r.body.extent i.2.body (output_from-quiet (position_in cut number tracks r) i.2.media.no_head_ready)

-- no place is far past the longest stream
pub reached-most : (p : Place) → IsPlace p → reached_of p ≤ 2 ^ 62 + 31
reached-most (InHeader c buffered) i = omega (arith, i.0, i.1, need-most buffered)
reached-most (InBuffered c kind size buffered) i = omega (arith, i.0, i.1)
reached-most (InMdatHeader c tracks m buffered) i = omega (arith, i.0, i.1, need-most buffered)
reached-most (InBody emit at kind next left own) i = omega (arith, i.2)
reached-most (InOpenBody emit at kind needed left own) i = omega arith
