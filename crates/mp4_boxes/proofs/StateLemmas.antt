-- A machine that lists boxes, by its state.
use Rattle.std.proofs.Common.{◌≡◌, ℕ, ◌+◌, ◌-◌, ◌<◌, ◌≤◌, List, [], ◌∷◌, ◌++◌, length, Bool, Option, Some, None, ap, sym, refl, ◌∙◌, arith, append-nil, append_assoc, take, drop, length-take-le, subst}
use Rattle.std.proofs.Math.Seq.{take-length}
use Rattle.mp4_box.specs.declared.headers.FourCc.{FourCc}
use Rattle.mp4_box.specs.declared.headers.Header.{Header}
use Rattle.mp4_box.specs.declared.headers.Size.{Size}
use Rattle.mp4_box.specs.declared.headers.Size.TheVariants.{Exact, ToEnd}
use Rattle.mp4_box.specs.declared.headers.Step.TheVariants as steps
use Rattle.mp4_box.specs.declared.rules.Fault.{Fault}
use Rattle.mp4_box.specs.declared.rules.Rule.TheVariants.{BadSize, StreamTooLong, TooLarge}
use Rattle.mp4_box.specs.Headers.{need, header_at, kind_of}
use Rattle.mp4_box.specs.Trees.{tree_faults}
use Rattle.mp4_box.proofs.HeaderLemmas.{whole_is, need-least}
use Rattle.mp4_ledger.specs.Memory.{claimed, given_back}
use Rattle.mp4_ledger.specs.declared.ledger.Refused.{Refused}
use Rattle.mp4_ledger.specs.declared.ledger.Refused.TheVariants as refusals
use Rattle.mp4_machine.specs.Accounts.{Counts}
use Rattle.mp4_machine.specs.Blocks.{Breaks, Passes, Pending}
use Rattle.mp4_machine.specs.Bodies.{HasBytes, IsBodyOf, extent_after, extent_of, fault, least_end, left_of, longest}
use Rattle.mp4_machine.specs.Buffering.{Buffering}
use Rattle.mp4_machine.specs.Inputs.{Change, Environment, Continuation, Moves, GoesOn, Refuses, ClaimRefused, WriteFailed, StopsAt, refusal_of}
use Rattle.mp4_machine.specs.Continuations.{in_extent}
use Rattle.mp4_machine.specs.declared.body.AnyBody.TheVariants as bodies
use Rattle.mp4_machine.specs.declared.body.Extent.{Extent}
use Rattle.mp4_machine.specs.declared.body.Extent.TheVariants as extents
use Rattle.mp4_machine.specs.Readings.{then_read, no_effects, says, requests_memory, after}
use Rattle.mp4_machine.proofs.AccountLemmas.{Counts-none, Counts-back, Spends-counts}
use Rattle.mp4_machine.proofs.BlockLemmas.{Passes-none}
use Rattle.mp4_machine.proofs.HeadLemmas.{apart, front-len, front-is, take-is}
use Rattle.mp4_machine.proofs.HoldingLemmas.{found}
use Rattle.mp4_machine.proofs.InputLemmas.{sent_to, claimed_from, back_to, Moves-none, Moves-claim, GoesOn-silent, WriteFailed-emitted, Refuses-there}
use Rattle.mp4_machine.proofs.BodyLemmas.{body-over}
use Rattle.mp4_machine.proofs.ReadingLemmas.{after-silent}
use Rattle.mp4_machine.proofs.ContinuationLemmas.{GoesOn-gathered}
use Rattle.mp4_machine.proofs.StepLemmas.{Accepts, GoesTo-after, StopsIn-after}
use Rattle.mp4_machine.specs.Steps.{GoesTo, StopsIn, unmoved}
use Rattle.mp4_machine.specs.declared.stop.Stop.{Stop}
use Rattle.mp4_machine.specs.declared.stop.Stop.TheVariants.{Write}
use Rattle.mp4_machine.proofs.ReadingAskLemmas.{plus-none}
use Rattle.mp4_boxes.specs.Boxes.{box, body, held_body, passed, reading}
use Rattle.mp4_boxes.specs.Buffering.{held_lines, most_held}
use Rattle.mp4_boxes.specs.Listing.{box_line}
use Rattle.mp4_boxes.specs.States.{HasCome, NeedsNone, after_header, at_header, box_of, in_box, in_header}
use Rattle.mp4_boxes.proofs.PastLemmas.{held_past}
use Rattle.mp4_boxes.proofs.BoxLemmas.{reading-whole, reading-bad, reading-begun, reading-too_long, reading-too_large, reading-held_to_end, reading-holds, reading-good, reading-bad_tree}

-- ---- bytes without effects yet

-- bytes of a header
pub accepts_head : {a : Change} (at : ℕ) (old : List ℕ) {x new : List ℕ} → new ≡ old ++ x → Accepts a a.before (in_header at old) x (in_header at new)
accepts_head {a = a} at old {x = x} {new = new} e = record { claim = omega arith; goes = GoesOn-gathered a.before (reading at) at 0 old x new e }

-- a header that came byte by byte has the same effects as one that came at once
pub GoesTo-begun : {a : Change} (at : ℕ) (header_bytes : List ℕ) {s : Continuation} → GoesTo a (at_header at) header_bytes s → GoesTo a (in_header at header_bytes) [] s
GoesTo-begun {a = a} at header_bytes {s = s} g = GoesTo-after header_bytes refl (λ later. refl) [] (omega arith) (subst (λ l. GoesTo a (at_header at) l s) (sym (append-nil header_bytes)) g)

pub StopsIn-begun : {a : Change} (at : ℕ) (header_bytes : List ℕ) {e : Stop} → StopsIn a (at_header at) header_bytes e → StopsIn a (in_header at header_bytes) [] e
StopsIn-begun at header_bytes h = StopsIn-after header_bytes refl (λ later. refl) h

-- all bytes of a header are taken
pub all_taken : {n : ℕ} {x : List ℕ} {h : Header} → n ≤ length x → h.header_len ≤ n → length x ≤ need x → header_at x ≡ steps.Whole h → take n x ≡ x
all_taken {n = n} {x = x} {h = h} most all len is =
    let same : n ≡ length x = omega (arith, (whole_is x h is).1, most, all, len) in
    ap (λ k. take k x) same ∙ take-length x

-- the bytes of a header that came are none
pub Refuses-bad : (o : Environment) (at : ℕ) (header_bytes more : List ℕ) → length header_bytes ≡ need header_bytes → header_at header_bytes ≡ steps.BadSize → Refuses o o (in_header at header_bytes) more (fault BadSize (kind_of header_bytes) at)
Refuses-bad o at header_bytes more len is = record {
  produced = no_effects;
  moves = Moves-none o 0;
  rest = λ later. reading-bad at header_bytes (more ++ later) len is;
}

-- ---- the input x that begins with the header of a box

-- it is the header, and what follows it
reading-begins : (at : ℕ) (h : Header) (x later : List ℕ) → header_at x ≡ steps.Whole h → reading at (x ++ later) ≡ then_read reading (box at h (take h.header_len x) (drop h.header_len x ++ later))
reading-begins at h x later is =
    ap (reading at) (sym (apart h.header_len x later)) ∙ reading-whole at (take h.header_len x) (drop h.header_len x ++ later) h (front-len x h is) (front-is x h is)

module _ (o : Environment) (at : ℕ) (h : Header) (x : List ℕ) (is : header_at x ≡ steps.Whole h) where
  -- the box goes past the longest stream
  pub Refuses-far : (more : List ℕ) → longest < least_end at h h.size → Refuses o o (at_header at) (x ++ more) (fault StreamTooLong (Some h.kind) at)
  Refuses-far more far = Refuses-there o o (at_header at) x more (fault StreamTooLong (Some h.kind) at) (Moves-none o 0)
      (λ later. reading-begins at h x later is ∙ reading-too_long at h (take h.header_len x) (drop h.header_len x ++ later) far)

  -- its line was written
  pub GoesOn-line : (u : Option (List ℕ)) (v : Pending) → least_end at h h.size ≤ longest → most_held h.kind.0 ≡ None → Passes o.written u o.waiting v (box_line at h)
      → GoesOn o (sent_to o u v) (at_header at) (take h.header_len x) (after_header at h)
  GoesOn-line u v near loose q =
      let y = take h.header_len x in
      record {
        produced = says (box_line at h);
        moves = record { passes = q; counts = Counts-none o.account 0; tallied = sym (plus-none o.tally) };
        reached = omega (arith, length-take-le h.header_len x (omega (arith, (whole_is x h is).0, (whole_is x h is).1)));
        rest = λ later. reading-whole at y later h (front-len x h is) (front-is x h is) ∙ reading-begun at h y later near loose;
      }

  -- its line can't be written
  pub WriteFailed-line : (u : Option (List ℕ)) (v : Pending) (more later : List ℕ) → least_end at h h.size ≤ longest → most_held h.kind.0 ≡ None
      → Breaks o.written u o.waiting v (box_line at h) → WriteFailed o (sent_to o u v) 0 (reading at ((x ++ more) ++ later))
  WriteFailed-line u v more later near loose p =
      let rest = drop h.header_len x ++ (more ++ later) in
      WriteFailed-emitted o (sent_to o u v) 0 (says (box_line at h)) (then_read reading (body at h h.size rest)) (reading at ((x ++ more) ++ later))
      (ap (reading at) (append_assoc x more later) ∙ reading-begins at h x (more ++ later) is ∙ reading-begun at h (take h.header_len x) rest near loose) p (Spends-counts o.account o.account 0 0 0 (Counts-none o.account 0)) (sym (plus-none o.tally))

  -- it is to be held, and has no size or one that is too large
  pub Refuses-large : (more : List ℕ) (limit s : ℕ) → at + s ≤ longest → most_held h.kind.0 ≡ Some limit → h.size ≡ Exact s → limit < s → Refuses o o (at_header at) (x ++ more) (fault TooLarge (Some h.kind) at)
  Refuses-large more limit s near buffered size large =
      Refuses-there o o (at_header at) x more (fault TooLarge (Some h.kind) at) (Moves-none o 0)
      (λ later. reading-begins at h x later is ∙ reading-too_large at h (take h.header_len x) (drop h.header_len x ++ later) limit s near buffered size large)

  pub Refuses-open : (more : List ℕ) (limit : ℕ) → at + h.header_len ≤ longest → most_held h.kind.0 ≡ Some limit → h.size ≡ ToEnd → Refuses o o (at_header at) (x ++ more) (fault TooLarge (Some h.kind) at)
  Refuses-open more limit near buffered size =
      Refuses-there o o (at_header at) x more (fault TooLarge (Some h.kind) at) (Moves-none o 0)
      (λ later. reading-begins at h x later is ∙ reading-held_to_end at h (take h.header_len x) (drop h.header_len x ++ later) limit near buffered size)

-- a claim that is refused is no failed write
not_written : (r : Refused) → refusal_of r ≡ Write → ⊥
not_written refusals.OverLimit e = absurd cc
not_written refusals.Memory e = absurd cc

-- ---- its body, which is passed over

module _ (o : Environment) (at : ℕ) (h : Header) where
  pub GoesOn-empty : (next : ℕ) → IsBodyOf at h 0 (bodies.Empty next) → GoesOn o o (after_header at h) [] (at_header next)
  GoesOn-empty next (size, is, all, far, near) =
      GoesOn-silent o (after_header at h) (at_header next) [] refl (omega (arith, far, all))
      (λ later. rw (is, far) (body-over reading at h.kind (at + size) passed (size - h.header_len) later (omega (arith, all)) refl))

  pub GoesOn-body : (size : Size) → h.size ≡ size → HasBytes at h size → GoesOn o o (after_header at h) [] (in_extent reading passed (λ next. next) 0 at h.kind (left_of at h size) (extent_of at 0 size))
  GoesOn-body (Exact s) is some =
      GoesOn-silent o (after_header at h) (in_extent reading passed (λ next. next) 0 at h.kind (s - h.header_len) (extents.Sized (at + s))) [] refl (omega (arith, some.0))
      (λ later. rw is refl)
  GoesOn-body ToEnd is some =
      GoesOn-silent o (after_header at h) (in_extent reading passed (λ next. next) 0 at h.kind (longest - (at + h.header_len)) (extents.Open 0)) [] refl (omega (arith, some))
      (λ later. rw is refl)

-- nothing is claimed within it
pub none_claimed : (at : ℕ) (kind : FourCc) (left : ℕ) (e : Extent) → (in_extent reading passed (λ next. next) 0 at kind left e).claim ≡ 0
none_claimed at kind left (extents.Sized next) = refl
none_claimed at kind left (extents.Open needed) = refl

pub needs_none : (at : ℕ) (size : Size) → NeedsNone (extent_of at 0 size)
needs_none at (Exact s) = tt
needs_none at ToEnd = refl

pub needs_none-after : (n : ℕ) (e : Extent) → NeedsNone e → NeedsNone (extent_after n e)
needs_none-after n (extents.Sized next) none = tt
needs_none-after n (extents.Open needed) none = omega (arith, none)

-- ---- the input x that begins with the header of a box that is to be held

module _ (o : Environment) (at : ℕ) (h : Header) (x : List ℕ) (is : header_at x ≡ steps.Whole h) (limit s : ℕ) (near : at + s ≤ longest) (buffered : most_held h.kind.0 ≡ Some limit) (size : h.size ≡ Exact s) (fits : s ≤ limit) where
  reading-claims : (later : List ℕ) → reading at (x ++ later) ≡ after (requests_memory at s) (then_read reading (held_body at h.kind s (x ++ later)))
  reading-claims later =
      reading-begins at h x later is ∙ reading-holds at h (take h.header_len x) (drop h.header_len x ++ later) limit s near buffered size fits
      ∙ ap (λ l. after (requests_memory at s) (then_read reading (held_body at h.kind s l))) (apart h.header_len x later)

  -- room for it was claimed
  pub GoesOn-claim : 0 < s → GoesOn o (claimed_from o s) (at_header at) x (in_box (record { at = at; kind = h.kind; size = s; bytes = x }))
  GoesOn-claim some = record {
    produced = requests_memory at s;
    moves = subst (λ n. Moves o (claimed_from o s) 0 n (requests_memory at n)) (omega arith) (Moves-claim o 0 s at (omega arith) (omega arith));
    reached = omega arith;
    rest = reading-claims;
  }

  -- and it was not
  ClaimRefused-claim : (more : List ℕ) → ClaimRefused o o (at_header at) (x ++ more)
  ClaimRefused-claim more = record {
    produced = no_effects;
    moves = Moves-none o 0;
    at = at;
    sum = s;
    continues = λ later. then_read reading (held_body at h.kind s (x ++ (more ++ later)));
    past = λ later. held_past at h.kind s (x ++ (more ++ later));
    rest = λ later. ap (reading at) (append_assoc x more later) ∙ reading-claims (more ++ later) ∙ sym (after-silent _);
  }

  pub StopsAt-refused : (more : List ℕ) (r : Refused) → (r ≡ refusals.OverLimit → o.account.limit < o.account.live + s) → (r ≡ refusals.Memory → o.account.live + s ≤ o.account.limit) → StopsAt o o (at_header at) (x ++ more) (refusal_of r)
  unfolding ClaimRefused-claim
  StopsAt-refused more refusals.OverLimit over within = (ClaimRefused-claim more, omega (arith, over refl))
  StopsAt-refused more refusals.Memory over within = (ClaimRefused-claim more, omega (arith, within refl))

  pub StopsIn-refused_claim : {failed : Bool} (r : Refused) → (r ≡ refusals.OverLimit → o.account.limit < o.account.live + s) → (r ≡ refusals.Memory → o.account.live + s ≤ o.account.limit) → StopsIn (unmoved o failed) (at_header at) x (refusal_of r)
  StopsIn-refused_claim r over within = record { stops = λ more. StopsAt-refused more r over within; failed = λ e. absurd (not_written r e); unfailed = λ _. refl }

-- that box, if it is whole in the input
abbrev pub box_come : ℕ → Header → ℕ → List ℕ → Buffering
box_come at h size input = record { at = at; kind = h.kind; size = size; bytes = take size input }

-- its bytes, and the room that was claimed for them
pub record GivesWhole (o : Environment) (at : ℕ) (h : Header) (size : ℕ) (input : List ℕ) : Type 0 where
  pub some : 0 < size
  pub goes : GoesOn o (claimed_from o size) (at_header at) (take size input) (in_box (box_come at h size input))
  pub come : HasCome (box_come at h size input) (claimed o.account size) (box_of at h (take size input))

pub come_whole : (o : Environment) (at : ℕ) (h : Header) (input : List ℕ) → header_at input ≡ steps.Whole h → (limit size : ℕ) → at + size ≤ longest → most_held h.kind.0 ≡ Some limit → h.size ≡ Exact size → size ≤ limit → (h.header_len ≤ size) × (size ≤ length input) → GivesWhole o at h size input
come_whole o at h input is limit size near buffered sized fits room =
    let x = take size input in
    let w = whole_is input h is in
    let some : 0 < size = omega (arith, room.0, w.1, need-least input) in
    let len : length x ≡ size = length-take-le size input room.1 in
    let front = take-is size input h is room.0 in
    record {
      some = some;
      goes = GoesOn-claim o at h x front limit size near buffered sized fits some;
      come = record { is = found at x h front (sized ∙ ap Exact (sym len)); len = len; claim = omega arith };
    }

-- ---- a box that is held

-- more of it came
pub accepts_held : {a : Change} (b : Buffering) {x : List ℕ} → b.size ≤ a.before.account.live → Accepts a a.before (in_box b) x (in_box (record b { bytes = b.bytes ++ x }))
accepts_held {a = a} b {x = x} low = record { claim = low; goes = GoesOn-gathered a.before (λ bytes. then_read reading (held_body b.at b.kind b.size bytes)) b.at b.size b.bytes x (b.bytes ++ x) refl }

module _ (o : Environment) (b : Buffering) (low : b.size ≤ o.account.live) (len : length b.bytes ≡ b.size) where
  Counts-given : Counts o.account (given_back o.account b.size) b.size 0 0
  Counts-given = subst (λ n. Counts o.account (given_back o.account b.size) b.size n 0) (omega arith) (Counts-back o.account b.size b.size (omega arith) low)

  -- all of it came, its tree is good, and it was listed and given back
  pub GoesOn-good : (u : Option (List ℕ)) (v : Pending) → tree_faults b.at b.bytes ≡ [] → Passes o.written u o.waiting v (held_lines b.at b.bytes)
      → GoesOn o (sent_to (back_to o b.size) u v) (in_box b) [] (at_header (b.at + b.size))
  GoesOn-good u v good p = record {
    produced = says (held_lines b.at b.bytes);
    moves = record { passes = p; counts = Counts-given; tallied = sym (plus-none o.tally) };
    reached = omega (arith, len);
    rest = λ later. reading-good b.at b.kind b.size b.bytes later len good;
  }

  pub WriteFailed-good : (u : Option (List ℕ)) (v : Pending) (later : List ℕ) → tree_faults b.at b.bytes ≡ [] → Breaks o.written u o.waiting v (held_lines b.at b.bytes) → WriteFailed o (sent_to (back_to o b.size) u v) b.size (then_read reading (held_body b.at b.kind b.size (b.bytes ++ later)))
  WriteFailed-good u v later good p = WriteFailed-emitted o (sent_to (back_to o b.size) u v) b.size (says (held_lines b.at b.bytes)) (reading (b.at + b.size) later) (then_read reading (held_body b.at b.kind b.size (b.bytes ++ later)))
      (reading-good b.at b.kind b.size b.bytes later len good) p (Spends-counts o.account (given_back o.account b.size) b.size 0 0 Counts-given) (sym (plus-none o.tally))

  pub Refuses-tree : (more : List ℕ) (f : Fault) (fs : List Fault) → tree_faults b.at b.bytes ≡ f ∷ fs → Refuses o (back_to o b.size) (in_box b) more f
  Refuses-tree more f fs bad = record {
    produced = no_effects;
    moves = record { passes = Passes-none o.written o.waiting; counts = Counts-given; tallied = sym (plus-none o.tally) };
    rest = λ later. reading-bad_tree b.at b.kind b.size b.bytes (more ++ later) f fs len bad;
  }
