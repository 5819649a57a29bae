-- What a listing asks for and claims, by how large the boxes are that it holds.
use Rattle.std.proofs.Common.{◌≡◌, ◌∙◌, ◌↔◌, ℕ, ◌+◌, ◌≤◌, List, [], ◌∷◌, ◌++◌, length, Bool, true, false, Option, Some, None, Result, ap, sym, refl, arith, subst, append_assoc, length-append}
use Rattle.std.specs.Prelude.{IsErrOf, codes, if◌then◌else◌}
use Rattle.std.specs.Option.{unwrap_or}
use Rattle.std.specs.Str.{bytes_eq}
use Rattle.mp4_box.specs.Headers.{IsBox, IsBytes}
use Rattle.mp4_grammar.specs.Kinds.{most_moof, most_moov}
use Rattle.mp4_machine.specs.Bodies.{longest}
use Rattle.mp4_machine.specs.Ends.{Ends}
use Rattle.mp4_machine.specs.Readings.{Reading, Effects, after, requests_memory, both, most_of, then_read}
use Rattle.mp4_machine.specs.StreamRuns.{Claims, ReadsStream}
use Rattle.mp4_machine.specs.declared.stop.Stop.{Stop}
use Rattle.mp4_machine.specs.declared.stop.Stop.TheVariants.{OverLimit}
use Rattle.mp4_machine.specs.declared.tally.Tally.{Tally}
use Rattle.mp4_machine.proofs.ReadingAskLemmas.{most-both}
use Rattle.mp4_boxes.specs.Boxes.{held_body, reading}
use Rattle.mp4_boxes.specs.HeldBoxes.{ClaimsByLargest, HoldsAtMost, HoldsBox}
use Rattle.mp4_boxes.specs.Buffering.{most_held}
use Rattle.mp4_boxes.specs.Joined.{AreSound, Item, IsAllowed, joined, box_effects, boxes_effects}
use Rattle.mp4_boxes.specs.Rests.{BadHeader, BadTree, CutInBody, CutInHeader, CutInHeld, Ended, IsRest, Large, Open, OpenTooFar, TooFar, Unsized}
use Rattle.mp4_machine.proofs.ClaimLemmas.{asked_bound, asked_enough}
use Rattle.mp4_boxes.proofs.JoinLemmas.{reading-boxes, reading-held}
use Rattle.mp4_boxes.proofs.RestLemmas.{every-stream}

module _ (most : ℕ) where
  -- a box at the front that is held
  front-most : (at : ℕ) (b : Item) (payload y : List ℕ) (limit : ℕ) → IsBox b.header payload b.bytes → most_held b.header.kind.0 ≡ Some limit → length b.bytes ≤ limit → at + length b.bytes ≤ longest → HoldsAtMost at (b.bytes ++ y) most → length b.bytes ≤ most
  front-most at b payload y limit is buffered small near w =
      w.each (length b.bytes) (record {
        boxes = [];
        rest = b.bytes ++ y;
        cut = refl;
        sound = tt;
        box = record { header = b.header; header_bytes = is.header_bytes; more = payload ++ y; spelled = is.spelled; cut = ap (λ l. l ++ y) is.whole ∙ append_assoc is.header_bytes payload y };
        limit = limit;
        here = (buffered, is.size, omega (arith, near));
        small = small;
      })

  box-most : (at : ℕ) (b : Item) (payload y : List ℕ) (buffered : Option ℕ) → most_held b.header.kind.0 ≡ buffered → IsBox b.header payload b.bytes → IsAllowed at b.bytes buffered → at + length b.bytes ≤ longest → HoldsAtMost at (b.bytes ++ y) most → most_of (box_effects at b buffered) ≤ most
  box-most at b payload y None e is may near w = omega arith
  box-most at b payload y (Some limit) e is may near w = omega (arith, front-most at b payload y limit is e may.0 near w)

  -- the boxes after it
  after-most : (at : ℕ) (b : Item) (payload y : List ℕ) → IsBox b.header payload b.bytes → IsAllowed at b.bytes (most_held b.header.kind.0) → HoldsAtMost at (b.bytes ++ y) most → HoldsAtMost (at + length b.bytes) y most
  after-most at b payload y is may w = record {
    each = λ size h. w.each size (record {
      boxes = b ∷ h.boxes;
      rest = h.rest;
      cut = ap (λ l. b.bytes ++ l) h.cut ∙ sym (append_assoc b.bytes (joined h.boxes) h.rest);
      sound = ((payload, is), may, h.sound);
      box = h.box;
      limit = h.limit;
      here = (h.here.0, h.here.1, omega (arith, h.here.2, length-append b.bytes (joined h.boxes)));
      small = h.small;
    });
  }

  -- whole boxes, and the bytes after them
  record AreModest (at : ℕ) (bs : List Item) (y : List ℕ) : Type 0 where
    requests : most_of (boxes_effects at bs) ≤ most
    rest : HoldsAtMost (at + length (joined bs)) y most

  boxes-most : (bs : List Item) (at : ℕ) (y : List ℕ) → HoldsAtMost at (joined bs ++ y) most → AreSound at bs → at + length (joined bs) ≤ longest → AreModest at bs y
  boxes-most [] at y w sound near = record { requests = omega arith; rest = subst (λ n. HoldsAtMost n y most) (omega arith) w }
  boxes-most (b ∷ bs) at y w (box, may, more) near =
      let len = length-append b.bytes (joined bs) in
      let own = subst (λ l. HoldsAtMost at l most) (append_assoc b.bytes (joined bs) y) w in
      let following = boxes-most bs (at + length b.bytes) y (after-most at b box.0 (joined bs ++ y) box.1 may own) more (omega (arith, near, len)) in
      let here = box-most at b box.0 (joined bs ++ y) (most_held b.header.kind.0) refl box.1 may (omega (arith, near, len)) own in
      record {
        requests = omega (arith, most-both (box_effects at b (most_held b.header.kind.0)) (boxes_effects (at + length b.bytes) bs), here, following.requests);
        rest = subst (λ n. HoldsAtMost n y most) (omega (arith, len)) following.rest;
      }

  -- the rest
  reads-most : (r s : Reading) → r ≡ s → most_of s.effects ≤ most → most_of r.effects ≤ most
  reads-most r s e h = rw e h

  rest-most : (at : ℕ) (y : List ℕ) (r : Reading) → HoldsAtMost at y most → IsRest at y r → most_of r.effects ≤ most
  rest-most at y r w (Ended none e) = reads-most r _ e (omega arith)
  rest-most at y r w (CutInHeader some short e) = reads-most r _ e (omega arith)
  rest-most at y r w (BadHeader whole none e) = reads-most r _ e (omega arith)
  rest-most at y r w (TooFar b far e) = reads-most r _ e (omega arith)
  rest-most at y r w (CutInBody b s is short e) = reads-most r _ e (omega arith)
  rest-most at y r w (Open b is near e) = reads-most r _ e (omega arith)
  rest-most at y r w (OpenTooFar b is near far e) = reads-most r _ e (omega arith)
  rest-most at y r w (Large b s limit is large e) = reads-most r _ e (omega arith)
  rest-most at y r w (Unsized b limit buffered size near e) = reads-most r _ e (omega arith)
  rest-most at y r w (CutInHeld b s limit (buffered, size, near) small short e) =
      let here = w.each s (record { boxes = []; rest = y; cut = refl; sound = tt; box = b; limit = limit; here = (buffered, size, omega (arith, near)); small = small }) in
      reads-most r _ e (omega (arith, here))
  rest-most at y r w (BadTree b limit f fs (buffered, size, near) small bad e) =
      let own = subst (λ l. HoldsAtMost at l most) b.cut w in
      let item : Item = record { header = b.header; bytes = b.bytes } in
      reads-most r _ e (omega (arith, front-most at item b.payload b.more limit b.is buffered small near own))

  -- no more is asked for than for the largest
  pub asks-most : (b : List ℕ) → IsBytes b → HoldsAtMost 0 b most → most_of (reading 0 b).effects ≤ most
  asks-most b fits w =
      let (s, reads) = every-stream b fits in
      let all = boxes-most s.boxes 0 s.rest (subst (λ l. HoldsAtMost 0 l most) s.cut w) s.sound s.near in
      reads-most (reading 0 b) _ reads
      (omega (arith, most-both (boxes_effects 0 s.boxes) s.reading.effects, all.requests, rest-most (0 + length (joined s.boxes)) s.rest s.reading all.rest s.is))

-- and for each of them is asked
asked-after : (r s u : Reading) (t : Effects) (at size : ℕ) → r ≡ after t s → s ≡ after (requests_memory at size) u → size ≤ most_of r.effects
asked-after r s u t at size e f = rw (e, f) (omega (arith, most-both t (both (requests_memory at size) u.effects), most-both (requests_memory at size) u.effects))

pub held-asks : (b : List ℕ) (size : ℕ) → HoldsBox 0 b size → size ≤ most_of (reading 0 b).effects
held-asks b size h =
    let (buffered, is, near) = h.here in
    let at = 0 + length (joined h.boxes) in
    let following = reading-boxes h.boxes 0 h.rest h.sound (omega (arith, near)) in
    let there = reading-held at h.box.header h.limit size h.box.header_bytes h.box.more h.box.spelled buffered is near h.small in
    asked-after (reading 0 b) (reading at h.rest) (then_read reading (held_body at h.box.header.kind size (h.box.header_bytes ++ h.box.more))) (boxes_effects 0 h.boxes) at size
    (ap (reading 0) h.cut ∙ following) (ap (reading at) h.box.cut ∙ there)

pub asks-exactly : (b : List ℕ) (most : ℕ) → IsBytes b → (most_of (reading 0 b).effects ≤ most) ↔ HoldsAtMost 0 b most
asks-exactly b most fits = (λ low. record { each = λ size h. omega (arith, low, held-asks b size h) }, asks-most most b fits)

-- ---- whatever the boxes are

abbrev limit_by : (moov moof : Bool) → Option ℕ
limit_by moov moof = if moov then Some most_moov else if moof then Some most_moof else None

limit-small : (moov moof : Bool) (limit : ℕ) → limit_by moov moof ≡ Some limit → limit ≤ most_moof
limit-small true moof limit e = omega (arith, ap (λ o. unwrap_or o 0) e)
limit-small false true limit e = omega (arith, ap (λ o. unwrap_or o 0) e)
limit-small false false limit e = absurd cc

held-small : (kind : List ℕ) (limit : ℕ) → most_held kind ≡ Some limit → limit ≤ most_moof
unfolding most_held
held-small kind limit e = limit-small (bytes_eq kind (codes "moov")) (bytes_eq kind (codes "moof")) limit e

holds-any : (b : List ℕ) → HoldsAtMost 0 b most_moof
holds-any b = record { each = λ size h. omega (arith, h.small, held-small h.box.header.kind.0 h.limit h.here.0) }

-- ---- a run

pub claims_by_largest : {T : Type 0} {ends : Ends} (claims : Claims) {tally : Tally} (result : Result T Stop) (r : ReadsStream {T = T} (reading 0) ends claims tally result) → ClaimsByLargest {T = T} r.bytes claims result
claims_by_largest claims result r = record {
  most = λ largest w. asked_bound (reading 0) claims result r largest (asks-most largest r.bytes r.fits w);
  enough = λ largest w enough. asked_enough (reading 0) claims result r largest (asks-most largest r.bytes r.fits w) enough;
}

-- by what any stream asks for
pub boxes_bound : {T : Type 0} {ends : Ends} (claims : Claims) {tally : Tally} (result : Result T Stop) → ReadsStream {T = T} (reading 0) ends claims tally result → claims.peak ≤ claims.copy + most_moof
boxes_bound claims result r = asked_bound (reading 0) claims result r most_moof (asks-most most_moof r.bytes r.fits (holds-any r.bytes))

pub boxes_enough : {T : Type 0} {ends : Ends} (claims : Claims) {tally : Tally} (result : Result T Stop) → ReadsStream {T = T} (reading 0) ends claims tally result → claims.copy + most_moof ≤ claims.limit → IsErrOf result OverLimit → ⊥
boxes_enough claims result r enough = asked_enough (reading 0) claims result r most_moof (asks-most most_moof r.bytes r.fits (holds-any r.bytes)) enough
