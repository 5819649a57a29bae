-- Each stream is whole boxes that break no rule, and then one of the rests.
use Rattle.std.proofs.Common.{◌≡◌, ◌∙◌, ℕ, zero, suc, ◌+◌, ◌<◌, ◌≤◌, inl, inr, List, [], ◌∷◌, ◌++◌, length, take, drop, Option, None, Some, ap, sym, refl, subst, arith, append_assoc, length-append, length-drop, length-take-le, take-append-drop}
use Rattle.std.proofs.Math.Seq.{drop-append_seam}
use Rattle.std.proofs.lemmas.Bool.{cases_lt}
use Rattle.std.proofs.lemmas.List.{take-append-le}
use Rattle.mp4_box.specs.Headers.{HasRoom, Headed, IsBox, IsBytes, header_at, need, result_of}
use Rattle.mp4_box.specs.Trees.{tree_faults}
use Rattle.mp4_box.specs.declared.headers.Header.{Header}
use Rattle.mp4_box.specs.declared.headers.Size.{Size}
use Rattle.mp4_box.specs.declared.headers.Size.TheVariants.{Exact, ToEnd}
use Rattle.mp4_box.specs.declared.headers.Step.{Step}
use Rattle.mp4_box.specs.declared.headers.Step.TheVariants as steps
use Rattle.mp4_box.specs.declared.rules.Fault.{Fault}
use Rattle.mp4_box.proofs.HeaderLemmas.{IsBytes-drop, bad_is, cut_is, need-least, read_is, room_of, whole_is}
use Rattle.mp4_box.proofs.HeaderAnswers.{head-need, head-whole, header-begins}
use Rattle.mp4_machine.specs.Bodies.{least_end, longest}
use Rattle.mp4_machine.specs.Readings.{Reading, after, empty_reading}
use Rattle.mp4_boxes.specs.Boxes.{reading}
use Rattle.mp4_boxes.specs.Buffering.{most_held}
use Rattle.mp4_boxes.specs.Joined.{AreSound, Item, IsAllowed, joined, boxes_effects}
use Rattle.mp4_boxes.specs.Rests.{Boxed, IsRest, Ended, CutInHeader, BadHeader, TooFar, CutInBody, Open, OpenTooFar, Large, Unsized, CutInHeld, BadTree, Split}
use Rattle.mp4_boxes.proofs.BoxLemmas.{reading-more, reading-none, reading-whole, reading-too_long, reading-too_large, reading-held_to_end}
use Rattle.mp4_boxes.proofs.JoinLemmas.{reading-boxes, reading-unheaded, reading-cut, reading-open, reading-open_long, reading-cut_held, reading-bad_held}

-- ---- each rest is read as it says

module _ (at : ℕ) (y : List ℕ) (r : Reading) where
  -- by the header that it begins with
  headed : (b : Headed y) → reading at (b.header_bytes ++ b.more) ≡ r → reading at y ≡ r
  headed b e = ap (reading at) b.cut ∙ e

  len_of : (b : Headed y) → length y ≡ length (b.header_bytes ++ b.more)
  len_of b = ap length b.cut

  pub rest-reads : IsBytes y → IsRest at y r → reading at y ≡ r
  rest-reads fits (Ended none e) = ap (reading at) none ∙ reading-none at ∙ sym e
  rest-reads fits (CutInHeader some short e) = reading-more at y some short ∙ sym e
  rest-reads fits (BadHeader whole none e) = reading-unheaded at y fits whole none ∙ sym e
  rest-reads fits (TooFar b far e) =
      headed b (reading-whole at b.header_bytes b.more b.header (head-need b.header b.header_bytes b.spelled) (head-whole b.header b.header_bytes b.spelled) ∙ reading-too_long at b.header b.header_bytes b.more far ∙ sym e)
  rest-reads fits (CutInBody b s (loose, size, near) short e) = headed b (reading-cut at s b.header b.header_bytes b.more b.spelled loose size near (omega (arith, len_of b, short)) ∙ sym e)
  rest-reads fits (Open b (loose, size) near e) = headed b (reading-open at b.header b.header_bytes b.more b.spelled loose size (omega (arith, len_of b, near)) ∙ sym e)
  rest-reads fits (OpenTooFar b (loose, size) near far e) = headed b (reading-open_long at b.header b.header_bytes b.more b.spelled loose size near (omega (arith, len_of b, far)) ∙ sym e)
  rest-reads fits (Large b s limit (buffered, size, near) large e) =
      headed b (reading-whole at b.header_bytes b.more b.header (head-need b.header b.header_bytes b.spelled) (head-whole b.header b.header_bytes b.spelled) ∙ reading-too_large at b.header b.header_bytes b.more limit s near buffered size large ∙ sym e)
  rest-reads fits (Unsized b limit buffered size near e) =
      headed b (reading-whole at b.header_bytes b.more b.header (head-need b.header b.header_bytes b.spelled) (head-whole b.header b.header_bytes b.spelled)
      ∙ reading-held_to_end at b.header b.header_bytes b.more limit (omega (arith, near, b.spelled.header_len)) buffered size ∙ sym e)
  rest-reads fits (CutInHeld b s limit (buffered, size, near) small short e) = headed b (reading-cut_held at limit s b.header b.header_bytes b.more b.spelled buffered size near small (omega (arith, len_of b, short)) ∙ sym e)
  rest-reads fits (BadTree b limit f fs (buffered, size, near) small bad e) = ap (reading at) b.cut ∙ reading-bad_held at limit b.header b.payload b.bytes b.more f fs b.is buffered near small bad ∙ sym e

-- ---- a whole box comes first

-- nothing but a rest
only : (at : ℕ) (y : List ℕ) (r : Reading) → at ≤ longest → IsRest at y r → Split at y
only at y r near is = record {
  boxes = [];
  rest = y;
  cut = refl;
  sound = tt;
  near = omega arith;
  reading = r;
  is = subst (λ n. IsRest n y r) (omega arith) is;
}

first : (at s : ℕ) (b : List ℕ) (item : Item) (payload : List ℕ) → item.bytes ≡ take s b → length item.bytes ≡ s → IsBox item.header payload item.bytes → IsAllowed at item.bytes (most_held item.header.kind.0) → Split (at + s) (drop s b) → Split at b
first at s b item payload own len is may split =
    let following : at + s + length (joined split.boxes) ≡ at + length (item.bytes ++ joined split.boxes) = omega (arith, len, length-append item.bytes (joined split.boxes)) in
    record {
      boxes = item ∷ split.boxes;
      rest = split.rest;
      cut = sym (take-append-drop s b) ∙ ap (λ l. l ++ drop s b) (sym own) ∙ ap (λ l. item.bytes ++ l) split.cut ∙ sym (append_assoc item.bytes (joined split.boxes) split.rest);
      sound = ((payload, is), may, subst (λ n. AreSound (at + n) split.boxes) (sym len) split.sound);
      near = omega (arith, split.near, following);
      reading = split.reading;
      is = subst (λ n. IsRest n split.rest split.reading) following split.is;
    }

-- ---- by the header at the front

module _ (at : ℕ) (b : List ℕ) (near : at ≤ longest) (fits : IsBytes b) (h : Header) (whole : header_at b ≡ steps.Whole h) (go : (s : ℕ) → 0 < s → s ≤ length b → at + s ≤ longest → Split (at + s) (drop s b)) where
  w : (need b ≤ length b) × (h.header_len ≡ need b)
  w = whole_is b h whole

  x : List ℕ
  x = take h.header_len b

  begins : Headed b
  unfolding x
  begins = record { header = h; header_bytes = x; more = drop h.header_len b; spelled = read_is b h fits whole; cut = sym (take-append-drop h.header_len b) }

  x_len : length (take h.header_len b) ≡ h.header_len
  x_len = length-take-le h.header_len b (omega (arith, w.0, w.1))

  -- so many bytes are the whole box
  box_of : (s : ℕ) → h.size ≡ Exact s → s ≤ length b → IsBox h (drop h.header_len (take s b)) (take s b)
  box_of s size enough =
      let room : h.header_len ≤ s = subst (λ z. HasRoom z h.header_len) size (room_of b h whole) in
      let len : length (take s b) ≡ s = length-take-le s b enough in
      let header_bytes : take h.header_len (take s b) ≡ take h.header_len b = sym (take-append-le h.header_len (take s b) (drop s b) (omega (arith, len, room))) ∙ ap (take h.header_len) (take-append-drop s b) in
      record {
        header_bytes = take h.header_len b;
        spelled = read_is b h fits whole;
        whole = sym (take-append-drop h.header_len (take s b)) ∙ ap (λ l. l ++ drop h.header_len (take s b)) header_bytes;
        size = size ∙ ap Exact (sym len);
      }

  loose : (s : ℕ) → h.size ≡ Exact s → most_held h.kind.0 ≡ None → at + s ≤ longest → Split at b
  unfolding begins x
  loose s size none end = elim (cases_lt (length b) s) [
    | inl short ↦ only at b _ near (CutInBody begins s (none, size, end) short refl)
    | inr enough ↦
        let some : 0 < s = omega (arith, subst (λ z. HasRoom z h.header_len) size (room_of b h whole), w.1, need-least b) in
        let item : Item = record { header = h; bytes = take s b } in
        first at s b item (drop h.header_len (take s b)) refl (length-take-le s b enough) (box_of s size enough) (subst (IsAllowed at (take s b)) (sym none) tt) (go s some enough end)
  ]

  open_box : h.size ≡ ToEnd → most_held h.kind.0 ≡ None → at + h.header_len ≤ longest → Split at b
  unfolding begins x
  open_box size none end = elim (cases_lt longest (at + length b)) [
    | inl far ↦ only at b _ near (OpenTooFar begins (none, size) (omega (arith, end, x_len)) far refl)
    | inr low ↦ only at b _ near (Open begins (none, size) low refl)
  ]

  good_tree : (limit s : ℕ) → h.size ≡ Exact s → most_held h.kind.0 ≡ Some limit → at + s ≤ longest → s ≤ limit → s ≤ length b → (fs : List Fault) → tree_faults at (take s b) ≡ fs → Split at b
  good_tree limit s size buffered end small enough [] good =
      let some : 0 < s = omega (arith, subst (λ z. HasRoom z h.header_len) size (room_of b h whole), w.1, need-least b) in
      let len = length-take-le s b enough in
      let item : Item = record { header = h; bytes = take s b } in
      first at s b item (drop h.header_len (take s b)) refl len (box_of s size enough) (subst (IsAllowed at (take s b)) (sym buffered) (omega (arith, len, small), good)) (go s some enough end)
  good_tree limit s size buffered end small enough (f ∷ fs) bad =
      let len = length-take-le s b enough in
      let whole : Boxed b = record { header = h; payload = drop h.header_len (take s b); bytes = take s b; more = drop s b; is = box_of s size enough; cut = sym (take-append-drop s b) } in
      only at b _ near (BadTree whole limit f fs (buffered, size ∙ ap Exact (sym len), omega (arith, len, end)) (omega (arith, len, small)) bad refl)

  buffered_box : (limit s : ℕ) → h.size ≡ Exact s → most_held h.kind.0 ≡ Some limit → at + s ≤ longest → Split at b
  unfolding begins x
  buffered_box limit s size buffered end = elim (cases_lt limit s) [
    | inl large ↦ only at b _ near (Large begins s limit (buffered, size, end) large refl)
    | inr small ↦ elim (cases_lt (length b) s) [
      | inl short ↦ only at b _ near (CutInHeld begins s limit (buffered, size, end) small short refl)
      | inr enough ↦ good_tree limit s size buffered end small enough (tree_faults at (take s b)) refl
    ]
  ]

  by_size : (size : Size) (most : Option ℕ) → h.size ≡ size → most_held h.kind.0 ≡ most → least_end at h size ≤ longest → Split at b
  unfolding begins x
  by_size (Exact s) None e buffered end = loose s e buffered end
  by_size ToEnd None e buffered end = open_box e buffered end
  by_size (Exact s) (Some limit) e buffered end = buffered_box limit s e buffered end
  by_size ToEnd (Some limit) e buffered end = only at b _ near (Unsized begins limit buffered e (omega (arith, end, x_len)) refl)

  pub by_header : Split at b
  unfolding begins x
  by_header = elim (cases_lt longest (least_end at h h.size)) [
    | inl far ↦ only at b _ near (TooFar begins far refl)
    | inr end ↦ by_size h.size (most_held h.kind.0) refl refl end
  ]

by_step : (at : ℕ) (b : List ℕ) (s : Step) → at ≤ longest → IsBytes b → 0 < length b → header_at b ≡ s → ((n : ℕ) → 0 < n → n ≤ length b → at + n ≤ longest → Split (at + n) (drop n b)) → Split at b
by_step at b steps.More near fits some e go = only at b _ near (CutInHeader some (cut_is b e) refl)
by_step at b steps.BadSize near fits some e go = only at b _ near (BadHeader (bad_is b e) (λ h p. let found = sym (ap result_of e) ∙ (header-begins b h fits).1 p in absurd cc) refl)
by_step at b (steps.Whole h) near fits some e go = by_header at b near fits h e go

split_of : (n : ℕ) (at : ℕ) (b : List ℕ) → length b ≤ n → at ≤ longest → IsBytes b → Split at b
split_of n at [] low near fits = only at [] empty_reading near (Ended refl refl)
split_of zero at (a ∷ b) low near fits = absurd (omega arith)
split_of (suc n) at (a ∷ b) low near fits =
    by_step at (a ∷ b) (header_at (a ∷ b)) near fits (omega arith) refl
    (λ s some enough end. split_of n (at + s) (drop s (a ∷ b)) (omega (arith, length-drop s (a ∷ b), low, some)) end (IsBytes-drop s (a ∷ b) fits))

-- each stream is split so, and read so
pub every-stream : (b : List ℕ) → IsBytes b → (s : Split 0 b) × (reading 0 b ≡ after (boxes_effects 0 s.boxes) s.reading)
every-stream b fits =
    let s = split_of (length b) 0 b (omega arith) (omega arith) fits in
    let rest : s.rest ≡ drop (length (joined s.boxes)) b = sym (drop-append_seam (joined s.boxes) s.rest) ∙ ap (drop (length (joined s.boxes))) (sym s.cut) in (
      s,
      ap (reading 0) s.cut ∙ reading-boxes s.boxes 0 s.rest s.sound s.near
          ∙ ap (after (boxes_effects 0 s.boxes)) (rest-reads (0 + length (joined s.boxes)) s.rest s.reading (subst IsBytes (sym rest) (IsBytes-drop (length (joined s.boxes)) b fits)) s.is),
    )
