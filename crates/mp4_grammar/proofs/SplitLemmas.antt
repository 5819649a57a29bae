-- Each fragmented stream is whole items that break no rule, and then one of the rests.
use Rattle.std.proofs.Common.{◌≡◌, ◌∙◌, ℕ, zero, suc, ◌+◌, ◌<◌, ◌≤◌, inl, inr, List, [], ◌∷◌, ◌++◌, length, take, drop, Option, None, Some, ap, sym, refl, subst, arith, append_assoc, length-append, length-take-le, take-append-drop}
use Rattle.std.proofs.Math.Seq.{drop-append_seam}
use Rattle.std.proofs.lemmas.Bool.{cases_lt}
use Rattle.std.proofs.lemmas.List.{take-append-le}
use Rattle.std.specs.Option.{option_or}
use Rattle.mp4_box.specs.Headers.{BeginsWith, HasRoom, Headed, IsBytes, header_at, result_of}
use Rattle.mp4_box.specs.Order.{least}
use Rattle.mp4_box.specs.declared.headers.Header.{Header}
use Rattle.mp4_box.specs.declared.headers.Size.{Size}
use Rattle.mp4_box.specs.declared.headers.Size.TheVariants.{Exact, ToEnd}
use Rattle.mp4_box.specs.declared.headers.Step.{Step}
use Rattle.mp4_box.specs.declared.headers.Step.TheVariants as steps
use Rattle.mp4_box.specs.declared.rules.Fault.{Fault}
use Rattle.mp4_box.specs.declared.rules.Rule.TheVariants.{NoMoov, SecondMoov, StrayMdat}
use Rattle.mp4_box.proofs.HeaderLemmas.{IsBytes-drop, bad_is, cut_is, need-least, read_is, room_of, whole_is}
use Rattle.mp4_box.proofs.HeaderAnswers.{head-need, header-begins}
use Rattle.mp4_init.specs.Moovs.{moov_fault}
use Rattle.mp4_init.specs.declared.table.Track.{Track}
use Rattle.mp4_frag.specs.Moofs.{fault_before_times, moof_trafs, time_faults}
use Rattle.mp4_traf.specs.Runs.{moof_at}
use Rattle.mp4_machine.specs.Bodies.{least_end, longest}
use Rattle.mp4_machine.specs.Readings.{Reading, after}
use Rattle.mp4_grammar.specs.declared.kinds.Kind.{Kind}
use Rattle.mp4_grammar.specs.declared.kinds.Kind.TheVariants.{Mdat, Moof, Moov, Other}
use Rattle.mp4_grammar.specs.Contexts.{Context, first_context}
use Rattle.mp4_grammar.specs.Items.{reads_in}
use Rattle.mp4_grammar.specs.Joined.{IsGood, IsMoofHere, IsMoovHere, IsOne, IsSound, Item, Movie, MovieFragment, OneBox, PassedOver, context_after, context_after_all, bytes_of, fragment_here, joined, listed, items_effects, tracks_in}
use Rattle.mp4_grammar.specs.Kinds.{kind_in, most_moof, most_moov}
use Rattle.mp4_grammar.specs.Meanings.{Meaning, fragment_fault, needed_in}
use Rattle.mp4_grammar.specs.Rests.{AfterMoof, BadFragment, BadHeader, BadMoof, BadMoov, Boxed, CutInBody, CutInHeader, CutInHeld, CutInMedia, Ended, IsAfterMoof, IsRest, Large, LateMoof, NoMdat, NotMdat, Open, OpenMedia, OpenMediaCut, OpenMediaTooFar, OpenTooFar, OutOfPlace, SecondBadHeader, SecondCutInHeader, SecondTooFar, Split, TooFar, Unsized, most_here}
use Rattle.mp4_grammar.proofs.JoinLemmas.{after-at, reads-items}
use Rattle.mp4_grammar.proofs.RestLemmas.{rest-reads}

-- ---- a box at the front

module _ (b : List ℕ) (fits : IsBytes b) (h : Header) (whole : header_at b ≡ steps.Whole h) where
  head_len : length (take h.header_len b) ≡ h.header_len
  head_len = let w = whole_is b h whole in length-take-le h.header_len b (omega (arith, w.0, w.1))

  abbrev begins : Headed b
  begins = record { header = h; header_bytes = take h.header_len b; more = drop h.header_len b; spelled = read_is b h fits whole; cut = sym (take-append-drop h.header_len b) }

  -- so many bytes are the whole box
  abbrev front : ℕ → OneBox
  front s = record { header = h; bytes = take s b }

  abbrev boxed : ℕ → Boxed b
  boxed s = record { box = front s; more = drop s b; cut = sym (take-append-drop s b) }

  one_of : (kind : Kind) (s : ℕ) → kind_in h.kind.0 ≡ kind → h.size ≡ Exact s → s ≤ length b → IsOne kind (front s)
  one_of kind s is size enough =
      let room : h.header_len ≤ s = subst (λ z. HasRoom z h.header_len) size (room_of b h whole) in
      let len : length (take s b) ≡ s = length-take-le s b enough in
      let header_bytes : take h.header_len (take s b) ≡ take h.header_len b = sym (take-append-le h.header_len (take s b) (drop s b) (omega (arith, len, room))) ∙ ap (take h.header_len) (take-append-drop s b) in
      record {
        type = is;
        payload = drop h.header_len (take s b);
        is = record {
          header_bytes = take h.header_len b;
          spelled = read_is b h fits whole;
          whole = sym (take-append-drop h.header_len (take s b)) ∙ ap (λ l. l ++ drop h.header_len (take s b)) header_bytes;
          size = size ∙ ap Exact (sym len);
        };
      }

-- no header begins these bytes
no_header : (b : List ℕ) → IsBytes b → header_at b ≡ steps.BadSize → (h : Header) → BeginsWith h b → ⊥
no_header b fits e h p = let found = sym (ap result_of e) ∙ (header-begins b h fits).1 p in absurd cc

-- ---- after a sound moof x

-- one of the rests, or a whole mdat with which the fragment is sound
data Second (meaning : Meaning) (c : Context) (x z : List ℕ) : Type 0 where
  Stops : (s : Reading) → IsAfterMoof meaning c x z s → Second meaning c x z
  Follows : (mdat : OneBox) (more : List ℕ) → z ≡ mdat.bytes ++ more → IsOne Mdat mdat → IsGood meaning c x mdat.header → c.at + length x + length mdat.bytes ≤ longest → Second meaning c x z

module _ (meaning : Meaning) (c : Context) (x z : List ℕ) (fits : IsBytes z) where
  module _ (h : Header) (whole : header_at z ≡ steps.Whole h) where
    second_size : (size : Size) → h.size ≡ size → kind_in h.kind.0 ≡ Mdat → IsGood meaning c x h → least_end (c.at + length x) h size ≤ longest → Second meaning c x z
    second_size (Exact s) size is good near = elim (cases_lt (length z) s) [
      | inl short ↦ Stops _ (CutInMedia (begins z fits h whole) s (is, size, near) good short refl)
      | inr enough ↦ Follows (front z fits h whole s) (drop s z) (sym (take-append-drop s z)) (one_of z fits h whole Mdat s is size enough) good (omega (arith, near, length-take-le s z enough))
    ]
    second_size ToEnd size is good near = elim (cases_lt longest (c.at + length x + length z)) [
      | inl far ↦ Stops _ (OpenMediaTooFar (begins z fits h whole) (is, size) good (omega (arith, near, head_len z fits h whole)) far refl)
      | inr low ↦ elim (cases_lt (length (drop h.header_len z)) (needed_in (fragment_here c x h))) [
        | inl short ↦ Stops _ (OpenMediaCut (begins z fits h whole) (is, size) good low short refl)
        | inr enough ↦ Stops _ (OpenMedia (begins z fits h whole) (is, size) good low enough refl)
      ]
    ]

    second_fault : (g : Option Fault) → fragment_fault meaning (fragment_here c x h) ≡ g → kind_in h.kind.0 ≡ Mdat → least_end (c.at + length x) h h.size ≤ longest → Second meaning c x z
    second_fault (Some f) bad is near = Stops _ (BadFragment (begins z fits h whole) f is near bad refl)
    second_fault None good is near = second_size h.size refl is good near

    second_kind : (kind : Kind) → kind_in h.kind.0 ≡ kind → least_end (c.at + length x) h h.size ≤ longest → Second meaning c x z
    second_kind Mdat is near = second_fault (fragment_fault meaning (fragment_here c x h)) refl is near
    second_kind Moov is near = Stops _ (NotMdat (begins z fits h whole) (λ e. let both : Moov ≡ Mdat = sym is ∙ e in absurd cc) near refl)
    second_kind Moof is near = Stops _ (NotMdat (begins z fits h whole) (λ e. let both : Moof ≡ Mdat = sym is ∙ e in absurd cc) near refl)
    second_kind Other is near = Stops _ (NotMdat (begins z fits h whole) (λ e. let both : Other ≡ Mdat = sym is ∙ e in absurd cc) near refl)

  second_step : (s : Step) → header_at z ≡ s → 0 < length z → Second meaning c x z
  second_step steps.More e some = Stops _ (SecondCutInHeader some (cut_is z e) refl)
  second_step steps.BadSize e some = Stops _ (SecondBadHeader (bad_is z e) (no_header z fits e) refl)
  second_step (steps.Whole h) e some = elim (cases_lt longest (least_end (c.at + length x) h h.size)) [
    | inl far ↦ Stops _ (SecondTooFar (begins z fits h e) far refl)
    | inr near ↦ second_kind h e (kind_in h.kind.0) refl near
  ]

second_of : (meaning : Meaning) (c : Context) (x z : List ℕ) → IsBytes z → Second meaning c x z
second_of meaning c x [] fits = Stops _ (NoMdat refl refl)
second_of meaning c x (a ∷ z) fits = second_step meaning c x (a ∷ z) fits (header_at (a ∷ z)) refl (omega arith)

-- ---- the item at the front

-- nothing but a rest
only : (meaning : Meaning) (c : Context) (y : List ℕ) (r : Reading) → c.at ≤ longest → IsRest meaning c y r → Split meaning c y
only meaning c y r near is = record { items = []; rest = y; cut = refl; sound = tt; near = omega (arith, near); reading = r; is = is }

-- an item, and then a split
first : (meaning : Meaning) (c : Context) (i : Item) (b more : List ℕ) → b ≡ bytes_of i ++ more → IsSound meaning c i → Split meaning (context_after meaning c i) more → Split meaning c b
first meaning c i b more cut sound split = record {
  items = i ∷ split.items;
  rest = split.rest;
  cut = cut ∙ ap (λ l. bytes_of i ++ l) split.cut ∙ sym (append_assoc (bytes_of i) (joined split.items) split.rest);
  sound = (sound, split.sound);
  near = omega (arith, split.near, after-at meaning c i, length-append (bytes_of i) (joined split.items));
  reading = split.reading;
  is = split.is;
}

one_some : (kind : Kind) (b : OneBox) → IsOne kind b → 0 < length b.bytes
one_some kind b one = omega (arith, ap length one.is.whole, length-append one.is.header_bytes one.payload, head-need b.header one.is.header_bytes one.is.spelled, need-least one.is.header_bytes)

item_some : (meaning : Meaning) (c : Context) (i : Item) → IsSound meaning c i → 0 < length (bytes_of i)
item_some meaning c (PassedOver b) one = one_some Other b one
item_some meaning c (Movie b) (here, good) = one_some Moov b here.one
item_some meaning c (MovieFragment moof mdat) (here, good, one, none) = omega (arith, one_some Moof moof here.one, length-append moof.bytes mdat.bytes)

-- how it goes on after an item
abbrev GoesOn : Meaning → Context → List ℕ → Type 0
GoesOn meaning c b = (i : Item) (more : List ℕ) → b ≡ bytes_of i ++ more → IsSound meaning c i → c.at + length (bytes_of i) ≤ longest → Split meaning c b

known_is : (c : Context) (tracks : List Track) → c.tracks ≡ Some tracks → c.tracks ≡ Some (tracks_in c)
known_is c tracks e = e ∙ ap Some (sym (ap listed e))

module _ (meaning : Meaning) (c : Context) (b : List ℕ) (near : c.at ≤ longest) (fits : IsBytes b) (go : GoesOn meaning c b) where
  -- a good moof
  good_moof : (x : Boxed b) → IsMoofHere c x.box → c.at + length x.box.bytes ≤ longest → fault_before_times (moof_at x.box.bytes c.at) (tracks_in c) ≡ None → least (time_faults (moof_trafs (moof_at x.box.bytes c.at) (tracks_in c))) ≡ None → Second meaning c x.box.bytes x.more → Split meaning c b
  good_moof x here end good late (Stops s is) =
      only meaning c b _ near (AfterMoof x s here end (ap (λ o. option_or o (least (time_faults (moof_trafs (moof_at x.box.bytes c.at) (tracks_in c))))) good ∙ late) is refl)
  good_moof x here end good late (Follows mdat more cut one none far) =
      go (MovieFragment x.box mdat) more (x.cut ∙ ap (λ l. x.box.bytes ++ l) cut ∙ sym (append_assoc x.box.bytes mdat.bytes more))
      (here, ap (λ o. option_or o (least (time_faults (moof_trafs (moof_at x.box.bytes c.at) (tracks_in c))))) good ∙ late, one, none) (omega (arith, far, length-append x.box.bytes mdat.bytes))

  late_moof : (x : Boxed b) (g : Option Fault) → IsMoofHere c x.box → c.at + length x.box.bytes ≤ longest → fault_before_times (moof_at x.box.bytes c.at) (tracks_in c) ≡ None → least (time_faults (moof_trafs (moof_at x.box.bytes c.at) (tracks_in c))) ≡ g → Split meaning c b
  late_moof x (Some f) here end good late = only meaning c b _ near (LateMoof x f here end good late refl)
  late_moof x None here end good late =
      let rest : x.more ≡ drop (length x.box.bytes) b = sym (drop-append_seam x.box.bytes x.more) ∙ ap (drop (length x.box.bytes)) (sym x.cut) in
      good_moof x here end good late (second_of meaning c x.box.bytes x.more (subst IsBytes (sym rest) (IsBytes-drop (length x.box.bytes) b fits)))

  early_moof : (x : Boxed b) (g : Option Fault) → IsMoofHere c x.box → c.at + length x.box.bytes ≤ longest → fault_before_times (moof_at x.box.bytes c.at) (tracks_in c) ≡ g → Split meaning c b
  early_moof x (Some f) here end bad = only meaning c b _ near (BadMoof x f here end bad refl)
  early_moof x None here end good = late_moof x (least (time_faults (moof_trafs (moof_at x.box.bytes c.at) (tracks_in c)))) here end good refl

  whole_moov : (x : Boxed b) (g : Option Fault) → IsMoovHere c x.box → c.at + length x.box.bytes ≤ longest → moov_fault c.at x.box.bytes ≡ g → Split meaning c b
  whole_moov x (Some f) here end bad = only meaning c b _ near (BadMoov x f here end bad refl)
  whole_moov x None here end good = go (Movie x.box) x.more x.cut (here, good) end

  module _ (h : Header) (whole : header_at b ≡ steps.Whole h) where
    -- a box that is held, all of which came
    held_whole : (kind : Kind) (tracks : Option (List Track)) (limit s : ℕ) → kind_in h.kind.0 ≡ kind → c.tracks ≡ tracks → most_here kind tracks ≡ Some limit → h.size ≡ Exact s → s ≤ limit → s ≤ length b → c.at + s ≤ longest → Split meaning c b
    held_whole Moov None limit s is known here size small enough end =
        let len = length-take-le s b enough in
        let limit_is : most_moov ≡ limit = cc in
        whole_moov (boxed b fits h whole s) (moov_fault c.at (take s b)) (record { one = one_of b fits h whole Moov s is size enough; none = known; small = omega (arith, len, small, limit_is) }) (omega (arith, len, end)) refl
    held_whole Moof (Some tracks) limit s is known here size small enough end =
        let len = length-take-le s b enough in
        let limit_is : most_moof ≡ limit = cc in
        early_moof (boxed b fits h whole s) (fault_before_times (moof_at (take s b) c.at) (tracks_in c))
        (record { one = one_of b fits h whole Moof s is size enough; known = known_is c tracks known; small = omega (arith, len, small, limit_is) }) (omega (arith, len, end)) refl
    held_whole Moov (Some tracks) limit s is known here size small enough end = absurd cc
    held_whole Moof None limit s is known here size small enough end = absurd cc
    held_whole Mdat tracks limit s is known here size small enough end = absurd cc
    held_whole Other tracks limit s is known here size small enough end = absurd cc

    held : (size : Size) (limit : ℕ) → h.size ≡ size → most_here (kind_in h.kind.0) c.tracks ≡ Some limit → least_end c.at h size ≤ longest → Split meaning c b
    held ToEnd limit size here end = only meaning c b _ near (Unsized (begins b fits h whole) limit here size (omega (arith, end, head_len b fits h whole)) refl)
    held (Exact s) limit size here end = elim (cases_lt limit s) [
      | inl large ↦ only meaning c b _ near (Large (begins b fits h whole) s limit (here, size, end) large refl)
      | inr small ↦ elim (cases_lt (length b) s) [
        | inl short ↦ only meaning c b _ near (CutInHeld (begins b fits h whole) s limit (here, size, end) small short refl)
        | inr enough ↦ held_whole (kind_in h.kind.0) c.tracks limit s refl refl here size small enough end
      ]
    ]

    passed : (size : Size) → h.size ≡ size → kind_in h.kind.0 ≡ Other → least_end c.at h size ≤ longest → Split meaning c b
    passed (Exact s) size is end = elim (cases_lt (length b) s) [
      | inl short ↦ only meaning c b _ near (CutInBody (begins b fits h whole) s (is, size, end) short refl)
      | inr enough ↦ go (PassedOver (front b fits h whole s)) (drop s b) (sym (take-append-drop s b)) (one_of b fits h whole Other s is size enough) (omega (arith, end, length-take-le s b enough))
    ]
    passed ToEnd size is end = elim (cases_lt longest (c.at + length b)) [
      | inl far ↦ only meaning c b _ near (OpenTooFar (begins b fits h whole) (is, size) (omega (arith, end, head_len b fits h whole)) far refl)
      | inr low ↦ only meaning c b _ near (Open (begins b fits h whole) (is, size) low refl)
    ]

    by_kind : (kind : Kind) (tracks : Option (List Track)) → kind_in h.kind.0 ≡ kind → c.tracks ≡ tracks → least_end c.at h h.size ≤ longest → Split meaning c b
    by_kind Moov None is known end = held h.size most_moov refl (rw (is, known) refl) end
    by_kind Moof (Some tracks) is known end = held h.size most_moof refl (rw (is, known) refl) end
    by_kind Moov (Some tracks) is known end = only meaning c b _ near (OutOfPlace (begins b fits h whole) SecondMoov (rw (is, known) refl) end refl)
    by_kind Moof None is known end = only meaning c b _ near (OutOfPlace (begins b fits h whole) NoMoov (rw (is, known) refl) end refl)
    by_kind Mdat tracks is known end = only meaning c b _ near (OutOfPlace (begins b fits h whole) StrayMdat (rw is refl) end refl)
    by_kind Other tracks is known end = passed h.size refl is end

  by_step : (s : Step) → header_at b ≡ s → 0 < length b → Split meaning c b
  by_step steps.More e some = only meaning c b _ near (CutInHeader some (cut_is b e) refl)
  by_step steps.BadSize e some = only meaning c b _ near (BadHeader (bad_is b e) (no_header b fits e) refl)
  by_step (steps.Whole h) e some = elim (cases_lt longest (least_end c.at h h.size)) [
    | inl far ↦ only meaning c b _ near (TooFar (begins b fits h e) far refl)
    | inr end ↦ by_kind h e (kind_in h.kind.0) c.tracks refl refl end
  ]

-- ---- the whole

split_of : (meaning : Meaning) (n : ℕ) (c : Context) (b : List ℕ) → length b ≤ n → c.at ≤ longest → IsBytes b → Split meaning c b
split_of meaning n c [] low near fits = only meaning c [] _ near (Ended refl refl)
split_of meaning zero c (a ∷ b) low near fits = absurd (omega arith)
split_of meaning (suc n) c (a ∷ b) low near fits =
    by_step meaning c (a ∷ b) near fits
    (λ i more cut sound end.
    let rest : more ≡ drop (length (bytes_of i)) (a ∷ b) = sym (drop-append_seam (bytes_of i) more) ∙ ap (drop (length (bytes_of i))) (sym cut) in
    first meaning c i (a ∷ b) more cut sound
    (split_of meaning n (context_after meaning c i) more (omega (arith, low, ap length cut, length-append (bytes_of i) more, item_some meaning c i sound)) (omega (arith, end, after-at meaning c i))
    (subst IsBytes (sym rest) (IsBytes-drop (length (bytes_of i)) (a ∷ b) fits))))
    (header_at (a ∷ b)) refl (omega arith)

-- each stream is split so, and read so
pub every-stream : (meaning : Meaning) (b : List ℕ) → IsBytes b → (s : Split meaning first_context b) × (reads_in meaning first_context b ≡ after (items_effects meaning first_context s.items) s.reading)
every-stream meaning b fits =
    let s = split_of meaning (length b) first_context b (omega arith) (omega arith) fits in
    let rest : s.rest ≡ drop (length (joined s.items)) b = sym (drop-append_seam (joined s.items) s.rest) ∙ ap (drop (length (joined s.items))) (sym s.cut) in (
      s,
      ap (reads_in meaning first_context) s.cut ∙ reads-items meaning s.items first_context s.rest s.sound s.near
          ∙ ap (after (items_effects meaning first_context s.items)) (rest-reads meaning (context_after_all meaning first_context s.items) s.rest s.reading (subst IsBytes (sym rest) (IsBytes-drop (length (joined s.items)) b fits)) s.is),
    )
