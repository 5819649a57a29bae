-- A command that writes no text reads each stream as the one that does, but for the text.
use Rattle.std.proofs.Common.{◌≡◌, ◌∙◌, ℕ, zero, suc, ◌+◌, ◌-◌, ◌*◌, List, [], ◌∷◌, ◌++◌, length, take, drop, map, Option, None, Some, Bool, true, false, ap, sym, refl}
use Rattle.std.proofs.lemmas.List.{map-append}
use Rattle.std.specs.Prelude.{nat_lt}
use Rattle.std.specs.Option.{option_or}
use Rattle.mp4_box.specs.declared.headers.FourCc.{FourCc}
use Rattle.mp4_box.specs.declared.headers.Header.{Header}
use Rattle.mp4_box.specs.declared.headers.Size.{Size}
use Rattle.mp4_box.specs.declared.headers.Size.TheVariants.{Exact, ToEnd}
use Rattle.mp4_box.specs.declared.headers.Step.{Step}
use Rattle.mp4_box.specs.declared.headers.Step.TheVariants as steps
use Rattle.mp4_box.specs.declared.rules.Fault.{Fault}
use Rattle.mp4_box.specs.declared.rules.Rule.TheVariants.{Truncated, StreamTooLong}
use Rattle.mp4_box.specs.Headers.{header_at}
use Rattle.mp4_box.specs.Order.{least}
use Rattle.mp4_init.specs.Moovs.{moov_fault, moov_tracks}
use Rattle.mp4_init.specs.declared.table.Track.{Track}
use Rattle.mp4_frag.specs.Moofs.{fault_before_times, moof_runs, moof_trafs, time_faults}
use Rattle.mp4_frag.specs.Places.{place_fault}
use Rattle.mp4_traf.specs.Runs.{moof_at}
use Rattle.mp4_machine.specs.Bodies.{fault, least_end, longest, body_item, open_body_item}
use Rattle.mp4_machine.specs.Readings.{Request, CutOff, Faulty, FirstItem, Last, Outcome, Reading, Sound, Effects, Whole, after, after_effects, requests_memory, both, counts, plus, read_all, read_at_most, says, shifted, then_read}
use Rattle.mp4_grammar.specs.declared.kinds.Kind.{Kind}
use Rattle.mp4_grammar.specs.declared.kinds.Kind.TheVariants.{Moov, Moof, Mdat, Other}
use Rattle.mp4_grammar.specs.Kinds.{kind_in, most_moof, most_moov}
use Rattle.mp4_grammar.specs.Contexts.{Context, context, table_of}
use Rattle.mp4_grammar.specs.Meanings.{Fragment, Meaning, fragment_fault, needed_in, settled_in}
use Rattle.mp4_grammar.specs.Items.{after_moof, after_moof_by, context_after_fragment, box_from, box_in, fragment, item, item_by, keeping, buffered_body, mdat_by, media_body, moof_box, moov_box, passing, reads_in, second, second_by, timed_box, inspected, whole_box_by, with_runs}
use Rattle.mp4_grammar.specs.WithoutText.{IsWithoutText, request_without_text, effects_without_text, without_text}

-- ---- one after the other

asks-shifted : (s : Effects) (xs : List Request) → map request_without_text (shifted s xs) ≡ shifted (effects_without_text s) (map request_without_text xs)
asks-shifted s [] = refl
asks-shifted s (a ∷ xs) = ap (λ (l : List Request). record { at = a.at; sum = a.sum; text_before = 0; counted = plus s.tally a.counted } ∷ l) (asks-shifted s xs)

both-without : (s t : Effects) → effects_without_text (both s t) ≡ both (effects_without_text s) (effects_without_text t)
both-without s t =
    ap (λ (l : List Request). record { text = []; requests = l; fragment_ends = []; tally = plus s.tally t.tally })
    (map-append request_without_text s.requests (shifted s t.requests) ∙ ap (λ (l : List Request). map request_without_text s.requests ++ l) (asks-shifted s t.requests))

-- ---- what is at the front

abbrev front_without : {C : Type 0} → FirstItem C → FirstItem C
front_without (Last r) = Last (without_text r)
front_without (Whole effects next rest) = Whole (effects_without_text effects) next rest

-- g is f without its text
abbrev IsWithout : {C : Type 0} → (f g : FirstItem C) → Type 0
IsWithout f g = g ≡ front_without f

front-after : {C : Type 0} (t : Effects) (f : FirstItem C) → front_without (after_effects t f) ≡ after_effects (effects_without_text t) (front_without f)
front-after t (Last r) = ap (λ (u : Effects). Last (record { effects = u; outcome = r.outcome })) (both-without t r.effects)
front-after t (Whole effects next rest) = ap (λ (u : Effects). Whole u next rest) (both-without t effects)

after-without : {C : Type 0} (t u : Effects) (f g : FirstItem C) → u ≡ effects_without_text t → IsWithout f g → IsWithout (after_effects t f) (after_effects u g)
after-without t u f g e h = ap (λ (v : Effects). after_effects v g) e ∙ ap (after_effects (effects_without_text t)) h ∙ sym (front-after t f)

module _ (emit bare : List ℕ → Effects) (same : (b : List ℕ) → bare b ≡ effects_without_text (emit b)) (at : ℕ) (kind : FourCc) where
  ends : (b : List ℕ) (outcome : Outcome) → record { effects = bare b; outcome = outcome } ≡ without_text (record { effects = emit b; outcome = outcome })
  ends b outcome = ap (λ (u : Effects). record { effects = u; outcome = outcome }) (same b)

  body-without : {C : Type 0} (next : C) (left : ℕ) (b : List ℕ) (t : Bool) → nat_lt (length b) left ≡ t → IsWithout (body_item emit at kind next left b) (body_item bare at kind next left b)
  body-without next left b true e = rw e (ap Last (ends b (CutOff (fault Truncated (Some kind) at))))
  body-without next left b false e = rw e (ap (λ (u : Effects). Whole u next (drop left b)) (same (take left b)))

  open-without : (C : Type 0) (needed left : ℕ) (b : List ℕ) (t u : Bool) → nat_lt left (length b) ≡ t → nat_lt (length b) needed ≡ u → IsWithout {C = C} (open_body_item emit at kind needed left b) (open_body_item bare at kind needed left b)
  open-without C needed left b true u e d = rw e (ap Last (ends (take left b) (Faulty (fault StreamTooLong (Some kind) at))))
  open-without C needed left b false true e d = rw (e, d) (ap Last (ends b (CutOff (fault Truncated (Some kind) at))))
  open-without C needed left b false false e d = rw (e, d) (ap Last (ends b Sound))

-- ---- the items of a stream

module _ (meaning no_effects : Meaning) (w : IsWithoutText meaning no_effects) where
  -- after a moof

  next-same : (f : Fragment) (at : ℕ) → context_after_fragment no_effects f at ≡ context_after_fragment meaning f at
  next-same f at = ap (λ (n : ℕ). context at (Some (settled_in f)) n) (w.numbered f)

  media-without : (f : Fragment) (next : ℕ) (h : Header) (size : Size) (b : List ℕ) → IsWithout (media_body meaning f next h size b) (media_body no_effects f next h size b)
  media-without f next h (Exact s) b =
      ap (λ (c : Context). body_item (no_effects.media f) next h.kind c (s - h.header_len) b) (next-same f (next + s))
      ∙ body-without (meaning.media f) (no_effects.media f) (w.media f) next h.kind (context_after_fragment meaning f (next + s)) (s - h.header_len) b _ refl
  media-without f next h ToEnd b = open-without (meaning.media f) (no_effects.media f) (w.media f) next h.kind Context (needed_in f) (longest - (next + h.header_len)) b _ _ refl refl

  mdat-without : (f : Fragment) (next : ℕ) (h : Header) (b : List ℕ) (g : Option Fault) → IsWithout (mdat_by meaning f next h b g) (mdat_by no_effects f next h b g)
  mdat-without f next h b (Some g) = refl
  mdat-without f next h b None = after-without (meaning.accepted f) (no_effects.accepted f) (media_body meaning f next h h.size b) (media_body no_effects f next h h.size b) (w.accepted f) (media-without f next h h.size b)

  fault-same : (f : Fragment) → fragment_fault no_effects f ≡ fragment_fault meaning f
  fault-same f = ap (option_or (place_fault f.payload (moof_runs f.moof f.tracks))) (w.refuses f)

  second_by-without : (c : Context) (tracks : List Track) (x : List ℕ) (h : Header) (b : List ℕ) (kind : Kind) → IsWithout (second_by meaning c tracks x h b kind) (second_by no_effects c tracks x h b kind)
  second_by-without c tracks x h b Moov = refl
  second_by-without c tracks x h b Moof = refl
  second_by-without c tracks x h b Other = refl
  second_by-without c tracks x h b Mdat =
      let f = fragment c tracks x h in
      let at = c.at + length x in
      ap (mdat_by no_effects f at h b) (fault-same f) ∙ mdat-without f at h b (fragment_fault meaning f)

  second-without : (c : Context) (tracks : List Track) (x : List ℕ) (h : Header) (b : List ℕ) (t : Bool) → nat_lt longest (least_end (c.at + length x) h h.size) ≡ t → IsWithout (second meaning c tracks x h b) (second no_effects c tracks x h b)
  second-without c tracks x h b true e = rw e refl
  second-without c tracks x h b false e = rw e (second_by-without c tracks x h b (kind_in h.kind.0))

  after_by-without : (c : Context) (tracks : List Track) (x b : List ℕ) (s : Step) → IsWithout (after_moof_by meaning c tracks x b s) (after_moof_by no_effects c tracks x b s)
  after_by-without c tracks x b steps.More = refl
  after_by-without c tracks x b steps.BadSize = refl
  after_by-without c tracks x b (steps.Whole h) = second-without c tracks x h (drop h.header_len b) _ refl

  after_moof-without : (c : Context) (tracks : List Track) (x b : List ℕ) → IsWithout (after_moof meaning c tracks x b) (after_moof no_effects c tracks x b)
  unfolding after_moof
  after_moof-without c tracks x [] = refl
  after_moof-without c tracks x (a ∷ b) = after_by-without c tracks x (a ∷ b) (header_at (a ∷ b))

  -- a box that is held

  moov-without : (c : Context) (x rest : List ℕ) (f : Option Fault) → IsWithout (moov_box meaning c x rest f) (moov_box no_effects c x rest f)
  moov-without c x rest (Some f) = refl
  moov-without c x rest None =
      ap (λ (l : List ℕ). Whole (both (requests_memory c.at (length x + 64 * length (moov_tracks c.at x))) (says l)) (context (c.at + length x) (Some (moov_tracks c.at x)) c.number) rest) (w.of_moov x)

  timed-without : (c : Context) (tracks : List Track) (x rest : List ℕ) (f : Option Fault) → IsWithout (timed_box meaning c tracks x rest f) (timed_box no_effects c tracks x rest f)
  timed-without c tracks x rest (Some f) = refl
  timed-without c tracks x rest None =
      let requested = requests_memory c.at (with_runs c tracks x) in
      after-without requested requested (after_moof meaning c tracks x rest) (after_moof no_effects c tracks x rest) refl (after_moof-without c tracks x rest)

  moof-without : (c : Context) (tracks : List Track) (x rest : List ℕ) (f : Option Fault) → IsWithout (moof_box meaning c tracks x rest f) (moof_box no_effects c tracks x rest f)
  moof-without c tracks x rest (Some f) = refl
  moof-without c tracks x rest None =
      let late = least (time_faults (moof_trafs (moof_at x c.at) tracks)) in
      let inspection = counts (inspected (moof_at x c.at)) in
      after-without inspection inspection (timed_box meaning c tracks x rest late) (timed_box no_effects c tracks x rest late) refl (timed-without c tracks x rest late)

  whole-without : (c : Context) (x rest : List ℕ) (tracks : Option (List Track)) → IsWithout (whole_box_by meaning c x rest tracks) (whole_box_by no_effects c x rest tracks)
  whole-without c x rest None = moov-without c x rest (moov_fault c.at x)
  whole-without c x rest (Some tracks) = moof-without c tracks x rest (fault_before_times (moof_at x c.at) tracks)

  kept-without : (c : Context) (kind : FourCc) (size : ℕ) (b : List ℕ) (t : Bool) → nat_lt (length b) size ≡ t → IsWithout (buffered_body meaning c kind size b) (buffered_body no_effects c kind size b)
  kept-without c kind size b true e = rw e refl
  kept-without c kind size b false e = rw e (whole-without c (take size b) (drop size b) c.tracks)

  keeping-sized : (c : Context) (h : Header) (limit s : ℕ) (b : List ℕ) (t : Bool) → nat_lt limit s ≡ t → IsWithout (keeping meaning c h limit b (Exact s)) (keeping no_effects c h limit b (Exact s))
  keeping-sized c h limit s b true e = rw e refl
  keeping-sized c h limit s b false e =
      let requested = requests_memory c.at (table_of c.tracks + s) in
      rw e (after-without requested requested (buffered_body meaning c h.kind s b) (buffered_body no_effects c h.kind s b) refl (kept-without c h.kind s b _ refl))

  keeping-without : (c : Context) (h : Header) (limit : ℕ) (b : List ℕ) (size : Size) → IsWithout (keeping meaning c h limit b size) (keeping no_effects c h limit b size)
  keeping-without c h limit b (Exact s) = keeping-sized c h limit s b _ refl
  keeping-without c h limit b ToEnd = refl

  -- the whole

  passing-without : (c : Context) (kind : FourCc) (b : List ℕ) (size : Size) → IsWithout (passing meaning c kind b size) (passing no_effects c kind b size)
  passing-without c kind b (Exact s) = body-without (meaning.passed kind) (no_effects.passed kind) (w.passed kind) c.at kind (context (c.at + s) c.tracks c.number) s b _ refl
  passing-without c kind b ToEnd = open-without (meaning.passed kind) (no_effects.passed kind) (w.passed kind) c.at kind Context 0 (longest - c.at) b _ _ refl refl

  box_in-without : (c : Context) (h : Header) (x b : List ℕ) (kind : Kind) (tracks : Option (List Track)) → IsWithout (box_in meaning c h x b kind tracks) (box_in no_effects c h x b kind tracks)
  box_in-without c h x b Moov None = keeping-without c h most_moov (x ++ b) h.size
  box_in-without c h x b Moov (Some tracks) = refl
  box_in-without c h x b Moof None = refl
  box_in-without c h x b Moof (Some tracks) = keeping-without c h most_moof (x ++ b) h.size
  box_in-without c h x b Mdat tracks = refl
  box_in-without c h x b Other tracks = passing-without c h.kind (x ++ b) h.size

  box_from-without : (c : Context) (h : Header) (x b : List ℕ) (t : Bool) → nat_lt longest (least_end c.at h h.size) ≡ t → IsWithout (box_from meaning c h x b) (box_from no_effects c h x b)
  box_from-without c h x b true e = rw e refl
  box_from-without c h x b false e = rw e (box_in-without c h x b (kind_in h.kind.0) c.tracks)

  item_by-without : (c : Context) (b : List ℕ) (s : Step) → IsWithout (item_by meaning c b s) (item_by no_effects c b s)
  item_by-without c b steps.More = refl
  item_by-without c b steps.BadSize = refl
  item_by-without c b (steps.Whole h) = box_from-without c h (take h.header_len b) (drop h.header_len b) _ refl

  item-without : (c : Context) (b : List ℕ) → IsWithout (item meaning c b) (item no_effects c b)
  unfolding item
  item-without c [] = refl
  item-without c (a ∷ b) = item_by-without c (a ∷ b) (header_at (a ∷ b))

-- ---- a reading

module _ {C : Type 0} (first_item no_effects : C → List ℕ → FirstItem C) (same : (c : C) (b : List ℕ) → IsWithout (first_item c b) (no_effects c b)) where
  then-without : (r s : C → List ℕ → Reading) → ((c : C) (b : List ℕ) → s c b ≡ without_text (r c b)) → (f : FirstItem C) → then_read s (front_without f) ≡ without_text (then_read r f)
  then-without r s h (Last x) = refl
  then-without r s h (Whole effects next rest) =
      ap (after (effects_without_text effects)) (h next rest) ∙ ap (λ (u : Effects). record { effects = u; outcome = (r next rest).outcome }) (sym (both-without effects (r next rest).effects))

  at_most-without : (n : ℕ) (c : C) (b : List ℕ) → read_at_most no_effects n c b ≡ without_text (read_at_most first_item n c b)
  at_most-without zero c b = refl
  at_most-without (suc n) c b =
      ap (then_read (λ next rest. read_at_most no_effects n next rest)) (same c b)
      ∙ then-without (λ next rest. read_at_most first_item n next rest) (λ next rest. read_at_most no_effects n next rest) (at_most-without n) (first_item c b)

  all-without : (c : C) (b : List ℕ) → read_all no_effects c b ≡ without_text (read_all first_item c b)
  unfolding read_all
  all-without c b = at_most-without (length b) c b

pub reads-without : (meaning no_effects : Meaning) → IsWithoutText meaning no_effects → (c : Context) (b : List ℕ) → reads_in no_effects c b ≡ without_text (reads_in meaning c b)
reads-without meaning no_effects w c b = all-without (item meaning) (item no_effects) (item-without meaning no_effects w) c b
