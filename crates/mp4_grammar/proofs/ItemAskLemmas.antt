-- What the items of a fragmented stream ask for, they ask for at their beginning, before any text.
use Rattle.std.proofs.Common.{◌≡◌, ◌∙◌, ℕ, ◌+◌, ◌-◌, List, [], ◌∷◌, ◌++◌, length, take, drop, Option, None, Some, Bool, true, false, ap, sym, refl, arith, subst}
use Rattle.std.specs.Prelude.{nat_lt}
use Rattle.mp4_box.specs.declared.headers.FourCc.{FourCc}
use Rattle.mp4_box.specs.declared.headers.Header.{Header}
use Rattle.mp4_box.specs.declared.headers.Size.{Size}
use Rattle.mp4_box.specs.declared.headers.Size.TheVariants.{Exact, ToEnd}
use Rattle.mp4_box.specs.declared.headers.Step.{Step}
use Rattle.mp4_box.specs.declared.headers.Step.TheVariants as steps
use Rattle.mp4_box.specs.declared.rules.Fault.{Fault}
use Rattle.mp4_box.specs.Headers.{header_at}
use Rattle.mp4_box.specs.Order.{least}
use Rattle.mp4_init.specs.Moovs.{moov_fault}
use Rattle.mp4_init.specs.declared.table.Track.{Track}
use Rattle.mp4_frag.specs.Moofs.{fault_before_times, moof_samples, moof_trafs, time_faults}
use Rattle.mp4_traf.specs.Runs.{moof_at}
use Rattle.mp4_machine.specs.Bodies.{least_end, longest, body_item, open_body_item}
use Rattle.mp4_machine.specs.Readings.{Request, Effects, counts, requests_memory, FirstItem, after_effects}
use Rattle.mp4_machine.proofs.PastLemmas.{effects_of}
use Rattle.mp4_machine.proofs.ReadingItemLemmas.{Each, IsFirst}
use Rattle.mp4_grammar.specs.declared.kinds.Kind.{Kind}
use Rattle.mp4_grammar.specs.declared.kinds.Kind.TheVariants.{Moov, Moof, Mdat, Other}
use Rattle.mp4_grammar.specs.Kinds.{kind_in, most_moof, most_moov}
use Rattle.mp4_grammar.specs.Contexts.{Context, context, table_of}
use Rattle.mp4_grammar.specs.Meanings.{Fragment, Meaning, fragment_fault, needed_in}
use Rattle.mp4_grammar.specs.Items.{media_body, context_after_fragment, fragment, mdat_by, second_by, second, after_moof_by, after_moof, moov_box, inspected, with_runs, timed_box, moof_box, whole_box_by, buffered_body, keeping, passing, box_in, box_from, item_by, item}
use Rattle.mp4_grammar.proofs.AskLemmas.{Each-append, Each-shifted, Each-all, IsCountedFirst, IsUncounted, asks-after, IsUncounted-inspects}

-- the effects of a command for media and other boxes request nothing
pub record HasNoEffects (meaning : Meaning) : Type 0 where
  pub accepted : (f : Fragment) → (meaning.accepted f).requests ≡ []
  pub media : (f : Fragment) (b : List ℕ) → (meaning.media f b).requests ≡ []
  pub passed : (kind : FourCc) (b : List ℕ) → (meaning.passed kind b).requests ≡ []

-- nothing is asked for
abbrev pub MakesNoEffects : {C : Type 0} → FirstItem C → Type 0
MakesNoEffects f = (effects_of f).requests ≡ []

-- requests at an offset, before any text, and before anything is counted but samples that were inspected
pub record Opens (at : ℕ) (a : Request) : Type 0 where
  pub first : IsFirst at a
  pub counted : IsCountedFirst at a

abbrev AllOpen : {C : Type 0} → ℕ → FirstItem C → Type 0
AllOpen at f = Each (Opens at) (effects_of f).requests

silent-after : {C : Type 0} (t : Effects) (f : FirstItem C) → t.requests ≡ [] → MakesNoEffects f → MakesNoEffects (after_effects t f)
silent-after t f h k = asks-after t f ∙ rw (h, k) refl

-- ---- after a moof nothing is requested

sized-silent : {C : Type 0} (emit : List ℕ → Effects) → ((b : List ℕ) → (emit b).requests ≡ []) → (at : ℕ) (kind : FourCc) (next : C) (left : ℕ) (b : List ℕ) (t : Bool) → nat_lt (length b) left ≡ t → MakesNoEffects (body_item emit at kind next left b)
sized-silent emit quiet at kind next left b true e = rw e (quiet b)
sized-silent emit quiet at kind next left b false e = rw e (quiet (take left b))

open-silent : (C : Type 0) (emit : List ℕ → Effects) → ((b : List ℕ) → (emit b).requests ≡ []) → (at : ℕ) (kind : FourCc) (needed left : ℕ) (b : List ℕ) (t u : Bool) → nat_lt left (length b) ≡ t → nat_lt (length b) needed ≡ u → MakesNoEffects {C = C} (open_body_item emit at kind needed left b)
open-silent C emit quiet at kind needed left b true u e d = rw e (quiet (take left b))
open-silent C emit quiet at kind needed left b false true e d = rw (e, d) (quiet b)
open-silent C emit quiet at kind needed left b false false e d = rw (e, d) (quiet b)

module _ (meaning : Meaning) (quiet : HasNoEffects meaning) where
  media-silent : (f : Fragment) (next : ℕ) (h : Header) (size : Size) (b : List ℕ) → MakesNoEffects (media_body meaning f next h size b)
  media-silent f next h (Exact s) b = sized-silent (meaning.media f) (quiet.media f) next h.kind (context_after_fragment meaning f (next + s)) (s - h.header_len) b _ refl
  media-silent f next h ToEnd b = open-silent Context (meaning.media f) (quiet.media f) next h.kind (needed_in f) (longest - (next + h.header_len)) b _ _ refl refl

  mdat-silent : (f : Fragment) (next : ℕ) (h : Header) (b : List ℕ) (g : Option Fault) → MakesNoEffects (mdat_by meaning f next h b g)
  mdat-silent f next h b (Some g) = refl
  mdat-silent f next h b None = silent-after (meaning.accepted f) (media_body meaning f next h h.size b) (quiet.accepted f) (media-silent f next h h.size b)

  second_by-silent : (c : Context) (tracks : List Track) (x : List ℕ) (h : Header) (b : List ℕ) (kind : Kind) → MakesNoEffects (second_by meaning c tracks x h b kind)
  second_by-silent c tracks x h b Moov = refl
  second_by-silent c tracks x h b Moof = refl
  second_by-silent c tracks x h b Other = refl
  second_by-silent c tracks x h b Mdat = mdat-silent (fragment c tracks x h) (c.at + length x) h b (fragment_fault meaning (fragment c tracks x h))

  second-silent : (c : Context) (tracks : List Track) (x : List ℕ) (h : Header) (b : List ℕ) (t : Bool) → nat_lt longest (least_end (c.at + length x) h h.size) ≡ t → MakesNoEffects (second meaning c tracks x h b)
  second-silent c tracks x h b true e = rw e refl
  second-silent c tracks x h b false e = rw e (second_by-silent c tracks x h b (kind_in h.kind.0))

  after_by-silent : (c : Context) (tracks : List Track) (x b : List ℕ) (s : Step) → MakesNoEffects (after_moof_by meaning c tracks x b s)
  after_by-silent c tracks x b steps.More = refl
  after_by-silent c tracks x b steps.BadSize = refl
  after_by-silent c tracks x b (steps.Whole h) = second-silent c tracks x h (drop h.header_len b) _ refl

  pub after-silent : (c : Context) (tracks : List Track) (x b : List ℕ) → MakesNoEffects (after_moof meaning c tracks x b)
  unfolding after_moof
  after-silent c tracks x [] = refl
  after-silent c tracks x (a ∷ b) = after_by-silent c tracks x (a ∷ b) (header_at (a ∷ b))

-- ---- a box asks first

opens-ask : (at sum : ℕ) → Each (Opens at) (requests_memory at sum).requests
opens-ask at sum = (record { first = record { place = refl; none_before = refl }; counted = record { place = refl; counted = IsUncounted-inspects 0 } }, tt)

-- after effects without text that count nothing but samples that were inspected
opens-after : {C : Type 0} (at : ℕ) (t : Effects) (f : FirstItem C) → t.text ≡ [] → IsUncounted t.tally → Each (Opens at) t.requests → AllOpen at f → AllOpen at (after_effects t f)
opens-after at t f none u h k =
    subst (Each (Opens at)) (sym (asks-after t f))
    (Each-append (Opens at) t.requests _ h (Each-shifted (Opens at) (Opens at) t (λ a p. record {
      first = record { place = p.first.place; none_before = omega (arith, ap length none, p.first.none_before) };
      counted = record {
        place = p.counted.place;
        counted = record {
          fragments = omega (arith, u.fragments, p.counted.counted.fragments);
          samples = omega (arith, u.samples, p.counted.counted.samples);
          media_bytes = omega (arith, u.media_bytes, p.counted.counted.media_bytes);
        };
      };
    }) (effects_of f).requests k))

opens-silent : {C : Type 0} (at : ℕ) (f : FirstItem C) → MakesNoEffects f → AllOpen at f
opens-silent at f e = subst (Each (Opens at)) (sym e) tt

opens-first : {C : Type 0} (at sum : ℕ) (f : FirstItem C) → AllOpen at f → AllOpen at (after_effects (requests_memory at sum) f)
opens-first at sum f h = opens-after at (requests_memory at sum) f refl (IsUncounted-inspects 0) (opens-ask at sum) h

module _ (meaning : Meaning) (quiet : HasNoEffects meaning) where
  moov-opens : (c : Context) (x rest : List ℕ) (f : Option Fault) → AllOpen c.at (moov_box meaning c x rest f)
  moov-opens c x rest (Some f) = tt
  moov-opens c x rest None = opens-ask c.at _

  timed-opens : (c : Context) (tracks : List Track) (x rest : List ℕ) (f : Option Fault) → AllOpen c.at (timed_box meaning c tracks x rest f)
  timed-opens c tracks x rest (Some f) = tt
  timed-opens c tracks x rest None = opens-first c.at (with_runs c tracks x) (after_moof meaning c tracks x rest) (opens-silent c.at (after_moof meaning c tracks x rest) (after-silent meaning quiet c tracks x rest))

  moof-opens : (c : Context) (tracks : List Track) (x rest : List ℕ) (f : Option Fault) → AllOpen c.at (moof_box meaning c tracks x rest f)
  moof-opens c tracks x rest (Some f) = tt
  moof-opens c tracks x rest None =
      let late = least (time_faults (moof_trafs (moof_at x c.at) tracks)) in
      opens-after c.at (counts (inspected (moof_at x c.at))) (timed_box meaning c tracks x rest late) refl (IsUncounted-inspects (moof_samples (moof_at x c.at))) tt (timed-opens c tracks x rest late)

  whole-opens : (c : Context) (x rest : List ℕ) (tracks : Option (List Track)) → AllOpen c.at (whole_box_by meaning c x rest tracks)
  whole-opens c x rest None = moov-opens c x rest (moov_fault c.at x)
  whole-opens c x rest (Some tracks) = moof-opens c tracks x rest (fault_before_times (moof_at x c.at) tracks)

  kept-opens : (c : Context) (kind : FourCc) (size : ℕ) (b : List ℕ) (t : Bool) → nat_lt (length b) size ≡ t → AllOpen c.at (buffered_body meaning c kind size b)
  kept-opens c kind size b true e = rw e tt
  kept-opens c kind size b false e = rw e (whole-opens c (take size b) (drop size b) c.tracks)

  keeping-opens : (c : Context) (h : Header) (limit s : ℕ) (b : List ℕ) (t : Bool) → nat_lt limit s ≡ t → AllOpen c.at (keeping meaning c h limit b (Exact s))
  keeping-opens c h limit s b true e = rw e tt
  keeping-opens c h limit s b false e = rw e (opens-first c.at (table_of c.tracks + s) (buffered_body meaning c h.kind s b) (kept-opens c h.kind s b _ refl))

  keeping-opens_by : (c : Context) (h : Header) (limit : ℕ) (b : List ℕ) (size : Size) → AllOpen c.at (keeping meaning c h limit b size)
  keeping-opens_by c h limit b (Exact s) = keeping-opens c h limit s b _ refl
  keeping-opens_by c h limit b ToEnd = tt

  pub passing-silent : (c : Context) (kind : FourCc) (b : List ℕ) (size : Size) → MakesNoEffects (passing meaning c kind b size)
  passing-silent c kind b (Exact s) = sized-silent (meaning.passed kind) (quiet.passed kind) c.at kind (context (c.at + s) c.tracks c.number) s b _ refl
  passing-silent c kind b ToEnd = open-silent Context (meaning.passed kind) (quiet.passed kind) c.at kind 0 (longest - c.at) b _ _ refl refl

  box_in-opens : (c : Context) (h : Header) (x b : List ℕ) (kind : Kind) (tracks : Option (List Track)) → AllOpen c.at (box_in meaning c h x b kind tracks)
  box_in-opens c h x b Moov None = keeping-opens_by c h most_moov (x ++ b) h.size
  box_in-opens c h x b Moov (Some tracks) = tt
  box_in-opens c h x b Moof None = tt
  box_in-opens c h x b Moof (Some tracks) = keeping-opens_by c h most_moof (x ++ b) h.size
  box_in-opens c h x b Mdat tracks = tt
  box_in-opens c h x b Other tracks = opens-silent c.at (passing meaning c h.kind (x ++ b) h.size) (passing-silent c h.kind (x ++ b) h.size)

  box_from-opens : (c : Context) (h : Header) (x b : List ℕ) (t : Bool) → nat_lt longest (least_end c.at h h.size) ≡ t → AllOpen c.at (box_from meaning c h x b)
  box_from-opens c h x b true e = rw e tt
  box_from-opens c h x b false e = rw e (box_in-opens c h x b (kind_in h.kind.0) c.tracks)

  item_by-opens : (c : Context) (b : List ℕ) (s : Step) → AllOpen c.at (item_by meaning c b s)
  item_by-opens c b steps.More = tt
  item_by-opens c b steps.BadSize = tt
  item_by-opens c b (steps.Whole h) = box_from-opens c h (take h.header_len b) (drop h.header_len b) _ refl

  item-opens : (c : Context) (b : List ℕ) → AllOpen c.at (item meaning c b)
  unfolding item
  item-opens c [] = tt
  item-opens c (a ∷ b) = item_by-opens c (a ∷ b) (header_at (a ∷ b))

  pub item-first : (c : Context) (b : List ℕ) → Each (IsFirst c.at) (effects_of (item meaning c b)).requests
  item-first c b = Each-all (Opens c.at) (IsFirst c.at) (λ a h. h.first) (effects_of (item meaning c b)).requests (item-opens c b)

  pub item-counted : (c : Context) (b : List ℕ) → Each (IsCountedFirst c.at) (effects_of (item meaning c b)).requests
  item-counted c b = Each-all (Opens c.at) (IsCountedFirst c.at) (λ a h. h.counted) (effects_of (item meaning c b)).requests (item-opens c b)
