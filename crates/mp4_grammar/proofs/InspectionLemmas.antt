-- All samples that are counted were inspected.
use Rattle.std.proofs.Common.{◌≡◌, ◌∙◌, ℕ, zero, suc, ◌+◌, ◌-◌, ◌≤◌, List, [], ◌∷◌, ◌++◌, length, take, drop, Option, None, Some, Bool, true, false, ap, sym, refl, arith, subst}
use Rattle.std.specs.Prelude.{nat_lt}
use Rattle.mp4_box.specs.declared.headers.FourCc.{FourCc}
use Rattle.mp4_box.specs.declared.headers.Header.{Header}
use Rattle.mp4_box.specs.declared.headers.Size.{Size}
use Rattle.mp4_box.specs.declared.headers.Size.TheVariants.{Exact, ToEnd}
use Rattle.mp4_box.specs.declared.headers.Step.{Step}
use Rattle.mp4_box.specs.declared.headers.Step.TheVariants as steps
use Rattle.mp4_box.specs.declared.rules.Fault.{Fault}
use Rattle.mp4_box.specs.Headers.{header_at}
use Rattle.mp4_box.specs.Order.{least}
use Rattle.mp4_init.specs.Moovs.{moov_fault}
use Rattle.mp4_init.specs.declared.table.Track.{Track}
use Rattle.mp4_frag.specs.Moofs.{fault_before_times, moof_samples, moof_trafs, time_faults}
use Rattle.mp4_traf.specs.Runs.{moof_at}
use Rattle.mp4_machine.specs.Bodies.{least_end, longest, body_item, open_body_item}
use Rattle.mp4_machine.specs.Readings.{Effects, Reading, FirstItem, Last, Whole, plus, counts, requests_memory, after_effects, then_read, read_all}
use Rattle.mp4_machine.specs.declared.tally.Tally.{Tally}
use Rattle.mp4_machine.proofs.ReadingLemmas.{Below, Below-more, IsItemwise, read_all-front}
use Rattle.mp4_machine.proofs.PastLemmas.{effects_of}
use Rattle.mp4_grammar.specs.declared.kinds.Kind.{Kind}
use Rattle.mp4_grammar.specs.declared.kinds.Kind.TheVariants.{Moov, Moof, Mdat, Other}
use Rattle.mp4_grammar.specs.Kinds.{kind_in, most_moof, most_moov}
use Rattle.mp4_grammar.specs.Contexts.{Context, context, table_of}
use Rattle.mp4_grammar.specs.Meanings.{Fragment, Meaning, fragment_fault, needed_in}
use Rattle.mp4_grammar.specs.Items.{media_body, context_after_fragment, fragment, mdat_by, second_by, second, after_moof_by, after_moof, moov_box, inspected, with_runs, timed_box, moof_box, whole_box_by, buffered_body, keeping, passing, box_in, box_from, item_by, item, reads_in}
use Rattle.mp4_grammar.proofs.ItemLemmas.{item-items}

-- a command counts for a fragment no more samples than its moof has, and none for media and other boxes
pub record CountsSamplesOnce (meaning : Meaning) : Type 0 where
  pub accepted : (f : Fragment) → (meaning.accepted f).tally.samples ≤ moof_samples f.moof
  pub media : (f : Fragment) (b : List ℕ) → (meaning.media f b).tally.samples ≡ 0
  pub passed : (kind : FourCc) (b : List ℕ) → (meaning.passed kind b).tally.samples ≡ 0

-- as many samples as are counted were inspected
abbrev AreInspected : Tally → Type 0
AreInspected t = t.samples ≤ t.inspected

-- what is at the front counts at most so many samples
abbrev HasAtMost : {C : Type 0} → ℕ → FirstItem C → Type 0
HasAtMost n f = (effects_of f).tally.samples ≤ n

abbrev IsInspected : {C : Type 0} → FirstItem C → Type 0
IsInspected f = AreInspected (effects_of f).tally

tally-after : {C : Type 0} (t : Effects) (f : FirstItem C) → (effects_of (after_effects t f)).tally ≡ plus t.tally (effects_of f).tally
tally-after t (Last r) = refl
tally-after t (Whole effects next rest) = refl

-- ---- by items

module _ {C : Type 0} (first_item : C → List ℕ → FirstItem C) (items : IsItemwise first_item) (here : (c : C) (b : List ℕ) → IsInspected (first_item c b)) where
  inspected-by_front : (n : ℕ) → ((c : C) (b : List ℕ) → length b ≤ n → AreInspected (read_all first_item c b).effects.tally)
      → (v : FirstItem C) → Below v n → IsInspected v → AreInspected (then_read (read_all first_item) v).effects.tally
  inspected-by_front n more (Last r) below h = h
  inspected-by_front n more (Whole effects next rest) below h = let later = more next rest below in omega (arith, h, later)

  inspected-for_length : (n : ℕ) (c : C) (b : List ℕ) → length b ≤ n → AreInspected (read_all first_item c b).effects.tally
  inspected-for_length n c [] h = subst (λ (r : Reading). AreInspected r.effects.tally) (sym (read_all-front first_item items c [] ∙ ap (then_read (read_all first_item)) (items.empty c))) (omega arith)
  inspected-for_length zero c (a ∷ b) h = absurd (omega arith)
  inspected-for_length (suc n) c (a ∷ b) h =
      subst (λ (r : Reading). AreInspected r.effects.tally) (sym (read_all-front first_item items c (a ∷ b)))
      (inspected-by_front n (inspected-for_length n) (first_item c (a ∷ b)) (Below-more (first_item c (a ∷ b)) (length b) n (omega arith) (items.shorter c a b)) (here c (a ∷ b)))

  each-inspected : (c : C) (b : List ℕ) → AreInspected (read_all first_item c b).effects.tally
  each-inspected c b = inspected-for_length (length b) c b (omega arith)

-- ---- a body

sized-most : {C : Type 0} (emit : List ℕ → Effects) → ((b : List ℕ) → (emit b).tally.samples ≡ 0) → (at : ℕ) (kind : FourCc) (next : C) (left : ℕ) (b : List ℕ) (t : Bool) → nat_lt (length b) left ≡ t → HasAtMost 0 (body_item emit at kind next left b)
sized-most emit none at kind next left b true e = rw e (omega (arith, none b))
sized-most emit none at kind next left b false e = rw e (omega (arith, none (take left b)))

open-most : (C : Type 0) (emit : List ℕ → Effects) → ((b : List ℕ) → (emit b).tally.samples ≡ 0) → (at : ℕ) (kind : FourCc) (needed left : ℕ) (b : List ℕ) (t u : Bool) → nat_lt left (length b) ≡ t → nat_lt (length b) needed ≡ u → HasAtMost {C = C} 0 (open_body_item emit at kind needed left b)
open-most C emit none at kind needed left b true u e d = rw e (omega (arith, none (take left b)))
open-most C emit none at kind needed left b false true e d = rw (e, d) (omega (arith, none b))
open-most C emit none at kind needed left b false false e d = rw (e, d) (omega (arith, none b))

inspected-first : {C : Type 0} (t : Effects) (f : FirstItem C) → AreInspected t.tally → IsInspected f → IsInspected (after_effects t f)
inspected-first t f h k = subst AreInspected (sym (tally-after t f)) (omega (arith, h, k))

inspected-none : {C : Type 0} (f : FirstItem C) → HasAtMost 0 f → IsInspected f
inspected-none f h = omega (arith, h)

most-first : {C : Type 0} (n m k : ℕ) (t : Effects) (f : FirstItem C) → t.tally.samples ≤ m → HasAtMost k f → m + k ≤ n → HasAtMost n (after_effects t f)
most-first n m k t f h i j = subst (λ (s : Tally). s.samples ≤ n) (sym (tally-after t f)) (omega (arith, h, i, j))

module _ (meaning : Meaning) (once : CountsSamplesOnce meaning) where
  -- ---- after a moof at most its own samples are counted

  media-most : (f : Fragment) (next : ℕ) (h : Header) (size : Size) (b : List ℕ) → HasAtMost 0 (media_body meaning f next h size b)
  media-most f next h (Exact s) b = sized-most (meaning.media f) (once.media f) next h.kind (context_after_fragment meaning f (next + s)) (s - h.header_len) b _ refl
  media-most f next h ToEnd b = open-most Context (meaning.media f) (once.media f) next h.kind (needed_in f) (longest - (next + h.header_len)) b _ _ refl refl

  mdat-most : (f : Fragment) (next : ℕ) (h : Header) (b : List ℕ) (g : Option Fault) → HasAtMost (moof_samples f.moof) (mdat_by meaning f next h b g)
  mdat-most f next h b (Some g) = omega arith
  mdat-most f next h b None = most-first (moof_samples f.moof) (moof_samples f.moof) 0 (meaning.accepted f) (media_body meaning f next h h.size b) (once.accepted f) (media-most f next h h.size b) (omega arith)

  second_by-most : (c : Context) (tracks : List Track) (x : List ℕ) (h : Header) (b : List ℕ) (kind : Kind) → HasAtMost (moof_samples (moof_at x c.at)) (second_by meaning c tracks x h b kind)
  second_by-most c tracks x h b Moov = omega arith
  second_by-most c tracks x h b Moof = omega arith
  second_by-most c tracks x h b Other = omega arith
  second_by-most c tracks x h b Mdat = mdat-most (fragment c tracks x h) (c.at + length x) h b (fragment_fault meaning (fragment c tracks x h))

  second-most : (c : Context) (tracks : List Track) (x : List ℕ) (h : Header) (b : List ℕ) (t : Bool) → nat_lt longest (least_end (c.at + length x) h h.size) ≡ t → HasAtMost (moof_samples (moof_at x c.at)) (second meaning c tracks x h b)
  second-most c tracks x h b true e = rw e (omega arith)
  second-most c tracks x h b false e = rw e (second_by-most c tracks x h b (kind_in h.kind.0))

  after_by-most : (c : Context) (tracks : List Track) (x b : List ℕ) (s : Step) → HasAtMost (moof_samples (moof_at x c.at)) (after_moof_by meaning c tracks x b s)
  after_by-most c tracks x b steps.More = omega arith
  after_by-most c tracks x b steps.BadSize = omega arith
  after_by-most c tracks x b (steps.Whole h) = second-most c tracks x h (drop h.header_len b) _ refl

  after-most : (c : Context) (tracks : List Track) (x b : List ℕ) → HasAtMost (moof_samples (moof_at x c.at)) (after_moof meaning c tracks x b)
  unfolding after_moof
  after-most c tracks x [] = omega arith
  after-most c tracks x (a ∷ b) = after_by-most c tracks x (a ∷ b) (header_at (a ∷ b))

  -- ---- a box that is held: the samples of a moof were inspected before

  moov-inspected : (c : Context) (x rest : List ℕ) (f : Option Fault) → IsInspected (moov_box meaning c x rest f)
  moov-inspected c x rest (Some f) = omega arith
  moov-inspected c x rest None = omega arith

  timed-most : (c : Context) (tracks : List Track) (x rest : List ℕ) (f : Option Fault) → HasAtMost (moof_samples (moof_at x c.at)) (timed_box meaning c tracks x rest f)
  timed-most c tracks x rest (Some f) = omega arith
  timed-most c tracks x rest None =
      let n = moof_samples (moof_at x c.at) in
      most-first n 0 n (requests_memory c.at (with_runs c tracks x)) (after_moof meaning c tracks x rest) (omega arith) (after-most c tracks x rest) (omega arith)

  inspection-inspected : (n : ℕ) (t : Tally) (f : FirstItem Context) → t.samples ≡ 0 → t.inspected ≡ n → HasAtMost n f → IsInspected (after_effects (counts t) f)
  inspection-inspected n t f none all h = subst AreInspected (sym (tally-after (counts t) f)) (omega (arith, none, all, h))

  moof-inspected : (c : Context) (tracks : List Track) (x rest : List ℕ) (f : Option Fault) → IsInspected (moof_box meaning c tracks x rest f)
  moof-inspected c tracks x rest (Some f) = omega arith
  moof-inspected c tracks x rest None =
      let late = least (time_faults (moof_trafs (moof_at x c.at) tracks)) in
      inspection-inspected (moof_samples (moof_at x c.at)) (inspected (moof_at x c.at)) (timed_box meaning c tracks x rest late) refl refl (timed-most c tracks x rest late)

  whole-inspected : (c : Context) (x rest : List ℕ) (tracks : Option (List Track)) → IsInspected (whole_box_by meaning c x rest tracks)
  whole-inspected c x rest None = moov-inspected c x rest (moov_fault c.at x)
  whole-inspected c x rest (Some tracks) = moof-inspected c tracks x rest (fault_before_times (moof_at x c.at) tracks)

  kept-inspected : (c : Context) (kind : FourCc) (size : ℕ) (b : List ℕ) (t : Bool) → nat_lt (length b) size ≡ t → IsInspected (buffered_body meaning c kind size b)
  kept-inspected c kind size b true e = rw e (omega arith)
  kept-inspected c kind size b false e = rw e (whole-inspected c (take size b) (drop size b) c.tracks)

  keeping-inspected : (c : Context) (h : Header) (limit s : ℕ) (b : List ℕ) (t : Bool) → nat_lt limit s ≡ t → IsInspected (keeping meaning c h limit b (Exact s))
  keeping-inspected c h limit s b true e = rw e (omega arith)
  keeping-inspected c h limit s b false e = rw e (inspected-first (requests_memory c.at (table_of c.tracks + s)) (buffered_body meaning c h.kind s b) (omega arith) (kept-inspected c h.kind s b _ refl))

  keeping-inspected_by : (c : Context) (h : Header) (limit : ℕ) (b : List ℕ) (size : Size) → IsInspected (keeping meaning c h limit b size)
  keeping-inspected_by c h limit b (Exact s) = keeping-inspected c h limit s b _ refl
  keeping-inspected_by c h limit b ToEnd = omega arith

  -- ---- the whole

  passing-most : (c : Context) (kind : FourCc) (b : List ℕ) (size : Size) → HasAtMost 0 (passing meaning c kind b size)
  passing-most c kind b (Exact s) = sized-most (meaning.passed kind) (once.passed kind) c.at kind (context (c.at + s) c.tracks c.number) s b _ refl
  passing-most c kind b ToEnd = open-most Context (meaning.passed kind) (once.passed kind) c.at kind 0 (longest - c.at) b _ _ refl refl

  box_in-inspected : (c : Context) (h : Header) (x b : List ℕ) (kind : Kind) (tracks : Option (List Track)) → IsInspected (box_in meaning c h x b kind tracks)
  box_in-inspected c h x b Moov None = keeping-inspected_by c h most_moov (x ++ b) h.size
  box_in-inspected c h x b Moov (Some tracks) = omega arith
  box_in-inspected c h x b Moof None = omega arith
  box_in-inspected c h x b Moof (Some tracks) = keeping-inspected_by c h most_moof (x ++ b) h.size
  box_in-inspected c h x b Mdat tracks = omega arith
  box_in-inspected c h x b Other tracks = inspected-none (passing meaning c h.kind (x ++ b) h.size) (passing-most c h.kind (x ++ b) h.size)

  box_from-inspected : (c : Context) (h : Header) (x b : List ℕ) (t : Bool) → nat_lt longest (least_end c.at h h.size) ≡ t → IsInspected (box_from meaning c h x b)
  box_from-inspected c h x b true e = rw e (omega arith)
  box_from-inspected c h x b false e = rw e (box_in-inspected c h x b (kind_in h.kind.0) c.tracks)

  item_by-inspected : (c : Context) (b : List ℕ) (s : Step) → IsInspected (item_by meaning c b s)
  item_by-inspected c b steps.More = omega arith
  item_by-inspected c b steps.BadSize = omega arith
  item_by-inspected c b (steps.Whole h) = box_from-inspected c h (take h.header_len b) (drop h.header_len b) _ refl

  item-inspected : (c : Context) (b : List ℕ) → IsInspected (item meaning c b)
  unfolding item
  item-inspected c [] = omega arith
  item-inspected c (a ∷ b) = item_by-inspected c (a ∷ b) (header_at (a ∷ b))

  pub samples-inspected : (c : Context) (b : List ℕ) → (reads_in meaning c b).effects.tally.samples ≤ (reads_in meaning c b).effects.tally.inspected
  samples-inspected c b = each-inspected (item meaning) (item-items meaning) item-inspected c b
