-- What the boxes of a fragmented stream ask for, at the most.
use Rattle.std.proofs.Common.{◌≡◌, ◌∙◌, ℕ, ◌+◌, ◌-◌, ◌*◌, ◌≤◌, List, [], ◌∷◌, ◌++◌, length, take, drop, Option, None, Some, Bool, true, false, ap, sym, refl, arith, length-take, take-append-drop, subst}
use Rattle.std.proofs.Math.Seq.{drop-append_seam}
use Rattle.std.specs.Prelude.{nat_lt}
use Rattle.std.proofs.lemmas.Bool.{ltb-false}
use Rattle.mp4_box.specs.declared.headers.FourCc.{FourCc}
use Rattle.mp4_box.specs.declared.headers.Header.{Header}
use Rattle.mp4_box.specs.declared.headers.Size.{Size}
use Rattle.mp4_box.specs.declared.headers.Size.TheVariants.{Exact, ToEnd}
use Rattle.mp4_box.specs.declared.headers.Step.{Step}
use Rattle.mp4_box.specs.declared.headers.Step.TheVariants as steps
use Rattle.mp4_box.specs.declared.rules.Fault.{Fault}
use Rattle.mp4_box.specs.Headers.{header_at, IsBytes}
use Rattle.mp4_box.specs.Order.{least}
use Rattle.mp4_box.proofs.HeaderLemmas.{IsBytes-drop, IsBytes-take}
use Rattle.mp4_init.specs.Moovs.{moov_fault}
use Rattle.mp4_init.specs.declared.table.Track.{Track}
use Rattle.mp4_init.proofs.TrackLemmas.{table_small}
use Rattle.mp4_frag.specs.Moofs.{fault_before_times, moof_trafs, time_faults}
use Rattle.mp4_traf.specs.Runs.{moof_at}
use Rattle.mp4_frag.proofs.SettleLemmas.{settled_length}
use Rattle.mp4_machine.specs.Bodies.{least_end, longest, body_item, open_body_item}
use Rattle.mp4_machine.specs.Readings.{Request, greatest, Effects, counts, requests_memory, FirstItem, Last, Whole, after_effects, most_of}
use Rattle.mp4_machine.proofs.PastLemmas.{effects_of}
use Rattle.mp4_machine.proofs.ReadingItemLemmas.{Each, IsItem, IsItemAt}
use Rattle.mp4_grammar.specs.declared.kinds.Kind.{Kind}
use Rattle.mp4_grammar.specs.declared.kinds.Kind.TheVariants.{Moov, Moof, Mdat, Other}
use Rattle.mp4_grammar.specs.Kinds.{kind_in, most_moof, most_moov}
use Rattle.mp4_grammar.specs.Contexts.{Context, context, first_context, table_of}
use Rattle.mp4_grammar.specs.Meanings.{Fragment, Meaning, fragment_fault, needed_in}
use Rattle.mp4_grammar.specs.Items.{media_body, context_after_fragment, fragment, mdat_by, second_by, second, after_moof_by, after_moof, moov_box, inspected, with_runs, timed_box, moof_box, whole_box_by, buffered_body, keeping, passing, box_in, box_from, item_by, item, reads_in}
use Rattle.mp4_grammar.proofs.AskLemmas.{Each-append, Each-shifted, asks-after, each_ask}
use Rattle.mp4_grammar.proofs.ItemAskLemmas.{HasNoEffects, MakesNoEffects, after-silent, passing-silent}
use Rattle.mp4_grammar.proofs.ItemLemmas.{item-items}
use Rattle.mp4_grammar.proofs.RunCountLemmas.{runs_small}
use Rattle.mp4_grammar.proofs.TakenLemmas.{item-own}

-- no more is asked for: a table as large as a moov, a moof, and a list of its runs
abbrev IsBounded : Request → Type 0
IsBounded a = a.sum ≤ most_moov + 5 * most_moof

-- the table of the tracks is no larger than a moov
abbrev IsTable : Option (List Track) → Type 0
IsTable tracks = table_of tracks ≤ most_moov

abbrev NextIs : FirstItem Context → Type 0
NextIs (Last r) = Unit {0}
NextIs (Whole effects next rest) = IsTable next.tracks

record IsModest (f : FirstItem Context) : Type 0 where
  requests : Each IsBounded (effects_of f).requests
  next : NextIs f

next-emitted : (t : Effects) (f : FirstItem Context) → NextIs f → NextIs (after_effects t f)
next-emitted t (Last r) h = tt
next-emitted t (Whole effects next rest) h = h

modest-emitted : (t : Effects) (f : FirstItem Context) → Each IsBounded t.requests → IsModest f → IsModest (after_effects t f)
modest-emitted t f h m = record {
  requests = subst (Each IsBounded) (sym (asks-after t f)) (Each-append IsBounded t.requests _ h (Each-shifted IsBounded IsBounded t (λ a p. p) (effects_of f).requests m.requests));
  next = next-emitted t f m.next;
}

modest-silent : (f : FirstItem Context) → MakesNoEffects f → NextIs f → IsModest f
modest-silent f e h = record { requests = subst (Each IsBounded) (sym e) tt; next = h }

modest-first : (at sum : ℕ) (f : FirstItem Context) → sum ≤ most_moov + 5 * most_moof → IsModest f → IsModest (after_effects (requests_memory at sum) f)
modest-first at sum f h m = modest-emitted (requests_memory at sum) f (h, tt) m

-- ---- a fragment

sized-next : (emit : List ℕ → Effects) (at : ℕ) (kind : FourCc) (next : Context) (left : ℕ) (b : List ℕ) (t : Bool) → nat_lt (length b) left ≡ t → IsTable next.tracks → NextIs (body_item emit at kind next left b)
sized-next emit at kind next left b true e h = rw e tt
sized-next emit at kind next left b false e h = rw e h

open-next : (emit : List ℕ → Effects) (at : ℕ) (kind : FourCc) (needed left : ℕ) (b : List ℕ) (t u : Bool) → nat_lt left (length b) ≡ t → nat_lt (length b) needed ≡ u → NextIs (open_body_item emit at kind needed left b)
open-next emit at kind needed left b true u e d = rw e tt
open-next emit at kind needed left b false true e d = rw (e, d) tt
open-next emit at kind needed left b false false e d = rw (e, d) tt

module _ (meaning : Meaning) where
  media-next : (f : Fragment) (next : ℕ) (h : Header) (size : Size) (b : List ℕ) → IsTable (Some f.tracks) → NextIs (media_body meaning f next h size b)
  media-next f next h (Exact s) b small = sized-next (meaning.media f) next h.kind (context_after_fragment meaning f (next + s)) (s - h.header_len) b _ refl (omega (arith, small, settled_length f.tracks (moof_trafs f.moof f.tracks)))
  media-next f next h ToEnd b small = open-next (meaning.media f) next h.kind (needed_in f) (longest - (next + h.header_len)) b _ _ refl refl

  mdat-next : (f : Fragment) (next : ℕ) (h : Header) (b : List ℕ) (g : Option Fault) → IsTable (Some f.tracks) → NextIs (mdat_by meaning f next h b g)
  mdat-next f next h b (Some g) small = tt
  mdat-next f next h b None small = next-emitted (meaning.accepted f) (media_body meaning f next h h.size b) (media-next f next h h.size b small)

  second_by-next : (c : Context) (tracks : List Track) (x : List ℕ) (h : Header) (b : List ℕ) (kind : Kind) → IsTable (Some tracks) → NextIs (second_by meaning c tracks x h b kind)
  second_by-next c tracks x h b Moov small = tt
  second_by-next c tracks x h b Moof small = tt
  second_by-next c tracks x h b Other small = tt
  second_by-next c tracks x h b Mdat small = mdat-next (fragment c tracks x h) (c.at + length x) h b (fragment_fault meaning (fragment c tracks x h)) small

  second-next : (c : Context) (tracks : List Track) (x : List ℕ) (h : Header) (b : List ℕ) (t : Bool) → nat_lt longest (least_end (c.at + length x) h h.size) ≡ t → IsTable (Some tracks) → NextIs (second meaning c tracks x h b)
  second-next c tracks x h b true e small = rw e tt
  second-next c tracks x h b false e small = rw e (second_by-next c tracks x h b (kind_in h.kind.0) small)

  after_by-next : (c : Context) (tracks : List Track) (x b : List ℕ) (s : Step) → IsTable (Some tracks) → NextIs (after_moof_by meaning c tracks x b s)
  after_by-next c tracks x b steps.More small = tt
  after_by-next c tracks x b steps.BadSize small = tt
  after_by-next c tracks x b (steps.Whole h) small = second-next c tracks x h (drop h.header_len b) _ refl small

  after-next : (c : Context) (tracks : List Track) (x b : List ℕ) → IsTable (Some tracks) → NextIs (after_moof meaning c tracks x b)
  unfolding after_moof
  after-next c tracks x [] small = tt
  after-next c tracks x (a ∷ b) small = after_by-next c tracks x (a ∷ b) (header_at (a ∷ b)) small

-- ---- a box that is held

module _ (meaning : Meaning) (quiet : HasNoEffects meaning) where
  moov-modest : (c : Context) (x rest : List ℕ) (f : Option Fault) → moov_fault c.at x ≡ f → IsBytes x → length x ≤ most_moov → IsModest (moov_box meaning c x rest f)
  moov-modest c x rest (Some f) e fits few = record { requests = tt; next = tt }
  moov-modest c x rest None e fits few =
      let small = table_small c.at x fits e in
      record { requests = (omega (arith, small, few), tt); next = omega (arith, small, few) }

  timed-modest : (c : Context) (tracks : List Track) (x rest : List ℕ) (f : Option Fault) → fault_before_times (moof_at x c.at) tracks ≡ None → IsBytes x → length x ≤ most_moof → IsTable (Some tracks) → IsModest (timed_box meaning c tracks x rest f)
  timed-modest c tracks x rest (Some f) e fits few small = record { requests = tt; next = tt }
  timed-modest c tracks x rest None e fits few small =
      modest-first c.at (with_runs c tracks x) (after_moof meaning c tracks x rest) (omega (arith, small, few, runs_small (moof_at x c.at) tracks fits e))
      (modest-silent (after_moof meaning c tracks x rest) (after-silent meaning quiet c tracks x rest) (after-next meaning c tracks x rest small))

  moof-modest : (c : Context) (tracks : List Track) (x rest : List ℕ) (f : Option Fault) → fault_before_times (moof_at x c.at) tracks ≡ f → IsBytes x → length x ≤ most_moof → IsTable (Some tracks) → IsModest (moof_box meaning c tracks x rest f)
  moof-modest c tracks x rest (Some f) e fits few small = record { requests = tt; next = tt }
  moof-modest c tracks x rest None e fits few small =
      let late = least (time_faults (moof_trafs (moof_at x c.at) tracks)) in
      modest-emitted (counts (inspected (moof_at x c.at))) (timed_box meaning c tracks x rest late) tt (timed-modest c tracks x rest late e fits few small)

  -- how large it may be
  abbrev IsWithin : Option (List Track) → ℕ → Type 0
  IsWithin None n = n ≤ most_moov
  IsWithin (Some tracks) n = n ≤ most_moof

  whole-modest : (c : Context) (x rest : List ℕ) (tracks : Option (List Track)) → IsBytes x → IsWithin tracks (length x) → IsTable tracks → IsModest (whole_box_by meaning c x rest tracks)
  whole-modest c x rest None fits few small = moov-modest c x rest (moov_fault c.at x) refl fits few
  whole-modest c x rest (Some tracks) fits few small = moof-modest c tracks x rest (fault_before_times (moof_at x c.at) tracks) refl fits few small

  within-less : (tracks : Option (List Track)) (m n : ℕ) → m ≤ n → IsWithin tracks n → IsWithin tracks m
  within-less None m n less h = omega (arith, less, h)
  within-less (Some tracks) m n less h = omega (arith, less, h)

  within-sum : (tracks : Option (List Track)) (s : ℕ) → IsWithin tracks s → IsTable tracks → table_of tracks + s ≤ most_moov + 5 * most_moof
  within-sum None s h small = omega (arith, h)
  within-sum (Some tracks) s h small = omega (arith, h, small)

  kept-modest : (c : Context) (kind : FourCc) (size : ℕ) (b : List ℕ) (t : Bool) → nat_lt (length b) size ≡ t → IsBytes b → IsWithin c.tracks size → IsTable c.tracks → IsModest (buffered_body meaning c kind size b)
  kept-modest c kind size b true e fits few small = rw e (record { requests = tt; next = tt })
  kept-modest c kind size b false e fits few small =
      rw e (whole-modest c (take size b) (drop size b) c.tracks (IsBytes-take size b fits) (within-less c.tracks (length (take size b)) size (omega (arith, length-take size b)) few) small)

  keeping-modest : (c : Context) (h : Header) (limit s : ℕ) (b : List ℕ) (t : Bool) → nat_lt limit s ≡ t → IsBytes b → IsWithin c.tracks limit → IsTable c.tracks → IsModest (keeping meaning c h limit b (Exact s))
  keeping-modest c h limit s b true e fits few small = rw e (record { requests = tt; next = tt })
  keeping-modest c h limit s b false e fits few small =
      let within = within-less c.tracks s limit (ltb-false _ _ e) few in
      rw e (modest-first c.at (table_of c.tracks + s) (buffered_body meaning c h.kind s b) (within-sum c.tracks s within small) (kept-modest c h.kind s b _ refl fits within small))

  keeping-modest_by : (c : Context) (h : Header) (limit : ℕ) (b : List ℕ) (size : Size) → IsBytes b → IsWithin c.tracks limit → IsTable c.tracks → IsModest (keeping meaning c h limit b size)
  keeping-modest_by c h limit b (Exact s) fits few small = keeping-modest c h limit s b _ refl fits few small
  keeping-modest_by c h limit b ToEnd fits few small = record { requests = tt; next = tt }

  passing-next : (c : Context) (kind : FourCc) (b : List ℕ) (size : Size) → IsTable c.tracks → NextIs (passing meaning c kind b size)
  passing-next c kind b (Exact s) small = sized-next (meaning.passed kind) c.at kind (context (c.at + s) c.tracks c.number) s b _ refl small
  passing-next c kind b ToEnd small = open-next (meaning.passed kind) c.at kind 0 (longest - c.at) b _ _ refl refl

  -- ---- the whole

  box_in-modest : (c : Context) (h : Header) (x b : List ℕ) (kind : Kind) (tracks : Option (List Track)) → c.tracks ≡ tracks → IsBytes (x ++ b) → IsTable c.tracks → IsModest (box_in meaning c h x b kind tracks)
  box_in-modest c h x b Moov None e fits small = keeping-modest_by c h most_moov (x ++ b) h.size fits (subst (λ t. IsWithin t most_moov) (sym e) (omega arith)) small
  box_in-modest c h x b Moov (Some tracks) e fits small = record { requests = tt; next = tt }
  box_in-modest c h x b Moof None e fits small = record { requests = tt; next = tt }
  box_in-modest c h x b Moof (Some tracks) e fits small = keeping-modest_by c h most_moof (x ++ b) h.size fits (subst (λ t. IsWithin t most_moof) (sym e) (omega arith)) small
  box_in-modest c h x b Mdat tracks e fits small = record { requests = tt; next = tt }
  box_in-modest c h x b Other tracks e fits small = modest-silent (passing meaning c h.kind (x ++ b) h.size) (passing-silent meaning quiet c h.kind (x ++ b) h.size) (passing-next c h.kind (x ++ b) h.size small)

  box_from-modest : (c : Context) (h : Header) (x b : List ℕ) (t : Bool) → nat_lt longest (least_end c.at h h.size) ≡ t → IsBytes (x ++ b) → IsTable c.tracks → IsModest (box_from meaning c h x b)
  box_from-modest c h x b true e fits small = rw e (record { requests = tt; next = tt })
  box_from-modest c h x b false e fits small = rw e (box_in-modest c h x b (kind_in h.kind.0) c.tracks refl fits small)

  item_by-modest : (c : Context) (b : List ℕ) (s : Step) → IsBytes b → IsTable c.tracks → IsModest (item_by meaning c b s)
  item_by-modest c b steps.More fits small = record { requests = tt; next = tt }
  item_by-modest c b steps.BadSize fits small = record { requests = tt; next = tt }
  item_by-modest c b (steps.Whole h) fits small = box_from-modest c h (take h.header_len b) (drop h.header_len b) _ refl (subst IsBytes (sym (take-append-drop h.header_len b)) fits) small

  item-modest : (c : Context) (b : List ℕ) → IsBytes b → IsTable c.tracks → IsModest (item meaning c b)
  unfolding item
  item-modest c [] fits small = record { requests = tt; next = tt }
  item-modest c (a ∷ b) fits small = item_by-modest c (a ∷ b) (header_at (a ∷ b)) fits small

  -- the bytes from a context on
  abbrev IsStart : Context → List ℕ → Type 0
  IsStart c b = IsBytes b × IsTable c.tracks

  goes_on : (c next : Context) (b rest : List ℕ) (effects : Effects) → IsStart c b → item meaning c b ≡ Whole effects next rest → IsStart next rest
  goes_on c next b rest effects s e =
      let i : IsItem (item meaning) (λ n. n.at) c b effects next rest = subst (IsItemAt (item meaning) (λ n. n.at) c b) e (item-own meaning c b) in
      let after_moof : rest ≡ drop (length i.own) b = sym (drop-append_seam i.own rest) ∙ ap (drop (length i.own)) (sym i.cut) in
      (subst IsBytes (sym after_moof) (IsBytes-drop (length i.own) b s.0), subst NextIs e (item-modest c b s.0 s.1).next)

  all_below : (n : ℕ) (requests : List Request) → Each (λ a. a.sum ≤ n) requests → greatest requests ≤ n
  all_below n [] h = omega arith
  all_below n (a ∷ requests) h = omega (arith, h.0, all_below n requests h.1)

  pub asks-bound : (b : List ℕ) → IsBytes b → most_of (reads_in meaning first_context b).effects ≤ most_moov + 5 * most_moof
  asks-bound b fits =
      all_below (most_moov + 5 * most_moof) (reads_in meaning first_context b).effects.requests
      (each_ask (item meaning) (item-items meaning) IsStart (λ c b a. IsBounded a) (λ c b s. (item-modest c b s.0 s.1).requests) goes_on (λ c next b rest effects e a h. h) first_context b (fits, omega arith))
