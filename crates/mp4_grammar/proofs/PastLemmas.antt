-- Each fragment that is marked in a fragmented stream ends after some text, if that holds of its media and other boxes.
use Rattle.std.proofs.Common.{◌≡◌, ℕ, ◌+◌, ◌-◌, List, [], ◌∷◌, ◌++◌, length, take, drop, Bool, true, false, Option, None, Some, refl}
use Rattle.std.specs.Prelude.{nat_lt}
use Rattle.mp4_box.specs.declared.headers.FourCc.{FourCc}
use Rattle.mp4_box.specs.declared.headers.Header.{Header}
use Rattle.mp4_box.specs.declared.headers.Size.{Size}
use Rattle.mp4_box.specs.declared.headers.Size.TheVariants.{Exact, ToEnd}
use Rattle.mp4_box.specs.declared.headers.Step.{Step}
use Rattle.mp4_box.specs.declared.headers.Step.TheVariants as steps
use Rattle.mp4_box.specs.declared.rules.Fault.{Fault}
use Rattle.mp4_box.specs.Headers.{header_at}
use Rattle.mp4_box.specs.Order.{least}
use Rattle.mp4_init.specs.Moovs.{moov_fault}
use Rattle.mp4_init.specs.declared.table.Track.{Track}
use Rattle.mp4_frag.specs.Moofs.{fault_before_times, moof_trafs, time_faults}
use Rattle.mp4_traf.specs.Runs.{moof_at}
use Rattle.mp4_machine.specs.Bodies.{least_end, longest}
use Rattle.mp4_machine.specs.Readings.{ArePast, counts, requests_memory, then_read}
use Rattle.mp4_machine.proofs.PastLemmas.{IsPast, after-past, all-past, body-past, open-past, then-past}
use Rattle.mp4_grammar.specs.Contexts.{Context, context}
use Rattle.mp4_grammar.specs.Items.{after_moof, after_moof_by, box_from, box_in, context_after_fragment, fragment, item, item_by, buffered_body, keeping, mdat_by, media_body, moof_box, moov_box, passing, reads_in, second, second_by, timed_box, inspected, whole_box_by, with_runs}
use Rattle.mp4_grammar.specs.Kinds.{kind_in, most_moof, most_moov}
use Rattle.mp4_grammar.specs.Meanings.{Fragment, FragmentEndsPast, Meaning, fragment_fault, needed_in}
use Rattle.mp4_grammar.specs.declared.kinds.Kind.{Kind}
use Rattle.mp4_grammar.specs.declared.kinds.Kind.TheVariants.{Moov, Moof, Mdat, Other}

module _ (meaning : Meaning) (m : FragmentEndsPast meaning) where
  media_past : (f : Fragment) (next : ℕ) (h : Header) (s : Size) (b : List ℕ) → IsPast (media_body meaning f next h s b)
  media_past f next h (Exact s) b = body-past (meaning.media f) (m.media f) next h.kind (context_after_fragment meaning f (next + s)) (s - h.header_len) b
  media_past f next h ToEnd b = open-past (meaning.media f) (m.media f) next h.kind Context (needed_in f) (longest - (next + h.header_len)) b

  mdat_past : (f : Fragment) (next : ℕ) (h : Header) (b : List ℕ) (e : Option Fault) → IsPast (mdat_by meaning f next h b e)
  mdat_past f next h b (Some g) = tt
  mdat_past f next h b None = after-past (meaning.accepted f) (media_body meaning f next h h.size b) (m.accepted f) (media_past f next h h.size b)

  second_by_past : (c : Context) (tracks : List Track) (x : List ℕ) (h : Header) (b : List ℕ) (k : Kind) → IsPast (second_by meaning c tracks x h b k)
  second_by_past c tracks x h b Mdat = mdat_past (fragment c tracks x h) (c.at + length x) h b (fragment_fault meaning (fragment c tracks x h))
  second_by_past c tracks x h b Moov = tt
  second_by_past c tracks x h b Moof = tt
  second_by_past c tracks x h b Other = tt

  second_past : (c : Context) (tracks : List Track) (x : List ℕ) (h : Header) (b : List ℕ) (t : Bool) → nat_lt longest (least_end (c.at + length x) h h.size) ≡ t → IsPast (second meaning c tracks x h b)
  second_past c tracks x h b true e = rw e tt
  second_past c tracks x h b false e = rw e (second_by_past c tracks x h b (kind_in h.kind.0))

  pub after_by_past : (c : Context) (tracks : List Track) (x b : List ℕ) (s : Step) → IsPast (after_moof_by meaning c tracks x b s)
  after_by_past c tracks x b steps.More = tt
  after_by_past c tracks x b steps.BadSize = tt
  after_by_past c tracks x b (steps.Whole h) = second_past c tracks x h (drop h.header_len b) _ refl

  pub after_past : (c : Context) (tracks : List Track) (x b : List ℕ) → IsPast (after_moof meaning c tracks x b)
  unfolding after_moof
  after_past c tracks x [] = tt
  after_past c tracks x (a ∷ b) = after_by_past c tracks x (a ∷ b) (header_at (a ∷ b))

  moov_past : (c : Context) (x rest : List ℕ) (f : Option Fault) → IsPast (moov_box meaning c x rest f)
  moov_past c x rest (Some f) = tt
  moov_past c x rest None = tt

  timed_past : (c : Context) (tracks : List Track) (x rest : List ℕ) (f : Option Fault) → IsPast (timed_box meaning c tracks x rest f)
  timed_past c tracks x rest (Some f) = tt
  timed_past c tracks x rest None = after-past (requests_memory c.at (with_runs c tracks x)) (after_moof meaning c tracks x rest) tt (after_past c tracks x rest)

  moof_past : (c : Context) (tracks : List Track) (x rest : List ℕ) (f : Option Fault) → IsPast (moof_box meaning c tracks x rest f)
  moof_past c tracks x rest (Some f) = tt
  moof_past c tracks x rest None =
      let late = least (time_faults (moof_trafs (moof_at x c.at) tracks)) in
      after-past (counts (inspected (moof_at x c.at))) (timed_box meaning c tracks x rest late) tt (timed_past c tracks x rest late)

  whole_past : (c : Context) (x rest : List ℕ) (tracks : Option (List Track)) → IsPast (whole_box_by meaning c x rest tracks)
  whole_past c x rest None = moov_past c x rest (moov_fault c.at x)
  whole_past c x rest (Some tracks) = moof_past c tracks x rest (fault_before_times (moof_at x c.at) tracks)

  kept_past_by : (c : Context) (kind : FourCc) (size : ℕ) (b : List ℕ) (t : Bool) → nat_lt (length b) size ≡ t → IsPast (buffered_body meaning c kind size b)
  kept_past_by c kind size b true e = rw e tt
  kept_past_by c kind size b false e = rw e (whole_past c (take size b) (drop size b) c.tracks)

  pub kept_past : (c : Context) (kind : FourCc) (size : ℕ) (b : List ℕ) → IsPast (buffered_body meaning c kind size b)
  kept_past c kind size b = kept_past_by c kind size b _ refl

  sized_past : (c : Context) (h : Header) (limit s : ℕ) (b : List ℕ) (t : Bool) → nat_lt limit s ≡ t → IsPast (keeping meaning c h limit b (Exact s))
  sized_past c h limit s b true e = rw e tt
  sized_past c h limit s b false e = rw e (after-past (requests_memory c.at _) (buffered_body meaning c h.kind s b) tt (kept_past c h.kind s b))

  keeping_past : (c : Context) (h : Header) (limit : ℕ) (b : List ℕ) (size : Size) → IsPast (keeping meaning c h limit b size)
  keeping_past c h limit b (Exact s) = sized_past c h limit s b _ refl
  keeping_past c h limit b ToEnd = tt

  passing_past : (c : Context) (kind : FourCc) (b : List ℕ) (size : Size) → IsPast (passing meaning c kind b size)
  passing_past c kind b (Exact s) = body-past (meaning.passed kind) (m.passed kind) c.at kind (context (c.at + s) c.tracks c.number) s b
  passing_past c kind b ToEnd = open-past (meaning.passed kind) (m.passed kind) c.at kind Context 0 (longest - c.at) b

  box_in_past : (c : Context) (h : Header) (x b : List ℕ) (kind : Kind) (tracks : Option (List Track)) → IsPast (box_in meaning c h x b kind tracks)
  box_in_past c h x b Moov None = keeping_past c h most_moov (x ++ b) h.size
  box_in_past c h x b Moov (Some tracks) = tt
  box_in_past c h x b Moof None = tt
  box_in_past c h x b Moof (Some tracks) = keeping_past c h most_moof (x ++ b) h.size
  box_in_past c h x b Mdat tracks = tt
  box_in_past c h x b Other tracks = passing_past c h.kind (x ++ b) h.size

  box_from_past : (c : Context) (h : Header) (x b : List ℕ) (t : Bool) → nat_lt longest (least_end c.at h h.size) ≡ t → IsPast (box_from meaning c h x b)
  box_from_past c h x b true e = rw e tt
  box_from_past c h x b false e = rw e (box_in_past c h x b (kind_in h.kind.0) c.tracks)

  pub item_by_past : (c : Context) (b : List ℕ) (s : Step) → IsPast (item_by meaning c b s)
  item_by_past c b steps.More = tt
  item_by_past c b steps.BadSize = tt
  item_by_past c b (steps.Whole h) = box_from_past c h (take h.header_len b) (drop h.header_len b) _ refl

  pub item_past : (c : Context) (b : List ℕ) → IsPast (item meaning c b)
  unfolding item
  item_past c [] = tt
  item_past c (a ∷ b) = item_by_past c (a ∷ b) (header_at (a ∷ b))

  pub reads_past : (c : Context) (b : List ℕ) → ArePast 0 (reads_in meaning c b).effects.fragment_ends
  reads_past c b = all-past (item meaning) item_past c b

  pub kept-past : (c : Context) (kind : FourCc) (size : ℕ) (b : List ℕ) → ArePast 0 (then_read (reads_in meaning) (buffered_body meaning c kind size b)).effects.fragment_ends
  kept-past c kind size b = then-past (reads_in meaning) reads_past (buffered_body meaning c kind size b) (kept_past c kind size b)

  pub after_moof-past : (c : Context) (tracks : List Track) (x b : List ℕ) → ArePast 0 (then_read (reads_in meaning) (after_moof meaning c tracks x b)).effects.fragment_ends
  after_moof-past c tracks x b = then-past (reads_in meaning) reads_past (after_moof meaning c tracks x b) (after_past c tracks x b)
