-- What is at the front of a fragmented stream is an item, and what more bytes change of it.
use Rattle.std.proofs.Common.{◌≡◌, ℕ, ◌+◌, ◌-◌, ◌≤◌, List, [], ◌∷◌, ◌++◌, length, take, drop, Option, None, Some, append_assoc, Bool, true, false, ap, refl, arith, length-append, length-drop, subst}
use Rattle.std.specs.Prelude.{nat_lt, if◌then◌else◌}
use Rattle.std.proofs.lemmas.Bool.{ltb-false}
use Rattle.std.proofs.lemmas.List.{take-append-le, drop-append-le}
use Rattle.mp4_box.specs.declared.headers.FourCc.{FourCc}
use Rattle.mp4_box.specs.declared.headers.Header.{Header}
use Rattle.mp4_box.specs.declared.headers.Size.{Size}
use Rattle.mp4_box.specs.declared.headers.Size.TheVariants.{Exact, ToEnd}
use Rattle.mp4_box.specs.declared.headers.Step.{Step}
use Rattle.mp4_box.specs.declared.headers.Step.TheVariants as steps
use Rattle.mp4_box.specs.declared.rules.Rule.TheVariants.{Truncated, BadSize, TooLarge, StreamTooLong}
use Rattle.mp4_box.specs.Headers.{header_at, HasRoom}
use Rattle.mp4_box.specs.Order.{least}
use Rattle.mp4_box.proofs.HeaderLemmas.{header_at-append, whole_is, bad_is, need-least}
use Rattle.mp4_box.specs.declared.rules.Fault.{Fault}
use Rattle.mp4_init.specs.Moovs.{moov_fault}
use Rattle.mp4_init.specs.declared.table.Track.{Track}
use Rattle.mp4_frag.specs.Moofs.{fault_before_times, moof_trafs, time_faults}
use Rattle.mp4_traf.specs.Runs.{moof_at}
use Rattle.mp4_machine.specs.Bodies.{longest, at_fault, cut_off, least_end}
use Rattle.mp4_machine.specs.Readings.{Last, counts, requests_memory, after_effects, GrowsTo}
use Rattle.mp4_machine.proofs.ReadingLemmas.{Below, Below-emitted, Below-more, IsItemwise}
use Rattle.mp4_machine.proofs.ReadingGrowthLemmas.{reading_grows, FrontGrows, Extends-silent, emitted-grows}
use Rattle.mp4_machine.proofs.BodyLemmas.{nat_lt_false}
use Rattle.mp4_machine.proofs.PastLemmas.{effects-past}
use Rattle.mp4_grammar.proofs.PastLemmas.{after_by_past, after_past, item_by_past, item_past, kept_past}
use Rattle.mp4_machine.proofs.BodyGrowthLemmas.{emitted-below, emitted_open-below, emitted_body-grows, emitted_open-grows}
use Rattle.mp4_machine.proofs.HeadLemmas.{head-room, header-grows, kind_of-append}
use Rattle.mp4_grammar.specs.declared.kinds.Kind.{Kind}
use Rattle.mp4_grammar.specs.declared.kinds.Kind.TheVariants.{Moov, Moof, Mdat, Other}
use Rattle.mp4_grammar.specs.Kinds.{kind_in, most_moof, most_moov}
use Rattle.mp4_grammar.specs.Contexts.{Context, context, table_of}
use Rattle.mp4_grammar.specs.Meanings.{IsGrowing, Fragment, Meaning, fragment_fault, needed_in}
use Rattle.mp4_grammar.specs.Items.{media_body, context_after_fragment, fragment, mdat_by, second_by, second, after_moof_by, after_moof, moov_box, inspected, with_runs, timed_box, moof_box, whole_box_by, buffered_body, keeping, passing, box_in, box_from, item_by, item, reads_in}

-- ---- a fragment is shorter than the bytes

media-below : (meaning : Meaning) (f : Fragment) (next : ℕ) (h : Header) (size : Size) (bytes : List ℕ) → Below (media_body meaning f next h size bytes) (length bytes)
media-below meaning f next h (Exact s) bytes = emitted-below (meaning.media f) next h.kind (context_after_fragment meaning f (next + s)) (s - h.header_len) (length bytes) bytes (omega arith)
media-below meaning f next h ToEnd bytes = emitted_open-below Context (meaning.media f) next h.kind (needed_in f) (longest - (next + h.header_len)) (length bytes) bytes

mdat-below : (meaning : Meaning) (f : Fragment) (next : ℕ) (h : Header) (bytes : List ℕ) (g : Option Fault) → Below (mdat_by meaning f next h bytes g) (length bytes)
mdat-below meaning f next h bytes (Some g) = tt
mdat-below meaning f next h bytes None = Below-emitted (meaning.accepted f) (media_body meaning f next h h.size bytes) (length bytes) (media-below meaning f next h h.size bytes)

second_by-below : (meaning : Meaning) (c : Context) (tracks : List Track) (moof : List ℕ) (h : Header) (bytes : List ℕ) (kind : Kind) → Below (second_by meaning c tracks moof h bytes kind) (length bytes)
second_by-below meaning c tracks moof h bytes Moov = tt
second_by-below meaning c tracks moof h bytes Moof = tt
second_by-below meaning c tracks moof h bytes Other = tt
second_by-below meaning c tracks moof h bytes Mdat = mdat-below meaning (fragment c tracks moof h) (c.at + length moof) h bytes (fragment_fault meaning (fragment c tracks moof h))

second-below : (meaning : Meaning) (c : Context) (tracks : List Track) (moof : List ℕ) (h : Header) (bytes : List ℕ) → Below (second meaning c tracks moof h bytes) (length bytes)
second-below meaning c tracks moof h bytes = elim (nat_lt longest (least_end (c.at + length moof) h h.size)) as (λ v. Below (if v then Last (at_fault StreamTooLong (Some h.kind) (c.at + length moof)) else second_by meaning c tracks moof h bytes (kind_in h.kind.0)) (length bytes)) [
  | true ↦ tt
  | false ↦ second_by-below meaning c tracks moof h bytes (kind_in h.kind.0)
]

after_by-below : (meaning : Meaning) (c : Context) (tracks : List Track) (moof bytes : List ℕ) (s : Step) → Below (after_moof_by meaning c tracks moof bytes s) (length bytes)
after_by-below meaning c tracks moof bytes steps.More = tt
after_by-below meaning c tracks moof bytes steps.BadSize = tt
after_by-below meaning c tracks moof bytes (steps.Whole h) =
    Below-more (second meaning c tracks moof h (drop h.header_len bytes)) (length (drop h.header_len bytes)) (length bytes) (omega (arith, length-drop h.header_len bytes)) (second-below meaning c tracks moof h (drop h.header_len bytes))

after-below : (meaning : Meaning) (c : Context) (tracks : List Track) (moof bytes : List ℕ) → Below (after_moof meaning c tracks moof bytes) (length bytes)
unfolding after_moof
after-below meaning c tracks moof [] = tt
after-below meaning c tracks moof (b ∷ bytes) = after_by-below meaning c tracks moof (b ∷ bytes) (header_at (b ∷ bytes))

moov-below : (meaning : Meaning) (c : Context) (x rest : List ℕ) (f : Option Fault) → Below (moov_box meaning c x rest f) (length rest)
moov-below meaning c x rest (Some f) = tt
moov-below meaning c x rest None = omega arith

timed-below : (meaning : Meaning) (c : Context) (tracks : List Track) (x rest : List ℕ) (f : Option Fault) → Below (timed_box meaning c tracks x rest f) (length rest)
timed-below meaning c tracks x rest (Some f) = tt
timed-below meaning c tracks x rest None = Below-emitted (requests_memory c.at (with_runs c tracks x)) (after_moof meaning c tracks x rest) (length rest) (after-below meaning c tracks x rest)

moof-below : (meaning : Meaning) (c : Context) (tracks : List Track) (x rest : List ℕ) (f : Option Fault) → Below (moof_box meaning c tracks x rest f) (length rest)
moof-below meaning c tracks x rest (Some f) = tt
moof-below meaning c tracks x rest None =
    let late = least (time_faults (moof_trafs (moof_at x c.at) tracks)) in
    Below-emitted (counts (inspected (moof_at x c.at))) (timed_box meaning c tracks x rest late) (length rest) (timed-below meaning c tracks x rest late)

whole-below : (meaning : Meaning) (c : Context) (x rest : List ℕ) (tracks : Option (List Track)) → Below (whole_box_by meaning c x rest tracks) (length rest)
whole-below meaning c x rest None = moov-below meaning c x rest (moov_fault c.at x)
whole-below meaning c x rest (Some tracks) = moof-below meaning c tracks x rest (fault_before_times (moof_at x c.at) tracks)

kept-below : (meaning : Meaning) (c : Context) (kind : FourCc) (size : ℕ) (bytes : List ℕ) (n : ℕ) → length bytes ≤ n + size → Below (buffered_body meaning c kind size bytes) n
kept-below meaning c kind size bytes n h = elim (nat_lt (length bytes) size) as (λ v. Below (if v then Last (cut_off Truncated (Some kind) c.at) else whole_box_by meaning c (take size bytes) (drop size bytes) c.tracks) n) [
  | true ↦ tt
  | false ↦ Below-more (whole_box_by meaning c (take size bytes) (drop size bytes) c.tracks) (length (drop size bytes)) n (omega (arith, h, length-drop size bytes)) (whole-below meaning c (take size bytes) (drop size bytes) c.tracks)
]

pub keeping-below : (meaning : Meaning) (c : Context) (h : Header) (limit : ℕ) (x bytes : List ℕ) (size : Size) → HasRoom size (length x) → Below (keeping meaning c h limit (x ++ bytes) size) (length bytes)
keeping-below meaning c h limit x bytes (Exact s) room = elim (nat_lt limit s) as (λ v. Below (if v then Last (at_fault TooLarge (Some h.kind) c.at) else after_effects (requests_memory c.at (table_of c.tracks + s)) (buffered_body meaning c h.kind s (x ++ bytes))) (length bytes)) [
  | true ↦ tt
  | false ↦ Below-emitted (requests_memory c.at (table_of c.tracks + s)) (buffered_body meaning c h.kind s (x ++ bytes)) (length bytes) (kept-below meaning c h.kind s (x ++ bytes) (length bytes) (omega (arith, room, length-append x bytes)))
]
keeping-below meaning c h limit x bytes ToEnd room = tt

pub passing-below : (meaning : Meaning) (c : Context) (kind : FourCc) (x bytes : List ℕ) (size : Size) → HasRoom size (length x) → Below (passing meaning c kind (x ++ bytes) size) (length bytes)
passing-below meaning c kind x bytes (Exact s) room = emitted-below (meaning.passed kind) c.at kind (context (c.at + s) c.tracks c.number) s (length bytes) (x ++ bytes) (omega (arith, room, length-append x bytes))
passing-below meaning c kind x bytes ToEnd room = emitted_open-below Context (meaning.passed kind) c.at kind 0 (longest - c.at) (length bytes) (x ++ bytes)

box_in-below : (meaning : Meaning) (c : Context) (h : Header) (x bytes : List ℕ) (kind : Kind) (tracks : Option (List Track)) → HasRoom h.size (length x) → Below (box_in meaning c h x bytes kind tracks) (length bytes)
box_in-below meaning c h x bytes Moov None room = keeping-below meaning c h most_moov x bytes h.size room
box_in-below meaning c h x bytes Moov (Some tracks) room = tt
box_in-below meaning c h x bytes Moof None room = tt
box_in-below meaning c h x bytes Moof (Some tracks) room = keeping-below meaning c h most_moof x bytes h.size room
box_in-below meaning c h x bytes Mdat tracks room = tt
box_in-below meaning c h x bytes Other tracks room = passing-below meaning c h.kind x bytes h.size room

box_from-below : (meaning : Meaning) (c : Context) (h : Header) (x bytes : List ℕ) → HasRoom h.size (length x) → Below (box_from meaning c h x bytes) (length bytes)
box_from-below meaning c h x bytes room = elim (nat_lt longest (least_end c.at h h.size)) as (λ v. Below (if v then Last (at_fault StreamTooLong (Some h.kind) c.at) else box_in meaning c h x bytes (kind_in h.kind.0) c.tracks) (length bytes)) [
  | true ↦ tt
  | false ↦ box_in-below meaning c h x bytes (kind_in h.kind.0) c.tracks room
]

item_by-below : (meaning : Meaning) (c : Context) (b : ℕ) (bytes : List ℕ) (s : Step) → header_at (b ∷ bytes) ≡ s → Below (item_by meaning c (b ∷ bytes) s) (length bytes)
item_by-below meaning c b bytes steps.More e = tt
item_by-below meaning c b bytes steps.BadSize e = tt
item_by-below meaning c b bytes (steps.Whole h) e =
    let w = whole_is (b ∷ bytes) h e in
    Below-more (box_from meaning c h (take h.header_len (b ∷ bytes)) (drop h.header_len (b ∷ bytes))) (length (drop h.header_len (b ∷ bytes))) (length bytes)
    (omega (arith, length-drop h.header_len (b ∷ bytes), w.1, need-least (b ∷ bytes))) (box_from-below meaning c h (take h.header_len (b ∷ bytes)) (drop h.header_len (b ∷ bytes)) (head-room (b ∷ bytes) h e))

pub item-items : (meaning : Meaning) → IsItemwise (item meaning)
unfolding item
item-items meaning = record {
  empty = λ c. refl;
  shorter = λ c b bytes. item_by-below meaning c b bytes (header_at (b ∷ bytes)) refl;
}

-- ---- what more bytes change

module _ (meaning : Meaning) (growing : IsGrowing meaning) where
  media-grows : (f : Fragment) (next : ℕ) (h : Header) (size : Size) (b x : List ℕ) → FrontGrows x (media_body meaning f next h size b) (media_body meaning f next h size (b ++ x))
  media-grows f next h (Exact s) b x = emitted_body-grows (meaning.media f) (growing.media f) next h.kind (context_after_fragment meaning f (next + s)) (s - h.header_len) b x
  media-grows f next h ToEnd b x = emitted_open-grows (meaning.media f) (growing.media f) Context next h.kind (needed_in f) (longest - (next + h.header_len)) b x

  mdat-grows : (f : Fragment) (next : ℕ) (h : Header) (b x : List ℕ) (g : Option Fault) → FrontGrows x (mdat_by meaning f next h b g) (mdat_by meaning f next h (b ++ x) g)
  mdat-grows f next h b x (Some g) = refl
  mdat-grows f next h b x None = emitted-grows (meaning.accepted f) x (media_body meaning f next h h.size b) (media_body meaning f next h h.size (b ++ x)) (media-grows f next h h.size b x)

  second_by-grows : (c : Context) (tracks : List Track) (moof : List ℕ) (h : Header) (b x : List ℕ) (kind : Kind) → FrontGrows x (second_by meaning c tracks moof h b kind) (second_by meaning c tracks moof h (b ++ x) kind)
  second_by-grows c tracks moof h b x Moov = refl
  second_by-grows c tracks moof h b x Moof = refl
  second_by-grows c tracks moof h b x Other = refl
  second_by-grows c tracks moof h b x Mdat = mdat-grows (fragment c tracks moof h) (c.at + length moof) h b x (fragment_fault meaning (fragment c tracks moof h))

  second-grows : (c : Context) (tracks : List Track) (moof : List ℕ) (h : Header) (b x : List ℕ) (t : Bool) → nat_lt longest (least_end (c.at + length moof) h h.size) ≡ t → FrontGrows x (second meaning c tracks moof h b) (second meaning c tracks moof h (b ++ x))
  second-grows c tracks moof h b x true e = rw e refl
  second-grows c tracks moof h b x false e = rw e (second_by-grows c tracks moof h b x (kind_in h.kind.0))

  after_by-grows : (c : Context) (tracks : List Track) (moof b x : List ℕ) (s : Step) → header_at b ≡ s → FrontGrows x (after_moof_by meaning c tracks moof b s) (after_moof_by meaning c tracks moof (b ++ x) (header_at (b ++ x)))
  after_by-grows c tracks moof b x steps.More e = Extends-silent _ (effects-past _ (after_by_past meaning growing.fragment_ends c tracks moof (b ++ x) (header_at (b ++ x))))
  after_by-grows c tracks moof b x steps.BadSize e =
      rw (header_at-append b x (bad_is b e), e) (ap (λ k. Last (at_fault BadSize k (c.at + length moof))) (kind_of-append b x (omega (arith, need-least b, bad_is b e))))
  after_by-grows c tracks moof b x (steps.Whole h) e =
      let w = header-grows b x h e in
      rw (w.0, w.2) (second-grows c tracks moof h (drop h.header_len b) x _ refl)

  after-grows : (c : Context) (tracks : List Track) (moof b x : List ℕ) → FrontGrows x (after_moof meaning c tracks moof b) (after_moof meaning c tracks moof (b ++ x))
  unfolding after_moof
  after-grows c tracks moof [] x = Extends-silent _ (effects-past (after_moof meaning c tracks moof x) (after_past meaning growing.fragment_ends c tracks moof x))
  after-grows c tracks moof (a ∷ b) x = after_by-grows c tracks moof (a ∷ b) x (header_at (a ∷ b)) refl

  moov-grows : (c : Context) (y rest x : List ℕ) (f : Option Fault) → FrontGrows x (moov_box meaning c y rest f) (moov_box meaning c y (rest ++ x) f)
  moov-grows c y rest x (Some f) = refl
  moov-grows c y rest x None = refl

  timed-grows : (c : Context) (tracks : List Track) (y rest x : List ℕ) (f : Option Fault) → FrontGrows x (timed_box meaning c tracks y rest f) (timed_box meaning c tracks y (rest ++ x) f)
  timed-grows c tracks y rest x (Some f) = refl
  timed-grows c tracks y rest x None = emitted-grows (requests_memory c.at (with_runs c tracks y)) x (after_moof meaning c tracks y rest) (after_moof meaning c tracks y (rest ++ x)) (after-grows c tracks y rest x)

  moof-grows : (c : Context) (tracks : List Track) (y rest x : List ℕ) (f : Option Fault) → FrontGrows x (moof_box meaning c tracks y rest f) (moof_box meaning c tracks y (rest ++ x) f)
  moof-grows c tracks y rest x (Some f) = refl
  moof-grows c tracks y rest x None =
      let late = least (time_faults (moof_trafs (moof_at y c.at) tracks)) in
      emitted-grows (counts (inspected (moof_at y c.at))) x (timed_box meaning c tracks y rest late) (timed_box meaning c tracks y (rest ++ x) late) (timed-grows c tracks y rest x late)

  whole-grows : (c : Context) (y rest x : List ℕ) (tracks : Option (List Track)) → FrontGrows x (whole_box_by meaning c y rest tracks) (whole_box_by meaning c y (rest ++ x) tracks)
  whole-grows c y rest x None = moov-grows c y rest x (moov_fault c.at y)
  whole-grows c y rest x (Some tracks) = moof-grows c tracks y rest x (fault_before_times (moof_at y c.at) tracks)

  kept-grows : (c : Context) (kind : FourCc) (size : ℕ) (b x : List ℕ) (t : Bool) → nat_lt (length b) size ≡ t → FrontGrows x (buffered_body meaning c kind size b) (buffered_body meaning c kind size (b ++ x))
  kept-grows c kind size b x true e = rw e (Extends-silent _ (effects-past (buffered_body meaning c kind size (b ++ x)) (kept_past meaning growing.fragment_ends c kind size (b ++ x))))
  kept-grows c kind size b x false e =
      let enough : size ≤ length b = ltb-false _ _ e in
      rw (e, nat_lt_false (length (b ++ x)) size (omega (arith, length-append b x)), take-append-le size b x enough, drop-append-le size b x enough)
      (whole-grows c (take size b) (drop size b) x c.tracks)

  keeping-grows : (c : Context) (h : Header) (limit s : ℕ) (b x : List ℕ) (t : Bool) → nat_lt limit s ≡ t → FrontGrows x (keeping meaning c h limit b (Exact s)) (keeping meaning c h limit (b ++ x) (Exact s))
  keeping-grows c h limit s b x true e = rw e refl
  keeping-grows c h limit s b x false e = rw e (emitted-grows (requests_memory c.at (table_of c.tracks + s)) x (buffered_body meaning c h.kind s b) (buffered_body meaning c h.kind s (b ++ x)) (kept-grows c h.kind s b x _ refl))

  keeping-grows_by : (c : Context) (h : Header) (limit : ℕ) (b x : List ℕ) (size : Size) → FrontGrows x (keeping meaning c h limit b size) (keeping meaning c h limit (b ++ x) size)
  keeping-grows_by c h limit b x (Exact s) = keeping-grows c h limit s b x (nat_lt limit s) refl
  keeping-grows_by c h limit b x ToEnd = refl

  keeps : (c : Context) (h : Header) (limit : ℕ) (y b x : List ℕ) → FrontGrows x (keeping meaning c h limit (y ++ b) h.size) (keeping meaning c h limit (y ++ (b ++ x)) h.size)
  keeps c h limit y b x = subst (λ l. FrontGrows x (keeping meaning c h limit (y ++ b) h.size) (keeping meaning c h limit l h.size)) (append_assoc y b x) (keeping-grows_by c h limit (y ++ b) x h.size)

  passing-grows : (c : Context) (kind : FourCc) (b x : List ℕ) (size : Size) → FrontGrows x (passing meaning c kind b size) (passing meaning c kind (b ++ x) size)
  passing-grows c kind b x (Exact s) = emitted_body-grows (meaning.passed kind) (growing.passed kind) c.at kind (context (c.at + s) c.tracks c.number) s b x
  passing-grows c kind b x ToEnd = emitted_open-grows (meaning.passed kind) (growing.passed kind) Context c.at kind 0 (longest - c.at) b x

  passes : (c : Context) (kind : FourCc) (y b x : List ℕ) (size : Size) → FrontGrows x (passing meaning c kind (y ++ b) size) (passing meaning c kind (y ++ (b ++ x)) size)
  passes c kind y b x size = subst (λ l. FrontGrows x (passing meaning c kind (y ++ b) size) (passing meaning c kind l size)) (append_assoc y b x) (passing-grows c kind (y ++ b) x size)

  box_in-grows : (c : Context) (h : Header) (y b x : List ℕ) (kind : Kind) (tracks : Option (List Track)) → FrontGrows x (box_in meaning c h y b kind tracks) (box_in meaning c h y (b ++ x) kind tracks)
  box_in-grows c h y b x Moov None = keeps c h most_moov y b x
  box_in-grows c h y b x Moov (Some tracks) = refl
  box_in-grows c h y b x Moof None = refl
  box_in-grows c h y b x Moof (Some tracks) = keeps c h most_moof y b x
  box_in-grows c h y b x Mdat tracks = refl
  box_in-grows c h y b x Other tracks = passes c h.kind y b x h.size

  box_from-grows : (c : Context) (h : Header) (y b x : List ℕ) (t : Bool) → nat_lt longest (least_end c.at h h.size) ≡ t → FrontGrows x (box_from meaning c h y b) (box_from meaning c h y (b ++ x))
  box_from-grows c h y b x true e = rw e refl
  box_from-grows c h y b x false e = rw e (box_in-grows c h y b x (kind_in h.kind.0) c.tracks)

  item_by-grows : (c : Context) (b x : List ℕ) (s : Step) → header_at b ≡ s → FrontGrows x (item_by meaning c b s) (item_by meaning c (b ++ x) (header_at (b ++ x)))
  item_by-grows c b x steps.More e = Extends-silent _ (effects-past _ (item_by_past meaning growing.fragment_ends c (b ++ x) (header_at (b ++ x))))
  item_by-grows c b x steps.BadSize e =
      rw (header_at-append b x (bad_is b e), e) (ap (λ k. Last (at_fault BadSize k c.at)) (kind_of-append b x (omega (arith, need-least b, bad_is b e))))
  item_by-grows c b x (steps.Whole h) e =
      let w = header-grows b x h e in
      rw (w.0, w.1, w.2) (box_from-grows c h (take h.header_len b) (drop h.header_len b) x _ refl)

  pub item-grows : (c : Context) (b x : List ℕ) → FrontGrows x (item meaning c b) (item meaning c (b ++ x))
  unfolding item
  item-grows c [] x = Extends-silent _ (effects-past (item meaning c x) (item_past meaning growing.fragment_ends c x))
  item-grows c (a ∷ b) x = item_by-grows c (a ∷ b) x (header_at (a ∷ b)) refl

  -- what more bytes add to a reading
  pub reads-grow : (c : Context) (b x : List ℕ) → GrowsTo (reads_in meaning c b) (reads_in meaning c (b ++ x))
  reads-grow c b x = reading_grows (item meaning) (item-items meaning) item-grows (item_past meaning growing.fragment_ends) c b x
