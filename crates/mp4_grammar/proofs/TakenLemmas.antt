-- A whole item of a fragmented stream has bytes of its own, and is the same whatever follows.
use Rattle.std.proofs.Common.{◌≡◌, ◌∙◌, ℕ, ◌+◌, ◌-◌, ◌<◌, ◌≤◌, List, [], ◌∷◌, ◌++◌, length, take, drop, Option, None, Some, append_assoc, Bool, true, false, ap, sym, refl, arith, length-append, length-drop, length-take-le, take-append-drop, subst}
use Rattle.std.proofs.Math.Seq.{take-append_seam, drop-append_seam}
use Rattle.std.specs.Prelude.{nat_lt, if◌then◌else◌}
use Rattle.std.proofs.lemmas.Bool.{ltb-false}
use Rattle.std.proofs.lemmas.List.{take-append-le, drop-append-le}
use Rattle.mp4_box.specs.declared.headers.FourCc.{FourCc}
use Rattle.mp4_box.specs.declared.headers.Header.{Header}
use Rattle.mp4_box.specs.declared.headers.Size.{Size}
use Rattle.mp4_box.specs.declared.headers.Size.TheVariants.{Exact, ToEnd}
use Rattle.mp4_box.specs.declared.headers.Step.{Step}
use Rattle.mp4_box.specs.declared.headers.Step.TheVariants as steps
use Rattle.mp4_box.specs.declared.rules.Fault.{Fault}
use Rattle.mp4_box.specs.declared.rules.Rule.TheVariants.{StreamTooLong}
use Rattle.mp4_box.specs.Headers.{header_at, need, HasRoom}
use Rattle.mp4_box.specs.Order.{least}
use Rattle.mp4_box.proofs.HeaderLemmas.{header_at-append, whole_is, need-least}
use Rattle.mp4_init.specs.Moovs.{moov_fault}
use Rattle.mp4_init.specs.declared.table.Track.{Track}
use Rattle.mp4_frag.specs.Moofs.{fault_before_times, moof_trafs, time_faults}
use Rattle.mp4_traf.specs.Runs.{moof_at}
use Rattle.mp4_machine.specs.Bodies.{least_end, longest, at_fault, body_item, open_body_item}
use Rattle.mp4_machine.specs.Readings.{Effects, counts, requests_memory, FirstItem, Last, Whole, after_effects}
use Rattle.mp4_machine.proofs.ReadingLemmas.{Below}
use Rattle.mp4_machine.proofs.ReadingItemLemmas.{IsItemAt}
use Rattle.mp4_machine.proofs.BodyLemmas.{nat_lt_false}
use Rattle.mp4_machine.proofs.HeadLemmas.{front-is, front-len, head-room}
use Rattle.mp4_grammar.specs.declared.kinds.Kind.{Kind}
use Rattle.mp4_grammar.specs.declared.kinds.Kind.TheVariants.{Moov, Moof, Mdat, Other}
use Rattle.mp4_grammar.specs.Kinds.{kind_in, most_moof, most_moov}
use Rattle.mp4_grammar.specs.Contexts.{Context, context, table_of}
use Rattle.mp4_grammar.specs.Meanings.{Fragment, Meaning, fragment_fault, needed_in}
use Rattle.mp4_grammar.specs.Items.{media_body, context_after_fragment, fragment, mdat_by, second_by, second, after_moof_by, after_moof, moov_box, inspected, with_runs, timed_box, moof_box, whole_box_by, buffered_body, keeping, passing, box_in, box_from, item_by, item}
use Rattle.mp4_grammar.proofs.ItemLemmas.{item-items, keeping-below, passing-below}

-- ---- any bytes that are taken

-- f takes bytes of its own from a base on, whatever follows
pub record IsOwn (f : List ℕ → FirstItem Context) (base : ℕ) (bytes : List ℕ) (effects : Effects) (next : Context) (rest : List ℕ) : Type 0 where
  pub own : List ℕ
  pub cut : bytes ≡ own ++ rest
  pub ends : next.at ≡ base + length own
  pub same : (y : List ℕ) → f (own ++ y) ≡ Whole effects next y

abbrev IsTaken : (List ℕ → FirstItem Context) → ℕ → List ℕ → FirstItem Context → Type 0
IsTaken f base b (Last r) = Unit {0}
IsTaken f base b (Whole effects next rest) = IsOwn f base b effects next rest

-- no bytes are taken
none-taken : (f : List ℕ → FirstItem Context) (base : ℕ) (b : List ℕ) (effects : Effects) (next : Context) → next.at ≡ base → ((y : List ℕ) → f y ≡ Whole effects next y) → IsOwn f base b effects next b
none-taken f base b effects next e same = record { own = []; cut = refl; ends = omega (arith, e); same = same }

emitted-taken : (t : Effects) (f : List ℕ → FirstItem Context) (base : ℕ) (b : List ℕ) (v : FirstItem Context) → IsTaken f base b v → IsTaken (λ y. after_effects t (f y)) base b (after_effects t v)
emitted-taken t f base b (Last r) h = tt
emitted-taken t f base b (Whole effects next rest) h = record { own = h.own; cut = h.cut; ends = h.ends; same = λ y. ap (after_effects t) (h.same y) }

-- the bytes x come first
front-taken : (f g : List ℕ → FirstItem Context) (base : ℕ) (x b : List ℕ) (v : FirstItem Context) → ((y : List ℕ) → f (x ++ y) ≡ g y) → IsTaken g (base + length x) b v → IsTaken f base (x ++ b) v
front-taken f g base x b (Last r) same h = tt
front-taken f g base x b (Whole effects next rest) same h = record {
  own = x ++ h.own;
  cut = ap (λ l. x ++ l) h.cut ∙ sym (append_assoc x h.own rest);
  ends = omega (arith, h.ends, length-append x h.own);
  same = λ y. ap f (append_assoc x h.own y) ∙ same (h.own ++ y) ∙ h.same y;
}

-- the same, after bytes that all of it begins with
after-taken : (f : List ℕ → FirstItem Context) (base : ℕ) (x b : List ℕ) (v : FirstItem Context) → Below v (length b) → IsTaken f base (x ++ b) v → IsTaken (λ z. f (x ++ z)) (base + length x) b v
after-taken f base x b (Last r) short h = tt
after-taken f base x b (Whole effects next rest) short h =
    let all : length x + length b ≡ length h.own + length rest = sym (length-append x b) ∙ ap length h.cut ∙ length-append h.own rest in
    let less : length x ≤ length h.own = omega (arith, all, short) in
    let front : take (length x) h.own ≡ x = sym (take-append-le (length x) h.own rest less) ∙ ap (take (length x)) (sym h.cut) ∙ take-append_seam x b in
    let own : h.own ≡ x ++ drop (length x) h.own = sym (take-append-drop (length x) h.own) ∙ ap (λ l. l ++ drop (length x) h.own) front in
    record {
      own = drop (length x) h.own;
      cut = sym (drop-append_seam x b) ∙ ap (drop (length x)) h.cut ∙ drop-append-le (length x) h.own rest less;
      ends = omega (arith, h.ends, length-drop (length x) h.own, less);
      same = λ y. ap f (sym (append_assoc x (drop (length x) h.own) y) ∙ ap (λ l. l ++ y) (sym own)) ∙ h.same y;
    }

-- ---- bodies

pub sized-whole : (emit : List ℕ → Effects) (at : ℕ) (kind : FourCc) (next : Context) (x y : List ℕ) → body_item emit at kind next (length x) (x ++ y) ≡ Whole (emit x) next y
sized-whole emit at kind next x y = rw (nat_lt_false (length (x ++ y)) (length x) (omega (arith, length-append x y)), take-append_seam x y, drop-append_seam x y) refl

sized-taken : (emit : List ℕ → Effects) (at : ℕ) (kind : FourCc) (base : ℕ) (next : Context) (left : ℕ) (b : List ℕ) (t : Bool) → next.at ≡ base + left → nat_lt (length b) left ≡ t → IsTaken (body_item emit at kind next left) base b (body_item emit at kind next left b)
sized-taken emit at kind base next left b true n e = rw e tt
sized-taken emit at kind base next left b false n e =
    let len : length (take left b) ≡ left = length-take-le left b (ltb-false _ _ e) in
    let taken : IsOwn (body_item emit at kind next left) base b (emit (take left b)) next (drop left b) = record {
      own = take left b;
      cut = sym (take-append-drop left b);
      ends = omega (arith, len, n);
      same = λ y. ap (λ k. body_item emit at kind next k (take left b ++ y)) (sym len) ∙ sized-whole emit at kind next (take left b) y;
    } in
    rw e taken

open-taken : (emit : List ℕ → Effects) (at : ℕ) (kind : FourCc) (needed left base : ℕ) (b : List ℕ) (t u : Bool) → nat_lt left (length b) ≡ t → nat_lt (length b) needed ≡ u → IsTaken (open_body_item emit at kind needed left) base b (open_body_item emit at kind needed left b)
open-taken emit at kind needed left base b true u e d = rw e tt
open-taken emit at kind needed left base b false true e d = rw (e, d) tt
open-taken emit at kind needed left base b false false e d = rw (e, d) tt

-- ---- the header at the front

module _ (meaning : Meaning) where
  pub item-some : (c : Context) (b : List ℕ) → 0 < length b → item meaning c b ≡ item_by meaning c b (header_at b)
  unfolding item
  item-some c [] some = absurd (omega arith)
  item-some c (a ∷ b) some = refl

  pub after-some : (c : Context) (tracks : List Track) (x b : List ℕ) → 0 < length b → after_moof meaning c tracks x b ≡ after_moof_by meaning c tracks x b (header_at b)
  unfolding after_moof
  after-some c tracks x [] some = absurd (omega arith)
  after-some c tracks x (a ∷ b) some = refl

  -- a header x, and the bytes after it
  pub item-headed : (c : Context) (x z : List ℕ) (h : Header) → length x ≡ need x → header_at x ≡ steps.Whole h → item meaning c (x ++ z) ≡ box_from meaning c h x z
  item-headed c x z h len e =
      let w = whole_is x h e in
      let same : h.header_len ≡ length x = omega (arith, w.1, len) in
      item-some c (x ++ z) (omega (arith, need-least x, length-append x z, len)) ∙ ap (item_by meaning c (x ++ z)) (header_at-append x z (omega (arith, len)) ∙ e)
      ∙ ap (λ l. box_from meaning c h l (drop h.header_len (x ++ z))) (ap (λ n. take n (x ++ z)) same ∙ take-append_seam x z) ∙ ap (box_from meaning c h x) (ap (λ n. drop n (x ++ z)) same ∙ drop-append_seam x z)

  -- the same, directly after a moof
  pub after-headed : (c : Context) (tracks : List Track) (moof x z : List ℕ) (h : Header) → length x ≡ need x → header_at x ≡ steps.Whole h → after_moof meaning c tracks moof (x ++ z) ≡ second meaning c tracks moof h z
  after-headed c tracks moof x z h len e =
      let w = whole_is x h e in
      let same : h.header_len ≡ length x = omega (arith, w.1, len) in
      after-some c tracks moof (x ++ z) (omega (arith, need-least x, length-append x z, len)) ∙ ap (after_moof_by meaning c tracks moof (x ++ z)) (header_at-append x z (omega (arith, len)) ∙ e)
      ∙ ap (second meaning c tracks moof h) (ap (λ n. drop n (x ++ z)) same ∙ drop-append_seam x z)

  -- ---- a fragment

  media-taken : (f : Fragment) (next : ℕ) (h : Header) (size : Size) (b : List ℕ) → HasRoom size h.header_len → IsTaken (media_body meaning f next h size) (next + h.header_len) b (media_body meaning f next h size b)
  media-taken f next h (Exact s) b room = sized-taken (meaning.media f) next h.kind (next + h.header_len) (context_after_fragment meaning f (next + s)) (s - h.header_len) b _ (omega (arith, room)) refl
  media-taken f next h ToEnd b room = open-taken (meaning.media f) next h.kind (needed_in f) (longest - (next + h.header_len)) (next + h.header_len) b _ _ refl refl

  mdat-taken : (f : Fragment) (next : ℕ) (h : Header) (b : List ℕ) (g : Option Fault) → HasRoom h.size h.header_len → IsTaken (λ z. mdat_by meaning f next h z g) (next + h.header_len) b (mdat_by meaning f next h b g)
  mdat-taken f next h b (Some g) room = tt
  mdat-taken f next h b None room = emitted-taken (meaning.accepted f) (media_body meaning f next h h.size) (next + h.header_len) b (media_body meaning f next h h.size b) (media-taken f next h h.size b room)

  second_by-taken : (c : Context) (tracks : List Track) (x : List ℕ) (h : Header) (b : List ℕ) (kind : Kind) → HasRoom h.size h.header_len → IsTaken (λ z. second_by meaning c tracks x h z kind) (c.at + length x + h.header_len) b (second_by meaning c tracks x h b kind)
  second_by-taken c tracks x h b Moov room = tt
  second_by-taken c tracks x h b Moof room = tt
  second_by-taken c tracks x h b Other room = tt
  second_by-taken c tracks x h b Mdat room = mdat-taken (fragment c tracks x h) (c.at + length x) h b (fragment_fault meaning (fragment c tracks x h)) room

  second-taken : (c : Context) (tracks : List Track) (x : List ℕ) (h : Header) (b : List ℕ) (t : Bool) → nat_lt longest (least_end (c.at + length x) h h.size) ≡ t → HasRoom h.size h.header_len
      → IsTaken (λ z. if nat_lt longest (least_end (c.at + length x) h h.size) then Last (at_fault StreamTooLong (Some h.kind) (c.at + length x)) else second_by meaning c tracks x h z (kind_in h.kind.0)) (c.at + length x + h.header_len) b (second meaning c tracks x h b)
  second-taken c tracks x h b true e room = rw e tt
  second-taken c tracks x h b false e room = rw e (second_by-taken c tracks x h b (kind_in h.kind.0) room)

  after_by-taken : (c : Context) (tracks : List Track) (x b : List ℕ) (s : Step) → header_at b ≡ s → IsTaken (after_moof meaning c tracks x) (c.at + length x) b (after_moof_by meaning c tracks x b s)
  after_by-taken c tracks x b steps.More e = tt
  after_by-taken c tracks x b steps.BadSize e = tt
  after_by-taken c tracks x b (steps.Whole h) e =
      let w = whole_is b h e in
      let header_bytes = take h.header_len b in
      let len : length (take h.header_len b) ≡ h.header_len = length-take-le h.header_len b (omega (arith, w.0, w.1)) in
      let rest = drop h.header_len b in
      let second-own : IsTaken (second meaning c tracks x h) (c.at + length x + length header_bytes) rest (second meaning c tracks x h rest) =
      subst (λ n. IsTaken (second meaning c tracks x h) (c.at + length x + n) rest (second meaning c tracks x h rest)) (sym len) (second-taken c tracks x h rest _ refl (subst (HasRoom h.size) len (head-room b h e))) in
      subst (λ l. IsTaken (after_moof meaning c tracks x) (c.at + length x) l (second meaning c tracks x h rest)) (take-append-drop h.header_len b)
      (front-taken (after_moof meaning c tracks x) (second meaning c tracks x h) (c.at + length x) header_bytes rest (second meaning c tracks x h rest) (λ y. after-headed c tracks x header_bytes y h (front-len b h e) (front-is b h e)) second-own)

  pub after-own : (c : Context) (tracks : List Track) (x b : List ℕ) → IsTaken (after_moof meaning c tracks x) (c.at + length x) b (after_moof meaning c tracks x b)
  unfolding after_moof
  after-own c tracks x [] = tt
  after-own c tracks x (a ∷ b) = after_by-taken c tracks x (a ∷ b) (header_at (a ∷ b)) refl

  -- ---- a moov or a moof

  moov-taken : (c : Context) (x b : List ℕ) (f : Option Fault) → IsTaken (λ z. moov_box meaning c x z f) (c.at + length x) b (moov_box meaning c x b f)
  moov-taken c x b (Some f) = tt
  moov-taken c x b None = none-taken (λ z. moov_box meaning c x z None) (c.at + length x) b _ _ refl (λ y. refl)

  timed-taken : (c : Context) (tracks : List Track) (x b : List ℕ) (f : Option Fault) → IsTaken (λ z. timed_box meaning c tracks x z f) (c.at + length x) b (timed_box meaning c tracks x b f)
  timed-taken c tracks x b (Some f) = tt
  timed-taken c tracks x b None = emitted-taken (requests_memory c.at (with_runs c tracks x)) (after_moof meaning c tracks x) (c.at + length x) b (after_moof meaning c tracks x b) (after-own c tracks x b)

  moof-taken : (c : Context) (tracks : List Track) (x b : List ℕ) (f : Option Fault) → IsTaken (λ z. moof_box meaning c tracks x z f) (c.at + length x) b (moof_box meaning c tracks x b f)
  moof-taken c tracks x b (Some f) = tt
  moof-taken c tracks x b None =
      let late = least (time_faults (moof_trafs (moof_at x c.at) tracks)) in
      emitted-taken (counts (inspected (moof_at x c.at))) (λ z. timed_box meaning c tracks x z late) (c.at + length x) b (timed_box meaning c tracks x b late) (timed-taken c tracks x b late)

  whole-taken : (c : Context) (x b : List ℕ) (tracks : Option (List Track)) → IsTaken (λ z. whole_box_by meaning c x z tracks) (c.at + length x) b (whole_box_by meaning c x b tracks)
  whole-taken c x b None = moov-taken c x b (moov_fault c.at x)
  whole-taken c x b (Some tracks) = moof-taken c tracks x b (fault_before_times (moof_at x c.at) tracks)

  -- all of it came
  pub kept-whole : (c : Context) (kind : FourCc) (x y : List ℕ) → buffered_body meaning c kind (length x) (x ++ y) ≡ whole_box_by meaning c x y c.tracks
  kept-whole c kind x y = rw (nat_lt_false (length (x ++ y)) (length x) (omega (arith, length-append x y)), take-append_seam x y, drop-append_seam x y) refl

  kept-taken : (c : Context) (kind : FourCc) (size : ℕ) (b : List ℕ) (t : Bool) → nat_lt (length b) size ≡ t → IsTaken (buffered_body meaning c kind size) c.at b (buffered_body meaning c kind size b)
  kept-taken c kind size b true e = rw e tt
  kept-taken c kind size b false e =
      let x = take size b in
      let len : length (take size b) ≡ size = length-take-le size b (ltb-false _ _ e) in
      let v = whole_box_by meaning c x (drop size b) c.tracks in
      let own : IsTaken (buffered_body meaning c kind size) c.at (take size b ++ drop size b) v =
      front-taken (buffered_body meaning c kind size) (λ z. whole_box_by meaning c x z c.tracks) c.at x (drop size b) v
      (λ y. ap (λ n. buffered_body meaning c kind n (x ++ y)) (sym len) ∙ kept-whole c kind x y) (whole-taken c x (drop size b) c.tracks) in
      rw e (subst (λ l. IsTaken (buffered_body meaning c kind size) c.at l v) (take-append-drop size b) own)

  keeping-taken : (c : Context) (h : Header) (limit s : ℕ) (b : List ℕ) (t : Bool) → nat_lt limit s ≡ t → IsTaken (λ z. keeping meaning c h limit z (Exact s)) c.at b (keeping meaning c h limit b (Exact s))
  keeping-taken c h limit s b true e = rw e tt
  keeping-taken c h limit s b false e = rw e (emitted-taken (requests_memory c.at (table_of c.tracks + s)) (buffered_body meaning c h.kind s) c.at b (buffered_body meaning c h.kind s b) (kept-taken c h.kind s b _ refl))

  keeping-taken_by : (c : Context) (h : Header) (limit : ℕ) (b : List ℕ) (size : Size) → IsTaken (λ z. keeping meaning c h limit z size) c.at b (keeping meaning c h limit b size)
  keeping-taken_by c h limit b (Exact s) = keeping-taken c h limit s b _ refl
  keeping-taken_by c h limit b ToEnd = tt

  passing-taken : (c : Context) (kind : FourCc) (b : List ℕ) (size : Size) → IsTaken (λ z. passing meaning c kind z size) c.at b (passing meaning c kind b size)
  passing-taken c kind b (Exact s) = sized-taken (meaning.passed kind) c.at kind c.at (context (c.at + s) c.tracks c.number) s b _ refl refl
  passing-taken c kind b ToEnd = open-taken (meaning.passed kind) c.at kind 0 (longest - c.at) c.at b _ _ refl refl

  -- ---- the whole

  box_in-taken : (c : Context) (h : Header) (x b : List ℕ) (kind : Kind) (tracks : Option (List Track)) → HasRoom h.size (length x) → IsTaken (λ z. box_in meaning c h x z kind tracks) (c.at + length x) b (box_in meaning c h x b kind tracks)
  box_in-taken c h x b Moov None room = after-taken (λ z. keeping meaning c h most_moov z h.size) c.at x b (keeping meaning c h most_moov (x ++ b) h.size) (keeping-below meaning c h most_moov x b h.size room) (keeping-taken_by c h most_moov (x ++ b) h.size)
  box_in-taken c h x b Moov (Some tracks) room = tt
  box_in-taken c h x b Moof None room = tt
  box_in-taken c h x b Moof (Some tracks) room = after-taken (λ z. keeping meaning c h most_moof z h.size) c.at x b (keeping meaning c h most_moof (x ++ b) h.size) (keeping-below meaning c h most_moof x b h.size room) (keeping-taken_by c h most_moof (x ++ b) h.size)
  box_in-taken c h x b Mdat tracks room = tt
  box_in-taken c h x b Other tracks room = after-taken (λ z. passing meaning c h.kind z h.size) c.at x b (passing meaning c h.kind (x ++ b) h.size) (passing-below meaning c h.kind x b h.size room) (passing-taken c h.kind (x ++ b) h.size)

  box_from-taken : (c : Context) (h : Header) (x b : List ℕ) (t : Bool) → nat_lt longest (least_end c.at h h.size) ≡ t → HasRoom h.size (length x)
      → IsTaken (λ z. if nat_lt longest (least_end c.at h h.size) then Last (at_fault StreamTooLong (Some h.kind) c.at) else box_in meaning c h x z (kind_in h.kind.0) c.tracks) (c.at + length x) b (box_from meaning c h x b)
  box_from-taken c h x b true e room = rw e tt
  box_from-taken c h x b false e room = rw e (box_in-taken c h x b (kind_in h.kind.0) c.tracks room)

  item_by-taken : (c : Context) (b : List ℕ) (s : Step) → header_at b ≡ s → IsTaken (item meaning c) c.at b (item_by meaning c b s)
  item_by-taken c b steps.More e = tt
  item_by-taken c b steps.BadSize e = tt
  item_by-taken c b (steps.Whole h) e =
      let header_bytes = take h.header_len b in
      let rest = drop h.header_len b in
      subst (λ l. IsTaken (item meaning c) c.at l (box_from meaning c h header_bytes rest)) (take-append-drop h.header_len b)
      (front-taken (item meaning c) (box_from meaning c h header_bytes) c.at header_bytes rest (box_from meaning c h header_bytes rest) (λ y. item-headed c header_bytes y h (front-len b h e) (front-is b h e)) (box_from-taken c h header_bytes rest _ refl (head-room b h e)))

  as_item : (c : Context) (b : List ℕ) (v : FirstItem Context) → IsTaken (item meaning c) c.at b v → IsItemAt (item meaning) (λ n. n.at) c b v
  as_item c b (Last r) t = tt
  as_item c b (Whole effects next rest) t = record { own = t.own; cut = t.cut; ends = t.ends; same = t.same }

  item-taken : (c : Context) (b : List ℕ) → IsTaken (item meaning c) c.at b (item meaning c b)
  item-taken c [] = subst (IsTaken (item meaning c) c.at []) (sym ((item-items meaning).empty c)) tt
  item-taken c (a ∷ b) = subst (IsTaken (item meaning c) c.at (a ∷ b)) (sym (item-some c (a ∷ b) (omega arith))) (item_by-taken c (a ∷ b) (header_at (a ∷ b)) refl)

  pub item-own : (c : Context) (b : List ℕ) → IsItemAt (item meaning) (λ n. n.at) c b (item meaning c b)
  item-own c b = as_item c b (item meaning c b) (item-taken c b)
