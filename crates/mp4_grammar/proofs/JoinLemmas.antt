-- How whole items of a fragmented stream are read, and how the boxes that may follow them begin.
use Rattle.std.proofs.Common.{◌≡◌, ◌∙◌, ℕ, ◌+◌, ◌-◌, ◌*◌, ◌<◌, ◌≤◌, List, [], ◌∷◌, ◌++◌, length, drop, Option, Some, None, ap, sym, refl, arith, append_assoc, length-append}
use Rattle.std.proofs.Math.Seq.{drop-append_seam}
use Rattle.std.specs.Option.{option_or}
use Rattle.mp4_box.specs.declared.headers.Header.{Header}
use Rattle.mp4_box.specs.declared.headers.Size.TheVariants.{Exact}
use Rattle.mp4_box.specs.declared.rules.Fault.{Fault}
use Rattle.mp4_box.specs.declared.rules.Rule.TheVariants.{StreamTooLong}
use Rattle.mp4_box.specs.Headers.{Head, IsBox}
use Rattle.mp4_box.specs.Order.{least}
use Rattle.mp4_box.proofs.HeaderAnswers.{head-whole, head-need}
use Rattle.mp4_init.specs.Moovs.{moov_fault}
use Rattle.mp4_init.specs.declared.table.Track.{Track}
use Rattle.mp4_frag.specs.Moofs.{fault_before_times, moof_trafs, time_faults, IsRead}
use Rattle.mp4_traf.specs.Runs.{moof_at}
use Rattle.mp4_machine.specs.Bodies.{least_end, longest, at_fault, body_item}
use Rattle.mp4_machine.specs.Readings.{Effects, counts, requests_memory, both, FirstItem, Last, Whole, after, after_effects, then_read}
use Rattle.mp4_machine.proofs.BodyLemmas.{nat_lt_true, nat_lt_false}
use Rattle.mp4_machine.proofs.ReadingLemmas.{after-both, after-silent, both-assoc, read_all-front}
use Rattle.mp4_grammar.specs.declared.kinds.Kind.{Kind}
use Rattle.mp4_grammar.specs.declared.kinds.Kind.TheVariants.{Moov, Moof, Mdat, Other}
use Rattle.mp4_grammar.specs.Kinds.{kind_in, most_moof, most_moov}
use Rattle.mp4_grammar.specs.Contexts.{Context, table_of}
use Rattle.mp4_grammar.specs.Items.{media_body, context_after_fragment, fragment, mdat_by, second_by, after_moof, moov_box, inspected, with_runs, timed_box, moof_box, whole_box_by, buffered_body, keeping, passing, box_in, item, reads_in}
use Rattle.mp4_grammar.specs.Joined.{AreSound, IsMoofHere, IsMoovHere, IsOne, IsSound, Item, PassedOver, Movie, MovieFragment, OneBox, context_after, context_after_all, bytes_of, fragment_in, joined, item_effects, items_effects, moof_effects, tracks_in}
use Rattle.mp4_grammar.specs.Meanings.{Meaning, fragment_fault}
use Rattle.mp4_grammar.proofs.ItemLemmas.{item-items}
use Rattle.mp4_grammar.proofs.TakenLemmas.{after-headed, item-headed, kept-whole, sized-whole}

pub emitted-both : {C : Type 0} (s t : Effects) (f : FirstItem C) → after_effects s (after_effects t f) ≡ after_effects (both s t) f
emitted-both s t (Last r) = ap Last (after-both s t r)
emitted-both s t (Whole effects next rest) = ap (λ u. Whole u next rest) (sym (both-assoc s t effects))

pub either-none : (a b : Option Fault) → option_or a b ≡ None → (a ≡ None) × (b ≡ None)
either-none None b e = (refl, e)
either-none (Some f) b e = absurd cc

module _ (meaning : Meaning) where
  -- ---- how a box begins

  -- a header x, and the bytes after it, where the box doesn't go too far
  pub item-in : (c : Context) (h : Header) (x z : List ℕ) (kind : Kind) (tracks : Option (List Track)) → Head h x → kind_in h.kind.0 ≡ kind → c.tracks ≡ tracks → least_end c.at h h.size ≤ longest
      → item meaning c (x ++ z) ≡ box_in meaning c h x z kind tracks
  item-in c h x z kind tracks p is known near =
      item-headed meaning c x z h (head-need h x p) (head-whole h x p)
      ∙ rw (nat_lt_false longest (least_end c.at h h.size) near) refl
      ∙ ap (λ k. box_in meaning c h x z k c.tracks) is ∙ ap (box_in meaning c h x z kind) known

  pub item-far : (c : Context) (h : Header) (x z : List ℕ) → Head h x → longest < least_end c.at h h.size → item meaning c (x ++ z) ≡ Last (at_fault StreamTooLong (Some h.kind) c.at)
  item-far c h x z p far =
      item-headed meaning c x z h (head-need h x p) (head-whole h x p) ∙ rw (nat_lt_true longest (least_end c.at h h.size) far) refl

  pub keeping-small : (c : Context) (h : Header) (limit s : ℕ) (b : List ℕ) → h.size ≡ Exact s → s ≤ limit → keeping meaning c h limit b h.size ≡ after_effects (requests_memory c.at (table_of c.tracks + s)) (buffered_body meaning c h.kind s b)
  keeping-small c h limit s b size small = ap (keeping meaning c h limit b) size ∙ rw (nat_lt_false limit s small) refl

  -- the same of a whole box
  pub item-box : (c : Context) (b : OneBox) (payload y : List ℕ) (kind : Kind) (tracks : Option (List Track)) (is : IsBox b.header payload b.bytes) → kind_in b.header.kind.0 ≡ kind → c.tracks ≡ tracks → c.at + length b.bytes ≤ longest
      → item meaning c (b.bytes ++ y) ≡ box_in meaning c b.header is.header_bytes (payload ++ y) kind tracks
  item-box c b payload y kind tracks is e known near =
      ap (item meaning c) (ap (λ l. l ++ y) is.whole ∙ append_assoc is.header_bytes payload y)
      ∙ item-in c b.header is.header_bytes (payload ++ y) kind tracks is.spelled e known (rw is.size near)

  -- all of a box that is held
  kept-box : (c : Context) (b : OneBox) (payload y : List ℕ) (limit : ℕ) (is : IsBox b.header payload b.bytes) → length b.bytes ≤ limit
      → keeping meaning c b.header limit (is.header_bytes ++ (payload ++ y)) b.header.size ≡ after_effects (requests_memory c.at (table_of c.tracks + length b.bytes)) (whole_box_by meaning c b.bytes y c.tracks)
  kept-box c b payload y limit is small =
      ap (λ l. keeping meaning c b.header limit l b.header.size) (sym (ap (λ l. l ++ y) is.whole ∙ append_assoc is.header_bytes payload y))
      ∙ keeping-small c b.header limit (length b.bytes) (b.bytes ++ y) is.size small
      ∙ ap (after_effects (requests_memory c.at (table_of c.tracks + length b.bytes))) (kept-whole meaning c b.header.kind b.bytes y)

  pub item-moov : (c : Context) (b : OneBox) (y : List ℕ) → IsMoovHere c b → c.at + length b.bytes ≤ longest
      → item meaning c (b.bytes ++ y) ≡ after_effects (requests_memory c.at (length b.bytes)) (moov_box meaning c b.bytes y (moov_fault c.at b.bytes))
  item-moov c b y m near =
      let sum : table_of c.tracks + length b.bytes ≡ length b.bytes = omega (arith, ap table_of m.none) in
      item-box c b m.one.payload y Moov None m.one.is m.one.type m.none near
      ∙ kept-box c b m.one.payload y most_moov m.one.is m.small
      ∙ ap (λ n. after_effects (requests_memory c.at n) (whole_box_by meaning c b.bytes y c.tracks)) sum
      ∙ ap (λ t. after_effects (requests_memory c.at (length b.bytes)) (whole_box_by meaning c b.bytes y t)) m.none

  pub item-moof : (c : Context) (b : OneBox) (y : List ℕ) → IsMoofHere c b → c.at + length b.bytes ≤ longest
      → item meaning c (b.bytes ++ y) ≡ after_effects (requests_memory c.at (64 * length (tracks_in c) + length b.bytes)) (moof_box meaning c (tracks_in c) b.bytes y (fault_before_times (moof_at b.bytes c.at) (tracks_in c)))
  item-moof c b y m near =
      let sum : table_of c.tracks + length b.bytes ≡ 64 * length (tracks_in c) + length b.bytes = ap (λ t. table_of t + length b.bytes) m.known in
      item-box c b m.one.payload y Moof (Some (tracks_in c)) m.one.is m.one.type m.known near
      ∙ kept-box c b m.one.payload y most_moof m.one.is m.small
      ∙ ap (λ n. after_effects (requests_memory c.at n) (whole_box_by meaning c b.bytes y c.tracks)) sum
      ∙ ap (λ t. after_effects (requests_memory c.at (64 * length (tracks_in c) + length b.bytes)) (whole_box_by meaning c b.bytes y t)) m.known

  -- a moof without a fault
  pub item-good : (c : Context) (b : OneBox) (y : List ℕ) → IsMoofHere c b → IsRead (moof_at b.bytes c.at) (tracks_in c) → c.at + length b.bytes ≤ longest
      → item meaning c (b.bytes ++ y) ≡ after_effects (moof_effects c b.bytes) (after_moof meaning c (tracks_in c) b.bytes y)
  item-good c b y m good near =
      let x = b.bytes in
      let tracks = tracks_in c in
      let late = least (time_faults (moof_trafs (moof_at x c.at) tracks)) in
      let none = either-none (fault_before_times (moof_at x c.at) tracks) late good in
      let requested = requests_memory c.at (64 * length tracks + length x) in
      let inspection = counts (inspected (moof_at x c.at)) in
      let list = requests_memory c.at (with_runs c tracks x) in
      item-moof c b y m near
      ∙ ap (λ f. after_effects requested (moof_box meaning c tracks x y f)) none.0
      ∙ ap (λ f. after_effects requested (after_effects inspection (timed_box meaning c tracks x y f))) none.1
      ∙ ap (after_effects requested) (emitted-both inspection list (after_moof meaning c tracks x y))
      ∙ emitted-both requested (both inspection list) (after_moof meaning c tracks x y)

  -- ---- directly after a moof

  pub second-in : (c : Context) (moof : List ℕ) (h : Header) (x z : List ℕ) (kind : Kind) → Head h x → kind_in h.kind.0 ≡ kind → least_end (c.at + length moof) h h.size ≤ longest
      → after_moof meaning c (tracks_in c) moof (x ++ z) ≡ second_by meaning c (tracks_in c) moof h z kind
  second-in c moof h x z kind p is near =
      after-headed meaning c (tracks_in c) moof x z h (head-need h x p) (head-whole h x p)
      ∙ rw (nat_lt_false longest (least_end (c.at + length moof) h h.size) near) refl
      ∙ ap (second_by meaning c (tracks_in c) moof h z) is

  pub second-far : (c : Context) (moof : List ℕ) (h : Header) (x z : List ℕ) → Head h x → longest < least_end (c.at + length moof) h h.size
      → after_moof meaning c (tracks_in c) moof (x ++ z) ≡ Last (at_fault StreamTooLong (Some h.kind) (c.at + length moof))
  second-far c moof h x z p far =
      after-headed meaning c (tracks_in c) moof x z h (head-need h x p) (head-whole h x p) ∙ rw (nat_lt_true longest (least_end (c.at + length moof) h h.size) far) refl

  -- an mdat: what is at fault with the fragment, or it is accepted
  pub second-mdat : (c : Context) (moof : List ℕ) (h : Header) (x z : List ℕ) (g : Option Fault) → Head h x → kind_in h.kind.0 ≡ Mdat → least_end (c.at + length moof) h h.size ≤ longest → fragment_fault meaning (fragment c (tracks_in c) moof h) ≡ g
      → after_moof meaning c (tracks_in c) moof (x ++ z) ≡ mdat_by meaning (fragment c (tracks_in c) moof h) (c.at + length moof) h z g
  second-mdat c moof h x z g p is near e =
      second-in c moof h x z Mdat p is near ∙ ap (mdat_by meaning (fragment c (tracks_in c) moof h) (c.at + length moof) h z) e

  whole-media : (c : Context) (moof mdat : OneBox) (y : List ℕ) → IsOne Mdat mdat → fragment_fault meaning (fragment_in c moof mdat) ≡ None → c.at + length moof.bytes + length mdat.bytes ≤ longest
      → after_moof meaning c (tracks_in c) moof.bytes (mdat.bytes ++ y)
      ≡ Whole (both (meaning.accepted (fragment_in c moof mdat)) (meaning.media (fragment_in c moof mdat) (drop mdat.header.header_len mdat.bytes))) (context_after meaning c (MovieFragment moof mdat)) y
  whole-media c moof mdat y one none near =
      let is = one.is in
      let payload = one.payload in
      let f = fragment_in c moof mdat in
      let next = c.at + length moof.bytes in
      let long : length mdat.bytes ≡ length is.header_bytes + length payload = ap length is.whole ∙ length-append is.header_bytes payload in
      let left : length mdat.bytes - mdat.header.header_len ≡ length payload = omega (arith, long, is.spelled.header_len) in
      let own : payload ≡ drop mdat.header.header_len mdat.bytes = sym (drop-append_seam is.header_bytes payload) ∙ ap (drop (length is.header_bytes)) (sym is.whole) ∙ ap (λ n. drop n mdat.bytes) (sym is.spelled.header_len) in
      ap (after_moof meaning c (tracks_in c) moof.bytes) (ap (λ l. l ++ y) is.whole ∙ append_assoc is.header_bytes payload y)
      ∙ second-mdat c moof.bytes mdat.header is.header_bytes (payload ++ y) None is.spelled one.type (rw is.size near) none
      ∙ ap (λ s. after_effects (meaning.accepted f) (media_body meaning f next mdat.header s (payload ++ y))) is.size
      ∙ ap (λ n. after_effects (meaning.accepted f) (body_item (meaning.media f) next mdat.header.kind (context_after_fragment meaning f (next + length mdat.bytes)) n (payload ++ y))) left
      ∙ ap (after_effects (meaning.accepted f)) (sized-whole (meaning.media f) next mdat.header.kind (context_after_fragment meaning f (next + length mdat.bytes)) payload y)
      ∙ ap (λ l. Whole (both (meaning.accepted f) (meaning.media f l)) (context_after_fragment meaning f (next + length mdat.bytes)) y) own

  -- ---- a whole item

  passed-whole : (c : Context) (b : OneBox) (y : List ℕ) → IsOne Other b → c.at + length b.bytes ≤ longest → item meaning c (b.bytes ++ y) ≡ Whole (meaning.passed b.header.kind b.bytes) (context_after meaning c (PassedOver b)) y
  passed-whole c b y one near =
      let is = one.is in
      item-box c b one.payload y Other c.tracks is one.type refl near
      ∙ ap (λ l. passing meaning c b.header.kind l b.header.size) (sym (ap (λ l. l ++ y) is.whole ∙ append_assoc is.header_bytes one.payload y))
      ∙ ap (passing meaning c b.header.kind (b.bytes ++ y)) is.size
      ∙ sized-whole (meaning.passed b.header.kind) c.at b.header.kind (context_after meaning c (PassedOver b)) b.bytes y

  moov-whole : (c : Context) (b : OneBox) (y : List ℕ) → IsMoovHere c b → moov_fault c.at b.bytes ≡ None → c.at + length b.bytes ≤ longest
      → item meaning c (b.bytes ++ y) ≡ Whole (item_effects meaning c (Movie b)) (context_after meaning c (Movie b)) y
  moov-whole c b y m good near = item-moov c b y m near ∙ ap (λ f. after_effects (requests_memory c.at (length b.bytes)) (moov_box meaning c b.bytes y f)) good

  pub item-whole : (c : Context) (i : Item) (y : List ℕ) → IsSound meaning c i → c.at + length (bytes_of i) ≤ longest → item meaning c (bytes_of i ++ y) ≡ Whole (item_effects meaning c i) (context_after meaning c i) y
  item-whole c (PassedOver b) y sound near = passed-whole c b y sound near
  item-whole c (Movie b) y (here, good) near = moov-whole c b y here good near
  item-whole c (MovieFragment moof mdat) y (here, good, one, none) near =
      let len = length-append moof.bytes mdat.bytes in
      ap (item meaning c) (append_assoc moof.bytes mdat.bytes y)
      ∙ item-good c moof (mdat.bytes ++ y) here good (omega (arith, near, len))
      ∙ ap (after_effects (moof_effects c moof.bytes)) (whole-media c moof mdat y one none (omega (arith, near, len)))

  -- ---- all of them

  pub reads-front : (c : Context) (b : List ℕ) → reads_in meaning c b ≡ then_read (reads_in meaning) (item meaning c b)
  reads-front c b = read_all-front (item meaning) (item-items meaning) c b

  pub after-at : (c : Context) (i : Item) → (context_after meaning c i).at ≡ c.at + length (bytes_of i)
  after-at c (PassedOver b) = refl
  after-at c (Movie b) = refl
  after-at c (MovieFragment moof mdat) = omega (arith, length-append moof.bytes mdat.bytes)

  pub reads-items : (is : List Item) (c : Context) (later : List ℕ) → AreSound meaning c is → c.at + length (joined is) ≤ longest
      → reads_in meaning c (joined is ++ later) ≡ after (items_effects meaning c is) (reads_in meaning (context_after_all meaning c is) later)
  reads-items [] c later sound near = sym (after-silent (reads_in meaning c later))
  reads-items (i ∷ is) c later (first, more) near =
      let len = length-append (bytes_of i) (joined is) in
      let next = context_after meaning c i in
      ap (reads_in meaning c) (append_assoc (bytes_of i) (joined is) later)
      ∙ reads-front c (bytes_of i ++ (joined is ++ later))
      ∙ ap (then_read (reads_in meaning)) (item-whole c i (joined is ++ later) first (omega (arith, near, len)))
      ∙ ap (after (item_effects meaning c i)) (reads-items is next later more (omega (arith, near, len, after-at c i)))
      ∙ after-both (item_effects meaning c i) (items_effects meaning next is) (reads_in meaning (context_after_all meaning next is) later)
