-- What a fragmented stream asks for at the most, by how large the boxes are that it holds.
use Rattle.std.proofs.Common.{◌≡◌, ◌∙◌, ℕ, ◌+◌, ◌*◌, ◌≤◌, max, List, [], ◌∷◌, ◌++◌, length, take, drop, ap, sym, refl, subst, arith, append_assoc, length-append}
use Rattle.std.proofs.Math.Seq.{take-append_seam, drop-append_seam}
use Rattle.mp4_box.specs.Headers.{Headed, IsBytes}
use Rattle.mp4_box.specs.Order.{least}
use Rattle.mp4_box.proofs.HeaderLemmas.{IsBytes-drop, IsBytes-take}
use Rattle.mp4_init.proofs.TrackLemmas.{table_small}
use Rattle.mp4_frag.specs.Moofs.{fault_before_times, moof_trafs, time_faults, IsRead}
use Rattle.mp4_traf.specs.Runs.{moof_at}
use Rattle.mp4_frag.proofs.SettleLemmas.{settled_length}
use Rattle.mp4_machine.specs.Bodies.{longest}
use Rattle.mp4_machine.specs.Readings.{Reading, Effects, both, greatest, most_of}
use Rattle.mp4_machine.proofs.ReadingAskLemmas.{most-both}
use Rattle.mp4_grammar.specs.declared.kinds.Kind.{Kind}
use Rattle.mp4_grammar.specs.declared.kinds.Kind.TheVariants.{Mdat, Moof, Moov, Other}
use Rattle.mp4_grammar.specs.Contexts.{Context, first_context, table_of}
use Rattle.mp4_grammar.specs.HeldSizes.{Holds, HoldsWithin}
use Rattle.mp4_grammar.specs.Items.{reads_in, with_runs}
use Rattle.mp4_grammar.specs.Joined.{AreSound, IsMoofHere, IsMoovHere, IsOne, IsSound, Item, Movie, MovieFragment, OneBox, PassedOver, context_after, context_after_all, bytes_of, fragment_in, fragment_here, joined, item_effects, items_effects, moof_effects, tracks_in}
use Rattle.mp4_grammar.specs.Kinds.{kind_in, most_moof, most_moov}
use Rattle.mp4_grammar.specs.Meanings.{Fragment, Meaning}
use Rattle.mp4_grammar.specs.Rests.{AfterMoof, BadFragment, BadHeader, BadMoof, BadMoov, CutInBody, CutInHeader, CutInHeld, CutInMedia, Ended, IsAfterMoof, IsBuffered, IsRest, Large, LateMoof, NoMdat, NotMdat, Open, OpenMedia, OpenMediaCut, OpenMediaTooFar, OpenTooFar, OutOfPlace, SecondBadHeader, SecondCutInHeader, SecondTooFar, TooFar, Unsized}
use Rattle.mp4_grammar.proofs.ItemAskLemmas.{HasNoEffects}
use Rattle.mp4_grammar.proofs.JoinLemmas.{after-at, either-none}
use Rattle.mp4_grammar.proofs.RunCountLemmas.{runs_small}
use Rattle.mp4_grammar.proofs.SplitLemmas.{every-stream}

pub front_bytes : (x y : List ℕ) → IsBytes (x ++ y) → IsBytes x
front_bytes x y fits = subst IsBytes (take-append_seam x y) (IsBytes-take (length x) (x ++ y) fits)

pub rest_bytes : (x y : List ℕ) → IsBytes (x ++ y) → IsBytes y
rest_bytes x y fits = subst IsBytes (drop-append_seam x y) (IsBytes-drop (length x) (x ++ y) fits)

-- a whole box is a header, and what follows it
abbrev headed_of : (kind : Kind) (b : OneBox) (y : List ℕ) → IsOne kind b → Headed (b.bytes ++ y)
headed_of kind b y one = record {
  header = b.header;
  header_bytes = one.is.header_bytes;
  more = one.payload ++ y;
  spelled = one.is.spelled;
  cut = ap (λ l. l ++ y) one.is.whole ∙ append_assoc one.is.header_bytes one.payload y;
}

-- where there is a moof the tracks are known
table_is : (c : Context) (b : OneBox) → IsMoofHere c b → table_of c.tracks ≡ 64 * length (tracks_in c)
table_is c b m = ap table_of m.known

module _ (meaning : Meaning) (quiet : HasNoEffects meaning) (moov moof : ℕ) where
  abbrev IsTable : Context → Type 0
  IsTable c = table_of c.tracks ≤ moov

  abbrev IsModest : Effects → Type 0
  IsModest t = most_of t ≤ 2 * moov + 5 * moof

  both-modest : (s t : Effects) → IsModest s → IsModest t → IsModest (both s t)
  both-modest s t h k = omega (arith, most-both s t, h, k)

  none-modest : (t : Effects) → t.requests ≡ [] → IsModest t
  none-modest t e = omega (arith, ap greatest e)

  -- ---- a box that is held

  module _ (c : Context) (b : OneBox) (y : List ℕ) (w : HoldsWithin meaning c (b.bytes ++ y) moov moof) (near : c.at + length b.bytes ≤ longest) where
    moov-within : IsMoovHere c b → length b.bytes ≤ moov
    moov-within m = w.moovs (length b.bytes) (record {
      items = [];
      rest = b.bytes ++ y;
      cut = refl;
      sound = tt;
      box = headed_of Moov b y m.one;
      type = m.one.type;
      limit = most_moov;
      here = (rw (m.one.type, m.none) refl, m.one.is.size, near);
      small = m.small;
    })

    moof-within : IsMoofHere c b → length b.bytes ≤ moof
    moof-within m = w.moofs (length b.bytes) (record {
      items = [];
      rest = b.bytes ++ y;
      cut = refl;
      sound = tt;
      box = headed_of Moof b y m.one;
      type = m.one.type;
      limit = most_moof;
      here = (rw (m.one.type, m.known) refl, m.one.is.size, near);
      small = m.small;
    })

    -- a good moof
    emitted_moof-modest : IsMoofHere c b → IsTable c → IsBytes b.bytes → IsRead (moof_at b.bytes c.at) (tracks_in c) → IsModest (moof_effects c b.bytes)
    emitted_moof-modest m table fits read =
        let early = (either-none (fault_before_times (moof_at b.bytes c.at) (tracks_in c)) (least (time_faults (moof_trafs (moof_at b.bytes c.at) (tracks_in c)))) read).0 in
        let sums : most_of (moof_effects c b.bytes) ≡ max (64 * length (tracks_in c) + length b.bytes) (max (with_runs c (tracks_in c) b.bytes) 0) = refl in
        omega (arith, sums, table, table_is c b m, moof-within m, runs_small (moof_at b.bytes c.at) (tracks_in c) fits early)

  -- the header of one
  held-modest : (c : Context) (y : List ℕ) (b : Headed y) (s limit : ℕ) → HoldsWithin meaning c y moov moof → IsTable c → IsBuffered c s limit b.header → s ≤ limit → table_of c.tracks + s ≤ 2 * moov + 5 * moof
  held-modest c y b s limit w table held small = by (kind_in b.header.kind.0) refl
    where
      holds : (kind : Kind) → kind_in b.header.kind.0 ≡ kind → Holds meaning c y kind s
      holds kind is = record { items = []; rest = y; cut = refl; sound = tt; box = b; type = is; limit = limit; here = held; small = small }

      by : (kind : Kind) → kind_in b.header.kind.0 ≡ kind → table_of c.tracks + s ≤ 2 * moov + 5 * moof
      by Moov is = omega (arith, table, w.moovs s (holds Moov is))
      by Moof is = omega (arith, table, w.moofs s (holds Moof is))
      by Mdat is = let none = rw is at held.0 in absurd cc
      by Other is = let none = rw is at held.0 in absurd cc

  -- ---- an item

  fragment-modest : (f : Fragment) (x : List ℕ) → IsModest (both (meaning.accepted f) (meaning.media f x))
  fragment-modest f x = both-modest (meaning.accepted f) (meaning.media f x) (none-modest (meaning.accepted f) (quiet.accepted f)) (none-modest (meaning.media f x) (quiet.media f x))

  item-modest : (c : Context) (i : Item) (y : List ℕ) → HoldsWithin meaning c (bytes_of i ++ y) moov moof → IsTable c → IsBytes (bytes_of i) → IsSound meaning c i → c.at + length (bytes_of i) ≤ longest → IsModest (item_effects meaning c i)
  item-modest c (PassedOver b) y w table fits one near = none-modest (meaning.passed b.header.kind b.bytes) (quiet.passed b.header.kind b.bytes)
  item-modest c (Movie b) y w table fits (here, good) near = omega (arith, moov-within c b y w near here, table_small c.at b.bytes fits good)
  item-modest c (MovieFragment x mdat) y w table fits (here, good, one, none) near =
      let len = length-append x.bytes mdat.bytes in
      let own = subst (λ l. HoldsWithin meaning c l moov moof) (append_assoc x.bytes mdat.bytes y) w in
      both-modest (moof_effects c x.bytes) (both (meaning.accepted (fragment_in c x mdat)) (meaning.media (fragment_in c x mdat) (drop mdat.header.header_len mdat.bytes)))
      (emitted_moof-modest c x (mdat.bytes ++ y) own (omega (arith, near, len)) here table (front_bytes x.bytes mdat.bytes fits) good)
      (fragment-modest (fragment_in c x mdat) (drop mdat.header.header_len mdat.bytes))

  -- the table after it
  item-table : (c : Context) (i : Item) (y : List ℕ) → HoldsWithin meaning c (bytes_of i ++ y) moov moof → IsTable c → IsBytes (bytes_of i) → IsSound meaning c i → c.at + length (bytes_of i) ≤ longest → IsTable (context_after meaning c i)
  item-table c (PassedOver b) y w table fits one near = table
  item-table c (Movie b) y w table fits (here, good) near = omega (arith, moov-within c b y w near here, table_small c.at b.bytes fits good)
  item-table c (MovieFragment x mdat) y w table fits (here, good, one, none) near =
      omega (arith, table, table_is c x here, settled_length (tracks_in c) (moof_trafs (moof_at x.bytes c.at) (tracks_in c)))

  -- the boxes after it
  holds-after : (c : Context) (i : Item) (y : List ℕ) (kind : Kind) (size : ℕ) → IsSound meaning c i → Holds meaning (context_after meaning c i) y kind size → Holds meaning c (bytes_of i ++ y) kind size
  holds-after c i y kind size sound h = record {
    items = i ∷ h.items;
    rest = h.rest;
    cut = ap (λ l. bytes_of i ++ l) h.cut ∙ sym (append_assoc (bytes_of i) (joined h.items) h.rest);
    sound = (sound, h.sound);
    box = h.box;
    type = h.type;
    limit = h.limit;
    here = h.here;
    small = h.small;
  }

  within-after : (c : Context) (i : Item) (y : List ℕ) → IsSound meaning c i → HoldsWithin meaning c (bytes_of i ++ y) moov moof → HoldsWithin meaning (context_after meaning c i) y moov moof
  within-after c i y sound w = record {
    moovs = λ size h. w.moovs size (holds-after c i y Moov size sound h);
    moofs = λ size h. w.moofs size (holds-after c i y Moof size sound h);
  }

  -- ---- items, one after the other

  record AreModest (c : Context) (is : List Item) (y : List ℕ) : Type 0 where
    requests : IsModest (items_effects meaning c is)
    table : IsTable (context_after_all meaning c is)
    within : HoldsWithin meaning (context_after_all meaning c is) y moov moof

  items-modest : (is : List Item) (c : Context) (y : List ℕ) → HoldsWithin meaning c (joined is ++ y) moov moof → IsTable c → IsBytes (joined is) → AreSound meaning c is → c.at + length (joined is) ≤ longest → AreModest c is y
  items-modest [] c y w table fits sound near = record { requests = omega arith; table = table; within = w }
  items-modest (i ∷ is) c y w table fits (first, more) near =
      let len = length-append (bytes_of i) (joined is) in
      let own = subst (λ l. HoldsWithin meaning c l moov moof) (append_assoc (bytes_of i) (joined is) y) w in
      let mine = front_bytes (bytes_of i) (joined is) fits in
      let after = items-modest is (context_after meaning c i) y (within-after c i (joined is ++ y) first own) (item-table c i (joined is ++ y) own table mine first (omega (arith, near, len)))
      (rest_bytes (bytes_of i) (joined is) fits) more (omega (arith, near, len, after-at meaning c i)) in
      record {
        requests = both-modest (item_effects meaning c i) (items_effects meaning (context_after meaning c i) is) (item-modest c i (joined is ++ y) own table mine first (omega (arith, near, len))) after.requests;
        table = after.table;
        within = after.within;
      }

  -- ---- the rest

  reads-modest : (r s : Reading) → r ≡ s → IsModest s.effects → IsModest r.effects
  reads-modest r s e h = rw e h

  after-modest : (c : Context) (x z : List ℕ) (r : Reading) → IsAfterMoof meaning c x z r → IsModest r.effects
  after-modest c x z r (NoMdat none e) = reads-modest r _ e (omega arith)
  after-modest c x z r (SecondCutInHeader some short e) = reads-modest r _ e (omega arith)
  after-modest c x z r (SecondBadHeader whole none e) = reads-modest r _ e (omega arith)
  after-modest c x z r (SecondTooFar b far e) = reads-modest r _ e (omega arith)
  after-modest c x z r (NotMdat b other near e) = reads-modest r _ e (omega arith)
  after-modest c x z r (BadFragment b f is near bad e) = reads-modest r _ e (omega arith)
  after-modest c x z r (CutInMedia b s is good short e) = reads-modest r _ e (fragment-modest (fragment_here c x b.header) b.more)
  after-modest c x z r (OpenMedia b goes good near enough e) = reads-modest r _ e (fragment-modest (fragment_here c x b.header) b.more)
  after-modest c x z r (OpenMediaCut b goes good near short e) = reads-modest r _ e (fragment-modest (fragment_here c x b.header) b.more)
  after-modest c x z r (OpenMediaTooFar b goes good near far e) = reads-modest r _ e (fragment-modest (fragment_here c x b.header) (take _ b.more))

  rest-modest : (c : Context) (y : List ℕ) (r : Reading) → HoldsWithin meaning c y moov moof → IsTable c → IsBytes y → IsRest meaning c y r → IsModest r.effects
  rest-modest c y r w table fits (Ended none e) = reads-modest r _ e (omega arith)
  rest-modest c y r w table fits (CutInHeader some short e) = reads-modest r _ e (omega arith)
  rest-modest c y r w table fits (BadHeader whole none e) = reads-modest r _ e (omega arith)
  rest-modest c y r w table fits (TooFar b far e) = reads-modest r _ e (omega arith)
  rest-modest c y r w table fits (OutOfPlace b rule wrong near e) = reads-modest r _ e (omega arith)
  rest-modest c y r w table fits (CutInBody b s is short e) = reads-modest r _ e (none-modest (meaning.passed b.header.kind y) (quiet.passed b.header.kind y))
  rest-modest c y r w table fits (Open b is near e) = reads-modest r _ e (none-modest (meaning.passed b.header.kind y) (quiet.passed b.header.kind y))
  rest-modest c y r w table fits (OpenTooFar b is near far e) = reads-modest r _ e (none-modest (meaning.passed b.header.kind _) (quiet.passed b.header.kind _))
  rest-modest c y r w table fits (Large b s limit held large e) = reads-modest r _ e (omega arith)
  rest-modest c y r w table fits (Unsized b limit here size near e) = reads-modest r _ e (omega arith)
  rest-modest c y r w table fits (CutInHeld b s limit held small short e) = reads-modest r _ e (omega (arith, held-modest c y b s limit w table held small))
  rest-modest c y r w table fits (BadMoov b f here near bad e) =
      let own = subst (λ l. HoldsWithin meaning c l moov moof) b.cut w in
      reads-modest r _ e (omega (arith, moov-within c b.box b.more own near here))
  rest-modest c y r w table fits (BadMoof b f here near bad e) =
      let own = subst (λ l. HoldsWithin meaning c l moov moof) b.cut w in
      reads-modest r _ e (omega (arith, table, table_is c b.box here, moof-within c b.box b.more own near here))
  rest-modest c y r w table fits (LateMoof b f here near good late e) =
      let own = subst (λ l. HoldsWithin meaning c l moov moof) b.cut w in
      reads-modest r _ e (omega (arith, table, table_is c b.box here, moof-within c b.box b.more own near here))
  rest-modest c y r w table fits (AfterMoof b s here near good after e) =
      let own = subst (λ l. HoldsWithin meaning c l moov moof) b.cut w in
      let mine = front_bytes b.box.bytes b.more (subst IsBytes b.cut fits) in
      reads-modest r _ e (both-modest (moof_effects c b.box.bytes) s.effects (emitted_moof-modest c b.box b.more own near here table mine good) (after-modest c b.box.bytes b.more s after))

  -- ---- the whole

  pub asks-within : (b : List ℕ) → IsBytes b → HoldsWithin meaning first_context b moov moof → most_of (reads_in meaning first_context b).effects ≤ 2 * moov + 5 * moof
  asks-within b fits w =
      let (s, reads) = every-stream meaning b fits in
      let own = subst IsBytes s.cut fits in
      let all = items-modest s.items first_context s.rest (subst (λ l. HoldsWithin meaning first_context l moov moof) s.cut w) (omega arith) (front_bytes (joined s.items) s.rest own) s.sound s.near in
      reads-modest (reads_in meaning first_context b) _ reads
      (both-modest (items_effects meaning first_context s.items) s.reading.effects all.requests
      (rest-modest (context_after_all meaning first_context s.items) s.rest s.reading all.within all.table (rest_bytes (joined s.items) s.rest own) s.is))
