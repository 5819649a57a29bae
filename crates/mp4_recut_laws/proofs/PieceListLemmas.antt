-- Fragments of one piece each, one after the other.
use Rattle.std.proofs.Common.{◌≡◌, ◌∙◌, ℕ, ◌+◌, ◌≤◌, ◌^◌, false, List, [], ◌∷◌, ◌++◌, length, length-append, append_assoc, Some, refl, sym, ap, arith, subst}
use Rattle.std.specs.List.{AllByRecursion, flat_map}
use Rattle.mp4_init.specs.declared.table.Track.{Track}
use Rattle.mp4_traf.specs.Rows.{durations}
use Rattle.mp4_traf.specs.Settling.{with_end}
use Rattle.mp4_pieces.specs.declared.cut.Cut.{Cut}
use Rattle.mp4_pieces.specs.Fitting.{cut_for, fits}
use Rattle.mp4_grammar.specs.Contexts.{Context, context}
use Rattle.mp4_grammar.specs.Joined.{AreSound, IsSound, Item, context_after, context_after_all, bytes_of, joined}
use Rattle.mp4_recut_laws.specs.EachFragment.{EachFragment, IfFragment}
use Rattle.mp4_recut_laws.specs.PieceItems.{IsOnePiece, IsPieceHere, PieceWithMedia, piece_item, piece_samples, pieces_items, without_ends}
use Rattle.mp4_recut_laws.specs.RecutItems.{AreRecutAnywhere, AreRecutHere}
use Rattle.mp4_recut_laws.specs.MediaSamples.{MediaSample, item_samples, items_samples}
use Rattle.mp4_recut.specs.Splitting.{splitting}
use Rattle.mp4_recut.specs.Texts.{item_text, items_text}
use Rattle.mp4_recut_laws.proofs.OnePieceLemmas.{one_recut, one_samples}
use Rattle.mp4_recut_laws.proofs.TrackLemmas.{ends_changed, can_still, still_timescale}

pub still : (cut : Cut) (ts us : List Track) → without_ends us ≡ without_ends ts → (qs : List PieceWithMedia) → AllByRecursion (λ (q : PieceWithMedia). IsOnePiece cut ts q.written q.media) qs → AllByRecursion (λ (q : PieceWithMedia). IsOnePiece cut us q.written q.media) qs
still cut ts us e [] all = tt
still cut ts us e (q ∷ qs) all = (
  record {
    can = can_still q.written ts us e all.0.can;
    some = all.0.some;
    fits = ap (λ (n : ℕ). fits (cut_for n cut) q.written.rows) (still_timescale q.written ts us e all.0.can) ∙ all.0.fits;
    all = all.0.all;
    small = all.0.small;
  },
  still cut ts us e qs all.1,
)

join_bytes : (a b c d : List ℕ) → a ≡ b → c ≡ d → a ++ c ≡ b ++ d
join_bytes a b c d p q = ap (λ (x : List ℕ). x ++ c) p ∙ ap (λ (y : List ℕ). b ++ y) q

join_samples : (a b c d : List MediaSample) → a ≡ b → c ≡ d → a ++ c ≡ b ++ d
join_samples a b c d p q = ap (λ (x : List MediaSample). x ++ c) p ∙ ap (λ (y : List MediaSample). b ++ y) q

make_context : ℕ → List Track → ℕ → Context
make_context at tracks number = context at (Some tracks) number

same_context : (a b m n : ℕ) (s : List Track) → a ≡ b → m ≡ n → make_context a s m ≡ make_context b s n
same_context a b m n s p r = cc

-- an item, and those after it
pub cons_recut : (cut : Cut) (at number : ℕ) (tracks next : List Track) (i : Item) (is : List Item) (mine out : List ℕ) (one count total : ℕ) (its samples : List MediaSample) → total ≡ one + count
    → IsSound (splitting cut) (context at (Some tracks) number) i → item_text cut (context at (Some tracks) number) i ≡ mine → context_after (splitting cut) (context at (Some tracks) number) i ≡ context (at + length (bytes_of i)) (Some next) (number + one)
    → without_ends next ≡ without_ends tracks → item_samples (context at (Some tracks) number) i ≡ its → IfFragment (IsPieceHere cut) (context at (Some tracks) number) i → AreRecutHere cut (at + length (bytes_of i)) (number + one) next is out count samples → AreRecutHere cut at number tracks (i ∷ is) (mine ++ out) total (its ++ samples)
unfolding make_context
cons_recut cut at number tracks next i is mine out one count total its samples sum sound text after ends_same here piece more =
    record {
      sound = (sound, subst (λ (e : Context). AreSound (splitting cut) e is) (sym after) more.sound);
      text = join_bytes _ _ _ _ text (ap (λ (e : Context). items_text cut e is) after ∙ more.text);
      ended = more.ended;
      after = ap (λ (e : Context). context_after_all (splitting cut) e is) after ∙ (more.after ∙ same_context _ _ _ _ more.ended (omega (arith, length-append (bytes_of i) (joined is))) (omega (arith, sum)));
      same_tracks = more.same_tracks ∙ ends_same;
      same = join_samples _ _ _ _ here (ap (λ (e : Context). items_samples cut e is) after ∙ more.same);
      pieces = (piece, subst (λ (e : Context). EachFragment (IsPieceHere cut) cut e is) (sym after) more.pieces);
    }

pub none_recut : (cut : Cut) (number : ℕ) (tracks : List Track) → AreRecutAnywhere cut number tracks [] [] 0 []
unfolding make_context
none_recut cut number tracks at us e = record { sound = tt; text = refl; ended = us; after = same_context _ _ _ _ us (omega arith) (omega arith); same_tracks = refl; same = refl; pieces = tt }

pub pieces_join : (cut : Cut) (c : Context) (xs ys : List Item) → EachFragment (IsPieceHere cut) cut c xs → EachFragment (IsPieceHere cut) cut (context_after_all (splitting cut) c xs) ys → EachFragment (IsPieceHere cut) cut c (xs ++ ys)
pieces_join cut c [] ys p q = q
pieces_join cut c (x ∷ xs) ys p q = (p.0, pieces_join cut (context_after (splitting cut) c x) xs ys p.1 q)

-- some items, and those after them
pub append_recut : (cut : Cut) (number : ℕ) (tracks : List Track) (xs ys : List Item) (out more : List ℕ) (m n : ℕ) (its samples : List MediaSample) → AreRecutAnywhere cut number tracks xs out m its → AreRecutAnywhere cut (number + m) tracks ys more n samples → AreRecutAnywhere cut number tracks (xs ++ ys) (out ++ more) (m + n) (its ++ samples)
unfolding make_context
append_recut cut number tracks xs ys out more m n its samples p q at us e =
    let a = p at us e in
    let b = q (at + length (joined xs)) a.ended (a.same_tracks ∙ e) in
    record {
      sound = sound_join cut _ xs ys a.sound (subst (λ (c : Context). AreSound (splitting cut) c ys) (sym a.after) b.sound);
      text = text_join cut _ xs ys ∙ join_bytes _ _ _ _ a.text (ap (λ (c : Context). items_text cut c ys) a.after ∙ b.text);
      ended = b.ended;
      after = after_join cut _ xs ys ∙ (ap (λ (c : Context). context_after_all (splitting cut) c ys) a.after ∙ (b.after ∙ moved at (length (joined xs)) (length (joined ys)) (length (joined (xs ++ ys))) number m n b.ended (joined_length xs ys)));
      same_tracks = b.same_tracks ∙ a.same_tracks;
      same = samples_join cut _ xs ys ∙ join_samples _ _ _ _ a.same (ap (λ (c : Context). items_samples cut c ys) a.after ∙ b.same);
      pieces = pieces_join cut _ xs ys a.pieces (subst (λ (c : Context). EachFragment (IsPieceHere cut) cut c ys) (sym a.after) b.pieces);
    }
  where
    sound_join : (cut : Cut) (c : Context) (xs ys : List Item) → AreSound (splitting cut) c xs → AreSound (splitting cut) (context_after_all (splitting cut) c xs) ys → AreSound (splitting cut) c (xs ++ ys)
    sound_join cut c [] ys p q = q
    sound_join cut c (x ∷ xs) ys p q = (p.0, sound_join cut (context_after (splitting cut) c x) xs ys p.1 q)

    text_join : (cut : Cut) (c : Context) (xs ys : List Item) → items_text cut c (xs ++ ys) ≡ items_text cut c xs ++ items_text cut (context_after_all (splitting cut) c xs) ys
    text_join cut c [] ys = refl
    text_join cut c (x ∷ xs) ys = ap (λ (z : List ℕ). item_text cut c x ++ z) (text_join cut (context_after (splitting cut) c x) xs ys) ∙ sym (append_assoc (item_text cut c x) _ _)

    after_join : (cut : Cut) (c : Context) (xs ys : List Item) → context_after_all (splitting cut) c (xs ++ ys) ≡ context_after_all (splitting cut) (context_after_all (splitting cut) c xs) ys
    after_join cut c [] ys = refl
    after_join cut c (x ∷ xs) ys = after_join cut (context_after (splitting cut) c x) xs ys

    samples_join : (cut : Cut) (c : Context) (xs ys : List Item) → items_samples cut c (xs ++ ys) ≡ items_samples cut c xs ++ items_samples cut (context_after_all (splitting cut) c xs) ys
    samples_join cut c [] ys = refl
    samples_join cut c (x ∷ xs) ys = ap (λ (z : List MediaSample). item_samples c x ++ z) (samples_join cut (context_after (splitting cut) c x) xs ys) ∙ sym (append_assoc (item_samples c x) _ _)

    joined_length : (xs ys : List Item) → length (joined (xs ++ ys)) ≡ length (joined xs) + length (joined ys)
    joined_length [] ys = omega arith
    joined_length (x ∷ xs) ys = omega (arith, joined_length xs ys, length-append (bytes_of x) (joined xs), length-append (bytes_of x) (joined (xs ++ ys)))

    moved : (at a b c number m n : ℕ) (ended : List Track) → c ≡ a + b → context (at + a + b) (Some ended) (number + m + n) ≡ context (at + c) (Some ended) (number + (m + n))
    moved at a b c number m n ended e = same_context _ _ _ _ ended (omega (arith, e)) (omega arith)

pub pieces_own_recut : (cut : Cut) (number : ℕ) (tracks : List Track) (qs : List PieceWithMedia) → cut.index ≡ false → number + length qs ≤ 2 ^ 32 → AllByRecursion (λ (q : PieceWithMedia). IsOnePiece cut tracks q.written q.media) qs
    → AreRecutAnywhere cut number tracks (pieces_items number qs) (joined (pieces_items number qs)) (length qs) (flat_map piece_samples qs)
pieces_own_recut cut number tracks [] none room all at us e = none_recut cut number tracks at us e
pieces_own_recut cut number tracks (q ∷ qs) none room all at us e =
    let f = q.written in
    let mine = still cut tracks us e (q ∷ qs) all in
    let next = with_end f.track (f.time + durations f.rows) us in
    let same : without_ends next ≡ without_ends us = ends_changed f.track (f.time + durations f.rows) us in
    let i = piece_item f number q.media in
    let one = one_recut cut at number us f q.media none (omega (arith, room)) mine.0 in
    cons_recut cut at number us next i (pieces_items (number + 1) qs) (bytes_of i) (joined (pieces_items (number + 1) qs)) 1 (length qs) (length (q ∷ qs)) (piece_samples q) (flat_map piece_samples qs) (omega arith)
    one.sound one.text one.after same (one_samples cut at number us f q.media mine.0) (record { known = refl; small = omega (arith, room); written = f; media = q.media; one = mine.0; item = refl })
    (pieces_own_recut cut (number + 1) tracks qs none (omega (arith, room)) all.1 (at + length (bytes_of i)) next (same ∙ e))

pub recut_is : (cut : Cut) (number number' : ℕ) (tracks : List Track) (is : List Item) (out out' : List ℕ) (n n' : ℕ) (samples samples' : List MediaSample) → AreRecutAnywhere cut number tracks is out n samples → number ≡ number' → out ≡ out' → n ≡ n' → samples ≡ samples' → AreRecutAnywhere cut number' tracks is out' n' samples'
recut_is cut number number' tracks is out out' n n' samples samples' p a b c d =
    subst (λ (k : ℕ). AreRecutAnywhere cut k tracks is out' n' samples') a (subst (λ (o : List ℕ). AreRecutAnywhere cut number tracks is o n' samples') b (subst (λ (k : ℕ). AreRecutAnywhere cut number tracks is out k samples') c (subst (λ (s : List MediaSample). AreRecutAnywhere cut number tracks is out n s) d p)))
