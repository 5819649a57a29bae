-- The recut text of items, as items.
use Rattle.std.proofs.Common.{◌≡◌, ◌∙◌, ℕ, Bool, true, false, List, [], ◌∷◌, ◌++◌, append-nil, append_assoc, Option, Some, None, refl, sym, ap, arith, subst}
use Rattle.std.specs.Prelude.{drop, option_map}
use Rattle.mp4_init.specs.declared.table.Track.{Track}
use Rattle.mp4_frag.specs.Moofs.{moof_trafs}
use Rattle.mp4_frag.specs.RunLists.{taken_runs}
use Rattle.mp4_traf.specs.Runs.{moof_at}
use Rattle.mp4_pieces.specs.declared.cut.Cut.{Cut}
use Rattle.mp4_grammar.specs.Contexts.{Context, context}
use Rattle.mp4_grammar.specs.Joined.{AreSound, IsSound, Item, Movie, MovieFragment, OneBox, PassedOver, context_after, context_after_all, fragment_in, joined}
use Rattle.mp4_recut_laws.specs.EachFragment.{EachFragment}
use Rattle.mp4_recut_laws.specs.PieceItems.{IsPieceHere, without_ends}
use Rattle.mp4_recut_laws.specs.Premises.{CanAllBeRecut, CanBeRecut, RecutAgrees, SameButEnds}
use Rattle.mp4_recut_laws.specs.RecutItems.{item_recut, items_recut, copied_items, without_index}
use Rattle.mp4_recut_laws.specs.MediaSamples.{MediaSample, item_samples, items_samples}
use Rattle.mp4_recut.specs.Splitting.{is_dropped, splitting}
use Rattle.mp4_recut.specs.Texts.{box_text, item_text, items_text}
use Rattle.mp4_recut_laws.proofs.FragmentLemmas.{fragment_recut, fragment_count, fragment_runs}
use Rattle.mp4_recut_laws.proofs.PieceListLemmas.{pieces_join}
use Rattle.mp4_recut_laws.proofs.TextLemmas.{joined_append, out_is, runs_joined}
use Rattle.mp4_recut_laws.proofs.TrackLemmas.{ends_settled}

-- ---- one item

-- an item, and those of its recut text
pub record ItemAgrees (cut : Cut) (c d : Context) (i : Item) (now : List Item) : Type 0 where
  pub sound : AreSound (splitting (without_index cut)) d now
  pub text : items_text (without_index cut) d now ≡ item_text (without_index cut) c i
  pub same : items_samples (without_index cut) d now ≡ item_samples c i
  pub pieces : EachFragment (IsPieceHere (without_index cut)) (without_index cut) d now
  pub same_tracks : SameButEnds (context_after (splitting cut) c i) (context_after_all (splitting (without_index cut)) d now)
  pub join : joined now ≡ item_text cut c i

none_back : (o : Option (List Track)) → option_map without_ends o ≡ None → o ≡ None
none_back None e = refl
none_back (Some ts) e = absurd cc

passed : (cut : Cut) (c d : Context) (b : OneBox) (t : Bool) → is_dropped b.header.kind.0 ≡ t → SameButEnds c d → IsSound (splitting cut) c (PassedOver b) → ItemAgrees cut c d (PassedOver b) (copied_items t b)
passed cut c d b true e a s = record { sound = tt; text = ap (λ (t : Bool). box_text t b.bytes) (sym e); same = refl; pieces = tt; same_tracks = record { number = a.number; tracks = a.tracks }; join = ap (λ (t : Bool). box_text t b.bytes) (sym e) }
passed cut c d b false e a s = record {
  sound = (s, tt);
  text = append-nil (box_text (is_dropped b.header.kind.0) b.bytes);
  same = refl;
  pieces = (tt, tt);
  same_tracks = record { number = a.number; tracks = a.tracks };
  join = append-nil b.bytes ∙ ap (λ (t : Bool). box_text t b.bytes) (sym e);
}

movie : (cut : Cut) (c d : Context) (b : OneBox) → SameButEnds c d → IsSound (splitting cut) c (Movie b) → CanBeRecut c (Movie b) → ItemAgrees cut c d (Movie b) (Movie b ∷ [])
movie cut c d b a s fine = record {
  sound = ((record { one = s.0.one; none = none_back d.tracks (a.tracks ∙ ap (option_map without_ends) s.0.none); small = s.0.small }, (fine d.at).0), tt);
  text = append-nil b.bytes;
  same = refl;
  pieces = (tt, tt);
  same_tracks = record { number = a.number; tracks = ap (λ (ts : List Track). Some ts) (fine d.at).1 };
  join = append-nil b.bytes;
}

pub some_same : (a b : List Track) → ◌≡◌ {A = Option (List Track)} (Some a) (Some b) → a ≡ b
some_same a b e = cc

fragment_by : (cut : Cut) (at number : ℕ) (o : Option (List Track)) (to now : ℕ) (u : Option (List Track)) (moof mdat : OneBox) → now ≡ number → option_map without_ends u ≡ option_map without_ends o → IsSound (splitting cut) (context at o number) (MovieFragment moof mdat) → CanBeRecut (context at o number) (MovieFragment moof mdat)
    → ItemAgrees cut (context at o number) (context to u now) (MovieFragment moof mdat) (item_recut cut (context at o number) (MovieFragment moof mdat))
fragment_by cut at number None to now u moof mdat n e s fine = absurd (nothing s.0.known)
  where
    nothing : ◌≡◌ {A = Option (List Track)} None (Some []) → ⊥
    nothing e = absurd cc
fragment_by cut at number (Some tracks) to now None moof mdat n e s fine = absurd (nothing e)
  where
    nothing : ◌≡◌ {A = Option (List Track)} None (Some (without_ends tracks)) → ⊥
    nothing e = absurd cc
fragment_by cut at number (Some tracks) to now (Some us) moof mdat n e s fine =
    let c = context at (Some tracks) number in
    let f = fragment_in c moof mdat in
    let payload = drop mdat.header.header_len mdat.bytes in
    let h = moof_at moof.bytes at in
    let again = fragment_recut cut at number tracks moof mdat s fine.0 fine.1 fine.2 fine.3 to us (some_same (without_ends us) (without_ends tracks) e) in
    let given = fragment_runs cut at number tracks moof mdat s fine.0 fine.1 fine.2 fine.3 in
    let count = fragment_count cut at number tracks moof mdat s fine.0 fine.1 fine.2 fine.3 in
    subst (λ (k : ℕ). ItemAgrees cut c (context to (Some us) k) (MovieFragment moof mdat) (item_recut cut c (MovieFragment moof mdat))) (sym n) (record {
      sound = again.sound;
      text = again.text ∙ out_is cut moof.bytes f.payload.start payload tracks tracks number (taken_runs h tracks) given;
      same = again.same;
      pieces = again.pieces;
      same_tracks = record {
        number = ap (λ (x : Context). x.number) again.after ∙ omega (arith, count);
        tracks = ap (λ (x : Context). option_map without_ends x.tracks) again.after ∙ ap (λ (ts : List Track). Some ts) (again.same_tracks ∙ (some_same (without_ends us) (without_ends tracks) e ∙ sym (ends_settled tracks (moof_trafs h tracks))));
      };
      join = runs_joined cut moof.bytes f.payload.start payload tracks tracks number (taken_runs h tracks) given;
    })

pub one_item : (cut : Cut) (c d : Context) (i : Item) → SameButEnds c d → IsSound (splitting cut) c i → CanBeRecut c i → ItemAgrees cut c d i (item_recut cut c i)
one_item cut c d (PassedOver b) a s fine = passed cut c d b (is_dropped b.header.kind.0) refl a s
one_item cut c d (Movie b) a s fine = movie cut c d b a s fine
one_item cut c d (MovieFragment moof mdat) a s fine = fragment_by cut c.at c.number c.tracks d.at d.number d.tracks moof mdat a.number a.tracks s fine

-- ---- all items

pub sound_join : (cut : Cut) (c : Context) (xs ys : List Item) → AreSound (splitting cut) c xs → AreSound (splitting cut) (context_after_all (splitting cut) c xs) ys → AreSound (splitting cut) c (xs ++ ys)
sound_join cut c [] ys p q = q
sound_join cut c (x ∷ xs) ys p q = (p.0, sound_join cut (context_after (splitting cut) c x) xs ys p.1 q)

pub text_join : (cut : Cut) (c : Context) (xs ys : List Item) → items_text cut c (xs ++ ys) ≡ items_text cut c xs ++ items_text cut (context_after_all (splitting cut) c xs) ys
text_join cut c [] ys = refl
text_join cut c (x ∷ xs) ys = ap (λ (z : List ℕ). item_text cut c x ++ z) (text_join cut (context_after (splitting cut) c x) xs ys) ∙ sym (append_assoc (item_text cut c x) _ _)

pub after_join : (cut : Cut) (c : Context) (xs ys : List Item) → context_after_all (splitting cut) c (xs ++ ys) ≡ context_after_all (splitting cut) (context_after_all (splitting cut) c xs) ys
after_join cut c [] ys = refl
after_join cut c (x ∷ xs) ys = after_join cut (context_after (splitting cut) c x) xs ys

pub samples_join : (cut : Cut) (c : Context) (xs ys : List Item) → items_samples cut c (xs ++ ys) ≡ items_samples cut c xs ++ items_samples cut (context_after_all (splitting cut) c xs) ys
samples_join cut c [] ys = refl
samples_join cut c (x ∷ xs) ys = ap (λ (z : List MediaSample). item_samples c x ++ z) (samples_join cut (context_after (splitting cut) c x) xs ys) ∙ sym (append_assoc (item_samples c x) _ _)

pub same_bytes : (a b c d : List ℕ) → a ≡ b → c ≡ d → a ++ c ≡ b ++ d
same_bytes a b c d p q = ap (λ (x : List ℕ). x ++ c) p ∙ ap (λ (y : List ℕ). b ++ y) q

pub same_samples : (a b c d : List MediaSample) → a ≡ b → c ≡ d → a ++ c ≡ b ++ d
same_samples a b c d p q = ap (λ (x : List MediaSample). x ++ c) p ∙ ap (λ (y : List MediaSample). b ++ y) q

pub items_agree : (cut : Cut) (c d : Context) (is : List Item) → SameButEnds c d → AreSound (splitting cut) c is → CanAllBeRecut cut c is → RecutAgrees cut c d is (items_recut cut c is)
items_agree cut c d [] a s fine = record { sound = tt; text = refl; same = refl; pieces = tt; same_tracks = a }
items_agree cut c d (i ∷ is) a s fine =
    let now = item_recut cut c i in
    let more = items_recut cut (context_after (splitting cut) c i) is in
    let one = one_item cut c d i a s.0 fine.0 in
    let rest = items_agree cut (context_after (splitting cut) c i) (context_after_all (splitting (without_index cut)) d now) is one.same_tracks s.1 fine.1 in
    record {
      sound = sound_join (without_index cut) d now more one.sound rest.sound;
      text = text_join (without_index cut) d now more ∙ same_bytes _ _ _ _ one.text rest.text;
      same = samples_join (without_index cut) d now more ∙ same_samples _ _ _ _ one.same rest.same;
      pieces = pieces_join (without_index cut) d now more one.pieces rest.pieces;
      same_tracks = subst (λ (x : Context). SameButEnds (context_after_all (splitting cut) (context_after (splitting cut) c i) is) x) (sym (after_join (without_index cut) d now more)) rest.same_tracks;
    }

pub items_joined : (cut : Cut) (c : Context) (is : List Item) → AreSound (splitting cut) c is → CanAllBeRecut cut c is → joined (items_recut cut c is) ≡ items_text cut c is
items_joined cut c [] s fine = refl
items_joined cut c (i ∷ is) s fine =
    let one = one_item cut c c i (record { number = refl; tracks = refl }) s.0 fine.0 in
    joined_append (item_recut cut c i) (items_recut cut (context_after (splitting cut) c i) is) ∙ same_bytes _ _ _ _ one.join (items_joined cut (context_after (splitting cut) c i) is s.1 fine.1)
