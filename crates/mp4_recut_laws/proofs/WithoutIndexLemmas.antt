-- A stream without a fault has none without an index either.
use Rattle.std.proofs.Common.{◌≡◌, ◌∙◌, ℕ, List, [], ◌∷◌, ◌++◌, Option, None, refl, ap, subst}
use Rattle.std.specs.Option.{option_or}
use Rattle.mp4_box.specs.declared.headers.Header.{Header}
use Rattle.mp4_box.specs.declared.rules.Fault.{Fault}
use Rattle.mp4_box.specs.Order.{least}
use Rattle.mp4_box.specs.Order as order
use Rattle.mp4_box.proofs.OrderLemmas.{least-none}
use Rattle.mp4_init.proofs.MoovLemmas.{first_none}
use Rattle.mp4_traf.specs.declared.run.Run.{Run}
use Rattle.mp4_frag.specs.Moofs.{moof_runs}
use Rattle.mp4_frag.specs.Places.{place_fault}
use Rattle.mp4_traf.specs.Runs.{MoofBytes, moof_at}
use Rattle.mp4_pieces.specs.declared.cut.Cut.{Cut}
use Rattle.mp4_pieces.specs.Pieces.{piece_count}
use Rattle.mp4_pieces.specs.Rooms.{index_faults, numbers, room_fault, sequence_faults}
use Rattle.mp4_pieces.specs.Rooms as rooms
use Rattle.mp4_grammar.specs.Contexts.{Context, first_context}
use Rattle.mp4_grammar.specs.Joined.{AreSound, IsGood, IsSound, Item, Movie, MovieFragment, PassedOver, context_after, context_after_all, fragment_here, tracks_in}
use Rattle.mp4_recut.specs.Splitting.{splitting}
use Rattle.mp4_recut_laws.specs.RecutItems.{without_index}
use Rattle.mp4_recut_laws.specs.Streams.{Ending, IsSoundEnding, IsSoundStream, NothingMore, OpenBox, OpenFragment, Stream}

pub both_none : (a b : Option Fault) → a ≡ None → b ≡ None → option_or a b ≡ None
both_none a b p q = ap (λ (o : Option Fault). option_or o b) p ∙ q

pub last_none : {X : Type 0} (xs ys : List X) → xs ++ ys ≡ [] → ys ≡ []
last_none [] ys e = e
last_none (x ∷ xs) ys e = absurd cc

no_index : (cut : Cut) (moof_bytes : List ℕ) (runs : List Run) → index_faults (without_index cut) moof_bytes runs ≡ []
no_index cut moof_bytes [] = refl
no_index cut moof_bytes (run ∷ runs) = no_index cut moof_bytes runs

room_without_index : (cut : Cut) (h : MoofBytes) (runs : List Run) (number : ℕ) → room_fault cut h runs number ≡ None → room_fault (without_index cut) h runs number ≡ None
unfolding rooms.room_faults order.least_from
room_without_index cut h runs number e =
    let faults = sequence_faults h.offset (numbers number (piece_count cut h.bytes runs)) in
    let none : faults ≡ [] = last_none (index_faults cut h.bytes runs) faults (least-none (rooms.room_faults cut h runs number) e) in
    ap (λ (fs : List Fault). least (fs ++ faults)) (no_index cut h.bytes runs) ∙ ap least none

good_without_index : (cut : Cut) (c : Context) (x : List ℕ) (h : Header) → IsGood (splitting cut) c x h → IsGood (splitting (without_index cut)) c x h
good_without_index cut c x h good =
    let f = fragment_here c x h in
    let m = moof_at x c.at in
    let runs = moof_runs m (tracks_in c) in
    let both = first_none (place_fault f.payload runs) (room_fault cut m runs c.number) good in
    both_none (place_fault f.payload runs) (room_fault (without_index cut) m runs c.number) both.0 (room_without_index cut m runs c.number both.1)

item_without_index : (cut : Cut) (c : Context) (i : Item) → IsSound (splitting cut) c i → IsSound (splitting (without_index cut)) c i
item_without_index cut c (PassedOver b) s = s
item_without_index cut c (Movie b) s = s
item_without_index cut c (MovieFragment moof mdat) s = (s.0, s.1, s.2, good_without_index cut c moof.bytes mdat.header s.3)

pub same_after : (cut : Cut) (c : Context) (i : Item) → context_after (splitting cut) c i ≡ context_after (splitting (without_index cut)) c i
same_after cut c (PassedOver b) = refl
same_after cut c (Movie b) = refl
same_after cut c (MovieFragment moof mdat) = refl

ending_without_index : (cut : Cut) (c : Context) (e : Ending) → IsSoundEnding (splitting cut) c e → IsSoundEnding (splitting (without_index cut)) c e
ending_without_index cut c NothingMore s = s
ending_without_index cut c (OpenBox h header_bytes more) s = s
ending_without_index cut c (OpenFragment moof h header_bytes more) s = (s.0, s.1, s.2, s.3, good_without_index cut c moof.bytes h s.4, s.5)

record AreWithoutIndex (cut : Cut) (c : Context) (is : List Item) (e : Ending) : Type 0 where
  sound : AreSound (splitting (without_index cut)) c is
  ending : IsSoundEnding (splitting (without_index cut)) (context_after_all (splitting (without_index cut)) c is) e

are_without_index : (cut : Cut) (c : Context) (is : List Item) (e : Ending) → AreSound (splitting cut) c is → IsSoundEnding (splitting cut) (context_after_all (splitting cut) c is) e → AreWithoutIndex cut c is e
are_without_index cut c [] e s z = record { sound = tt; ending = ending_without_index cut c e z }
are_without_index cut c (i ∷ is) e s z =
    let rest = subst (λ (d : Context). AreWithoutIndex cut d is e) (same_after cut c i) (are_without_index cut (context_after (splitting cut) c i) is e s.1 z) in
    record { sound = (item_without_index cut c i s.0, rest.sound); ending = rest.ending }

pub stream_without_index : (cut : Cut) (s : Stream) → IsSoundStream cut s → IsSoundStream (without_index cut) s
stream_without_index cut s is =
    let p = are_without_index cut first_context s.items s.ending is.sound is.ending in
    record { sound = p.sound; ending = p.ending; bytes = is.bytes; near = is.near }
