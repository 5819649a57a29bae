-- The records in which the recut text of a stream is listed, and the pieces that they are of.
use Rattle.std.proofs.Common.{◌≡◌, ◌∙◌, ℕ, ◌+◌, ◌*◌, ◌≤◌, ◌^◌, List, [], ◌∷◌, ◌++◌, length, length-append, append_assoc, refl, sym, ap, arith}
use Rattle.std.specs.Prelude.{drop, take}
use Rattle.std.proofs.Math.Seq.{take-append_seam}
use Rattle.std.proofs.lemmas.List.{drop_at}
use Rattle.mp4_pieces.specs.declared.cut.Cut.{Cut}
use Rattle.mp4_grammar.specs.Commands as commands
use Rattle.mp4_grammar.specs.Contexts.{Context, first_context}
use Rattle.mp4_grammar.specs.Joined.{Item, Movie, MovieFragment, PassedOver, context_after, joined}
use Rattle.mp4_grammar.specs.TrafRecords.{in_4, in_8, record_bytes, record_len}
use Rattle.mp4_grammar.specs.declared.command.Command.TheVariants.{Records}
use Rattle.mp4_grammar.specs.declared.traf_record.TrafRecord.{TrafRecord}
use Rattle.mp4_recut.specs.Splitting.{reading, splitting}
use Rattle.mp4_recut_laws.specs.EachFragment.{EachFragment}
use Rattle.mp4_recut_laws.specs.Listings.{item_listing, items_listing}
use Rattle.mp4_recut_laws.specs.MoofEnds.{moof_ends}
use Rattle.mp4_recut_laws.specs.PieceRecords.{IsOneRecord, LiesThere}
use Rattle.mp4_recut_laws.specs.RecutItems.{without_index}
use Rattle.mp4_recut_laws.specs.Streams.{IsSoundStream, Stream, ending_bytes, recut, stream_bytes, stream_text}
use Rattle.mp4_recut_laws.proofs.ListedStreamLemmas.{recut_listed}
use Rattle.mp4_recut_laws.proofs.MoofMarkLemmas.{moofs_are_marked}
use Rattle.mp4_recut_laws.proofs.PieceLineLemmas.{of_pieces, one_record}
use Rattle.mp4_recut_laws.proofs.StreamLemmas.{laws}

record_length : (r : TrafRecord) → length (record_bytes r) ≡ record_len
unfolding record_bytes in_8 in_4
record_length r = refl

one_more : (a b : List ℕ) (n k : ℕ) → length a ≡ record_len → length b ≡ record_len * n → k ≡ n + 1 → length (a ++ b) ≡ record_len * k
one_more a b n k one rest sum = omega (arith, length-append a b, one, rest, sum)

records_of : (cut d : Cut) (at n : ℕ) (c : Context) (is : List Item) → EachFragment (IsOneRecord cut) d c is → length (items_listing Records d c is) ≡ record_len * length (moof_ends at n is)
records_of cut d at n c [] all = refl
records_of cut d at n c (PassedOver b ∷ is) all = records_of cut d (at + length b.bytes) n (context_after (splitting d) c (PassedOver b)) is all.1
records_of cut d at n c (Movie b ∷ is) all = records_of cut d (at + length b.bytes) n (context_after (splitting d) c (Movie b)) is all.1
records_of cut d at n c (MovieFragment moof mdat ∷ is) all =
    let i = MovieFragment moof mdat in
    let more = moof_ends (at + length moof.bytes + length mdat.bytes) (n + 1) is in
    one_more (item_listing Records c i) (items_listing Records d (context_after (splitting d) c i) is) (length more) (length (moof_ends at n (i ∷ is)))
    (ap (λ (x : List ℕ). length x) all.0.text ∙ record_length _)
    (records_of cut d (at + length moof.bytes + length mdat.bytes) (n + 1) (context_after (splitting d) c i) is all.1)
    (omega arith)

pub each_has_one : (cut : Cut) (s : Stream) → IsSoundStream cut s → EachFragment (IsOneRecord (without_index cut)) (without_index cut) first_context (recut cut s).items
each_has_one cut s is = let now = without_index cut in of_pieces now (IsOneRecord now) (one_record now) now first_context (recut cut s).items (laws cut s is).pieces

pub records_counted : (cut : Cut) (s : Stream) → IsSoundStream cut s → length (stream_text cut s) ≤ 2 ^ 62
    → length (commands.reading Records (stream_text cut s)).effects.text ≡ record_len * (reading cut (stream_bytes s)).effects.tally.fragments
records_counted cut s is near =
    ap (λ (x : List ℕ). length x) (recut_listed Records cut s is near)
    ∙ (records_of (without_index cut) (without_index cut) 0 1 first_context (recut cut s).items (each_has_one cut s is)
    ∙ ap (λ (n : ℕ). record_len * n) (sym (moofs_are_marked cut s is).counted))

-- ---- where the pieces lie

found : (text before x rest : List ℕ) (n : ℕ) → length before ≡ n → text ≡ before ++ (x ++ rest) → take (length x) (drop n text) ≡ x
found text before x rest n at e =
    ap (λ (t : List ℕ). take (length x) (drop n t)) e
    ∙ (ap (take (length x)) (drop_at before (x ++ rest) n at)
    ∙ take-append_seam x rest)

one_by_one : (text before x more after : List ℕ) → text ≡ before ++ ((x ++ more) ++ after) → text ≡ before ++ (x ++ (more ++ after))
one_by_one text before x more after e = e ∙ ap (λ (t : List ℕ). before ++ t) (append_assoc x more after)

moved_on : (text before x rest : List ℕ) → text ≡ before ++ (x ++ rest) → text ≡ (before ++ x) ++ rest
moved_on text before x rest e = e ∙ sym (append_assoc before x rest)

module _ (cut : Cut) (text after : List ℕ) where
  lie_there : (c : Context) (is : List Item) (before : List ℕ) → length before ≡ c.at → text ≡ before ++ (joined is ++ after) → EachFragment (LiesThere text) cut c is
  lie_there c [] before at e = tt
  lie_there c (PassedOver b ∷ is) before at e =
      let e' = one_by_one text before b.bytes (joined is) after e in
      (tt, lie_there (context_after (splitting cut) c (PassedOver b)) is (before ++ b.bytes) (omega (arith, at, length-append before b.bytes)) (moved_on text before b.bytes (joined is ++ after) e'))
  lie_there c (Movie b ∷ is) before at e =
      let e' = one_by_one text before b.bytes (joined is) after e in
      (tt, lie_there (context_after (splitting cut) c (Movie b)) is (before ++ b.bytes) (omega (arith, at, length-append before b.bytes)) (moved_on text before b.bytes (joined is ++ after) e'))
  lie_there c (MovieFragment moof mdat ∷ is) before at e =
      let x = moof.bytes ++ mdat.bytes in
      let e' = one_by_one text before x (joined is) after e in
      (found text before x (joined is ++ after) c.at at e', lie_there (context_after (splitting cut) c (MovieFragment moof mdat)) is (before ++ x) (omega (arith, at, length-append before x, length-append moof.bytes mdat.bytes)) (moved_on text before x (joined is ++ after) e'))

pub each_lies_there : (cut : Cut) (s : Stream) → IsSoundStream cut s → EachFragment (LiesThere (stream_text cut s)) (without_index cut) first_context (recut cut s).items
each_lies_there cut s is =
    let r = recut cut s in
    lie_there (without_index cut) (stream_text cut s) (ending_bytes r.ending) first_context r.items [] refl (sym (laws cut s is).join)
