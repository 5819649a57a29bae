-- When each sidx of a stream (ISO/IEC 14496-12, 8.16.3) is true of the items directly after it, whoever wrote it.
use Rattle.std.specs.Prelude.{◌≡◌, ◌<◌, ◌^◌, ℕ, zero, suc, pos, List, [], ◌∷◌, length, map, drop, codes}
use Rattle.std.specs.List.{AllByRecursion, sum_by}
use Rattle.mp4_traf.specs.CompositionTimes.{least_of}
use Rattle.mp4_pieces.specs.declared.cut.Cut.{Cut}
use Rattle.mp4_cut.specs.Indexes.{Index, Reference, index_in}
use Rattle.mp4_grammar.specs.Contexts.{Context}
use Rattle.mp4_grammar.specs.Joined.{Item, Movie, MovieFragment, PassedOver, context_after, bytes_of, tracks_in}
use Rattle.mp4_recut.specs.Splitting.{splitting, timescale_of}
use Rattle.mp4_recut_laws.specs.MediaSamples.{MediaSample, item_samples}

-- requirements of references to the first n of these items: of each how many bytes it has, and the sum of the durations of its samples
abbrev pub first_references : Cut → Context → ℕ → List Item → List Reference
first_references cut c zero is = []
first_references cut c (suc n) [] = []
first_references cut c (suc n) (i ∷ is) =
    record { size = length (bytes_of i); duration = sum_by (λ (s : MediaSample). s.duration) (item_samples c i); access = 0 } ∷ first_references cut (context_after (splitting cut) c i) n is

-- the samples of the first of these items
abbrev pub samples_of_first : Context → List Item → List MediaSample
samples_of_first c [] = []
samples_of_first c (i ∷ is) = item_samples c i

-- the index is true of the items directly after it. It has a reference to each of the first items, with its
-- size and duration. Its track is that of the samples of the first item, with the timescale of that track, and its
-- earliest time is the least composition time of these samples. It refers to media alone
pub record IndexIsTrue (cut : Cut) (c : Context) (x : Index) (is : List Item) : Type 0 where
  pub version : x.version ≡ 1
  pub flags : x.flags ≡ 0
  pub some : 0 < length x.references
  pub of : AllByRecursion (λ (s : MediaSample). s.track ≡ x.track) (samples_of_first c is)
  pub timescale : x.timescale ≡ timescale_of (tracks_in c) x.track
  pub earliest : pos x.earliest ≡ least_of (map (λ (s : MediaSample). s.composition) (samples_of_first c is))
  pub offset : x.first_offset ≡ 0
  pub reserved : x.reserved ≡ 0
  pub references : x.references ≡ first_references cut c (length x.references) is
  pub media : AllByRecursion (λ (r : Reference). r.size < 2 ^ 31) x.references

-- if the item is a sidx, its payload is true of the items after it
abbrev pub SidxIsTrue : Cut → Context → Item → List Item → Type 0
SidxIsTrue cut c (PassedOver b) is = b.header.kind.0 ≡ codes "sidx" → IndexIsTrue cut c (index_in (drop b.header.header_len b.bytes)) is
SidxIsTrue cut c (Movie b) is = Unit {0}
SidxIsTrue cut c (MovieFragment moof mdat) is = Unit {0}

-- the same for each sidx among these items
abbrev pub IndexesAreTrue : Cut → Context → List Item → Type 0
IndexesAreTrue cut c [] = Unit {0}
IndexesAreTrue cut c (i ∷ is) = SidxIsTrue cut (context_after (splitting cut) c i) i is × IndexesAreTrue cut (context_after (splitting cut) c i) is
