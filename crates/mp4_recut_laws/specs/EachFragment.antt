-- What holds of each fragment among some items, in the context where it begins.
use Rattle.std.specs.Prelude.{List, [], ◌∷◌}
use Rattle.mp4_pieces.specs.declared.cut.Cut.{Cut}
use Rattle.mp4_grammar.specs.Contexts.{Context}
use Rattle.mp4_grammar.specs.Joined.{Item, Movie, MovieFragment, PassedOver, context_after, fragment_in}
use Rattle.mp4_grammar.specs.Meanings.{Fragment}
use Rattle.mp4_recut.specs.Splitting.{splitting}

-- this holds of the item, if it is a fragment
abbrev pub IfFragment : (Context → Item → Fragment → Type 0) → Context → Item → Type 0
IfFragment P c (PassedOver b) = Unit {0}
IfFragment P c (Movie b) = Unit {0}
IfFragment P c (MovieFragment moof mdat) = P c (MovieFragment moof mdat) (fragment_in c moof mdat)

-- this holds of each fragment among these items, in its context, where the fragments are numbered as the cut does it
abbrev pub EachFragment : (Context → Item → Fragment → Type 0) → Cut → Context → List Item → Type 0
EachFragment P cut c [] = Unit {0}
EachFragment P cut c (i ∷ is) = IfFragment P c i × EachFragment P cut (context_after (splitting cut) c i) is
