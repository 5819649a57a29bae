-- What a command writes of the items of a stream: the tracks of its moov where fragments are listed, and for each
-- fragment the lines of its samples, or the lines or the records of its trafs.
use Rattle.std.specs.Prelude.{ℕ, List, [], ◌∷◌, ◌++◌}
use Rattle.mp4_pieces.specs.declared.cut.Cut.{Cut}
use Rattle.mp4_grammar.specs.Commands.{accepted, written_of_moov}
use Rattle.mp4_grammar.specs.Contexts.{Context}
use Rattle.mp4_grammar.specs.Joined.{Item, Movie, MovieFragment, PassedOver, context_after, fragment_in}
use Rattle.mp4_grammar.specs.Meanings.{Fragment}
use Rattle.mp4_grammar.specs.declared.command.Command.{Command}
use Rattle.mp4_recut.specs.Splitting.{splitting}

-- what a command writes of a fragment
abbrev pub fragment_listing : Command → Fragment → List ℕ
fragment_listing command f = (accepted command f).text

-- what it writes of an item
abbrev pub item_listing : Command → Context → Item → List ℕ
item_listing command c (PassedOver b) = []
item_listing command c (Movie b) = written_of_moov command b.bytes
item_listing command c (MovieFragment moof mdat) = fragment_listing command (fragment_in c moof mdat)

-- the same of items, one after the other
abbrev pub items_listing : Command → Cut → Context → List Item → List ℕ
items_listing command cut c [] = []
items_listing command cut c (i ∷ is) = item_listing command c i ++ items_listing command cut (context_after (splitting cut) c i) is
