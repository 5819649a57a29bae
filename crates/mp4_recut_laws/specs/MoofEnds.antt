-- Where the moofs of a stream end, and how they are numbered.
use Rattle.std.specs.Prelude.{ℕ, ◌+◌, List, [], ◌∷◌, length}
use Rattle.mp4_machine.specs.declared.fragment_end.FragmentEnd.{FragmentEnd}
use Rattle.mp4_grammar.specs.Joined.{Item, Movie, MovieFragment, PassedOver}

-- of items after so many bytes: the end of each moof, with its number, of which the first is n
abbrev pub moof_ends : (at n : ℕ) → List Item → List FragmentEnd
moof_ends at n [] = []
moof_ends at n (PassedOver b ∷ is) = moof_ends (at + length b.bytes) n is
moof_ends at n (Movie b ∷ is) = moof_ends (at + length b.bytes) n is
moof_ends at n (MovieFragment moof mdat ∷ is) = record { end = at + length moof.bytes; count = n } ∷ moof_ends (at + length moof.bytes + length mdat.bytes) (n + 1) is
