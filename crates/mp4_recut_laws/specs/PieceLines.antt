-- The line in which a fragment is listed, where it has one.
use Rattle.std.specs.Prelude.{◌≡◌, [], ◌∷◌, length, Some}
use Rattle.mp4_traf.specs.Runs.{TrackFragment}
use Rattle.mp4_frag.specs.Moofs.{moof_trafs}
use Rattle.mp4_grammar.specs.Contexts.{Context}
use Rattle.mp4_grammar.specs.FragmentLines.{listed_traf, traf_line}
use Rattle.mp4_grammar.specs.Joined.{Item, bytes_of}
use Rattle.mp4_grammar.specs.Meanings.{Fragment}
use Rattle.mp4_grammar.specs.declared.command.Command.TheVariants.{Fragments}
use Rattle.mp4_recut_laws.specs.Listings.{item_listing}
use Rattle.mp4_recut_laws.specs.MediaSamples.{item_samples}

-- the moof of a fragment has one traf, so the fragment has one line. That gives its number, its stream offset, and how
-- many bytes and samples it has
pub record IsOneLine (c : Context) (i : Item) (f : Fragment) : Type 0 where
  pub traf : TrackFragment
  pub only : moof_trafs f.moof f.tracks ≡ traf ∷ []
  pub line : item_listing Fragments c i ≡ traf_line (listed_traf f traf)
  pub sequence : (listed_traf f traf).sequence ≡ c.number
  pub at : (listed_traf f traf).at ≡ c.at
  pub size : (listed_traf f traf).size ≡ Some (length (bytes_of i))
  pub samples : (listed_traf f traf).samples ≡ length (item_samples c i)
