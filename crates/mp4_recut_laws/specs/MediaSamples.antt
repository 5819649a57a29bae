-- The samples of a stream, each with the bytes of its media.
use Rattle.std.specs.Prelude.{ℕ, ℤ, pos, ◌+◌, ◌-◌, ◌+ℤ◌, List, [], ◌∷◌, ◌++◌, take, drop}
use Rattle.std.specs.List.{flat_map}
use Rattle.mp4_traf.specs.declared.rows.Row.{Row}
use Rattle.mp4_traf.specs.declared.run.Run.{Run}
use Rattle.mp4_traf.specs.Rows.{rows_of}
use Rattle.mp4_pieces.specs.declared.cut.Cut.{Cut}
use Rattle.mp4_cut.specs.Sidx.{natural}
use Rattle.mp4_grammar.specs.Contexts.{Context}
use Rattle.mp4_grammar.specs.Joined.{Item, PassedOver, Movie, MovieFragment, context_after, fragment_in}
use Rattle.mp4_grammar.specs.Meanings.{Fragment, runs_in}
use Rattle.mp4_recut.specs.Splitting.{splitting}

-- what a player gets of a sample: its track, its times, its duration, its flags and its sample entry.
-- It gets the bytes of its media too. Its place in the stream is left out
pub record MediaSample : Type 0 where
  pub track : ℕ
  pub time : ℕ
  pub composition : ℤ
  pub duration : ℕ
  pub flags : ℕ
  pub entry : ℕ
  pub bytes : List ℕ

-- the samples of these rows: the first is decoded at `time`, each other when the one before it ends; their bytes lie one after the other in `media`
abbrev pub media_samples_from : (track entry : ℕ) → List Row → ℕ → List ℕ → List MediaSample
media_samples_from track entry [] time media = []
media_samples_from track entry (row ∷ rows) time media =
    record { track = track; time = time; composition = pos time +ℤ row.offset; duration = row.duration; flags = row.flags; entry = entry; bytes = take row.size media }
    ∷ media_samples_from track entry rows (time + row.duration) (drop row.size media)

-- the samples of a run. `moof_bytes` are the bytes of its moof, and `payload` is that of the mdat, which begins at the stream offset `start`
abbrev pub media_samples_of_run : List ℕ → ℕ → List ℕ → Run → List MediaSample
media_samples_of_run moof_bytes start payload run = media_samples_from run.track run.entry (rows_of run moof_bytes) run.time (drop (natural run.place - start) payload)

-- the samples of a fragment, its runs in the order in which they are taken
abbrev pub media_samples_in : Fragment → List ℕ → List MediaSample
media_samples_in f payload = flat_map (media_samples_of_run f.moof.bytes f.payload.start payload) (runs_in f)

-- the samples of an item: only a fragment has any
abbrev pub item_samples : Context → Item → List MediaSample
item_samples c (PassedOver b) = []
item_samples c (Movie b) = []
item_samples c (MovieFragment moof mdat) = media_samples_in (fragment_in c moof mdat) (drop mdat.header.header_len mdat.bytes)

-- the samples of items, one after the other
abbrev pub items_samples : Cut → Context → List Item → List MediaSample
items_samples cut c [] = []
items_samples cut c (i ∷ is) = item_samples c i ++ items_samples cut (context_after (splitting cut) c i) is
