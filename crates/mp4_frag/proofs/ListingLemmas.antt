-- A moof lists its runs, also where it has a fault.
use Rattle.std.proofs.Common.{◌≡◌, ◌<◌, List, [], ◌∷◌, map, Option, None, Some, refl}
use Rattle.std.specs.Option.{unwrap_or}
use Rattle.mp4_box.specs.Headers.{IsBytes}
use Rattle.mp4_box.specs.Trees.{Box, box_at}
use Rattle.mp4_box.proofs.GrammarLemmas.{lies_at}
use Rattle.mp4_box.proofs.HeaderLemmas.{IsBytes-take}
use Rattle.mp4_init.specs.declared.table.Track.{Track}
use Rattle.mp4_run_order.specs.declared.runs.ListedRun.{ListedRun}
use Rattle.mp4_run_order.specs.Runs.{IsListing}
use Rattle.mp4_run_order.proofs.ListLemmas.{Each, Pairs, all_of_pairs}
use Rattle.mp4_traf.specs.declared.run.Run.{Run}
use Rattle.mp4_frag.specs.Moofs.{moof_of, moof_runs, no_box}
use Rattle.mp4_frag.specs.RunLists.{moof_listing}
use Rattle.mp4_frag.specs.Places.{listed_run}
use Rattle.mp4_traf.specs.Runs.{MoofBytes}
use Rattle.mp4_frag.proofs.RunRowLemmas.{Earlier, moof_runs_rise}

payload_by : (h : MoofBytes) → IsBytes h.bytes → (o : Option Box) → box_at h.offset h.bytes ≡ o → IsBytes (unwrap_or o no_box).payload
payload_by h fits None e = IsBytes-take 0 h.bytes fits
payload_by h fits (Some m) e = (lies_at h.offset h.bytes m fits e).bytes

each_listed : (P : ListedRun → Type 0) (runs : List Run) → Each (λ (run : Run). P (listed_run run)) runs → Each P (map listed_run runs)
each_listed P [] h = tt
each_listed P (run ∷ runs) h = (h.0, each_listed P runs h.1)

pairs_listed : (runs : List Run) → Pairs Earlier runs → Pairs (λ (a b : ListedRun). a.number < b.number) (map listed_run runs)
pairs_listed [] h = tt
pairs_listed (run ∷ runs) h = (each_listed (λ (b : ListedRun). run.offset < b.number) runs h.0, pairs_listed runs h.1)

-- its truns rise
pub is_listing : (h : MoofBytes) (tracks : List Track) → IsBytes h.bytes → IsListing (moof_listing h tracks)
is_listing h tracks fits =
    all_of_pairs (λ (a b : ListedRun). a.number < b.number) (moof_listing h tracks)
    (pairs_listed (moof_runs h tracks) (moof_runs_rise h tracks (moof_of h) (payload_by h fits (box_at h.offset h.bytes) refl)).rise)
