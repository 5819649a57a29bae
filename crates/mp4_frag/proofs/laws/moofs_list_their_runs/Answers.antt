use Rattle.mp4_frag.proofs.ListingLemmas.{is_listing}
use Rattle.mp4_frag.proofs.laws.moofs_list_their_runs.Goals as goal

pub returns : goal.returns
returns c = is_listing
