use Rattle.mp4_frag.proofs.TrackFitLemmas.{settled_fit}
use Rattle.mp4_frag.proofs.laws.settled_tracks_fit.Goals as goal

pub returns : goal.returns
returns c = settled_fit
