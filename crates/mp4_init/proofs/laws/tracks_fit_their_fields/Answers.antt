use Rattle.mp4_init.proofs.TrackFieldLemmas.{moov_tracks_fit}
use Rattle.mp4_init.proofs.laws.tracks_fit_their_fields.Goals as goal

pub returns : goal.returns
returns c = moov_tracks_fit
