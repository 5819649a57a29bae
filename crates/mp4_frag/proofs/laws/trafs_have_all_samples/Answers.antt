use Rattle.mp4_traf.specs.Runs.{runs_of}
use Rattle.mp4_traf.proofs.FirstSampleLemmas.{first_is}
use Rattle.mp4_frag.proofs.MoofTotalLemmas.{all_bytes, all_samples}
use Rattle.mp4_traf.proofs.TrafTotalLemmas.{duration_is}
use Rattle.mp4_frag.proofs.laws.trafs_have_all_samples.Goals as goal

pub returns-clause-samples : goal.returns-clause-samples
returns-clause-samples c h tracks = all_samples h tracks

pub returns-clause-bytes : goal.returns-clause-bytes
returns-clause-bytes c h tracks = all_bytes h tracks

pub returns-clause-duration : goal.returns-clause-duration
returns-clause-duration c t = duration_is t

pub returns-clause-first : goal.returns-clause-first
returns-clause-first c t = first_is t.shared.moof.bytes (runs_of t)
