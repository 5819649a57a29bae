use Rattle.mp4_frag.proofs.MoofTotalLemmas.{all_bytes, all_samples}
use Rattle.mp4_grammar.proofs.laws.trafs_have_all_that_is_counted.Goals as goal

pub returns-clause-samples : goal.returns-clause-samples
returns-clause-samples c f = all_samples f.moof f.tracks

pub returns-clause-media : goal.returns-clause-media
returns-clause-media c f = all_bytes f.moof f.tracks

pub returns-clause-totals : goal.returns-clause-totals
returns-clause-totals c f = (all_samples f.moof f.tracks, all_bytes f.moof f.tracks)
