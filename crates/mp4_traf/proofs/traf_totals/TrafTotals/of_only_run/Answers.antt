use Rattle.mp4_traf.proofs.TrafTotalLemmas.{only_totals}
use Rattle.mp4_traf.proofs.traf_totals.TrafTotals.of_only_run.Goals as goal

pub returns : goal.returns
returns c = λ t same is. rw (c.are_sync.ensures, c.flags_of_first.ensures) (only_totals t c.args.run.now c.args.moof_bytes.now same is)
