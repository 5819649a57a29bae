use Rattle.mp4_traf.proofs.RowLemmas.{cursor_first, cursor_past}
use Rattle.mp4_frag.proofs.laws.cursors_go_on.Goals as goal

pub returns-clause-first : goal.returns-clause-first
returns-clause-first c run moof_bytes = cursor_first run moof_bytes

pub returns-clause-past : goal.returns-clause-past
returns-clause-past c run moof_bytes cursor is h = cursor_past run moof_bytes cursor is h
