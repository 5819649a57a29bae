use Rattle.mp4_pieces.proofs.OrderLemmas.{count_kept, room_kept}
use Rattle.mp4_frag.proofs.ReadRunLemmas.{runs_kept}
use Rattle.mp4_pieces.proofs.laws.order_is_free.Goals as goal

pub returns-clause-runs : goal.returns-clause-runs
returns-clause-runs c moof_bytes xs ys same all = runs_kept moof_bytes xs ys same all

pub returns-clause-count : goal.returns-clause-count
returns-clause-count c cut moof_bytes xs ys same = count_kept cut moof_bytes xs ys same

pub returns-clause-room : goal.returns-clause-room
returns-clause-room c cut h xs ys seq same has = room_kept cut h xs ys seq same has
