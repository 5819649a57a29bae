use Rattle.std.proofs.Common.{◌≡◌, ℕ, ◌-◌, ◌<◌, length}
use Rattle.mp4_frag.specs.RunLists.{taken_runs}
use Rattle.mp4_pieces.specs.declared.cut.Cut.{Cut}
use Rattle.mp4_recut.specs.Cursors.{AreCut, IsAt, left_in}
use Rattle.mp4_recut.proofs.cursor.seek_run.Given as goal

-- as much is left as at first
abbrev pub invariant-loop-c : goal.invariant-loop-c
invariant-loop-c l = record {
  same : (cut : Cut) → IsAt cut l.fn.moof l.fn.tracks l.fn.c → AreCut cut l.fn.moof l.fn.tracks → (number : ℕ) → left_in cut l.fn.moof l.fn.tracks number l.fn.c ≡ left_in cut l.fn.moof l.fn.tracks number l.c;
  at : (cut : Cut) → IsAt cut l.fn.moof l.fn.tracks l.fn.c → AreCut cut l.fn.moof l.fn.tracks → IsAt cut l.fn.moof l.fn.tracks l.c;
  within : l.c.index < length (taken_runs l.fn.moof l.fn.tracks);
}

abbrev pub decreases-loop-c : goal.decreases-loop-c
decreases-loop-c l = length (taken_runs l.fn.moof l.fn.tracks) - l.c.index
