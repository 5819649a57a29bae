use Rattle.std.proofs.Common.{◌≡◌, ◌≤◌, ◌-◌, max, length, take, drop}
use Rattle.mp4_run_order.proofs.ListLemmas.{Each}
use Rattle.mp4_frag.specs.RunLists.{taken_runs}
use Rattle.mp4_grammar.specs.Meanings.{reach}
use Rattle.mp4_traf.specs.Ranges.{IsRunOf}
use Rattle.mp4_fragment_machine.specs.States.{moof_in}
use Rattle.mp4_fragment_machine.proofs.MediaLemmas.{count_of, media_of}
use Rattle.mp4_fragment_machine.proofs.mdat.totals.add_up_runs.Given as goal

-- the bytes of the runs so far were added up, and with the runs that are left they reach as far as all
abbrev pub invariant-loop-i : goal.invariant-loop-i
invariant-loop-i l = record {
  within : l.i ≤ length l.fn.pending_moof.runs.rows;
  bytes : l.so_far.bytes ≡ media_of (take l.i (taken_runs (moof_in l.fn.pending_moof) l.fn.tracks));
  samples : l.so_far.samples ≡ count_of (take l.i (taken_runs (moof_in l.fn.pending_moof) l.fn.tracks));
  needed : max l.so_far.needed (reach l.fn.payload.start (drop l.i (taken_runs (moof_in l.fn.pending_moof) l.fn.tracks))) ≡ reach l.fn.payload.start (taken_runs (moof_in l.fn.pending_moof) l.fn.tracks);
  are : Each (IsRunOf l.fn.pending_moof.moof.bytes) (take l.i (taken_runs (moof_in l.fn.pending_moof) l.fn.tracks));
}

abbrev pub decreases-loop-i : goal.decreases-loop-i
decreases-loop-i l = length l.fn.pending_moof.runs.rows - l.i
