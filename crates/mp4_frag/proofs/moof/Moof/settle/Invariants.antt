use Rattle.std.proofs.Common.{◌≡◌, ◌+◌, [], ◌∷◌}
use Rattle.mp4_box.specs.Paths.{paths_below}
use Rattle.mp4_traf.specs.Kinds.{trun}
use Rattle.mp4_frag.specs.Moofs.{moof_of, moof_trafs}
use Rattle.mp4_traf.specs.Settling.{settled, timed_in, timed_of}
use Rattle.mp4_frag.specs.Implementation.SettlingSteps.{EachInTime, settled_on}
use Rattle.mp4_frag.proofs.SoundLemmas.{FewTimed}
use Rattle.mp4_frag.proofs.moof.Moof.settle.Given as goal

-- what is left to settle are the trafs that are left; their samples and those so far are all
abbrev pub invariant-loop-traf : goal.invariant-loop-traf
invariant-loop-traf l = record {
  left : settled_on l.self l.tracks l.traf-iterator ≡ settled l.fn.tracks (moof_trafs l.self l.fn.tracks);
  each : EachInTime l.self l.tracks l.traf-iterator;
  count : l.timed + timed_in (paths_below (trun ∷ []) l.traf-iterator) ≡ timed_of (moof_of l.self);
  few : FewTimed (moof_of l.self);
}
