use Rattle.std.proofs.Common.{◌≡◌, ◌+◌, ◌≤◌}
use Rattle.mp4_box.specs.Trees.{view}
use Rattle.mp4_frag.specs.Rules.{count_faults, samples_of, too_many}
use Rattle.mp4_traf.specs.Rules.{most_in_moof, samples_in}
use Rattle.mp4_frag.proofs.rules.counts.count_samples.Given as goal

-- the samples so far and those of the truns that are left
abbrev pub invariant-loop-trun : goal.invariant-loop-trun
invariant-loop-trun l = record {
  left : too_many l.count l.trun-iterator ≡ count_faults (view l.moof);
  sum : l.count + samples_in l.trun-iterator ≡ samples_of (view l.moof);
  few : l.count ≤ most_in_moof;
}
