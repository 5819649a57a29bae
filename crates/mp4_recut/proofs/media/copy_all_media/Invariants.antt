use Rattle.std.proofs.Common.{◌≤◌, ◌+◌, ◌-◌, length, take}
use Rattle.mp4_machine.specs.Ends.{sent}
use Rattle.mp4_recut.specs.Media.{HasCopied}
use Rattle.mp4_recut.proofs.media.copy_all_media.Given as goal

-- so many bytes were taken
abbrev pub invariant-loop-count : goal.invariant-loop-count
invariant-loop-count g l = record {
  within : l.count ≤ length l.fn.input;
  copy_taken : HasCopied l.fn.cut_moof.cut.now l.fn.cut_moof.moof.now l.fn.cut_moof.tracks.now (sent g.W.Sink.contents g.W.Sink.has_failed l.fn.w l.w) l.fn.out l.out l.fn.fragments l.fragments l.fn.at (l.fn.at + l.count) l.fn.media (take l.count l.fn.input) l.media;
}

abbrev pub decreases-loop-count : goal.decreases-loop-count
decreases-loop-count g l = length l.fn.input - l.count
