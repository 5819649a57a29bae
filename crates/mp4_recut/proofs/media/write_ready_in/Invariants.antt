use Rattle.std.proofs.Common.{◌≡◌, ℕ, ◌+◌, [], length}
use Rattle.mp4_recut.specs.Cursors.{MayBeAt, fragments_left}
use Rattle.mp4_recut.specs.Media.{Outputs, Rises, media_position}
use Rattle.mp4_recut.proofs.media.write_ready_in.Given as goal

-- what was put, and what is left
abbrev pub invariant-loop-media : goal.invariant-loop-media
invariant-loop-media g l = record {
  outputs : (at : ℕ) → Outputs (g.W.Sink.contents l.fn.w) (g.W.Sink.contents l.w) l.fn.out l.out l.fn.fragments l.fragments (media_position l.fn.cut_moof.cut.now l.fn.cut_moof.moof.now l.fn.cut_moof.tracks.now at (l.fn.fragments + 1) l.fn.media) []
      (media_position l.fn.cut_moof.cut.now l.fn.cut_moof.moof.now l.fn.cut_moof.tracks.now at (l.fragments + 1) l.media);
  at : MayBeAt l.fn.cut_moof.cut.now l.fn.cut_moof.moof.now l.fn.cut_moof.tracks.now l.media.later;
  few : l.fragments + length (fragments_left l.fn.cut_moof.cut.now l.fn.cut_moof.moof.now l.fn.cut_moof.tracks.now (l.fragments + 1) l.media.later) ≡ l.fn.fragments + length (fragments_left l.fn.cut_moof.cut.now l.fn.cut_moof.moof.now l.fn.cut_moof.tracks.now (l.fn.fragments + 1) l.fn.media.later);
  rises : (at end : ℕ) → Rises end (media_position l.fn.cut_moof.cut.now l.fn.cut_moof.moof.now l.fn.cut_moof.tracks.now at (l.fn.fragments + 1) l.fn.media) → Rises end (media_position l.fn.cut_moof.cut.now l.fn.cut_moof.moof.now l.fn.cut_moof.tracks.now at (l.fragments + 1) l.media);
  kept : g.W.Sink.has_failed l.w ≡ g.W.Sink.has_failed l.fn.w;
}

abbrev pub decreases-loop-media : goal.decreases-loop-media
decreases-loop-media g l = length (fragments_left l.fn.cut_moof.cut.now l.fn.cut_moof.moof.now l.fn.cut_moof.tracks.now (l.fragments + 1) l.media.later)
