use Rattle.std.proofs.Common.{rules, ◌∙◌, ap, arith, length}
use Rattle.std.proofs.lemmas.List.{length-map}
use Rattle.mp4_box.specs.Paths.{of_kind}
use Rattle.mp4_box.specs.Trees.{children, view}
use Rattle.mp4_init.specs.Kinds.{trak}
use Rattle.mp4_init.specs.Tracks.{track_of}
use Rattle.mp4_init.proofs.LinkLemmas.{indexed_none}
use Rattle.mp4_init.proofs.SummaryTableLemmas.{summaries_of_none}
use Rattle.mp4_init.proofs.build.push_tracks.Goals as goal

pub loop-trak-init : goal.loop-trak-init
loop-trak-init g c = record {
  tracks = search rules;
  indexed = rw c.requires.empty indexed_none;
  room =
      omega (
        arith,
        ap (λ k. length k) c.requires.empty,
        ap (λ k. length (of_kind trak k)) (c.into_iter-trak-iterator.ensures.into_iter_gives ∙ c.of-trak-items.ensures.children),
        c.requires.cap,
        length-map (of_kind trak (children (view c.args.moov.now))) (track_of (view c.args.moov.now)),
      );
  added = summaries_of_none (view c.args.moov.now) c.new.result.items c.new-2.result.items c.new.ensures c.new-2.ensures;
}
