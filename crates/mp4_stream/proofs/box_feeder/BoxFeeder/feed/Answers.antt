use Rattle.mp4_boxes.specs.Boxes.{reading}
use Rattle.mp4_stream.proofs.BoxFeederLemmas.{feeds-by, listing-ordered}
use Rattle.mp4_stream.proofs.box_feeder.BoxFeeder.feed.Goals as goal

pub returns-clause-feeds : goal.returns-clause-feeds
returns-clause-feeds g c =
    rw (← c.self.view_is)
    (λ b s. feeds-by b c.args.input.now c.self.inside.fed c.feed.new.self _ c.feed.result (c.feed.ensures.feeds.feeds (reading 0) b listing-ordered s))
