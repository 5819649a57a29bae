use Rattle.mp4_recut.specs.Operations.{reads_of}
use Rattle.mp4_stream.proofs.FeederLemmas.{feeds-by, operation-ordered}
use Rattle.mp4_stream.proofs.feeder.Feeder.feed.Goals as goal

pub returns-clause-feeds : goal.returns-clause-feeds
returns-clause-feeds g c =
    let operation = c.self.inside.fed.machine.operation in
    rw (← c.self.view_is)
    (λ b s. feeds-by operation c.feed.new.self.machine.operation b c.args.input.now c.self.inside.fed c.feed.new.self _ c.feed.result c.feed.ensures.feeds.task (c.feed.ensures.feeds.feeds (reads_of operation) b (operation-ordered operation) s))
