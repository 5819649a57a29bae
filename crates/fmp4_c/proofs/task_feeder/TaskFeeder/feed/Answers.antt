use Rattle.fmp4_c.proofs.TaskLemmas.{boxes-fed, fragments-fed}
use Rattle.fmp4_c.proofs.task_feeder.TaskFeeder.feed.Goals as goal

pub returns-in-Fragments-clause-feeds : goal.returns-in-Fragments-clause-feeds
returns-in-Fragments-clause-feeds g c = rw c.in-Fragments.is (λ b s. fragments-fed b c.args.input.now c.in-Fragments.feeder c.feed.new.self _ c.feed.result (c.feed.ensures.feeds b s))

pub returns-in-Boxes-clause-feeds : goal.returns-in-Boxes-clause-feeds
returns-in-Boxes-clause-feeds g c = rw c.in-Boxes.is (λ b s. boxes-fed b c.args.input.now c.in-Boxes.feeder c.feed-in-Boxes.new.self _ c.feed-in-Boxes.result (c.feed-in-Boxes.ensures.feeds b s))
