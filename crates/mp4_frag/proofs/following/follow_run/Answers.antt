use Rattle.std.proofs.Common.{rules}
use Rattle.mp4_frag.specs.Implementation.Following.{bytes_with, past_run}
use Rattle.mp4_frag.proofs.following.follow_run.Goals as goal

pub returns-then-run-eq0-clause-end : goal.returns-then-run-eq0-clause-end
unfolding past_run bytes_with
returns-then-run-eq0-clause-end c = search rules

pub returns-then-run-eq0-clause-bytes : goal.returns-then-run-eq0-clause-bytes
unfolding past_run bytes_with
returns-then-run-eq0-clause-bytes c = search rules

pub returns-clause-end : goal.returns-clause-end
unfolding past_run bytes_with
returns-clause-end c = search rules

pub returns-clause-bytes : goal.returns-clause-bytes
unfolding past_run bytes_with
returns-clause-bytes c = search rules
