use Rattle.mp4_grammar.proofs.SplitLemmas.{every-stream}
use Rattle.mp4_grammar.proofs.laws.every_stream.Goals as goal

pub returns : goal.returns
returns c meaning b fits = every-stream meaning b fits
