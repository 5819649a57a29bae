use Rattle.mp4_grammar.proofs.LineLemmas.{after_times}
use Rattle.mp4_grammar.proofs.cached_line.CachedLine.push_rest.Goals as goal

pub returns : goal.returns
returns c =
    rw (c.push_array.ensures.text, c.push_place.ensures.text, c.push_text-2.ensures.text, c.push_decimal.ensures.text, c.from.ensures, c.push_text.ensures.text, c.self.invariant.1, c.self.invariant.2, c.self.view_is) (after_times c.args.block.now c.args.self.now)
