use Rattle.std.proofs.Common.{◌∙◌, ap, arith, length}
use Rattle.mp4_traf.proofs.RowLemmas.{length_rows_of}
use Rattle.mp4_grammar.specs.Presented.{presented_in}
use Rattle.mp4_grammar.proofs.PresentedLemmas.{found_is}
use Rattle.mp4_grammar.proofs.presented.by_rows.Goals as goal

pub add_rows-requires-clause-few : goal.add_rows-requires-clause-few
add_rows-requires-clause-few c = omega (arith, ap (λ l. length l) c.rows.ensures, length_rows_of c.args.run.now c.args.moof_bytes.now, c.count_fits.ensures)

pub returns : goal.returns
returns c = c.to_presented.ensures ∙ (found_is c.rows.result _ _ c.add_rows.ensures.earliest c.add_rows.ensures.syncs ∙ ap presented_in c.rows.ensures)
