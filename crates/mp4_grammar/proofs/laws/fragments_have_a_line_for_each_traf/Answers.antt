use Rattle.std.proofs.Common.{◌∙◌, ◌+◌, ◌-◌, ℕ, Some, ap, arith, length}
use Rattle.std.specs.Prelude.{option_map}
use Rattle.mp4_box.specs.declared.headers.Size.{Size}
use Rattle.mp4_grammar.specs.Items.{end_of}
use Rattle.mp4_grammar.proofs.RowLineLemmas.{line_for_each_traf}
use Rattle.mp4_grammar.proofs.laws.fragments_have_a_line_for_each_traf.Goals as goal

pub returns-clause-lines : goal.returns-clause-lines
returns-clause-lines c f = line_for_each_traf f

pub returns-clause-size : goal.returns-clause-size
returns-clause-size c d tracks moof mdat b n is =
    ap (λ (s : Size). option_map (λ (end : ℕ). end - d.at) (end_of (d.at + length moof) s)) is ∙ ap Some (omega arith)

pub returns-clause-open : goal.returns-clause-open
returns-clause-open c d tracks moof mdat b is =
    ap (λ (s : Size). option_map (λ (end : ℕ). end - d.at) (end_of (d.at + length moof) s)) is
