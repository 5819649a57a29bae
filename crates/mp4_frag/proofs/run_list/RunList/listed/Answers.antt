use Rattle.std.proofs.Common.{◌∙◌, ap}
use Rattle.mp4_frag.specs.RunLists.{ListedRows}
use Rattle.mp4_frag.specs.Implementation.RunRows.{listed_row}
use Rattle.mp4_frag.proofs.RunListLemmas.{listed_is}
use Rattle.mp4_frag.proofs.run_list.RunList.listed.Goals as goal

pub returns : goal.returns
returns c = λ h tracks run of is.
    c.listed_row.ensures ∙ (ap listed_row c.row_of_words.ensures
    ∙ listed_is h tracks c.args.self.now c.self.inside.rows.rows c.args.i c.get.result run of (ap (λ (l : ListedRows). l.rows) c.self.view_is) c.requires c.get.ensures is)
