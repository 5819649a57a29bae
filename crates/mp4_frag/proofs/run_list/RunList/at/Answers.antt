use Rattle.std.proofs.Common.{◌∙◌, ap}
use Rattle.mp4_frag.specs.RunLists.{ListedRows}
use Rattle.mp4_frag.specs.Implementation.Rereads.{run_of_row}
use Rattle.mp4_traf.specs.Runs.{MoofBytes}
use Rattle.mp4_frag.proofs.RunListLemmas.{run_is}
use Rattle.mp4_frag.proofs.run_list.RunList.at.Goals as goal

pub returns : goal.returns
returns c =
    run_is c.args.moof.now c.args.tracks.now c.args.self.now c.self.inside.rows.rows c.args.i c.get.result c.run_of_row.result c.requires.list (ap (λ (l : ListedRows). l.rows) c.self.view_is) c.requires.index c.get.ensures
    (c.run_of_row.ensures ∙ (ap (λ (h : MoofBytes). run_of_row h c.args.tracks.now c.row_of_words.result) c.moof.view_is ∙ ap (run_of_row c.args.moof.now c.args.tracks.now) c.row_of_words.ensures))
