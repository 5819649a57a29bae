use Rattle.std.proofs.Common.{◌∙◌, Some, ap, sym}
use Rattle.mp4_machine.proofs.HoldingLemmas.{found}
use Rattle.mp4_boxes.proofs.EmptyLemmas.{no_payload}
use Rattle.mp4_boxes.proofs.listed_box.list_whole.Goals as goal

pub returns-then-header-bytes : goal.returns-then-header-bytes
returns-then-header-bytes g c = λ buffered a came.
    let h = c.args.header.now in
    let none = no_payload h.header_len c.args.bytes.now c.if-header-bytes.true in
    c.list_empty.ensures buffered a (record { is = came.is ∙ ap (λ p. Some (record { header = h; offset = c.args.at; payload = p })) none; len = came.len; claim = came.claim })

pub whole_held-requires-clause-begins : goal.whole_held-requires-clause-begins
whole_held-requires-clause-begins g c = (c.args.header.now, c.requires.is, c.requires.size)

pub returns : goal.returns
returns g c = λ buffered a came.
    let box = found c.args.at c.args.bytes.now c.args.header.now c.requires.is c.requires.size in
    c.list_box.ensures buffered a (record { is = came.is ∙ sym box ∙ c.whole_held.ensures; len = came.len; claim = came.claim })
