use Rattle.std.proofs.Common.{◌∙◌, ◌++◌, List, ℕ, ap, append_assoc}
use Rattle.mp4_boxes.specs.Listing.{box_line, indent}
use Rattle.mp4_boxes.proofs.ListingLemmas.{indented}
use Rattle.mp4_boxes.proofs.listing.BoxLineLine.push.Goals as goal

pub returns : goal.returns
returns c =
    let level = c.self.inside.level in
    let line = box_line c.self.inside.at c.self.inside.header.now in
    let block = c.args.block.now in
    rw (← c.self.view_is, c.push_box.ensures, c.truncate.ensures, c.push_bytes.ensures.text, c.len.ensures.len)
    (ap (λ (l : List ℕ). l ++ line) (indented block level c.self.invariant) ∙ append_assoc block (indent level) line)
