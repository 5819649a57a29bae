use Rattle.std.proofs.Common.{rules}
use Rattle.mp4_box.proofs.HeaderLemmas.{same_number}
use Rattle.mp4_box.proofs.headers.FourCc.is.Goals as goal

pub returns : goal.returns
returns c = same_number c.args.self.0 c.args.kind.0 _ _ (search rules) (search rules) (λ i. search rules) (λ i. search rules) (c.from_be_bytes.ensures) (c.from_be_bytes-2.ensures)
