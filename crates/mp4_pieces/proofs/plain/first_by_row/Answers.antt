use Rattle.std.proofs.Common.{◌∙◌, sym}
use Rattle.std.proofs.lemmas.Bool.{some_since}
use Rattle.std.proofs.lemmas.Option.{MatchOption-at_some}
use Rattle.mp4_pieces.proofs.PlainLemmas.{plain_first, some_first}
use Rattle.mp4_pieces.proofs.plain.first_by_row.Goals as goal

pub unwrap-piece-requires : goal.unwrap-piece-requires
unwrap-piece-requires c = some_since _ _ _ c.next.ensures.steps (λ none. some_first c.args.cut.now c.args.moof_bytes.now c.args.run.now c.args.at.now c.requires.some (sym c.at.ensures ∙ none.0))

pub returns : goal.returns
returns c = plain_first c.args.cut.now c.args.moof_bytes.now c.args.run.now c.args.at.now c.unwrap-piece.result c.next.new.self c.requires.cursor (sym c.at.ensures ∙ MatchOption-at_some _ _ c.unwrap-piece.result c.unwrap-piece.ensures c.next.ensures.steps)
