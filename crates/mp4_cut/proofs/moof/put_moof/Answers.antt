use Rattle.std.proofs.Common.{subst, sym}
use Rattle.mp4_machine.specs.Ends.{sent}
use Rattle.mp4_machine.specs.Puts.{Puts}
use Rattle.mp4_pieces.specs.declared.piece.Piece.{Piece}
use Rattle.mp4_pieces.specs.Pieces.{IsPieceOf}
use Rattle.mp4_pieces.proofs.PlainLemmas.{plain_is}
use Rattle.mp4_cut.specs.Moof.{written_moof}
use Rattle.mp4_cut.proofs.moof.put_moof.Goals as goal

pub put_plain_moof-requires-clause-piece : goal.put_plain_moof-requires-clause-piece
put_plain_moof-requires-clause-piece g c =
    let moof_bytes = c.args.moof_bytes.now in
    let run = c.args.run.now in
    subst (λ (p : Piece). IsPieceOf moof_bytes run p) (sym (plain_is moof_bytes run c.args.piece.now c.requires.piece)) c.requires.piece

pub returns : goal.returns
returns g c =
    let moof_bytes = c.args.moof_bytes.now in
    let run = c.args.run.now in
    subst (λ (p : Piece). Puts (sent g.W.Sink.contents g.W.Sink.has_failed c.args.w.now c.put_plain_moof.new.w) c.args.block.now c.put_plain_moof.new.block (written_moof p run moof_bytes c.args.sequence_number) c.put_plain_moof.result)
    (plain_is moof_bytes run c.args.piece.now c.requires.piece) c.put_plain_moof.ensures
