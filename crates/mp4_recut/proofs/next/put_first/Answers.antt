use Rattle.std.proofs.Common.{rules, ◌≡◌, ◌∷◌, [], false, ap, arith, length, refl, subst}
use Rattle.mp4_machine.specs.Ends.{sent}
use Rattle.mp4_machine.specs.Puts.{HasFailed, HasPut}
use Rattle.mp4_pieces.specs.Pieces.{pieces_from}
use Rattle.mp4_pieces.specs.PlainPieces.{piece_of, plain_end}
use Rattle.mp4_pieces.proofs.PieceLemmas.{goes_on, piece_ends}
use Rattle.mp4_recut.specs.Cursors.{pieces_ahead}
use Rattle.mp4_recut.specs.OutputFragments.{OutputFragment}
use Rattle.mp4_recut.specs.Splitting.{next_group, timescale_of}
use Rattle.mp4_recut.specs.declared.cursor.FragmentCursor.{FragmentCursor}
use Rattle.mp4_recut.proofs.CursorLemmas.{fragment_is}
use Rattle.mp4_recut.proofs.HeadLemmas.{part_unindexed}
use Rattle.mp4_recut.proofs.next.put_first.Goals as goal

pub overflow_cast-number : goal.overflow_cast-number
overflow_cast-number g c =
    let cut = c.args.cut.now in
    let h = c.args.moof.now in
    let tracks = c.args.tracks.now in
    let at = c.args.c.now in
    let p = piece_of h.bytes at.run c.first-piece.result in
    let d : FragmentCursor = record { index = at.index; run = at.run; at = plain_end p.plain; group = next_group at.group } in
    let first = rw c.bytes.ensures.bytes at c.first-piece.ensures in
    omega (arith, c.requires.last, ap length (fragment_is cut h tracks at p c.requires.at first d refl refl refl refl c.args.number))

pub put_head-requires-clause-piece : goal.put_head-requires-clause-piece
put_head-requires-clause-piece g c =
    let cut = c.args.cut.now in
    let h = c.args.moof.now in
    let at = c.args.c.now in
    let p = piece_of h.bytes at.run c.first-piece.result in
    let first = rw c.bytes.ensures.bytes at c.first-piece.ensures in
    let goes = goes_on cut h.bytes at.run at.at p (pieces_from cut h.bytes at.run (plain_end c.first-piece.result)) c.requires.at.cursor first in
    rw c.bytes-2.ensures.bytes goes.piece

pub returns-in-Ok : goal.returns-in-Ok
returns-in-Ok g c =
    let cut = c.args.cut.now in
    let h = c.args.moof.now in
    let at = c.args.c.now in
    let p = piece_of h.bytes at.run c.first-piece.result in
    let first = rw c.bytes.ensures.bytes at c.first-piece.ensures in
    let goes = goes_on cut h.bytes at.run at.at p (pieces_from cut h.bytes at.run (plain_end c.first-piece.result)) c.requires.at.cursor first in
    let none : at.group ≡ 0 → cut.index ≡ false = search rules in
    record {
      piece = p;
      first = first;
      ends = piece_ends h.bytes at.run p c.requires.at.can.is goes.piece;
      later = goes.cursor;
      put =
          subst (λ (x : OutputFragment). HasPut (sent g.W.Sink.contents g.W.Sink.has_failed c.args.w.now c.put_head.new.w) c.args.out.now c.put_head.new.out x.head (x.mark ∷ [])) (part_unindexed cut h.bytes at.run (timescale_of c.args.tracks.now at.run.track) at.group (pieces_ahead cut h at) p c.args.number none)
          (rw c.bytes-2.ensures.bytes at c.in-Ok.ensures);
      is = refl;
    }

pub returns-in-Err : goal.returns-in-Err
returns-in-Err g c =
    let cut = c.args.cut.now in
    let h = c.args.moof.now in
    let at = c.args.c.now in
    let p = piece_of h.bytes at.run c.first-piece.result in
    let first = rw c.bytes.ensures.bytes at c.first-piece.ensures in
    let goes = goes_on cut h.bytes at.run at.at p (pieces_from cut h.bytes at.run (plain_end c.first-piece.result)) c.requires.at.cursor first in
    let none : at.group ≡ 0 → cut.index ≡ false = search rules in
    record {
      piece = p;
      first = first;
      ends = piece_ends h.bytes at.run p c.requires.at.can.is goes.piece;
      later = goes.cursor;
      put =
          subst (λ (x : OutputFragment). HasFailed (sent g.W.Sink.contents g.W.Sink.has_failed c.args.w.now c.put_head.new.w) c.args.out.now c.put_head.new.out x.head (x.mark ∷ [])) (part_unindexed cut h.bytes at.run (timescale_of c.args.tracks.now at.run.track) at.group (pieces_ahead cut h at) p c.args.number none)
          (rw c.bytes-2.ensures.bytes at c.in-Err.ensures);
      is = tt;
    }
