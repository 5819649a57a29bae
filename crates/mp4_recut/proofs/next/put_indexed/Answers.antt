use Rattle.std.proofs.Common.{◌≡◌, ◌∷◌, [], ap, arith, length, refl, subst, sym}
use Rattle.mp4_machine.specs.Ends.{sent}
use Rattle.mp4_machine.specs.Puts.{HasFailed}
use Rattle.mp4_machine.proofs.PutLemmas.{HasFailed-longer, PutsMarked-then}
use Rattle.mp4_pieces.specs.declared.piece.Piece.{Piece}
use Rattle.mp4_pieces.specs.Pieces.{IsPieceOf, pieces_from}
use Rattle.mp4_pieces.specs.PlainPieces.{piece_of, plain_end}
use Rattle.mp4_pieces.proofs.PlainLemmas.{plain_is}
use Rattle.mp4_recut.specs.Cursors.{pieces_ahead}
use Rattle.mp4_recut.specs.Media.{PutsFragment}
use Rattle.mp4_recut.specs.OutputFragments.{OutputFragment}
use Rattle.mp4_recut.specs.Splitting.{head_of, fragment_end_of, index_before, next_group, output_fragment, timescale_of}
use Rattle.mp4_recut.specs.declared.cursor.FragmentCursor.{FragmentCursor}
use Rattle.mp4_recut.proofs.CursorLemmas.{fragment_is}
use Rattle.mp4_recut.proofs.HeadLemmas.{index_before_group}
use Rattle.mp4_recut.proofs.next.put_indexed.Goals as goal
use Rattle.mp4_recut.proofs.next.put_indexed.Goals.{After-first_piece-first, After-put_head}
use Rattle.mp4_recut.proofs.next.put_indexed.Given.{Over}

pub returns-in-Err : goal.returns-in-Err
returns-in-Err g c =
    let cut = c.args.cut.now in
    let h = c.args.moof.now in
    let tracks = c.args.tracks.now in
    let at = c.args.c.now in
    let run = at.run in
    let p = c.first_piece-first.result in
    let was = rw c.bytes.ensures.bytes at c.first_piece-first.ensures in
    let scale = timescale_of tracks run.track in
    let ahead = pieces_ahead cut h at in
    let before = index_before_group cut run scale at.group ahead c.requires.group in
    record {
      piece = p;
      first = was.first;
      ends = was.ends;
      later = was.later;
      put =
          subst (λ (x : OutputFragment). HasFailed (sent g.W.Sink.contents g.W.Sink.has_failed c.args.w.now c.put_group.new.w) c.args.out.now c.put_group.new.out x.head (x.mark ∷ [])) (ap (λ i. output_fragment i h.bytes run p c.args.number) before)
          (HasFailed-longer (head_of h.bytes run p c.args.number) (fragment_end_of h.bytes run p c.args.number ∷ []) c.in-Err.ensures);
      is = tt;
    }

pub overflow_cast-number : goal.overflow_cast-number
overflow_cast-number g c =
    let cut = c.args.cut.now in
    let h = c.args.moof.now in
    let tracks = c.args.tracks.now in
    let at = c.args.c.now in
    let run = at.run in
    let p = c.first_piece-first.result in
    let was = rw c.bytes.ensures.bytes at c.first_piece-first.ensures in
    let d : FragmentCursor = record { index = at.index; run = run; at = plain_end p.plain; group = next_group at.group } in
    omega (arith, c.requires.begins.last, ap length (fragment_is cut h tracks at p c.requires.begins.at was.first d refl refl refl refl c.args.number))

-- the piece, as it is put
same : (g : Over) (c : After-first_piece-first g) → c.first_piece-first.result ≡ piece_of c.args.moof.now.bytes c.args.c.now.run c.first_piece-first.result.plain
same g c =
    let was = rw c.bytes.ensures.bytes at c.first_piece-first.ensures in
    sym (plain_is c.args.moof.now.bytes c.args.c.now.run c.first_piece-first.result was.piece)

put : (g : Over) (c : After-put_head g) → let cut = c.args.cut.now in let h = c.args.moof.now in let at = c.args.c.now in let q = piece_of h.bytes at.run c.first_piece-first.result.plain in
    PutsFragment (sent g.W.Sink.contents g.W.Sink.has_failed c.args.w.now c.put_head.new.w) c.args.out.now c.put_head.new.out
    (output_fragment (index_before cut at.run (timescale_of c.args.tracks.now at.run.track) at.group (pieces_ahead cut h at)) h.bytes at.run q c.args.number) c.put_head.result
put g c =
    let cut = c.args.cut.now in
    let h = c.args.moof.now in
    let at = c.args.c.now in
    let run = at.run in
    let q = piece_of h.bytes run c.first_piece-first.result.plain in
    let before = index_before_group cut run (timescale_of c.args.tracks.now run.track) at.group (pieces_ahead cut h at) c.requires.group in
    subst (λ (x : OutputFragment). PutsFragment (sent g.W.Sink.contents g.W.Sink.has_failed c.args.w.now c.put_head.new.w) c.args.out.now c.put_head.new.out x c.put_head.result) (ap (λ i. output_fragment i h.bytes run q c.args.number) before)
    (PutsMarked-then c.in-Ok.ensures _ _ _ (head_of h.bytes run q c.args.number) (fragment_end_of h.bytes run q c.args.number ∷ []) c.put_head.result (rw c.bytes-2.ensures.bytes at c.put_head.ensures))

pub put_head-requires-clause-piece : goal.put_head-requires-clause-piece
put_head-requires-clause-piece g c =
    let was = rw c.bytes.ensures.bytes at c.first_piece-first.ensures in
    rw c.bytes-2.ensures.bytes (subst (λ (x : Piece). IsPieceOf c.args.moof.now.bytes c.args.c.now.run x) (same g (goal.at.put_head-requires-clause-piece g c).After-first_piece-first) was.piece)

pub returns-in-Ok-put_head : goal.returns-in-Ok-put_head
returns-in-Ok-put_head g c =
    let cut = c.args.cut.now in
    let h = c.args.moof.now in
    let at = c.args.c.now in
    let was = rw c.bytes.ensures.bytes at c.first_piece-first.ensures in
    let here = goal.at.returns-in-Ok-put_head g c in
    let same = same g here.After-first_piece-first in
    record {
      piece = piece_of h.bytes at.run c.first_piece-first.result.plain;
      first = subst (λ (x : Piece). pieces_ahead cut h at ≡ x ∷ pieces_from cut h.bytes at.run (plain_end x.plain)) same was.first;
      ends = was.ends;
      later = was.later;
      put = rw c.in-Ok-put_head.is at (put g here.After-put_head);
      is = refl;
    }

pub returns-in-Err-put_head : goal.returns-in-Err-put_head
returns-in-Err-put_head g c =
    let cut = c.args.cut.now in
    let h = c.args.moof.now in
    let at = c.args.c.now in
    let was = rw c.bytes.ensures.bytes at c.first_piece-first.ensures in
    let here = goal.at.returns-in-Err-put_head g c in
    let same = same g here.After-first_piece-first in
    record {
      piece = piece_of h.bytes at.run c.first_piece-first.result.plain;
      first = subst (λ (x : Piece). pieces_ahead cut h at ≡ x ∷ pieces_from cut h.bytes at.run (plain_end x.plain)) same was.first;
      ends = was.ends;
      later = was.later;
      put = rw c.in-Err-put_head.is at (put g here.After-put_head);
      is = tt;
    }
