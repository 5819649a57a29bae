use Rattle.std.proofs.Common.{rules, arith, ◌≡◌, ◌∙◌, ◌+◌, [], ◌∷◌, ◌++◌, ap, sym, subst, length, List}
use Rattle.std.specs.List.{AllByRecursion}
use Rattle.mp4_pieces.specs.declared.piece.Piece.{Piece}
use Rattle.mp4_pieces.specs.Pieces.{IsPieceOf, pieces_of}
use Rattle.mp4_pieces.proofs.PieceLemmas.{pieces_are_of}
use Rattle.mp4_pieces.proofs.PlainLemmas.{plain_is}
use Rattle.mp4_machine.specs.Ends.{sent}
use Rattle.mp4_machine.specs.Puts.{HasFailed, HasPut}
use Rattle.mp4_machine.specs.Readings.{Effects, both, no_effects}
use Rattle.mp4_machine.proofs.PutLemmas.{HasFailed-longer, HasFailed-then, HasPut-none, HasPut-then}
use Rattle.mp4_machine.proofs.ReadingLemmas.{silent-both}
use Rattle.mp4_recut.specs.Splitting.{head_of, fragment_end_of}
use Rattle.mp4_recut.specs.Texts.{media_of}
use Rattle.mp4_recut.proofs.WholeLemmas.{all_put, emitted_piece, emitted_pieces, more_put, next_is}
use Rattle.mp4_recut.proofs.whole.put_by_row.Goals as goal
use Rattle.mp4_recut.proofs.whole.put_by_row.Goals.{In-Some}
use Rattle.mp4_recut.proofs.whole.put_by_row.Given.{Over}

pub loop-piece-init : goal.loop-piece-init
loop-piece-init g c =
    let cut = c.args.cut.now in
    let moof_bytes = c.args.moof_bytes.now in
    let run = c.args.run.now in
    let items : c.into_iter-piece-iterator.result ≡ pieces_of cut moof_bytes run = search rules in
    record {
      effects = no_effects;
      put = HasPut-none _ _ _;
      are = subst (AllByRecursion (IsPieceOf moof_bytes run)) (sym items) (pieces_are_of cut moof_bytes run);
      low = omega arith;
      few = ap (λ k. c.args.fragments.now + k) (ap length items);
      left = λ timescale. silent-both (emitted_pieces cut moof_bytes run timescale c.requires.plain c.args.start c.args.payload.now (c.args.fragments.now + 1) c.into_iter-piece-iterator.result)
          ∙ ap (emitted_pieces cut moof_bytes run timescale c.requires.plain c.args.start c.args.payload.now (c.args.fragments.now + 1)) items;
    }

-- the next piece
of : (g : Over) (c : In-Some g) → IsPieceOf c.args.moof_bytes.now c.args.run.now c.in-Some.piece
of g c = next_is c.args.moof_bytes.now c.args.run.now c.in-Some.piece c.next.new.self c.loop-piece.piece-iterator c.in-Some.ensures.steps c.loop-piece.invariant.are

pub put_piece-requires-clause-piece : goal.put_piece-requires-clause-piece
put_piece-requires-clause-piece g c =
    let of = of g (goal.at.put_piece-requires-clause-piece g c).In-Some in
    subst (λ (q : Piece). IsPieceOf c.args.moof_bytes.now c.args.run.now q) (sym (plain_is c.args.moof_bytes.now c.args.run.now c.in-Some.piece of)) of

pub returns-in-Err-clause-puts : goal.returns-in-Err-clause-puts
returns-in-Err-clause-puts g c = λ timescale.
    let moof_bytes = c.args.moof_bytes.now in
    let run = c.args.run.now in
    let p = c.in-Some.piece in
    let cut = c.args.cut.now in
    let start = c.args.start in
    let payload = c.args.payload.now in
    let n = c.loop-piece.fragments + 1 in
    let all = emitted_pieces cut moof_bytes run timescale c.requires.plain start payload (c.args.fragments.now + 1) (pieces_of cut moof_bytes run) in
    let rest = emitted_pieces cut moof_bytes run timescale c.requires.plain start payload (n + 1) c.next.new.self in
    let here = goal.at.returns-in-Err-clause-puts g c in
    let failed : HasFailed (sent g.W.Sink.contents g.W.Sink.has_failed c.loop-piece.w c.put_piece.new.w) c.loop-piece.out c.put_piece.new.out (head_of moof_bytes run p n ++ media_of start payload p) (fragment_end_of moof_bytes run p n ∷ []) =
    subst (λ (q : Piece). HasFailed (sent g.W.Sink.contents g.W.Sink.has_failed c.loop-piece.w c.put_piece.new.w) c.loop-piece.out c.put_piece.new.out (head_of moof_bytes run q n ++ media_of start payload q) (fragment_end_of moof_bytes run q n ∷ [])) (plain_is moof_bytes run p (of g here.In-Some)) c.in-Err.ensures in
    subst (λ (t : Effects). HasFailed (sent g.W.Sink.contents g.W.Sink.has_failed c.args.w.now c.put_piece.new.w) c.args.out.now c.put_piece.new.out t.text t.fragment_ends)
    (more_put cut moof_bytes run timescale c.requires.plain start payload n p c.next.new.self c.loop-piece.piece-iterator c.loop-piece.invariant.effects all c.in-Some.ensures.steps (c.loop-piece.invariant.left timescale))
    (HasFailed-longer rest.text rest.fragment_ends (HasFailed-then c.loop-piece.invariant.put failed))

pub loop-piece-preserved : goal.loop-piece-preserved
loop-piece-preserved g c =
    let moof_bytes = c.args.moof_bytes.now in
    let run = c.args.run.now in
    let p = c.in-Some.piece in
    let cut = c.args.cut.now in
    let start = c.args.start in
    let payload = c.args.payload.now in
    let n = c.loop-piece.fragments + 1 in
    let effects = c.loop-piece.invariant.effects in
    let here = goal.at.loop-piece-preserved g c in
    let put : HasPut (sent g.W.Sink.contents g.W.Sink.has_failed c.loop-piece.w c.put_piece.new.w) c.loop-piece.out c.put_piece.new.out (head_of moof_bytes run p n ++ media_of start payload p) (fragment_end_of moof_bytes run p n ∷ []) =
    subst (λ (q : Piece). HasPut (sent g.W.Sink.contents g.W.Sink.has_failed c.loop-piece.w c.put_piece.new.w) c.loop-piece.out c.put_piece.new.out (head_of moof_bytes run q n ++ media_of start payload q) (fragment_end_of moof_bytes run q n ∷ [])) (plain_is moof_bytes run p (of g here.In-Some)) c.in-Ok.ensures in
    record {
      effects = both effects (emitted_piece cut moof_bytes run 0 c.requires.plain start payload n p);
      put = HasPut-then c.loop-piece.invariant.put put;
      are = (subst (λ (xs : List Piece). AllByRecursion (IsPieceOf moof_bytes run) xs) c.in-Some.ensures.steps c.loop-piece.invariant.are).1;
      low = omega (arith, c.loop-piece.invariant.low);
      few = omega (arith, c.loop-piece.invariant.few, ap length c.in-Some.ensures.steps);
      left = λ timescale. more_put cut moof_bytes run timescale c.requires.plain start payload n p c.next.new.self c.loop-piece.piece-iterator effects
          (emitted_pieces cut moof_bytes run timescale c.requires.plain start payload (c.args.fragments.now + 1) (pieces_of cut moof_bytes run)) c.in-Some.ensures.steps (c.loop-piece.invariant.left timescale);
    }

pub returns-clause-puts : goal.returns-clause-puts
returns-clause-puts g c = λ timescale.
    let cut = c.args.cut.now in
    let moof_bytes = c.args.moof_bytes.now in
    let run = c.args.run.now in
    let start = c.args.start in
    let payload = c.args.payload.now in
    let all = emitted_pieces cut moof_bytes run timescale c.requires.plain start payload (c.args.fragments.now + 1) (pieces_of cut moof_bytes run) in
    subst (λ (t : Effects). HasPut (sent g.W.Sink.contents g.W.Sink.has_failed c.args.w.now c.loop-piece.w) c.args.out.now c.loop-piece.out t.text t.fragment_ends)
    (all_put cut moof_bytes run timescale c.requires.plain c.args.start c.args.payload.now (c.loop-piece.fragments + 1) c.loop-piece.piece-iterator c.loop-piece.invariant.effects all c.in-None.ensures.steps.0 (c.loop-piece.invariant.left timescale))
    c.loop-piece.invariant.put
