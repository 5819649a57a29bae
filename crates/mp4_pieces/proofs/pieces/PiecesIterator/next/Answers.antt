use Rattle.std.proofs.Common.{◌∷◌, subst, sym, rules}
use Rattle.mp4_traf.specs.SyncSamples.{is_sync}
use Rattle.mp4_traf.specs.declared.rows.Cursor.{Cursor}
use Rattle.mp4_pieces.specs.declared.piece.Piece.{Piece}
use Rattle.mp4_pieces.specs.Implementation.Growing.{Grows, pieces_left}
use Rattle.mp4_traf.specs.Cursors.{HasRoom}
use Rattle.mp4_pieces.proofs.GrowLemmas.{after_has_room, opened_grows}
use Rattle.mp4_pieces.proofs.pieces.PiecesIterator.next.Goals as goal
use Rattle.mp4_pieces.proofs.pieces.PiecesIterator.next.Goals.{in-Some, in-None+in_ok-first-in-None}

pub fill-filled-requires : goal.fill-filled-requires
fill-filled-requires c =
    let at = c.match-take.self-inside.at in
    let rest = c.match-take.self-inside.rows in
    let room : HasRoom at (c.match-take.first ∷ rest) = elim c.match-take.branch [
      | in-Some w ↦ search rules
      | in-None+in_ok-first-in-None w ↦ search rules
    ] in
    subst (λ (p : Piece). Grows p rest) (sym c.opened-begun.ensures) (opened_grows at c.match-take.first rest room)

pub fill_counted-piece-requires-clause-grows : goal.fill_counted-piece-requires-clause-grows
fill_counted-piece-requires-clause-grows c =
    let at = c.match-take.self-inside.at in
    let rest = c.match-take.self-inside.rows in
    let room : HasRoom at (c.match-take.first ∷ rest) = elim c.match-take.branch [
      | in-Some w ↦ search rules
      | in-None+in_ok-first-in-None w ↦ search rules
    ] in
    subst (λ (p : Piece). Grows p rest) (sym c.opened-begun.ensures) (opened_grows at c.match-take.first rest room)

pub invariant_of-self-then-self : goal.invariant_of-self-then-self
invariant_of-self-then-self c =
    let rest = c.fill_counted-piece.new.rows in
    subst (λ (at : Cursor). HasRoom at rest) (sym c.cursor_after-self-inside.ensures) (after_has_room c.fill_counted-piece.result rest c.fill_counted-piece.ensures.grows)

pub returns-then-self-clause-steps : goal.returns-then-self-clause-steps
unfolding pieces_left
returns-then-self-clause-steps c =
    let filled = c.fill_counted-piece.ensures.pieces (is_sync c.match-take.first.flags) in
    elim c.match-take.branch [
      | in-Some w ↦ search rules
      | in-None+in_ok-first-in-None w ↦ search rules
    ]

pub returns-then-self-clause-goes : goal.returns-then-self-clause-goes
unfolding pieces_left
returns-then-self-clause-goes c =
    let filled = c.fill_counted-piece.ensures.pieces (is_sync c.match-take.first.flags) in
    elim c.match-take.branch [
      | in-Some w ↦ search rules
      | in-None+in_ok-first-in-None w ↦ search rules
    ]
