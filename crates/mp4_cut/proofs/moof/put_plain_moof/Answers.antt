use Rattle.std.proofs.Common.{rules, arith, ◌≡◌, ◌++◌, ◌∙◌, sym, ap, subst, List, ℕ}
use Rattle.std.specs.Prelude.{take}
use Rattle.std.specs.List.{flat_map}
use Rattle.mp4_traf.specs.declared.rows.Cursor.{Cursor}
use Rattle.mp4_traf.specs.Rows.{IsCursor, row_of}
use Rattle.mp4_pieces.specs.Pieces.{rows_in}
use Rattle.mp4_pieces.specs.PlainPieces.{piece_of}
use Rattle.mp4_cut.specs.Moof.{written_moof}
use Rattle.mp4_cut.specs.Trun.{sample_bytes}
use Rattle.mp4_cut.proofs.PieceLemmas.{front_is, moof_is_put, one_sample, start_is}
use Rattle.mp4_machine.proofs.PutLemmas.{HasFailed-front, Puts-then}
use Rattle.mp4_cut.proofs.moof.put_plain_moof.Goals as goal

pub rows_from-rows-requires : goal.rows_from-rows-requires
rows_from-rows-requires g c =
    record { cursor = subst (λ (at : Cursor). IsCursor c.args.run.now c.args.moof_bytes.now at) (sym c.cursor.ensures) (start_is c.args.moof_bytes.now c.args.run.now (piece_of c.args.moof_bytes.now c.args.run.now c.args.piece.now) c.requires.piece) }

pub returns-in-Err : goal.returns-in-Err
returns-in-Err g c =
    let samples = flat_map sample_bytes (rows_in c.args.moof_bytes.now c.args.run.now (piece_of c.args.moof_bytes.now c.args.run.now c.args.piece.now)) in
    let moof = written_moof (piece_of c.args.moof_bytes.now c.args.run.now c.args.piece.now) c.args.run.now c.args.moof_bytes.now c.args.sequence_number in
    HasFailed-front c.whole-front.result samples moof
    (ap (λ (x : List ℕ). x ++ samples) (c.whole-front.ensures ∙ c.moof_front.ensures.bytes) ∙ sym (front_is c.args.moof_bytes.now c.args.run.now c.args.piece.now c.args.sequence_number c.requires.piece))
    c.in-Err.ensures.puts

pub returns-then-piece-eq1 : goal.returns-then-piece-eq1
returns-then-piece-eq1 g c =
    let moof_bytes = c.args.moof_bytes.now in
    let run = c.args.run.now in
    let piece = c.args.piece.now in
    let front = c.whole-front.result in
    let samples = flat_map sample_bytes (rows_in moof_bytes run (piece_of moof_bytes run piece)) in
    let moof = written_moof (piece_of moof_bytes run piece) run moof_bytes c.args.sequence_number in
    let one : piece.count ≡ 1 = c.if-piece-eq1.true in
    let same : c.sample_bytes.result ≡ samples = c.sample_bytes.ensures ∙ one_sample moof_bytes run piece c.row.result c.requires.piece one (c.row.ensures ∙ ap (row_of run moof_bytes) (omega arith)) in
    let whole = ap (λ (x : List ℕ). front ++ x) same
    ∙ (ap (λ (x : List ℕ). x ++ samples) (c.whole-front.ensures ∙ c.moof_front.ensures.bytes) ∙ sym (front_is moof_bytes run piece c.args.sequence_number c.requires.piece)) in
    Puts-then c.in-Ok.ensures.puts _ _ _ c.sample_bytes.result moof whole c.put_array-then-piece-eq1.result c.put_array-then-piece-eq1.ensures.puts

pub returns-in-Some : goal.returns-in-Some
returns-in-Some g c =
    let front = c.whole-front.result in
    let samples = flat_map sample_bytes (rows_in c.args.moof_bytes.now c.args.run.now (piece_of c.args.moof_bytes.now c.args.run.now c.args.piece.now)) in
    let moof = written_moof (piece_of c.args.moof_bytes.now c.args.run.now c.args.piece.now) c.args.run.now c.args.moof_bytes.now c.args.sequence_number in
    let same : c.in-Some.groups.now ≡ samples = search rules in
    let whole = ap (λ (x : List ℕ). front ++ x) same
    ∙ (ap (λ (x : List ℕ). x ++ samples) (c.whole-front.ensures ∙ c.moof_front.ensures.bytes) ∙ sym (front_is c.args.moof_bytes.now c.args.run.now c.args.piece.now c.args.sequence_number c.requires.piece)) in
    Puts-then c.in-Ok.ensures.puts _ _ _ c.in-Some.groups.now moof whole c.put_groups.result c.put_groups.ensures.puts

pub returns : goal.returns
returns g c =
    let moof = written_moof (piece_of c.args.moof_bytes.now c.args.run.now c.args.piece.now) c.args.run.now c.args.moof_bytes.now c.args.sequence_number in
    let samples = flat_map sample_bytes (take c.args.piece.now.count c.rows_from-rows.result) in
    let whole = moof_is_put c.args.moof_bytes.now c.args.run.now c.args.piece.now c.args.sequence_number c.whole-front.result c.moof_front.result c.cursor.result c.rows_from-rows.result
    c.requires.piece c.whole-front.ensures c.moof_front.ensures.bytes c.cursor.ensures c.rows_from-rows.ensures in
    Puts-then c.in-Ok.ensures.puts _ _ _ samples moof whole c.put_samples.result c.put_samples.ensures
