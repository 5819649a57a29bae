use Rattle.std.proofs.Common.{arith, ◌≡◌, ◌≤◌, ◌^◌, ◌∙◌, ◌+◌, ap, refl, rules, sym, length}
use Rattle.mp4_cut.specs.Sidx.{natural}
use Rattle.mp4_pieces.specs.declared.piece.Piece.{Piece}
use Rattle.mp4_pieces.specs.PlainPieces.{plain_end}
use Rattle.mp4_recut.specs.Cursors.{left_in, pieces_ahead}
use Rattle.mp4_recut.specs.Splitting.{index_before, next_group, output_fragment, timescale_of}
use Rattle.mp4_recut.specs.declared.cursor.FragmentCursor.{FragmentCursor}
use Rattle.mp4_recut.proofs.CursorLemmas.{fragment_is, next_group-left, past_placed}
use Rattle.mp4_recut.proofs.next.next_fragment.Goals as goal
use Rattle.mp4_recut.proofs.next.next_fragment.Goals.{then-c-eq0, else-c-eq0}

pub put_first-requires : goal.put_first-requires
put_first-requires g c =
    let last : c.args.number + length (left_in c.args.cut.now c.args.moof.now c.args.tracks.now c.args.number c.seek.new.c) ≤ 2 ^ 32 = omega (arith, c.requires.number, ap length ((c.seek.ensures c.args.cut.now c.requires.at c.requires.cut).same c.if-not-seek.false c.args.number)) in
    let seeks = c.seek.ensures c.args.cut.now c.requires.at c.requires.cut in
    record { at = seeks.at c.if-not-seek.false; some = seeks.some c.if-not-seek.false; last = last }

pub returns-in-Err : goal.returns-in-Err
returns-in-Err g c =
    let cut = c.args.cut.now in
    let h = c.args.moof.now in
    let tracks = c.args.tracks.now in
    let at = c.seek.new.c in
    let puts = c.in-Err.ensures in
    let p = puts.piece in
    let d : FragmentCursor = record { index = at.index; run = at.run; at = plain_end p.plain; group = next_group at.group } in
    record {
      fragment = output_fragment (index_before cut at.run (timescale_of tracks at.run.track) at.group (pieces_ahead cut h at)) h.bytes at.run p c.args.number;
      later = left_in cut h tracks (c.args.number + 1) d;
      is = (c.seek.ensures c.args.cut.now c.requires.at c.requires.cut).same c.if-not-seek.false c.args.number ∙ fragment_is cut h tracks at p ((c.seek.ensures c.args.cut.now c.requires.at c.requires.cut).at c.if-not-seek.false) puts.first d refl refl refl refl c.args.number;
      front = puts.put;
    }

pub returns : goal.returns
returns g c =
    let cut = c.args.cut.now in
    let h = c.args.moof.now in
    let tracks = c.args.tracks.now in
    let at = c.seek.new.c in
    let puts = c.in-Ok.ensures in
    let p = puts.piece in
    let d : FragmentCursor = record { index = at.index; run = at.run; at = c.cursor_after-c.result; group = c.if-c-eq0.c } in
    let there : c.cursor_after-c.result ≡ plain_end p.plain = c.cursor_after-c.ensures ∙ ap (λ (x : Piece). plain_end x.plain) (sym puts.is) in
    let group : c.if-c-eq0.c ≡ next_group at.group =
    elim c.if-c-eq0.branch [
      | then-c-eq0 w ↦ w.c-is ∙ sym (ap next_group w.if-c-eq0.true)
      | else-c-eq0 w ↦ w.c-is ∙ next_group-left at.group (omega (arith, w.if-c-eq0.false))
    ] in
    record {
      fragment = output_fragment (index_before cut at.run (timescale_of tracks at.run.track) at.group (pieces_ahead cut h at)) h.bytes at.run p c.args.number;
      is = (c.seek.ensures c.args.cut.now c.requires.at c.requires.cut).same c.if-not-seek.false c.args.number ∙ fragment_is cut h tracks at p ((c.seek.ensures c.args.cut.now c.requires.at c.requires.cut).at c.if-not-seek.false) puts.first d refl refl there group c.args.number;
      put = puts.put;
      place = omega (arith, c.media_offset.ensures, ap (λ (x : Piece). natural x.plain.place) puts.is);
      len = sym (ap (λ (x : Piece). x.plain.bytes) puts.is);
      at = past_placed cut h tracks at p ((c.seek.ensures c.args.cut.now c.requires.at c.requires.cut).at c.if-not-seek.false) puts.first d refl refl there group puts.later;
    }
