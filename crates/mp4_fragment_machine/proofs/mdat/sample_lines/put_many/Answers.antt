use Rattle.mp4_traf.specs.Cursors.{first_cursor}
use Rattle.mp4_traf.proofs.RowLemmas.{cursor_first}
use Rattle.mp4_traf.proofs.CursorLemmas.{cursor_has_room}
use Rattle.mp4_fragment_machine.proofs.mdat.sample_lines.put_many.Goals as goal

pub put_many_rows-requires : goal.put_many_rows-requires
put_many_rows-requires g c =
    let run = c.args.run.now in
    rw (c.first_cursor.ensures, c.rows.ensures) (cursor_has_room c.args.moof_bytes.now run (first_cursor run) c.requires (cursor_first run c.args.moof_bytes.now))
