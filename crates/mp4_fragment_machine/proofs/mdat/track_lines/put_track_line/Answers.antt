use Rattle.std.proofs.Common.{◌++◌, ap, true}
use Rattle.mp4_box.specs.Trees.{view}
use Rattle.mp4_machine.proofs.PutLemmas.{HasFailed-front, Puts-then}
use Rattle.mp4_grammar.specs.TrackLines.{kinds_of, track_front, track_line, types_text}
use Rattle.mp4_fragment_machine.proofs.mdat.track_lines.put_track_line.Goals as goal

pub returns-in-Err : goal.returns-in-Err
returns-in-Err g c =
    let rest = types_text true (kinds_of (view c.args.trak.now)) in
    HasFailed-front (track_front c.of.result) rest (track_line c.args.track.now (view c.args.trak.now)) (ap (λ t. track_front t ++ rest) c.of.ensures) c.in-Err.ensures.puts

pub returns : goal.returns
returns g c =
    let rest = types_text true (kinds_of (view c.args.trak.now)) in
    Puts-then c.in-Ok.ensures.puts _ _ _ rest (track_line c.args.track.now (view c.args.trak.now)) (ap (λ t. track_front t ++ rest) c.of.ensures) c.put_types.result c.put_types.ensures
