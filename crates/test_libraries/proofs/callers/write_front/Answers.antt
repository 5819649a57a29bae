use Rattle.std.proofs.Common.{◌++◌, refl}
use Rattle.mp4_ends.proofs.StreamLemmas.{AppendsPrefix-longer, AppendsPrefix-more}
use Rattle.mp4_cut.specs.Mdat.{mdat_header}
use Rattle.mp4_cut.specs.Moof.{written_moof}
use Rattle.test_libraries.proofs.callers.write_front.Goals as goal

pub returns-in-Err : goal.returns-in-Err
returns-in-Err g c =
    let moof = written_moof c.args.piece.now c.args.run.now c.args.held.now c.args.sequence_number in
    let header = mdat_header c.args.piece.now.plain.bytes in
    record {
      prefix = AppendsPrefix-longer (g.W.Sink.contents c.args.w.now) (g.W.Sink.contents c.write_moof.new.w) moof header (moof ++ header) c.in-Err.ensures.prefix refl;
      failed = c.in-Err.ensures.failed;
    }

pub returns-in-Err-write_mdat_header : goal.returns-in-Err-write_mdat_header
returns-in-Err-write_mdat_header g c =
    let moof = written_moof c.args.piece.now c.args.run.now c.args.held.now c.args.sequence_number in
    let header = mdat_header c.args.piece.now.plain.bytes in
    record {
      prefix = AppendsPrefix-more (g.W.Sink.contents c.args.w.now) (g.W.Sink.contents c.write_moof.new.w) (g.W.Sink.contents c.write_mdat_header.new.w) moof header c.in-Ok.ensures.appends c.in-Err-write_mdat_header.ensures.prefix;
      failed = c.in-Err-write_mdat_header.ensures.failed;
    }
