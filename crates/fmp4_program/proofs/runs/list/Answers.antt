use Rattle.std.proofs.Common.{Err, Ok, refl}
use Rattle.fmp4_program.proofs.FlushLemmas.{flushes, listing-kept}
use Rattle.fmp4_program.proofs.runs.list.Goals as goal

pub returns-in-Ok : goal.returns-in-Ok
returns-in-Ok g c =
    let did = rw c.new-ledger.ensures at c.in-Ok.ensures in
    record {
      ran = Ok tt;
      failed = g.W.Sink.has_failed c.write_listing.new.w;
      peak = c.write_listing.new.ledger.peak;
      runs = listing-kept c.args.listing _ _ _ did.runs c.flush.ensures.bytes;
      within = did.within;
      flushed = flushes _ _ c.flush.result c.flush.ensures.ok c.flush.ensures.err;
    }

pub returns-in-Err : goal.returns-in-Err
returns-in-Err g c =
    let did = rw c.new-ledger.ensures at c.in-Err.ensures in
    record {
      ran = Err c.in-Err.stop;
      failed = g.W.Sink.has_failed c.write_listing.new.w;
      peak = c.write_listing.new.ledger.peak;
      runs = did.runs;
      within = did.within;
      flushed = (refl, refl);
    }
