use Rattle.std.proofs.Common.{subst}
use Rattle.mp4_machine.specs.Ends.{sent}
use Rattle.mp4_machine.specs.Puts.{Puts}
use Rattle.mp4_fragment_machine.proofs.mdat.traf_lines.put_single_traf.Goals as goal

pub returns : goal.returns
returns g c =
    subst (λ l. Puts (sent g.W.Sink.contents g.W.Sink.has_failed c.args.w.now c.put_traf.new.w) c.args.out.now c.put_traf.new.out l c.put_traf.result) (c.single_traf-traf.ensures c.args.command c.requires.single_run) c.put_traf.ensures
