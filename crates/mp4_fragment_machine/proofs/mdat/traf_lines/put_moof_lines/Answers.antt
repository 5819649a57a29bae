use Rattle.std.proofs.Common.{[], subst, sym}
use Rattle.mp4_machine.specs.Ends.{sent}
use Rattle.mp4_machine.specs.Puts.{HasPut}
use Rattle.mp4_machine.proofs.PutLemmas.{HasPut-none}
use Rattle.mp4_fragment_machine.proofs.FragmentLineLemmas.{no_lines}
use Rattle.mp4_fragment_machine.proofs.mdat.traf_lines.put_moof_lines.Goals as goal

pub returns-in-Check : goal.returns-in-Check
returns-in-Check g c =
    subst (λ l. HasPut (sent g.W.Sink.contents g.W.Sink.has_failed c.args.w.now c.args.w.now) c.args.out.now c.args.out.now l []) (sym (no_lines c.args.command c.args.moof.now c.args.tracks.now c.args.size c.in-Check.is)) (HasPut-none _ _ _)
