use Rattle.std.proofs.Common.{◌≡◌, ◌∙◌, ℕ, ap, length, subst, sym}
use Rattle.mp4_machine.specs.Ends.{sent}
use Rattle.mp4_machine.specs.Puts.{Puts}
use Rattle.mp4_fragment_machine.specs.States.{pending_fragment}
use Rattle.mp4_fragment_machine.specs.Implementation.TrafLines.{size_with}
use Rattle.mp4_fragment_machine.proofs.FragmentLineLemmas.{lines_are}
use Rattle.mp4_fragment_machine.proofs.mdat.list.put_pending.Goals as goal

pub put_moof_lines-requires : goal.put_moof_lines-requires
put_moof_lines-requires g c = rw c.moof.ensures c.requires.pending_moof.read

pub returns-in-Samples : goal.returns-in-Samples
returns-in-Samples g c = rw c.in-Samples.is c.put_runs.ensures

pub returns-in_default : goal.returns-in_default
returns-in_default g c =
    let w = c.args.pending_moof.now in
    let f = pending_fragment 1 w c.args.tracks.now c.args.header.now in
    let size : c.size_of-size.result ≡ size_with w.moof.at (length w.moof.bytes) c.args.header.now.size = c.size_of-size.ensures w.moof.at ∙ ap (λ (n : ℕ). size_with w.moof.at n c.args.header.now.size) (c.size.ensures ∙ sym c.requires.pending_moof.size) in
    subst (λ l. Puts (sent g.W.Sink.contents g.W.Sink.has_failed c.args.w.now c.put_moof_lines.new.w) c.args.out.now c.put_moof_lines.new.out l c.put_moof_lines.result) (lines_are c.args.command f _ c.in_default.not-Samples size) (rw c.moof.ensures at c.put_moof_lines.ensures)
