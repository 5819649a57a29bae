use Rattle.mp4_machine.proofs.PutLemmas.{HasFailedIn-put, HasFailedIn-sent, HasWritten-sent}
use Rattle.mp4_cut.proofs.mdat.write_mdat_header.Goals as goal

pub returns-in-Err : goal.returns-in-Err
returns-in-Err g c = HasFailedIn-put c.new-block.ensures c.in-Err.ensures

pub returns-in-Ok-send : goal.returns-in-Ok-send
returns-in-Ok-send g c = HasWritten-sent c.new-block.ensures c.in-Ok.ensures c.in-Ok-send.ensures.puts c.in-Ok-send.ensures.sent

pub returns-in-Err-send : goal.returns-in-Err-send
returns-in-Err-send g c = HasFailedIn-sent c.new-block.ensures c.in-Ok.ensures c.in-Err-send.ensures.puts
