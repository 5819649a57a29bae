use Rattle.std.proofs.Common.{[], ◌∙◌}
use Rattle.mp4_machine.proofs.BlockLemmas.{Breaks-passed, Breaks-through, Passes-more, Passes-through}
use Rattle.mp4_machine.proofs.PutLemmas.{HasFailed-longer}
use Rattle.mp4_machine.proofs.block.Block.send_and_put.Goals as goal

pub returns-in-Err : goal.returns-in-Err
returns-in-Err g c = HasFailed-longer _ [] c.in-Err.ensures.puts

pub returns-in-Ok-write_front : goal.returns-in-Ok-write_front
returns-in-Ok-write_front g c = record {
  passes = Passes-more c.in-Ok.ensures.puts.passes (Passes-through _ _ _ _ c.in-Ok.ensures.sent.bytes c.in-Ok.ensures.sent.ends c.in-Ok-write_front.ensures.ok);
  unfailed = c.in-Ok-write_front.ensures.kept ∙ c.in-Ok.ensures.puts.unfailed;
}

pub returns-in-Err-write_front : goal.returns-in-Err-write_front
returns-in-Err-write_front g c =
    let short = c.in-Err-write_front.ensures.short in
    record {
      breaks = Breaks-passed _ _ c.in-Ok.ensures.puts.passes (Breaks-through _ _ _ _ _ c.in-Ok.ensures.sent.bytes c.in-Ok.ensures.sent.ends short.0 short.1);
      failed = c.in-Err-write_front.ensures.failed;
    }
