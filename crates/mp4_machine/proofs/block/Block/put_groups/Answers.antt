use Rattle.std.proofs.Common.{◌≡◌, ◌++◌, ◌∙◌, [], length, refl, ap, arith, length-append}
use Rattle.mp4_machine.specs.Blocks.{Pending}
use Rattle.mp4_machine.proofs.GroupLemmas.{all_wait, rest_waits}
use Rattle.mp4_machine.proofs.PutLemmas.{HasFailed-front, Puts-then, cut_on}
use Rattle.mp4_machine.proofs.block.Block.put_groups.Goals as goal

pub returns-in-Err-clause-puts : goal.returns-in-Err-clause-puts
returns-in-Err-clause-puts g c =
    let front = c.split_at.result.0.now in
    let rest = c.split_at.result.1.now in
    HasFailed-front front rest c.args.groups.now
    (cut_on _ [] c.args.groups.now front rest c.args.groups.now c.split_at.ensures.front c.split_at.ensures.back refl)
    c.in-Err.ensures.puts

pub returns-clause-puts : goal.returns-clause-puts
returns-clause-puts g c =
    let front = c.split_at.result.0.now in
    let rest = c.split_at.result.1.now in
    Puts-then c.in-Ok.ensures.puts _ _ _ rest c.args.groups.now
    (cut_on _ [] c.args.groups.now front rest c.args.groups.now c.split_at.ensures.front c.split_at.ensures.back refl)
    c.put_by_blocks.result c.put_by_blocks.ensures.puts

pub returns-then-groups-room-clause-waits : goal.returns-then-groups-room-clause-waits
returns-then-groups-room-clause-waits g c = λ count all.
    let n = length c.args.self.now.bytes in
    let is : c.len.result ≡ n = c.len.ensures.len ∙ ap (λ (v : Pending). length v.bytes) c.self.view_is in
    let bytes : c.gather.new.self.bytes ≡ c.args.self.now.bytes ++ c.args.groups.now = ap (λ (v : Pending). v.bytes) c.gather.ensures in
    let wait = all_wait count n (omega (arith, c.if-groups-room.true, c.len.ensures.within, is, all)) in
    omega (arith, ap length bytes, length-append c.args.self.now.bytes c.args.groups.now, all, wait)

pub returns-clause-waits : goal.returns-clause-waits
returns-clause-waits g c = λ count all.
    let n = length c.args.self.now.bytes in
    let is : c.len.result ≡ n = c.len.ensures.len ∙ ap (λ (v : Pending). length v.bytes) c.self.view_is in
    let rest = rest_waits n _ count c.args.groups.now c.split_at.result.1.now (omega (arith, is, c.len.ensures.within)) (omega (arith, is)) (omega (arith, c.if-groups-room.false)) c.split_at.ensures.back (omega (arith, all)) in
    rw rest.1 (c.put_by_blocks.ensures.waits _ (omega (arith, rest.0)))
