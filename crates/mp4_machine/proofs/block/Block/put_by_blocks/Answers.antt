use Rattle.std.proofs.Common.{◌≡◌, ◌+◌, ◌-◌, ◌*◌, ◌<◌, ◌∙◌, ◌++◌, length, [], refl, ap, arith, length-append}
use Rattle.mp4_machine.specs.Blocks.{Pending}
use Rattle.mp4_machine.specs.Groups.{waiting_after}
use Rattle.mp4_machine.proofs.GroupLemmas.{all_wait, block_sent, length_later}
use Rattle.mp4_machine.proofs.PutLemmas.{HasFailed-front, HasFailed-then, HasPut-none, HasPut-then, cut_on}
use Rattle.mp4_machine.proofs.block.Block.put_by_blocks.Goals as goal

pub returns-in-Err-clause-puts : goal.returns-in-Err-clause-puts
returns-in-Err-clause-puts g c =
    let at = c.loop-rest.invariant in
    let front = c.split_at.result.0.now in
    let later = c.split_at.result.1.now in
    HasFailed-front (at.text ++ front) later c.args.bytes.now
    (cut_on 16384 at.text c.loop-rest.rest.now front later c.args.bytes.now c.split_at.ensures.front c.split_at.ensures.back at.left)
    (HasFailed-then at.put c.in-Err.ensures.puts)

pub loop-rest-preserved : goal.loop-rest-preserved
loop-rest-preserved g c =
    let at = c.loop-rest.invariant in
    let front = c.split_at.result.0.now in
    let later = c.split_at.result.1.now in
    let less = length_later 16384 c.loop-rest.rest.now later c.split_at.ensures.back (omega (arith, c.loop-rest-test.true)) in
    record {
      text = at.text ++ front;
      put = HasPut-then at.put c.in-Ok.ensures.puts;
      left = cut_on 16384 at.text c.loop-rest.rest.now front later c.args.bytes.now c.split_at.ensures.front c.split_at.ensures.back at.left;
      empty = c.in-Ok.ensures.sent.bytes;
      rounds = at.rounds + 1;
      long = omega (arith, at.long, less);
      waits = λ count groups all left.
          let before : length c.loop-rest.rest.now ≡ 16 * (groups + 1024) = omega (arith, left, less) in
          let some : 0 < groups = omega (arith, left, less, c.loop-rest-test.true) in
          at.waits count (groups + 1024) all before ∙ block_sent 0 1024 (groups + 1024) groups (omega arith) (omega arith) (omega arith) some;
    }

pub returns-clause-waits : goal.returns-clause-waits
returns-clause-waits g c = λ count all.
    let at = c.loop-rest.invariant in
    let groups = count - 1024 * at.rounds in
    let left : length c.loop-rest.rest.now ≡ 16 * groups = omega (arith, all, at.long) in
    let few = c.loop-rest-test.false in
    let wait : waiting_after 0 groups ≡ 0 + 16 * groups = all_wait groups 0 (omega (arith, left, few)) in
    let bytes : c.gather.new.self.bytes ≡ c.loop-rest.self.bytes ++ c.loop-rest.rest.now = ap (λ (v : Pending). v.bytes) c.gather.ensures in
    omega (arith, ap length bytes, length-append c.loop-rest.self.bytes c.loop-rest.rest.now, ap length at.empty, left, wait, at.waits count groups all left)

pub loop-rest-init : goal.loop-rest-init
loop-rest-init g c = record {
  text = [];
  put = HasPut-none _ _ _;
  left = refl;
  empty = c.requires;
  rounds = 0;
  long = omega arith;
  waits = λ count groups all left. let same : count ≡ groups = omega (arith, all, left) in ap (waiting_after 0) same;
}
