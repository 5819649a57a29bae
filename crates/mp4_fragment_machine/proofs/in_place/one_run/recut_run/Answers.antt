use Rattle.std.proofs.Common.{arith}
use Rattle.mp4_pieces.proofs.RoomLemmas.{few_pieces}
use Rattle.mp4_fragment_machine.proofs.FragmentLemmas.{boxes_fit, media_fits, run_is}
use Rattle.mp4_fragment_machine.proofs.in_place.one_run.recut_run.Goals as goal

pub overflow_add-start-2 : goal.overflow_add-start-2
overflow_add-start-2 g c =
    let fit = boxes_fit c.args.at c.args.input.now c.args.boxes.now c.requires.is.1.boxes in
    omega (arith, fit.header_len, fit.near)

pub put_run-requires-clause-run : goal.put_run-requires-clause-run
put_run-requires-clause-run g c = run_is c.args.at c.requires.is.0 c.args.input.now c.args.boxes.now c.args.single_run.now c.requires.is.1

pub put_run-requires-clause-small : goal.put_run-requires-clause-small
put_run-requires-clause-small g c =
    omega (arith, media_fits c.args.at c.requires.is.0 c.args.input.now c.args.boxes.now c.args.single_run.now c.requires.is.1, c.requires.is.1.boxes.mdat.near)

pub put_run-requires-clause-numbers : goal.put_run-requires-clause-numbers
put_run-requires-clause-numbers g c =
    rw (c.count_samples.ensures, c.inspect.ensures) (omega (arith, few_pieces c.args.cut.now c.args.boxes.now.moof.now c.args.single_run.now.run, c.requires.numbers))

pub split_at-requires-2 : goal.split_at-requires-2
split_at-requires-2 g c =
    let fit = boxes_fit c.args.at c.args.input.now c.args.boxes.now c.requires.is.1.boxes in
    omega (arith, fit.header_len, fit.whole, c.split_at.ensures.back_len)

pub overflow_sub-mdat : goal.overflow_sub-mdat
overflow_sub-mdat g c = (boxes_fit c.args.at c.args.input.now c.args.boxes.now c.requires.is.1.boxes).header_len

pub returns-in-Ok-clause-puts : goal.returns-in-Ok-clause-puts
returns-in-Ok-clause-puts g c = λ timescale. rw (c.count_samples.ensures, c.inspect.ensures, c.split_at-3.ensures.front, c.split_at-2.ensures.back, c.split_at.ensures.back) at c.in-Ok.ensures.puts timescale

pub returns-in-Err-clause-puts : goal.returns-in-Err-clause-puts
returns-in-Err-clause-puts g c = λ timescale. rw (c.count_samples.ensures, c.inspect.ensures, c.split_at-3.ensures.front, c.split_at-2.ensures.back, c.split_at.ensures.back) at c.in-Err.ensures.puts timescale
