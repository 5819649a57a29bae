use Rattle.std.proofs.Common.{◌≡◌, ◌∙◌, ◌+◌, ◌<◌, ap, arith, length, max, take}
use Rattle.std.proofs.lemmas.List.{take_all}
use Rattle.mp4_frag.specs.RunLists.{taken_runs}
use Rattle.mp4_run_order.specs.declared.runs.ListedRun.{ListedRun}
use Rattle.mp4_grammar.specs.Meanings.{reach}
use Rattle.mp4_fragment_machine.specs.States.{moof_in}
use Rattle.mp4_fragment_machine.proofs.MediaLemmas.{are_more, count_first, count_more, count_of, counted, few_samples, listed, media_far, media_in, media_more, placed_in, reach_in, reach_more, run_at, taken_sound}
use Rattle.mp4_fragment_machine.proofs.LineLemmas.{rows_taken}
use Rattle.mp4_fragment_machine.proofs.mdat.totals.add_up_runs.Goals as goal

pub needed_by-requires : goal.needed_by-requires
needed_by-requires c =
    let w = c.args.pending_moof.now in
    let tracks = c.args.tracks.now in
    let here : c.loop-i.i < length w.runs.rows = omega (arith, c.loop-i-test.true, c.len-in-loop-i.ensures) in
    let r = run_at w.moof.bytes (taken_runs (moof_in w) tracks) c.loop-i.i (taken_sound w tracks c.requires.pending_moof c.bytes.ensures.valid c.len.ensures.small) (listed w tracks c.requires.pending_moof c.loop-i.i here) in
    rw (c.listed-run.ensures (moof_in w) tracks r.run c.requires.pending_moof.list r.at) r.is.range.high

pub overflow_add-so_far : goal.overflow_add-so_far
overflow_add-so_far c =
    let w = c.args.pending_moof.now in
    let tracks = c.args.tracks.now in
    let runs = taken_runs (moof_in w) tracks in
    let i = c.loop-i.i in
    let r = run_at w.moof.bytes runs i (taken_sound w tracks c.requires.pending_moof c.bytes.ensures.valid c.len.ensures.small) (listed w tracks c.requires.pending_moof i (omega (arith, c.loop-i-test.true, c.len-in-loop-i.ensures))) in
    let run = r.run in
    let at = r.at in
    let is = r.is in
    let effects = c.listed-run.ensures (moof_in w) tracks run c.requires.pending_moof.list at in
    let here : i < length w.runs.rows = omega (arith, c.loop-i-test.true, c.len-in-loop-i.ensures) in
    let room = media_far w.moof.bytes c.args.payload runs (i + 1) c.requires.start (placed_in w tracks c.requires.pending_moof c.args.payload c.requires.good)
    (are_more runs i run (listed w tracks c.requires.pending_moof i here) at w.moof.bytes c.loop-i.invariant.are is) in
    rw effects (omega (arith, room, media_more runs i run (listed w tracks c.requires.pending_moof i here) at, c.loop-i.invariant.bytes))

pub loop-i-preserved : goal.loop-i-preserved
loop-i-preserved c =
    let w = c.args.pending_moof.now in
    let tracks = c.args.tracks.now in
    let runs = taken_runs (moof_in w) tracks in
    let i = c.loop-i.i in
    let r = run_at w.moof.bytes runs i (taken_sound w tracks c.requires.pending_moof c.bytes.ensures.valid c.len.ensures.small) (listed w tracks c.requires.pending_moof i (omega (arith, c.loop-i-test.true, c.len-in-loop-i.ensures))) in
    let run = r.run in
    let at = r.at in
    let is = r.is in
    let effects = c.listed-run.ensures (moof_in w) tracks run c.requires.pending_moof.list at in
    let start = c.args.payload.start in
    let here : i < length w.runs.rows = omega (arith, c.loop-i-test.true, c.len-in-loop-i.ensures) in
    let in_list = listed w tracks c.requires.pending_moof i here in
    record {
      within = omega (arith, here);
      bytes = omega (arith, ap (λ (r : ListedRun). r.bytes) effects, c.loop-i.invariant.bytes, media_more runs i run in_list at);
      samples = omega (arith, c.from.ensures, ap (λ (r : ListedRun). r.count) effects, c.loop-i.invariant.samples, count_more runs i run in_list at);
      needed = reach_more runs i run in_list at start c.loop-i.so_far.needed c.max.result (reach start runs) (c.max.ensures ∙ ap (max c.loop-i.so_far.needed) (rw effects at c.needed_by.ensures)) c.loop-i.invariant.needed;
      are = are_more runs i run in_list at w.moof.bytes c.loop-i.invariant.are is;
    }

pub returns-clause-within : goal.returns-clause-within
returns-clause-within c e is =
    let w = c.args.pending_moof.now in
    let tracks = c.args.tracks.now in
    let room = media_in w.moof.bytes c.args.payload e (taken_runs (moof_in w) tracks) c.loop-i.i is (c.requires.end e is) (placed_in w tracks c.requires.pending_moof c.args.payload c.requires.good) c.loop-i.invariant.are in
    omega (arith, room, c.loop-i.invariant.bytes)

pub returns-clause-reach : goal.returns-clause-reach
returns-clause-reach c e is =
    let w = c.args.pending_moof.now in
    let tracks = c.args.tracks.now in
    let room = reach_in c.args.payload e (taken_runs (moof_in w) tracks) is (c.requires.end e is) (placed_in w tracks c.requires.pending_moof c.args.payload c.requires.good) in
    omega (arith, room, c.loop-i.invariant.needed)

pub returns-clause-open : goal.returns-clause-open
returns-clause-open c =
    let w = c.args.pending_moof.now in
    let tracks = c.args.tracks.now in
    let room = media_far w.moof.bytes c.args.payload (taken_runs (moof_in w) tracks) c.loop-i.i c.requires.start (placed_in w tracks c.requires.pending_moof c.args.payload c.requires.good) c.loop-i.invariant.are in
    omega (arith, room, c.loop-i.invariant.bytes)

pub overflow_add-so_far-in-loop-i : goal.overflow_add-so_far-in-loop-i
overflow_add-so_far-in-loop-i c =
    let w = c.args.pending_moof.now in
    let tracks = c.args.tracks.now in
    let runs = taken_runs (moof_in w) tracks in
    let i = c.loop-i.i in
    let in_list = listed w tracks c.requires.pending_moof i (omega (arith, c.loop-i-test.true, c.len-in-loop-i.ensures)) in
    let r = run_at w.moof.bytes runs i (taken_sound w tracks c.requires.pending_moof c.bytes.ensures.valid c.len.ensures.small) in_list in
    let more = count_more runs i r.run in_list r.at in
    let effects = c.listed-run.ensures (moof_in w) tracks r.run c.requires.pending_moof.list r.at in
    omega (arith, c.from.ensures, ap (λ (run : ListedRun). run.count) effects, more, count_first runs (i + 1), counted w tracks c.requires.pending_moof, few_samples w tracks c.requires.pending_moof, c.loop-i.invariant.samples)

pub returns-clause-samples : goal.returns-clause-samples
returns-clause-samples c =
    let w = c.args.pending_moof.now in
    let tracks = c.args.tracks.now in
    let runs = taken_runs (moof_in w) tracks in
    let all : take c.loop-i.i runs ≡ runs = take_all c.loop-i.i runs (omega (arith, c.loop-i-test.false, c.len-in-loop-i.ensures, rows_taken (moof_in w) tracks w.runs c.requires.pending_moof.list)) in
    c.loop-i.invariant.samples ∙ ap count_of all ∙ counted w tracks c.requires.pending_moof

pub returns-clause-few : goal.returns-clause-few
returns-clause-few c =
    let w = c.args.pending_moof.now in
    let tracks = c.args.tracks.now in
    omega (arith, c.loop-i.invariant.samples, count_first (taken_runs (moof_in w) tracks) c.loop-i.i, counted w tracks c.requires.pending_moof, few_samples w tracks c.requires.pending_moof)
