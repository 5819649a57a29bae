use Rattle.std.proofs.Common.{◌≡◌, ◌∙◌, ℕ, ◌+◌, ◌∷◌, [], length, None, Ok, Some, ap, arith, refl, subst, sym}
use Rattle.mp4_init.specs.Moovs.{fault_of}
use Rattle.mp4_frag.specs.Places.{place_fault}
use Rattle.mp4_traf.specs.Runs.{moof_at}
use Rattle.mp4_fragment_machine.proofs.FragmentLemmas.{single_is, moof_len, moof_whole}
use Rattle.mp4_fragment_machine.specs.Implementation.InPlace.{IsRefused, Late, Misplaced}
use Rattle.mp4_fragment_machine.proofs.machine.FragmentMachine.take_from_moof.Given.{Over}
use Rattle.mp4_fragment_machine.proofs.machine.FragmentMachine.take_from_moof.Goals as goal
use Rattle.mp4_fragment_machine.proofs.machine.FragmentMachine.take_from_moof.Goals.{In-Err, In-Err-places}

pub read-requires-clause-whole : goal.read-requires-clause-whole
read-requires-clause-whole g c =
    moof_whole c.args.at c.args.input.now c.in-Some-Some.boxes c.in-Some-Some.ensures.are

pub read-requires-clause-room : goal.read-requires-clause-room
read-requires-clause-room g c =
    let are = c.in-Some-Some.ensures.are in
    omega (arith, moof_len c.args.at c.args.input.now c.in-Some-Some.boxes are, are.moof.near)

pub take_one_run-requires-clause-found : goal.take_one_run-requires-clause-found
take_one_run-requires-clause-found g c =
    let run = c.in-Ok-Some.run' in
    let boxes = c.in-Some-Some.boxes in
    let are = c.in-Some-Some.ensures.are in
    let first = c.requires.first in
    let single_run = c.in-Ok-Some.ensures.single_run run (ap Ok c.in-Ok-Some.field-0-is) in
    let placed = rw c.in-Ok-Some.run-is at c.places.ensures in
    rw c.in-Ok-Some.run-is (record {
      boxes = record { state = first.state; empty = first.empty; tracks = first.tracks; are = are; room = c.in-Some-Some.ensures.room };
      is = rw (← c.self.view_is, c.in-Some-Some.is-1) (record { boxes = are; single_run = single_run; is_placed = subst (λ p. place_fault p (run.run ∷ []) ≡ None) (c.payload_after-payload.ensures c.args.input.now are) (sym placed ∙ ap fault_of c.in-Ok.is) });
      taken = rw (← c.self.view_is) (c.tries_in_place.ensures run c.if-tries_in_place.true (single_is (moof_at boxes.moof.now c.args.at) c.in-Some-Some.list run single_run).few);
    })

-- its only run doesn't lie where it may
misplaced : (g : Over) (c : In-Err-places g) (n : ℕ) → n ≡ c.in-Ok-Some.run'.run.count → IsRefused c.args.self.now c.args.ledger.now c.args.at c.args.input.now (length c.in-Some-Some.boxes.moof.now + 64) n c.read.new.steps.rows c.in-Err-places.fault
misplaced g c n is =
    let run = c.in-Ok-Some.run' in
    let boxes = c.in-Some-Some.boxes in
    let first = c.requires.first in
    let single_run = c.in-Ok-Some.ensures.single_run run (ap Ok c.in-Ok-Some.field-0-is) in
    let read = c.in-Ok-Some.ensures.rows_read run (ap Ok c.in-Ok-Some.field-0-is) in
    let placed = rw c.in-Ok-Some.run-is at c.places.ensures in
    Misplaced boxes run
    (record {
      boxes = record { state = first.state; empty = first.empty; tracks = first.tracks; are = c.in-Some-Some.ensures.are; room = c.in-Some-Some.ensures.room };
      single_run = rw (← c.self.view_is, c.in-Some-Some.is-1) single_run;
      misplaced = subst (λ p. place_fault p (run.run ∷ []) ≡ Some c.in-Err-places.fault) (c.payload_after-payload.ensures c.args.input.now c.in-Some-Some.ensures.are) (sym placed ∙ ap fault_of c.in-Err-places.is);
    }) is refl (omega (arith, read, single_run.samples, is))

-- its only fault is a time
late : (g : Over) (c : In-Err g) → IsRefused c.args.self.now c.args.ledger.now c.args.at c.args.input.now (length c.in-Some-Some.boxes.moof.now) c.read.new.steps.rows c.read.new.steps.rows c.in-Err.fault
late g c =
    let first = c.requires.first in
    let late = c.read.ensures.late c.in-Err.fault c.in-Err.is in
    Late c.in-Some-Some.boxes
    (record {
      boxes = record { state = first.state; empty = first.empty; tracks = first.tracks; are = c.in-Some-Some.ensures.are; room = c.in-Some-Some.ensures.room };
      good = rw (← c.self.view_is, c.in-Some-Some.is-1) late.0;
      late = rw (← c.self.view_is, c.in-Some-Some.is-1) late.1;
      samples = omega (arith, rw c.in-Err.is at c.read.ensures.refused);
    }) refl refl

pub refuse_fragment-requires-clause-refused : goal.refuse_fragment-requires-clause-refused
refuse_fragment-requires-clause-refused g c = (c.args.at, c.args.input.now, misplaced g (goal.at.refuse_fragment-requires-clause-refused g c).In-Err-places c.from-samples.result c.from-samples.ensures)

pub refuse_fragment-requires-in-Err-clause-refused : goal.refuse_fragment-requires-in-Err-clause-refused
refuse_fragment-requires-in-Err-clause-refused g c = (c.args.at, c.args.input.now, late g (goal.at.refuse_fragment-requires-in-Err-clause-refused g c).In-Err)

pub returns-in-Err-places : goal.returns-in-Err-places
returns-in-Err-places g c =
    c.refuse_fragment.ensures.ended (record { written = g.W.Sink.contents c.args.w.now; waiting = c.args.out.now; failed = g.W.Sink.has_failed c.args.w.now }) c.args.at c.args.input.now (misplaced g (goal.at.returns-in-Err-places g c).In-Err-places c.from-samples.result c.from-samples.ensures)

pub returns-in-Err : goal.returns-in-Err
returns-in-Err g c =
    c.refuse_fragment-in-Err.ensures.ended (record { written = g.W.Sink.contents c.args.w.now; waiting = c.args.out.now; failed = g.W.Sink.has_failed c.args.w.now }) c.args.at c.args.input.now (late g (goal.at.returns-in-Err g c).In-Err)

pub list_in_place-requires-clause-found : goal.list_in_place-requires-clause-found
list_in_place-requires-clause-found g c =
    let first = c.requires.first in
    (c.args.input.now, record { state = first.state; empty = first.empty; tracks = first.tracks; are = c.in-Some-Some.ensures.are; room = c.in-Some-Some.ensures.room })
