use Rattle.std.proofs.Common.{◌≡◌, ◌-◌, ◌≤◌, arith, length, refl, subst, sym}
use Rattle.mp4_machine.specs.Bodies.{extent_after}
use Rattle.mp4_machine.specs.declared.body.Extent.TheVariants as extents
use Rattle.mp4_machine.proofs.InputLemmas.{Moves-none}
use Rattle.mp4_machine.proofs.ContinuationLemmas.{GoesOn-over, GoesOn-passed, IsLeft-after, Refuses-far, sized_before, some_taken}
use Rattle.mp4_machine.proofs.StepLemmas.{GoesOn-then, StopsIn-refused}
use Rattle.mp4_boxes.specs.Boxes.{passed, reading}
use Rattle.mp4_boxes.specs.States.{at_header}
use Rattle.mp4_boxes.proofs.StateLemmas.{needs_none-after, none_claimed}
use Rattle.mp4_boxes.proofs.body.take_body.Goals as goal

pub returns-in-Err : goal.returns-in-Err
returns-in-Err c = λ o failed.
    let b = c.args.body in
    let far = c.in-Err.ensures in
    rw far.err (StopsIn-refused refl (λ more. Refuses-far reading (λ next. next) 0 o b.at b.kind o b.left b.extent c.args.input.now more far.open (Moves-none o 0) far.far), refl)

pub returns-in-None : goal.returns-in-None
returns-in-None c = λ o failed.
    let b = c.args.body in
    let came = c.in-Ok.ensures in
    let n = c.in-Ok.count in
    let is = c.requires.state in
    let more = rw came.left at c.in-None.ensures.none in (
      some_taken b.left (length c.args.input.now) n b.extent is.1.more came.all came.taken c.requires.some,
      omega (arith, came.taken),
      rw came.left (record {
        goes = GoesOn-passed reading (λ next. next) 0 o b.at b.kind b.left n b.extent c.args.input.now (omega (arith, came.taken)) (omega (arith, came.taken)) is.1.within;
        unfailed = refl;
        claim = subst (λ k. k ≤ o.account.live) (sym (none_claimed b.at b.kind (b.left - n) (extent_after n b.extent))) (omega arith);
      }),
      rw came.left (refl, IsLeft-after b.left n b.extent is.1 more, needs_none-after n b.extent is.2),
    )

pub returns-in-Some : goal.returns-in-Some
returns-in-Some c = λ o failed.
    let b = c.args.body in
    let came = c.in-Ok.ensures in
    let n = c.in-Ok.count in
    let next = c.in-Some.next in
    let (over, same) = rw came.left at c.in-Some.ensures.some in
    let sized : b.extent ≡ extents.Sized next = sized_before n next b.extent same in
    let is = rw sized at c.requires.state in (
      omega (arith, came.taken, c.requires.some, is.1.more),
      omega (arith, came.taken),
      record {
        goes = rw sized
            (GoesOn-then (omega arith) (GoesOn-passed reading (λ k. k) 0 o b.at b.kind b.left n (extents.Sized next) c.args.input.now (omega (arith, came.taken)) (omega (arith, came.taken)) is.1.within) (at_header next)
            (GoesOn-over reading (λ k. k) 0 o b.at b.kind o passed next (b.left - n) (at_header next) (omega (arith, over)) refl (Moves-none o 0) (omega arith) (λ later. refl)));
        unfailed = refl;
        claim = omega arith;
      },
      (omega arith, is.1.near),
    )
