use Rattle.std.proofs.Common.{◌≡◌, ◌∙◌, suc, ◌+◌, ◌-◌, ◌≤◌, ap, arith, refl, sym}
use Rattle.fmp4_c.specs.Portions.{last_mdat}
use Rattle.fmp4_c.proofs.PortionLemmas.{last-bad, last-far, last-next, last-none, last-open}
use Rattle.fmp4_c.proofs.portion.last_mdat.Goals as goal

pub loop-at-init : goal.loop-at-init
loop-at-init c = record {
  boxes = c.args.most;
  enough = omega arith;
  same = rw c.body_end-last.ensures.is refl;
  some = c.body_end-last.ensures.some;
  within = c.body_end-last.ensures.within;
}

pub returns-in_default-clause-is : goal.returns-in_default-clause-is
returns-in_default-clause-is c =
    let was = c.loop-at.invariant in
    let is = sym (rw c.split_at.ensures.back at c.header_of.ensures.computed) ∙ c.in_default.is in
    sym (was.same ∙ last-bad was.boxes c.args.input.now c.args.most c.loop-at.at c.loop-at.last c.loop-at-test.true c.in_default.field-0 is)

pub returns-in_default-size-clause-is : goal.returns-in_default-size-clause-is
returns-in_default-size-clause-is c =
    let was = c.loop-at.invariant in
    let is = sym (rw c.split_at.ensures.back at c.header_of.ensures.computed) ∙ c.in-Ok.is in
    sym (was.same ∙ last-open was.boxes c.args.input.now c.args.most c.loop-at.at c.loop-at.last c.loop-at-test.true c.in-Ok.header is c.in_default-size.is)

pub returns-then-size-most-clause-is : goal.returns-then-size-most-clause-is
returns-then-size-most-clause-is c =
    let was = c.loop-at.invariant in
    let is = sym (rw c.split_at.ensures.back at c.header_of.ensures.computed) ∙ c.in-Ok.is in
    sym (was.same ∙ last-far was.boxes c.args.input.now c.args.most c.loop-at.at c.loop-at.last c.loop-at-test.true c.in-Ok.header c.in-Exact.size is c.in-Exact.is (omega (arith, c.if-size-most.true, c.loop-at-test.true)))

pub loop-at-preserved : goal.loop-at-preserved
loop-at-preserved c =
    let was = c.loop-at.invariant in
    let at = c.loop-at.at in
    let most = c.args.most in
    let input = c.args.input.now in
    let is = sym (rw c.split_at.ensures.back at c.header_of.ensures.computed) ∙ c.in-Ok.is in
    let near : at + c.in-Exact.size ≤ most = omega (arith, c.if-size-most.false, c.loop-at-test.true) in
    let room = rw c.in-Exact.is at c.in-Ok.ensures.room in
    let one : was.boxes ≡ suc (was.boxes - 1) = omega (arith, was.enough, c.loop-at-test.true) in
    record {
      boxes = was.boxes - 1;
      enough = omega (arith, was.enough, room, c.in-Ok.ensures.within);
      same = was.same
          ∙ ap (λ k. last_mdat k input most at c.loop-at.last) one
          ∙ last-next (was.boxes - 1) input most at c.loop-at.last c.loop-at-test.true c.in-Ok.header c.in-Exact.size is c.in-Exact.is near
          ∙ ap (λ l. last_mdat (was.boxes - 1) input most (at + c.in-Exact.size) l) (sym c.later-last.ensures.is);
      some = c.later-last.ensures.some (omega (arith, room, c.in-Ok.ensures.within)) was.some;
      within = c.later-last.ensures.within most near was.within;
    }

pub returns-clause-is : goal.returns-clause-is
returns-clause-is c =
    let was = c.loop-at.invariant in
    sym (was.same ∙ last-none was.boxes c.args.input.now c.args.most c.loop-at.at c.loop-at.last c.loop-at-test.false)
