use Rattle.std.proofs.Common.{rules, arith, ◌≡◌, ◌≤◌, length, length-take-le, refl, take}
use Rattle.mp4_fragment_machine.proofs.mdat.recut.recut_front.Goals as goal

pub returns-in-Ok-clause-takes : goal.returns-in-Ok-clause-takes
returns-in-Ok-clause-takes g c =
    let is = c.requires.media in
    let most = c.min-most.result in
    let input = c.args.input.now in
    let came : most ≤ length input = search rules in
    let len : length (take most input) ≡ most = length-take-le most input came in
    let copies = rw (c.moof-moof.ensures, c.split_at.ensures.front, len, c.reached-at.ensures) at c.in-Ok.ensures.copies in
    record {
      count = search rules;
      copy_taken = copies;
      media = record { pending_moof = is.pending_moof; are_cut = is.are_cut; at = copies.next.at; no_head_ready = copies.next.no_head_ready; numbers = omega (arith, copies.next.numbers, is.numbers) };
      counted = record { tally = refl; few = c.in-Ok.ensures.few };
    }

pub returns-in-Err-clause-takes : goal.returns-in-Err-clause-takes
returns-in-Err-clause-takes g c =
    let copies = rw (c.moof-moof.ensures, c.split_at.ensures.front, c.reached-at.ensures) at c.in-Err.ensures.copies in
    record {
      uncopied = rw (← c.min-most.ensures) copies;
      counted = record { tally = refl; few = c.in-Err.ensures.few };
    }
