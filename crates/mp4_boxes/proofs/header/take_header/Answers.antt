use Rattle.std.proofs.Common.{◌≡◌, ◌∙◌, ◌++◌, [], List, ap, arith, refl, sym, take, ℕ}
use Rattle.mp4_machine.specs.HeaderBytes.{Came, bytes_of}
use Rattle.mp4_machine.specs.declared.header_bytes.HeaderBytes.{HeaderBytes}
use Rattle.mp4_machine.specs.declared.header_bytes.HeaderBytes.TheVariants.{AtOnce, InParts}
use Rattle.mp4_machine.proofs.HeadLemmas.{is-further}
use Rattle.mp4_machine.proofs.InputLemmas.{GoesOn-none}
use Rattle.mp4_machine.proofs.StepLemmas.{GoesTo-then, StopsIn-refused, StopsIn-then}
use Rattle.mp4_boxes.proofs.StateLemmas.{GoesTo-begun, Refuses-bad, StopsIn-begun, all_taken, accepts_head}
use Rattle.mp4_boxes.proofs.header.take_header.Goals as goal

pub returns-in-More : goal.returns-in-More
returns-in-More g c =
    let more = c.in-More.ensures in
    (more.some, more.most, GoesTo-then (accepts_head c.args.at c.args.header_bytes.now more.bytes) (record { goes = GoesOn-none _ _; unfailed = refl; claim = omega arith }), (more.short, c.requires.state.1))

pub returns-in-BadSize : goal.returns-in-BadSize
returns-in-BadSize g c =
    let bad = c.in-BadSize.ensures in
    let header_bytes = c.args.header_bytes.now ++ take bad.count c.args.input.now in
    rw (c.at_fault.ensures, bad.kind)
    (StopsIn-then bad.count c.args.input.now (accepts_head c.args.at c.args.header_bytes.now {new = header_bytes} refl) (StopsIn-refused refl (λ more. Refuses-bad _ c.args.at header_bytes more bad.len bad.is)), bad.empty)

-- nothing came before bytes that came at once
none_before : (old : List ℕ) (h : HeaderBytes) → ((part : List ℕ) → h ≡ InParts part → ⊥) → Came old h → old ≡ []
none_before old (AtOnce b) whole came = came
none_before old (InParts part) whole came = absurd (whole part refl)

pub begin_box-requires-clause-is : goal.begin_box-requires-clause-is
begin_box-requires-clause-is g c =
    let all = c.in-Complete.ensures.0 in
    let none = none_before c.args.header_bytes.now c.in-Complete.bytes (λ part e. absurd cc) c.in-Complete.ensures.1 in
    is-further c.in-Complete.count c.args.input.now c.in-Complete.header (rw (all.are, none) at all.is)

pub returns-in-AtOnce : goal.returns-in-AtOnce
returns-in-AtOnce g c =
    let none = none_before c.args.header_bytes.now c.in-Complete.bytes (λ part e. absurd cc) c.in-Complete.ensures.1 in
    rw (none, c.in-Complete.ensures.0.empty) c.begin_box.ensures.consumes

pub returns-in-Ok : goal.returns-in-Ok
returns-in-Ok g c =
    let all = c.in-Complete.ensures.0 in
    let part = c.in-InParts.part in
    let same : bytes_of c.in-Complete.bytes ≡ part = ap bytes_of c.in-InParts.is in
    let begun = rw c.bytes.ensures at c.in-Ok.ensures.consumes in
    let taken = all_taken begun.1 c.in-Ok.ensures.all (omega (arith, rw same at all.len)) (rw same at all.is) in
    rw all.empty (all.some, all.most, GoesTo-then (accepts_head c.args.at c.args.header_bytes.now {new = part} (sym same ∙ all.are)) (GoesTo-begun c.args.at part (rw taken at begun.2)), begun.3)

pub returns-in-Err : goal.returns-in-Err
returns-in-Err g c =
    let all = c.in-Complete.ensures.0 in
    let part = c.in-InParts.part in
    let same : bytes_of c.in-Complete.bytes ≡ part = ap bytes_of c.in-InParts.is in
    let begun = rw c.bytes.ensures at c.in-Err.ensures.consumes in
    rw all.empty (StopsIn-then c.in-Complete.count c.args.input.now (accepts_head c.args.at c.args.header_bytes.now {new = part} (sym same ∙ all.are)) (StopsIn-begun c.args.at part begun.0), begun.1)
