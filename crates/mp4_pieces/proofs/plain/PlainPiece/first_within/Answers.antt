use Rattle.std.proofs.Common.{subst}
use Rattle.mp4_pieces.specs.Bounds.{IsBound}
use Rattle.mp4_pieces.specs.declared.bound.Bound.{Bound}
use Rattle.mp4_pieces.proofs.PlainLemmas.{first_counted, first_timed}
use Rattle.mp4_pieces.proofs.plain.PlainPiece.first_within.Goals as goal

pub first_of-requires-clause-first : goal.first_of-requires-clause-first
first_of-requires-clause-first c =
    let cut = c.args.cut.now in
    let run = c.args.run.now in
    (cut, first_counted cut c.args.moof_bytes.now run c.args.at.now c.in-Samples.most c.min.result (subst (λ (bound : Bound). IsBound cut run bound) c.in-Samples.is c.requires.bound) c.requires.some c.min.ensures)

pub first_of-requires-in-Ticks-clause-first : goal.first_of-requires-in-Ticks-clause-first
first_of-requires-in-Ticks-clause-first c =
    let cut = c.args.cut.now in
    let run = c.args.run.now in
    (cut, first_timed cut c.args.moof_bytes.now run c.args.at.now c.in-Ticks.ticks c.min-most.result c.count_in_time-count.result (subst (λ (bound : Bound). IsBound cut run bound) c.in-Ticks.is c.requires.bound) c.requires.some c.min-most.ensures c.count_in_time-count.ensures)

pub returns-in-Samples : goal.returns-in-Samples
returns-in-Samples c =
    let cut = c.args.cut.now in
    let run = c.args.run.now in
    c.first_of.ensures cut (first_counted cut c.args.moof_bytes.now run c.args.at.now c.in-Samples.most c.min.result (subst (λ (bound : Bound). IsBound cut run bound) c.in-Samples.is c.requires.bound) c.requires.some c.min.ensures)

pub returns-in-Ticks : goal.returns-in-Ticks
returns-in-Ticks c =
    let cut = c.args.cut.now in
    let run = c.args.run.now in
    c.first_of-in-Ticks.ensures cut (first_timed cut c.args.moof_bytes.now run c.args.at.now c.in-Ticks.ticks c.min-most.result c.count_in_time-count.result (subst (λ (bound : Bound). IsBound cut run bound) c.in-Ticks.is c.requires.bound) c.requires.some c.min-most.ensures c.count_in_time-count.ensures)
