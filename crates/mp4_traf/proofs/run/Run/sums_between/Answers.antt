use Rattle.std.proofs.Common.{◌∙◌, ap, sym}
use Rattle.mp4_traf.specs.Implementation.Added.{field_numbers}
use Rattle.mp4_traf.proofs.BetweenLemmas.{durations_between, sizes_between}
use Rattle.mp4_traf.proofs.run.Run.sums_between.Goals as goal

pub returns-in-Some-Some-clause-bytes : goal.returns-in-Some-Some-clause-bytes
returns-in-Some-Some-clause-bytes c =
    let run = c.args.self.now in
    let rest = c.groups_from-rest in
    c.both_sums.ensures.bytes
    ∙ ap (λ at. field_numbers rest.result.now at run.size run.fields.len c.args.count) (sym c.in-Some-Some.is-0)
    ∙ sizes_between run c.args.moof_bytes.now rest.result.now c.args.first c.args.count rest.ensures c.requires.rows

pub returns-in-Some-Some-clause-ticks : goal.returns-in-Some-Some-clause-ticks
returns-in-Some-Some-clause-ticks c =
    let run = c.args.self.now in
    let rest = c.groups_from-rest in
    c.both_sums.ensures.ticks
    ∙ ap (λ at. field_numbers rest.result.now at run.duration run.fields.len c.args.count) (sym c.in-Some-Some.is-1)
    ∙ durations_between run c.args.moof_bytes.now rest.result.now c.args.first c.args.count rest.ensures c.requires.rows
