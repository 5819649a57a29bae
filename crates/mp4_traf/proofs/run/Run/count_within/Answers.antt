use Rattle.std.proofs.Common.{arith, ◌+◌}
use Rattle.mp4_traf.proofs.BetweenLemmas.{default_between, own_between}
use Rattle.mp4_traf.proofs.run.Run.count_within.Goals as goal

pub returns-in_default-clause-within : goal.returns-in_default-clause-within
returns-in_default-clause-within c =
    let rows = c.requires.rows in
    let all = default_between c.args.self.now c.args.moof_bytes.now c.args.first c.default_within.result c.in_default.is (omega (arith, rows, c.default_within.ensures.few)) in
    omega (arith, all, c.default_within.ensures.within)

pub returns-in_default-clause-full : goal.returns-in_default-clause-full
returns-in_default-clause-full c = λ less.
    let rows = c.requires.rows in
    let all = default_between c.args.self.now c.args.moof_bytes.now c.args.first (c.default_within.result + 1) c.in_default.is (omega (arith, rows, less)) in
    omega (arith, all, c.default_within.ensures.full less)

pub returns-clause-within : goal.returns-clause-within
returns-clause-within c =
    let rows = c.requires.rows in
    let all = own_between c.args.self.now c.args.moof_bytes.now c.groups_from-own.result.now c.in-Some.at c.args.first c.numbers_within.result c.groups_from-own.ensures c.in-Some.is (omega (arith, rows, c.numbers_within.ensures.few)) in
    omega (arith, all, c.numbers_within.ensures.within)

pub returns-clause-full : goal.returns-clause-full
returns-clause-full c = λ less.
    let rows = c.requires.rows in
    let all = own_between c.args.self.now c.args.moof_bytes.now c.groups_from-own.result.now c.in-Some.at c.args.first (c.numbers_within.result + 1) c.groups_from-own.ensures c.in-Some.is (omega (arith, rows, less)) in
    omega (arith, all, c.numbers_within.ensures.full less)
