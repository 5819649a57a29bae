use Rattle.std.proofs.Common.{◌<◌, ◌^◌, ◌∙◌, ap, rules}
use Rattle.std.specs.Int.{cast_signed, cast_unsigned, w64}
use Rattle.std.proofs.lemmas.Int.{of_z-to_z}
use Rattle.mp4_grammar.proofs.TrafRecordLemmas.{numbers_again, same_record}
use Rattle.mp4_grammar.proofs.traf_record.TrafRecord.of_bytes.Goals as goal

pub returns-clause-record : goal.returns-clause-record
returns-clause-record c =
    let small : c.u64_at-7.result < 2 ^ 64 = search rules in
    let earliest = ap (λ z. cast_signed w64 (cast_unsigned w64 z)) c.cast_signed.ensures ∙ ap (cast_signed w64) (of_z-to_z w64 c.u64_at-7.result small ∙ c.u64_at-7.ensures) in
    same_record _ _ _ _ _ _ _ _ _ _ _ _ _ _ _ _ _ _ _ _ _ _ _ _ _ _ _ _ _ _ c.u64_at.ensures c.u64_at-2.ensures c.u64_at-3.ensures c.u64_at-4.ensures c.u64_at-5.ensures c.u32_at.ensures c.u32_at-2.ensures c.u32_at-3.ensures c.u32_at-4.ensures c.u32_at-5.ensures c.u32_at-6.ensures c.u64_at-6.ensures earliest c.u32_at-7.ensures c.u32_at-8.ensures

pub returns-clause-again : goal.returns-clause-again
returns-clause-again c = λ r rest is same.
    let small : c.u64_at-7.result < 2 ^ 64 = search rules in
    let earliest = ap (λ z. cast_signed w64 (cast_unsigned w64 z)) c.cast_signed.ensures ∙ ap (cast_signed w64) (of_z-to_z w64 c.u64_at-7.result small ∙ c.u64_at-7.ensures) in
    numbers_again r rest c.args.bytes.now _ _ _ _ _ _ _ _ _ _ _ _ _ _ _ c.u64_at.ensures c.u64_at-2.ensures c.u64_at-3.ensures c.u64_at-4.ensures c.u64_at-5.ensures c.u32_at.ensures c.u32_at-2.ensures c.u32_at-3.ensures c.u32_at-4.ensures c.u32_at-5.ensures c.u32_at-6.ensures c.u64_at-6.ensures earliest c.u32_at-7.ensures c.u32_at-8.ensures is same
