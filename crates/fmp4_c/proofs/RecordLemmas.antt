-- A record at the front of what waits.
use Rattle.std.proofs.Common.{◌≡◌, ◌∙◌, ℕ, ◌<◌, ◌≤◌, List, [], ◌++◌, length, take, min, ap, arith, refl, sym, append-nil, length-append}
use Rattle.std.proofs.Math.Seq.{take-append_seam, take-length}
use Rattle.mp4_grammar.specs.TrafRecords.{in_4, in_8, record_bytes, record_len}
use Rattle.mp4_grammar.specs.declared.traf_record.TrafRecord.{TrafRecord}

pub record_length : (t : TrafRecord) → length (record_bytes t) ≡ record_len
unfolding record_bytes in_8 in_4
record_length t = refl

pub no_less : (t : TrafRecord) (rest w : List ℕ) → w ≡ record_bytes t ++ rest → length w < record_len → ⊥
no_less t rest w is less = omega (arith, ap length is, length-append (record_bytes t) rest, record_length t, less)

pub front_is : (t : TrafRecord) (rest w out : List ℕ) (n : ℕ) → length out ≡ record_len → n ≡ min record_len (length w) → take n out ≡ take n w → w ≡ record_bytes t ++ rest → out ≡ record_bytes t ++ []
front_is t rest w out n full count front is =
    let long : length (record_bytes t) ≡ record_len = record_length t in
    let all : n ≡ length out = omega (arith, count, ap length is, length-append (record_bytes t) rest, long, full) in
    let whole : take n out ≡ out = ap (λ (k : ℕ). take k out) all ∙ take-length out in
    let its : n ≡ length (record_bytes t) = omega (arith, all, full, long) in
    sym whole ∙ front ∙ ap (take n) is ∙ ap (λ (k : ℕ). take k (record_bytes t ++ rest)) its ∙ take-append_seam (record_bytes t) rest ∙ sym (append-nil (record_bytes t))

pub front_of : (w out : List ℕ) (n : ℕ) → length out ≡ record_len → n ≡ min record_len (length w) → record_len ≤ length w → take n out ≡ take n w → out ≡ take record_len w
front_of w out n full count some front =
    let all : n ≡ length out = omega (arith, count, some, full) in
    let its : n ≡ record_len = omega (arith, all, full) in
    sym (ap (λ (k : ℕ). take k out) all ∙ take-length out) ∙ front ∙ ap (λ (k : ℕ). take k w) its
