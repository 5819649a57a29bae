-- Bytes that are appended once more.
use Rattle.std.proofs.Common.{◌≡◌, ◌∙◌, ℕ, ◌+◌, ◌-◌, ◌≤◌, List, ◌++◌, length, take, drop, ap, sym, arith}
use Rattle.std.proofs.Math.Seq.{take-append-add}
use Rattle.std.proofs.lemmas.List.{drop-take, length-take-le, take-append-le, take-take}
use Rattle.std.proofs.lemmas.Simd.{put_chunk_is, length-chunk}
use Rattle.std.specs.Simd.Lanes.{put_chunk, chunk}

-- bytes of a text, which is the front of all
of_text : (bytes : List ℕ) (len from n : ℕ) → from + n ≤ len → take n (drop from bytes) ≡ take n (drop from (take len bytes))
of_text bytes len from n there =
    let within : n ≤ len - from = omega (arith, there) in
    let whole : from + (len - from) ≡ len = omega (arith, there) in
    sym (ap (λ k. take n (drop from (take k bytes))) (sym whole) ∙ ap (take n) (drop-take from (len - from) bytes) ∙ take-take n (len - from) (drop from bytes) within)

-- a chunk that begins in the text, at `from`, and is put after it: the first n bytes of it count
pub again : (room : ℕ) (bytes : List ℕ) (len from n at : ℕ) → at ≡ from → from + n ≤ len → n ≤ room → len + room ≤ length bytes
    → take (len + n) (put_chunk len bytes (chunk at room bytes)) ≡ take len bytes ++ take n (drop from (take len bytes))
again room bytes len from n at same there few fits =
    let moved = chunk at room bytes in
    let long : length moved ≡ room = length-chunk at room bytes (omega arith) in
    let text : length (take len bytes) ≡ len = length-take-le len bytes (omega arith) in
    let put = put_chunk_is len bytes moved (omega arith) in
    let rest = drop (length moved) (drop len bytes) in
    ap (take (len + n)) put
    ∙ ap (λ k. take (k + n) (take len bytes ++ (moved ++ rest))) (sym text)
    ∙ take-append-add (take len bytes) (moved ++ rest) n
    ∙ ap (λ xs. take len bytes ++ xs) (take-append-le n moved rest (omega arith) ∙ take-take n room (drop at bytes) few ∙ ap (λ k. take n (drop k bytes)) same ∙ of_text bytes len from n there)
