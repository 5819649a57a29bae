-- What a mask keeps of the flags of a word.
use Rattle.std.proofs.Common.{◌≡◌, ◌∙◌, ◌==◌, ℕ, ap, List, [], ◌∷◌}
use Rattle.std.proofs.lemmas.Nat.{and_assoc}
use Rattle.std.proofs.lemmas.List.Elements.{All-nil, All-cons}
use Rattle.std.specs.List.{AllByRecursion}
use Rattle.std.specs.Int.RustNames.{bit_and}
use Rattle.bitflags.specs.Sets.{Row}
use Rattle.mp4_box.specs.Flags.{has_flag, KeepsFlags}

-- one flag: by this lemma in `using(..)`, the proof of a caller of `of_word` goes from the flags to the word
pub mask_keeps_flag : (mask word flag : ℕ) → bit_and mask flag ≡ flag → has_flag (bit_and word mask) flag ≡ has_flag word flag
mask_keeps_flag mask word flag kept = ap (λ bits. bits == flag) (and_assoc flag word mask ∙ ap (bit_and word) kept)

-- each flag of a table, where the mask has them all
pub mask_keeps_table : (mask : ℕ) (table : List Row) → AllByRecursion (λ row. bit_and mask row.1 ≡ row.1) table → KeepsFlags mask table
mask_keeps_table mask [] kept word = All-nil (λ row. has_flag (bit_and word mask) row.1 ≡ has_flag word row.1)
mask_keeps_table mask (row ∷ rows) kept word =
    All-cons (λ flag. has_flag (bit_and word mask) flag.1 ≡ has_flag word flag.1) row rows
    (mask_keeps_flag mask word row.1 kept.0) (mask_keeps_table mask rows kept.1 word)
