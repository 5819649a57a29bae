-- The flags with which a traf begins are those of the first of its rows.
use Rattle.std.proofs.Common.{◌≡◌, ◌∙◌, ◌-◌, ℕ, zero, suc, false, List, [], ◌∷◌, ◌++◌, map, Option, Some, None, refl, ap, arith}
use Rattle.std.specs.Prelude.{◌==◌, if◌then◌else◌, option_map}
use Rattle.std.specs.List.{flat_map, range_with_len}
use Rattle.std.specs.Option.{option_or}
use Rattle.std.proofs.lemmas.Bool.Decides.{nat_tests}
use Rattle.mp4_box.specs.Trees.{first_of}
use Rattle.mp4_traf.specs.declared.rows.Row.{Row}
use Rattle.mp4_traf.specs.declared.run.Run.{Run}
use Rattle.mp4_traf.specs.Rows.{row_of, rows_of}
use Rattle.mp4_traf.specs.TrafTotals.{first_flags, flags_of_first}

abbrev first_in : List Row → Option ℕ
first_in rows = option_map (λ (row : Row). row.flags) (first_of rows)

-- some rows, and others after them
first_by : (row : ℕ → Row) (n : ℕ) (rest : List Row) → option_or (if n == 0 then None else Some (row 0).flags) (first_in rest) ≡ first_in (map row (range_with_len 0 (n - 0)) ++ rest)
first_by row zero rest = refl
first_by row (suc n) rest =
    let some : (suc n == 0) ≡ false = grind (arith, nat_tests) in
    let all : suc n - 0 ≡ suc n = omega arith in
    rw (some, all) refl

pub first_is : (moof_bytes : List ℕ) (runs : List Run) → first_flags moof_bytes runs ≡ first_in (flat_map (λ (run : Run). rows_of run moof_bytes) runs)
unfolding first_flags
first_is moof_bytes [] = refl
first_is moof_bytes (run ∷ runs) =
    ap (option_or (flags_of_first moof_bytes run)) (first_is moof_bytes runs)
    ∙ first_by (row_of run moof_bytes) run.count (flat_map (λ (run : Run). rows_of run moof_bytes) runs)
