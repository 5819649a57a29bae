use Rattle.std.proofs.Common.{◌≡◌, ◌∙◌, ◌++◌, ◌-ℤ◌, ℕ, List, pos, ap, append_assoc, sym}
use Rattle.std.specs.Prelude.{codes}
use Rattle.std.specs.Fmt.{digits, signed_decimal}
use Rattle.std.proofs.Math.IntN.{+ℤ_invr}
use Rattle.mp4_grammar.proofs.listed_traf.ListedTraf.push_gap.Goals as goal

no_gap : (time ended : ℕ) → time ≡ ended → signed_decimal (pos time -ℤ pos ended) ≡ codes "0"
unfolding digits
no_gap time ended same = ap (λ n. signed_decimal (pos n -ℤ pos ended)) same ∙ ap signed_decimal (+ℤ_invr (pos ended))

at_the_end : (old number : List ℕ) → number ≡ codes "0" → old ++ codes " gap=0\n" ≡ old ++ codes " gap=" ++ number ++ codes "\n"
at_the_end old number none =
    sym (append_assoc (old ++ codes " gap=") (codes "0") (codes "\n") ∙ append_assoc old (codes " gap=") (codes "0" ++ codes "\n"))
    ∙ ap (λ (n : List ℕ). old ++ codes " gap=" ++ n ++ codes "\n") (sym none)

pub returns-then-self : goal.returns-then-self
returns-then-self c = c.push_array.ensures.text ∙ at_the_end c.args.block.now _ (no_gap c.args.self.now.time c.args.self.now.ended c.if-self.true)
