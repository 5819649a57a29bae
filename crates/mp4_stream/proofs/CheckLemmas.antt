-- What a check reads a stream as, by what a listing of its samples or trafs reads it as.
use Rattle.std.proofs.Common.{◌≡◌, ◌∙◌, ℕ, List, [], ◌∷◌, max, map, ap, refl}
use Rattle.mp4_grammar.specs.Commands.{command_meaning, reading}
use Rattle.mp4_grammar.specs.Contexts.{first_context}
use Rattle.mp4_grammar.specs.WithoutText.{request_without_text, without_text}
use Rattle.mp4_grammar.specs.declared.command.Command.{Command}
use Rattle.mp4_grammar.specs.declared.command.Command.TheVariants.{Check}
use Rattle.mp4_grammar.proofs.CommandLemmas.{check-without}
use Rattle.mp4_grammar.proofs.TextLemmas.{reads-without}
use Rattle.mp4_machine.specs.Readings.{Request, Reading, greatest, most_of}

greatest-without : (requests : List Request) → greatest (map request_without_text requests) ≡ greatest requests
greatest-without [] = refl
greatest-without (a ∷ requests) = ap (max a.sum) (greatest-without requests)

module _ (command : Command) (b : List ℕ) where
  read : reading Check b ≡ without_text (reading command b)
  read = reads-without (command_meaning command) (command_meaning Check) (check-without command) first_context b

  pub check-outcome : (reading Check b).outcome ≡ (reading command b).outcome
  check-outcome = ap (λ (r : Reading). r.outcome) read

  pub check-tally : (reading Check b).effects.tally ≡ (reading command b).effects.tally
  check-tally = ap (λ (r : Reading). r.effects.tally) read

  pub check-asks : (reading Check b).effects.requests ≡ map request_without_text (reading command b).effects.requests
  check-asks = ap (λ (r : Reading). r.effects.requests) read

  pub check-most : most_of (reading Check b).effects ≡ most_of (reading command b).effects
  check-most = ap greatest check-asks ∙ greatest-without (reading command b).effects.requests

  pub check-text : (reading Check b).effects.text ≡ []
  check-text = ap (λ (r : Reading). r.effects.text) read
