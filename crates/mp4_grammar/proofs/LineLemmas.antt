-- A sample's line from words that are kept and the numbers between them.
use Rattle.std.proofs.Common.{◌≡◌, ℕ, List, ◌++◌, append_assoc}
use Rattle.std.specs.Prelude.{codes}
use Rattle.std.specs.Fmt.{decimal, signed_decimal}
use Rattle.std.specs.Int.{bytes_high_first}
use Rattle.mp4_lines.specs.Digits.{hex_bytes}
use Rattle.mp4_grammar.specs.Samples.{fields_text, place_text, sync_text}
use Rattle.mp4_grammar.specs.Implementation.SampleWords.{before_place, before_size}
use Rattle.mp4_grammar.specs.declared.sample.Sample.{Sample}

-- the same parts in two groupings
parts : (old a d b n f h s y e i p q z : List ℕ)
    → (((old ++ (a ++ d ++ b)) ++ n) ++ (f ++ h ++ s ++ y ++ e ++ i ++ p)) ++ q ++ z ≡ old ++ ((a ++ d ++ b ++ n ++ f ++ h ++ s ++ y) ++ (e ++ i ++ p ++ q ++ z))
parts old a d b n f h s y e i p q z = simp append_assoc

-- what follows the times of a line
pub after_times : (old : List ℕ) (s : Sample)
    → (((old ++ before_size s.duration) ++ decimal s.size) ++ before_place s.flags s.entry) ++ signed_decimal s.place ++ codes "\n" ≡ old ++ (fields_text s ++ place_text s)
unfolding before_place before_size
after_times old s =
    parts old (codes " dur=") (decimal s.duration) (codes " size=") (decimal s.size) (codes " flags=") (hex_bytes (bytes_high_first 4 s.flags)) (codes " ") (sync_text s.flags) (codes " desc=") (decimal s.entry) (codes " at=") (signed_decimal s.place) (codes "\n")
