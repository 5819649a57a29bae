-- Counts of a recut: fragments as they are written, and samples with the first of them.
use Rattle.std.proofs.Common.{ℕ, ◌+◌, ◌≤◌, arith}
use Rattle.std.specs.List.{sum_by}
use Rattle.mp4_traf.specs.declared.run.Run.{Run}
use Rattle.mp4_frag.specs.Moofs.{moof_samples}
use Rattle.mp4_grammar.specs.Meanings.{Fragment, runs_in}
use Rattle.mp4_machine.specs.Readings.{AtMost, plus}
use Rattle.mp4_machine.specs.declared.tally.Tally.{Tally}
use Rattle.mp4_fragment_machine.specs.Implementation.Recuts.{with_fragments, with_samples}

pub least_with_fragments : (t : Tally) (n : ℕ) → t.fragments ≤ n → AtMost t (with_fragments t n)
least_with_fragments t n low = record { fragments = low; samples = omega arith; media_bytes = omega arith; inspected = omega arith }

pub most_with_fragments : (t u : Tally) (n : ℕ) → n ≤ t.fragments + u.fragments → AtMost (with_fragments t n) (plus t u)
most_with_fragments t u n high = record { fragments = high; samples = omega arith; media_bytes = omega arith; inspected = omega arith }

pub least_with_samples : (f : Fragment) (t : Tally) (n : ℕ) → t.fragments ≤ n → AtMost t (with_samples f t n)
least_with_samples f t n low = record { fragments = low; samples = omega arith; media_bytes = omega arith; inspected = omega arith }

pub most_with_samples : (f : Fragment) (t u : Tally) (n : ℕ) → n ≤ t.fragments + u.fragments → moof_samples f.moof ≤ u.samples → sum_by (λ (run : Run). run.bytes) (runs_in f) ≤ u.media_bytes → AtMost (with_samples f t n) (plus t u)
most_with_samples f t u n high samples media = record { fragments = high; samples = omega (arith, samples); media_bytes = omega (arith, media); inspected = omega arith }
