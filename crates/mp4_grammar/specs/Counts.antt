-- The counts before a box that requests memory.
use Rattle.std.specs.Prelude.{◌≡◌, ◌≤◌}
use Rattle.mp4_machine.specs.declared.tally.Tally.{Tally}

-- t counts what s counts, and at least as many inspected samples: those of a moof are inspected before a list of its runs is requested
pub record InspectsOn (s t : Tally) : Type 0 where
  pub fragments : t.fragments ≡ s.fragments
  pub samples : t.samples ≡ s.samples
  pub media_bytes : t.media_bytes ≡ s.media_bytes
  pub inspected : s.inspected ≤ t.inspected
