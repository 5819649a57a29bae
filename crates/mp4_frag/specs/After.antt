-- What follows a run in its moof, by where its trun and its traf end.
use Rattle.std.specs.Prelude.{◌≡◌, List, ◌∷◌, ◌++◌}
use Rattle.mp4_traf.specs.declared.run.Run.{Run}

-- the run is one of these, with these before it and these after it
pub record IsBetween (runs before : List Run) (run : Run) (after : List Run) : Type 0 where
  pub is : runs ≡ before ++ run ∷ after

-- the run is one of these
abbrev pub IsOneOf : Run → List Run → Type 0
IsOneOf run runs = (before : List Run) × (after : List Run) × IsBetween runs before run after
