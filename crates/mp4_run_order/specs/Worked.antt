-- Worked runs: those of two tracks in turn in one mdat.
use Rattle.std.specs.Prelude.{ℕ, pos, ◌≡◌, List, [], ◌∷◌, map, option_map, Option, Some, None}
use Rattle.mp4_run_order.specs.declared.runs.ListedRun.{ListedRun}
use Rattle.mp4_run_order.specs.declared.runs.Payload.{Payload}
use Rattle.mp4_run_order.specs.Orders.{taken}
use Rattle.mp4_run_order.specs.Places.{first_offender}

-- a run of one sample, of which the number is the offset of its trun
abbrev pub one : ℕ → ℕ → ℕ → ℕ → ListedRun
one number track place bytes = record { number = number; track = track; count = 1; place = pos place; bytes = bytes }

-- two runs of track 1 with a gap between them, and two of track 2 at these places
abbrev pub in_turns : ℕ → ℕ → List ListedRun
in_turns a b = one 648 1 792 5 ∷ one 672 1 801 7 ∷ one 736 2 a 4 ∷ one 760 2 b 4 ∷ []

abbrev pub payload : Payload
payload = record { start = 792; end = Some 812 }

abbrev pub numbers : List ListedRun → List ℕ
numbers runs = map (λ run. run.number) runs

abbrev pub offender_of : List ListedRun → Option ℕ
offender_of runs = option_map (λ run. run.number) (first_offender payload runs)

-- a run of track 3 whose sample has no bytes, after the four
abbrev pub with_empty : ℕ → List ListedRun
with_empty place = one 648 1 792 5 ∷ one 672 1 801 7 ∷ one 736 2 797 4 ∷ one 760 2 808 4 ∷ one 800 3 place 0 ∷ []

-- the runs of two tracks in turn fill the payload, each from the byte after another
pub record AreTakenInTurns : Type 0 where
  pub order : numbers (taken (in_turns 797 808)) ≡ 648 ∷ 736 ∷ 672 ∷ 760 ∷ []
  pub placed : offender_of (in_turns 797 808) ≡ None

-- one that begins a byte too early or too late is at fault, and of two that are exchanged the later one
pub record AreAtFault : Type 0 where
  pub early : offender_of (in_turns 796 808) ≡ Some 736
  pub late : offender_of (in_turns 797 809) ≡ Some 760
  pub exchanged : offender_of (in_turns 808 797) ≡ Some 760

-- a run without bytes shares none, and must lie in the payload all the same
pub record AreWithoutBytes : Type 0 where
  pub among : offender_of (with_empty 803) ≡ None
  pub at_end : offender_of (with_empty 812) ≡ None
  pub after : offender_of (with_empty 813) ≡ Some 800
