-- Why a run is at fault.
use Rattle.std.proofs.Common.{◌≡◌, ◌≢◌, ◌<◌, ℕ, List, Option, Some}
use Rattle.std.specs.List.{Contains}
use Rattle.std.proofs.lemmas.List.Elements.{All-contains}
use Rattle.mp4_run_order.specs.declared.runs.ListedRun.{ListedRun}
use Rattle.mp4_run_order.specs.declared.runs.Payload.{Payload}
use Rattle.mp4_run_order.specs.Runs.{SharesNoByte, IsInTurn}
use Rattle.mp4_run_order.specs.Places.{LiesIn, MayBePlaced}

-- the number is that of a run that may not lie where it does
pub record Blamed (p : Payload) (runs : List ListedRun) (r : Option ℕ) : Type 0 where
  pub run : ListedRun
  pub listed : Contains runs run
  pub number : r ≡ Some run.number
  pub offends : MayBePlaced p runs run → ⊥

pub blamed_out_of_place : (p : Payload) (runs : List ListedRun) (r : Option ℕ) (b : ListedRun) → Contains runs b → r ≡ Some b.number → b.count ≢ 0 → (LiesIn p b → ⊥) → Blamed p runs r
blamed_out_of_place p runs r b c e ne out = record { run = b; listed = c; number = e; offends = λ h. out (h ne).lies }

pub blamed_sharing : (p : Payload) (runs : List ListedRun) (r : Option ℕ) (a b : ListedRun) → Contains runs a → Contains runs b → a.number < b.number → r ≡ Some b.number → b.count ≢ 0 → (SharesNoByte a b → ⊥) → Blamed p runs r
blamed_sharing p runs r a b ca cb lt e ne out = record {
  run = b;
  listed = cb;
  number = e;
  offends = λ h. out (All-contains (λ a. a.number < b.number → SharesNoByte a b) runs a (h ne).apart ca lt);
}

pub blamed_early : (p : Payload) (runs : List ListedRun) (r : Option ℕ) (a b : ListedRun) → Contains runs a → Contains runs b → a.number < b.number → r ≡ Some b.number → b.count ≢ 0 → (IsInTurn a b → ⊥) → Blamed p runs r
blamed_early p runs r a b ca cb lt e ne out = record {
  run = b;
  listed = cb;
  number = e;
  offends = λ h. out (All-contains (λ a. a.number < b.number → IsInTurn a b) runs a (h ne).in_turn ca lt);
}
