-- Which boxes are left out. The proofs are by the list, whatever is in it.
use Rattle.std.proofs.Common.{◌≡◌, ◌↔◌, ℕ, true, List, sym}
use Rattle.std.specs.List.{Contains}
use Rattle.std.specs.Str.{bytes_eq}
use Rattle.std.proofs.lemmas.List.Folds.{list_any_at}
use Rattle.std.proofs.lemmas.Map.Views.{Contains-from_any}
use Rattle.std.proofs.lemmas.Slice.Eq.{bytes_eq-Decides}
use Rattle.mp4_recut.specs.Splitting.{dropped_types, is_dropped}

pub dropped : (kind : List ℕ) → (is_dropped kind ≡ true) ↔ Contains dropped_types kind
unfolding is_dropped
dropped kind = (
  Contains-from_any {eq = bytes_eq} (λ x y. (bytes_eq-Decides x y).0) kind dropped_types,
  λ h. list_any_at (bytes_eq kind) dropped_types h.0 kind h.1 ((bytes_eq-Decides kind _).1 (sym h.2)),
)
