-- The laws of the recut text of whole items.
use Rattle.std.proofs.Common.{◌≡◌, ◌∙◌, ℕ, ◌≤◌, ◌^◌, List, length, refl, sym, ap, arith}
use Rattle.mp4_pieces.specs.declared.cut.Cut.{Cut}
use Rattle.mp4_machine.specs.Readings.{Sound}
use Rattle.mp4_grammar.specs.Contexts.{first_context}
use Rattle.mp4_grammar.specs.Joined.{Item, joined}
use Rattle.mp4_recut_laws.specs.Premises.{AreFirstItems, CanAllBeRecut, RecutAgrees}
use Rattle.mp4_recut_laws.specs.RecutItems.{items_recut, without_index}
use Rattle.mp4_recut.specs.Splitting.{reading, splitting}
use Rattle.mp4_recut.specs.Texts.{items_text}
use Rattle.mp4_recut_laws.proofs.FaultLemmas.{sound_reads}
use Rattle.mp4_recut_laws.proofs.PremiseLemmas.{all_can_be_recut}
use Rattle.mp4_recut_laws.proofs.ItemLemmas.{items_joined, items_agree}

fine : (cut : Cut) (is : List Item) → AreFirstItems cut is → CanAllBeRecut cut first_context is
fine cut is w = all_can_be_recut cut first_context is w.sound w.bytes (omega (arith, w.near)) (omega arith) tt

pub first_items_joined : (cut : Cut) (is : List Item) → AreFirstItems cut is → joined (items_recut cut first_context is) ≡ items_text cut first_context is
first_items_joined cut is w = items_joined cut first_context is w.sound (fine cut is w)

pub first_items_agree : (cut : Cut) (is : List Item) → AreFirstItems cut is → RecutAgrees cut first_context first_context is (items_recut cut first_context is)
first_items_agree cut is w = items_agree cut first_context first_context is (record { number = refl; tracks = refl }) w.sound (fine cut is w)

pub first_items_read : (cut : Cut) (is : List Item) → AreFirstItems cut is → length (items_text cut first_context is) ≤ 2 ^ 62 → (reading (without_index cut) (items_text cut first_context is)).outcome ≡ Sound
first_items_read cut is w small =
    let same = first_items_joined cut is w in
    ap (λ (b : List ℕ). (reading (without_index cut) b).outcome) (sym same) ∙ sound_reads (splitting (without_index cut)) first_context (items_recut cut first_context is) (first_items_agree cut is w).sound (omega (arith, small, ap length same))
