-- Where a box of a fragmented stream requests memory, the output before the request is that of the bytes before the box.
use Rattle.std.proofs.Common.{◌≡◌, ◌∙◌, ℕ, ◌-◌, List, ◌∷◌, ◌++◌, take, ap, arith, subst}
use Rattle.mp4_machine.specs.Readings.{Request}
use Rattle.mp4_machine.proofs.ReadingItemLemmas.{Each, Each-at, asks_hold}
use Rattle.mp4_grammar.specs.Contexts.{first_context}
use Rattle.mp4_grammar.specs.Counts.{InspectsOn}
use Rattle.mp4_grammar.specs.Items.{item, reads_in}
use Rattle.mp4_grammar.specs.Meanings.{Meaning}
use Rattle.mp4_grammar.proofs.AskLemmas.{IsCountBefore, counted_before}
use Rattle.mp4_grammar.proofs.ItemAskLemmas.{HasNoEffects, item-first, item-counted}
use Rattle.mp4_grammar.proofs.ItemLemmas.{item-items}
use Rattle.mp4_grammar.proofs.TakenLemmas.{item-own}

module _ (meaning : Meaning) (quiet : HasNoEffects meaning) (b : List ℕ) (before : List Request) (a : Request) (after : List Request) (e : (reads_in meaning first_context b).effects.requests ≡ before ++ a ∷ after) where
  none_before : a.at - 0 ≡ a.at
  none_before = omega arith

  pub text-before : take a.text_before (reads_in meaning first_context b).effects.text ≡ (reads_in meaning first_context (take a.at b)).effects.text
  text-before =
      (asks_hold (item meaning) (λ c. c.at) (item-items meaning) (item-first meaning quiet) (item-own meaning) first_context b before a after e).text
      ∙ ap (λ n. (reads_in meaning first_context (take n b)).effects.text) none_before

  pub count-before : InspectsOn (reads_in meaning first_context (take a.at b)).effects.tally a.counted
  count-before =
      let all = counted_before (item meaning) (λ c. c.at) (item-items meaning) (item-counted meaning quiet) (item-own meaning) first_context b in
      let here = Each-at (IsCountBefore (reads_in meaning) (λ c. c.at) first_context b) before a after (subst (Each (IsCountBefore (reads_in meaning) (λ c. c.at) first_context b)) e all) in
      subst (λ n. InspectsOn (reads_in meaning first_context (take n b)).effects.tally a.counted) none_before here.counted
