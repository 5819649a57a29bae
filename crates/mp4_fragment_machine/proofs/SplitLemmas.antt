-- A moof whose fragment is to be recut, and is refused.
use Rattle.std.proofs.Common.{◌≡◌, ℕ, ◌+◌, ◌*◌, ◌≤◌, List, [], ◌++◌, length, Some, ap, sym, arith, subst}
use Rattle.mp4_box.specs.declared.rules.Fault.{Fault}
use Rattle.mp4_init.specs.declared.table.Track.{Track}
use Rattle.mp4_machine.specs.Inputs.{Environment, Moves, Refuses}
use Rattle.mp4_machine.specs.Readings.{no_effects, then_read}
use Rattle.mp4_machine.proofs.InputLemmas.{back_to, Refuses-there}
use Rattle.mp4_grammar.specs.Contexts.{context}
use Rattle.mp4_grammar.specs.Items.{after_moof, faulty, reads_in}
use Rattle.mp4_grammar.specs.Meanings.{Meaning}
use Rattle.mp4_fragment_machine.specs.Places.{InMdatHeader, claim_of, continuation_at}
use Rattle.mp4_fragment_machine.specs.States.{claimed_in, taken_by}
use Rattle.mp4_fragment_machine.specs.declared.pending_moof.PendingMoof.{PendingMoof}
use Rattle.mp4_fragment_machine.proofs.MdatHeaderLemmas.{HasRows}
use Rattle.mp4_fragment_machine.proofs.BufferedBoxLemmas.{Moves-all_back}

module _ (meaning : Meaning) (number : ℕ) (o : Environment) (w : PendingMoof) (tracks : List Track) (x : List ℕ) (i : HasRows tracks w) (low : claimed_in (Some tracks) (Some w) ≤ o.account.live) where
  -- what is claimed there
  pub claims-split : claim_of (InMdatHeader (context w.moof.at (Some tracks) number) tracks w.moof.bytes x) ≡ 64 * length tracks + taken_by (Some w)
  claims-split = omega (arith, i.size, i.len)

  -- it is refused: the moof, its list and the table are given back
  pub Refuses-split : (more : List ℕ) (g : Fault) → ((later : List ℕ) → after_moof meaning (context w.moof.at (Some tracks) number) tracks w.moof.bytes (x ++ later) ≡ faulty g)
      → Refuses o (back_to (back_to o (taken_by (Some w))) (64 * length tracks)) (continuation_at meaning (InMdatHeader (context w.moof.at (Some tracks) number) tracks w.moof.bytes x)) more g
  Refuses-split more g r =
      let place = continuation_at meaning (InMdatHeader (context w.moof.at (Some tracks) number) tracks w.moof.bytes x) in
      Refuses-there o (back_to (back_to o (taken_by (Some w))) (64 * length tracks)) place [] more g
      (subst (λ n. Moves o (back_to (back_to o (taken_by (Some w))) (64 * length tracks)) n 0 no_effects) (sym claims-split) (Moves-all_back o (64 * length tracks) (taken_by (Some w)) (omega (arith, low))))
      (λ later. ap (then_read (reads_in meaning)) (r later))
