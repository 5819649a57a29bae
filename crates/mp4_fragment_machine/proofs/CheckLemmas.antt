-- The counts of a fragment that is checked or listed, and whole in the input, whatever runs it has.
use Rattle.std.proofs.Common.{◌≡◌, ℕ, ◌+◌, ◌*◌, ◌≤◌, List, drop, length, Some, ap, arith, subst, sym, refl}
use Rattle.mp4_box.proofs.HeaderLemmas.{need-least, whole_is}
use Rattle.mp4_frag.specs.Moofs.{moof_samples}
use Rattle.mp4_traf.specs.Runs.{MoofBytes, moof_at}
use Rattle.mp4_run_order.specs.declared.runs.Payload.{Payload}
use Rattle.mp4_machine.specs.Bodies.{longest}
use Rattle.mp4_machine.specs.Readings.{plus, accepts}
use Rattle.mp4_grammar.specs.Items.{inspected}
use Rattle.mp4_grammar.specs.declared.command.Command.{Command}
use Rattle.mp4_grammar.specs.declared.kinds.Kind.TheVariants.{Mdat}
use Rattle.mp4_recut.specs.declared.operation.Operation.TheVariants as operations
use Rattle.mp4_fragment_machine.specs.States.{IsCounted, listed_by}
use Rattle.mp4_fragment_machine.specs.Implementation.InPlace.{AreBoxes, payload_in}
use Rattle.mp4_fragment_machine.specs.declared.counter.Counter.{Counter}
use Rattle.mp4_fragment_machine.specs.declared.in_place.Boxes.{Boxes}
use Rattle.mp4_fragment_machine.proofs.CountLemmas.{counted_emitted, counted_moof}
use Rattle.mp4_fragment_machine.proofs.FragmentLemmas.{first_fits, moof_len, some_moof}

module _ (at : ℕ) (input : List ℕ) (b : Boxes) (are : AreBoxes at input b) where
  -- bytes that lie in the payload of its mdat lie in the mdat
  pub media_less : (p : Payload) (bytes : ℕ) → p ≡ payload_in (at + are.span.size) b.mdat → ((end : ℕ) → p.end ≡ Some end → p.start ≤ end → p.start + bytes ≤ end) → at + are.span.size + bytes + 8 ≤ at + are.span.size + b.mdat.size
  media_less p bytes is within =
      let room = first_fits Mdat (at + are.span.size) (drop are.span.size input) b.mdat are.mdat in
      let w = whole_is (drop are.span.size input) are.mdat.header are.mdat.is in
      let start : p.start ≡ at + are.span.size + b.mdat.header_len = ap (λ (q : Payload). q.start) is in
      let last = within (at + are.span.size + b.mdat.size) (ap (λ (q : Payload). q.end) is) (omega (arith, start, room)) in
      omega (arith, last, start, w.1, need-least (drop are.span.size input), are.mdat.header_len)

  abbrev h : MoofBytes
  h = moof_at b.moof.now at

  -- it is counted; its samples wait for its end
  pub counted_whole : (command : Command) (c c' : Counter) (bytes : ℕ) → IsCounted (operations.List command) c at 0 0 → moof_samples (moof_at b.moof.now at) ≤ 1000000 → at + are.span.size + bytes + 8 ≤ at + are.span.size + b.mdat.size
      → c'.tally ≡ plus (plus c.tally (inspected (moof_at b.moof.now at))) (accepts (moof_samples (moof_at b.moof.now at)) bytes)
      → c'.steps.rows ≡ c.steps.rows + 2 * moof_samples (moof_at b.moof.now at) + listed_by (operations.List command) (moof_samples (moof_at b.moof.now at)) → IsCounted (operations.List command) c' (at + length b.moof.now + b.mdat.size) 0 (moof_samples (moof_at b.moof.now at))
  counted_whole command c c' bytes i few fits tally rows =
      let k = moof_samples h in
      let c1 : Counter = record { tally = plus c.tally (inspected h); steps = record { rows = c.steps.rows + (k + k) } } in
      let near : at + are.span.size ≤ longest = are.moof.near in
      let waits : IsCounted (operations.List command) c1 (at + are.span.size) k k = counted_moof (operations.List command) c c1 h at are.span.size (k + k) k i (some_moof at input b are) near few refl refl (omega arith) (omega arith) in
      let effects : IsCounted (operations.List command) c' (at + are.span.size + b.mdat.size) 0 k = counted_emitted command c1 c' (at + are.span.size) (at + are.span.size + b.mdat.size) k bytes waits few
      (omega (arith, fits), omega (arith, fits), omega (arith, are.mdat.near)) tally (omega (arith, rows)) in
      subst (λ z. IsCounted (operations.List command) c' (at + z + b.mdat.size) 0 k) (sym (moof_len at input b are)) effects
