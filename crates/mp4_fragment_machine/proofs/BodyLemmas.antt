-- What is claimed while a moof waits, and given back after its mdat.
use Rattle.std.proofs.Common.{◌≡◌, ℕ, ◌+◌, ◌-◌, ◌≤◌, List, Option, None, Some, ap, sym, arith, subst}
use Rattle.mp4_init.specs.declared.table.Track.{Track}
use Rattle.mp4_ledger.specs.Memory.{Account, given_back}
use Rattle.mp4_machine.specs.Readings.{no_effects}
use Rattle.mp4_machine.specs.Inputs.{Environment, Moves}
use Rattle.mp4_machine.specs.declared.body.Body.{Body}
use Rattle.mp4_machine.proofs.ReadingLemmas.{both-silent}
use Rattle.mp4_machine.proofs.InputLemmas.{back_to, Moves-more, Moves-back}
use Rattle.mp4_grammar.specs.Contexts.{table_of}
use Rattle.mp4_fragment_machine.specs.States.{claimed_in, taken_by}
use Rattle.mp4_fragment_machine.specs.declared.pending_moof.PendingMoof.{PendingMoof}
use Rattle.mp4_fragment_machine.specs.declared.state.State.{State}
use Rattle.mp4_fragment_machine.specs.declared.state.State.TheVariants as states
use Rattle.mp4_fragment_machine.proofs.BufferedBoxLemmas.{Moves-all_back}

-- the pending moof of a body
abbrev pending_in : State → Option PendingMoof
pending_in (states.Header at) = None
pending_in (states.Buffering h) = None
pending_in (states.MdatHeader w) = None
pending_in (states.Body b w) = w
pending_in (states.Copied b) = None
pending_in (states.Media r) = None

pub same_pending : (a b : Body) (v w : Option PendingMoof) → states.Body a v ≡ states.Body b w → v ≡ w
same_pending a b v w e = ap pending_in e

-- a moof and its list are given back
pub Moves-settled : (o : Environment) (table size rows n : ℕ) → n ≡ table → table + size + rows ≤ o.account.live → Moves o (back_to (back_to o rows) size) (table + size + rows) n no_effects
Moves-settled o table size rows n same low =
    subst (Moves o (back_to (back_to o rows) size) (table + size + rows) n) (both-silent no_effects)
    (Moves-more low (subst (λ k. Moves o (back_to o rows) (table + size + rows) k no_effects) (omega arith) (Moves-back o (table + size + rows) rows (omega arith) low))
    (subst (λ k. Moves (back_to o rows) (back_to (back_to o rows) size) (table + size) k no_effects) (omega (arith, same)) (Moves-back (back_to o rows) (table + size) size (omega arith) (omega (arith, low)))))

-- two parts are given back, or both at once
pub back_twice : (a : Account) (m n : ℕ) → given_back (given_back a m) n ≡ given_back a (n + m)
back_twice a m n = let sum : a.live - m - n ≡ a.live - (n + m) = omega arith in ap (λ k. record { limit = a.limit; live = k; peak = a.peak }) sum

-- what is claimed in a body: the table, and what a moof takes that waits
pub claimed_apart : (tracks : Option (List Track)) (w : Option PendingMoof) → claimed_in tracks w ≡ table_of tracks + taken_by w
claimed_apart tracks None = omega arith
claimed_apart tracks (Some w) = omega arith

-- all that is claimed in a body is given back: what a moof takes that waits, and the table
pub Moves-open_back : (o : Environment) (own table n : ℕ) → own ≡ table + n → own ≤ o.account.live → Moves o (back_to (back_to o n) table) own 0 no_effects
Moves-open_back o own table n e low = subst (λ k. Moves o (back_to (back_to o n) table) k 0 no_effects) (sym e) (Moves-all_back o table n (omega (arith, e, low)))
