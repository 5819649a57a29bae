-- What a BoxFeeder is after the bytes of a stream that it was fed, and what the next input does.
use Rattle.std.proofs.Common.{ℕ, ◌-◌, List, ◌++◌, Result, Ok, Err, OnOk, ap, refl, arith}
use Rattle.mp4_box.specs.Headers.{IsBytes}
use Rattle.mp4_boxes.specs.Boxes.{reading}
use Rattle.mp4_boxes.specs.States.{Progress, begun, continuation_in}
use Rattle.mp4_boxes.proofs.BoxAskLemmas.{listing-before}
use Rattle.mp4_boxes.proofs.BoxLemmas.{reading-none}
use Rattle.mp4_boxes.proofs.HeldBoxLemmas.{asks-most}
use Rattle.mp4_machine.specs.Fed.{Borrowed, WritesRest}
use Rattle.mp4_machine.specs.FedMachines.{ClaimsByRequests, Fed, IsOrdered}
use Rattle.mp4_machine.specs.FedMachines as machines
use Rattle.mp4_machine.specs.Inputs.{IsBegun}
use Rattle.mp4_machine.specs.Readings.{uncounted}
use Rattle.mp4_machine.specs.declared.stop.Stop.{Stop}
use Rattle.mp4_stream.specs.BoxFeeders.{ClaimsWithin, Feeds, ListsRest, held_by, shown}

-- before a request are the lines of the bytes before its box
pub listing-ordered : IsOrdered (reading 0)
listing-ordered = record { before = listing-before }

pub begun-is : IsBegun (continuation_in begun) uncounted
begun-is = record { reached = refl; claim = refl; none = reading-none 0; counted = refl }

-- what is claimed, by the boxes of the stream
claims-within : {T : Type 0} (b : List ℕ) → IsBytes b → (peak others limit : ℕ) (result : Result T Stop) → ClaimsByRequests (reading 0) b peak others limit result → ClaimsWithin b peak others limit result
claims-within b fits peak others limit result c = record {
  most = λ largest w. omega (arith, c.most, asks-most largest b fits w);
  enough = λ largest w room is. c.enough (omega (arith, asks-most largest b fits w, room)) is;
}

lists-by : {T : Type 0} (After : Type 0) (b input : List ℕ) (l : Borrowed) (own own' : ℕ) (result : Result T Stop) → OnOk result (After × WritesRest (reading 0) b (b ++ input) l own own') → OnOk result (ListsRest b input l)
lists-by After b input l own own' (Ok t) h = record { lines = h.1.effects.text; listed = ap (λ e. e.text) h.1.all; text = h.1.text }
lists-by After b input l own own' (Err e) h = tt

-- a BoxFeeder is fed as its machine is
pub feeds-by : {T : Type 0} (b input : List ℕ) (f f' : Fed Progress) (l : Borrowed) (result : Result T Stop) → machines.Feeds (reading 0) b input (shown f) (shown f') l result → Feeds b input f f' l result
feeds-by b input f f' l result fed = record {
  fed = fed;
  lists = lists-by _ b input l (held_by f) (held_by f') result fed.ok;
  claims = claims-within (b ++ input) fed.bytes f'.peak (l.account.live - held_by f) l.account.limit result fed.claims;
}
