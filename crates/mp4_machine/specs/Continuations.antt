-- Continuations that all machines have, whatever they read.
use Rattle.std.specs.Prelude.{ℕ, ◌+◌, ◌-◌, List, ◌++◌, length}
use Rattle.mp4_box.specs.declared.headers.FourCc.{FourCc}
use Rattle.mp4_machine.specs.Bodies.{longest, body_item, open_body_item}
use Rattle.mp4_machine.specs.Inputs.{Continuation}
use Rattle.mp4_machine.specs.Readings.{Reading, Effects, then_read}
use Rattle.mp4_machine.specs.declared.body.Body.{Body}
use Rattle.mp4_machine.specs.declared.body.Extent.{Extent}
use Rattle.mp4_machine.specs.declared.body.Extent.TheVariants as extents

-- within something that begins at an offset and is read once enough of its bytes have come: these so far
abbrev pub gathering : (reads : List ℕ → Reading) → (at claim : ℕ) → List ℕ → Continuation
gathering reads at claim buffered = record { reached = at + length buffered; reads = λ bytes. reads (buffered ++ bytes); claim = claim }

-- within a body with the effects `emit`, with so many bytes claimed: what follows it, where its box states its end, is read in
-- the context `next` of that
abbrev pub in_extent : {C : Type 0} → (reads : C → List ℕ → Reading) → (emit : List ℕ → Effects) → (next : ℕ → C) → (claim at : ℕ) → FourCc → (left : ℕ) → Extent → Continuation
in_extent reads emit next claim at kind left (extents.Sized end) = record { reached = end - left; reads = λ bytes. then_read reads (body_item emit at kind (next end) left bytes); claim = claim }
in_extent reads emit next claim at kind left (extents.Open needed) = record { reached = longest - left; reads = λ bytes. then_read reads (open_body_item emit at kind needed left bytes); claim = claim }

abbrev pub in_body : {C : Type 0} → (reads : C → List ℕ → Reading) → (emit : List ℕ → Effects) → (next : ℕ → C) → (claim : ℕ) → Body → Continuation
in_body reads emit next claim b = in_extent reads emit next claim b.at b.kind b.left b.extent
