-- An engine and the right to free its block may go to another thread.
use base.Shift.{Keyless}
use denote.Builtin.{RawPtr}
use denote.RawPtr.{Ptr, null_ptr, block_ptr}
use denote.Struct.Struct.{exits_of}
use denote.Struct.Owning.{shape, fields, to}
use denote.Param.Send.{IsSend, owning_send, struct_send, sendable}
use Rattle.std.specs.Prelude.{Option, None, Some}
use Rattle.std_alloc.proofs.SendSync.{lies, quiet}
use Rattle.fmp4_c.proofs.Sendable.{engine_send}
use Rattle.std.proofs.Crossing.{frees}
use Rattle.fmp4_c.specs.contracts.engine.Engine as engine
use Rattle.fmp4_c.specs.contracts.handle.Handle.{the_row, the_type}
use Rattle.fmp4_c.specs.Engines.{Run}
use Rattle.fmp4_c.specs.Handles.{owned}

pointer : IsSend RawPtr
pointer = search sendable

keyless : (p : Ptr) (held : Option Run) → Keyless (owned p held)
keyless null_ptr None = tt
keyless null_ptr (Some m) = λ x. tt
keyless (block_ptr b o) None = λ x. tt
keyless (block_ptr b o) (Some m) = λ a. (lies engine.the_row engine_send (block_ptr b o) m, frees.frees a _ (block_ptr b o))

pub send : IsSend the_row
send = owning_send the_type (pointer, tt) (λ d. keyless d.at d.held)
    (λ k. quiet (to the_type) (exits_of k (fields the_type)) ((struct_send (shape the_type) (pointer, tt)).leaving k))
