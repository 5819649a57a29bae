-- Only the code's own way; no public clause needs this.
-- Why a machine stops at a moov.
use Rattle.mp4_init.specs.declared.moov.InitStop.{InitStop}
use Rattle.mp4_init.specs.declared.moov.InitStop.TheVariants as init
use Rattle.mp4_machine.specs.Inputs.{refusal_of}
use Rattle.mp4_machine.specs.declared.stop.Stop.{Stop}
use Rattle.mp4_machine.specs.declared.stop.Stop.TheVariants.{Stream}

-- its tracks can't be read, since it is at fault or the claim of their table is refused
abbrev pub stop_of : InitStop → Stop
stop_of (init.Fault f) = Stream f
stop_of (init.Refused r) = refusal_of r
