-- What an engine holds may go to another thread. Each type is shown by itself, since one search over all of it ends at its limits.
-- A field that is a struct or an enum has the row of its shape.
use denote.Enum.Declared as variants
use denote.Enum.Enum.{Enum}
use denote.Param.Send.{AllSend, EachSend, IsSend, enum_send, recorded_send, sendable, struct_send, view_send}
use denote.Struct.Struct.{Struct}
use denote.Struct.Declared.{fields, shape}
use Rattle.std.proofs.Crossing.{crosses}
use Rattle.mp4_ledger.specs.contracts.ledger.Ledger as ledger
use Rattle.mp4_machine.specs.contracts.block.Block as block
use Rattle.mp4_boxes.specs.contracts.machine.BoxMachine as box_machine
use Rattle.mp4_boxes.specs.contracts.state.State as box_state
use Rattle.mp4_fragment_machine.specs.contracts.machine.FragmentMachine as machine
use Rattle.mp4_fragment_machine.specs.contracts.state.Recutting as recutting
use Rattle.mp4_fragment_machine.specs.contracts.state.Carried as carried
use Rattle.mp4_fragment_machine.specs.contracts.state.State as state
use Rattle.mp4_recut.specs.contracts.operation.Operation as operation
use Rattle.mp4_machine.specs.contracts.stop.Stop as stop
use Rattle.mp4_stream.specs.contracts.box_feeder.BoxFeeder as box_feeder
use Rattle.mp4_stream.specs.contracts.box_feeder.BoxFeeder.TheInside as box_feeder_inside
use Rattle.mp4_stream.specs.contracts.feeder.Feeder as feeder
use Rattle.mp4_stream.specs.contracts.feeder.Feeder.TheInside as feeder_inside
use Rattle.fmp4_c.specs.contracts.output.Output as output
use Rattle.fmp4_c.specs.contracts.report.Report as report
use Rattle.fmp4_c.specs.contracts.task.Task as task
use Rattle.fmp4_c.specs.contracts.task_feeder.TaskFeeder as task_feeder
use Rattle.fmp4_c.specs.contracts.engine.Engine as engine

ledger_send : IsSend ledger.the_row
ledger_send = search (sendable, crosses) depth 40 fits 20000

block_send : IsSend block.the_row
block_send = search (sendable, crosses) depth 40 fits 20000

output_send : IsSend output.the_row
output_send = search (sendable, crosses) depth 40 fits 20000

report_send : IsSend (Struct (shape report.the_type))
report_send = search (sendable, crosses) depth 40 fits 20000

-- by their fields, in order
recutting_fields : AllSend (fields recutting.the_type)
recutting_fields = (search (sendable, crosses) depth 40 fits 50000, (search (sendable, crosses) depth 40 fits 50000, (search (sendable, crosses) depth 40 fits 50000, tt)))

carried_fields : AllSend (fields carried.the_type)
carried_fields = (search (sendable, crosses) depth 40 fits 50000, (search (sendable, crosses) depth 40 fits 50000, (search (sendable, crosses) depth 40 fits 50000, (search (sendable, crosses) depth 40 fits 50000, tt))))

carried_send : IsSend (Struct (shape carried.the_type))
carried_send = struct_send (shape carried.the_type) carried_fields

-- by its variants, in their order
state_variants : EachSend (variants.rowss (state.the_type).parts)
state_variants = ((search (sendable, crosses) depth 40 fits 50000, tt), ((search (sendable, crosses) depth 40 fits 50000, tt), ((search (sendable, crosses) depth 40 fits 50000, tt), ((search (sendable, crosses) depth 40 fits 50000, (search (sendable, crosses) depth 40 fits 50000, tt)), ((search (sendable, crosses) depth 40 fits 50000, tt), ((struct_send (shape recutting.the_type) recutting_fields, tt), tt))))))

state_send : IsSend (Enum (variants.shape state.the_type))
state_send = enum_send (variants.shape state.the_type) state_variants

machine_send : IsSend machine.the_row
machine_send = search (sendable, carried_send, state_send) depth 20 fits 50000

operation_send : IsSend (Enum (variants.shape operation.the_type))
operation_send = search (sendable, crosses) depth 40 fits 50000

stop_send : IsSend (Enum (variants.shape stop.the_type))
stop_send = search (sendable, crosses) depth 40 fits 50000

-- by its operation, and the machine that it feeds
feeder_fields : AllSend (fields feeder_inside.the_type)
feeder_fields = (search (sendable, machine_send, block_send, stop_send) depth 40 fits 50000, tt)

feeder_inside_send : IsSend feeder_inside.the_row
feeder_inside_send = recorded_send feeder_inside.the_field.row _ _ feeder_inside.the_type.to_one (struct_send (shape feeder_inside.the_type) feeder_fields)

feeder_send : IsSend feeder.the_row
feeder_send = view_send feeder_inside.the_row _ _ _ _ feeder_inside_send

-- the same of a listing of boxes
box_state_variants : EachSend (variants.rowss (box_state.the_type).parts)
box_state_variants = ((search (sendable, crosses) depth 40 fits 50000, tt), ((search (sendable, crosses) depth 40 fits 50000, tt), ((search (sendable, crosses) depth 40 fits 50000, tt), tt)))

box_state_send : IsSend (Enum (variants.shape box_state.the_type))
box_state_send = enum_send (variants.shape box_state.the_type) box_state_variants

box_machine_send : IsSend box_machine.the_row
box_machine_send = search (sendable, crosses, box_state_send) depth 40 fits 50000

box_feeder_fields : AllSend (fields box_feeder_inside.the_type)
box_feeder_fields = (search (sendable, box_machine_send, block_send, stop_send) depth 40 fits 50000, tt)

box_feeder_inside_send : IsSend box_feeder_inside.the_row
box_feeder_inside_send = recorded_send box_feeder_inside.the_field.row _ _ box_feeder_inside.the_type.to_one (struct_send (shape box_feeder_inside.the_type) box_feeder_fields)

box_feeder_send : IsSend box_feeder.the_row
box_feeder_send = view_send box_feeder_inside.the_row _ _ _ _ box_feeder_inside_send

-- by the task
task_send : IsSend (Enum (variants.shape task.the_type))
task_send = enum_send (variants.shape task.the_type) ((operation_send, tt), (tt, tt))

task_feeder_send : IsSend (Enum (variants.shape task_feeder.the_type))
task_feeder_send = enum_send (variants.shape task_feeder.the_type) ((feeder_send, tt), ((box_feeder_send, tt), tt))

pub engine_send : IsSend engine.the_row
engine_send = search (sendable, ledger_send, task_feeder_send, output_send, report_send, task_send) depth 40 fits 50000
