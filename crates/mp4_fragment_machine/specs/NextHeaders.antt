-- How many bytes of a body are to come before the next header.
use Rattle.std.specs.Prelude.{ℕ}
use Rattle.mp4_fragment_machine.specs.declared.state.State.{State}
use Rattle.mp4_fragment_machine.specs.declared.state.State.TheVariants as states

-- none where a header comes, or a box that is held
abbrev pub left_in : State → ℕ
left_in (states.Header at) = 0
left_in (states.Buffering held) = 0
left_in (states.MdatHeader w) = 0
left_in (states.Body body w) = body.left
left_in (states.Copied body) = body.left
left_in (states.Media recutting) = recutting.body.left
