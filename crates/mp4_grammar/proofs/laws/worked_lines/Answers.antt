use Rattle.std.proofs.Common.{refl}
use Rattle.std.specs.Fmt.{digits}
use Rattle.mp4_grammar.specs.FragmentLines.{traf_line}
use Rattle.mp4_grammar.specs.TrackLines.{track_front, types_text}
use Rattle.mp4_grammar.proofs.laws.worked_lines.Goals as goal

pub returns-clause-traf : goal.returns-clause-traf
unfolding traf_line digits
returns-clause-traf c = refl

pub returns-clause-open : goal.returns-clause-open
unfolding traf_line digits
returns-clause-open c = refl

pub returns-clause-track : goal.returns-clause-track
unfolding track_front types_text digits
returns-clause-track c = refl

pub returns-clause-no_entry : goal.returns-clause-no_entry
unfolding types_text
returns-clause-no_entry c = refl
