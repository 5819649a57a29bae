-- Lines of the program: of a stop, on its fault writer, and of a stream that it has checked.
use Rattle.std.specs.Prelude.{◌++◌, ℕ, List, Option, Some, None, codes, map}
use Rattle.std.specs.Fmt.{decimal}
use Rattle.mp4_box.specs.Rules.{number_of, name_of}
use Rattle.mp4_box.specs.Shown.{shown_byte}
use Rattle.mp4_box.specs.declared.headers.FourCc.{FourCc}
use Rattle.mp4_box.specs.declared.rules.Fault.{Fault}
use Rattle.mp4_stream.specs.declared.totals.Totals.{Totals}
use Rattle.mp4_machine.specs.declared.stop.Stop.{Stop}
use Rattle.mp4_machine.specs.declared.stop.Stop.TheVariants.{Stream, Read, Write, OverLimit, Memory}

-- a line of the program
abbrev pub line : List ℕ → List ℕ
line text = codes "fmp4: " ++ text ++ codes "\n"

abbrev pub kind_text : Option FourCc → List ℕ
kind_text None = codes "(none)"
kind_text (Some kind) = map shown_byte kind.0

-- the number and the name of the rule, and the type and the offset of the box
abbrev pub fault_text : Fault → List ℕ
fault_text f = decimal (number_of f.rule) ++ codes " " ++ name_of f.rule ++ codes " in " ++ kind_text f.kind ++ codes " at " ++ decimal f.offset

abbrev pub stop_text : Stop → List ℕ
stop_text (Stream f) = fault_text f
stop_text (Read at) = codes "read failed at " ++ decimal at
stop_text Write = codes "write failed"
stop_text OverLimit = codes "over the limit"
stop_text Memory = codes "out of memory"

-- how many fragments, samples and bytes of media a stream has, and the most bytes that were claimed at once
abbrev pub check_text : Totals → List ℕ
check_text t = codes "fragments=" ++ decimal t.fragments ++ codes " samples=" ++ decimal t.samples ++ codes " media=" ++ decimal t.media_bytes ++ codes " held=" ++ decimal t.peak ++ codes "\n"
