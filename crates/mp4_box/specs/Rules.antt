-- The numbers and the names of the rules.
use Rattle.std.specs.Prelude.{ℕ, List, codes}
use Rattle.mp4_box.specs.declared.rules.Rule.{Rule}
use Rattle.mp4_box.specs.declared.rules.Rule.TheVariants.{Truncated, BadSize, NoMoov, SecondMoov, StrayMdat, MdatMissing, TooLarge, Depth, Missing, Twice, Version, FieldLength, SamplesInMoov, Unsupported, BaseNotMoof, EmptyDuration, FlagsConflict, UnknownTrack, EntryIndex, TooManySamples, TimeRange, RunPlace, IndexRange, SequenceEnd, StreamTooLong}

abbrev pub number_of : Rule → ℕ
number_of Truncated = 1
number_of BadSize = 2
number_of NoMoov = 3
number_of SecondMoov = 4
number_of StrayMdat = 5
number_of MdatMissing = 6
number_of TooLarge = 7
number_of Depth = 8
number_of Missing = 9
number_of Twice = 10
number_of Version = 11
number_of FieldLength = 12
number_of SamplesInMoov = 13
number_of Unsupported = 14
number_of BaseNotMoof = 15
number_of EmptyDuration = 16
number_of FlagsConflict = 17
number_of UnknownTrack = 18
number_of EntryIndex = 19
number_of TooManySamples = 20
number_of TimeRange = 21
number_of RunPlace = 22
number_of IndexRange = 23
number_of SequenceEnd = 24
number_of StreamTooLong = 25

abbrev pub name_of : Rule → List ℕ
name_of Truncated = codes "Truncated"
name_of BadSize = codes "BadSize"
name_of NoMoov = codes "NoMoov"
name_of SecondMoov = codes "SecondMoov"
name_of StrayMdat = codes "StrayMdat"
name_of MdatMissing = codes "MdatMissing"
name_of TooLarge = codes "TooLarge"
name_of Depth = codes "Depth"
name_of Missing = codes "Missing"
name_of Twice = codes "Twice"
name_of Version = codes "Version"
name_of FieldLength = codes "FieldLength"
name_of SamplesInMoov = codes "SamplesInMoov"
name_of Unsupported = codes "Unsupported"
name_of BaseNotMoof = codes "BaseNotMoof"
name_of EmptyDuration = codes "EmptyDuration"
name_of FlagsConflict = codes "FlagsConflict"
name_of UnknownTrack = codes "UnknownTrack"
name_of EntryIndex = codes "EntryIndex"
name_of TooManySamples = codes "TooManySamples"
name_of TimeRange = codes "TimeRange"
name_of RunPlace = codes "RunPlace"
name_of IndexRange = codes "IndexRange"
name_of SequenceEnd = codes "SequenceEnd"
name_of StreamTooLong = codes "StreamTooLong"
