-- How much of an input is taken at once, where it has more bytes than that.
use Rattle.std.specs.Prelude.{ℕ, zero, suc, ◌+◌, List, drop, length, min, nat_lt, if◌then◌else◌, Option, None, Some, Result, Ok, Err}
use Rattle.mp4_box.specs.Headers.{header_at, result_of}
use Rattle.mp4_box.specs.declared.headers.Header.{Header}
use Rattle.mp4_box.specs.declared.headers.Size.{Size}
use Rattle.mp4_box.specs.declared.headers.Size.TheVariants.{Exact, ToEnd}
use Rattle.mp4_box.specs.declared.rules.Rule.{Rule}
use Rattle.mp4_fragment_machine.specs.NextHeaders.{left_in}
use Rattle.mp4_grammar.specs.Kinds.{kind_in}
use Rattle.mp4_grammar.specs.declared.kinds.Kind.{Kind}
use Rattle.mp4_grammar.specs.declared.kinds.Kind.TheVariants.{Moov, Moof, Mdat, Other}
use Rattle.fmp4_c.specs.declared.task_feeder.TaskFeeder.{TaskFeeder}
use Rattle.fmp4_c.specs.declared.task_feeder.TaskFeeder.TheVariants.{Fragments, Boxes}

-- how many bytes of the body that comes are left, up to the next header; none of a listing of boxes
abbrev pub left_of : TaskFeeder → ℕ
left_of (Fragments p) = left_in p.machine.state
left_of (Boxes f) = 0

abbrev pub left_before : Option TaskFeeder → ℕ
left_before None = 0
left_before (Some p) = left_of p

-- where a box of this size ends that begins at an offset: past `most` where it goes to the end of the stream
abbrev pub end_of : (most at : ℕ) → Size → ℕ
end_of most at (Exact n) = at + n
end_of most at ToEnd = most + 1

-- the same by its header, and past `most` where that isn't one or isn't whole
abbrev pub end_by : (most at : ℕ) → Result Header Rule → ℕ
end_by most at (Ok h) = end_of most at h.size
end_by most at (Err e) = most + 1

-- where the last mdat ends, after a box of this kind
abbrev pub later : Kind → (end last : ℕ) → ℕ
later Moov end last = last
later Moof end last = last
later Mdat end last = end
later Other end last = last

abbrev pub later_by : Result Header Rule → (end last : ℕ) → ℕ
later_by (Ok h) end last = later (kind_in h.kind.0) end last
later_by (Err e) end last = last

-- the same of the box at an offset of an input
abbrev pub end_in : (input : List ℕ) → (most at : ℕ) → ℕ
end_in input most at = end_by most at (result_of (header_at (drop at input)))

abbrev pub last_in : (input : List ℕ) → (most at last : ℕ) → ℕ
last_in input most at last = later_by (result_of (header_at (drop at input))) (end_in input most at) last

-- where the last mdat ends among the first `most` bytes of an input, of at most so many boxes that follow one another, the
-- first at an offset: `last` where none ends there
unfoldable pub last_mdat : (boxes : ℕ) → (input : List ℕ) → (most at last : ℕ) → ℕ
last_mdat zero input most at last = last
last_mdat (suc n) input most at last =
    if nat_lt at most
    then (if nat_lt most (end_in input most at)
    then last
    else last_mdat n input most (end_in input most at) (last_in input most at last))
    else last

-- where a body ends of which `left` bytes are to come, if that is among so many bytes: after these if not, or if none is left
abbrev pub body_end : (left most : ℕ) → ℕ
body_end zero most = most
body_end (suc n) most = min (suc n) most

-- how many bytes are taken of an input where `left` of a body are to come, and `most` may be taken at once: all if they are
-- no more; else up to where the last mdat ends among these, or the body that comes; and `most` if none ends there
abbrev pub portion_of : (input : List ℕ) → (left most : ℕ) → ℕ
portion_of input left most = if nat_lt most (length input) then last_mdat most input most left (body_end left most) else length input
