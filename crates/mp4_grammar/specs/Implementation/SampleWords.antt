-- Only the code's own way; no public clause needs this.
-- Words of a sample's line that stay from sample to sample, up to each number that doesn't.
use Rattle.std.specs.Prelude.{ℕ, List, ◌++◌, codes}
use Rattle.std.specs.Fmt.{decimal}
use Rattle.std.specs.Int.{bytes_high_first}
use Rattle.mp4_lines.specs.Digits.{hex_bytes}
use Rattle.mp4_grammar.specs.Samples.{sync_text}

-- before its decode time: by its track
unfoldable pub before_time : ℕ → List ℕ
before_time track = codes "track=" ++ decimal track ++ codes " dts="

-- before its size: by its duration
unfoldable pub before_size : ℕ → List ℕ
before_size duration = codes " dur=" ++ decimal duration ++ codes " size="

-- before its place: by its flags and its sample entry
unfoldable pub before_place : (flags entry : ℕ) → List ℕ
before_place flags entry = codes " flags=" ++ hex_bytes (bytes_high_first 4 flags) ++ codes " " ++ sync_text flags ++ codes " desc=" ++ decimal entry ++ codes " at="
