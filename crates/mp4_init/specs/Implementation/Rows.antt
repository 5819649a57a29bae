-- Only the code's own way; no public clause needs this.
-- A track as a row of eight numbers: its values in the first five, and the links of its node in two more.
use Rattle.std.specs.Prelude.{ℕ, List, ◌/◌, ◌%◌, ◌^◌, slice_index}
use Rattle.mp4_init.specs.declared.search_tree.Node.{Node}
use Rattle.mp4_init.specs.declared.table.Track.{Track}

-- two numbers of 32 bits in one of 64
abbrev pub upper : ℕ → ℕ
upper word = word / 2 ^ 32

abbrev pub lower : ℕ → ℕ
lower word = word % 2 ^ 32

unfoldable pub track_of_row : List ℕ → Track
track_of_row r = record {
  id = upper (slice_index r 0);
  timescale = lower (slice_index r 0);
  entries = upper (slice_index r 1);
  desc = lower (slice_index r 1);
  duration = upper (slice_index r 2);
  size = lower (slice_index r 2);
  flags = upper (slice_index r 3);
  handler = lower (slice_index r 3);
  next = slice_index r 4;
}

-- the node of a track in the search for its track_ID
unfoldable pub node_of_row : List ℕ → Node
node_of_row r = record { id = upper (slice_index r 0); even = slice_index r 5; odd = slice_index r 6 }
