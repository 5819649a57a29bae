-- What a buffer or a table has after a borrow.
use Rattle.std.specs.Prelude.{ℕ, List}
use Rattle.std.specs.Borrow.{Lends, MutBor, Fml, Array, u8, u64}
use Rattle.mp4_ledger.specs.Memory.{Bytes, Rows, overwritten}
use Rattle.mp4_ledger.specs.contracts.buf.Buf.{the_row}
use Rattle.mp4_ledger.specs.contracts.rows.Rows64.{the_row as rows_row}

-- the buffer has the bytes that the borrow leaves, and the same room
abbrev pub LendsBytes : MutBor Bytes → MutBor (List ℕ) → Fml
LendsBytes b r = Lends the_row (Array u8 0) b r (λ w. record { bytes = overwritten r.now w; cap = b.now.cap })

-- the table has the rows that the borrow leaves, and the same room
abbrev pub LendsRows : MutBor Rows → MutBor (List (List ℕ)) → Fml
LendsRows t r = Lends rows_row (Array (Array u64 8) 0) t r (λ w. record { rows = overwritten r.now w; cap = t.now.cap })
