-- When groups of bytes go out that are put into a block.
use Rattle.std.specs.Prelude.{ℕ, zero, suc, ◌+◌, nat_lt, if◌then◌else◌}

-- how many bytes wait after so many groups of 16 bytes that were put one by one, where so many waited before: where there is no room for
-- the next, what waits is sent first
unfoldable pub waiting_after : ℕ → ℕ → ℕ
waiting_after n zero = n
waiting_after n (suc k) = if nat_lt 16384 (n + 16) then waiting_after 16 k else waiting_after (n + 16) k
