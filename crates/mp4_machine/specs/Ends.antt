-- The source and the sink of a run.
use Rattle.std.specs.Prelude.{ℕ, List, Bool, Option}

-- a source before and after a call: the bytes that its reads will give.
-- After the call also whether it has ended or failed, and how many bytes its last read gave
pub record Received : Type 0 where
  pub left : Option (List ℕ)
  pub left' : Option (List ℕ)
  pub ended : Bool
  pub failed : Bool
  pub last : ℕ

abbrev pub received : {R : Type 0} → (remaining : R → Option (List ℕ)) → (has_ended has_failed : R → Bool) → (last_read : R → ℕ) → (r r' : R) → Received
received remaining has_ended has_failed last_read r r' = record { left = remaining r; left' = remaining r'; ended = has_ended r'; failed = has_failed r'; last = last_read r' }

-- a sink before and after a call: the bytes that it took, and whether it had failed
pub record Sent : Type 0 where
  pub written : Option (List ℕ)
  pub written' : Option (List ℕ)
  pub failed : Bool
  pub failed' : Bool

abbrev pub sent : {W : Type 0} → (contents : W → Option (List ℕ)) → (has_failed : W → Bool) → (w w' : W) → Sent
sent contents has_failed w w' = record { written = contents w; written' = contents w'; failed = has_failed w; failed' = has_failed w' }

-- both ends of a run
pub record Ends : Type 0 where
  pub left : Option (List ℕ)
  pub left' : Option (List ℕ)
  pub written : Option (List ℕ)
  pub written' : Option (List ℕ)
  pub ended : Bool
  pub read_failed : Bool
  pub last_read : ℕ
  pub write_failed : Bool
  pub write_failed' : Bool

abbrev pub between : Received → Sent → Ends
between r s = record {
  left = r.left;
  left' = r.left';
  written = s.written;
  written' = s.written';
  ended = r.ended;
  read_failed = r.failed;
  last_read = r.last;
  write_failed = s.failed;
  write_failed' = s.failed';
}
