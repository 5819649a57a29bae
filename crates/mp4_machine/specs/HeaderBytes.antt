-- What is known of a header once bytes of it were taken from the front of the input, after those that came before.
use Rattle.std.specs.Prelude.{◌≡◌, ℕ, ◌<◌, ◌≤◌, List, [], ◌++◌, length, take, Option}
use Rattle.mp4_box.specs.Headers.{HasRoom, header_at, kind_of, need}
use Rattle.mp4_box.specs.declared.headers.FourCc.{FourCc}
use Rattle.mp4_box.specs.declared.headers.Header.{Header}
use Rattle.mp4_box.specs.declared.headers.Step.TheVariants as steps
use Rattle.mp4_machine.specs.declared.header_bytes.HeaderBytes.{HeaderBytes}
use Rattle.mp4_machine.specs.declared.header_bytes.HeaderBytes.TheVariants.{AtOnce, InParts}
use Rattle.mp4_machine.specs.declared.header_bytes.HeaderStatus.{HeaderStatus}
use Rattle.mp4_machine.specs.declared.header_bytes.HeaderStatus.TheVariants.{More, BadSize, Complete}

-- the bytes of a header
abbrev pub bytes_of : HeaderBytes → List ℕ
bytes_of (AtOnce bytes) = bytes.now
bytes_of (InParts header_bytes) = header_bytes

-- n bytes of the input were taken, and more are needed
pub record NeedsMore (old new input : List ℕ) (n : ℕ) : Type 0 where
  pub some : 0 < n
  pub most : n ≤ length input
  pub all : n ≡ length input
  pub bytes : new ≡ old ++ take n input
  pub short : length new < need new

-- no header has the bytes up to some of the input, which are as many as are needed to say so
pub record IsBad (old new input : List ℕ) (k : Option FourCc) : Type 0 where
  pub count : ℕ
  pub some : 0 < count
  pub most : count ≤ length input
  pub is : header_at (old ++ take count input) ≡ steps.BadSize
  pub len : length (old ++ take count input) ≡ need (old ++ take count input)
  pub kind : k ≡ kind_of (old ++ take count input)
  pub empty : new ≡ []

-- the bytes up to n of the input are this header
pub record IsComplete (old new input : List ℕ) (h : Header) (bytes : List ℕ) (n : ℕ) : Type 0 where
  pub some : 0 < n
  pub most : n ≤ length input
  pub are : bytes ≡ old ++ take n input
  pub is : header_at bytes ≡ steps.Whole h
  pub len : length bytes ≡ need bytes
  pub room : HasRoom h.size h.header_len
  pub empty : new ≡ []

-- where they came at once none had come before
abbrev pub Came : List ℕ → HeaderBytes → Type 0
Came old (AtOnce bytes) = old ≡ []
Came old (InParts header_bytes) = Unit {0}

-- one of these, by the answer. old is what had come of the header, and new what is kept of it
abbrev pub Reads : (old new input : List ℕ) → HeaderStatus → Type 0
Reads old new input (More n) = NeedsMore old new input n
Reads old new input (BadSize k) = IsBad old new input k
Reads old new input (Complete h bytes n) = IsComplete old new input h (bytes_of bytes) n × Came old bytes
