-- Reading a record is exact. A reader must believe: the written form of a call (Written.antt), and these statements.
use Rattle.std.specs.Prelude.{ℕ, ◌+◌, ◌≤◌, ◌≡◌, ◌↔◌, List, ◌++◌, length, take, Some, None}
use Rattle.hub.specs.Call.{Call}
use Rattle.call_bytes.specs.declared.Recorded.{Recorded}
use Rattle.call_bytes.specs.Table.{form_of}
use Rattle.call_bytes.specs.Written.{written, Bytes, Fits}
use Rattle.call_bytes.specs.Read.{read_of, call_in}

-- l starts with a record: the call c, n bytes long
pub record Takes (l : List ℕ) (c : Call) (n : ℕ) : Type 0 where
  pub record_read : Recorded
  pub known : read_of l ≡ Some record_read
  pub call : call_in record_read l ≡ c
  pub size : record_read.length ≡ n

-- the first n bytes of l are the written form of c
pub record Starts (l : List ℕ) (c : Call) (n : ℕ) : Type 0 where
  pub fits : Fits c
  pub size : n ≡ length (written c)
  pub form : take n l ≡ written c

pub record RecordExact : Type 0 where
  -- a record is taken exactly if it is the written form of a call
  pub exact : (l : List ℕ) (c : Call) (n : ℕ) → Bytes l → Takes l c n ↔ Starts l c n
  -- and refused exactly if it is that of none
  pub refused : (l : List ℕ) → Bytes l → (read_of l ≡ None) ↔ ((c : Call) (n : ℕ) → ¬ (Starts l c n))
  -- writing then reading gives the call back, whatever follows
  pub again : (c : Call) (l : List ℕ) → Fits c → Takes (written c ++ l) c (length (written c))
  -- a different form for each call
  pub apart : (c d : Call) → Fits c → Fits d → written c ≡ written d → c ≡ d
  -- at most 31 bytes beyond the call's setup or payload bytes (100 are allowed)
  pub short : (c : Call) → length (written c) ≤ 31 + length (form_of c).bytes
