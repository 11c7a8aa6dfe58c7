-- Internal, pinned by `CallsExact` (Claims.antt): the calls of bytes that hold record after record.
use Rattle.std.specs.Prelude.{ℕ, zero, suc, List, [], ◌∷◌, length, drop, Option, Some, None, option_and_then, unwrap_or}
use Rattle.hub.specs.Call.{Call}
use Rattle.call_bytes.specs.Read.{read_of, call_in}

abbrev pub cons_to : Call → Option (List Call) → Option (List Call)
cons_to c None = None
cons_to c (Some cs) = Some (c ∷ cs)

-- no bytes hold no calls
abbrev pub end_or : List ℕ → Option (List Call) → Option (List Call)
end_or [] o = Some []
end_or (x ∷ l) o = o

-- of at most n records: the first one's call, then those of the bytes behind it
unfoldable pub calls_in : ℕ → List ℕ → Option (List Call)
calls_in zero l = end_or l None
calls_in (suc n) l = end_or l (option_and_then (λ r. cons_to (call_in r l) (calls_in n (drop r.length l))) (read_of l))

-- no record is empty, so that there are at most as many as bytes
abbrev pub calls_of : List ℕ → Option (List Call)
calls_of l = calls_in (length l) l

-- the calls, where the bytes are records
abbrev pub listed : Option (List Call) → List Call
listed o = unwrap_or o []
