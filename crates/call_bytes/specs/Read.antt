-- Internal, pinned by `RecordExact` (Claims.antt): reading a record at the start of bytes.
use Rattle.std.specs.Prelude.{ℕ, ◌+◌, ◌*◌, List, [], ◌∷◌, cond, leb, length, get_or, take, drop, Option, Some, None, option_and_then}
use Rattle.hub.specs.Call.{Call}
use Rattle.call_bytes.specs.declared.CallKind.{CallKind}
use Rattle.call_bytes.specs.declared.Recorded.{Recorded}
use Rattle.call_bytes.specs.Words.{half_at, words_at}
use Rattle.call_bytes.specs.Table.{kind_of, numbers_of, carries, call_of}

-- where the numbers end
abbrev pub head_of : CallKind → ℕ
head_of k = 1 + 4 * numbers_of k

-- where setup or payload bytes start
abbrev pub start_of : CallKind → ℕ
start_of k = cond (carries k) (head_of k + 2) (head_of k)

-- how many there are
abbrev pub size_in : CallKind → List ℕ → ℕ
size_in k l = cond (carries k) (half_at l (head_of k)) 0

-- seven numbers, zeros behind those that there are
abbrev pub seven : List ℕ → List ℕ
seven ns = get_or ns 0 0 ∷ get_or ns 1 0 ∷ get_or ns 2 0 ∷ get_or ns 3 0 ∷ get_or ns 4 0 ∷ get_or ns 5 0 ∷ get_or ns 6 0 ∷ []

abbrev pub recorded_as : CallKind → List ℕ → Recorded
recorded_as k l =
    record { kind = k; numbers = seven (words_at l 1 (numbers_of k)); start = start_of k; size = size_in k l; length = start_of k + size_in k l }

-- where all of its numbers and bytes are there
abbrev pub whole_as : CallKind → List ℕ → Option Recorded
whole_as k l = cond (leb (start_of k + size_in k l) (length l)) (Some (recorded_as k l)) None

-- the record that l starts with, or none
unfoldable pub read_of : List ℕ → Option Recorded
read_of l = option_and_then (λ k. whole_as k l) (kind_of (get_or l 0 0))

-- the call of a record that was read from l
abbrev pub call_in : Recorded → List ℕ → Call
call_in r l = call_of r.kind r.numbers (take r.size (drop r.start l))
