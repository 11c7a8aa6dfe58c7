-- An answer as bytes. A reader must believe: ten numbers of one byte each, in the order of the header's grimholdi_answer, the second of them
-- how many reply bytes there are, then those bytes. docs/CALLS.md says the same.
use Rattle.std.specs.Prelude.{ℕ, Bool, List, [], ◌∷◌, ◌++◌, leb, length, drop}
use Rattle.hub.specs.Call.{Answer}
use Rattle.runs.specs.History.{Event}

abbrev pub head_bytes : Answer → List ℕ
head_bytes a =
    a.number ∷ length a.bytes ∷ a.pid ∷ a.transfer ∷ a.lane ∷ a.address ∷ a.endpoint ∷ a.direction ∷ a.lowspeed ∷ a.toggle ∷ []

unfoldable pub answer_bytes : Answer → List ℕ
answer_bytes a = head_bytes a ++ a.bytes

-- the answers of a run, one behind the other
unfoldable pub answers_in : List Event → List ℕ
answers_in [] = []
answers_in (e ∷ es) = answer_bytes e.answer ++ answers_in es

-- room for an answer of 74 bytes for each of 506 bytes
abbrev pub answers_length : ℕ
answers_length = 37444

abbrev pub is_enough : ℕ → Bool
is_enough room = leb answers_length room

-- at the start of the output o
abbrev pub put_first : List ℕ → List ℕ → List ℕ
put_first l o = l ++ drop (length l) o
