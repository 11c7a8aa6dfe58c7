-- What C hands to each entry, and what the entry gives for it. A reader must believe: each C function hands on its numbers, its lent bytes and,
-- where it has one, its reply space, all of whatever value and length.
use Rattle.std.specs.Prelude.{ℕ, List, [], length}
use Rattle.hub.specs.Call.{Call, Control, Poll, Start, Complete, Launch, Deliver, Event, Tick, BusReset}
use Rattle.grimholdi.specs.Outcome.{EntryOutcome}
use Rattle.grimholdi.specs.Entry.{entry}

-- what C hands in beside the area: numbers, lent bytes, and the reply space as it lies in memory
pub data Asked : Type 0 where
  control : (lane : ℕ) (setup reply : List ℕ) → Asked
  poll : (lane : ℕ) (reply : List ℕ) → Asked
  start_split : (lane pid transfer lowspeed toggle address endpoint : ℕ) (payload : List ℕ) → Asked
  complete_split : (lane address endpoint direction : ℕ) (reply : List ℕ) → Asked
  launch : (reply : List ℕ) → Asked
  deliver : (result : ℕ) (payload : List ℕ) → Asked
  line_event : (event port : ℕ) → Asked
  tick : Asked
  bus_reset : Asked

abbrev pub call_of : Asked → Call
call_of (control z s r) = Control z s (length r)
call_of (poll z r) = Poll z (length r)
call_of (start_split z p t f g a e l) = Start z p t f g a e l
call_of (complete_split z a e d r) = Complete z a e d (length r)
call_of (launch r) = Launch (length r)
call_of (deliver n l) = Deliver n l
call_of (line_event e n) = Event e n
call_of tick = Tick
call_of bus_reset = BusReset

-- none where the call takes none
abbrev pub reply_of : Asked → List ℕ
reply_of (control z s r) = r
reply_of (poll z r) = r
reply_of (start_split z p t f g a e l) = []
reply_of (complete_split z a e d r) = r
reply_of (launch r) = r
reply_of (deliver n l) = []
reply_of (line_event e n) = []
reply_of tick = []
reply_of bus_reset = []

-- what the entry of this call returns and leaves: the contracts of the code say this, field by field
abbrev pub gives : List ℕ → Asked → EntryOutcome
gives a x = entry a (call_of x) (reply_of x)
