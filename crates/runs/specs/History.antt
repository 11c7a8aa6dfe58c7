-- What the calls and answers of a run say, and nothing else: which keys are open, which start-splits were stored, what a launch and a
-- delivery are for. A history has the latest event first; a start-split is named by the number of events before it.
-- A reader must believe: these are the words of document 01, "How a promise is judged".
use Rattle.std.specs.Prelude.{ℕ, List, [], ◌∷◌, ◌++◌, Bool, false, cond, not, ◌&&◌, ◌||◌, length, eqb, Option, Some, None}
use Rattle.buffer.specs.declared.Lane.{Lane}
use Rattle.buffer.specs.declared.Direction.{Direction}
use Rattle.buffer.specs.declared.Key.{Key}
use Rattle.buffer.specs.declared.DeviceResult.{DeviceResult}
use Rattle.buffer.specs.Same.{same_key}
use Rattle.buffer.specs.Key.{key_with, same_lane, direction_of}
use Rattle.buffer.specs.Lengths.{is_data}
use Rattle.translator.specs.Answers.{result_pid}
use Rattle.numbers.specs.Named.{lane_from, pid_from, result_from, direction_from}
use Rattle.request.specs.declared.Kind.{Kind}
use Rattle.request.specs.declared.Kind.TheVariants as kind
use Rattle.request.specs.Setup.{setup_of}
use Rattle.request.specs.Values.{pipe_in}
use Rattle.request.specs.Table.{kind_of}
use Rattle.hub.specs.Requests.{keyed}
use Rattle.hub.specs.Call.{Call, Control, Poll, Start, Complete, Launch, Deliver, Event as LineEvent, Tick, BusReset, Answer}

pub record Event : Type 0 where
  pub call : Call
  pub answer : Answer

abbrev pub History : Type 0
History = List Event

-- ---- what a call asks of the translator, from its numbers and bytes alone

pub data Asks : Type 0 where
  nothing : Asks
  starts : Key → Asks
  completes : Key → Asks
  launches : Asks
  delivers : DeviceResult → List ℕ → Asks
  clears : Key → Asks
  resets : Lane → Asks
  empties : Asks

-- A key is lane, address, endpoint, direction.
abbrev pub key_of : Lane → ℕ → ℕ → Direction → Key
key_of z a e d = key_with z (record { 0 = a }) e d

-- a request's lane, kind and wValue
abbrev pub request_asks : Lane → Option Kind → ℕ → Asks
request_asks z None v = nothing
request_asks z (Some kind.SetConfiguration) v = empties
request_asks z (Some kind.GetConfiguration) v = nothing
request_asks z (Some kind.GetHubDescriptor) v = nothing
request_asks z (Some kind.GetHubStatus) v = nothing
request_asks z (Some kind.GetPortStatus) v = nothing
request_asks z (Some kind.ClearHubFeature) v = nothing
request_asks z (Some kind.ClearPortFeature) v = nothing
request_asks z (Some kind.SetPortFeature) v = nothing
request_asks z (Some kind.ClearTTBuffer) v = clears (keyed z (pipe_in v))
request_asks z (Some kind.ResetTT) v = resets z

unfoldable pub asks : Call → Asks
asks (Control z s room) = request_asks (lane_from z) (kind_of (setup_of s).requesttype (setup_of s).code) (setup_of s).value
asks (Poll z room) = nothing
asks (Start z p t f g a e l) = starts (key_of (lane_from z) a e (direction_of (pid_from p)))
asks (Complete z a e d room) = completes (key_of (lane_from z) a e (direction_from d))
asks (Launch room) = launches
asks (Deliver r l) = delivers (result_from r) l
asks (LineEvent e n) = nothing
asks Tick = nothing
asks BusReset = empties

-- the key that a launch answered 1 gives
abbrev pub answer_key : Answer → Key
answer_key a = key_of (lane_from a.lane) a.address a.endpoint (direction_from a.direction)

-- ---- open and closed keys

abbrev pub is_done : Answer → Bool
is_done a = eqb a.number 0

abbrev pub gives_result : Answer → Bool
gives_result a = eqb a.number 1 || eqb a.number 9

-- A start-split answered 0 opens its key. A complete-split answered 1 or 9 and ClearTTBuffer answered 0 close their key; ResetTT
-- answered 0 closes its lane's keys; bus reset, and SetConfiguration answered 0, close all.
unfoldable pub open_after : Asks → Answer → Key → Bool → Bool
open_after nothing a k o = o
open_after (starts k') a k o = (is_done a && same_key k' k) || o
open_after (completes k') a k o = not (gives_result a && same_key k' k) && o
open_after launches a k o = o
open_after (delivers r l) a k o = o
open_after (clears k') a k o = not (is_done a && same_key k' k) && o
open_after (resets z) a k o = not (is_done a && same_lane k.lane z) && o
open_after empties a k o = not (is_done a) && o

-- Keys start closed.
unfoldable pub is_open : History → Key → Bool
is_open [] k = false
is_open (e ∷ h) k = open_after (asks e.call) e.answer k (is_open h k)

-- A start-split answered 0 is a repeat if its key is open, else it is stored.
unfoldable pub stores : Asks → Answer → Key → Bool → Bool
stores nothing a k o = false
stores (starts k') a k o = (is_done a && same_key k' k) && not o
stores (completes k') a k o = false
stores launches a k o = false
stores (delivers r l) a k o = false
stores (clears k') a k o = false
stores (resets z) a k o = false
stores empties a k o = false

-- the start-split last stored under k
unfoldable pub last_stored : History → Key → Option ℕ
last_stored [] k = None
last_stored (e ∷ h) k = cond (stores (asks e.call) e.answer k (is_open h k)) (Some (length h)) (last_stored h k)

-- ---- what a launch and a delivery are for

pub record For : Type 0 where
  pub key : Key
  pub place : Option ℕ

-- A launch answered 1 is for the key it gives and the start-split last stored under it by then.
unfoldable pub for_after : Asks → Answer → History → Option For → Option For
for_after nothing a h l = l
for_after (starts k) a h l = l
for_after (completes k) a h l = l
for_after launches a h l = cond (eqb a.number 1) (Some (record { key = answer_key a; place = last_stored h (answer_key a) })) l
for_after (delivers r x) a h l = l
for_after (clears k) a h l = l
for_after (resets z) a h l = l
for_after empties a h l = l

-- what the last launch answered 1 was for; a delivery is for that
unfoldable pub last_for : History → Option For
last_for [] = None
last_for (e ∷ h) = for_after (asks e.call) e.answer h (last_for h)

abbrev pub is_at : Option ℕ → ℕ → Bool
is_at None s = false
is_at (Some n) s = eqb n s

abbrev pub is_for : Option For → ℕ → Bool
is_for None s = false
is_for (Some l) s = is_at l.place s

-- ---- data deliveries

-- DATA0 or DATA1, and the bytes
pub record Delivered : Type 0 where
  pub pid : ℕ
  pub bytes : List ℕ

abbrev pub data_of : Asks → Answer → List Delivered
data_of nothing a = []
data_of (starts k) a = []
data_of (completes k) a = []
data_of launches a = []
data_of (delivers r l) a = cond (is_done a && is_data r) (record { pid = result_pid r; bytes = l } ∷ []) []
data_of (clears k) a = []
data_of (resets z) a = []
data_of empties a = []

-- the data deliveries answered 0 for the start-split s
unfoldable pub delivered_for : History → ℕ → List Delivered
delivered_for [] s = []
delivered_for (e ∷ h) s = cond (is_for (last_for h) s) (data_of (asks e.call) e.answer ++ delivered_for h s) (delivered_for h s)

-- the same for what may be no start-split
abbrev pub delivered_to : History → Option ℕ → List Delivered
delivered_to h None = []
delivered_to h (Some s) = delivered_for h s
