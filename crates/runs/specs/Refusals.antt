-- Which calls are refused, with which number. A reader must believe: for each refusal, the sentence of document 01 that says when it
-- applies to a call; `rank`, the order where several apply; and that a refused call changes nothing and gives no bytes.
use Rattle.std.specs.Prelude.{ℕ, ◌<◌, ◌≡◌, ◌↔◌, ◌⊎◌, Bool, true, false, [], length, Result, Err}
use Rattle.port.specs.declared.PortNumber.{PortNumber}
use Rattle.port.specs.declared.LineEvent.{LineEvent}
use Rattle.port.specs.Status.{has_change}
use Rattle.port.specs.Words.{NamedIn, Among}
use Rattle.ports.specs.Ports.{port_at}
use Rattle.buffer.specs.declared.Key.{Key}
use Rattle.buffer.specs.declared.Pid.{Pid}
use Rattle.buffer.specs.declared.Pid.TheVariants as pid
use Rattle.buffer.specs.declared.TransferType.{TransferType}
use Rattle.buffer.specs.declared.TransferType.TheVariants as transfer
use Rattle.buffer.specs.declared.Direction.{Direction}
use Rattle.buffer.specs.declared.DeviceResult.{DeviceResult}
use Rattle.buffer.specs.declared.DeviceResult.TheVariants as result
use Rattle.buffer.specs.declared.Slot.{Slot}
use Rattle.buffer.specs.declared.Slot.TheVariants.{Empty, Pending, Ready, Old}
use Rattle.buffer.specs.Key.{key_of}
use Rattle.buffer.specs.Lengths.{suits}
use Rattle.buffer.specs.Buffer.{holds, is_pending, is_free}
use Rattle.translator.specs.declared.LowSide.{LowSide}
use Rattle.translator.specs.declared.LowSide.TheVariants.{Idle, Running, Abandoned}
use Rattle.translator.specs.Translator.{at}
use Rattle.translator.specs.Limit.{AtLimit, NoRepeat}
use Rattle.translator.specs.Answers.{pid_number}
use Rattle.numbers.specs.Written.{type_number, direction_number, result_written, event_number}
use Rattle.numbers.specs.Named.{result_from, event_from, lane_from}
use Rattle.numbers.specs.Split.{split_from, key_from}
use Rattle.request.specs.declared.Fault.{Fault}
use Rattle.request.specs.declared.Request.{Request}
use Rattle.request.specs.Request.{request_of}
use Rattle.hub.specs.declared.Hub.{Hub}
use Rattle.hub.specs.Call.{Call, Control, Poll, Start, Complete, Launch, Deliver, Event, Tick, BusReset, Outcome}
use Rattle.hub.specs.Requests.{served_always}
use Rattle.hub.specs.Valid.{ValidHub}

-- Answers 2 to 8 are the refusals.
pub data Refusal : Type 0 where
  outside : Refusal
  short : Refusal
  silent : Refusal
  misplaced : Refusal
  stall : Refusal
  nak : Refusal
  nyet : Refusal

abbrev pub number_of : Refusal → ℕ
-- a number or length outside the rules
number_of outside = 6
-- reply space under 64 bytes
number_of short = 7
-- silent, hub unconfigured
number_of silent = 5
-- not in this state
number_of misplaced = 8
-- STALL
number_of stall = 2
-- nothing to give, or no buffer (NAK)
number_of nak = 3
-- NYET
number_of nyet = 4

-- Order where several apply: 6, 7, 5, 8, then the rest. Of the rest no two apply to one call; it needs an order all the same.
abbrev pub rank : Refusal → ℕ
rank outside = 0
rank short = 1
rank silent = 2
rank misplaced = 3
rank stall = 4
rank nak = 5
rank nyet = 6

-- the slot of buffer i
abbrev pub slot_at : Hub → ℕ → Slot
slot_at h i = (at h.translator.buffers i).slot

-- Numbers: device address 0 to 127; endpoint 0 to 15; payload 0 to 64 bytes. A lane outside 0 and 1 is 6.
abbrev pub OverAddress : ℕ → Type 0
OverAddress a = 127 < a

abbrev pub OverEndpoint : ℕ → Type 0
OverEndpoint e = 15 < e

abbrev pub OverPayload : ℕ → Type 0
OverPayload n = 64 < n

abbrev pub UnknownLane : ℕ → Type 0
UnknownLane z = 1 < z

-- An event, PID, type, direction or result number that isn't named here, or a flag or toggle above 1, is 6.
abbrev pub UnknownPid : ℕ → Type 0
UnknownPid p = (v : Pid) → ¬ (p ≡ pid_number v)

abbrev pub UnknownType : ℕ → Type 0
UnknownType t = (v : TransferType) → ¬ (t ≡ type_number v)

abbrev pub UnknownDirection : ℕ → Type 0
UnknownDirection d = (v : Direction) → ¬ (d ≡ direction_number v)

abbrev pub UnknownResult : ℕ → Type 0
UnknownResult r = (v : DeviceResult) → ¬ (r ≡ result_written v)

abbrev pub UnknownEvent : ℕ → Type 0
UnknownEvent e = (v : LineEvent) → ¬ (e ≡ event_number v)

abbrev pub OverFlag : ℕ → Type 0
OverFlag f = 1 < f

-- N ports, numbered from 1.
abbrev pub NoSuchPort : ℕ → ℕ → Type 0
NoSuchPort count n = (n ≡ 0) ⊎ (count < n)

-- IN carries none
abbrev pub PayloadOnIn : ℕ → ℕ → Type 0
PayloadOnIn p n = (p ≡ pid_number pid.In) × (¬ (n ≡ 0))

-- SETUP is control with 8 bytes, else 6.
abbrev pub WrongSetup : ℕ → ℕ → ℕ → Type 0
WrongSetup p t n = (p ≡ pid_number pid.Setup) × ((¬ (t ≡ type_number transfer.Control)) ⊎ (¬ (n ≡ 8)))

-- Payload over 64, or on a result that isn't data: 6.
abbrev pub PayloadOnHandshake : ℕ → ℕ → Type 0
PayloadOnHandshake r n = (¬ (r ≡ result_written result.Data0)) × (¬ (r ≡ result_written result.Data1)) × (¬ (n ≡ 0))

-- 6 a number or length outside the rules
abbrev pub Outside : Hub → Call → Type 0
-- Setup bytes are exactly 8, else 6.
Outside h (Control z s room) = (¬ (length s ≡ 8)) ⊎ UnknownLane z
Outside h (Poll z room) = UnknownLane z
Outside h (Start z p t f g a e l) =
    UnknownLane z ⊎ UnknownPid p ⊎ UnknownType t ⊎ OverFlag f ⊎ OverFlag g ⊎ OverAddress a ⊎ OverEndpoint e
    ⊎ OverPayload (length l) ⊎ PayloadOnIn p (length l) ⊎ WrongSetup p t (length l)
Outside h (Complete z a e d room) = UnknownLane z ⊎ OverAddress a ⊎ OverEndpoint e ⊎ UnknownDirection d
Outside h (Launch room) = ⊥
Outside h (Deliver r l) = UnknownResult r ⊎ OverPayload (length l) ⊎ PayloadOnHandshake r (length l)
Outside h (Event e n) = UnknownEvent e ⊎ NoSuchPort h.identity.ports n
Outside h Tick = ⊥
Outside h BusReset = ⊥

-- 7 reply space under 64 bytes. Calls that can write take reply space: control request, poll, launch, complete-split.
abbrev pub Short : Call → Type 0
Short (Control z s room) = room < 64
Short (Poll z room) = room < 64
Short (Start z p t f g a e l) = ⊥
Short (Complete z a e d room) = room < 64
Short (Launch room) = room < 64
Short (Deliver r l) = ⊥
Short (Event e n) = ⊥
Short Tick = ⊥
Short BusReset = ⊥

-- 5 silent, hub unconfigured. On an unconfigured hub poll, launch, deliver and both splits answer 5; control requests never do.
abbrev pub Silent : Hub → Call → Type 0
Silent h (Control z s room) = ⊥
Silent h (Poll z room) = h.configured ≡ false
Silent h (Start z p t f g a e l) = h.configured ≡ false
Silent h (Complete z a e d room) = h.configured ≡ false
Silent h (Launch room) = h.configured ≡ false
Silent h (Deliver r l) = h.configured ≡ false
Silent h (Event e n) = ⊥
Silent h Tick = ⊥
Silent h BusReset = ⊥

-- the low side is occupied: a transaction runs, or was abandoned while it ran
abbrev pub Occupied : LowSide → Type 0
Occupied Idle = ⊥
Occupied (Running n) = Unit {0}
Occupied Abandoned = Unit {0}

-- the result doesn't suit the PID of the transaction in this slot; one that runs is pending, so no other slot arises
abbrev pub Unsuited : DeviceResult → Slot → Type 0
Unsuited r Empty = Unit {0}
Unsuited r (Pending s p) = suits s.pid r ≡ false
Unsuited r (Ready s q) = Unit {0}
Unsuited r (Old s q) = Unit {0}

-- none runs or the result doesn't suit the PID; an abandoned transaction takes any result
abbrev pub Untaken : Hub → DeviceResult → LowSide → Type 0
Untaken h r Idle = Unit {0}
Untaken h r (Running n) = Unsuited r (slot_at h n.0)
Untaken h r Abandoned = ⊥

-- 8 not in this state
abbrev pub Misplaced : Hub → Call → Type 0
Misplaced h (Control z s room) = ⊥
Misplaced h (Poll z room) = ⊥
Misplaced h (Start z p t f g a e l) = ⊥
Misplaced h (Complete z a e d room) = ⊥
-- Launch: 8 if the low side is occupied.
Misplaced h (Launch room) = Occupied h.translator.low
-- Deliver: 8 if none runs or the result doesn't suit the PID.
Misplaced h (Deliver r l) = Untaken h (result_from r) h.translator.low
-- Line events on an unconfigured hub answer 8. Events elsewhere than named answer 8.
Misplaced h (Event e n) = (h.configured ≡ false) ⊎ (¬ (NamedIn (event_from e) (port_at h.ports (record { 0 = n })).state))
-- A tick on an unconfigured hub answers 0. A configured hub answers 0 to every tick.
Misplaced h Tick = ⊥
-- Bus reset: done in every state.
Misplaced h BusReset = ⊥

-- setup bytes that are none of the table's requests read as this
abbrev pub IsWrong : Result Request Fault → Type 0
IsWrong r = (f : Fault) × (r ≡ Err f)

-- Anything else is 2. Unconfigured, only the first three are served; others are 2.
abbrev pub Unserved : Bool → Result Request Fault → Type 0
Unserved on r = IsWrong r ⊎ ((on ≡ false) × (served_always r ≡ false))

-- 2 STALL
abbrev pub Stalled : Hub → Call → Type 0
-- Wrong fields inside setup bytes, a port number included, are 2.
Stalled h (Control z s room) = Unserved h.configured (request_of h.identity.ports s)
Stalled h (Poll z room) = ⊥
Stalled h (Start z p t f g a e l) = ⊥
-- Complete-split carries a key alone: no match, 2.
Stalled h (Complete z a e d room) = (i : ℕ) → holds (key_from z a e d) (slot_at h i) ≡ false
Stalled h (Launch room) = ⊥
Stalled h (Deliver r l) = ⊥
Stalled h (Event e n) = ⊥
Stalled h Tick = ⊥
Stalled h BusReset = ⊥

-- none of the buffers in use passes the test
abbrev pub NoneInUse : (Slot → Bool) → Hub → Type 0
NoneInUse f h = (i : ℕ) → i < h.translator.count → f (slot_at h i) ≡ false

-- 3 nothing to give, or no buffer (NAK)
abbrev pub NothingToGive : Hub → Call → Type 0
NothingToGive h (Control z s room) = ⊥
-- Poll: answer 3 if no change bit is set.
NothingToGive h (Poll z room) = (m : PortNumber) → Among h.identity.ports m → has_change (port_at h.ports m).changes ≡ false
-- Start-split: no key match, the lowest-numbered empty or old one; none, 3. A start-split whose storing would pass the limit, in its own
-- old buffer too, is answer 3; a repeat of a key held pending or ready is not.
NothingToGive h (Start z p t f g a e l) =
    NoRepeat (key_of (split_from z p t f g a e)) h.translator
    × (AtLimit (lane_from z) h.translator ⊎ (NoneInUse (holds (key_of (split_from z p t f g a e))) h × NoneInUse is_free h))
NothingToGive h (Complete z a e d room) = ⊥
-- Launch: 3 if none is pending.
NothingToGive h (Launch room) = (i : ℕ) → is_pending (slot_at h i) ≡ false
NothingToGive h (Deliver r l) = ⊥
NothingToGive h (Event e n) = ⊥
NothingToGive h Tick = ⊥
NothingToGive h BusReset = ⊥

-- a buffer holds the key, and is pending
pub record Awaited (h : Hub) (k : Key) : Type 0 where
  pub number : ℕ
  pub held : holds k (slot_at h number) ≡ true
  pub pending : is_pending (slot_at h number) ≡ true

-- 4 NYET
abbrev pub NotYet : Hub → Call → Type 0
NotYet h (Control z s room) = ⊥
NotYet h (Poll z room) = ⊥
NotYet h (Start z p t f g a e l) = ⊥
-- Complete-split carries a key alone: pending, 4.
NotYet h (Complete z a e d room) = Awaited h (key_from z a e d)
NotYet h (Launch room) = ⊥
NotYet h (Deliver r l) = ⊥
NotYet h (Event e n) = ⊥
NotYet h Tick = ⊥
NotYet h BusReset = ⊥

-- this refusal applies to the call
abbrev pub Applies : Refusal → Hub → Call → Type 0
Applies outside h c = Outside h c
Applies short h c = Short c
Applies silent h c = Silent h c
Applies misplaced h c = Misplaced h c
Applies stall h c = Stalled h c
Applies nak h c = NothingToGive h c
Applies nyet h c = NotYet h c

-- it applies, and none that comes before it does
pub record Due (r : Refusal) (h : Hub) (c : Call) : Type 0 where
  pub applies : Applies r h c
  pub none_before : (q : Refusal) → rank q < rank r → ¬ (Applies q h c)

-- 0 done (ACK), 1 data, 9 the device's handshake
abbrev pub Serves : ℕ → Type 0
Serves n = (n ≡ 0) ⊎ (n ≡ 1) ⊎ (n ≡ 9)

-- ---- of rules f, on every valid hub, for any call

-- a refusal's number is answered exactly if the refusal is due
abbrev pub Exactly : (Hub → Call → Outcome) → Type 0
Exactly f = (r : Refusal) (h : Hub) (c : Call) → ValidHub h → ((f h c).answer.number ≡ number_of r) ↔ Due r h c

-- and then nothing is changed and nothing given
abbrev pub Unchanged : (Hub → Call → Outcome) → Type 0
Unchanged f = (r : Refusal) (h : Hub) (c : Call) → ValidHub h → (f h c).answer.number ≡ number_of r → ((f h c).next ≡ h) × ((f h c).answer.bytes ≡ [])

-- and no other number is answered but 0, 1 and 9
abbrev pub Numbered : (Hub → Call → Outcome) → Type 0
Numbered f = (h : Hub) (c : Call) → ValidHub h → ((r : Refusal) × ((f h c).answer.number ≡ number_of r)) ⊎ Serves (f h c).answer.number

pub record Refusals (f : Hub → Call → Outcome) : Type 0 where
  pub exactly : Exactly f
  pub unchanged : Unchanged f
  pub numbered : Numbered f
