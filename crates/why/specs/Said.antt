-- When a reason is true of a hub and a call. A reader must believe: these are the words of document 02, C-15 and C-18, over document 01's
-- state and table; what is wrong with a request is wrong by the table, and the order of things is `place`.
use Rattle.std.specs.Prelude.{ℕ, ◌<◌, ◌≤◌, ◌≡◌, ◌↔◌, Bool, true, false, ◌&&◌, ◌||◌, List, [], ◌∷◌, map, eqb, leb, get_or, Option, None, Some, is_some}
use Rattle.port.specs.declared.Changes.{Changes}
use Rattle.port.specs.declared.ChangeBit.{ChangeBit}
use Rattle.port.specs.Reaction.{no_changes}
use Rattle.port.specs.Status.{byte_of, has_change}
use Rattle.port.specs.Words.{change_bit}
use Rattle.buffer.specs.declared.Key.{Key}
use Rattle.buffer.specs.declared.BufferNumber.{BufferNumber}
use Rattle.buffer.specs.Key.{key_of}
use Rattle.buffer.specs.Words.{Holding, OldWith, Elsewhere, With, Vacated}
use Rattle.translator.specs.Limit.{AtLimit}
use Rattle.translator.specs.TwoSteps.{InUse, Buffered}
use Rattle.numbers.specs.Split.{split_from}
use Rattle.request.specs.declared.Kind.{Kind}
use Rattle.request.specs.declared.Kind.TheVariants as kind
use Rattle.request.specs.Setup.{setup_of}
use Rattle.request.specs.Table.{kind_of, value_fits, index_fits, length_fits}
use Rattle.hub.specs.declared.Hub.{Hub}
use Rattle.hub.specs.Call.{Call, Control, Poll, Start, Complete, Launch, Deliver, Event, Tick, BusReset, Answer, plain_answer, pid_answer}
use Rattle.hub.specs.Valid.{port_indexed}
use Rattle.runs.specs.Refusals.{Refusal, number_of, slot_at, Applies, Due}
use Rattle.why.specs.declared.RequestFault.{RequestFault}
use Rattle.why.specs.declared.RequestFault.TheVariants as wrong
use Rattle.why.specs.declared.PortChanges.{PortChanges}
use Rattle.why.specs.declared.Reason.{Reason}
use Rattle.why.specs.declared.Reason.TheVariants.{Nothing, Number, HeldBy, Reused, TookFree, LimitReached, NoRoom, Changed, Wrong}

-- ---- a start-split with the key k

-- the lane is at its limit, and no buffer is pending or ready with the key
pub record Limited (h : Hub) (k : Key) : Type 0 where
  pub full : AtLimit k.lane h.translator
  pub no_repeat : (i : ℕ) → InUse h.translator i → ¬ (Holding k (slot_at h i))

-- the lane may store one more; no key match; b is the lowest-numbered empty or old one
pub record Taken (h : Hub) (k : Key) (b : BufferNumber) : Type 0 where
  pub may : ¬ (AtLimit k.lane h.translator)
  pub free : Buffered Vacated h.translator b
  pub lowest : (i : ℕ) → i < b.0 → ¬ (Vacated (slot_at h i))
  pub no_match : (i : ℕ) → InUse h.translator i → ¬ (With k (slot_at h i))

abbrev pub SaidOfStart : Reason → Hub → Key → Type 0
-- held already by buffer b
SaidOfStart (HeldBy b) h k = Buffered (Holding k) h.translator b
-- reused buffer b, the own old one
SaidOfStart (Reused b) h k = (¬ (AtLimit k.lane h.translator)) × Buffered (OldWith k) h.translator b
-- took free buffer b
SaidOfStart (TookFree b) h k = Taken h k b
-- the lane's limit, named before no room
SaidOfStart LimitReached h k = Limited h k
-- no room because every buffer is pending or ready under another key
SaidOfStart NoRoom h k = (¬ (AtLimit k.lane h.translator)) × ((i : ℕ) → InUse h.translator i → Elsewhere k (slot_at h i))
SaidOfStart Nothing h k = ⊥
SaidOfStart (Number n) h k = ⊥
SaidOfStart (Changed c) h k = ⊥
SaidOfStart (Wrong w) h k = ⊥

-- ---- a poll

-- by port, port 1 first
abbrev pub by_port : PortChanges → List Changes
by_port c = c.port1 ∷ c.port2 ∷ c.port3 ∷ c.port4 ∷ c.port5 ∷ c.port6 ∷ c.port7 ∷ []

-- one byte, bit p for port p, bit 0 zero
abbrev pub bitmap_by : PortChanges → ℕ
bitmap_by c = byte_of (false ∷ map has_change (by_port c))

-- the reason names change bit b of the port with index i, which is port i + 1
abbrev pub names : PortChanges → ℕ → ChangeBit → Bool
names c i b = change_bit b (get_or (by_port c) i no_changes)

-- change bit b of the hub's port i + 1 is set
pub record Stands (h : Hub) (i : ℕ) (b : ChangeBit) : Type 0 where
  pub one_of_n : i < h.identity.ports
  pub set : change_bit b (port_indexed h i).changes ≡ true

pub record SomeStands (h : Hub) : Type 0 where
  pub index : ℕ
  pub bit : ChangeBit
  pub stands : Stands h index bit

-- it names each port and change bit that made a bit one, and no other; and there is one
pub record NamesChanges (h : Hub) (c : PortChanges) : Type 0 where
  pub each : (i : ℕ) (b : ChangeBit) → (names c i b ≡ true) ↔ Stands h i b
  pub some_one : SomeStands h

abbrev pub SaidOfPoll : Reason → Hub → Type 0
SaidOfPoll (Changed c) h = NamesChanges h c
-- no change bit is set
SaidOfPoll Nothing h = ¬ (SomeStands h)
SaidOfPoll (Number n) h = ⊥
SaidOfPoll (HeldBy b) h = ⊥
SaidOfPoll (Reused b) h = ⊥
SaidOfPoll (TookFree b) h = ⊥
SaidOfPoll LimitReached h = ⊥
SaidOfPoll NoRoom h = ⊥
SaidOfPoll (Wrong w) h = ⊥

-- ---- a control request with the setup bytes s

-- Unconfigured, only the first three are served.
abbrev pub served_unconfigured : Kind → Bool
served_unconfigured kind.SetConfiguration = true
served_unconfigured kind.GetConfiguration = true
served_unconfigured kind.GetHubDescriptor = true
served_unconfigured kind.GetHubStatus = false
served_unconfigured kind.GetPortStatus = false
served_unconfigured kind.ClearHubFeature = false
served_unconfigured kind.ClearPortFeature = false
served_unconfigured kind.SetPortFeature = false
served_unconfigured kind.ClearTTBuffer = false
served_unconfigured kind.ResetTT = false

abbrev pub kind_in : List ℕ → Option Kind
kind_in s = kind_of (setup_of s).requesttype (setup_of s).code

-- a test of the row that type and code name; it fails where they name none
abbrev pub of_kind : (Kind → Bool) → Option Kind → Bool
of_kind f None = false
of_kind f (Some k) = f k

-- whether this thing is right in setup bytes s
abbrev pub right : RequestFault → Hub → List ℕ → Bool
right wrong.TypeOrCode h s = is_some (kind_in s)
right wrong.Unconfigured h s = h.configured || of_kind served_unconfigured (kind_in s)
right wrong.Value h s = of_kind (λ k. value_fits k (setup_of s).value) (kind_in s)
right wrong.Index h s = of_kind (λ k. index_fits h.identity.ports k (setup_of s).index) (kind_in s)
right wrong.Length h s = of_kind (λ k. length_fits k (setup_of s).length) (kind_in s)

-- in the order type and code, hub unconfigured, value, index, length
abbrev pub place : RequestFault → ℕ
place wrong.TypeOrCode = 0
place wrong.Unconfigured = 1
place wrong.Value = 2
place wrong.Index = 3
place wrong.Length = 4

-- the first thing that is wrong
pub record FirstWrong (w : RequestFault) (h : Hub) (s : List ℕ) : Type 0 where
  pub is_wrong : right w h s ≡ false
  pub before : (v : RequestFault) → place v < place w → right v h s ≡ true

abbrev pub SaidOfRequest : Reason → Hub → List ℕ → Type 0
SaidOfRequest (Wrong w) h s = FirstWrong w h s
-- nothing is wrong
SaidOfRequest Nothing h s = (w : RequestFault) → right w h s ≡ true
SaidOfRequest (Number n) h s = ⊥
SaidOfRequest (HeldBy b) h s = ⊥
SaidOfRequest (Reused b) h s = ⊥
SaidOfRequest (TookFree b) h s = ⊥
SaidOfRequest LimitReached h s = ⊥
SaidOfRequest NoRoom h s = ⊥
SaidOfRequest (Changed c) h s = ⊥

-- ---- any call

-- Other answers get no reason.
abbrev pub NoReason : Reason → Type 0
NoReason Nothing = Unit {0}
NoReason (Number n) = ⊥
NoReason (HeldBy b) = ⊥
NoReason (Reused b) = ⊥
NoReason (TookFree b) = ⊥
NoReason LimitReached = ⊥
NoReason NoRoom = ⊥
NoReason (Changed c) = ⊥
NoReason (Wrong w) = ⊥

-- what a reason says of a hub and a call, 5 to 8 apart
abbrev pub Said : Reason → Hub → Call → Type 0
Said r h (Control z s room) = SaidOfRequest r h s
Said r h (Poll z room) = SaidOfPoll r h
Said r h (Start z p t f g a e l) = SaidOfStart r h (key_of (split_from z p t f g a e))
Said r h (Complete z a e d room) = NoReason r
Said r h (Launch room) = NoReason r
Said r h (Deliver x l) = NoReason r
Said r h (Event e n) = NoReason r
Said r h Tick = NoReason r
Said r h BusReset = NoReason r

-- none of 5 to 8 applies
abbrev pub Passes : Hub → Call → Type 0
Passes h c = (q : Refusal) → 5 ≤ number_of q → ¬ (Applies q h c)

pub data TrueOf (r : Reason) (h : Hub) (c : Call) : Type 0 where
  -- A call answered 5 to 8 gets that number as its reason.
  number : (q : Refusal) → 5 ≤ number_of q → Due q h c → r ≡ Number (number_of q) → TrueOf r h c
  -- any other gets what is said of it
  says : Passes h c → Said r h c → TrueOf r h c

-- ---- which answers get a reason

-- 5 to 8
abbrev pub is_number : ℕ → Bool
is_number n = leb 5 n && leb n 8

abbrev pub gets_reason : Call → ℕ → Bool
-- a refused request
gets_reason (Control z s room) n = is_number n || eqb n 2
-- a poll answered 1
gets_reason (Poll z room) n = is_number n || eqb n 1
-- a start-split
gets_reason (Start z p t f g a e l) n = true
-- Other answers get no reason.
gets_reason (Complete z a e d room) n = is_number n
gets_reason (Launch room) n = is_number n
gets_reason (Deliver r l) n = is_number n
gets_reason (Event e m) n = is_number n
gets_reason Tick n = is_number n
gets_reason BusReset n = is_number n

-- ---- what a reason is enough for

abbrev pub enough_for : Reason → Option Answer
-- 0 done (ACK)
enough_for (HeldBy b) = Some (plain_answer 0)
enough_for (Reused b) = Some (plain_answer 0)
enough_for (TookFree b) = Some (plain_answer 0)
-- 3 no buffer (NAK)
enough_for LimitReached = Some (plain_answer 3)
enough_for NoRoom = Some (plain_answer 3)
-- 1 data
enough_for (Changed c) = Some (pid_answer 1 0 (bitmap_by c ∷ []))
-- 2 STALL
enough_for (Wrong w) = Some (plain_answer 2)
-- the number is given where 5 to 8 applies; no reason is enough for nothing
enough_for (Number n) = None
enough_for Nothing = None
