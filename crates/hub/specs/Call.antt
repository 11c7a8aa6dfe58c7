-- The calls on a hub and their answers. A reader must believe: these are all the calls, with any numbers, any bytes and any length of
-- the reply space, and an answer is document 01's number with all else that a call gives back.
use Rattle.std.specs.Prelude.{ℕ, List, []}
use Rattle.hub.specs.declared.Hub.{Hub}

pub data Call : Type 0 where
  -- lane, setup bytes, length of the reply space
  Control : ℕ → List ℕ → ℕ → Call
  -- lane, length of the reply space
  Poll : ℕ → ℕ → Call
  -- lane, PID, transfer type, low-speed flag, toggle, address, endpoint, payload
  Start : ℕ → ℕ → ℕ → ℕ → ℕ → ℕ → ℕ → List ℕ → Call
  -- lane, address, endpoint, direction, length of the reply space
  Complete : ℕ → ℕ → ℕ → ℕ → ℕ → Call
  -- length of the reply space
  Launch : ℕ → Call
  -- result, payload
  Deliver : ℕ → List ℕ → Call
  -- event, port
  Event : ℕ → ℕ → Call
  Tick : Call
  BusReset : Call

-- numbers that don't apply are 0
pub record Answer : Type 0 where
  pub number : ℕ
  pub pid : ℕ
  pub transfer : ℕ
  pub lane : ℕ
  pub address : ℕ
  pub endpoint : ℕ
  pub direction : ℕ
  pub lowspeed : ℕ
  pub toggle : ℕ
  -- the n bytes that are written at the start of the reply space
  pub bytes : List ℕ

pub record Outcome : Type 0 where
  pub next : Hub
  pub answer : Answer

-- a number alone
abbrev pub plain_answer : ℕ → Answer
plain_answer n = record { number = n; pid = 0; transfer = 0; lane = 0; address = 0; endpoint = 0; direction = 0; lowspeed = 0; toggle = 0; bytes = [] }

-- a number with a PID and bytes: data, or the device's handshake
abbrev pub pid_answer : ℕ → ℕ → List ℕ → Answer
pid_answer n p l = record { number = n; pid = p; transfer = 0; lane = 0; address = 0; endpoint = 0; direction = 0; lowspeed = 0; toggle = 0; bytes = l }

abbrev pub plain : Hub → ℕ → Outcome
plain h n = record { next = h; answer = plain_answer n }

-- 0 done: state as the rule says
abbrev pub done : Hub → Outcome
done h = plain h 0

-- a refusal: nothing changed
abbrev pub refuse : ℕ → Hub → Outcome
refuse n h = plain h n

-- 2 STALL: nothing changed
abbrev pub stall : Hub → Outcome
stall h = refuse 2 h

-- 3 nothing to give: nothing changed
abbrev pub gives_nothing : Hub → Outcome
gives_nothing h = refuse 3 h

-- 1 data, n bytes
abbrev pub gives : Hub → List ℕ → Outcome
gives h l = record { next = h; answer = pid_answer 1 0 l }
