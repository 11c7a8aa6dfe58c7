-- Rules with one mistake each in what a launch answers, and that the claim on the order of launches shuts each out.
-- A reader must believe: each rule below is document 01's but for what its comment says.
use Rattle.std.specs.Prelude.{ℕ, cond, not, eqb, take, set, Err, None, Ok, Option, Result, Some}
use Rattle.buffer.specs.declared.StartSplit.{StartSplit}
use Rattle.buffer.specs.declared.Direction.TheVariants as direction
use Rattle.buffer.specs.declared.BufferNumber.{BufferNumber}
use Rattle.buffer.specs.Buffer.{vacant, is_pending, holds}
use Rattle.translator.specs.declared.NotLaunched.{NotLaunched}
use Rattle.translator.specs.declared.Translator.{Translator}
use Rattle.translator.specs.declared.LowSide.{LowSide}
use Rattle.translator.specs.declared.LowSide.TheVariants.{Idle, Running, Abandoned}
use Rattle.translator.specs.declared.NotLaunched.TheVariants.{NothingPending, Occupied}
use Rattle.translator.specs.Translator.{at}
use Rattle.translator.specs.Search.{find}
use Rattle.translator.specs.Launch.{unlaunched, launch}
use Rattle.numbers.specs.Written.{direction_number}
use Rattle.hub.specs.declared.Hub.{Hub}
use Rattle.hub.specs.Call.{Call, Control, Poll, Start, Complete, Launch, Deliver, Event, Tick, BusReset, Answer, Outcome}
use Rattle.hub.specs.Step.{step}
use Rattle.runs.specs.Altered.{TranslatorRules, with_launch, with_clear, altered}
use Rattle.runs.specs.Machine.{ruled}
use Rattle.runs.specs.Order.{LaunchOrder}

-- ---- a launch is answered 3 unless buffer 0 is pending

abbrev pub first_alone : TranslatorRules
first_alone = with_launch (λ t. cond (is_pending (at t.buffers 0).slot) (launch t) (unlaunched t NothingPending))

-- ---- the rules' launch, answered as f says

abbrev pub answered_as : (Result StartSplit NotLaunched → Result StartSplit NotLaunched) → TranslatorRules
answered_as f = with_launch (λ t. record { next = (launch t).next; answer = f (launch t).answer; payload = (launch t).payload })

-- the toggle is inverted
abbrev pub inverted : StartSplit → StartSplit
inverted s =
    record {
      lane = s.lane;
      pid = s.pid;
      transfer = s.transfer;
      lowspeed = s.lowspeed;
      toggle = not s.toggle;
      address = s.address;
      endpoint = s.endpoint;
    }

abbrev pub inverted_toggle : Result StartSplit NotLaunched → Result StartSplit NotLaunched
inverted_toggle (Err NothingPending) = Err NothingPending
inverted_toggle (Err Occupied) = Err Occupied
inverted_toggle (Ok s) = Ok (inverted s)

-- 8 in place of 3
abbrev pub occupied_if_none : Result StartSplit NotLaunched → Result StartSplit NotLaunched
occupied_if_none (Err NothingPending) = Err Occupied
occupied_if_none (Err Occupied) = Err Occupied
occupied_if_none (Ok s) = Ok s

-- ---- a launch answered 1 gives another direction

abbrev pub directed_as : (ℕ → ℕ) → Answer → Answer
directed_as f a =
    record {
      number = a.number;
      pid = a.pid;
      transfer = a.transfer;
      lane = a.lane;
      address = a.address;
      endpoint = a.endpoint;
      direction = f a.direction;
      lowspeed = a.lowspeed;
      toggle = a.toggle;
      bytes = a.bytes;
    }

abbrev pub redirected : (ℕ → ℕ) → Outcome → Outcome
redirected f o = cond (eqb o.answer.number 1) (record { next = o.next; answer = directed_as f o.answer }) o

abbrev pub redirected_step : (ℕ → ℕ) → Hub → Call → Outcome
redirected_step f h (Control z s room) = step h (Control z s room)
redirected_step f h (Poll z room) = step h (Poll z room)
redirected_step f h (Start z p t g x a e l) = step h (Start z p t g x a e l)
redirected_step f h (Complete z a e d room) = step h (Complete z a e d room)
redirected_step f h (Launch room) = redirected f (step h (Launch room))
redirected_step f h (Deliver r l) = step h (Deliver r l)
redirected_step f h (Event e n) = step h (Event e n)
redirected_step f h Tick = step h Tick
redirected_step f h BusReset = step h BusReset

-- always OUT
abbrev pub always_out : ℕ → ℕ
always_out d = direction_number direction.Out

-- 2 for OUT, which a history reads as OUT all the same
abbrev pub two_for_out : ℕ → ℕ
two_for_out d = cond (eqb d (direction_number direction.Out)) 2 d

-- ---- ClearTTBuffer of the running key frees the low side at once

abbrev pub low_freed : BufferNumber → LowSide → LowSide
low_freed n Idle = Idle
low_freed n (Running m) = cond (eqb m.0 n.0) Idle (Running m)
low_freed n Abandoned = Abandoned

abbrev pub clear_freeing : Translator → Option BufferNumber → Translator
clear_freeing t None = t
clear_freeing t (Some n) = record { buffers = set t.buffers n.0 vacant; count = t.count; low = low_freed n t.low }

abbrev pub clear_frees : TranslatorRules
clear_frees = with_clear (λ t k. clear_freeing t (find (holds k) (take t.count t.buffers)))

-- each falsifies the part of the claim that its comment names
pub record OrderMistakesShutOut : Type 0 where
  -- 3 only where none is pending
  pub first_alone_lem : ¬ (LaunchOrder (altered first_alone))
  -- the toggle given is the start-split's
  pub toggle_inverted : ¬ (LaunchOrder (altered (answered_as inverted_toggle)))
  -- the direction given is IN for PID IN and OUT for the other two
  pub always_out_lem : ¬ (LaunchOrder (ruled (redirected_step always_out)))
  pub two_for_out_lem : ¬ (LaunchOrder (ruled (redirected_step two_for_out)))
  -- 8 where the low side is occupied
  pub clear_frees_lem : ¬ (LaunchOrder (altered clear_frees))
  -- and nowhere else
  pub eight_idle : ¬ (LaunchOrder (altered (answered_as occupied_if_none)))
