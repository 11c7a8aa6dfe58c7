-- Deliver. A reader must believe: a result goes to the running transaction's buffer and to no other; while abandoned, to none.
use Rattle.std.specs.Prelude.{ℕ, cond, List, length, set, Ok, Err}
use Rattle.payload.specs.Payload.{payload_of}
use Rattle.buffer.specs.declared.DeviceResult.{DeviceResult}
use Rattle.buffer.specs.declared.Slot.{Slot}
use Rattle.buffer.specs.declared.Slot.TheVariants.{Empty, Pending, Ready, Old}
use Rattle.buffer.specs.declared.BufferNumber.{BufferNumber}
use Rattle.buffer.specs.Lengths.{result_length, suits}
use Rattle.translator.specs.declared.Translator.{Translator}
use Rattle.translator.specs.declared.LowSide.{LowSide}
use Rattle.translator.specs.declared.LowSide.TheVariants.{Idle, Running, Abandoned}
use Rattle.translator.specs.declared.NotDelivered.{NotDelivered}
use Rattle.translator.specs.declared.NotDelivered.TheVariants.{Outside, NotInThisState}
use Rattle.translator.specs.declared.Delivered.{Delivered}
use Rattle.translator.specs.Translator.{at, with_low}

abbrev pub undelivered : Translator → NotDelivered → Delivered
undelivered t e = record { next = t; answer = Err e }

-- 8 if none runs or the result doesn't suit the PID; else the running one is ready with the result
abbrev pub delivered : Translator → DeviceResult → List ℕ → BufferNumber → Slot → Delivered
delivered t r l n Empty = undelivered t NotInThisState
delivered t r l n (Pending s q) =
    cond (suits s.pid r)
    (record {
      next = record { buffers = set t.buffers n.0 (record { slot = Ready s r; payload = payload_of l }); count = t.count; low = Idle };
      answer = Ok tt;
    })
    (undelivered t NotInThisState)
delivered t r l n (Ready s q) = undelivered t NotInThisState
delivered t r l n (Old s q) = undelivered t NotInThisState

-- while abandoned, the delivery is thrown away, answer 0, and the low side is free
abbrev pub deliver_by : Translator → DeviceResult → List ℕ → LowSide → Delivered
deliver_by t r l Idle = undelivered t NotInThisState
deliver_by t r l (Running n) = delivered t r l n (at t.buffers n.0).slot
deliver_by t r l Abandoned = record { next = with_low t Idle; answer = Ok tt }

-- Deliver gives the running one its result and makes it ready; 8 if none runs or the result doesn't suit the PID. Payload over 64, or
-- on a result that isn't data: 6.
unfoldable pub deliver : Translator → DeviceResult → List ℕ → Delivered
deliver t r l = cond (result_length r (length l)) (deliver_by t r l t.low) (undelivered t Outside)
