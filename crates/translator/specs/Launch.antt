-- Launch. A reader must believe: it gives the pending transaction that was stored earliest, and its buffer stays pending.
use Rattle.std.specs.Prelude.{ℕ, take, Option, Some, None, Ok, Err}
use Rattle.payload.specs.declared.Payload.{Payload}
use Rattle.payload.specs.Payload.{no_payload}
use Rattle.buffer.specs.declared.Slot.{Slot}
use Rattle.buffer.specs.declared.Slot.TheVariants.{Empty, Pending, Ready, Old}
use Rattle.buffer.specs.declared.BufferNumber.{BufferNumber}
use Rattle.translator.specs.declared.Translator.{Translator}
use Rattle.translator.specs.declared.LowSide.{LowSide}
use Rattle.translator.specs.declared.LowSide.TheVariants.{Idle, Running, Abandoned}
use Rattle.translator.specs.declared.NotLaunched.{NotLaunched}
use Rattle.translator.specs.declared.NotLaunched.TheVariants.{NothingPending, Occupied}
use Rattle.translator.specs.declared.Launched.{Launched}
use Rattle.translator.specs.Translator.{at, with_low}
use Rattle.translator.specs.Order.{earliest}

abbrev pub unlaunched : Translator → NotLaunched → Launched
unlaunched t e = record { next = t; answer = Err e; payload = no_payload }

-- its payload as data, with its PID, type, key, flag and toggle
abbrev pub launched : Translator → BufferNumber → Payload → Slot → Launched
launched t n p Empty = unlaunched t NothingPending
launched t n p (Pending s q) = record { next = with_low t (Running n); answer = Ok s; payload = p }
launched t n p (Ready s r) = unlaunched t NothingPending
launched t n p (Old s r) = unlaunched t NothingPending

-- 3 if none is pending
abbrev pub launch_at : Translator → Option (BufferNumber × ℕ) → Launched
launch_at t None = unlaunched t NothingPending
launch_at t (Some (n, q)) = launched t n (at t.buffers n.0).payload (at t.buffers n.0).slot

-- 8 if the low side is occupied
abbrev pub launch_by : Translator → LowSide → Launched
launch_by t Idle = launch_at t (earliest (take t.count t.buffers))
launch_by t (Running n) = unlaunched t Occupied
launch_by t Abandoned = unlaunched t Occupied

-- Launch gives the pending transaction stored earliest, its payload as data, with its PID, type, key, flag and toggle; 8 if the low
-- side is occupied, 3 if none is pending.
unfoldable pub launch : Translator → Launched
launch t = launch_by t t.low
