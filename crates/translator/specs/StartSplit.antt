-- Start-split. A reader must believe: what was chosen decides; a repeat stores nothing, and what is stored is last in the order.
use Rattle.std.specs.Prelude.{ℕ, cond, List, length, take, set, Ok, Err}
use Rattle.payload.specs.Payload.{payload_of}
use Rattle.buffer.specs.declared.StartSplit.{StartSplit}
use Rattle.buffer.specs.declared.Slot.TheVariants.{Pending}
use Rattle.buffer.specs.declared.BufferNumber.{BufferNumber}
use Rattle.buffer.specs.Key.{key_of}
use Rattle.buffer.specs.Lengths.{start_fits}
use Rattle.translator.specs.declared.Translator.{Translator}
use Rattle.translator.specs.declared.Choice.{Choice}
use Rattle.translator.specs.declared.Choice.TheVariants.{NoRoom, LimitReached, Held, Reused, Took}
use Rattle.translator.specs.declared.Outside.{Outside}
use Rattle.translator.specs.declared.Started.{Started}
use Rattle.translator.specs.Order.{waiting, ranked}
use Rattle.translator.specs.Limit.{permitted}

-- a number or length outside the rules, 6
abbrev pub outside : Outside
outside = record {}

-- the start-split s with the payload l in buffer n, last in the order of acceptance
unfoldable pub stored : Translator → BufferNumber → StartSplit → List ℕ → Translator
stored t n s l =
    record {
      buffers = set (ranked t.buffers) n.0 (record { slot = Pending s (waiting t.buffers); payload = payload_of l });
      count = t.count;
      low = t.low;
    }

abbrev pub start_by : Translator → StartSplit → List ℕ → Choice → Started
start_by t s l NoRoom = record { next = t; answer = Ok NoRoom }
start_by t s l LimitReached = record { next = t; answer = Ok LimitReached }
start_by t s l (Held n) = record { next = t; answer = Ok (Held n) }
start_by t s l (Reused n) = record { next = stored t n s l; answer = Ok (Reused n) }
start_by t s l (Took n) = record { next = stored t n s l; answer = Ok (Took n) }

-- Start-split: a buffer with its key that is pending or ready, ACK and nothing stored; one that is old, reuse it; no key match, the
-- lowest-numbered empty or old one; none, 3. Where storing would pass the lane's limit, 3.
unfoldable pub start_split : Translator → StartSplit → List ℕ → Started
start_split t s l = cond (start_fits s (length l)) (start_by t s l (permitted t.count (key_of s) (take t.count t.buffers))) (record { next = t; answer = Err outside })
