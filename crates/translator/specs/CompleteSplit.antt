-- Complete-split. A reader must believe: it carries a key alone, and gives the result that the buffer of that key holds.
use Rattle.std.specs.Prelude.{cond, take, Option, Some, None, Ok, Err}
use Rattle.payload.specs.declared.Payload.{Payload}
use Rattle.payload.specs.Payload.{no_payload}
use Rattle.buffer.specs.declared.Key.{Key}
use Rattle.buffer.specs.declared.DeviceResult.{DeviceResult}
use Rattle.buffer.specs.declared.Slot.{Slot}
use Rattle.buffer.specs.declared.Slot.TheVariants.{Empty, Pending, Ready, Old}
use Rattle.buffer.specs.declared.BufferNumber.{BufferNumber}
use Rattle.buffer.specs.Lengths.{is_data}
use Rattle.buffer.specs.Buffer.{holds}
use Rattle.translator.specs.declared.Translator.{Translator}
use Rattle.translator.specs.declared.NoResult.{NoResult}
use Rattle.translator.specs.declared.NoResult.TheVariants.{NoMatch, NotYet}
use Rattle.translator.specs.declared.Completed.{Completed}
use Rattle.translator.specs.Translator.{at, with_buffer}
use Rattle.translator.specs.Search.{find}

-- a data result comes with the buffer's payload, a handshake with none
abbrev pub given : DeviceResult → Payload → Payload
given r p = cond (is_data r) p no_payload

abbrev pub unanswered : Translator → NoResult → Completed
unanswered t e = record { next = t; answer = Err e; payload = no_payload }

-- pending, 4; ready or old, the result, and the buffer is old
abbrev pub completed : Translator → BufferNumber → Payload → Slot → Completed
completed t n p Empty = unanswered t NoMatch
completed t n p (Pending s q) = unanswered t NotYet
completed t n p (Ready s r) = record { next = with_buffer t n (record { slot = Old s r; payload = p }); answer = Ok r; payload = given r p }
completed t n p (Old s r) = record { next = t; answer = Ok r; payload = given r p }

-- no match, 2
abbrev pub complete_at : Translator → Option BufferNumber → Completed
complete_at t None = unanswered t NoMatch
complete_at t (Some n) = completed t n (at t.buffers n.0).payload (at t.buffers n.0).slot

unfoldable pub complete_split : Translator → Key → Completed
complete_split t k = complete_at t (find (holds k) (take t.count t.buffers))
