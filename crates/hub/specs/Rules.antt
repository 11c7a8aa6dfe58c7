-- What poll, the splits, launch, deliver and line events answer and leave, once no earlier check refuses them.
-- A reader must believe: the bitmap's rule, and that the translator's and the port's own answers are handed on with their numbers.
use Rattle.std.specs.Prelude.{ℕ, cond, List, [], ◌∷◌, eqb, Err, Ok, Result}
use Rattle.payload.specs.declared.Payload.{Payload}
use Rattle.payload.specs.Payload.{content}
use Rattle.port.specs.declared.PortNumber.{PortNumber}
use Rattle.port.specs.declared.LineEvent.{LineEvent}
use Rattle.port.specs.Reaction.{Answered}
use Rattle.bools.specs.Bit.{bit}
use Rattle.port.specs.Events.{line_event}
use Rattle.ports.specs.Ports.{port_at}
use Rattle.ports.specs.Bitmap.{bitmap_of}
use Rattle.buffer.specs.declared.StartSplit.{StartSplit}
use Rattle.buffer.specs.Key.{direction_of}
use Rattle.buffer.specs.declared.DeviceResult.{DeviceResult}
use Rattle.translator.specs.declared.NotLaunched.{NotLaunched}
use Rattle.translator.specs.declared.NoResult.{NoResult}
use Rattle.translator.specs.declared.Started.{Started}
use Rattle.translator.specs.declared.Completed.{Completed}
use Rattle.translator.specs.declared.NoResult.TheVariants.{NoMatch, NotYet}
use Rattle.translator.specs.declared.Launched.{Launched}
use Rattle.translator.specs.declared.NotLaunched.TheVariants.{NothingPending, Occupied}
use Rattle.translator.specs.declared.Delivered.{Delivered}
use Rattle.translator.specs.Answers.{start_number, complete_number, launch_number, deliver_number, result_pid, lane_number, pid_number}
use Rattle.numbers.specs.Written.{type_number, direction_number}
use Rattle.hub.specs.declared.Hub.{Hub}
use Rattle.hub.specs.Hub.{with_port_at, with_translator}
use Rattle.hub.specs.Call.{Answer, Outcome, plain, pid_answer, gives, gives_nothing}

-- Poll: answer 3 if no change bit is set, else one byte, bit p for port p, bit 0 zero.
unfoldable pub polled : Hub → Outcome
polled h =
    let b = bitmap_of h.identity.ports h.ports in
    cond (eqb b 0) (gives_nothing h) (gives h (b ∷ []))

abbrev pub started_as : Hub → Started → Outcome
started_as h o = plain (with_translator h o.next) (start_number o.answer)

-- a result: its number, its PID, and the bytes of data
abbrev pub completed_by : Hub → Result DeviceResult NoResult → Payload → Outcome
completed_by h (Err NoMatch) p = plain h (complete_number (Err NoMatch))
completed_by h (Err NotYet) p = plain h (complete_number (Err NotYet))
completed_by h (Ok r) p = record { next = h; answer = pid_answer (complete_number (Ok r)) (result_pid r) (content p) }

abbrev pub completed_as : Hub → Completed → Outcome
completed_as h o = completed_by (with_translator h o.next) o.answer o.payload

-- its payload as data, with its PID, type, key, flag and toggle
abbrev pub launch_answer : StartSplit → List ℕ → Answer
launch_answer s l =
    record {
      number = launch_number (Ok s);
      pid = pid_number s.pid;
      transfer = type_number s.transfer;
      lane = lane_number s.lane;
      address = s.address.0;
      endpoint = s.endpoint;
      direction = direction_number (direction_of s.pid);
      lowspeed = bit s.lowspeed;
      toggle = bit s.toggle;
      bytes = l;
    }

abbrev pub launched_by : Hub → Result StartSplit NotLaunched → Payload → Outcome
launched_by h (Err NothingPending) p = plain h (launch_number (Err NothingPending))
launched_by h (Err Occupied) p = plain h (launch_number (Err Occupied))
launched_by h (Ok s) p = record { next = h; answer = launch_answer s (content p) }

abbrev pub launched_as : Hub → Launched → Outcome
launched_as h o = launched_by (with_translator h o.next) o.answer o.payload

abbrev pub delivered_as : Hub → Delivered → Outcome
delivered_as h o = plain (with_translator h o.next) (deliver_number o.answer)

-- a step of port n, with its number
abbrev pub stepped_at : Hub → PortNumber → Answered → Outcome
stepped_at h n o = plain (with_port_at h n o.port) o.number

-- a line event at port n
abbrev pub event_at : Hub → LineEvent → PortNumber → Outcome
event_at h e n = stepped_at h n (line_event (port_at h.ports n) e)
