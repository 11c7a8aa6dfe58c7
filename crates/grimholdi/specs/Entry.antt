-- Internal, pinned by `EntryClaims` (Claims.antt): what each C entry answers, and what it leaves in the area and in the reply space, for any bytes
-- and any numbers. An area that isn't taken answers 6 and nothing changes; else the hub's rule decides, the area is the written form of the
-- next hub, and the n bytes of the answer stand at the start of the reply space.
use Rattle.std.specs.Prelude.{ℕ, cond, ◌&&◌, List, [], eqb, length, is_some}
use Rattle.payload.specs.Payload as payload
use Rattle.buffer.specs.declared.DeviceResult.{DeviceResult}
use Rattle.translator.specs.Answers.{result_number, result_pid}
use Rattle.hub.specs.Hub.{new_fits, hub_of}
use Rattle.hub.specs.Call as hub
use Rattle.hub.specs.Call.{Call, Outcome, pid_answer}
use Rattle.hub.specs.Step.{step}
use Rattle.area.specs.Written.{written, area_length}
use Rattle.area.specs.Read.{read_of, hub_read}
use Rattle.grimholdi.specs.declared.Answer.{Answer}
use Rattle.grimholdi.specs.Outcome.{plain_struct, EntryOutcome, refused}

-- the answer of a rule, as C sees it: n is the number of bytes
abbrev pub struct_of : hub.Answer → Answer
struct_of a =
    record {
      number = a.number;
      length = length a.bytes;
      pid = a.pid;
      transfer = a.transfer;
      lane = a.lane;
      address = a.address;
      endpoint = a.endpoint;
      direction = a.direction;
      lowspeed = a.lowspeed;
      toggle = a.toggle;
    }

-- a result with its bytes: data, or the device's handshake
abbrev pub result_struct : DeviceResult → List ℕ → Answer
result_struct r l = struct_of (pid_answer (result_number r) (result_pid r) l)

abbrev pub carried_out : Outcome → List ℕ → EntryOutcome
carried_out o r = record { answer = struct_of o.answer; area = written o.next; reply = payload.written o.answer.bytes r }

-- the entry of the call c, on the area a with the reply space r
unfoldable pub entry : List ℕ → Call → List ℕ → EntryOutcome
entry a c r = cond (is_some (read_of a)) (carried_out (step (hub_read a) c) r) (refused a r)

-- A new hub is made from N, B, power-good time, hub current and a removable byte; answer 0. Bad numbers or an area of the wrong length
-- give no hub and answer 6.
unfoldable pub new_entry : List ℕ → ℕ → ℕ → ℕ → ℕ → ℕ → EntryOutcome
new_entry a n b g c r =
    cond (new_fits n b g c r && eqb (length a) (area_length n b))
    (record { answer = plain_struct 0; area = written (hub_of n b g c r); reply = [] })
    (refused a [])
