-- Internal, pinned by `NumbersClaims` (Claims.antt): whether a number of any size names something, and what.
-- An event, PID, type, direction or result number that isn't named, or a flag or toggle above 1, is 6. So what a number that names nothing is
-- read as (the kind's first value) has no effect.
use Rattle.std.specs.Prelude.{ℕ, Bool, cond, ◌&&◌, ◌||◌, eqb, leb}
use Rattle.buffer.specs.declared.Lane.{Lane}
use Rattle.buffer.specs.declared.Lane.TheVariants.{Zero, One}
use Rattle.buffer.specs.declared.Pid.{Pid}
use Rattle.buffer.specs.declared.Pid.TheVariants as pid
use Rattle.buffer.specs.declared.TransferType.{TransferType}
use Rattle.buffer.specs.declared.TransferType.TheVariants.{Control, Bulk}
use Rattle.buffer.specs.declared.Direction.{Direction}
use Rattle.buffer.specs.declared.Direction.TheVariants as direction
use Rattle.buffer.specs.declared.DeviceResult.{DeviceResult}
use Rattle.buffer.specs.declared.DeviceResult.TheVariants.{Failure, Ack, Nak, Stall, Data0, Data1}
use Rattle.port.specs.declared.LineEvent.{LineEvent}
use Rattle.port.specs.declared.LineEvent.TheVariants.{AttachLow, AttachFull, Detach, Chirp, Wake, PortError, OverCurrentOn, OverCurrentOff}
use Rattle.translator.specs.Answers.{lane_number, pid_number}
use Rattle.numbers.specs.Written.{type_number, direction_number, result_written, event_number}

-- lane 0 or 1
abbrev pub is_lane : ℕ → Bool
is_lane n = eqb n (lane_number Zero) || eqb n (lane_number One)

abbrev pub lane_from : ℕ → Lane
lane_from n = cond (eqb n (lane_number One)) One Zero

-- OUT 1, IN 9, SETUP 13
abbrev pub is_pid : ℕ → Bool
is_pid n = eqb n (pid_number pid.Out) || (eqb n (pid_number pid.In) || eqb n (pid_number pid.Setup))

abbrev pub pid_from : ℕ → Pid
pid_from n = cond (eqb n (pid_number pid.In)) pid.In (cond (eqb n (pid_number pid.Setup)) pid.Setup pid.Out)

-- control 0, bulk 2
abbrev pub is_type : ℕ → Bool
is_type n = eqb n (type_number Control) || eqb n (type_number Bulk)

abbrev pub type_from : ℕ → TransferType
type_from n = cond (eqb n (type_number Bulk)) Bulk Control

-- failure 0; ACK 2, NAK 10, STALL 14; DATA0 3, DATA1 11
abbrev pub is_result : ℕ → Bool
is_result n =
    eqb n (result_written Failure)
    || ((eqb n (result_written Ack) || (eqb n (result_written Nak) || eqb n (result_written Stall)))
    || (eqb n (result_written Data0) || eqb n (result_written Data1)))

abbrev pub result_from : ℕ → DeviceResult
result_from n =
    cond (eqb n (result_written Ack)) Ack
    (cond (eqb n (result_written Nak)) Nak
    (cond (eqb n (result_written Stall)) Stall
    (cond (eqb n (result_written Data0)) Data0
    (cond (eqb n (result_written Data1)) Data1
    Failure))))

-- OUT 0, IN 1
abbrev pub is_direction : ℕ → Bool
is_direction n = eqb n (direction_number direction.Out) || eqb n (direction_number direction.In)

abbrev pub direction_from : ℕ → Direction
direction_from n = cond (eqb n (direction_number direction.In)) direction.In direction.Out

-- attach low 0, attach full 1, detach 2, chirp 3, wake 4, port error 5, over-current on 6, over-current off 7
abbrev pub is_event : ℕ → Bool
is_event n = leb n (event_number OverCurrentOff)

abbrev pub event_from : ℕ → LineEvent
event_from n =
    cond (eqb n (event_number AttachFull)) AttachFull
    (cond (eqb n (event_number Detach)) Detach
    (cond (eqb n (event_number Chirp)) Chirp
    (cond (eqb n (event_number Wake)) Wake
    (cond (eqb n (event_number PortError)) PortError
    (cond (eqb n (event_number OverCurrentOn)) OverCurrentOn
    (cond (eqb n (event_number OverCurrentOff)) OverCurrentOff
    AttachLow))))))

-- a flag is 0 or 1
abbrev pub is_flag : ℕ → Bool
is_flag n = leb n 1

abbrev pub flag_from : ℕ → Bool
flag_from n = eqb n 1

-- N ports, numbered from 1
abbrev pub port_named : ℕ → ℕ → Bool
port_named count n = leb 1 n && leb n count
