-- The number of each value that a call takes or gives; a PID's is in translator, specs/Answers, and a flag's is its bit.
-- Believe: these are the numbers of the C interface. PIDs and the PIDs of results are USB's, transfer types those of ClearTTBuffer.
use Rattle.std.specs.Prelude.{ℕ}
use Rattle.buffer.specs.declared.TransferType.{TransferType}
use Rattle.buffer.specs.declared.TransferType.TheVariants.{Control, Bulk}
use Rattle.buffer.specs.declared.Direction.{Direction}
use Rattle.buffer.specs.declared.Direction.TheVariants as direction
use Rattle.buffer.specs.declared.DeviceResult.{DeviceResult}
use Rattle.buffer.specs.declared.DeviceResult.TheVariants.{Failure, Ack, Nak, Stall, Data0, Data1}
use Rattle.port.specs.declared.LineEvent.{LineEvent}
use Rattle.port.specs.declared.LineEvent.TheVariants.{AttachLow, AttachFull, Detach, Chirp, Wake, PortError, OverCurrentOn, OverCurrentOff}
use Rattle.translator.specs.Answers.{result_pid}

-- type 0 or 2
abbrev pub type_number : TransferType → ℕ
type_number Control = 0
type_number Bulk = 2

-- direction (1 for IN)
abbrev pub direction_number : Direction → ℕ
direction_number direction.Out = 0
direction_number direction.In = 1

-- the PID that came, and 0 for a failure, so that it is told from STALL
abbrev pub result_written : DeviceResult → ℕ
result_written Failure = 0
result_written Ack = result_pid Ack
result_written Nak = result_pid Nak
result_written Stall = result_pid Stall
result_written Data0 = result_pid Data0
result_written Data1 = result_pid Data1

abbrev pub event_number : LineEvent → ℕ
event_number AttachLow = 0
event_number AttachFull = 1
event_number Detach = 2
event_number Chirp = 3
event_number Wake = 4
event_number PortError = 5
event_number OverCurrentOn = 6
event_number OverCurrentOff = 7
