-- Which numbers and lengths a start-split and a result may have. A reader must believe: these are the rules of document 01,
-- "Numbers" and "Translator", whose breach is answer 6, and which result suits which PID, else 8.
use Rattle.std.specs.Prelude.{ℕ, Bool, true, false, ◌&&◌, ◌||◌, eqb, leb, ltb}
use Rattle.buffer.specs.declared.Pid.{Pid}
use Rattle.buffer.specs.declared.Pid.TheVariants as pid
use Rattle.buffer.specs.declared.TransferType.{TransferType}
use Rattle.buffer.specs.declared.TransferType.TheVariants.{Control, Bulk}
use Rattle.buffer.specs.declared.StartSplit.{StartSplit}
use Rattle.buffer.specs.declared.DeviceResult.{DeviceResult}
use Rattle.buffer.specs.declared.DeviceResult.TheVariants.{Failure, Ack, Nak, Stall, Data0, Data1}

-- SETUP is control
abbrev pub type_fits : Pid → TransferType → Bool
type_fits pid.Out t = true
type_fits pid.In t = true
type_fits pid.Setup Control = true
type_fits pid.Setup Bulk = false

-- device address 0 to 127; endpoint 0 to 15
unfoldable pub numbers_fit : StartSplit → Bool
numbers_fit s = (ltb s.address.0 128 && ltb s.endpoint 16) && type_fits s.pid s.transfer

-- payload 0 to 64 bytes; IN carries none, SETUP 8 bytes
abbrev pub start_length : Pid → ℕ → Bool
start_length pid.Out n = leb n 64
start_length pid.In n = eqb n 0
start_length pid.Setup n = eqb n 8

-- the numbers of a start-split with n bytes of payload are within the rules, else 6
unfoldable pub start_fits : StartSplit → ℕ → Bool
start_fits s n = numbers_fit s && start_length s.pid n

abbrev pub is_data : DeviceResult → Bool
is_data Failure = false
is_data Ack = false
is_data Nak = false
is_data Stall = false
is_data Data0 = true
is_data Data1 = true

-- Payload over 64, or on a result that isn't data: 6.
unfoldable pub result_length : DeviceResult → ℕ → Bool
result_length r n = leb n 64 && (is_data r || eqb n 0)

-- IN: DATA0, DATA1, NAK, STALL, failure. OUT: ACK, NAK, STALL, failure. SETUP: ACK, failure.
abbrev pub suits : Pid → DeviceResult → Bool
suits pid.In Failure = true
suits pid.In Ack = false
suits pid.In Nak = true
suits pid.In Stall = true
suits pid.In Data0 = true
suits pid.In Data1 = true
suits pid.Out Failure = true
suits pid.Out Ack = true
suits pid.Out Nak = true
suits pid.Out Stall = true
suits pid.Out Data0 = false
suits pid.Out Data1 = false
suits pid.Setup Failure = true
suits pid.Setup Ack = true
suits pid.Setup Nak = false
suits pid.Setup Stall = false
suits pid.Setup Data0 = false
suits pid.Setup Data1 = false
