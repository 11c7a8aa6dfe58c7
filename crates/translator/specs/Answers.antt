-- What document 01 calls each answer. A reader must believe: these are the numbers of its table and USB's PID values.
use Rattle.std.specs.Prelude.{ℕ, Bool, ◌&&◌, cond, leb, Result, Ok, Err}
use Rattle.buffer.specs.declared.StartSplit.{StartSplit}
use Rattle.buffer.specs.declared.Lane.{Lane}
use Rattle.buffer.specs.declared.Lane.TheVariants.{Zero, One}
use Rattle.buffer.specs.declared.Pid.{Pid}
use Rattle.buffer.specs.declared.Pid.TheVariants as pid
use Rattle.buffer.specs.declared.DeviceResult.{DeviceResult}
use Rattle.buffer.specs.declared.DeviceResult.TheVariants as result
use Rattle.buffer.specs.Lengths.{is_data}
use Rattle.translator.specs.declared.Choice.{Choice}
use Rattle.translator.specs.declared.Choice.TheVariants.{NoRoom, LimitReached, Held, Reused, Took}
use Rattle.translator.specs.declared.Outside.{Outside}
use Rattle.translator.specs.declared.NoResult.{NoResult}
use Rattle.translator.specs.declared.NoResult.TheVariants.{NoMatch, NotYet}
use Rattle.translator.specs.declared.NotLaunched.{NotLaunched}
use Rattle.translator.specs.declared.NotLaunched.TheVariants.{NothingPending, Occupied}
use Rattle.translator.specs.declared.NotDelivered.{NotDelivered}
use Rattle.translator.specs.declared.NotDelivered.TheVariants as deliver

-- Answers 2 to 8 are the refusals.
abbrev pub is_refusal : ℕ → Bool
is_refusal n = leb 2 n && leb n 8

-- 0 done (ACK), 3 no buffer or the lane's limit (NAK)
abbrev pub choice_number : Choice → ℕ
choice_number NoRoom = 3
choice_number LimitReached = 3
choice_number (Held n) = 0
choice_number (Reused n) = 0
choice_number (Took n) = 0

-- 6 a number or length outside the rules
abbrev pub start_number : Result Choice Outside → ℕ
start_number (Err o) = 6
start_number (Ok c) = choice_number c

-- 1 data, 9 the device's handshake
abbrev pub result_number : DeviceResult → ℕ
result_number r = cond (is_data r) 1 9

-- DATA0 3, DATA1 11; ACK 2, NAK 10, STALL 14. Failure shows as STALL in answer 9.
abbrev pub result_pid : DeviceResult → ℕ
result_pid result.Failure = 14
result_pid result.Ack = 2
result_pid result.Nak = 10
result_pid result.Stall = 14
result_pid result.Data0 = 3
result_pid result.Data1 = 11

abbrev pub lane_number : Lane → ℕ
lane_number Zero = 0
lane_number One = 1

-- OUT 1, IN 9, SETUP 13
abbrev pub pid_number : Pid → ℕ
pid_number pid.Out = 1
pid_number pid.In = 9
pid_number pid.Setup = 13

-- 2 STALL, 4 NYET
abbrev pub complete_number : Result DeviceResult NoResult → ℕ
complete_number (Err NoMatch) = 2
complete_number (Err NotYet) = 4
complete_number (Ok r) = result_number r

-- 3 nothing to give, 8 not in this state, 1 data
abbrev pub launch_number : Result StartSplit NotLaunched → ℕ
launch_number (Err NothingPending) = 3
launch_number (Err Occupied) = 8
launch_number (Ok s) = 1

abbrev pub deliver_number : Result (Unit {0}) NotDelivered → ℕ
deliver_number (Err deliver.Outside) = 6
deliver_number (Err deliver.NotInThisState) = 8
deliver_number (Ok o) = 0
