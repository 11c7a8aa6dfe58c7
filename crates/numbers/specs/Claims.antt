-- What holds of the numbers of the interface (Written.antt).
-- Believe: numbers and values name each other one to one.
use Rattle.std.specs.Prelude.{ℕ, ◌<◌, ◌≤◌, ◌≡◌, Bool, true, ◌↔◌}
use Rattle.buffer.specs.declared.Lane.{Lane}
use Rattle.buffer.specs.declared.Pid.{Pid}
use Rattle.buffer.specs.declared.TransferType.{TransferType}
use Rattle.buffer.specs.declared.Direction.{Direction}
use Rattle.buffer.specs.declared.DeviceResult.{DeviceResult}
use Rattle.buffer.specs.declared.StartSplit.{StartSplit}
use Rattle.buffer.specs.declared.Key.{Key}
use Rattle.port.specs.declared.LineEvent.{LineEvent}
use Rattle.bools.specs.Bit.{bit}
use Rattle.translator.specs.Answers.{lane_number, pid_number}
use Rattle.numbers.specs.Written.{type_number, direction_number, result_written, event_number}
use Rattle.numbers.specs.Named.{is_pid, pid_from, is_type, type_from, is_result, result_from, is_direction, direction_from, is_lane, lane_from, is_event, event_from, is_flag, flag_from, port_named}
use Rattle.numbers.specs.Split.{split_named, split_from, key_named, key_from}

-- one kind of value: its numbers are named and name it, and a named number is that of what it names
pub record Naming (X : Type 0) (is : ℕ → Bool) (from : ℕ → X) (number : X → ℕ) : Type 0 where
  pub named : (v : X) → is (number v) ≡ true
  pub value_back : (v : X) → from (number v) ≡ v
  pub number_back : (n : ℕ) → is n ≡ true → number (from n) ≡ n

-- a start-split has these numbers
pub record SplitHas (s : StartSplit) (lane pid transfer lowspeed toggle address endpoint : ℕ) : Type 0 where
  pub lane_number_lem : lane_number s.lane ≡ lane
  pub pid_number_lem : pid_number s.pid ≡ pid
  pub type_number_lem : type_number s.transfer ≡ transfer
  pub low_speed_flag : bit s.lowspeed ≡ lowspeed
  pub toggle_flag : bit s.toggle ≡ toggle
  pub address_number : s.address.0 ≡ address
  pub endpoint_number : s.endpoint ≡ endpoint

-- a key has these numbers
pub record KeyHas (k : Key) (lane address endpoint direction : ℕ) : Type 0 where
  pub lane_number_lem : lane_number k.lane ≡ lane
  pub address_number : k.address.0 ≡ address
  pub endpoint_number : k.endpoint ≡ endpoint
  pub direction_number_lem : direction_number k.direction ≡ direction

pub record NumbersClaims : Type 0 where
  pub lanes : Naming Lane is_lane lane_from lane_number
  pub pids : Naming Pid is_pid pid_from pid_number
  pub types : Naming TransferType is_type type_from type_number
  pub results : Naming DeviceResult is_result result_from result_written
  pub directions : Naming Direction is_direction direction_from direction_number
  pub events : Naming LineEvent is_event event_from event_number
  pub flags : Naming Bool is_flag flag_from bit
  -- device address 0 to 127; endpoint 0 to 15, whatever the numbers
  pub split_address : (z p t l g a e : ℕ) → (split_from z p t l g a e).address.0 < 128
  pub split_endpoint : (z p t l g a e : ℕ) → (split_from z p t l g a e).endpoint < 16
  pub key_address : (z a e d : ℕ) → (key_from z a e d).address.0 < 128
  pub key_endpoint : (z a e d : ℕ) → (key_from z a e d).endpoint < 16
  -- what is named has the numbers that name it
  pub split_back : (z p t l g a e : ℕ) → split_named z p t l g a e ≡ true → SplitHas (split_from z p t l g a e) z p t l g a e
  pub key_back : (z a e d : ℕ) → key_named z a e d ≡ true → KeyHas (key_from z a e d) z a e d
  -- and what keeps the ranges is named by its numbers
  pub split_named_lem : (s : StartSplit) → s.address.0 < 128 → s.endpoint < 16
      → split_named (lane_number s.lane) (pid_number s.pid) (type_number s.transfer) (bit s.lowspeed) (bit s.toggle) s.address.0 s.endpoint ≡ true
  pub split_value : (s : StartSplit) → s.address.0 < 128 → s.endpoint < 16
      → split_from (lane_number s.lane) (pid_number s.pid) (type_number s.transfer) (bit s.lowspeed) (bit s.toggle) s.address.0 s.endpoint ≡ s
  pub key_named_lem : (k : Key) → k.address.0 < 128 → k.endpoint < 16 → key_named (lane_number k.lane) k.address.0 k.endpoint (direction_number k.direction) ≡ true
  pub key_value : (k : Key) → k.address.0 < 128 → k.endpoint < 16 → key_from (lane_number k.lane) k.address.0 k.endpoint (direction_number k.direction) ≡ k
  -- 1 to N
  pub port_range : (count n : ℕ) → (port_named count n ≡ true) ↔ ((1 ≤ n) × (n ≤ count))
