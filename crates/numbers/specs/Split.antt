-- Internal, pinned by `NumbersClaims` (Claims.antt): start-splits and keys from numbers of any size.
-- Device address 0 to 127; endpoint 0 to 15; a number outside the rules is 6, so what it is read as has no effect.
use Rattle.std.specs.Prelude.{ℕ, ◌%◌, Bool, ◌&&◌, ltb}
use Rattle.buffer.specs.declared.StartSplit.{StartSplit}
use Rattle.buffer.specs.declared.Key.{Key}
use Rattle.buffer.specs.Key.{key_with}
use Rattle.numbers.specs.Named.{is_pid, pid_from, is_type, type_from, is_direction, direction_from, is_lane, lane_from, is_flag, flag_from}

-- A start-split has a lane, PID IN, OUT or SETUP, type control or bulk, a low-speed flag, a toggle
unfoldable pub split_named : ℕ → ℕ → ℕ → ℕ → ℕ → ℕ → ℕ → Bool
split_named lane pid transfer lowspeed toggle address endpoint =
    is_lane lane && ((is_pid pid && is_type transfer) && ((is_flag lowspeed && is_flag toggle) && (ltb address 128 && ltb endpoint 16)))

unfoldable pub split_from : ℕ → ℕ → ℕ → ℕ → ℕ → ℕ → ℕ → StartSplit
split_from lane pid transfer lowspeed toggle address endpoint =
    record {
      lane = lane_from lane;
      pid = pid_from pid;
      transfer = type_from transfer;
      lowspeed = flag_from lowspeed;
      toggle = flag_from toggle;
      address = record { 0 = address % 128 };
      endpoint = endpoint % 16;
    }

-- A key is lane, address, endpoint, direction.
unfoldable pub key_named : ℕ → ℕ → ℕ → ℕ → Bool
key_named lane address endpoint direction = is_lane lane && ((ltb address 128 && ltb endpoint 16) && is_direction direction)

unfoldable pub key_from : ℕ → ℕ → ℕ → ℕ → Key
key_from lane address endpoint direction = key_with (lane_from lane) (record { 0 = address % 128 }) (endpoint % 16) (direction_from direction)
