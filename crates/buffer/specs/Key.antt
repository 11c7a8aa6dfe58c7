-- Keys. A reader must believe: a key is lane, address, endpoint and direction, and the direction follows from the PID.
use Rattle.std.specs.Prelude.{ℕ, Bool, true, false}
use Rattle.buffer.specs.declared.Lane.{Lane}
use Rattle.buffer.specs.declared.Lane.TheVariants.{Zero, One}
use Rattle.buffer.specs.declared.DeviceAddress.{DeviceAddress}
use Rattle.buffer.specs.declared.Direction.{Direction}
use Rattle.buffer.specs.declared.Direction.TheVariants as direction
use Rattle.buffer.specs.declared.Key.{Key}
use Rattle.buffer.specs.declared.Pid.{Pid}
use Rattle.buffer.specs.declared.Pid.TheVariants as pid
use Rattle.buffer.specs.declared.StartSplit.{StartSplit}

-- The direction is IN for PID IN and OUT for the other two.
abbrev pub direction_of : Pid → Direction
direction_of pid.Out = direction.Out
direction_of pid.In = direction.In
direction_of pid.Setup = direction.Out

-- A key is lane, address, endpoint, direction.
abbrev pub key_with : Lane → DeviceAddress → ℕ → Direction → Key
key_with z a e d = record { lane = z; address = a; endpoint = e; direction = d }

abbrev pub key_of : StartSplit → Key
key_of s = key_with s.lane s.address s.endpoint (direction_of s.pid)

abbrev pub same_lane : Lane → Lane → Bool
same_lane Zero Zero = true
same_lane Zero One = false
same_lane One Zero = false
same_lane One One = true
