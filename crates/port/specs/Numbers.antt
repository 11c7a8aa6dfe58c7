-- A state in numbers, as an area is written (docs/AREA.md) and the chart of a port has them.
-- Believe: each state has the number of its comment.
use Rattle.std.specs.Prelude.{ℕ, Option, Some, None}
use Rattle.port.specs.declared.Speed.{Speed}
use Rattle.port.specs.declared.Speed.TheVariants.{Low, Full, High}
use Rattle.port.specs.declared.PortState.{PortState}
use Rattle.port.specs.declared.PortState.TheVariants.{NotConfigured, PoweredOff, Disconnected, Disabled, Resetting, Enabled, Suspended, Resuming}

-- 0 Not Configured, 1 Powered-off, 2 Disconnected, 3 Disabled, 4 Resetting, 5 Enabled, 6 Suspended, 7 Resuming
abbrev pub state_number : PortState → ℕ
state_number NotConfigured = 0
state_number PoweredOff = 1
state_number Disconnected = 2
state_number (Disabled v) = 3
state_number (Resetting v t) = 4
state_number (Enabled v) = 5
state_number (Suspended v) = 6
state_number (Resuming v t) = 7

-- 0 low, 1 full, 2 high
abbrev pub speed_number : Speed → ℕ
speed_number Low = 0
speed_number Full = 1
speed_number High = 2

-- the speed in a connected state
abbrev pub device_speed : PortState → Option Speed
device_speed NotConfigured = None
device_speed PoweredOff = None
device_speed Disconnected = None
device_speed (Disabled v) = Some v
device_speed (Resetting v t) = Some v
device_speed (Enabled v) = Some v
device_speed (Suspended v) = Some v
device_speed (Resuming v t) = Some v

-- the speed, 0 in a state without one
abbrev pub state_speed : PortState → ℕ
state_speed NotConfigured = 0
state_speed PoweredOff = 0
state_speed Disconnected = 0
state_speed (Disabled v) = speed_number v
state_speed (Resetting v t) = speed_number v
state_speed (Enabled v) = speed_number v
state_speed (Suspended v) = speed_number v
state_speed (Resuming v t) = speed_number v

-- the ticks so far, 0 in a state without a timer
abbrev pub ticks_so_far : PortState → ℕ
ticks_so_far NotConfigured = 0
ticks_so_far PoweredOff = 0
ticks_so_far Disconnected = 0
ticks_so_far (Disabled v) = 0
ticks_so_far (Resetting v t) = t
ticks_so_far (Enabled v) = 0
ticks_so_far (Suspended v) = 0
ticks_so_far (Resuming v t) = t
