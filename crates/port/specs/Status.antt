-- GetPortStatus: the four bytes of a port, and the states in which each status bit reads 1.
-- Believe: status bits: 0 connection, 1 enable, 2 suspend, 3 over-current, 4 reset, 8 power, 9 low speed, 10 high speed.
-- Change bits 0 to 4 match. The status word comes before the change word, and both are little-endian.
use Rattle.std.specs.Prelude.{ℕ, ◌+◌, ◌*◌, Bool, true, false, ◌||◌, List, [], ◌∷◌, map}
use Rattle.bools.specs.Bit.{bit}
use Rattle.port.specs.declared.Speed.{Speed}
use Rattle.port.specs.declared.Speed.TheVariants.{Low, Full, High}
use Rattle.port.specs.declared.PortState.{PortState}
use Rattle.port.specs.declared.PortState.TheVariants.{NotConfigured, PoweredOff, Disconnected, Disabled, Resetting, Enabled, Suspended, Resuming}
use Rattle.port.specs.declared.Port.{Port}
use Rattle.port.specs.declared.Changes.{Changes}

-- PORT_CONNECTION in Disabled and every state listed after it
abbrev pub port_connection : PortState → Bool
port_connection NotConfigured = false
port_connection PoweredOff = false
port_connection Disconnected = false
port_connection (Disabled s) = true
port_connection (Resetting s t) = true
port_connection (Enabled s) = true
port_connection (Suspended s) = true
port_connection (Resuming s t) = true

-- PORT_ENABLE reads 1 in Enabled, Suspended and Resuming
abbrev pub port_enable : PortState → Bool
port_enable NotConfigured = false
port_enable PoweredOff = false
port_enable Disconnected = false
port_enable (Disabled s) = false
port_enable (Resetting s t) = false
port_enable (Enabled s) = true
port_enable (Suspended s) = true
port_enable (Resuming s t) = true

-- PORT_SUSPEND in the last two
abbrev pub port_suspend : PortState → Bool
port_suspend NotConfigured = false
port_suspend PoweredOff = false
port_suspend Disconnected = false
port_suspend (Disabled s) = false
port_suspend (Resetting s t) = false
port_suspend (Enabled s) = false
port_suspend (Suspended s) = true
port_suspend (Resuming s t) = true

-- PORT_RESET in Resetting
abbrev pub port_reset : PortState → Bool
port_reset NotConfigured = false
port_reset PoweredOff = false
port_reset Disconnected = false
port_reset (Disabled s) = false
port_reset (Resetting s t) = true
port_reset (Enabled s) = false
port_reset (Suspended s) = false
port_reset (Resuming s t) = false

-- PORT_POWER in all but Not Configured and Powered-off
abbrev pub port_power : PortState → Bool
port_power NotConfigured = false
port_power PoweredOff = false
port_power Disconnected = true
port_power (Disabled s) = true
port_power (Resetting s t) = true
port_power (Enabled s) = true
port_power (Suspended s) = true
port_power (Resuming s t) = true

abbrev pub is_low : Speed → Bool
is_low Low = true
is_low Full = false
is_low High = false

abbrev pub is_high : Speed → Bool
is_high Low = false
is_high Full = false
is_high High = true

-- 9 low speed. Speed bits are zero while not connected
abbrev pub port_low_speed : PortState → Bool
port_low_speed NotConfigured = false
port_low_speed PoweredOff = false
port_low_speed Disconnected = false
port_low_speed (Disabled s) = is_low s
port_low_speed (Resetting s t) = is_low s
port_low_speed (Enabled s) = is_low s
port_low_speed (Suspended s) = is_low s
port_low_speed (Resuming s t) = is_low s

-- 10 high speed. Speed bits are zero while not connected
abbrev pub port_high_speed : PortState → Bool
port_high_speed NotConfigured = false
port_high_speed PoweredOff = false
port_high_speed Disconnected = false
port_high_speed (Disabled s) = is_high s
port_high_speed (Resetting s t) = is_high s
port_high_speed (Enabled s) = is_high s
port_high_speed (Suspended s) = is_high s
port_high_speed (Resuming s t) = is_high s

-- the number whose bits these are, bit 0 first
abbrev pub byte_of : List Bool → ℕ
byte_of [] = 0
byte_of (b ∷ bs) = bit b + 2 * byte_of bs

-- bits 0 to 7 of the status word: 0 connection, 1 enable, 2 suspend, 3 over-current, 4 reset
abbrev pub status_low : Port → List Bool
status_low p =
    port_connection p.state ∷ port_enable p.state ∷ port_suspend p.state ∷ p.overcurrent ∷ port_reset p.state
    ∷ false ∷ false ∷ false ∷ []

-- bits 8 to 15 of the status word: 8 power, 9 low speed, 10 high speed
abbrev pub status_high : Port → List Bool
status_high p =
    port_power p.state ∷ port_low_speed p.state ∷ port_high_speed p.state
    ∷ false ∷ false ∷ false ∷ false ∷ false ∷ []

-- bits 0 to 7 of the change word: Change bits 0 to 4 match
abbrev pub change_low : Changes → List Bool
change_low c = c.connection ∷ c.enable ∷ c.suspend ∷ c.overcurrent ∷ c.reset ∷ false ∷ false ∷ false ∷ []

-- bits 8 to 15 of the change word
abbrev pub change_high : List Bool
change_high = false ∷ false ∷ false ∷ false ∷ false ∷ false ∷ false ∷ false ∷ []

-- the status word, then the change word, byte by byte, the low byte first
abbrev pub status_bits : Port → List (List Bool)
status_bits p = status_low p ∷ status_high p ∷ change_low p.changes ∷ change_high ∷ []

-- GetPortStatus: length 4
abbrev pub status_bytes : Port → List ℕ
status_bytes p = map byte_of (status_bits p)

-- whether a change bit is set
abbrev pub has_change : Changes → Bool
has_change c = c.connection || (c.enable || (c.suspend || (c.overcurrent || c.reset)))
