-- One port in document 01's words, for claims and validity: by its state, not by the rules. A reader must believe: each says its comment.
use Rattle.std.specs.Prelude.{ℕ, zero, suc, ◌<◌, ◌≤◌, ◌%◌, ◌/◌, ◌≡◌, Bool, true, false, List, [], ◌∷◌, ◌⊎◌, eqb}
use Rattle.port.specs.declared.Speed.{Speed}
use Rattle.port.specs.declared.Speed.TheVariants.{Full}
use Rattle.port.specs.declared.PortState.{PortState}
use Rattle.port.specs.declared.PortState.TheVariants.{NotConfigured, PoweredOff, Disconnected, Disabled, Resetting, Enabled, Suspended, Resuming}
use Rattle.port.specs.declared.ChangeBit.{ChangeBit}
use Rattle.port.specs.declared.ChangeBit.TheVariants.{Connection, Enable, Suspend, OverCurrent, Reset}
use Rattle.port.specs.declared.Changes.{Changes}
use Rattle.port.specs.declared.PortNumber.{PortNumber}
use Rattle.port.specs.declared.LineEvent.{LineEvent}
use Rattle.port.specs.declared.LineEvent.TheVariants.{AttachLow, AttachFull, Detach, Chirp, Wake, PortError, OverCurrentOn, OverCurrentOff}

-- port m is one of the first n: N ports .. numbered from 1
abbrev pub Among : ℕ → PortNumber → Type 0
Among n m = (1 ≤ m.0) × (m.0 ≤ n)

-- Not Configured, as every port of an unconfigured hub is and none of a configured one
abbrev pub is_not_configured : PortState → Bool
is_not_configured NotConfigured = true
is_not_configured PoweredOff = false
is_not_configured Disconnected = false
is_not_configured (Disabled s) = false
is_not_configured (Resetting s t) = false
is_not_configured (Enabled s) = false
is_not_configured (Suspended s) = false
is_not_configured (Resuming s t) = false

-- has timers below their ends: 15 ticks in Resetting, 22 in Resuming
abbrev pub TimerBelowEnd : PortState → Type 0
TimerBelowEnd NotConfigured = Unit {0}
TimerBelowEnd PoweredOff = Unit {0}
TimerBelowEnd Disconnected = Unit {0}
TimerBelowEnd (Disabled s) = Unit {0}
TimerBelowEnd (Resetting s t) = t < 15
TimerBelowEnd (Enabled s) = Unit {0}
TimerBelowEnd (Suspended s) = Unit {0}
TimerBelowEnd (Resuming s t) = t < 22

-- the lowest bits of a number, bit 0 first
abbrev pub bits_of : ℕ → ℕ → List Bool
bits_of zero n = []
bits_of (suc k) n = eqb (n % 2) 1 ∷ bits_of k (n / 2)

-- whether this change bit is set
abbrev pub change_bit : ChangeBit → Changes → Bool
change_bit Connection c = c.connection
change_bit Enable c = c.enable
change_bit Suspend c = c.suspend
change_bit OverCurrent c = c.overcurrent
change_bit Reset c = c.reset

-- the states in which a line event is named
abbrev pub NamedIn : LineEvent → PortState → Type 0
-- attach (low or full): Disconnected
NamedIn AttachLow s = s ≡ Disconnected
NamedIn AttachFull s = s ≡ Disconnected
-- detach: Disabled, Enabled, Suspended
NamedIn Detach s = (v : Speed) × ((s ≡ Disabled v) ⊎ (s ≡ Enabled v) ⊎ (s ≡ Suspended v))
-- chirp: Resetting at full speed
NamedIn Chirp s = (t : ℕ) × (s ≡ Resetting Full t)
-- wake: Suspended
NamedIn Wake s = (v : Speed) × (s ≡ Suspended v)
-- port error: Enabled
NamedIn PortError s = (v : Speed) × (s ≡ Enabled v)
-- over-current on or off: any configured state
NamedIn OverCurrentOn s = ¬ (s ≡ NotConfigured)
NamedIn OverCurrentOff s = ¬ (s ≡ NotConfigured)
