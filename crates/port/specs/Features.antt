-- The port features of document 01, state by state.
-- Believe: requests that don't apply in the state are done with no effect, which is the same state and level with no change bit set.
use Rattle.std.specs.Prelude.{Bool, false, cond, []}
use Rattle.port.specs.declared.Speed.{Speed}
use Rattle.port.specs.declared.Speed.TheVariants.{Low, Full, High}
use Rattle.port.specs.declared.PortState.{PortState}
use Rattle.port.specs.declared.PortState.TheVariants.{NotConfigured, PoweredOff, Disconnected, Disabled, Resetting, Enabled, Suspended, Resuming}
use Rattle.port.specs.declared.ChangeBit.{ChangeBit}
use Rattle.port.specs.declared.ChangeBit.TheVariants as bit
use Rattle.port.specs.declared.Changes.{Changes}
use Rattle.port.specs.declared.Port.{Port}
use Rattle.port.specs.declared.SettableFeature.{SettableFeature}
use Rattle.port.specs.declared.SettableFeature.TheVariants as settable
use Rattle.port.specs.declared.ClearableFeature.{ClearableFeature}
use Rattle.port.specs.declared.ClearableFeature.TheVariants as clearable
use Rattle.port.specs.Reaction.{Reaction, done, ruled}

-- set PORT_POWER: Powered-off to Disconnected, unless over-current holds
abbrev pub set_power : Bool → PortState → Reaction
set_power l NotConfigured = done NotConfigured l []
set_power l PoweredOff = cond l (done PoweredOff l []) (done Disconnected l [])
set_power l Disconnected = done Disconnected l []
set_power l (Disabled s) = done (Disabled s) l []
set_power l (Resetting s t) = done (Resetting s t) l []
set_power l (Enabled s) = done (Enabled s) l []
set_power l (Suspended s) = done (Suspended s) l []
set_power l (Resuming s t) = done (Resuming s t) l []

-- clear PORT_POWER: any state to Powered-off
abbrev pub clear_power : Bool → PortState → Reaction
clear_power l s = done PoweredOff l []

-- A high-speed port becomes full speed
abbrev pub reset_speed : Speed → Speed
reset_speed Low = Low
reset_speed Full = Full
reset_speed High = Full

-- set PORT_RESET: Disabled, Enabled, Suspended, Resuming to Resetting. In Resetting it has no effect: speed kept, timer running on
abbrev pub set_reset : Bool → PortState → Reaction
set_reset l NotConfigured = done NotConfigured l []
set_reset l PoweredOff = done PoweredOff l []
set_reset l Disconnected = done Disconnected l []
set_reset l (Disabled s) = done (Resetting (reset_speed s) 0) l []
set_reset l (Resetting s t) = done (Resetting s t) l []
set_reset l (Enabled s) = done (Resetting (reset_speed s) 0) l []
set_reset l (Suspended s) = done (Resetting (reset_speed s) 0) l []
set_reset l (Resuming s t) = done (Resetting (reset_speed s) 0) l []

-- clear PORT_ENABLE: any state but Powered-off and Disconnected to Disabled
-- A port that is Not Configured has no speed and is left alone; no request reaches one.
abbrev pub clear_enable : Bool → PortState → Reaction
clear_enable l NotConfigured = done NotConfigured l []
clear_enable l PoweredOff = done PoweredOff l []
clear_enable l Disconnected = done Disconnected l []
clear_enable l (Disabled s) = done (Disabled s) l []
clear_enable l (Resetting s t) = done (Disabled s) l []
clear_enable l (Enabled s) = done (Disabled s) l []
clear_enable l (Suspended s) = done (Disabled s) l []
clear_enable l (Resuming s t) = done (Disabled s) l []

-- set PORT_SUSPEND: Enabled to Suspended
abbrev pub set_suspend : Bool → PortState → Reaction
set_suspend l NotConfigured = done NotConfigured l []
set_suspend l PoweredOff = done PoweredOff l []
set_suspend l Disconnected = done Disconnected l []
set_suspend l (Disabled s) = done (Disabled s) l []
set_suspend l (Resetting s t) = done (Resetting s t) l []
set_suspend l (Enabled s) = done (Suspended s) l []
set_suspend l (Suspended s) = done (Suspended s) l []
set_suspend l (Resuming s t) = done (Resuming s t) l []

-- set PORT_SUSPEND .. Clear it: Suspended to Resuming
abbrev pub clear_suspend : Bool → PortState → Reaction
clear_suspend l NotConfigured = done NotConfigured l []
clear_suspend l PoweredOff = done PoweredOff l []
clear_suspend l Disconnected = done Disconnected l []
clear_suspend l (Disabled s) = done (Disabled s) l []
clear_suspend l (Resetting s t) = done (Resetting s t) l []
clear_suspend l (Enabled s) = done (Enabled s) l []
clear_suspend l (Suspended s) = done (Resuming s 0) l []
clear_suspend l (Resuming s t) = done (Resuming s t) l []

-- SetPortFeature: 2 PORT_SUSPEND, 4 PORT_RESET, 8 PORT_POWER
abbrev pub set_rule : SettableFeature → Bool → PortState → Reaction
set_rule settable.Suspend = set_suspend
set_rule settable.Reset = set_reset
set_rule settable.Power = set_power

abbrev pub feature_set : Port → SettableFeature → Port
feature_set p f = (ruled (set_rule f) p).port

-- Change bits stay until cleared by request: this bit cleared, the others kept
abbrev pub cleared_bit : ChangeBit → Changes → Changes
cleared_bit bit.Connection c = record { connection = false; enable = c.enable; suspend = c.suspend; overcurrent = c.overcurrent; reset = c.reset }
cleared_bit bit.Enable c = record { connection = c.connection; enable = false; suspend = c.suspend; overcurrent = c.overcurrent; reset = c.reset }
cleared_bit bit.Suspend c = record { connection = c.connection; enable = c.enable; suspend = false; overcurrent = c.overcurrent; reset = c.reset }
cleared_bit bit.OverCurrent c = record { connection = c.connection; enable = c.enable; suspend = c.suspend; overcurrent = false; reset = c.reset }
cleared_bit bit.Reset c = record { connection = c.connection; enable = c.enable; suspend = c.suspend; overcurrent = c.overcurrent; reset = false }

abbrev pub change_cleared : Port → ChangeBit → Port
change_cleared p b = record { state = p.state; overcurrent = p.overcurrent; changes = cleared_bit b p.changes }

-- ClearPortFeature: 1 PORT_ENABLE, 2 PORT_SUSPEND, 8 PORT_POWER, 16 to 20 the change bits
abbrev pub feature_cleared : Port → ClearableFeature → Port
feature_cleared p clearable.Enable = (ruled clear_enable p).port
feature_cleared p clearable.Suspend = (ruled clear_suspend p).port
feature_cleared p clearable.Power = (ruled clear_power p).port
feature_cleared p (clearable.Change b) = change_cleared p b
