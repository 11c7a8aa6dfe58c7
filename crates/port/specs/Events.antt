-- The line events of document 01, state by state.
-- Believe: events elsewhere than named answer 8. Detach and over-current no longer set C_PORT_ENABLE (C-12): a port error alone does.
use Rattle.std.specs.Prelude.{Bool, true, false, cond, [], ◌∷◌}
use Rattle.port.specs.declared.Speed.{Speed}
use Rattle.port.specs.declared.Speed.TheVariants.{Low, Full, High}
use Rattle.port.specs.declared.PortState.{PortState}
use Rattle.port.specs.declared.PortState.TheVariants.{NotConfigured, PoweredOff, Disconnected, Disabled, Resetting, Enabled, Suspended, Resuming}
use Rattle.port.specs.declared.ChangeBit.TheVariants.{Connection, Enable, OverCurrent}
use Rattle.port.specs.declared.Port.{Port}
use Rattle.port.specs.declared.LineEvent.{LineEvent}
use Rattle.port.specs.declared.LineEvent.TheVariants.{AttachLow, AttachFull, Detach, Chirp, Wake, PortError, OverCurrentOn, OverCurrentOff}
use Rattle.port.specs.Reaction.{Reaction, refused, done, Answered, ruled}

-- attach (low or full): Disconnected to Disabled, sets C_PORT_CONNECTION
abbrev pub attach : Speed → Bool → PortState → Reaction
attach v l NotConfigured = refused
attach v l PoweredOff = refused
attach v l Disconnected = done (Disabled v) l (Connection ∷ [])
attach v l (Disabled s) = refused
attach v l (Resetting s t) = refused
attach v l (Enabled s) = refused
attach v l (Suspended s) = refused
attach v l (Resuming s t) = refused

-- detach: Disabled, Enabled, Suspended to Disconnected, sets C_PORT_CONNECTION
abbrev pub detach : Bool → PortState → Reaction
detach l NotConfigured = refused
detach l PoweredOff = refused
detach l Disconnected = refused
detach l (Disabled s) = done Disconnected l (Connection ∷ [])
detach l (Resetting s t) = refused
detach l (Enabled s) = done Disconnected l (Connection ∷ [])
detach l (Suspended s) = done Disconnected l (Connection ∷ [])
detach l (Resuming s t) = refused

-- chirp: Resetting at full speed; speed becomes high
abbrev pub chirp : Bool → PortState → Reaction
chirp l NotConfigured = refused
chirp l PoweredOff = refused
chirp l Disconnected = refused
chirp l (Disabled s) = refused
chirp l (Resetting Low t) = refused
chirp l (Resetting Full t) = done (Resetting High t) l []
chirp l (Resetting High t) = refused
chirp l (Enabled s) = refused
chirp l (Suspended s) = refused
chirp l (Resuming s t) = refused

-- wake: Suspended to Resuming
abbrev pub wake : Bool → PortState → Reaction
wake l NotConfigured = refused
wake l PoweredOff = refused
wake l Disconnected = refused
wake l (Disabled s) = refused
wake l (Resetting s t) = refused
wake l (Enabled s) = refused
wake l (Suspended s) = done (Resuming s 0) l []
wake l (Resuming s t) = refused

-- port error: Enabled to Disabled. USB 2.0, 11.24.2.7.2.2: C_PORT_ENABLE is set when PORT_ENABLE changes from one to zero as a result of a
-- port error, and not on any other change to PORT_ENABLE
abbrev pub port_error : Bool → PortState → Reaction
port_error l NotConfigured = refused
port_error l PoweredOff = refused
port_error l Disconnected = refused
port_error l (Disabled s) = refused
port_error l (Resetting s t) = refused
port_error l (Enabled s) = done (Disabled s) l (Enable ∷ [])
port_error l (Suspended s) = refused
port_error l (Resuming s t) = refused

-- over-current on: any configured state. A changed level sets C_PORT_OVER_CURRENT; the same level again is done with no effect.
-- On: to Powered-off
abbrev pub over_current_on : Bool → PortState → Reaction
over_current_on l NotConfigured = refused
over_current_on l PoweredOff = cond l (done PoweredOff l []) (done PoweredOff true (OverCurrent ∷ []))
over_current_on l Disconnected = cond l (done Disconnected l []) (done PoweredOff true (OverCurrent ∷ []))
over_current_on l (Disabled s) = cond l (done (Disabled s) l []) (done PoweredOff true (OverCurrent ∷ []))
over_current_on l (Resetting s t) = cond l (done (Resetting s t) l []) (done PoweredOff true (OverCurrent ∷ []))
over_current_on l (Enabled s) = cond l (done (Enabled s) l []) (done PoweredOff true (OverCurrent ∷ []))
over_current_on l (Suspended s) = cond l (done (Suspended s) l []) (done PoweredOff true (OverCurrent ∷ []))
over_current_on l (Resuming s t) = cond l (done (Resuming s t) l []) (done PoweredOff true (OverCurrent ∷ []))

-- over-current off: any configured state. A changed level sets C_PORT_OVER_CURRENT; the same level again is done with no effect
abbrev pub over_current_off : Bool → PortState → Reaction
over_current_off l NotConfigured = refused
over_current_off l PoweredOff = cond l (done PoweredOff false (OverCurrent ∷ [])) (done PoweredOff l [])
over_current_off l Disconnected = cond l (done Disconnected false (OverCurrent ∷ [])) (done Disconnected l [])
over_current_off l (Disabled s) = cond l (done (Disabled s) false (OverCurrent ∷ [])) (done (Disabled s) l [])
over_current_off l (Resetting s t) = cond l (done (Resetting s t) false (OverCurrent ∷ [])) (done (Resetting s t) l [])
over_current_off l (Enabled s) = cond l (done (Enabled s) false (OverCurrent ∷ [])) (done (Enabled s) l [])
over_current_off l (Suspended s) = cond l (done (Suspended s) false (OverCurrent ∷ [])) (done (Suspended s) l [])
over_current_off l (Resuming s t) = cond l (done (Resuming s t) false (OverCurrent ∷ [])) (done (Resuming s t) l [])

-- the rule of each line event
abbrev pub event_rule : LineEvent → Bool → PortState → Reaction
event_rule AttachLow = attach Low
event_rule AttachFull = attach Full
event_rule Detach = detach
event_rule Chirp = chirp
event_rule Wake = wake
event_rule PortError = port_error
event_rule OverCurrentOn = over_current_on
event_rule OverCurrentOff = over_current_off

-- a line event at a port: the port after it, and the answer
abbrev pub line_event : Port → LineEvent → Answered
line_event p e = ruled (event_rule e) p
