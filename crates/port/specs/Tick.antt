-- The 1 ms tick of document 01, state by state.
-- Believe: a timer counts the ticks so far, so the 15th tick meets 14 and the 22nd meets 21.
use Rattle.std.specs.Prelude.{◌+◌, Bool, cond, [], ◌∷◌, ltb}
use Rattle.port.specs.declared.PortState.{PortState}
use Rattle.port.specs.declared.PortState.TheVariants.{NotConfigured, PoweredOff, Disconnected, Disabled, Resetting, Enabled, Suspended, Resuming}
use Rattle.port.specs.declared.ChangeBit.TheVariants.{Suspend, Reset}
use Rattle.port.specs.declared.Port.{Port}
use Rattle.port.specs.Reaction.{Reaction, done, ruled}

-- tick (1 ms, all ports): the 15th in Resetting gives Enabled and C_PORT_RESET; the 22nd in Resuming gives Enabled and C_PORT_SUSPEND
abbrev pub tick : Bool → PortState → Reaction
tick l NotConfigured = done NotConfigured l []
tick l PoweredOff = done PoweredOff l []
tick l Disconnected = done Disconnected l []
tick l (Disabled s) = done (Disabled s) l []
tick l (Resetting s t) = cond (ltb t 14) (done (Resetting s (t + 1)) l []) (done (Enabled s) l (Reset ∷ []))
tick l (Enabled s) = done (Enabled s) l []
tick l (Suspended s) = done (Suspended s) l []
tick l (Resuming s t) = cond (ltb t 21) (done (Resuming s (t + 1)) l []) (done (Enabled s) l (Suspend ∷ []))

abbrev pub ticked : Port → Port
ticked p = (ruled tick p).port
