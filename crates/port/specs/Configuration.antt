-- What SetConfiguration does to a port, as document 01 says.
-- Believe: SetConfiguration puts every port in Not Configured or Powered-off, whatever was set before, and keeps change bits.
use Rattle.std.specs.Prelude.{Bool, false, []}
use Rattle.port.specs.declared.PortState.{PortState}
use Rattle.port.specs.declared.PortState.TheVariants.{NotConfigured, PoweredOff}
use Rattle.port.specs.declared.Port.{Port}
use Rattle.port.specs.Reaction.{Reaction, done, ruled}

-- SetConfiguration 0 puts every port in Not Configured, 1 in Powered-off: value 1
abbrev pub configure : Bool → PortState → Reaction
configure l s = done PoweredOff l []

abbrev pub configured : Port → Port
configured p = (ruled configure p).port

-- SetConfiguration 0 puts every port in Not Configured. Value 0 also drops over-current levels without a change bit
abbrev pub unconfigure : Bool → PortState → Reaction
unconfigure l s = done NotConfigured false []

abbrev pub unconfigured : Port → Port
unconfigured p = (ruled unconfigure p).port
