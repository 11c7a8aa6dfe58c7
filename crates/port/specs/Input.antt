-- All that acts on a port.
-- Believe: nothing else does. Bus reset gives the new port again. Only a line event can be refused by a port.
use Rattle.port.specs.declared.Port.{Port}
use Rattle.port.specs.declared.Input.{Input}
use Rattle.port.specs.declared.Input.TheVariants as input
use Rattle.port.specs.Reaction.{Answered, done_with, new_port}
use Rattle.port.specs.Events.{line_event}
use Rattle.port.specs.Tick.{ticked}
use Rattle.port.specs.Features.{feature_set, feature_cleared}
use Rattle.port.specs.Configuration.{configured, unconfigured}

-- what it is answered, and the port after it
abbrev pub stepped_by : Port → Input → Answered
stepped_by p (input.Event e) = line_event p e
stepped_by p input.Tick = done_with (ticked p)
stepped_by p (input.SetFeature f) = done_with (feature_set p f)
stepped_by p (input.ClearFeature f) = done_with (feature_cleared p f)
stepped_by p input.Configure = done_with (configured p)
stepped_by p input.Unconfigure = done_with (unconfigured p)
stepped_by p input.BusReset = done_with new_port

-- the port after it
abbrev pub after : Port → Input → Port
after p i = (stepped_by p i).port
