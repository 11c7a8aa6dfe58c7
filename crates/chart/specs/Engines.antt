-- The two engines of a port, and that they agree (C-20). A reader must believe: a port request is 2 where the port is Not Configured, since the
-- hub is unconfigured then.
use Rattle.std.specs.Prelude.{◌≡◌, Bool, true, false, cond, ◌&&◌, List, [], ◌∷◌}
use Rattle.port.specs.declared.Port.{Port}
use Rattle.port.specs.declared.Input.{Input}
use Rattle.port.specs.declared.Input.TheVariants as input
use Rattle.port.specs.Reaction.{Answered}
use Rattle.port.specs.Input.{stepped_by}
use Rattle.port.specs.Words.{is_not_configured}
use Rattle.chart.specs.declared.PortAnswer.{PortAnswer}

-- what an engine gives back
abbrev pub answered : PortAnswer → Answered
answered r = record { port = r.port; number = r.number }

-- SetPortFeature, ClearPortFeature
abbrev pub is_port_request : Input → Bool
is_port_request (input.Event e) = false
is_port_request input.Tick = false
is_port_request (input.SetFeature f) = true
is_port_request (input.ClearFeature f) = true
is_port_request input.Configure = false
is_port_request input.Unconfigure = false
is_port_request input.BusReset = false

-- the first engine: the rules of a port. Unconfigured, only the first three requests are served; others are 2
abbrev pub by_rules : Port → Input → Answered
by_rules p i = cond (is_port_request i && is_not_configured p.state) (record { port = p; number = 2 }) (stepped_by p i)

-- what an engine gives for a sequence of inputs: each number, and the port after it
abbrev pub run : (Port → Input → Answered) → Port → List Input → List Answered
run engine p [] = []
run engine p (i ∷ is) = engine p i ∷ run engine (engine p i).port is

-- They agree for all states, timers, inputs and sequences, refused events included: of an engine beside the rules
pub record EnginesAgree (engine : Port → Input → Answered) : Type 0 where
  -- whatever the state, the timer, the speed, the over-current level and the change bits
  pub step : (p : Port) (i : Input) → engine p i ≡ by_rules p i
  pub runs : (p : Port) (is : List Input) → run engine p is ≡ run by_rules p is
