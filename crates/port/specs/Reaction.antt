-- What a rule of document 01 says of one port, and what the port is afterwards.
-- Believe: a rule looks at the over-current level and the state only, and a refused line event is answered 8 with nothing changed.
use Rattle.std.specs.Prelude.{ℕ, Bool, true, false, List, [], ◌∷◌}
use Rattle.port.specs.declared.PortState.{PortState}
use Rattle.port.specs.declared.PortState.TheVariants.{NotConfigured}
use Rattle.port.specs.declared.ChangeBit.{ChangeBit}
use Rattle.port.specs.declared.ChangeBit.TheVariants.{Connection, Enable, Suspend, OverCurrent, Reset}
use Rattle.port.specs.declared.Changes.{Changes}
use Rattle.port.specs.declared.Port.{Port}

-- what a rule says
pub data Reaction : Type 0 where
  -- not in this state: nothing changed
  refused : Reaction
  -- done: the next state, the next over-current level, the change bits that are set
  done : PortState → Bool → List ChangeBit → Reaction

-- a change bit set, the others kept
abbrev pub mark : ChangeBit → Changes → Changes
mark Connection c = record { connection = true; enable = c.enable; suspend = c.suspend; overcurrent = c.overcurrent; reset = c.reset }
mark Enable c = record { connection = c.connection; enable = true; suspend = c.suspend; overcurrent = c.overcurrent; reset = c.reset }
mark Suspend c = record { connection = c.connection; enable = c.enable; suspend = true; overcurrent = c.overcurrent; reset = c.reset }
mark OverCurrent c = record { connection = c.connection; enable = c.enable; suspend = c.suspend; overcurrent = true; reset = c.reset }
mark Reset c = record { connection = c.connection; enable = c.enable; suspend = c.suspend; overcurrent = c.overcurrent; reset = true }

-- these change bits set, the others kept
abbrev pub marked : List ChangeBit → Changes → Changes
marked [] c = c
marked (b ∷ bs) c = mark b (marked bs c)

-- the port as a step leaves it, and the number that is answered
pub record Answered : Type 0 where
  pub port : Port
  pub number : ℕ

-- done: answer 0
abbrev pub done_with : Port → Answered
done_with p = record { port = p; number = 0 }

-- refused, 8: nothing changed; done, 0: state as the rule says
abbrev pub reacted : Port → Reaction → Answered
reacted p refused = record { port = p; number = 8 }
reacted p (done s l bs) = done_with (record { state = s; overcurrent = l; changes = marked bs p.changes })

-- a rule at a port
abbrev pub ruled : (Bool → PortState → Reaction) → Port → Answered
ruled rule p = reacted p (rule p.overcurrent p.state)

abbrev pub no_changes : Changes
no_changes = record { connection = false; enable = false; suspend = false; overcurrent = false; reset = false }

-- A new hub is unconfigured, with no change bits: its ports are Not Configured
abbrev pub new_port : Port
new_port = record { state = NotConfigured; overcurrent = false; changes = no_changes }
