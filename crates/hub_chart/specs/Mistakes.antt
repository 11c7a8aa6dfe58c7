-- Engines with one mistake, and that `HubFollows` shuts each out; a rule with one, and that `OnlyInputsMove` does. A reader must believe: each is wrong
-- as its comment says.
use Rattle.std.specs.Prelude.{map}
use Rattle.port.specs.declared.Port.{Port}
use Rattle.port.specs.Reaction.{no_changes}
use Rattle.port.specs.Input.{stepped_by}
use Rattle.chart.specs.Mistakes.{numbers_alone, ports_alone}
use Rattle.hub.specs.declared.Hub.{Hub}
use Rattle.hub.specs.Hub.{with_ports}
use Rattle.hub.specs.Call.{Call, Control, Poll, Start, Complete, Launch, Deliver, Event, Tick, BusReset, Outcome}
use Rattle.hub.specs.Step.{step}
use Rattle.hub_chart.specs.HubChart.{HubFollows, OnlyInputsMove}

-- every port without its change bits
abbrev pub without_changes : Hub → Hub
without_changes h = with_ports h (map (λ (p : Port). record { state = p.state; overcurrent = p.overcurrent; changes = no_changes }) h.ports)

-- a poll clears what it has told
abbrev pub poll_clears : Hub → Call → Outcome
poll_clears h (Control z s room) = step h (Control z s room)
poll_clears h (Poll z room) = record { next = without_changes h; answer = (step h (Poll z room)).answer }
poll_clears h (Start z p t f g a e l) = step h (Start z p t f g a e l)
poll_clears h (Complete z a e d room) = step h (Complete z a e d room)
poll_clears h (Launch room) = step h (Launch room)
poll_clears h (Deliver r l) = step h (Deliver r l)
poll_clears h (Event e n) = step h (Event e n)
poll_clears h Tick = step h Tick
poll_clears h BusReset = step h BusReset

pub record HubChartMistakesShutOut : Type 0 where
  -- a port request to an unconfigured hub is done by the port's own rule
  pub own_rules : ¬ (HubFollows stepped_by)
  -- crate `chart`, specs/Mistakes: the right numbers or the right ports alone
  pub numbers_alone_lem : ¬ (HubFollows numbers_alone)
  pub ports_alone_lem : ¬ (HubFollows ports_alone)
  pub poll_clears_lem : ¬ (OnlyInputsMove poll_clears)
