-- Rules with one mistake each in what sets C_PORT_ENABLE, and that the claim on its reports shuts each out. A reader must believe: each is the
-- rules, but that a line event moves its port by a rule of crate port, specs/Mistakes.
use Rattle.port.specs.declared.Port.{Port}
use Rattle.port.specs.Events.{line_event}
use Rattle.port.specs.declared.Input.{Input}
use Rattle.port.specs.declared.Input.TheVariants as input
use Rattle.port.specs.Mistakes.{detach, over_current, only, ended_by, also_where, before_c12, unreported}
use Rattle.ports.specs.Ports.{port_at}
use Rattle.hub.specs.Hub.{with_port_at}
use Rattle.hub.specs.Call.{plain}
use Rattle.runs.specs.Machine.{Machine}
use Rattle.runs.specs.Altered.{with_event, altered_ports}
use Rattle.runs.specs.ErrorReports.{ErrorReports}

abbrev pub with_events : (Port → Input → Port) → Machine
with_events rule =
    altered_ports
    (with_event
    (λ h e m.
    let p = port_at h.ports m in
    plain (with_port_at h m (rule p (input.Event e))) (line_event p e).number))

pub record ReportMistakesShutOut : Type 0 where
  pub before_C_12 : ¬ (ErrorReports (with_events before_c12))
  pub by_detach : ¬ (ErrorReports (with_events (also_where (ended_by (only detach)))))
  pub by_over_current : ¬ (ErrorReports (with_events (also_where (ended_by (only over_current)))))
  -- a port error that the host doesn't see
  pub never : ¬ (ErrorReports (with_events unreported))
