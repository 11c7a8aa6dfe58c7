-- Each mistake in what sets C_PORT_ENABLE breaks the claim, at one port. Assumes nothing.
use mathlib.Core.Path.{◌≡◌, refl, ap, ◌∙◌, sym}
use mathlib.Core.Bool.{true, false, true≢false}
use Rattle.port.specs.declared.Speed.TheVariants.{Full}
use Rattle.port.specs.declared.PortState.{PortState}
use Rattle.port.specs.declared.PortState.TheVariants.{Resetting, Enabled, Suspended, Resuming}
use Rattle.port.specs.declared.Port.{Port}
use Rattle.port.specs.declared.LineEvent.TheVariants.{Detach, PortError, OverCurrentOn}
use Rattle.port.specs.declared.ClearableFeature.TheVariants as clearable
use Rattle.port.specs.Reaction.{no_changes}
use Rattle.port.specs.declared.Input.{Input}
use Rattle.port.specs.declared.Input.TheVariants as input
use Rattle.port.specs.Claims.{EnableChange}
use Rattle.port.specs.Mistakes.{detach, over_current, request, configuration, reset, only, ended_by, also_where, before_c12, reset_ends, EnableMistakesShutOut}
use Rattle.port.proofs.EnableChange.{is_port_error}

-- a port without change bits
abbrev quiet_in : PortState → Port
quiet_in s = record { state = s; overcurrent = false; changes = no_changes }

-- C_PORT_ENABLE is newly set by an input that is no port error
set_by : (rule : Port → Input → Port) (s : PortState) (i : Input) → is_port_error i ≡ false → (rule (quiet_in s) i).changes.enable ≡ true
    → ¬ (EnableChange rule)
set_by rule s i n set claim = true≢false (sym (ap is_port_error ((claim (quiet_in s) i refl).0 set).port_error_lem) ∙ n)

pub enable_mistakes_shut_out_lem : EnableMistakesShutOut
enable_mistakes_shut_out_lem =
    record {
      before_C_12 = set_by before_c12 (Enabled Full) (input.Event Detach) refl refl;
      by_detach = set_by (also_where (ended_by (only detach))) (Suspended Full) (input.Event Detach) refl refl;
      by_over_current = set_by (also_where (ended_by (only over_current))) (Resuming Full 0) (input.Event OverCurrentOn) refl refl;
      by_tick = set_by (also_where reset_ends) (Resetting Full 14) input.Tick refl refl;
      by_request_lem = set_by (also_where (ended_by (only request))) (Enabled Full) (input.ClearFeature clearable.Enable) refl refl;
      by_configuration = set_by (also_where (ended_by (only configuration))) (Enabled Full) input.Configure refl refl;
      by_bus_reset = set_by (also_where (ended_by (only reset))) (Enabled Full) input.BusReset refl refl;
      never = λ claim. true≢false (sym ((claim (quiet_in (Enabled Full)) (input.Event PortError) refl).1 (record { port_error_lem = refl; speed = Full; enabled = refl })));
    }
