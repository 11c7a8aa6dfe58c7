-- What holds of every port, beyond the rules state by state.
-- Believe: Input has all that acts on a port, and the new port is where every port starts.
use Rattle.std.specs.Prelude.{◌≡◌, true, false, map, ◌↔◌, ◌⊎◌}
use Rattle.port.specs.declared.Speed.{Speed}
use Rattle.port.specs.declared.PortState.TheVariants.{Enabled}
use Rattle.port.specs.declared.ChangeBit.{ChangeBit}
use Rattle.port.specs.declared.Port.{Port}
use Rattle.port.specs.declared.LineEvent.{LineEvent}
use Rattle.port.specs.declared.LineEvent.TheVariants.{PortError}
use Rattle.port.specs.declared.ClearableFeature.TheVariants.{Change}
use Rattle.port.specs.Reaction.{new_port}
use Rattle.port.specs.Events.{line_event}
use Rattle.port.specs.Status.{status_bits, status_bytes}
use Rattle.port.specs.declared.Input.{Input}
use Rattle.port.specs.declared.Input.TheVariants as input
use Rattle.port.specs.Input.{after}
use Rattle.port.specs.Words.{TimerBelowEnd, bits_of, change_bit, NamedIn}

-- a port error on an Enabled port, at any speed
pub record ErrorWhileEnabled (p : Port) (i : Input) : Type 0 where
  pub port_error_lem : i ≡ input.Event PortError
  pub speed : Speed
  pub enabled : p.state ≡ Enabled speed

-- of a rule that moves ports: C_PORT_ENABLE is newly set exactly by a port error on an Enabled port, whatever the port and the input
abbrev pub EnableChange : (Port → Input → Port) → Type 0
EnableChange rule = (p : Port) (i : Input) → p.changes.enable ≡ false → ((rule p i).changes.enable ≡ true) ↔ ErrorWhileEnabled p i

pub record PortClaims : Type 0 where
  -- every port has its timer below its end
  pub new_timer : TimerBelowEnd new_port.state
  pub timer_kept : (p : Port) (i : Input) → TimerBelowEnd p.state → TimerBelowEnd (after p i).state
  -- the bits of the four status bytes are those of the tables, the over-current level and the change bits; all others are 0
  pub status_bits_lem : (p : Port) → map (bits_of 8) (status_bytes p) ≡ status_bits p
  -- 8 not in this state: nothing changed
  pub event_answers : (p : Port) (e : LineEvent) → ((line_event p e).number ≡ 0) ⊎ ((line_event p e).number ≡ 8)
  -- Events elsewhere than named answer 8.
  pub event_done : (p : Port) (e : LineEvent) → ((line_event p e).number ≡ 0) ↔ NamedIn e p.state
  pub refused_unchanged : (p : Port) (e : LineEvent) → (line_event p e).number ≡ 8 → (line_event p e).port ≡ p
  -- Change bits stay until cleared by request or bus reset
  pub change_stays : (b : ChangeBit) (p : Port) (i : Input) → ¬ (i ≡ input.ClearFeature (Change b)) → ¬ (i ≡ input.BusReset)
      → change_bit b p.changes ≡ true → change_bit b (after p i).changes ≡ true
  pub change_cleared_lem : (b : ChangeBit) (p : Port) → change_bit b (after p (input.ClearFeature (Change b))).changes ≡ false
  pub all_cleared : (b : ChangeBit) (p : Port) → change_bit b (after p input.BusReset).changes ≡ false
  pub others_kept : (b x : ChangeBit) (p : Port) → ¬ (x ≡ b)
      → change_bit x (after p (input.ClearFeature (Change b))).changes ≡ change_bit x p.changes
  pub state_kept : (b : ChangeBit) (p : Port) → (after p (input.ClearFeature (Change b))).state ≡ p.state
  pub level_kept : (b : ChangeBit) (p : Port) → (after p (input.ClearFeature (Change b))).overcurrent ≡ p.overcurrent
  -- C-12 (USB 2.0, 11.24.2.7.2.2): C_PORT_ENABLE is set for a port error alone
  pub enable_change : EnableChange after
