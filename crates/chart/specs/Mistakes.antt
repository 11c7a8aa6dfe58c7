-- Charts with one wrong cell, and engines with one mistake, and that the claim shuts each out: so it can't be weakened unnoticed.
-- A reader must believe: each is wrong as its comment says, and nowhere else.
use Rattle.std.specs.Prelude.{ℕ, ◌≡◌, true, false, List, get_or}
use Rattle.port.specs.declared.Speed.TheVariants.{Low, Full, High}
use Rattle.port.specs.declared.PortState.{PortState}
use Rattle.port.specs.declared.PortState.TheVariants.{NotConfigured, PoweredOff, Resetting, Enabled, Resuming}
use Rattle.port.specs.declared.ChangeBit.TheVariants as change
use Rattle.port.specs.declared.Port.{Port}
use Rattle.port.specs.declared.LineEvent.TheVariants.{AttachFull, Detach, Chirp}
use Rattle.port.specs.declared.SettableFeature.TheVariants as settable
use Rattle.port.specs.declared.ClearableFeature.TheVariants as clearable
use Rattle.port.specs.declared.Input.{Input}
use Rattle.port.specs.declared.Input.TheVariants as input
use Rattle.port.specs.Reaction.{Answered, mark, no_changes}
use Rattle.chart.specs.Chart.{runs_on, index_of, looked_up}
use Rattle.chart.specs.Engines.{by_rules, EnginesAgree}

-- a port in this state: without over-current and change bits, and with over-current and C_PORT_CONNECTION
abbrev pub bare : PortState → Port
bare s = record { state = s; overcurrent = false; changes = no_changes }

abbrev pub loaded : PortState → Port
loaded s = record { state = s; overcurrent = true; changes = mark change.Connection no_changes }

-- whatever else the chart says, with this cell at this port and input the engines don't agree
unfoldable pub WrongCell : Port → Input → ℕ → Type 0
WrongCell p i cell = (chart : List ℕ) → get_or chart (index_of (runs_on p.state) p i) 0 ≡ cell → ¬ (EnginesAgree (looked_up chart))

-- the right numbers, but the port is left as it was
abbrev pub numbers_alone : Port → Input → Answered
numbers_alone p i = record { port = p; number = (by_rules p i).number }

-- the right ports, but refused events are answered 0
abbrev pub ports_alone : Port → Input → Answered
ports_alone p i = record { port = (by_rules p i).port; number = 0 }

-- each tick counts twice
abbrev pub counts_twice : Port → Input → Answered
counts_twice p (input.Event e) = by_rules p (input.Event e)
counts_twice p input.Tick = by_rules (by_rules p input.Tick).port input.Tick
counts_twice p (input.SetFeature f) = by_rules p (input.SetFeature f)
counts_twice p (input.ClearFeature f) = by_rules p (input.ClearFeature f)
counts_twice p input.Configure = by_rules p input.Configure
counts_twice p input.Unconfigure = by_rules p input.Unconfigure
counts_twice p input.BusReset = by_rules p input.BusReset

pub record ChartMistakesShutOut : Type 0 where
  -- a detach in Resuming is accepted
  pub detach_in_resuming : WrongCell (bare (Resuming Full 0)) (input.Event Detach) 0x20001000
  -- a chirp at low speed makes high speed
  pub chirp_at_low : WrongCell (bare (Resetting Low 0)) (input.Event Chirp) 0x42000000
  -- the tick that ends a reset doesn't report it
  pub reset_unreported : WrongCell (bare (Resetting Full 14)) input.Tick 0x51000000
  -- before C-12: a detach in Enabled sets C_PORT_ENABLE too
  pub enable_on_detach : WrongCell (bare (Enabled Full)) (input.Event Detach) 0x20003000
  -- a refused event is answered 8 and moves the port all the same; it moves nothing and is answered 0
  pub refused_moves : WrongCell (bare PoweredOff) (input.Event AttachFull) 0x31001008
  pub refused_done : WrongCell (bare PoweredOff) (input.Event AttachFull) 0x10000000
  -- a high-speed port stays at high speed when it is reset
  pub reset_at_high : WrongCell (bare (Enabled High)) (input.SetFeature settable.Reset) 0x42000000
  -- a port request to an unconfigured hub is answered 0
  pub unconfigured_done : WrongCell (bare NotConfigured) (input.SetFeature settable.Power) 0x00000000
  -- set PORT_POWER powers a port with over-current
  pub power_with_over_current : WrongCell (loaded PoweredOff) (input.SetFeature settable.Power) 0x20100000
  -- SetConfiguration 0 keeps the level; a change bit is cleared with another; bus reset keeps the bits
  pub level_kept : WrongCell (loaded PoweredOff) input.Unconfigure 0x00100000
  pub other_bit_cleared : WrongCell (loaded PoweredOff) (input.ClearFeature (clearable.Change change.Reset)) 0x10100110
  pub bits_kept : WrongCell (loaded PoweredOff) input.BusReset 0x00000000
  pub numbers_alone_lem : ¬ (EnginesAgree numbers_alone)
  pub ports_alone_lem : ¬ (EnginesAgree ports_alone)
  pub counts_twice_lem : ¬ (EnginesAgree counts_twice)
