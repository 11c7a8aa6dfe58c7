-- Rules with one mistake each in what sets C_PORT_ENABLE, and that the claim on it shuts each out: so the claim can't be weakened unnoticed.
-- Believe: each rule differs from `after` as its comment says, and nowhere else.
use Rattle.std.specs.Prelude.{ℕ, Bool, cond, not, ◌&&◌, ◌||◌, eqb}
use Rattle.port.specs.declared.ChangeBit.TheVariants.{Enable}
use Rattle.port.specs.declared.Changes.{Changes}
use Rattle.port.specs.declared.Port.{Port}
use Rattle.port.specs.declared.LineEvent.TheVariants.{AttachLow, AttachFull, Detach, Chirp, Wake, PortError, OverCurrentOn, OverCurrentOff}
use Rattle.port.specs.Reaction.{mark}
use Rattle.port.specs.Status.{port_enable, port_reset}
use Rattle.port.specs.declared.Input.{Input}
use Rattle.port.specs.declared.Input.TheVariants as input
use Rattle.port.specs.Input.{after}
use Rattle.port.specs.Claims.{EnableChange}

-- the kinds of input that can end PORT_ENABLE (`reset` is a bus reset), and the rest
pub data Ending : Type 0 where
  none : Ending
  detach : Ending
  over_current : Ending
  port_error : Ending
  request : Ending
  configuration : Ending
  reset : Ending

abbrev pub ending_of : Input → Ending
ending_of (input.Event AttachLow) = none
ending_of (input.Event AttachFull) = none
ending_of (input.Event Detach) = detach
ending_of (input.Event Chirp) = none
ending_of (input.Event Wake) = none
ending_of (input.Event PortError) = port_error
ending_of (input.Event OverCurrentOn) = over_current
ending_of (input.Event OverCurrentOff) = none
ending_of input.Tick = none
ending_of (input.SetFeature f) = request
ending_of (input.ClearFeature f) = request
ending_of input.Configure = configuration
ending_of input.Unconfigure = configuration
ending_of input.BusReset = reset

abbrev pub ending_number : Ending → ℕ
ending_number none = 0
ending_number detach = 1
ending_number over_current = 2
ending_number port_error = 3
ending_number request = 4
ending_number configuration = 5
ending_number reset = 6

abbrev pub only : Ending → Ending → Bool
only e x = eqb (ending_number x) (ending_number e)

-- one of these inputs ends PORT_ENABLE: it reads 1 before, and 0 after
abbrev pub ended_by : (Ending → Bool) → Port → Input → Bool
ended_by these p i = these (ending_of i) && (port_enable p.state && not (port_enable (after p i).state))

abbrev pub with_changes : Port → Changes → Port
with_changes p c = record { state = p.state; overcurrent = p.overcurrent; changes = c }

-- C_PORT_ENABLE is set as well where the test of port and input holds
abbrev pub also_where : (Port → Input → Bool) → Port → Input → Port
also_where test p i = let q = after p i in cond (test p i) (with_changes q (mark Enable q.changes)) q

-- document 01 before C-12: C_PORT_ENABLE is set whenever a line event, not a request or bus reset, ends PORT_ENABLE
abbrev pub before_c12 : Port → Input → Port
before_c12 = also_where (ended_by (λ e. only detach e || (only over_current e || only port_error e)))

-- the tick that ends a reset sets it
abbrev pub reset_ends : Port → Input → Bool
reset_ends p i = port_reset p.state && port_enable (after p i).state

-- a port error isn't reported: C_PORT_ENABLE is never newly set
abbrev pub unreported : Port → Input → Port
unreported p i =
    let q = after p i in
    let c = q.changes in
    with_changes q
    (record { connection = c.connection; enable = p.changes.enable && c.enable; suspend = c.suspend; overcurrent = c.overcurrent; reset = c.reset })

pub record EnableMistakesShutOut : Type 0 where
  pub before_C_12 : ¬ (EnableChange before_c12)
  pub by_detach : ¬ (EnableChange (also_where (ended_by (only detach))))
  pub by_over_current : ¬ (EnableChange (also_where (ended_by (only over_current))))
  pub by_tick : ¬ (EnableChange (also_where reset_ends))
  pub by_request_lem : ¬ (EnableChange (also_where (ended_by (only request))))
  pub by_configuration : ¬ (EnableChange (also_where (ended_by (only configuration))))
  pub by_bus_reset : ¬ (EnableChange (also_where (ended_by (only reset))))
  pub never : ¬ (EnableChange unreported)
