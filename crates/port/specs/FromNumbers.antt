-- Internal, pinned by `AreaExact` (crate `area`) and `EnginesAgree` (crate `chart`): which state has a number,
-- and where its timer ends.
use Rattle.std.specs.Prelude.{ℕ, cond, eqb}
use Rattle.port.specs.declared.Speed.{Speed}
use Rattle.port.specs.declared.Speed.TheVariants.{Low, Full, High}
use Rattle.port.specs.declared.PortState.{PortState}
use Rattle.port.specs.declared.PortState.TheVariants.{NotConfigured, PoweredOff, Disconnected, Disabled, Resetting, Enabled, Suspended, Resuming}

-- low where no speed has the number
abbrev pub speed_of : ℕ → Speed
speed_of n = cond (eqb n 1) Full (cond (eqb n 2) High Low)

-- Not Configured where no state has the number
abbrev pub state_of : ℕ → Speed → ℕ → PortState
state_of n v t =
    cond (eqb n 1) PoweredOff
    (cond (eqb n 2) Disconnected
    (cond (eqb n 3) (Disabled v)
    (cond (eqb n 4) (Resetting v t)
    (cond (eqb n 5) (Enabled v)
    (cond (eqb n 6) (Suspended v)
    (cond (eqb n 7) (Resuming v t) NotConfigured))))))

-- the ticks that a state's number goes with are those below this
abbrev pub end_of : ℕ → ℕ
end_of n = cond (eqb n 4) 15 (cond (eqb n 7) 22 1)
