-- Internal, pinned by `RequestClaims` (Claims.antt): what wValue says, which is the features and the address, endpoint and direction of document
-- 01, with its numbers. Which are allowed stands beside what they mean; a meaning is used only where its number is allowed.
use Rattle.std.specs.Prelude.{ℕ, ◌/◌, ◌%◌, Bool, cond, ◌&&◌, ◌||◌, eqb, leb}
use Rattle.port.specs.declared.ChangeBit.{ChangeBit}
use Rattle.port.specs.declared.ChangeBit.TheVariants as change
use Rattle.port.specs.declared.ClearableFeature.{ClearableFeature}
use Rattle.port.specs.declared.ClearableFeature.TheVariants as clearable
use Rattle.port.specs.declared.SettableFeature.{SettableFeature}
use Rattle.port.specs.declared.SettableFeature.TheVariants as settable
use Rattle.buffer.specs.declared.Direction.{Direction}
use Rattle.buffer.specs.declared.Direction.TheVariants as direction
use Rattle.request.specs.declared.Pipe.{Pipe}

-- SetPortFeature: 2, 4, 8
abbrev pub is_settable : ℕ → Bool
is_settable v = eqb v 2 || (eqb v 4 || eqb v 8)

-- Features carry the status bit's number: 2 suspend, 4 reset, 8 power
abbrev pub settable_of : ℕ → SettableFeature
settable_of v =
    cond (eqb v 2) settable.Suspend
    (cond (eqb v 4) settable.Reset
    settable.Power)

-- ClearPortFeature: 1, 2, 8, 16 to 20
abbrev pub is_clearable : ℕ → Bool
is_clearable v = eqb v 1 || (eqb v 2 || (eqb v 8 || (leb 16 v && leb v 20)))

-- change features are 16 to 20. Change bits 0 to 4 match: connection, enable, suspend, over-current, reset
abbrev pub change_of : ℕ → ChangeBit
change_of v =
    cond (eqb v 16) change.Connection
    (cond (eqb v 17) change.Enable
    (cond (eqb v 18) change.Suspend
    (cond (eqb v 19) change.OverCurrent
    change.Reset)))

-- Features carry the status bit's number: 1 enable, 2 suspend, 8 power
abbrev pub clearable_of : ℕ → ClearableFeature
clearable_of v =
    cond (eqb v 1) clearable.Enable
    (cond (eqb v 2) clearable.Suspend
    (cond (eqb v 8) clearable.Power
    (clearable.Change (change_of v))))

-- ClearTTBuffer wValue: type 11 to 12 (0 or 2, else 2) .. rest [bits 13 and 14] zero
abbrev pub is_pipe : ℕ → Bool
is_pipe v = (eqb (v / 2048 % 4) 0 || eqb (v / 2048 % 4) 2) && eqb (v / 8192 % 4) 0

-- direction 15 (1 for IN)
abbrev pub direction_in : ℕ → Direction
direction_in b = cond (eqb b 1) direction.In direction.Out

-- endpoint bits 0 to 3, address 4 to 10
abbrev pub pipe_in : ℕ → Pipe
pipe_in v = record { address = record { 0 = v / 16 % 128 }; endpoint = v % 16; direction = direction_in (v / 32768) }
