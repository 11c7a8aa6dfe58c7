-- Internal, pinned by `KeyTest` (Claims.antt): the one test of keys.
use Rattle.std.specs.Prelude.{Bool, true, false, ◌&&◌, eqb}
use Rattle.buffer.specs.declared.Direction.{Direction}
use Rattle.buffer.specs.declared.Direction.TheVariants as direction
use Rattle.buffer.specs.declared.Key.{Key}
use Rattle.buffer.specs.Key.{same_lane}

abbrev pub same_direction : Direction → Direction → Bool
same_direction direction.Out direction.Out = true
same_direction direction.Out direction.In = false
same_direction direction.In direction.Out = false
same_direction direction.In direction.In = true

unfoldable pub same_key : Key → Key → Bool
same_key a b =
    same_lane a.lane b.lane
    && (eqb a.address.0 b.address.0 && (eqb a.endpoint b.endpoint && same_direction a.direction b.direction))
