-- Internal, pinned by `AreaExact` (Claims.antt): reading an area. One that is taken gives the hub that its bytes stand for, any other none.
use Rattle.std.specs.Prelude.{ℕ, ◌+◌, List, cond, Option, Some, None, unwrap_or, length, take, drop, leb}
use Rattle.buffer.specs.declared.Buffer.{Buffer}
use Rattle.buffer.specs.Buffer.{vacant}
use Rattle.hub.specs.declared.Hub.{Hub}
use Rattle.hub.specs.Hub.{hub_of}
use Rattle.area_check.specs.Read.{buffer_of, decoded, accepts}

unfoldable pub read_of : List ℕ → Option Hub
read_of a = cond (accepts a) (Some (decoded a)) None

-- the hub of an area; one without ports and buffers where the area is refused
abbrev pub hub_read : List ℕ → Hub
hub_read a = unwrap_or (read_of a) (hub_of 0 0 0 0 0)

-- the buffer whose 72 bytes begin at n; an empty one where the area doesn't have them
unfoldable pub buffer_from : ℕ → List ℕ → Buffer
buffer_from n a = cond (leb (n + 72) (length a)) (buffer_of (take 72 (drop n a))) vacant
