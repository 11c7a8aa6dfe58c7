-- The hub's ports as a list of seven.
-- Believe: port n is element n - 1, since ports are numbered from 1; the hub has N ports, 1 to 7, and they are the first N.
use Rattle.std.specs.Prelude.{ℕ, ◌-◌, Bool, cond, ◌&&◌, List, get_or, set, replicate, leb}
use Rattle.port.specs.declared.Port.{Port}
use Rattle.port.specs.declared.PortNumber.{PortNumber}
use Rattle.port.specs.Reaction.{new_port}

-- the ports of a new hub
abbrev pub new_ports : List Port
new_ports = replicate 7 new_port

-- 1 to 7
abbrev pub one_to_seven : ℕ → Bool
one_to_seven n = leb 1 n && leb n 7

-- port n; a number outside 1 to 7 reads as the new port
unfoldable pub port_at : List Port → PortNumber → Port
port_at ps n = cond (one_to_seven n.0) (get_or ps (n.0 - 1) new_port) new_port

-- the ports with port n anew; a number outside 1 to 7 changes nothing
unfoldable pub with_port : List Port → PortNumber → Port → List Port
with_port ps n p = cond (one_to_seven n.0) (set ps (n.0 - 1) p) ps
