-- C-21 of the C entries. A reader must believe: a port's bytes in the area are these four.
use Rattle.std.specs.Prelude.{ℕ, ◌+◌, ◌*◌, ◌-◌, ◌≡◌, List, length, take, drop}
use Rattle.port.specs.declared.PortNumber.{PortNumber}
use Rattle.isolation.specs.Isolation.{AtMatchingPoints, PortIsolation}
use Rattle.area.specs.Read.{hub_read}
use Rattle.grimholdi.specs.Runs.{entries}

-- where port p's four bytes begin: behind the head's eight and those of the ports before it
abbrev pub port_place : PortNumber → ℕ
port_place p = 8 + (p.0 - 1) * 4

-- the areas differ in port p's bytes alone
pub record SameAreaBut (p : PortNumber) (a b : List ℕ) : Type 0 where
  pub long : length a ≡ length b
  pub before : take (port_place p) a ≡ take (port_place p) b
  pub behind : drop (port_place p + 4) a ≡ drop (port_place p + 4) b

-- C-21: one port cannot disturb another
pub record EntryIsolation : Type 0 where
  pub ports : PortIsolation entries hub_read
  pub areas : AtMatchingPoints entries SameAreaBut
