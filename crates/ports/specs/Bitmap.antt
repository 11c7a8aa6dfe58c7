-- The status change bitmap, which a poll gives.
-- Believe: one byte, bit p for port p, bit 0 zero; the bit of a port that the hub doesn't have is zero.
use Rattle.std.specs.Prelude.{ℕ, Bool, false, ◌&&◌, List, [], ◌∷◌, map, leb}
use Rattle.port.specs.declared.Port.{Port}
use Rattle.port.specs.Status.{byte_of, has_change}
use Rattle.ports.specs.Ports.{port_at}

-- port p is one of the first n, and has a change bit set
abbrev pub port_bit : ℕ → List Port → ℕ → Bool
port_bit n ps p = leb p n && has_change (port_at ps (record { 0 = p })).changes

-- its bits, bit 0 first
abbrev pub bitmap_bits : ℕ → List Port → List Bool
bitmap_bits n ps = false ∷ map (port_bit n ps) (1 ∷ 2 ∷ 3 ∷ 4 ∷ 5 ∷ 6 ∷ 7 ∷ [])

-- Poll: one byte, bit p for port p, bit 0 zero
unfoldable pub bitmap_of : ℕ → List Port → ℕ
bitmap_of n ps = byte_of (bitmap_bits n ps)
