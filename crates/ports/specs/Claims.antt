-- What holds of the ports' rules.
-- Believe: the hub's ports are a list of seven, of which the first n, at most 7, are in use.
use Rattle.std.specs.Prelude.{ℕ, ◌≤◌, ◌<◌, ◌≡◌, false, List, ◌↔◌, length, get_or, drop}
use Rattle.port.specs.declared.Port.{Port}
use Rattle.port.specs.declared.PortNumber.{PortNumber}
use Rattle.port.specs.Reaction.{new_port}
use Rattle.port.specs.Status.{has_change}
use Rattle.port.specs.Words.{Among, bits_of}
use Rattle.ports.specs.declared.Sweep.{Sweep}
use Rattle.ports.specs.Ports.{new_ports, port_at, with_port}
use Rattle.ports.specs.Sweep.{swept_by, swept}
use Rattle.ports.specs.Bitmap.{port_bit, bitmap_of}

pub record PortsClaims : Type 0 where
  pub new_at : (m : PortNumber) → port_at new_ports m ≡ new_port
  -- a sweep leaves the ports above n alone, and keeps their count
  pub sweep_spares : (w : Sweep) (n : ℕ) (ps : List Port) → drop n (swept w n ps) ≡ drop n ps
  pub sweep_length : (w : Sweep) (n : ℕ) (ps : List Port) → length (swept w n ps) ≡ length ps
  -- and does its step at each port from 1 to n
  pub sweep_steps : (w : Sweep) (n : ℕ) (ps : List Port) (m : PortNumber) → length ps ≡ 7 → n ≤ 7 → Among n m
      → port_at (swept w n ps) m ≡ swept_by w (port_at ps m)
  -- a port set anew is read back, and every other port is as it was
  pub set_read : (ps : List Port) (n : PortNumber) (p : Port) → length ps ≡ 7 → Among 7 n → port_at (with_port ps n p) n ≡ p
  pub others_kept : (ps : List Port) (n m : PortNumber) (p : Port) → ¬ (m.0 ≡ n.0) → port_at (with_port ps n p) m ≡ port_at ps m
  pub set_length : (ps : List Port) (n : PortNumber) (p : Port) → length (with_port ps n p) ≡ length ps
  -- the bitmap is one byte; bit 0 is zero, bit p is port p's; the whole is 0 exactly if no port has a change bit set
  pub bitmap_byte : (n : ℕ) (ps : List Port) → bitmap_of n ps < 256
  pub bitmap_bit_0 : (n : ℕ) (ps : List Port) → get_or (bits_of 8 (bitmap_of n ps)) 0 false ≡ false
  pub bitmap_bit_lem : (n : ℕ) (ps : List Port) (m : PortNumber) → Among 7 m → get_or (bits_of 8 (bitmap_of n ps)) m.0 false ≡ port_bit n ps m.0
  pub bitmap_none : (n : ℕ) (ps : List Port) → n ≤ 7
      → (bitmap_of n ps ≡ 0) ↔ ((m : PortNumber) → Among n m → has_change (port_at ps m).changes ≡ false)
