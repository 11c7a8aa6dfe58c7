-- The claims on the ports' rules. Assumes nothing.
use Prim.Native.Nat.{ℕ, zero, suc, ◌-◌, ◌≤◌, ◌<◌}
use mathlib.Core.Path.{◌≡◌, refl, sym, ◌∙◌, ap}
use mathlib.Core.Bool.{Bool, true, false, cond, ◌&&◌, true≢false}
use mathlib.Core.List.{List, [], ◌∷◌}
use native.Mathlib.Omega.{arith}
use lib.ListN.{length, get_or, set, drop, length-set, get_or-replicate}
use lib.Seq.{set-get_or, get_or-set_same, get_or-set_other}
use lib.Dec.{leb}
use borrow.Author.Tests.{leb-true, le-leb}
use Rattle.port.specs.declared.Port.{Port}
use Rattle.port.specs.declared.PortNumber.{PortNumber}
use Rattle.port.specs.Reaction.{new_port}
use Rattle.bools.specs.Bit.{bit}
use Rattle.port.specs.Status.{byte_of, has_change}
use Rattle.port.specs.Words.{bits_of, Among}
use Rattle.port.proofs.Bits.{bits_back}
use Rattle.ports.specs.declared.Sweep.{Sweep}
use Rattle.ports.specs.Ports.{new_ports, one_to_seven, port_at, with_port}
use Rattle.ports.specs.Sweep.{swept_by, swept}
use Rattle.ports.specs.Bitmap.{port_bit, bitmap_bits, bitmap_of}
use Rattle.ports.specs.Claims.{PortsClaims}
use Rattle.ports.proofs.Front.{drop_front, length_front, get_d_front}

-- a number is from 1 to 7, or outside
pub by_range : (P : Bool → Type 0) (n : ℕ) → (1 ≤ n → n ≤ 7 → P true) → P false → P (one_to_seven n)
by_range P n i o = go (leb 1 n) (leb n 7) refl refl
  where
    go : (a b : Bool) → leb 1 n ≡ a → leb n 7 ≡ b → P (a && b)
    go true true e f = i (leb-true 1 n e) (leb-true n 7 f)
    go true false e f = o
    go false b e f = o

pub at-port : (ps : List Port) (m : PortNumber) → 1 ≤ m.0 → m.0 ≤ 7 → port_at ps m ≡ get_or ps (m.0 - 1) new_port
unfolding port_at
at-port ps m h g = rw (le-leb 1 m.0 h, le-leb m.0 7 g)

pub set-port : (ps : List Port) (n : PortNumber) (p : Port) → 1 ≤ n.0 → n.0 ≤ 7 → with_port ps n p ≡ set ps (n.0 - 1) p
unfolding with_port
set-port ps n p h g = rw (le-leb 1 n.0 h, le-leb n.0 7 g)

new_at : (m : PortNumber) → port_at new_ports m ≡ new_port
unfolding port_at
new_at m =
    by_range (λ b. cond b (get_or new_ports (m.0 - 1) new_port) new_port ≡ new_port) m.0
    (λ h g. get_or-replicate 7 (m.0 - 1) new_port new_port (omega arith))
    refl

sweep_spares : (w : Sweep) (n : ℕ) (ps : List Port) → drop n (swept w n ps) ≡ drop n ps
unfolding swept
sweep_spares w n ps = drop_front (swept_by w) n ps

sweep_length : (w : Sweep) (n : ℕ) (ps : List Port) → length (swept w n ps) ≡ length ps
unfolding swept
sweep_length w n ps = length_front (swept_by w) n ps

sweep_steps : (w : Sweep) (n : ℕ) (ps : List Port) (m : PortNumber) → length ps ≡ 7 → n ≤ 7 → Among n m
    → port_at (swept w n ps) m ≡ swept_by w (port_at ps m)
unfolding swept
sweep_steps w n ps m l h g =
    at-port (swept w n ps) m g.0 (omega arith)
    ∙ get_d_front (swept_by w) n (m.0 - 1) ps new_port (omega arith) (omega arith)
    ∙ ap (swept_by w) (sym (at-port ps m g.0 (omega arith)))

set_read : (ps : List Port) (n : PortNumber) (p : Port) → length ps ≡ 7 → Among 7 n → port_at (with_port ps n p) n ≡ p
set_read ps n p l h =
    at-port (with_port ps n p) n h.0 h.1
    ∙ ap (λ (qs : List Port). get_or qs (n.0 - 1) new_port) (set-port ps n p h.0 h.1)
    ∙ get_or-set_same ps (n.0 - 1) p new_port (omega arith)

-- a port that is put back as it stood changes nothing
pub put_back : (ps : List Port) (n : PortNumber) → with_port ps n (port_at ps n) ≡ ps
unfolding port_at with_port
put_back ps n =
    elim (one_to_seven n.0) as (λ b. cond b (set ps (n.0 - 1) (cond b (get_or ps (n.0 - 1) new_port) new_port)) ps ≡ ps) [
      | true ↦ set-get_or ps (n.0 - 1) new_port
      | false ↦ refl
    ]

set_length : (ps : List Port) (n : PortNumber) (p : Port) → length (with_port ps n p) ≡ length ps
unfolding with_port
set_length ps n p = by_range (λ b. length (cond b (set ps (n.0 - 1) p) ps) ≡ length ps) n.0 (λ h g. length-set ps (n.0 - 1) p) refl

others_kept : (ps : List Port) (n m : PortNumber) (p : Port) → ¬ (m.0 ≡ n.0) → port_at (with_port ps n p) m ≡ port_at ps m
unfolding port_at with_port
others_kept ps n m p d =
    by_range (λ b. cond b (get_or (with_port ps n p) (m.0 - 1) new_port) new_port ≡ cond b (get_or ps (m.0 - 1) new_port) new_port) m.0
    (λ h g.
    by_range (λ b. get_or (cond b (set ps (n.0 - 1) p) ps) (m.0 - 1) new_port ≡ get_or ps (m.0 - 1) new_port) n.0
    (λ i j. get_or-set_other ps (n.0 - 1) (m.0 - 1) p new_port (λ e. d (omega arith)))
    refl)
    refl

bit-at_most_1 : (b : Bool) → bit b ≤ 1
bit-at_most_1 true = omega arith
bit-at_most_1 false = omega arith

byte_of_8 : (b0 b1 b2 b3 b4 b5 b6 b7 : Bool) → byte_of (b0 ∷ b1 ∷ b2 ∷ b3 ∷ b4 ∷ b5 ∷ b6 ∷ b7 ∷ []) < 256
byte_of_8 b0 b1 b2 b3 b4 b5 b6 b7 =
    omega (
      arith,
      bit-at_most_1 b0,
      bit-at_most_1 b1,
      bit-at_most_1 b2,
      bit-at_most_1 b3,
      bit-at_most_1 b4,
      bit-at_most_1 b5,
      bit-at_most_1 b6,
      bit-at_most_1 b7,
    )

bitmap_byte : (n : ℕ) (ps : List Port) → bitmap_of n ps < 256
unfolding bitmap_of
bitmap_byte n ps = byte_of_8 false (port_bit n ps 1) (port_bit n ps 2) (port_bit n ps 3) (port_bit n ps 4) (port_bit n ps 5) (port_bit n ps 6) (port_bit n ps 7)

pub bitmap_bits_lem : (n : ℕ) (ps : List Port) → bits_of 8 (bitmap_of n ps) ≡ bitmap_bits n ps
unfolding bitmap_of
bitmap_bits_lem n ps = bits_back (bitmap_bits n ps)

-- by the number of a bit, 0 to 7, or past them
pub by_bit : (P : ℕ → Type 0) → P 0 → P 1 → P 2 → P 3 → P 4 → P 5 → P 6 → P 7 → ((i : ℕ) → P (suc (suc (suc (suc (suc (suc (suc (suc i))))))))) → (n : ℕ) → P n
by_bit P p0 p1 p2 p3 p4 p5 p6 p7 past zero = p0
by_bit P p0 p1 p2 p3 p4 p5 p6 p7 past (suc zero) = p1
by_bit P p0 p1 p2 p3 p4 p5 p6 p7 past (suc (suc zero)) = p2
by_bit P p0 p1 p2 p3 p4 p5 p6 p7 past (suc (suc (suc zero))) = p3
by_bit P p0 p1 p2 p3 p4 p5 p6 p7 past (suc (suc (suc (suc zero)))) = p4
by_bit P p0 p1 p2 p3 p4 p5 p6 p7 past (suc (suc (suc (suc (suc zero))))) = p5
by_bit P p0 p1 p2 p3 p4 p5 p6 p7 past (suc (suc (suc (suc (suc (suc zero)))))) = p6
by_bit P p0 p1 p2 p3 p4 p5 p6 p7 past (suc (suc (suc (suc (suc (suc (suc zero))))))) = p7
by_bit P p0 p1 p2 p3 p4 p5 p6 p7 past (suc (suc (suc (suc (suc (suc (suc (suc i)))))))) = past i

bits_at : (n : ℕ) (ps : List Port) (m : ℕ) → 1 ≤ m → m ≤ 7 → get_or (bitmap_bits n ps) m false ≡ port_bit n ps m
bits_at n ps =
    by_bit (λ m. 1 ≤ m → m ≤ 7 → get_or (bitmap_bits n ps) m false ≡ port_bit n ps m) (λ h g. absurd (omega arith))
    (λ h g. refl) (λ h g. refl) (λ h g. refl) (λ h g. refl) (λ h g. refl) (λ h g. refl) (λ h g. refl) (λ i h g. absurd (omega arith))

bitmap_bit_lem : (n : ℕ) (ps : List Port) (m : PortNumber) → Among 7 m → get_or (bits_of 8 (bitmap_of n ps)) m.0 false ≡ port_bit n ps m.0
bitmap_bit_lem n ps m h = ap (λ (bs : List Bool). get_or bs m.0 false) (bitmap_bits_lem n ps) ∙ bits_at n ps m.0 h.0 h.1

pub all_zero : (bs : List Bool) → ((i : ℕ) → get_or bs i false ≡ false) → byte_of bs ≡ 0
all_zero [] h = refl
all_zero (true ∷ bs) h = absurd (true≢false (h 0))
all_zero (false ∷ bs) h = rw (all_zero bs (λ i. h (suc i)))

-- the bits of 0 are zero
pub none_of_0 : (i : ℕ) → get_or (bits_of 8 0) i false ≡ false
none_of_0 = by_bit (λ i. get_or (bits_of 8 0) i false ≡ false) refl refl refl refl refl refl refl refl (λ i. refl)

module _ (n : ℕ) (ps : List Port) where
  abbrev Unchanged : Type 0
  Unchanged = (m : PortNumber) → Among n m → has_change (port_at ps m).changes ≡ false

  bit_zero : Unchanged → (p : ℕ) → 1 ≤ p → port_bit n ps p ≡ false
  bit_zero h p g = go (leb p n) refl
    where
      go : (b : Bool) → leb p n ≡ b → (b && has_change (port_at ps (record { 0 = p })).changes) ≡ false
      go true e = h (record { 0 = p }) (g, leb-true p n e)
      go false e = refl

  bits_zero : Unchanged → (i : ℕ) → get_or (bitmap_bits n ps) i false ≡ false
  bits_zero h =
      by_bit (λ i. get_or (bitmap_bits n ps) i false ≡ false) refl
      (bit_zero h 1 (omega arith)) (bit_zero h 2 (omega arith)) (bit_zero h 3 (omega arith)) (bit_zero h 4 (omega arith))
      (bit_zero h 5 (omega arith)) (bit_zero h 6 (omega arith)) (bit_zero h 7 (omega arith)) (λ i. refl)

  bitmap_zero : Unchanged → bitmap_of n ps ≡ 0
  unfolding bitmap_of
  bitmap_zero h = all_zero (bitmap_bits n ps) (bits_zero h)

  zero_unchanged : n ≤ 7 → bitmap_of n ps ≡ 0 → Unchanged
  zero_unchanged l e m h =
      let z : port_bit n ps m.0 ≡ false = sym (bitmap_bit_lem n ps m (h.0, omega arith)) ∙ ap (λ (k : ℕ). get_or (bits_of 8 k) m.0 false) e ∙ none_of_0 m.0 in
      rw (le-leb m.0 n h.1) at z

pub ports_claims_lem : PortsClaims
ports_claims_lem =
    record {
      new_at = new_at;
      sweep_spares = sweep_spares;
      sweep_length = sweep_length;
      sweep_steps = sweep_steps;
      set_read = set_read;
      others_kept = others_kept;
      set_length = set_length;
      bitmap_byte = bitmap_byte;
      bitmap_bit_0 = λ n ps. ap (λ (bs : List Bool). get_or bs 0 false) (bitmap_bits_lem n ps);
      bitmap_bit_lem = bitmap_bit_lem;
      bitmap_none = λ n ps l. (zero_unchanged n ps l, bitmap_zero n ps);
    }
