-- The bits of a number that is made of bits are those bits.
-- Assumes nothing.
use Prim.Native.Nat.{ℕ, ◌+◌, ◌*◌, ◌%◌, ◌/◌}
use mathlib.Core.Path.{◌≡◌, refl}
use mathlib.Core.Bool.{Bool, true, false}
use mathlib.Core.List.{List, [], ◌∷◌}
use native.Mathlib.Omega.{arith}
use lib.ListN.{length}
use Rattle.port.specs.Status.{byte_of}
use Rattle.port.specs.Words.{bits_of}

even : (n : ℕ) → (0 + 2 * n) % 2 ≡ 0
even n = omega arith

even_half : (n : ℕ) → (0 + 2 * n) / 2 ≡ n
even_half n = omega arith

odd : (n : ℕ) → (1 + 2 * n) % 2 ≡ 1
odd n = omega arith

odd_half : (n : ℕ) → (1 + 2 * n) / 2 ≡ n
odd_half n = omega arith

pub bits_back : (bs : List Bool) → bits_of (length bs) (byte_of bs) ≡ bs
bits_back [] = refl
bits_back (true ∷ bs) = rw (odd (byte_of bs), odd_half (byte_of bs), bits_back bs)
bits_back (false ∷ bs) = rw (even (byte_of bs), even_half (byte_of bs), bits_back bs)
