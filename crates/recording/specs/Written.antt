-- The written form of a block. A reader must believe: 512 bytes; bytes 0 and 1 hold the block number from 1, little-endian, bytes 2 and 3 the
-- count of bytes used from 4 on, at most 506, then the records one behind the other, zeros up to byte 509, and a check that makes the sum of all
-- 256 little-endian words zero modulo 65,536.
use Rattle.std.specs.Prelude.{ℕ, zero, suc, ◌+◌, ◌*◌, ◌-◌, ◌%◌, ◌≤◌, ◌≡◌, List, [], ◌∷◌, ◌++◌, length, take, drop, replicate}
use Rattle.hub.specs.Call.{Call}
use Rattle.call_bytes.specs.Words.{half, half_at}
use Rattle.call_bytes.specs.Written.{written, Fits}

-- written one behind the other
unfoldable pub written_all : List Call → List ℕ
written_all [] = []
written_all (c ∷ cs) = written c ++ written_all cs

-- each of them has a written form
unfoldable pub AllFit : List Call → Type 0
AllFit [] = Unit {0}
AllFit (c ∷ cs) = Fits c × AllFit cs

-- the sum of the first n little-endian words
unfoldable pub sum_to : List ℕ → ℕ → ℕ
sum_to l zero = 0
sum_to l (suc n) = sum_to l n + half_at l (2 * n)

-- how many bytes are used
abbrev pub count_of : List ℕ → ℕ
count_of l = half_at l 2

-- the bytes used
abbrev pub used_of : List ℕ → List ℕ
used_of l = take (count_of l) (drop 4 l)

-- the bytes used, and zeros up to 506
abbrev pub padded : List ℕ → List ℕ
padded used = used ++ replicate (506 - length used) 0

-- the 510 bytes before the check
unfoldable pub unchecked : ℕ → List ℕ → List ℕ
unchecked p used = half p ++ (half (length used) ++ padded used)

-- what the sum of 255 words lacks
abbrev pub check_of : List ℕ → ℕ
check_of l = (65536 - sum_to l 255 % 65536) % 65536

-- the calls cs as the block at the place p
unfoldable pub block_of : ℕ → List Call → List ℕ
block_of p cs = let b = unchecked p (written_all cs) in b ++ half (check_of b)

-- there is such a block: a number of two bytes from 1 on, calls that have a written form, and no more of them than fit
pub record Writable (p : ℕ) (cs : List Call) : Type 0 where
  pub first : 1 ≤ p
  pub last : p ≤ 65535
  pub fit : AllFit cs
  pub room : length (written_all cs) ≤ 506

-- l is the written form of the calls cs at the place p
pub record IsBlock (p : ℕ) (cs : List Call) (l : List ℕ) : Type 0 where
  pub writable : Writable p cs
  pub form : l ≡ block_of p cs
