-- Concrete blocks that verdicts with a mistake judge wrongly. Assumes nothing.
use Prim.Native.Nat.{ℕ, zero, suc, ◌+◌, ◌<◌}
use native.Mathlib.Omega.{arith}
use mathlib.Core.Path.{◌≡◌, refl}
use mathlib.Core.List.{List, [], ◌∷◌}
use mathlib.Core.Bool.{Bool, true, ◌&&◌, and-eq-true_iff}
use borrow.Author.Tests.{leb-true}
use lib.Dec.{leb}
use lib.ListN.{get_or}
use Rattle.std.proofs.Common.{Err}
use Rattle.area_check.specs.Rows.{blank}
use Rattle.call_bytes.specs.Table.{with_tag, kind_of}
use Rattle.call_bytes.specs.Read.{read_of}
use Rattle.recording.specs.declared.BlockFault.TheVariants.{BadNumber}
use Rattle.recording.specs.Block.{Good}
use Rattle.recording.specs.Calls.{calls_in}
use Rattle.recording.specs.Written.{sum_to}
use Rattle.recording.specs.Cases.{bytes}
use Rattle.recording.specs.Mistakes.{number_first, rest_unseen, BlockMistakesShutOut}
use Rattle.recording.specs.Refusals.{BlockRefusals}

-- ---- numbers below n, by computation

abbrev pub below : ℕ → List ℕ → Bool
below n [] = true
below n (x ∷ l) = leb (x + 1) n && below n l

pub below_at : (n : ℕ) (l : List ℕ) → 0 < n → below n l ≡ true → (i : ℕ) → get_or l i 0 < n
below_at n [] h e i = h
below_at n (x ∷ l) h e zero = omega (arith, leb-true (x + 1) n ((and-eq-true_iff (leb (x + 1) n) (below n l)).0 e).0)
below_at n (x ∷ l) h e (suc i) = below_at n l h ((and-eq-true_iff (leb (x + 1) n) (below n l)).0 e).1 i

-- ---- check and number are wrong

abbrev damaged : List ℕ
damaged = bytes [] (0 ∷ 1 ∷ [])

number_first_lem : ¬ (BlockRefusals number_first)
unfolding sum_to
number_first_lem claim =
    let z : ◌≡◌ {A = ℕ} 256 0 = ((claim (Err BadNumber) 1 damaged (below_at 256 damaged (omega arith) refl)).0 refl).1.0 in
    absurd (omega (arith, z))

-- ---- a tick, and a byte behind it

abbrev untidy : List ℕ
untidy = bytes (1 ∷ 0 ∷ 1 ∷ 0 ∷ 8 ∷ 9 ∷ []) (246 ∷ 246 ∷ [])

rest_unseen_lem : ¬ (BlockRefusals rest_unseen)
unfolding sum_to blank calls_in read_of kind_of with_tag
rest_unseen_lem claim =
    let t = (claim Good 1 untidy (below_at 256 untidy (omega arith) refl)).0 refl in
    let z : ◌≡◌ {A = ℕ} 9 0 = t.1.1.1.0.zeros 5 (omega arith) (omega arith) in
    absurd (omega (arith, z))

pub block_mistakes_shut_out_lem : BlockMistakesShutOut
block_mistakes_shut_out_lem = record { number_first_lem = number_first_lem; rest_unseen_lem = rest_unseen_lem }
