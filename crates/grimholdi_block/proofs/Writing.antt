-- The path through the code that starts a block, over plain values. Assumes nothing.
use Prim.Native.Nat.{ℕ, ◌≤◌}
use mathlib.Core.Path.{◌≡◌}
use mathlib.Core.List.{List}
use borrow.Author.Tests.{eq-eqb, ne_eqb, le-leb}
use lib.ListN.{length}
use Rattle.grimholdi_block.specs.Writing.{begun, start_entry}

pub start_done : (l : List ℕ) (p : ℕ) → length l ≡ 512 → ¬ (p ≡ 0) → p ≤ 65535 → (x : List ℕ) → x ≡ begun p l → x ≡ (start_entry l p).block
unfolding start_entry
start_done l p long first last x e = rw (eq-eqb (length l) 512 long, ne_eqb p 0 first, le-leb p 65535 last) e
