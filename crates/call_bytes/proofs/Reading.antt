-- Numbers by their place, and the paths through the code that reads a record, over plain values. Assumes nothing.
use Prim.Native.Nat.{ℕ, zero, suc, ◌+◌, ◌*◌, ◌<◌, ◌≤◌}
use native.Mathlib.Omega.{arith}
use native.Mathlib.Nat.{not-suc-le-zero, le_of_suc-le-suc}
use mathlib.Core.Path.{◌≡◌, refl, ◌∙◌, ap}
use mathlib.Core.List.{List}
use mathlib.Core.Bool.{Bool, true, false, cond}
use borrow.Author.Tests.{le-leb}
use lib.ListN.{length, get_or}
use Rattle.std.proofs.Common.{Some, None, option_and_then}
use Rattle.call_bytes.specs.declared.CallKind.{CallKind}
use Rattle.call_bytes.specs.Words.{word_at, words_at}
use Rattle.call_bytes.specs.Table.{kind_of, carries}
use Rattle.call_bytes.specs.Read.{head_of, start_of, size_in, recorded_as, whole_as, read_of}

-- ---- numbers by their place

pub number_at : (l : List ℕ) (at n i : ℕ) → i < n → get_or (words_at l at n) i 0 ≡ word_at l (at + 4 * i)
unfolding words_at
number_at l at zero i h = absurd (not-suc-le-zero h)
number_at l at (suc n) zero h = ap (word_at l) (omega arith)
number_at l at (suc n) (suc i) h = number_at l (at + 4) n i (le_of_suc-le-suc h) ∙ ap (word_at l) (omega arith)

pub number_none : (l : List ℕ) (at n i : ℕ) → n ≤ i → get_or (words_at l at n) i 0 ≡ 0
unfolding words_at
number_none l at zero i h = refl
number_none l at (suc n) zero h = absurd (not-suc-le-zero h)
number_none l at (suc n) (suc i) h = number_none l (at + 4) n i (le_of_suc-le-suc h)

-- ---- where things start

pub head_start : (k : CallKind) → head_of k ≤ start_of k
head_start k = go (carries k)
  where
    go : (b : Bool) → head_of k ≤ cond b (head_of k + 2) (head_of k)
    go true = omega arith
    go false = omega arith

-- ---- one record

pub read_known : (l : List ℕ) (k : CallKind) → kind_of (get_or l 0 0) ≡ Some k → read_of l ≡ whole_as k l
unfolding read_of
read_known l k e = ap (option_and_then (λ j. whole_as j l)) e

pub read_unknown : (l : List ℕ) → kind_of (get_or l 0 0) ≡ None → read_of l ≡ None
unfolding read_of
read_unknown l e = ap (option_and_then (λ j. whole_as j l)) e

pub read_whole : (l : List ℕ) (k : CallKind) → kind_of (get_or l 0 0) ≡ Some k → start_of k + size_in k l ≤ length l → read_of l ≡ Some (recorded_as k l)
read_whole l k e n = read_known l k e ∙ rw (le-leb (start_of k + size_in k l) (length l) n)
