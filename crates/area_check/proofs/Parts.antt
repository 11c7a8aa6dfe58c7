-- What the tests of one port and one buffer come to, over plain values. Assumes nothing.
use mathlib.Core.Path.{◌≡◌, refl, sym, ap}
use mathlib.Core.List.{List}
use mathlib.Core.Bool.{Bool, true, false, cond, ◌&&◌, ◌||◌, and-false, and_assoc}
use Prim.Native.Nat.{ℕ, zero, suc, ◌+◌, ◌≤◌, ◌<◌}
use native.Mathlib.Decide.{dec_lt}
use native.Mathlib.Omega.{arith}
use lib.ListN.{length, get_or, drop}
use lib.Dec.{eqb, ltb}
use borrow.Author.Tests.{eqb-true, ne_eqb, le-ltb}
use Rattle.buffer.specs.Lengths.{type_fits, numbers_fit, start_length, start_fits, result_length}
use Rattle.buffer.specs.Valid.{slot_fits}
use Rattle.numbers.specs.Named.{is_pid, pid_from, is_type, type_from, is_result, result_from}
use Rattle.area_check.specs.Rows.{blank}
use Rattle.area_check.specs.Read.{held_split, slot_named, slot_of, held_fits, names_fit, buffer_fits}
use Rattle.area_check.proofs.Rows.{blank_step}

-- ---- one buffer

-- a status from 1 to 3
pub three : (P : ℕ → Type 0) → P 1 → P 2 → P 3 → (n : ℕ) → n < 4 → ¬ (n ≡ 0) → P n
three P a b c zero h d = absurd (d refl)
three P a b c (suc zero) h d = a
three P a b c (suc (suc zero)) h d = b
three P a b c (suc (suc (suc zero))) h d = c
three P a b c (suc (suc (suc (suc n)))) h d = absurd (omega (arith, h))

-- an empty buffer is zeros behind its status
pub empty_end : (l : List ℕ) → length l ≡ 72 → get_or l 0 0 ≡ 0 → blank (drop 1 l) ≡ buffer_fits l
unfolding buffer_fits names_fit slot_of
empty_end l n z =
    rw (z, blank_step l 1 (omega arith), blank_step l 2 (omega arith), blank_step l 3 (omega arith), blank_step l 4 (omega arith), blank_step l 5 (omega arith), blank_step l 6 (omega arith), blank_step l 7 (omega arith))
    (simp (and_assoc, short (get_or l 7 0)))
  where
    short : (n : ℕ) → eqb n 0 && blank (drop (8 + n) l) ≡ eqb n 0 && blank (drop 8 l)
    short n = go (eqb n 0) refl
      where
        go : (b : Bool) → eqb n 0 ≡ b → b && blank (drop (8 + n) l) ≡ b && blank (drop 8 l)
        go true e = rw (eqb-true n 0 e)
        go false e = refl

-- the tests of a held start-split in the order of the code
regroup : (p t f s a r x : Bool) → ((p && t) && (s && r)) && ((a && f) && x) ≡ ((p && (t && f)) && (s && a)) && (r && x)
regroup false t f s a r x = refl
regroup true false f s a r x = refl
regroup true true false false a r x = refl
regroup true true false true a false x = refl
regroup true true false true true true x = refl
regroup true true false true false true x = refl
regroup true true true false a r x = refl
regroup true true true true false false x = refl
regroup true true true true false true x = refl
regroup true true true true true false x = refl
regroup true true true true true true x = refl

-- a buffer that isn't empty: its start-split, then what its status asks
module _ (l : List ℕ) where
  abbrev split_tests : Bool
  split_tests =
      (is_pid (get_or l 1 0) && (is_type (get_or l 2 0) && type_fits (pid_from (get_or l 1 0)) (type_from (get_or l 2 0))))
      && (ltb (get_or l 3 0) 8 && (ltb (get_or l 4 0) 128 && ltb (get_or l 5 0) 16))

  abbrev result_test : Bool
  result_test = result_length (result_from (get_or l 6 0)) (get_or l 7 0)

  abbrev held_tests : ℕ → Bool
  held_tests s = cond (eqb s 1) (start_length (pid_from (get_or l 1 0)) (get_or l 7 0)) ((eqb s 2 || eqb s 3) && (is_result (get_or l 6 0) && result_test))

  abbrev Tested : ℕ → Type 0
  Tested s =
      held_fits s (get_or l 1 0) (get_or l 2 0) (get_or l 3 0) (get_or l 6 0) && slot_fits (slot_named s (held_split l) (get_or l 6 0)) (get_or l 7 0)
      ≡ split_tests && held_tests s

  each : (r x : Bool)
      → ((is_pid (get_or l 1 0) && is_type (get_or l 2 0)) && (ltb (get_or l 3 0) 8 && r)) && ((numbers_fit (held_split l)) && x) ≡ split_tests && (r && x)
  unfolding held_split numbers_fit
  each r x =
      regroup (is_pid (get_or l 1 0)) (is_type (get_or l 2 0)) (type_fits (pid_from (get_or l 1 0)) (type_from (get_or l 2 0))) (ltb (get_or l 3 0) 8)
      (ltb (get_or l 4 0) 128 && ltb (get_or l 5 0) 16) r x

  tested : (s : ℕ) → ¬ (s ≡ 0) → Tested s
  unfolding held_split start_fits
  tested s d = go (dec_lt s 4)
    where
      go : Dec (s < 4) → Tested s
      go (yes h) =
          three Tested (each true (start_length (pid_from (get_or l 1 0)) (get_or l 7 0))) (each (is_result (get_or l 6 0)) result_test)
          (each (is_result (get_or l 6 0)) result_test) s h d
      go (no h) =
          let f : 4 ≤ s = omega arith in
          let a : s ≡ 1 → ⊥ = λ e. omega arith in
          let b : s ≡ 2 → ⊥ = λ e. omega arith in
          let c : s ≡ 3 → ⊥ = λ e. omega arith in
          rw (le-ltb s 4 f, ne_eqb s 1 a, ne_eqb s 2 b, ne_eqb s 3 c) (sym (and-false split_tests))

  pub held_end : ¬ (get_or l 0 0 ≡ 0) → (split_tests && held_tests (get_or l 0 0)) && blank (drop (8 + get_or l 7 0) l) ≡ buffer_fits l
  unfolding buffer_fits names_fit slot_of
  held_end d =
      sym (rw (ne_eqb (get_or l 0 0) 0 d) (ap (λ (b : Bool). b && blank (drop (8 + get_or l 7 0) l)) (tested (get_or l 0 0) d)))
