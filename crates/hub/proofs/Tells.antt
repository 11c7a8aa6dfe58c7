-- Tests that tell whether something holds. Assumes nothing.
use Prim.Native.Nat.{ℕ, ◌+◌, ◌<◌, ◌≤◌}
use native.Mathlib.Omega.{arith}
use mathlib.Core.Path.{◌≡◌, refl, sym, ◌∙◌}
use mathlib.Core.Logic.{◌↔◌, ◌⊎◌, inl, inr, ⊎_elim}
use mathlib.Core.Bool.{Bool, true, false, ◌&&◌, true≢false}
use borrow.Author.Tests.{eqb-true, eqb-false, leb-true, leb-false, ltb-true, ltb-false}
use lib.Dec.{eqb, leb, ltb}

-- the test b fails exactly where A holds
abbrev pub Tells : Bool → Type 0 → Type 0
Tells b A = (b ≡ false) ↔ A

pub tested : {A : Type 0} (b : Bool) → (b ≡ true → ¬ A) → (b ≡ false → A) → Tells b A
tested true n y = (y, λ a. absurd (n refl a))
tested false n y = (y, λ a. refl)

-- a test that passes: A does not hold
pub not-told : {A : Type 0} {b : Bool} → Tells b A → b ≡ true → ¬ A
not-told x e a = true≢false (sym e ∙ x.1 a)

-- a test that always passes, where nothing applies
pub passes : Tells true ⊥
passes = (λ e. true≢false e, λ x. absurd x)

pub both_tell : {A B : Type 0} (a b : Bool) → Tells a A → (a ≡ true → Tells b B) → Tells (a && b) (A ⊎ B)
both_tell true b x y = (λ e. inr ((y refl).0 e), ⊎_elim (λ u. absurd (true≢false (x.1 u))) (y refl).1)
both_tell false b x y = (λ e. inl (x.0 refl), λ u. refl)

pub regrouped : {A : Type 0} (a b c : Bool) → Tells (a && (b && c)) A → Tells ((a && b) && c) A
regrouped true b c x = x
regrouped false b c x = x

-- ---- one number

pub not_over : (n m : ℕ) → Tells (leb n m) (m < n)
not_over n m = tested (leb n m) (λ e l. let k : n ≤ m = leb-true n m e in omega (arith, k, l)) (leb-false n m)

pub is_number : (n m : ℕ) → Tells (eqb n m) (¬ (n ≡ m))
is_number n m = tested (eqb n m) (λ e u. u (eqb-true n m e)) (eqb-false n m)

pub below_tells : (n k m : ℕ) → m ≡ k + 1 → Tells (ltb n m) (k < n)
below_tells n k m s =
    tested (ltb n m) (λ e l. let x : n < m = ltb-true n m e in omega (arith, x, l, s)) (λ e. let x : m ≤ n = ltb-false n m e in omega (arith, x, s))
