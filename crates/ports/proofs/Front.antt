-- Laws of `front`, f done on the first n elements: what a loop over an array has after n turns. Assumes nothing.
use Prim.Native.Nat.{ℕ, zero, suc, ◌+◌, ◌<◌, min}
use mathlib.Core.Path.{◌≡◌, refl, ap}
use mathlib.Core.List.{List, [], ◌∷◌}
use native.Mathlib.Numerals.{add-one}
use native.Mathlib.Omega.{arith}
use lib.ListN.{length, get_or, set, drop}
use lib.Seq.{set-set}
use Rattle.ports.specs.Sweep.{front}

module _ {A : Type 0} (f : A → A) where
  front_suc : (i : ℕ) (l : List A) (d : A) → i < length l → set (front f i l) i (f (get_or (front f i l) i d)) ≡ front f (suc i) l
  unfolding front
  front_suc zero [] d h = refl
  front_suc zero (x ∷ xs) d h = refl
  front_suc (suc i) [] d h = refl
  front_suc (suc i) (x ∷ xs) d h = ap (λ (ys : List A). f x ∷ ys) (front_suc i xs d (omega arith))

  pub front_step : (i : ℕ) (l : List A) (d : A) → i < length l → set (front f i l) i (f (get_or (front f i l) i d)) ≡ front f (i + 1) l
  front_step i l d h = rw add-one (front_suc i l d h)

  -- past the list's end nothing more happens
  pub front_min : (i n : ℕ) (l : List A) → i ≡ min n (length l) → front f i l ≡ front f n l
  unfolding front
  front_min zero zero l h = refl
  front_min zero (suc n) [] h = refl
  front_min zero (suc n) (x ∷ xs) h = absurd (omega (arith, h))
  front_min (suc i) zero l h = absurd (omega (arith, h))
  front_min (suc i) (suc n) [] h = absurd (omega (arith, h))
  front_min (suc i) (suc n) (x ∷ xs) h = ap (λ (ys : List A). f x ∷ ys) (front_min i n xs (omega (arith, h)))

  -- the elements behind the first n are left alone
  pub drop_front : (n : ℕ) (l : List A) → drop n (front f n l) ≡ drop n l
  unfolding front
  drop_front zero l = refl
  drop_front (suc n) [] = refl
  drop_front (suc n) (x ∷ xs) = drop_front n xs

  pub length_front : (n : ℕ) (l : List A) → length (front f n l) ≡ length l
  unfolding front
  length_front zero l = refl
  length_front (suc n) [] = refl
  length_front (suc n) (x ∷ xs) = ap suc (length_front n xs)

  -- each of the first n has f done
  pub get_d_front : (n i : ℕ) (l : List A) (d : A) → i < n → i < length l → get_or (front f n l) i d ≡ f (get_or l i d)
  unfolding front
  get_d_front zero i l d h g = absurd (omega arith)
  get_d_front (suc n) i [] d h g = absurd (omega arith)
  get_d_front (suc n) zero (x ∷ xs) d h g = refl
  get_d_front (suc n) (suc i) (x ∷ xs) d h g = get_d_front n i xs d (omega arith) (omega arith)

  -- what f does to the others doesn't depend on element i
  pub front_set : (n i : ℕ) (l : List A) (x y : A) → set (front f n (set l i x)) i y ≡ set (front f n l) i y
  unfolding front
  front_set zero i l x y = set-set l i x y
  front_set (suc n) i [] x y = refl
  front_set (suc n) zero (z ∷ l) x y = refl
  front_set (suc n) (suc i) (z ∷ l) x y = ap (λ (r : List A). f z ∷ r) (front_set n i l x y)
