-- The numbers of a new hub: the test of them says whether one is outside the rules. Assumes nothing.
use Prim.Native.Nat.{ℕ, zero, suc, ◌+◌, ◌/◌, ◌%◌, ◌^◌, ◌≤◌, ◌<◌}
use native.Mathlib.Omega.{arith}
use native.Mathlib.Nat.{pow-suc}
use mathlib.Core.Path.{◌≡◌, refl, sym, ◌∙◌, subst}
use mathlib.Core.Logic.{◌↔◌, inl, inr}
use mathlib.Core.Bool.{Bool, true, false, ◌&&◌, true≢false, false≢true}
use lib.Dec.{eqb, leb, ltb}
use lib.Pow.{pow_pos}
use lib.ListN.{get_or}
use borrow.Author.Tests.{eqb-true, eqb-false, eq-eqb, leb-true, ltb-true, ltb-false}
use Rattle.port.specs.Words.{bits_of}
use Rattle.hub.specs.Hub.{new_fits}
use Rattle.hub.specs.New.{CountsOutside, RemovableOutside, NewOutside}
use Rattle.hub.proofs.Numbers.{left, right, below_256}
use Rattle.hub.proofs.Tells.{Tells, tested, both_tell, regrouped, not_over, below_tells}

-- ---- bits of a byte

zeros : (k i : ℕ) → get_or (bits_of k 0) i false ≡ false
zeros zero zero = refl
zeros zero (suc i) = refl
zeros (suc k) zero = refl
zeros (suc k) (suc i) = zeros k i

-- a number below a power of two has no bit from there on
no_bit : (k n r i : ℕ) → r < 2 ^ suc n → n < i → get_or (bits_of k r) i false ≡ false
no_bit k n r zero l m = absurd (omega (arith, m))
no_bit zero n r (suc i) l m = refl
no_bit (suc k) zero r (suc i) l m = let e : r / 2 ≡ 0 = omega (arith, l) in rw e (zeros k i)
no_bit (suc k) (suc n) r (suc i) l m = no_bit k n (r / 2) i (omega (arith, l, pow-suc 2 (suc n))) (omega (arith, m))

some_bit : (k r : ℕ) → r < 2 ^ k → 1 ≤ r → (i : ℕ) × (get_or (bits_of k r) i false ≡ true)
some_bit zero r l m = absurd (omega (arith, l, m))
some_bit (suc k) r l m = go (eqb (r % 2) 1) refl (λ least. some_bit k (r / 2) (omega (arith, l, pow-suc 2 k)) least)
  where
    go : (x : Bool) → eqb (r % 2) 1 ≡ x → (1 ≤ r / 2 → (i : ℕ) × (get_or (bits_of k (r / 2)) i false ≡ true)) → (i : ℕ) × (get_or (bits_of (suc k) r) i false ≡ true)
    go true e rest = (0, e)
    go false e rest =
        let even = eqb-false (r % 2) 1 e in
        let b = rest (omega (arith, m, even)) in
        (suc b.0, b.1)

-- one that isn't has such a bit
high_bit : (k n r : ℕ) → r < 2 ^ k → 2 ^ suc n ≤ r → (i : ℕ) × (n < i) × (get_or (bits_of k r) i false ≡ true)
high_bit zero n r l m = absurd (omega (arith, l, m, pow_pos (suc n)))
high_bit (suc k) zero r l m =
    let b = some_bit k (r / 2) (omega (arith, l, pow-suc 2 k)) (omega (arith, m)) in
    (suc b.0, omega arith, b.1)
high_bit (suc k) (suc n) r l m =
    let b = high_bit k n (r / 2) (omega (arith, l, pow-suc 2 k)) (omega (arith, m, pow-suc 2 (suc n))) in
    (suc b.0, omega (arith, b.1), b.2)

-- ---- the five numbers

module _ (n r : ℕ) (most : n ≤ 7) where
  next : 2 ^ (n + 1) ≡ 2 ^ suc n
  next = let e : n + 1 ≡ suc n = omega arith in rw e

  inside : r % 2 ≡ 0 → r < 2 ^ (n + 1) → ¬ (RemovableOutside n r)
  inside e l (inl big) = omega (arith, big, below_256 n r most l)
  inside e l (inr (i, inl z, s)) =
      let o : r % 2 ≡ 1 = eqb-true (r % 2) 1 (subst (λ (j : ℕ). get_or (bits_of 8 r) j false ≡ true) z s) in
      omega (arith, e, o)
  inside e l (inr (i, inr above, s)) = false≢true (sym (no_bit 8 n r i (subst (λ (p : ℕ). r < p) next l) above) ∙ s)

  past : 2 ^ (n + 1) ≤ r → (x : Bool) → ltb r 256 ≡ x → RemovableOutside n r
  past l true e = let b = high_bit 8 n r (ltb-true r 256 e) (subst (λ (p : ℕ). p ≤ r) next l) in inr (b.0, inr b.1, b.2)
  past l false e = inl (ltb-false r 256 e)

  removable_tells : Tells (eqb (r % 2) 0 && ltb r (2 ^ (n + 1))) (RemovableOutside n r)
  removable_tells = go (eqb (r % 2) 0) refl (ltb r (2 ^ (n + 1))) refl
    where
      go : (x : Bool) → eqb (r % 2) 0 ≡ x → (y : Bool) → ltb r (2 ^ (n + 1)) ≡ y → Tells (x && y) (RemovableOutside n r)
      go true e true l = tested true (λ _. inside (eqb-true (r % 2) 0 e) (ltb-true r (2 ^ (n + 1)) l)) (λ f. absurd (true≢false f))
      go true e false l = (λ _. past (ltb-false r (2 ^ (n + 1)) l) (ltb r 256) refl, λ _. refl)
      go false e y l = let odd = eqb-false (r % 2) 0 e in (λ _. inr (0, inl refl, eq-eqb (r % 2) 1 (omega (arith, odd))), λ _. refl)

module _ (n b : ℕ) where
  abbrev counts : Bool
  counts = (leb 1 n && leb n 7) && (leb 2 b && leb b 4)

  pub counts_tell : Tells counts (CountsOutside n b)
  counts_tell =
      regrouped (leb 1 n) (leb n 7) _ (both_tell (leb 1 n) _ (not_over 1 n)
      (λ _. both_tell (leb n 7) _ (not_over n 7) (λ _. both_tell (leb 2 b) _ (not_over 2 b) (λ _. not_over b 4))))

  few : counts ≡ true → n ≤ 7
  few e = leb-true n 7 (right (leb 1 n) (leb n 7) (left (leb 1 n && leb n 7) (leb 2 b && leb b 4) e))

pub new_refused : (n b g c r : ℕ) → (new_fits n b g c r ≡ false) ↔ NewOutside n b g c r
unfolding new_fits
new_refused n b g c r =
    both_tell (counts n b) _ (counts_tell n b)
    (λ e. regrouped (ltb g 256) (ltb c 256) _ (both_tell (ltb g 256) _ (below_tells g 255 256 refl)
    (λ _. both_tell (ltb c 256) _ (below_tells c 255 256 refl) (λ _. removable_tells n r (few n b e)))))
