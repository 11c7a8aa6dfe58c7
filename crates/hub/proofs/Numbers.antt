-- The numbers that a hub is made from: what the tests say of them. Assumes nothing.
use Prim.Native.Nat.{ℕ, suc, ◌+◌, ◌^◌, ◌%◌, ◌≤◌, ◌<◌}
use mathlib.Core.Path.{◌≡◌, refl, sym, ◌∙◌}
use mathlib.Core.Bool.{Bool, true, false, ◌&&◌, and-eq-true_iff}
use native.Mathlib.Nat.{pow-le-pow_right}
use native.Mathlib.Omega.{arith}
use lib.Dec.{eqb, leb, ltb}
use borrow.Author.Tests.{leb-true, le-leb, ltb-true}
use Rattle.std.specs.Prelude.{Ok}
use Rattle.hub.specs.declared.Hub.{Hub}
use Rattle.hub.specs.Hub.{new_fits, hub_of, new_hub}

pub left : (a b : Bool) → (a && b) ≡ true → a ≡ true
left a b e = ((and-eq-true_iff a b).0 e).0

pub right : (a b : Bool) → (a && b) ≡ true → b ≡ true
right a b e = ((and-eq-true_iff a b).0 e).1

pub below_256 : (n r : ℕ) → n ≤ 7 → r < 2 ^ (n + 1) → r < 256
below_256 n r h l = omega (arith, l, pow-le-pow_right {n = 2} (omega arith) {i = n + 1} {j = 8} (omega arith))

-- what is none of the first numbers is past them
pub past : (k : ℕ) {n : ℕ} → k ≤ n → ¬ (n ≡ k) → suc k ≤ n
past k h d = omega arith

pub last_power : (n : ℕ) → 7 ≤ n → n ≤ 7 → 256 ≡ 2 ^ (n + 1)
last_power n h g = let e : n ≡ 7 = omega arith in rw e

pub record Fits (n b g c r : ℕ) : Type 0 where
  pub ports_least : 1 ≤ n
  pub ports_most : n ≤ 7
  pub buffers_least : 2 ≤ b
  pub buffers_most : b ≤ 4
  pub powergood : g < 256
  pub current : c < 256
  pub removable : r < 256

module _ (n b g c r : ℕ) where
  pub fits : new_fits n b g c r ≡ true → Fits n b g c r
  unfolding new_fits
  fits e =
      let ports : Bool = leb 1 n && leb n 7 in
      let buffers : Bool = leb 2 b && leb b 4 in
      let bytes : Bool = ltb g 256 && ltb c 256 in
      let marked : Bool = eqb (r % 2) 0 && ltb r (2 ^ (n + 1)) in
      let x = left (ports && buffers) (bytes && marked) e in
      let y = right (ports && buffers) (bytes && marked) e in
      let p = left ports buffers x in
      let q = right ports buffers x in
      let v = left bytes marked y in
      let m = right bytes marked y in
      let most : n ≤ 7 = leb-true n 7 (right (leb 1 n) (leb n 7) p) in
      record {
        ports_least = leb-true 1 n (left (leb 1 n) (leb n 7) p);
        ports_most = most;
        buffers_least = leb-true 2 b (left (leb 2 b) (leb b 4) q);
        buffers_most = leb-true b 4 (right (leb 2 b) (leb b 4) q);
        powergood = ltb-true g 256 (left (ltb g 256) (ltb c 256) v);
        current = ltb-true c 256 (right (ltb g 256) (ltb c 256) v);
        removable = below_256 n r most (ltb-true r (2 ^ (n + 1)) (right (eqb (r % 2) 0) (ltb r (2 ^ (n + 1))) m));
      }

  -- the test of the removable byte counts only for at most 7 ports
  pub tested : {a : ℕ} → (n ≤ 7 → a ≡ 2 ^ (n + 1))
      → (((leb 1 n && leb n 7) && (leb 2 b && leb b 4)) && ((ltb g 256 && ltb c 256) && (eqb (r % 2) 0 && ltb r a))) ≡ new_fits n b g c r
  unfolding new_fits
  tested {a} h = go (leb 1 n) (leb n 7) refl
    where
      go : (x y : Bool) → leb n 7 ≡ y
          → (((x && y) && (leb 2 b && leb b 4)) && ((ltb g 256 && ltb c 256) && (eqb (r % 2) 0 && ltb r a)))
          ≡ (((x && y) && (leb 2 b && leb b 4)) && ((ltb g 256 && ltb c 256) && (eqb (r % 2) 0 && ltb r (2 ^ (n + 1)))))
      go true true e = rw (h (leb-true n 7 e))
      go true false e = refl
      go false y e = refl

  -- another count of buffers
  pub refit : new_fits n b g c r ≡ true → (b' : ℕ) → 2 ≤ b' → b' ≤ 4 → new_fits n b' g c r ≡ true
  unfolding new_fits
  refit e b' l m =
      let x = left (leb 1 n && leb n 7) (leb 2 b && leb b 4) (left ((leb 1 n && leb n 7) && (leb 2 b && leb b 4)) _ e) in
      rw (le-leb 2 b' l, le-leb b' 4 m, x) (right ((leb 1 n && leb n 7) && (leb 2 b && leb b 4)) _ e)

  -- numbers that fit are bytes
  pub new_made : {h : Hub} {t : Bool} → h ≡ hub_of (n % 256) (b % 256) (g % 256) (c % 256) (r % 256) → t ≡ new_fits n b g c r → t ≡ true
      → Ok h ≡ new_hub n b g c r
  unfolding new_hub
  new_made e f z =
      let t = sym f ∙ z in
      let s = fits t in
      let n' : n % 256 ≡ n = omega arith in
      let b' : b % 256 ≡ b = omega arith in
      let g' : g % 256 ≡ g = omega arith in
      let c' : c % 256 ≡ c = omega arith in
      let r' : r % 256 ≡ r = omega arith in
      rw (e, n', b', g', c', r', t)
