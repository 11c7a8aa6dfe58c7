-- How many buffers pass a test, after some of them were changed. Assumes nothing.
use Prim.Native.Nat.{ℕ, zero, suc, ◌+◌, ◌<◌, ◌≤◌, zero-le}
use native.Mathlib.Omega.{arith}
use native.Mathlib.Nat.{not-suc-le-zero}
use mathlib.Core.Path.{◌≡◌, refl, ap, ◌∙◌}
use mathlib.Core.List.{List, [], ◌∷◌, map}
use mathlib.Core.Bool.{Bool, true, false}
use lib.ListN.{length, set, take}
use Rattle.buffer.specs.declared.Slot.{Slot}
use Rattle.buffer.specs.declared.Slot.TheVariants.{Empty}
use Rattle.buffer.specs.declared.Buffer.{Buffer}
use Rattle.buffer.specs.Buffer.{vacant}
use Rattle.translator.specs.Translator.{at, tally}
use Rattle.bools.specs.Bit.{bit}

pub bits_le : (x y : Bool) → (x ≡ true → y ≡ true) → bit x ≤ bit y
bits_le true y w = rw (w refl) (omega arith)
bits_le false y w = zero-le

module _ (f : Slot → Bool) where
  -- one buffer changed
  pub tally_set : (bs : List Buffer) (i : ℕ) (b : Buffer) → i < length bs → tally f (set bs i b) + bit (f (at bs i).slot) ≡ tally f bs + bit (f b.slot)
  unfolding tally
  tally_set [] i b h = absurd (not-suc-le-zero h)
  tally_set (c ∷ bs) zero b h = omega arith
  tally_set (c ∷ bs) (suc i) b h = omega (arith, tally_set bs i b (omega (arith, h)))

  -- it passes the test only if the one before it did
  pub no_more : (bs : List Buffer) (i : ℕ) (b : Buffer) → i < length bs → (f b.slot ≡ true → f (at bs i).slot ≡ true) → tally f (set bs i b) ≤ tally f bs
  no_more bs i b h w = omega (arith, tally_set bs i b h, bits_le (f b.slot) (f (at bs i).slot) w)

  -- each buffer changed
  pub tally_map : (g : Buffer → Buffer) → ((b : Buffer) → f (g b).slot ≡ f b.slot) → (bs : List Buffer) → tally f (map g bs) ≡ tally f bs
  unfolding tally
  tally_map g e [] = refl
  tally_map g e (b ∷ bs) = rw (e b, tally_map g e bs)

  pub tally_map_le : (g : Buffer → Buffer) → ((b : Buffer) → f (g b).slot ≡ true → f b.slot ≡ true) → (bs : List Buffer) → tally f (map g bs) ≤ tally f bs
  unfolding tally
  tally_map_le g w [] = zero-le
  tally_map_le g w (b ∷ bs) = omega (arith, bits_le (f (g b).slot) (f b.slot) (w b), tally_map_le g w bs)

  module _ (none : f Empty ≡ false) where
    tally_none : (bs : List Buffer) → ((i : ℕ) → at bs i ≡ vacant) → tally f bs ≡ 0
    unfolding tally
    tally_none [] e = refl
    tally_none (b ∷ bs) e =
        let x : bit (f b.slot) ≡ 0 = ap (λ (c : Buffer). bit (f c.slot)) (e 0) ∙ ap bit none in
        omega (arith, x, tally_none bs (λ i. e (suc i)))

    -- past the first m all are empty
    pub tally_take : (m : ℕ) (bs : List Buffer) → ((i : ℕ) → m ≤ i → at bs i ≡ vacant) → tally f (take m bs) ≡ tally f bs
    unfolding tally
    tally_take zero bs e = omega (arith, tally_none bs (λ i. e i zero-le))
    tally_take (suc m) [] e = refl
    tally_take (suc m) (b ∷ bs) e = ap (λ (n : ℕ). bit (f b.slot) + n) (tally_take m bs (λ i h. e (suc i) (omega (arith, h))))
