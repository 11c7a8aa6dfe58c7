-- Laws on lists: arrays of four, elements read past a default. Assumes nothing.
use Prim.Native.Nat.{ℕ, zero, suc, ◌+◌, ◌<◌}
use mathlib.Core.Path.{◌≡◌, refl, sym, ap, ◌∙◌}
use mathlib.Core.Bool.{Bool}
use mathlib.Core.List.{List, [], ◌∷◌, map}
use native.Mathlib.Nat.{not-suc-le-zero, le_of_suc-le-suc}
use native.Mathlib.Omega.{arith}
use lib.ListN.{length, get_or, length-map}
use Rattle.buffer.specs.declared.Lane.{Lane}
use Rattle.buffer.specs.declared.Slot.{Slot}
use Rattle.buffer.specs.declared.Buffer.{Buffer}
use Rattle.translator.specs.declared.LowSide.{LowSide}
use Rattle.translator.specs.declared.Translator.{Translator}
use Rattle.translator.specs.Slots.{slots_in, bare}
use Rattle.bools.specs.Bit.{bit}
use Rattle.translator.specs.Translator.{tally}
use Rattle.translator.specs.Order.{ranked_in, ranked}
use Rattle.translator.specs.ResetLane.{without_lane, low_without_lane, reset_lane}
use Rattle.translator.proofs.Bare.{ranked_in-bare}

-- a list is as long as what a function makes of it
pub unmapped : (X Y : Type 0) (f : X → Y) (l : List X) (n : ℕ) → length (map f l) ≡ n → length l ≡ n
unmapped X Y f l n e = sym (length-map l f) ∙ e

-- within a list the default doesn't matter
pub get_d_any : {A : Type 0} (l : List A) (i : ℕ) (d e : A) → i < length l → get_or l i d ≡ get_or l i e
get_d_any [] i d e h = absurd (not-suc-le-zero h)
get_d_any (x ∷ l) zero d e h = refl
get_d_any (x ∷ l) (suc i) d e h = get_d_any l i d e (le_of_suc-le-suc h)

-- a list of four is its elements
pub four : {A : Type 0} (d : A) (l : List A) → length l ≡ 4 → l ≡ get_or l 0 d ∷ get_or l 1 d ∷ get_or l 2 d ∷ get_or l 3 d ∷ []
four d [] e = absurd (omega (arith, e))
four d (a ∷ []) e = absurd (omega (arith, e))
four d (a ∷ b ∷ []) e = absurd (omega (arith, e))
four d (a ∷ b ∷ c ∷ []) e = absurd (omega (arith, e))
four d (a ∷ b ∷ c ∷ f ∷ []) e = refl
four d (a ∷ b ∷ c ∷ f ∷ g ∷ l) e = absurd (omega (arith, e))

module _ (d : Slot) (ss : List Slot) (long : length ss ≡ 4) where
  -- a tally by its four tests
  pub tally_four : (f : Slot → Bool) {b₀ b₁ b₂ b₃ : Bool} {n : ℕ} → n ≡ bit b₀ + (bit b₁ + (bit b₂ + bit b₃))
      → b₀ ≡ f (get_or ss 0 d) → b₁ ≡ f (get_or ss 1 d) → b₂ ≡ f (get_or ss 2 d) → b₃ ≡ f (get_or ss 3 d) → n ≡ tally f (bare ss)
  unfolding tally bare
  tally_four f e e₀ e₁ e₂ e₃ = rw (e, e₀, e₁, e₂, e₃) (omega (arith, ap (λ (l : List Slot). tally f (bare l)) (four d ss long)))

module _ (d : Buffer) (bs : List Buffer) (long : length bs ≡ 4) where
  -- their slots
  pub slots_four : (get_or bs 0 d).slot ∷ (get_or bs 1 d).slot ∷ (get_or bs 2 d).slot ∷ (get_or bs 3 d).slot ∷ [] ≡ slots_in bs
  slots_four = sym (ap slots_in (four d bs long))

  -- what a function makes of each of the four
  pub ranked_four : {ss : List Slot} {r₀ r₁ r₂ r₃ : Buffer} → ss ≡ slots_in bs
      → r₀ ≡ ranked_in (bare ss) (get_or bs 0 d) → r₁ ≡ ranked_in (bare ss) (get_or bs 1 d) → r₂ ≡ ranked_in (bare ss) (get_or bs 2 d) → r₃ ≡ ranked_in (bare ss) (get_or bs 3 d)
      → r₀ ∷ r₁ ∷ r₂ ∷ r₃ ∷ [] ≡ ranked bs
  unfolding ranked
  ranked_four e e₀ e₁ e₂ e₃ =
      rw (e₀, e₁, e₂, e₃, e, ranked_in-bare bs (get_or bs 0 d), ranked_in-bare bs (get_or bs 1 d), ranked_in-bare bs (get_or bs 2 d), ranked_in-bare bs (get_or bs 3 d))
      (sym (ap (map (ranked_in bs)) (four d bs long)))

  pub reset_four : (l : Lane) {r₀ r₁ r₂ r₃ : Buffer} → r₀ ≡ without_lane l (get_or bs 0 d) → r₁ ≡ without_lane l (get_or bs 1 d) → r₂ ≡ without_lane l (get_or bs 2 d)
      → r₃ ≡ without_lane l (get_or bs 3 d) → r₀ ∷ r₁ ∷ r₂ ∷ r₃ ∷ [] ≡ map (without_lane l) bs
  reset_four l e₀ e₁ e₂ e₃ = rw (e₀, e₁, e₂, e₃) (sym (ap (map (without_lane l)) (four d bs long)))

-- the emptied buffers and the low side make the translator
pub put_together : (t : Translator) (l : Lane) {bs : List Buffer} {low : LowSide} → bs ≡ map (without_lane l) t.buffers → low ≡ low_without_lane l t.buffers t.low
    → record { buffers = bs; count = t.count; low = low } ≡ reset_lane t l
unfolding reset_lane
put_together t l e f = rw (e, f)
