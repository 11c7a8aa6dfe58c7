-- What getting a part and putting the low side come to, over plain values. Assumes nothing.
use mathlib.Core.Path.{◌≡◌, refl, ap, ◌∙◌}
use mathlib.Core.List.{List, [], ◌∷◌}
use mathlib.Core.Bool.{false}
use Prim.Native.Nat.{ℕ, ◌≤◌, ◌<◌}
use lib.Dec.{eqb}
use lib.ListN.{length, get_or, set}
use native.Mathlib.Omega.{arith}
use Rattle.translator.specs.declared.LowSide.{LowSide}
use Rattle.translator.specs.declared.LowSide.TheVariants.{Idle}
use Rattle.area_check.specs.Read.{low_of}
use Rattle.area.specs.Written.{low_byte, running_byte, placed}
use Rattle.area_parts.specs.declared.Head.{Head}
use Rattle.area_parts.specs.Parts.{head_at, low_over}
use Rattle.area.proofs.Over.{over_none, over_some}

module _ (a : List ℕ) where
  pub head_none : length a < 8 → ◌≡◌ {A = Head} (record { ports = record { 0 = 0 }; count = record { 0 = 0 }; configured = false; low = Idle }) (head_at a)
  unfolding head_at
  head_none h = over_none 8 a _ _ h

  pub head_some : 8 ≤ length a → (l : LowSide) → l ≡ low_of (get_or a 6 0) (get_or a 7 0)
      → record { ports = record { 0 = get_or a 0 0 }; count = record { 0 = get_or a 1 0 }; configured = eqb (get_or a 5 0) 1; low = l } ≡ head_at a
  unfolding head_at
  head_some h l e =
      ap (λ (x : LowSide). record { ports = record { 0 = get_or a 0 0 }; count = record { 0 = get_or a 1 0 }; configured = eqb (get_or a 5 0) 1; low = x }) e ∙ over_some 8 a _ _ h

-- two bytes written, of the first eight
low_set : (a : List ℕ) (x y : ℕ) → 8 ≤ length a → set (set a 6 x) 7 y ≡ placed 6 2 (x ∷ y ∷ []) a
low_set [] x y h = absurd (omega arith)
low_set (a ∷ []) x y h = absurd (omega arith)
low_set (a ∷ b ∷ []) x y h = absurd (omega arith)
low_set (a ∷ b ∷ c ∷ []) x y h = absurd (omega arith)
low_set (a ∷ b ∷ c ∷ d ∷ []) x y h = absurd (omega arith)
low_set (a ∷ b ∷ c ∷ d ∷ e ∷ []) x y h = absurd (omega arith)
low_set (a ∷ b ∷ c ∷ d ∷ e ∷ f ∷ []) x y h = absurd (omega arith)
low_set (a ∷ b ∷ c ∷ d ∷ e ∷ f ∷ g ∷ []) x y h = absurd (omega arith)
low_set (a ∷ b ∷ c ∷ d ∷ e ∷ f ∷ g ∷ i ∷ l) x y h = refl

module _ (a : List ℕ) (low : LowSide) where
  pub low_not : length a < 8 → a ≡ low_over low a
  unfolding low_over
  low_not h = over_none 8 a _ _ h

  pub low_put : {x y : ℕ} → 8 ≤ length a → x ≡ low_byte low → y ≡ running_byte low → set (set a 6 x) 7 y ≡ low_over low a
  unfolding low_over
  low_put h e f = low_set a _ _ h ∙ rw (e, f) (over_some 8 a _ _ h)
