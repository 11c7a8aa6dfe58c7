-- The words of one buffer, among themselves and beside the tests, slot by slot. Assumes nothing.
use mathlib.Core.Path.{◌≡◌, refl}
use mathlib.Core.Bool.{true, false, true≢false, false≢true}
use Rattle.buffer.specs.declared.Key.{Key}
use Rattle.buffer.specs.declared.Slot.{Slot}
use Rattle.buffer.specs.declared.Slot.TheVariants.{Empty, Pending, Ready, Old}
use Rattle.buffer.specs.Key.{key_of}
use Rattle.buffer.specs.Buffer.{is_active, is_free, holds}
use Rattle.buffer.specs.Words.{Holding, OldWith, Elsewhere, With, Vacated}
use Rattle.buffer.proofs.Keys.{same_true, same_eq}

-- ---- words

module _ (k : Key) where
  pub holding_with : (s : Slot) → Holding k s → With k s
  holding_with Empty w = w
  holding_with (Pending s p) w = w
  holding_with (Ready s r) w = w
  holding_with (Old s r) w = absurd w

  pub old_with : (s : Slot) → OldWith k s → With k s
  old_with Empty w = w
  old_with (Pending s p) w = absurd w
  old_with (Ready s r) w = absurd w
  old_with (Old s r) w = w

  pub not_both : (s : Slot) → Holding k s → OldWith k s → ⊥
  not_both Empty v w = v
  not_both (Pending s p) v w = w
  not_both (Ready s r) v w = w
  not_both (Old s r) v w = v

  pub elsewhere : (s : Slot) → ¬ (With k s) → ¬ (Vacated s) → Elsewhere k s
  elsewhere Empty u v = v tt
  elsewhere (Pending s p) u v = u
  elsewhere (Ready s r) u v = u
  elsewhere (Old s r) u v = v tt

  pub elsewhere_without : (s : Slot) → Elsewhere k s → ¬ (With k s)
  elsewhere_without Empty w = λ v. v
  elsewhere_without (Pending s p) w = w
  elsewhere_without (Ready s r) w = w
  elsewhere_without (Old s r) w = absurd w

  pub elsewhere_taken : (s : Slot) → Elsewhere k s → ¬ (Vacated s)
  elsewhere_taken Empty w = absurd w
  elsewhere_taken (Pending s p) w = λ v. v
  elsewhere_taken (Ready s r) w = λ v. v
  elsewhere_taken (Old s r) w = absurd w

-- ---- words and tests

module _ (k : Key) where
  pub holding : (s : Slot) → holds k s ≡ true → is_active s ≡ true → Holding k s
  holding Empty e f = false≢true e
  holding (Pending s p) e f = same_true (key_of s) k e
  holding (Ready s r) e f = same_true (key_of s) k e
  holding (Old s r) e f = false≢true f

  pub old : (s : Slot) → holds k s ≡ true → is_active s ≡ false → OldWith k s
  old Empty e f = false≢true e
  old (Pending s p) e f = true≢false f
  old (Ready s r) e f = true≢false f
  old (Old s r) e f = same_true (key_of s) k e

  pub with_holds : (s : Slot) → With k s → holds k s ≡ true
  with_holds Empty w = absurd w
  with_holds (Pending s p) w = same_eq (key_of s) k w
  with_holds (Ready s r) w = same_eq (key_of s) k w
  with_holds (Old s r) w = same_eq (key_of s) k w

  pub holds_with : (s : Slot) → holds k s ≡ true → With k s
  holds_with Empty e = false≢true e
  holds_with (Pending s p) e = same_true (key_of s) k e
  holds_with (Ready s r) e = same_true (key_of s) k e
  holds_with (Old s r) e = same_true (key_of s) k e

pub vacated : (s : Slot) → is_free s ≡ true → Vacated s
vacated Empty e = tt
vacated (Pending s p) e = false≢true e
vacated (Ready s r) e = false≢true e
vacated (Old s r) e = tt

pub vacated_free : (s : Slot) → Vacated s → is_free s ≡ true
vacated_free Empty w = refl
vacated_free (Pending s p) w = absurd w
vacated_free (Ready s r) w = absurd w
vacated_free (Old s r) w = refl
