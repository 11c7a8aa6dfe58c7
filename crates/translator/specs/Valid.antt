-- Which translators are valid. A reader must believe: number ranges, zero bytes behind payloads, no key and no place in the order of
-- acceptance held twice, at most B minus 1 buffers pending or ready for each lane, and at most one running transaction, itself pending
-- unless abandoned.
use Rattle.std.specs.Prelude.{ℕ, ◌≤◌, ◌<◌, ◌≡◌, Bool, true, false, List, eqb, length}
use Rattle.buffer.specs.declared.Lane.{Lane}
use Rattle.buffer.specs.declared.Key.{Key}
use Rattle.buffer.specs.declared.Slot.{Slot}
use Rattle.buffer.specs.declared.Slot.TheVariants.{Empty, Pending, Ready, Old}
use Rattle.buffer.specs.declared.Buffer.{Buffer}
use Rattle.buffer.specs.Buffer.{vacant, holds, is_pending}
use Rattle.buffer.specs.Valid.{Whole}
use Rattle.translator.specs.declared.LowSide.{LowSide}
use Rattle.translator.specs.declared.LowSide.TheVariants.{Idle, Running, Abandoned}
use Rattle.translator.specs.declared.Translator.{Translator}
use Rattle.translator.specs.Translator.{at}
use Rattle.translator.specs.Limit.{held_by}

-- pending, at the place p
abbrev pub at_place : ℕ → Slot → Bool
at_place p Empty = false
at_place p (Pending s q) = eqb q p
at_place p (Ready s r) = false
at_place p (Old s r) = false

-- no two buffers pass the test
abbrev pub Apart : (Slot → Bool) → List Buffer → Type 0
Apart f bs = (i j : ℕ) → f (at bs i).slot ≡ true → f (at bs j).slot ≡ true → i ≡ j

abbrev pub RunsPending : List Buffer → LowSide → Type 0
RunsPending bs Idle = Unit {0}
RunsPending bs (Running n) = is_pending (at bs n.0).slot ≡ true
RunsPending bs Abandoned = Unit {0}

pub record ValidTranslator (t : Translator) : Type 0 where
  -- B translator buffers, 2 to 4
  pub least : 2 ≤ t.count
  pub most : t.count ≤ 4
  pub four : length t.buffers ≡ 4
  -- those that are not in use are empty
  pub spare : (i : ℕ) → t.count ≤ i → at t.buffers i ≡ vacant
  pub whole : (i : ℕ) → Whole (at t.buffers i)
  pub keys : (k : Key) → Apart (holds k) t.buffers
  pub places : (p : ℕ) → Apart (at_place p) t.buffers
  -- at most B minus 1
  pub lanes : (l : Lane) → held_by l t.buffers < t.count
  pub running : RunsPending t.buffers t.low
