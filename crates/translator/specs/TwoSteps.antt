-- Document 01's choice of a buffer, in its words over the buffers: is there one, which is the lowest, is there none. Claims say it so; the
-- rule computes it (Search, Limit). A reader must believe `TwoSteps`.
use Rattle.std.specs.Prelude.{ℕ, ◌<◌, length, take}
use Rattle.buffer.specs.declared.Key.{Key}
use Rattle.buffer.specs.declared.Slot.{Slot}
use Rattle.buffer.specs.declared.BufferNumber.{BufferNumber}
use Rattle.buffer.specs.Words.{Holding, OldWith, With, Vacated}
use Rattle.translator.specs.declared.Translator.{Translator}
use Rattle.translator.specs.declared.Choice.{Choice}
use Rattle.translator.specs.declared.Choice.TheVariants.{NoRoom, LimitReached, Held, Reused, Took}
use Rattle.translator.specs.Translator.{at}
use Rattle.translator.specs.Limit.{AtLimit}

-- buffer i is one of the translator's B
abbrev pub InUse : Translator → ℕ → Type 0
InUse t i = i < length (take t.count t.buffers)

-- buffer n is one of them, and so
pub record Buffered (P : Slot → Type 0) (t : Translator) (n : BufferNumber) : Type 0 where
  pub in_use : InUse t n.0
  pub so : P (at t.buffers n.0).slot

-- buffer n is the lowest-numbered one of them that is so
pub record Lowest (P : Slot → Type 0) (t : Translator) (n : BufferNumber) : Type 0 where
  pub one : Buffered P t n
  pub none_lower : (i : ℕ) → i < n.0 → ¬ (P (at t.buffers i).slot)

-- none of them is so
abbrev pub NoBuffer : (Slot → Type 0) → Translator → Type 0
NoBuffer P t = (n : BufferNumber) → ¬ (Buffered P t n)

-- A start-split with the key k. Where a key is held twice, the lowest-numbered buffer with it is meant.
abbrev pub TwoSteps : Translator → Key → Choice → Type 0
-- a buffer with its key that is pending or ready, ACK and nothing stored;
TwoSteps t k (Held n) = Lowest (With k) t n × Buffered (Holding k) t n
-- one that is old, reuse it;
TwoSteps t k (Reused n) = (¬ (AtLimit k.lane t)) × (Lowest (With k) t n × Buffered (OldWith k) t n)
-- no key match, the lowest-numbered empty or old one;
TwoSteps t k (Took n) = (¬ (AtLimit k.lane t)) × (NoBuffer (With k) t × Lowest Vacated t n)
-- none, 3.
TwoSteps t k NoRoom = (¬ (AtLimit k.lane t)) × (NoBuffer (With k) t × NoBuffer Vacated t)
-- C-18: a start-split whose storing would pass the limit, in its own old buffer too, is 3; a repeat is still ACK
TwoSteps t k LimitReached = AtLimit k.lane t × ((n : BufferNumber) → Lowest (With k) t n → ¬ (Buffered (Holding k) t n))
