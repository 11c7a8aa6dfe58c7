-- The translator's state. A reader must believe: it is B buffers, numbered from 0, and a low side that runs one transaction.
use Rattle.std.specs.Prelude.{ℕ, ◌+◌, Bool, List, [], ◌∷◌, get_or, set, replicate}
use Rattle.bools.specs.Bit.{bit}
use Rattle.buffer.specs.declared.Slot.{Slot}
use Rattle.buffer.specs.declared.Buffer.{Buffer}
use Rattle.buffer.specs.declared.BufferNumber.{BufferNumber}
use Rattle.buffer.specs.Buffer.{vacant}
use Rattle.translator.specs.declared.LowSide.{LowSide}
use Rattle.translator.specs.declared.LowSide.TheVariants.{Idle}
use Rattle.translator.specs.declared.Translator.{Translator}

-- buffer i; past the last one, an empty one
abbrev pub at : List Buffer → ℕ → Buffer
at bs i = get_or bs i vacant

-- a new hub has empty buffers
abbrev pub new_translator : ℕ → Translator
new_translator n = record { buffers = replicate 4 vacant; count = n; low = Idle }

abbrev pub with_buffer : Translator → BufferNumber → Buffer → Translator
with_buffer t n b = record { buffers = set t.buffers n.0 b; count = t.count; low = t.low }

abbrev pub with_low : Translator → LowSide → Translator
with_low t l = record { buffers = t.buffers; count = t.count; low = l }

-- Bus reset and an accepted SetConfiguration empty the translator and stop the low side at once.
abbrev pub emptied : Translator → Translator
emptied t = new_translator t.count

-- how many buffers pass a test
unfoldable pub tally : (Slot → Bool) → List Buffer → ℕ
tally f [] = 0
tally f (b ∷ bs) = bit (f b.slot) + tally f bs
