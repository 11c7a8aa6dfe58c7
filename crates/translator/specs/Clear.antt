-- ClearTTBuffer. A reader must believe: it empties the buffer of its key and no other; a transaction that runs there is abandoned.
use Rattle.std.specs.Prelude.{cond, eqb, take, set, Option, Some, None}
use Rattle.buffer.specs.declared.Key.{Key}
use Rattle.buffer.specs.declared.BufferNumber.{BufferNumber}
use Rattle.buffer.specs.Buffer.{vacant, holds}
use Rattle.translator.specs.declared.Translator.{Translator}
use Rattle.translator.specs.declared.LowSide.{LowSide}
use Rattle.translator.specs.declared.LowSide.TheVariants.{Idle, Running, Abandoned}
use Rattle.translator.specs.Search.{find}

-- If that one is running, the low side stays occupied.
abbrev pub low_without : BufferNumber → LowSide → LowSide
low_without n Idle = Idle
low_without n (Running m) = cond (eqb m.0 n.0) Abandoned (Running m)
low_without n Abandoned = Abandoned

-- if there is none, answer 0 and no effect
abbrev pub clear_at : Translator → Option BufferNumber → Translator
clear_at t None = t
clear_at t (Some n) = record { buffers = set t.buffers n.0 vacant; count = t.count; low = low_without n t.low }

-- It empties the buffer of that key, type not compared.
unfoldable pub clear_buffer : Translator → Key → Translator
clear_buffer t k = clear_at t (find (holds k) (take t.count t.buffers))
