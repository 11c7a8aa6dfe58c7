-- ResetTT from a lane. A reader must believe: it empties that lane's buffers, old ones too, and no other; a transaction of the lane that
-- runs is abandoned as by a clear.
use Rattle.std.specs.Prelude.{cond, List, map}
use Rattle.buffer.specs.declared.Lane.{Lane}
use Rattle.buffer.specs.declared.Buffer.{Buffer}
use Rattle.buffer.specs.Buffer.{vacant, in_lane}
use Rattle.translator.specs.declared.Translator.{Translator}
use Rattle.translator.specs.declared.LowSide.{LowSide}
use Rattle.translator.specs.declared.LowSide.TheVariants.{Idle, Running, Abandoned}
use Rattle.translator.specs.Translator.{at}

-- empty, if it was the lane's
abbrev pub without_lane : Lane → Buffer → Buffer
without_lane l b = cond (in_lane l b.slot) vacant b

-- the low side stays occupied
abbrev pub low_without_lane : Lane → List Buffer → LowSide → LowSide
low_without_lane l bs Idle = Idle
low_without_lane l bs (Running n) = cond (in_lane l (at bs n.0).slot) Abandoned (Running n)
low_without_lane l bs Abandoned = Abandoned

unfoldable pub reset_lane : Translator → Lane → Translator
reset_lane t l = record { buffers = map (without_lane l) t.buffers; count = t.count; low = low_without_lane l t.buffers t.low }
