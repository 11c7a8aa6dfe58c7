-- Rules with one mistake each that break the tally: so it is not empty, and its "answered" is not bent to fit.
-- A reader must believe: each rule below is the translator's but for one call, and its comment says how.
use Rattle.std.specs.Prelude.{take, set, None, Option, Some}
use Rattle.payload.specs.Payload.{no_payload}
use Rattle.buffer.specs.declared.DeviceResult.TheVariants.{Stall}
use Rattle.buffer.specs.declared.Slot.{Slot}
use Rattle.buffer.specs.declared.Slot.TheVariants.{Empty, Pending, Ready, Old}
use Rattle.buffer.specs.Buffer.{holds}
use Rattle.buffer.specs.declared.BufferNumber.{BufferNumber}
use Rattle.translator.specs.declared.Translator.{Translator}
use Rattle.translator.specs.declared.LowSide.TheVariants.{Idle}
use Rattle.translator.specs.Translator.{at}
use Rattle.translator.specs.Search.{find}
use Rattle.translator.specs.CompleteSplit.{complete_split}
use Rattle.runs.specs.Altered.{TranslatorRules, with_complete, with_clear, altered}
use Rattle.runs.specs.Tally.{active_buffers, TallyHolds}

-- a complete-split gives the result and leaves the buffer ready
abbrev pub given_stays_ready : TranslatorRules
given_stays_ready = with_complete (λ t k. record { next = t; answer = (complete_split t k).answer; payload = (complete_split t k).payload })

-- a cleared buffer is not emptied but old with STALL, so that a start-split that was emptied is answered
abbrev pub shut : Slot → Slot
shut Empty = Empty
shut (Pending s p) = Old s Stall
shut (Ready s r) = Old s Stall
shut (Old s r) = Old s Stall

abbrev pub clear_shut : Translator → Option BufferNumber → Translator
clear_shut t None = t
clear_shut t (Some n) =
    record { buffers = set t.buffers n.0 (record { slot = shut (at t.buffers n.0).slot; payload = no_payload }); count = t.count; low = Idle }

abbrev pub emptied_answers : TranslatorRules
emptied_answers = with_clear (λ t k. clear_shut t (find (holds k) (take t.count t.buffers)))

pub record TallyMistakesShutOut : Type 0 where
  pub given_stays_ready_lem : ¬ (TallyHolds (altered given_stays_ready) active_buffers)
  pub emptied_answers_lem : ¬ (TallyHolds (altered emptied_answers) active_buffers)
