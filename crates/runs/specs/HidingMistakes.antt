-- Rules with one mistake each, and the part of demand 3 that shuts each out: so no part of it can be left out.
-- A reader must believe: each rule below is the rules' but for what its comment says.
use Rattle.std.specs.Prelude.{ℕ, ◌≡◌, Bool, true, false, cond, List, [], ◌∷◌, eqb, get_or, set, Err, Ok, Result}
use Rattle.payload.specs.Payload.{payload_of}
use Rattle.buffer.specs.declared.DeviceResult.{DeviceResult}
use Rattle.buffer.specs.declared.DeviceResult.TheVariants.{Failure, Ack, Nak, Stall, Data0, Data1}
use Rattle.buffer.specs.declared.StartSplit.{StartSplit}
use Rattle.buffer.specs.declared.Slot.{Slot}
use Rattle.buffer.specs.declared.Slot.TheVariants.{Empty, Pending, Ready, Old}
use Rattle.buffer.specs.declared.BufferNumber.{BufferNumber}
use Rattle.buffer.specs.Lengths.{suits}
use Rattle.translator.specs.declared.NoResult.{NoResult}
use Rattle.translator.specs.declared.Translator.{Translator}
use Rattle.translator.specs.declared.LowSide.{LowSide}
use Rattle.translator.specs.declared.LowSide.TheVariants.{Idle, Running, Abandoned}
use Rattle.translator.specs.declared.NoResult.TheVariants.{NoMatch, NotYet}
use Rattle.translator.specs.declared.NotDelivered.TheVariants.{NotInThisState}
use Rattle.translator.specs.declared.Completed.{Completed}
use Rattle.translator.specs.declared.Launched.{Launched}
use Rattle.translator.specs.declared.Delivered.{Delivered}
use Rattle.translator.specs.Translator.{at}
use Rattle.translator.specs.CompleteSplit.{complete_split}
use Rattle.translator.specs.Launch as launching
use Rattle.translator.specs.Deliver.{undelivered, deliver_by}
use Rattle.numbers.specs.Named.{result_from}
use Rattle.hub.specs.declared.Hub.{Hub}
use Rattle.hub.specs.Call.{Call, Control, Poll, Start, Complete, Launch, Deliver, Event, Tick, BusReset, Answer, Outcome, refuse}
use Rattle.hub.specs.Rules.{delivered_as}
use Rattle.hub.specs.Checks.{within, not_silent, first_refusal}
use Rattle.hub.specs.Step.{step}
use Rattle.runs.specs.Machine.{Numbers, Machine, new_hub_of, ruled}
use Rattle.runs.specs.Altered.{TranslatorRules, with_complete, with_launch, altered, answering, with_bytes, Field, field_of}
use Rattle.runs.specs.Demand3.{MarkHidden, DataExplained}

-- ---- a stored payload byte shows

-- the first byte of buffer 0
abbrev pub first_byte : Translator → ℕ
first_byte t = get_or (at t.buffers 0).payload.bytes 0 0

-- in every answer, where `put` puts it
abbrev pub showing : (ℕ → Answer → Answer) → Machine
showing put = answering (λ h a. put (first_byte h.translator) a)

-- as the byte of the answers to the calls that pass a test
abbrev pub given_to : (Call → Bool) → Hub → Call → Outcome
given_to p h c =
    let o = step h c in
    record { next = o.next; answer = with_bytes o.answer (cond (p c) (first_byte h.translator ∷ []) o.answer.bytes) }

-- neither a launch nor a complete-split, whose bytes are excepted for the marked key
abbrev pub is_other : Call → Bool
is_other (Control z s room) = true
is_other (Poll z room) = true
is_other (Start z p t f g a e l) = true
is_other (Complete z a e d room) = false
is_other (Launch room) = false
is_other (Deliver r l) = true
is_other (Event e n) = true
is_other Tick = true
is_other BusReset = true

-- as the number of bytes that a complete-split gives
abbrev pub sized : ℕ → Completed → Completed
sized n o = record { next = o.next; answer = o.answer; payload = record { len = n; bytes = o.payload.bytes } }

abbrev pub size_shows : TranslatorRules
size_shows = with_complete (λ t k. sized (first_byte t) (complete_split t k))

-- in a launch, which gives the payload of buffer 0, whichever buffer runs
abbrev pub from_buffer0 : Translator → Launched → Launched
from_buffer0 t o = record { next = o.next; answer = o.answer; payload = (at t.buffers 0).payload }

abbrev pub wrong_payload : TranslatorRules
wrong_payload = with_launch (λ t. from_buffer0 t (launching.launch t))

-- ---- what the memory held before a hub was made in it shows

-- the numbers of a new hub, and a byte that lay where it is made
pub record Memory : Type 0 where
  pub numbers : Numbers
  pub byte : ℕ

-- that byte, in every answer
abbrev pub memory_shows : (ℕ → Answer → Answer) → Machine
memory_shows put =
    record {
      State = Hub × ℕ;
      Asked = Call;
      call = λ c. c;
      Made = Memory;
      numbers = λ n. n.numbers;
      new = λ n. (new_hub_of n.numbers, n.byte);
      answer = λ s c. put s.1 (step s.0 c).answer;
      next = λ s c. ((step s.0 c).next, s.1);
    }

-- ---- DATA0 is answered as DATA1

abbrev pub as_data1 : DeviceResult → DeviceResult
as_data1 Failure = Failure
as_data1 Ack = Ack
as_data1 Nak = Nak
as_data1 Stall = Stall
as_data1 Data0 = Data1
as_data1 Data1 = Data1

abbrev pub answered_as_data1 : Result DeviceResult NoResult → Result DeviceResult NoResult
answered_as_data1 (Err NoMatch) = Err NoMatch
answered_as_data1 (Err NotYet) = Err NotYet
answered_as_data1 (Ok r) = Ok (as_data1 r)

abbrev pub other_pid : TranslatorRules
other_pid = with_complete (λ t k. let o = complete_split t k in record { next = o.next; answer = answered_as_data1 o.answer; payload = o.payload })

-- ---- a ready buffer takes a second result: the low side stays running after a delivery

abbrev pub result_in : Translator → DeviceResult → List ℕ → BufferNumber → StartSplit → Delivered
result_in t r l n s =
    cond (suits s.pid r)
    (record {
      next = record { buffers = set t.buffers n.0 (record { slot = Ready s r; payload = payload_of l }); count = t.count; low = t.low };
      answer = Ok tt;
    })
    (undelivered t NotInThisState)

abbrev pub delivered_again : Translator → DeviceResult → List ℕ → BufferNumber → Slot → Delivered
delivered_again t r l n Empty = undelivered t NotInThisState
delivered_again t r l n (Pending s p) = result_in t r l n s
delivered_again t r l n (Ready s q) = result_in t r l n s
delivered_again t r l n (Old s q) = undelivered t NotInThisState

abbrev pub deliver_again : Translator → DeviceResult → List ℕ → LowSide → Delivered
deliver_again t r l Idle = deliver_by t r l Idle
deliver_again t r l (Running n) = delivered_again t r l n (at t.buffers n.0).slot
deliver_again t r l Abandoned = deliver_by t r l Abandoned

abbrev pub second_result : Hub → Call → Outcome
second_result h (Control z s room) = step h (Control z s room)
second_result h (Poll z room) = step h (Poll z room)
second_result h (Start z p t f g a e l) = step h (Start z p t f g a e l)
second_result h (Complete z a e d room) = step h (Complete z a e d room)
second_result h (Launch room) = step h (Launch room)
-- the checks 6 and 5; 8 comes from the rule
second_result h (Deliver r l) =
    let n = first_refusal (within h (Deliver r l)) true (not_silent h (Deliver r l)) true in
    cond (eqb n 0) (delivered_as h (deliver_again h.translator (result_from r) l h.translator.low)) (refuse n h)
second_result h (Event e n) = step h (Event e n)
second_result h Tick = step h Tick
second_result h BusReset = step h BusReset

-- the number f of an answer is where it is put
abbrev pub Puts : Field → (ℕ → Answer → Answer) → Type 0
Puts f put = (n : ℕ) (a : Answer) → field_of f (put n a) ≡ n

-- each mistake falsifies the part of the claim that is to shut it out
pub record HidingMistakesShutOut : Type 0 where
  -- in any of the numbers of an answer
  pub shown : (f : Field) (put : ℕ → Answer → Answer) → Puts f put → ¬ (MarkHidden (showing put))
  -- as the byte of an answer to any call but launches and complete-splits: a poll, say
  pub given : (p : Call → Bool) (c : Call) → p c ≡ true → is_other c ≡ true → ¬ (MarkHidden (ruled (given_to p)))
  pub size_shown : ¬ (MarkHidden (altered size_shows))
  pub wrong_payload_lem : ¬ (MarkHidden (altered wrong_payload))
  pub memory_shown : (f : Field) (put : ℕ → Answer → Answer) → Puts f put → ¬ (MarkHidden (memory_shows put))
  pub other_pid_lem : ¬ (DataExplained (altered other_pid))
  pub second_result_lem : ¬ (DataExplained (ruled second_result))
