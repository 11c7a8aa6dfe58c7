-- The four empty programs of document 01, two more, and that demand 2 shuts each out. A reader must believe: each is the program that its
-- comment names.
use Rattle.std.specs.Prelude.{ℕ, ◌≡◌, map, None, Option, Some}
use Rattle.buffer.specs.declared.BufferNumber.{BufferNumber}
use Rattle.translator.specs.Order.{earliest}
use Rattle.hub.specs.declared.Hub.{Hub}
use Rattle.hub.specs.Call.{Call, Control, Poll, Start, Complete, Launch, Deliver, Event, Tick, BusReset, Answer, Outcome, refuse}
use Rattle.hub.specs.Step.{step}
use Rattle.runs.specs.Machine.{ruled}
use Rattle.runs.specs.Altered.{answering, with_bytes, Field, field_of}
use Rattle.runs.specs.Demand2.{Demand2}

-- refuse everything
abbrev pub refuses_all : Hub → Call → Outcome
refuses_all h c = refuse 8 h

-- answer NAK always
abbrev pub naks_always : Hub → Call → Outcome
naks_always h c = refuse 3 h

-- leave the state alone
abbrev pub leaves_alone : Hub → Call → Outcome
leaves_alone h c = record { next = h; answer = (step h c).answer }

-- the hub left by a start-split: as it was where one is already pending
abbrev pub pretended_by : Option (BufferNumber × ℕ) → Hub → Hub → Hub
pretended_by None h g = g
pretended_by (Some (n, p)) h g = h

-- do the first start properly and only pretend for later ones
abbrev pub pretends : Hub → Call → Outcome
pretends h (Control z s room) = step h (Control z s room)
pretends h (Poll z room) = step h (Poll z room)
pretends h (Start z p t f g a e l) =
    let o = step h (Start z p t f g a e l) in
    record { next = pretended_by (earliest h.translator.buffers) h o.next; answer = o.answer }
pretends h (Complete z a e d room) = step h (Complete z a e d room)
pretends h (Launch room) = step h (Launch room)
pretends h (Deliver r l) = step h (Deliver r l)
pretends h (Event e n) = step h (Event e n)
pretends h Tick = step h Tick
pretends h BusReset = step h BusReset

-- zeros for the bytes of every answer
abbrev pub zeroed : Answer → Answer
zeroed a = with_bytes a (map (λ b. 0) a.bytes)

pub record EmptyProgramsShutOut : Type 0 where
  pub refusing : ¬ (Demand2 (ruled refuses_all))
  pub naking : ¬ (Demand2 (ruled naks_always))
  pub idle : ¬ (Demand2 (ruled leaves_alone))
  pub pretending : ¬ (Demand2 (ruled pretends))
  -- answered with the right numbers, and zeros for bytes
  pub zeroing : ¬ (Demand2 (answering (λ h a. zeroed a)))
  -- 0 for one of the numbers: the PID, say, or the address
  pub dropping : (f : Field) (drop : Answer → Answer) → ((a : Answer) → field_of f (drop a) ≡ 0) → ¬ (Demand2 (answering (λ h a. drop a)))
