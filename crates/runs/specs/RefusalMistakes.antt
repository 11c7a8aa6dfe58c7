-- Rules with one mistake each in what they refuse, and that the part of the claim on refusals named with each shuts it out. A reader must
-- believe: each differs from the rules where its comment says, and nowhere else.
use Rattle.std.specs.Prelude.{true, cond, not, ◌&&◌, [], ◌∷◌, eqb}
use Rattle.buffer.specs.declared.Direction.TheVariants as direction
use Rattle.numbers.specs.Written.{direction_number}
use Rattle.hub.specs.declared.Hub.{Hub}
use Rattle.hub.specs.Hub.{configured_as}
use Rattle.hub.specs.Call.{Call, Control, Poll, Start, Complete, Launch, Deliver, Event, Tick, BusReset, Outcome, plain_answer, pid_answer, done, refuse}
use Rattle.hub.specs.Checks.{within, has_space, not_silent, fitting, unless}
use Rattle.hub.specs.Step.{served, step}
use Rattle.runs.specs.Refusals.{Exactly, Unchanged, Numbered}

-- 5 before 7
unfoldable pub hasty_step : Hub → Call → Outcome
hasty_step h c =
    let n = unless (within h c) 6 (unless (not_silent h c) 5 (unless (has_space c) 7 (unless (fitting h c) 8 0))) in
    cond (eqb n 0) (served h c) (refuse n h)

-- everything is refused, with NAK
unfoldable pub closed_step : Hub → Call → Outcome
closed_step h c = refuse 3 h

-- a call answered 2 configures the hub
unfoldable pub leaky_step : Hub → Call → Outcome
leaky_step h c =
    let o = step h c in
    cond (eqb o.answer.number 2) (record { next = configured_as true h; answer = o.answer }) o

-- 5 in place of 8 on an unconfigured hub
unfoldable pub mute_step : Hub → Call → Outcome
mute_step h c =
    let o = step h c in
    cond (not h.configured && eqb o.answer.number 8) (refuse 5 h) o

-- a call that would give data is refused with 3
unfoldable pub dry_step : Hub → Call → Outcome
dry_step h c =
    let o = step h c in
    cond (eqb o.answer.number 1) (refuse 3 h) o

-- a complete-split's direction 7 is taken for OUT
abbrev pub taken_for_out : Call → Call
taken_for_out (Control z s room) = Control z s room
taken_for_out (Poll z room) = Poll z room
taken_for_out (Start z p t f g a e l) = Start z p t f g a e l
taken_for_out (Complete z a e d room) = Complete z a e (cond (eqb d 7) (direction_number direction.Out) d) room
taken_for_out (Launch room) = Launch room
taken_for_out (Deliver r l) = Deliver r l
taken_for_out (Event e n) = Event e n
taken_for_out Tick = Tick
taken_for_out BusReset = BusReset

unfoldable pub loose_step : Hub → Call → Outcome
loose_step h c = step h (taken_for_out c)

-- what is 8 is answered 0, with nothing changed
unfoldable pub lax_step : Hub → Call → Outcome
lax_step h c =
    let o = step h c in
    cond (eqb o.answer.number 8) (done h) o

-- a STALL gives one byte
unfoldable pub wordy_step : Hub → Call → Outcome
wordy_step h c =
    let o = step h c in
    cond (eqb o.answer.number 2) (record { next = o.next; answer = pid_answer 2 0 (0 ∷ []) }) o

-- a tick is answered 10
unfoldable pub stray_step : Hub → Call → Outcome
stray_step h (Control z s room) = step h (Control z s room)
stray_step h (Poll z room) = step h (Poll z room)
stray_step h (Start z p t f g a e l) = step h (Start z p t f g a e l)
stray_step h (Complete z a e d room) = step h (Complete z a e d room)
stray_step h (Launch room) = step h (Launch room)
stray_step h (Deliver r l) = step h (Deliver r l)
stray_step h (Event e n) = step h (Event e n)
stray_step h Tick = record { next = (step h Tick).next; answer = plain_answer 10 }
stray_step h BusReset = step h BusReset

pub record RefusalMistakesShutOut : Type 0 where
  pub hasty : ¬ (Exactly hasty_step)
  pub closed : ¬ (Exactly closed_step)
  pub leaky : ¬ (Unchanged leaky_step)
  pub mute : ¬ (Exactly mute_step)
  pub dry : ¬ (Exactly dry_step)
  pub loose : ¬ (Exactly loose_step)
  pub lax : ¬ (Exactly lax_step)
  pub wordy : ¬ (Unchanged wordy_step)
  pub stray : ¬ (Numbered stray_step)
