-- Tools and rules with one mistake. A reader must believe: each is a mistake, and the claim named shuts it out.
use Rattle.std.specs.Prelude.{ℕ, ◌+◌, Bool, true, false, cond, List, [], ◌∷◌, map, take, get_or, None, Some}
use Rattle.payload.specs.Payload.{no_payload}
use Rattle.buffer.specs.declared.Key.{Key}
use Rattle.buffer.specs.declared.Buffer.{Buffer}
use Rattle.buffer.specs.declared.BufferNumber.{BufferNumber}
use Rattle.buffer.specs.declared.Slot.{Slot}
use Rattle.buffer.specs.declared.Slot.TheVariants.{Empty, Pending, Ready, Old}
use Rattle.buffer.specs.Key.{key_of}
use Rattle.buffer.specs.Buffer.{is_free}
use Rattle.translator.specs.declared.Choice.{Choice}
use Rattle.translator.specs.declared.Choice.TheVariants as choice
use Rattle.translator.specs.Order.{pass}
use Rattle.translator.specs.Search.{choose_free}
use Rattle.translator.specs.Limit.{permitted}
use Rattle.translator.specs.StartSplit.{start_by, start_split}
use Rattle.hub.specs.declared.Hub.{Hub}
use Rattle.hub.specs.Call.{Call, Control, Poll, Start, Complete, Launch, Deliver, Event, Tick, BusReset}
use Rattle.hub.specs.Step.{step}
use Rattle.runs.specs.Machine.{rules}
use Rattle.runs.specs.Refusals.{slot_at}
use Rattle.runs.specs.Demand3.{Marks}
use Rattle.runs.specs.Altered.{TranslatorRules, with_start, step_by}
use Rattle.runs.specs.LaneMistakes.{starting_by, own_old_passes}
use Rattle.why.specs.declared.RequestFault.{RequestFault}
use Rattle.why.specs.declared.RequestFault.TheVariants as wrong
use Rattle.why.specs.declared.PortChanges.{PortChanges}
use Rattle.why.specs.declared.Reason.{Reason}
use Rattle.why.specs.declared.Reason.TheVariants.{Nothing, Number, HeldBy, Reused, TookFree, LimitReached, NoRoom, Changed, Wrong}
use Rattle.why.specs.Said.{right}
use Rattle.why.specs.Why.{numbered, why_of}
use Rattle.why.specs.Claims.{WhyTrue, WhyEnough, WhyGiven, WhyStored}
use Rattle.why.specs.Cases.{connected}
use Rattle.why.specs.ExplainedRuns.{Explainer, HiddenWithReasons, NotMade}

-- ---- tools: the reason is another

-- it never has a reason
abbrev pub no_reason : Hub → Call → Reason
no_reason h c = Nothing

-- it gives the answer's number for every call
abbrev pub number_always : Hub → Call → Reason
number_always h c = Number (step h c).answer.number

-- the reason told with another buffer, for a free one something else, for the limit something else, or with other change bits
abbrev pub retold : (BufferNumber → BufferNumber) → (BufferNumber → Reason) → Reason → (PortChanges → PortChanges) → Reason → Reason
retold b f l g Nothing = Nothing
retold b f l g (Number n) = Number n
retold b f l g (HeldBy n) = HeldBy (b n)
retold b f l g (Reused n) = Reused (b n)
retold b f l g (TookFree n) = f n
retold b f l g LimitReached = l
retold b f l g NoRoom = NoRoom
retold b f l g (Changed c) = Changed (g c)
retold b f l g (Wrong w) = Wrong w

-- another buffer is named
abbrev pub next : BufferNumber → BufferNumber
next b = record { 0 = b.0 + 1 }

abbrev pub other_buffer : Hub → Call → Reason
other_buffer h c = retold next (λ b. TookFree (next b)) LimitReached (λ x. x) (why_of h c)

-- no room, where one is old
abbrev pub is_old : Slot → Bool
is_old Empty = false
is_old (Pending s p) = false
is_old (Ready s r) = false
is_old (Old s r) = true

abbrev pub old_occupied : Hub → Call → Reason
old_occupied h c = retold (λ b. b) (λ b. cond (is_old (slot_at h b.0)) NoRoom (TookFree b)) LimitReached (λ x. x) (why_of h c)

-- the limit is called no room
abbrev pub limit_unnamed : Hub → Call → Reason
limit_unnamed h c = retold (λ b. b) (λ b. TookFree b) NoRoom (λ x. x) (why_of h c)

-- a bit of port 5 too, which the bench hub doesn't have
abbrev pub port5_too : PortChanges → PortChanges
port5_too c =
    record {
      port1 = c.port1;
      port2 = c.port2;
      port3 = c.port3;
      port4 = c.port4;
      port5 = connected;
      port6 = c.port6;
      port7 = c.port7;
    }

abbrev pub past_last_port : Hub → Call → Reason
past_last_port h c = retold (λ b. b) (λ b. TookFree b) LimitReached port5_too (why_of h c)

-- ---- tools: the things are looked at in another order

-- the first of these that is wrong
abbrev pub first_of : List RequestFault → Hub → List ℕ → Reason
first_of [] h s = Nothing
first_of (w ∷ ws) h s = cond (right w h s) (first_of ws h s) (Wrong w)

abbrev pub in_order : List RequestFault → Hub → Call → Reason
in_order ws h (Control z s room) = numbered (step h (Control z s room)).answer.number (first_of ws h s)
in_order ws h (Poll z room) = why_of h (Poll z room)
in_order ws h (Start z p t f g a e l) = why_of h (Start z p t f g a e l)
in_order ws h (Complete z a e d room) = why_of h (Complete z a e d room)
in_order ws h (Launch room) = why_of h (Launch room)
in_order ws h (Deliver r l) = why_of h (Deliver r l)
in_order ws h (Event e n) = why_of h (Event e n)
in_order ws h Tick = why_of h Tick
in_order ws h BusReset = why_of h BusReset

-- the value before the hub's configuration
abbrev pub value_first : Hub → Call → Reason
value_first = in_order (wrong.TypeOrCode ∷ wrong.Value ∷ wrong.Unconfigured ∷ wrong.Index ∷ wrong.Length ∷ [])

-- the index before the value
abbrev pub index_first : Hub → Call → Reason
index_first = in_order (wrong.TypeOrCode ∷ wrong.Unconfigured ∷ wrong.Index ∷ wrong.Value ∷ wrong.Length ∷ [])

-- ---- rules that store otherwise than the reason says

-- in the highest-numbered empty or old buffer
abbrev pub from_top : List Buffer → Choice → Choice
from_top bs choice.NoRoom = choice.NoRoom
from_top bs choice.LimitReached = choice.LimitReached
from_top bs (choice.Held n) = choice.Held n
from_top bs (choice.Reused n) = choice.Reused n
from_top bs (choice.Took n) = choose_free (pass (λ f s m. cond (is_free s) (Some m) f) 0 None bs)

abbrev pub highest_free : ℕ → Key → List Buffer → Choice
highest_free b k bs = from_top bs (permitted b k bs)

-- a repeat is stored again
abbrev pub held_reused : Choice → Choice
held_reused choice.NoRoom = choice.NoRoom
held_reused choice.LimitReached = choice.LimitReached
held_reused (choice.Held n) = choice.Reused n
held_reused (choice.Reused n) = choice.Reused n
held_reused (choice.Took n) = choice.Took n

abbrev pub repeat_stored : ℕ → Key → List Buffer → Choice
repeat_stored b k bs = held_reused (permitted b k bs)

-- without its payload
abbrev pub without_payload : TranslatorRules
without_payload = with_start (λ t s l. start_by t s [] (permitted t.count (key_of s) (take t.count t.buffers)))

-- each buffer is changed too, after every start-split
abbrev pub changing : (Buffer → Buffer) → TranslatorRules
changing f =
    with_start (λ t s l.
    let o = start_split t s l in
    record { next = record { buffers = map f o.next.buffers; count = o.next.count; low = o.next.low }; answer = o.answer })

-- an old one is emptied, or loses its payload
abbrev pub old_emptied : Buffer → Buffer
old_emptied b = record { slot = cond (is_old b.slot) Empty b.slot; payload = b.payload }

abbrev pub old_cleared : Buffer → Buffer
old_cleared b = record { slot = b.slot; payload = cond (is_old b.slot) no_payload b.payload }

-- ---- tools in runs

-- it shows the first payload byte of an explained start-split
abbrev pub shown_byte : Call → Reason
shown_byte (Control z s room) = Nothing
shown_byte (Poll z room) = Nothing
shown_byte (Start z p t f g a e l) = Number (get_or l 0 0)
shown_byte (Complete z a e d room) = Nothing
shown_byte (Launch room) = Nothing
shown_byte (Deliver r l) = Nothing
shown_byte (Event e n) = Nothing
shown_byte Tick = Nothing
shown_byte BusReset = Nothing

abbrev pub leaking : Explainer
leaking = record { machine = rules; why = λ h c. shown_byte c; left = λ h c. h }

-- it makes the call that it explains
abbrev pub making : Explainer
making = record { machine = rules; why = why_of; left = λ h c. (step h c).next }

pub record WhyMistakesShutOut : Type 0 where
  pub no_reason_lem : ¬ (WhyTrue no_reason)
  pub number_always_lem : ¬ (WhyTrue number_always)
  pub other_buffer_lem : ¬ (WhyTrue other_buffer)
  pub old_occupied_lem : ¬ (WhyTrue old_occupied)
  pub limit_unnamed_lem : ¬ (WhyTrue limit_unnamed)
  pub past_last_port_lem : ¬ (WhyTrue past_last_port)
  pub value_first_lem : ¬ (WhyTrue value_first)
  pub index_first_lem : ¬ (WhyTrue index_first)
  -- a rule that reuses an own old buffer past the limit: the limit isn't enough for 3
  pub own_old_passes_lem : ¬ (WhyEnough (step_by (starting_by own_old_passes)))
  pub none_given : ¬ (WhyGiven step no_reason)
  -- another buffer holds it than the one that is named
  pub highest_free_lem : ¬ (WhyStored (step_by (starting_by highest_free)) why_of)
  pub without_payload_lem : ¬ (WhyStored (step_by without_payload) why_of)
  pub old_emptied_lem : ¬ (WhyStored (step_by (changing old_emptied)) why_of)
  pub old_cleared_lem : ¬ (WhyStored (step_by (changing old_cleared)) why_of)
  pub repeat_stored_lem : ¬ (WhyStored (step_by (starting_by repeat_stored)) why_of)
  pub leaks : ¬ ((m : Marks) → HiddenWithReasons leaking m)
  pub makes : ¬ (NotMade making)
