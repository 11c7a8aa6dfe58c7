-- Internal, pinned by `Refusals` (crate `runs`), which says in document 01's words which call is refused with which number: for each call when
-- each check refuses it, and the order of checks.
use Rattle.std.specs.Prelude.{ℕ, Bool, true, false, not, ◌&&◌, eqb, leb, length, Result, Ok, Err}
use Rattle.port.specs.Events.{line_event}
use Rattle.ports.specs.Ports.{port_at}
use Rattle.buffer.specs.Lengths.{start_fits, result_length}
use Rattle.translator.specs.Launch.{launch}
use Rattle.translator.specs.Deliver.{deliver}
use Rattle.translator.specs.Answers.{launch_number, deliver_number}
use Rattle.numbers.specs.Named.{is_result, result_from, is_event, event_from, port_named, is_lane}
use Rattle.numbers.specs.Split.{split_named, split_from, key_named}
use Rattle.hub.specs.declared.Hub.{Hub}
use Rattle.hub.specs.declared.Refusal.{Refusal}
use Rattle.hub.specs.declared.Refusal.TheVariants.{Outside, NoSpace, Unconfigured, NotInThisState}
use Rattle.hub.specs.Call.{Call, Control, Poll, Start, Complete, Launch, Deliver, Event, Tick, BusReset}

-- within the rules, else 6 a number or length outside the rules
unfoldable pub within : Hub → Call → Bool
-- Setup bytes are exactly 8, else 6. A lane outside 0 and 1 is 6.
within h (Control z s room) = eqb (length s) 8 && is_lane z
within h (Poll z room) = is_lane z
-- An event, PID, type, direction or result number that isn't named here, or a flag or toggle above 1, is 6. IN carries none, SETUP is
-- control with 8 bytes, else 6.
within h (Start z p t f g a e l) = split_named z p t f g a e && start_fits (split_from z p t f g a e) (length l)
within h (Complete z a e d room) = key_named z a e d
within h (Launch room) = true
-- Payload over 64, or on a result that isn't data: 6.
within h (Deliver r l) = is_result r && result_length (result_from r) (length l)
within h (Event e n) = is_event e && port_named h.identity.ports n
within h Tick = true
within h BusReset = true

-- room for a reply, else 7 reply space under 64 bytes. Calls that can write take reply space: control request, poll, launch,
-- complete-split.
unfoldable pub has_space : Call → Bool
has_space (Control z s room) = leb 64 room
has_space (Poll z room) = leb 64 room
has_space (Start z p t f g a e l) = true
has_space (Complete z a e d room) = leb 64 room
has_space (Launch room) = leb 64 room
has_space (Deliver r l) = true
has_space (Event e n) = true
has_space Tick = true
has_space BusReset = true

-- not silent, else 5 silent, hub unconfigured. On an unconfigured hub poll, launch, deliver and both splits answer 5; control requests never
-- do.
unfoldable pub not_silent : Hub → Call → Bool
not_silent h (Control z s room) = true
not_silent h (Poll z room) = h.configured
not_silent h (Start z p t f g a e l) = h.configured
not_silent h (Complete z a e d room) = h.configured
not_silent h (Launch room) = h.configured
not_silent h (Deliver r l) = h.configured
not_silent h (Event e n) = true
not_silent h Tick = true
not_silent h BusReset = true

-- fitting the state, else 8 not in this state. Line events on an unconfigured hub answer 8.
unfoldable pub fitting : Hub → Call → Bool
fitting h (Control z s room) = true
fitting h (Poll z room) = true
fitting h (Start z p t f g a e l) = true
fitting h (Complete z a e d room) = true
fitting h (Launch room) = not (eqb (launch_number (launch h.translator).answer) 8)
fitting h (Deliver r l) = not (eqb (deliver_number (deliver h.translator (result_from r) l).answer) 8)
fitting h (Event e n) = h.configured && not (eqb (line_event (port_at h.ports (record { 0 = n })) (event_from e)).number 8)
fitting h Tick = true
fitting h BusReset = true

abbrev pub unless : Bool → ℕ → ℕ → ℕ
unless true refusal rest = rest
unless false refusal rest = refusal

-- the number of document 01 for each refusal
abbrev pub refusal_number : Refusal → ℕ
refusal_number Outside = 6
refusal_number NoSpace = 7
refusal_number Unconfigured = 5
refusal_number NotInThisState = 8

-- what the checks found, in numbers: 0 where they let a call pass
abbrev pub checked_as : Result Unit Refusal → ℕ
checked_as (Ok x) = 0
checked_as (Err r) = refusal_number r

-- Order where several apply: 6, 7, 5, 8, then the rest, which is 0 here.
abbrev pub first_refusal : Bool → Bool → Bool → Bool → ℕ
first_refusal w r s f = unless w 6 (unless r 7 (unless s 5 (unless f 8 0)))
