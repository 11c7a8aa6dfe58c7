-- Internal, pinned by `WhyClaims` (Claims.antt): which reason the tool gives. `TrueOf` (Said.antt) says when a reason is true, and the claims
-- say that this one is, that no other is, and that it is enough.
use Rattle.std.specs.Prelude.{ℕ, cond, List, eqb, get_or, Result, Ok, Err}
use Rattle.port.specs.declared.Port.{Port}
use Rattle.port.specs.Reaction.{new_port}
use Rattle.translator.specs.declared.Outside.{Outside}
use Rattle.translator.specs.declared.Choice.{Choice}
use Rattle.translator.specs.declared.Choice.TheVariants as choice
use Rattle.translator.specs.StartSplit.{start_split}
use Rattle.numbers.specs.Split.{split_from}
use Rattle.request.specs.declared.Fault.{Fault}
use Rattle.request.specs.declared.Fault.TheVariants as fault
use Rattle.request.specs.declared.Request.{Request}
use Rattle.request.specs.Request.{request_of}
use Rattle.hub.specs.declared.Hub.{Hub}
use Rattle.hub.specs.Call.{Call, Control, Poll, Start, Complete, Launch, Deliver, Event, Tick, BusReset}
use Rattle.hub.specs.Step.{step}
use Rattle.why.specs.declared.RequestFault.{RequestFault}
use Rattle.why.specs.declared.RequestFault.TheVariants as wrong
use Rattle.why.specs.declared.PortChanges.{PortChanges}
use Rattle.why.specs.declared.Reason.{Reason}
use Rattle.why.specs.declared.Reason.TheVariants.{Nothing, Number, HeldBy, Reused, TookFree, LimitReached, NoRoom, Changed, Wrong}
use Rattle.why.specs.Said.{right, is_number}

unfoldable pub numbered : ℕ → Reason → Reason
numbered n r = cond (is_number n) (Number n) r

abbrev pub choice_reason : Choice → Reason
choice_reason choice.NoRoom = NoRoom
choice_reason choice.LimitReached = LimitReached
choice_reason (choice.Held n) = HeldBy n
choice_reason (choice.Reused n) = Reused n
choice_reason (choice.Took n) = TookFree n

abbrev pub start_reason : Result Choice Outside → Reason
start_reason (Err o) = Nothing
start_reason (Ok c) = choice_reason c

-- the change bits of the ports
unfoldable pub changes_by_port : List Port → PortChanges
changes_by_port ps =
    record {
      port1 = (get_or ps 0 new_port).changes;
      port2 = (get_or ps 1 new_port).changes;
      port3 = (get_or ps 2 new_port).changes;
      port4 = (get_or ps 3 new_port).changes;
      port5 = (get_or ps 4 new_port).changes;
      port6 = (get_or ps 5 new_port).changes;
      port7 = (get_or ps 6 new_port).changes;
    }

unfoldable pub poll_reason : ℕ → PortChanges → Reason
poll_reason n f = cond (eqb n 1) (Changed f) Nothing

abbrev pub as_request_fault : Fault → RequestFault
as_request_fault fault.TypeOrCode = wrong.TypeOrCode
as_request_fault fault.Value = wrong.Value
as_request_fault fault.Index = wrong.Index
as_request_fault fault.Length = wrong.Length

-- the fault that reading a request found
abbrev pub own_fault : Result Request Fault → Reason
own_fault (Err f) = Wrong (as_request_fault f)
own_fault (Ok r) = Nothing

-- the hub's configuration is looked at behind type and code, before the other fields
unfoldable pub request_reason : Hub → List ℕ → Reason
request_reason h s =
    cond (right wrong.TypeOrCode h s)
    (cond (right wrong.Unconfigured h s)
    (own_fault (request_of h.identity.ports s))
    (Wrong wrong.Unconfigured))
    (Wrong wrong.TypeOrCode)

-- of a call to which none of 5 to 8 applies
unfoldable pub rule_reason : Hub → Call → Reason
rule_reason h (Control z s room) = request_reason h s
rule_reason h (Poll z room) = poll_reason (step h (Poll z room)).answer.number (changes_by_port h.ports)
rule_reason h (Start z p t f g a e l) = start_reason (start_split h.translator (split_from z p t f g a e) l).answer
rule_reason h (Complete z a e d room) = Nothing
rule_reason h (Launch room) = Nothing
rule_reason h (Deliver r l) = Nothing
rule_reason h (Event e n) = Nothing
rule_reason h Tick = Nothing
rule_reason h BusReset = Nothing

unfoldable pub why_of : Hub → Call → Reason
why_of h c = numbered (step h c).answer.number (rule_reason h c)
