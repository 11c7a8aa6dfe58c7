-- Internal, pinned by `OwnServed`, at its end: the hub's rules over any rules of the translator and of the ports. With the hub's own they are
-- the rules, so that a hub with one of them replaced differs from the rules there and nowhere else.
use Rattle.std.specs.Prelude.{◌≡◌, Bool, false, cond, ◌||◌, List, ℕ, eqb, Result, Ok, Err}
use Rattle.port.specs.declared.PortNumber.{PortNumber}
use Rattle.port.specs.declared.LineEvent.{LineEvent}
use Rattle.port.specs.declared.SettableFeature.{SettableFeature}
use Rattle.port.specs.Status.{status_bytes}
use Rattle.ports.specs.Ports.{port_at}
use Rattle.buffer.specs.declared.Lane.{Lane}
use Rattle.buffer.specs.declared.Key.{Key}
use Rattle.buffer.specs.declared.StartSplit.{StartSplit}
use Rattle.buffer.specs.declared.Slot.{Slot}
use Rattle.buffer.specs.declared.Slot.TheVariants.{Empty, Pending, Ready, Old}
use Rattle.buffer.specs.Key as key
use Rattle.translator.specs.declared.Translator.{Translator}
use Rattle.translator.specs.declared.Started.{Started}
use Rattle.translator.specs.declared.Completed.{Completed}
use Rattle.translator.specs.declared.Launched.{Launched}
use Rattle.translator.specs.StartSplit.{start_split}
use Rattle.translator.specs.CompleteSplit.{complete_split}
use Rattle.translator.specs.Launch as launching
use Rattle.translator.specs.Clear.{clear_buffer}
use Rattle.translator.specs.ResetLane.{reset_lane}
use Rattle.numbers.specs.Named.{lane_from, event_from}
use Rattle.numbers.specs.Split.{split_from, key_from}
use Rattle.request.specs.declared.Fault.{Fault}
use Rattle.request.specs.declared.Request.{Request}
use Rattle.request.specs.declared.Request.TheVariants.{SetConfiguration, GetConfiguration, GetHubDescriptor, GetHubStatus, GetPortStatus, ClearHubFeature, ClearPortFeature, SetPortFeature, ClearTTBuffer, ResetTT}
use Rattle.request.specs.Request.{request_of}
use Rattle.hub.specs.declared.Hub.{Hub}
use Rattle.hub.specs.Hub.{with_translator}
use Rattle.hub.specs.Call.{Call, Control, Poll, Start, Complete, Launch, Deliver, Event, Tick, BusReset, Answer, Outcome, done, refuse, gives}
use Rattle.hub.specs.Requests.{set_feature, keyed, by_request, served_always}
use Rattle.hub.specs.Rules.{polled, started_as, completed_as, launched_as, event_at}
use Rattle.hub.specs.Checks.{within, has_space, not_silent, fitting, first_refusal}
use Rattle.hub.specs.Step.{served, step}
use Rattle.runs.specs.Machine.{Machine, ruled}

pub record TranslatorRules : Type 0 where
  pub start : Translator → StartSplit → List ℕ → Started
  pub complete : Translator → Key → Completed
  pub launch : Translator → Launched
  -- ClearTTBuffer
  pub clear : Translator → Key → Translator
  -- ResetTT
  pub reset : Translator → Lane → Translator

abbrev pub own : TranslatorRules
own = record { start = start_split; complete = complete_split; launch = launching.launch; clear = clear_buffer; reset = reset_lane }

-- of line events, GetPortStatus, SetPortFeature and the poll
pub record PortRules : Type 0 where
  pub event : Hub → LineEvent → PortNumber → Outcome
  pub status : Hub → PortNumber → Outcome
  pub set : Hub → PortNumber → SettableFeature → Outcome
  pub poll : Hub → Outcome

abbrev pub own_ports : PortRules
own_ports =
    record {
      event = event_at;
      status = λ h m. gives h (status_bytes (port_at h.ports m));
      set = λ h m f. done (set_feature h m f);
      poll = polled;
    }

-- ---- one of them replaced

abbrev pub with_start : (Translator → StartSplit → List ℕ → Started) → TranslatorRules
with_start g = record { start = g; complete = own.complete; launch = own.launch; clear = own.clear; reset = own.reset }

abbrev pub with_complete : (Translator → Key → Completed) → TranslatorRules
with_complete g = record { start = own.start; complete = g; launch = own.launch; clear = own.clear; reset = own.reset }

abbrev pub with_launch : (Translator → Launched) → TranslatorRules
with_launch g = record { start = own.start; complete = own.complete; launch = g; clear = own.clear; reset = own.reset }

abbrev pub with_clear : (Translator → Key → Translator) → TranslatorRules
with_clear g = record { start = own.start; complete = own.complete; launch = own.launch; clear = g; reset = own.reset }

abbrev pub with_reset : (Translator → Lane → Translator) → TranslatorRules
with_reset g = record { start = own.start; complete = own.complete; launch = own.launch; clear = own.clear; reset = g }

abbrev pub with_event : (Hub → LineEvent → PortNumber → Outcome) → PortRules
with_event g = record { event = g; status = own_ports.status; set = own_ports.set; poll = own_ports.poll }

abbrev pub with_status : (Hub → PortNumber → Outcome) → PortRules
with_status g = record { event = own_ports.event; status = g; set = own_ports.set; poll = own_ports.poll }

abbrev pub with_set : (Hub → PortNumber → SettableFeature → Outcome) → PortRules
with_set g = record { event = own_ports.event; status = own_ports.status; set = g; poll = own_ports.poll }

abbrev pub with_poll : (Hub → Outcome) → PortRules
with_poll g = record { event = own_ports.event; status = own_ports.status; set = own_ports.set; poll = g }

-- ---- the hub over them

abbrev pub request_by : TranslatorRules → PortRules → Hub → Lane → Result Request Fault → Outcome
request_by r q h y (Err f) = by_request h y (Err f)
request_by r q h y (Ok (SetConfiguration on)) = by_request h y (Ok (SetConfiguration on))
request_by r q h y (Ok GetConfiguration) = by_request h y (Ok GetConfiguration)
request_by r q h y (Ok (GetHubDescriptor n)) = by_request h y (Ok (GetHubDescriptor n))
request_by r q h y (Ok GetHubStatus) = by_request h y (Ok GetHubStatus)
request_by r q h y (Ok (GetPortStatus n)) = q.status h n
request_by r q h y (Ok ClearHubFeature) = by_request h y (Ok ClearHubFeature)
request_by r q h y (Ok (ClearPortFeature n f)) = by_request h y (Ok (ClearPortFeature n f))
request_by r q h y (Ok (SetPortFeature n f)) = q.set h n f
request_by r q h y (Ok (ClearTTBuffer k)) = done (with_translator h (r.clear h.translator (keyed y k)))
request_by r q h y (Ok ResetTT) = done (with_translator h (r.reset h.translator y))

abbrev pub served_by : TranslatorRules → PortRules → Hub → Call → Outcome
served_by r q h (Control z s room) =
    let asked = request_of h.identity.ports s in
    cond (h.configured || served_always asked) (request_by r q h (lane_from z) asked) (refuse 2 h)
served_by r q h (Poll z room) = q.poll h
served_by r q h (Start z p t f g a e l) = started_as h (r.start h.translator (split_from z p t f g a e) l)
served_by r q h (Complete z a e d room) = completed_as h (r.complete h.translator (key_from z a e d))
served_by r q h (Launch room) = launched_as h (r.launch h.translator)
served_by r q h (Deliver x l) = served h (Deliver x l)
served_by r q h (Event e n) = q.event h (event_from e) (record { 0 = n })
served_by r q h Tick = served h Tick
served_by r q h BusReset = served h BusReset

abbrev pub OwnServed : Type 0
OwnServed = (h : Hub) (c : Call) → served_by own own_ports h c ≡ served h c

-- the checks in their order, then the rule f
abbrev pub checked : (Hub → Call → Outcome) → Hub → Call → Outcome
checked f h c =
    let n = first_refusal (within h c) (has_space c) (not_silent h c) (fitting h c) in
    cond (eqb n 0) (f h c) (refuse n h)

abbrev pub step_by : TranslatorRules → Hub → Call → Outcome
step_by r = checked (served_by r own_ports)

abbrev pub altered : TranslatorRules → Machine
altered r = ruled (step_by r)

abbrev pub altered_ports : PortRules → Machine
altered_ports q = ruled (checked (served_by own q))

-- ---- the rules with other answers

-- each answer is what f makes of it and of the hub before the call
abbrev pub answering : (Hub → Answer → Answer) → Machine
answering f = ruled (λ h c. let o = step h c in record { next = o.next; answer = f h o.answer })

-- the answer with these bytes
abbrev pub with_bytes : Answer → List ℕ → Answer
with_bytes a l =
    record {
      number = a.number;
      pid = a.pid;
      transfer = a.transfer;
      lane = a.lane;
      address = a.address;
      endpoint = a.endpoint;
      direction = a.direction;
      lowspeed = a.lowspeed;
      toggle = a.toggle;
      bytes = l;
    }

-- the numbers of an answer
pub data Field : Type 0 where
  number : Field
  pid : Field
  transfer : Field
  lane : Field
  address : Field
  endpoint : Field
  direction : Field
  lowspeed : Field
  toggle : Field

abbrev pub field_of : Field → Answer → ℕ
field_of number a = a.number
field_of pid a = a.pid
field_of transfer a = a.transfer
field_of lane a = a.lane
field_of address a = a.address
field_of endpoint a = a.endpoint
field_of direction a = a.direction
field_of lowspeed a = a.lowspeed
field_of toggle a = a.toggle

-- ---- a search by another test of keys

-- it holds a key that passes m
abbrev pub holds_key : (Key → Bool) → Slot → Bool
holds_key m Empty = false
holds_key m (Pending s p) = m (key.key_of s)
holds_key m (Ready s r) = m (key.key_of s)
holds_key m (Old s r) = m (key.key_of s)
