-- The chart is that of every port of the hub (C-20): a call that brings an input to a port is answered, and leaves that port, as the chart says; and no
-- other call moves a port. A reader must believe: which calls bring which input.
use Rattle.std.specs.Prelude.{ℕ, ◌≤◌, ◌<◌, ◌≡◌, true, false, List, length}
use Rattle.port.specs.declared.Port.{Port}
use Rattle.port.specs.declared.PortNumber.{PortNumber}
use Rattle.port.specs.declared.Input.{Input}
use Rattle.port.specs.declared.Input.TheVariants as input
use Rattle.port.specs.Reaction.{Answered}
use Rattle.port.specs.Words.{Among}
use Rattle.ports.specs.Ports.{port_at}
use Rattle.request.specs.declared.Request.{Request}
use Rattle.request.specs.declared.Request.TheVariants.{SetConfiguration, ClearPortFeature, SetPortFeature}
use Rattle.request.specs.Setup.{setup_of}
use Rattle.request.specs.Fields.{AsksFor}
use Rattle.numbers.specs.Written.{event_number}
use Rattle.hub.specs.declared.Hub.{Hub}
use Rattle.hub.specs.Call.{Call, Control, Poll, Start, Complete, Launch, Deliver, Event, Tick, BusReset, Outcome}
use Rattle.hub.specs.Step.{step}
use Rattle.hub.specs.Valid.{ValidHub}

-- a control request that asks for r: eight setup bytes, from lane 0 or 1, with space for a reply, on a hub with n ports
pub record Asked (n : ℕ) (r : Request) (c : Call) : Type 0 where
  pub lane : ℕ
  pub setup : List ℕ
  pub room : ℕ
  pub is : c ≡ Control lane setup room
  pub two_lanes : lane ≤ 1
  pub eight : length setup ≡ 8
  pub space : 64 ≤ room
  pub asks : AsksFor n (setup_of setup) r

-- this call brings this input to port m of a hub with n ports
abbrev pub Brings : ℕ → PortNumber → Input → Call → Type 0
Brings n m (input.Event e) c = c ≡ Event (event_number e) m.0
Brings n m input.Tick c = c ≡ Tick
Brings n m (input.SetFeature f) c = Asked n (SetPortFeature m f) c
Brings n m (input.ClearFeature f) c = Asked n (ClearPortFeature m f) c
Brings n m input.Configure c = Asked n (SetConfiguration true) c
Brings n m input.Unconfigure c = Asked n (SetConfiguration false) c
Brings n m input.BusReset c = c ≡ BusReset

-- of an engine: it says what every valid hub answers and makes of each of its ports
unfoldable pub HubFollows : (Port → Input → Answered) → Type 0
HubFollows engine =
    (h : Hub) → ValidHub h → (m : PortNumber) → Among h.identity.ports m → (i : Input) (c : Call) → Brings h.identity.ports m i c
    → ((step h c).answer.number ≡ (engine (port_at h.ports m) i).number) × (port_at (step h c).next.ports m ≡ (engine (port_at h.ports m) i).port)

-- a wValue of two bytes
abbrev pub TwoByteValue : Call → Type 0
TwoByteValue (Control z s room) = (setup_of s).value < 65536
TwoByteValue (Poll z room) = Unit {0}
TwoByteValue (Start z p t f g a e l) = Unit {0}
TwoByteValue (Complete z a e d room) = Unit {0}
TwoByteValue (Launch room) = Unit {0}
TwoByteValue (Deliver r l) = Unit {0}
TwoByteValue (Event e n) = Unit {0}
TwoByteValue Tick = Unit {0}
TwoByteValue BusReset = Unit {0}

-- of what calls do, to any hub: one after which a port isn't what it was has brought it an input
unfoldable pub OnlyInputsMove : (Hub → Call → Outcome) → Type 0
OnlyInputsMove made =
    (h : Hub) (m : PortNumber) (c : Call) → TwoByteValue c → ¬ (port_at (made h c).next.ports m ≡ port_at h.ports m)
    → (i : Input) × Brings h.identity.ports m i c
