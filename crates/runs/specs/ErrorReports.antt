-- C_PORT_ENABLE over runs (C-12), from calls and answers alone: the host sees it exactly where a port error stands reported.
-- A reader must believe: a port error answered 0 reports at its port; ClearPortFeature C_PORT_ENABLE of that port, answered 0, and a bus
-- reset take the report back; and GetPortStatus shows it as bit 17 of its four bytes, which is bit 1 of the third.
use Rattle.std.specs.Prelude.{ℕ, ◌≡◌, List, [], ◌∷◌, Bool, false, cond, not, ◌&&◌, ◌||◌, eqb, get_or, Option, Some, None}
use Rattle.port.specs.declared.ChangeBit.TheVariants.{Enable}
use Rattle.port.specs.declared.LineEvent.TheVariants.{PortError}
use Rattle.port.specs.Words.{bits_of}
use Rattle.numbers.specs.Written.{event_number}
use Rattle.request.specs.declared.Kind.{Kind}
use Rattle.request.specs.declared.Kind.TheVariants as kind
use Rattle.request.specs.Setup.{setup_of}
use Rattle.request.specs.Table.{kind_of}
use Rattle.request.specs.Fields.{change_number}
use Rattle.hub.specs.Call.{Call, Control, Poll, Start, Complete, Launch, Deliver, Event as LineEvent, Tick, BusReset, Answer}
use Rattle.runs.specs.History.{Event, History, is_done}
use Rattle.runs.specs.Machine.{Machine, run}

-- what a call asks of the C_PORT_ENABLE of a port, from its numbers and bytes alone
pub data PortAsks : Type 0 where
  nothing : PortAsks
  -- a port error at this port
  errs : ℕ → PortAsks
  -- ClearPortFeature C_PORT_ENABLE of this port
  clears : ℕ → PortAsks
  -- a bus reset
  clears_all : PortAsks
  -- GetPortStatus of this port
  reads : ℕ → PortAsks

-- a request's kind, its wValue and its wIndex
abbrev pub request_asks : Option Kind → ℕ → ℕ → PortAsks
request_asks None v i = nothing
request_asks (Some kind.SetConfiguration) v i = nothing
request_asks (Some kind.GetConfiguration) v i = nothing
request_asks (Some kind.GetHubDescriptor) v i = nothing
request_asks (Some kind.GetHubStatus) v i = nothing
request_asks (Some kind.GetPortStatus) v i = reads i
request_asks (Some kind.ClearHubFeature) v i = nothing
request_asks (Some kind.ClearPortFeature) v i = cond (eqb v (change_number Enable)) (clears i) nothing
request_asks (Some kind.SetPortFeature) v i = nothing
request_asks (Some kind.ClearTTBuffer) v i = nothing
request_asks (Some kind.ResetTT) v i = nothing

unfoldable pub port_asks : Call → PortAsks
port_asks (Control z s room) = request_asks (kind_of (setup_of s).requesttype (setup_of s).code) (setup_of s).value (setup_of s).index
port_asks (Poll z room) = nothing
port_asks (Start z p t f g a e l) = nothing
port_asks (Complete z a e d room) = nothing
port_asks (Launch room) = nothing
port_asks (Deliver r l) = nothing
port_asks (LineEvent e n) = cond (eqb e (event_number PortError)) (errs n) nothing
port_asks Tick = nothing
port_asks BusReset = clears_all

-- whether a port error stands reported at port m after a call, where r says whether one did before
unfoldable pub reported_after : PortAsks → Answer → ℕ → Bool → Bool
reported_after nothing a m r = r
reported_after (errs n) a m r = (is_done a && eqb n m) || r
reported_after (clears n) a m r = not (is_done a && eqb n m) && r
reported_after clears_all a m r = not (is_done a) && r
reported_after (reads n) a m r = r

-- Change bits stay until cleared by request or bus reset; a new hub has none.
unfoldable pub is_reported : History → ℕ → Bool
is_reported [] m = false
is_reported (e ∷ h) m = reported_after (port_asks e.call) e.answer m (is_reported h m)

-- C_PORT_ENABLE in the bytes of GetPortStatus
abbrev pub enable_shown : List ℕ → Bool
enable_shown l = get_or (bits_of 8 (get_or l 2 0)) 1 false

-- GetPortStatus answered 1 shows it exactly if a port error stands reported
abbrev pub Shows : PortAsks → Answer → History → Type 0
Shows nothing a h = Unit {0}
Shows (errs n) a h = Unit {0}
Shows (clears n) a h = Unit {0}
Shows clears_all a h = Unit {0}
Shows (reads n) a h = a.number ≡ 1 → enable_shown a.bytes ≡ is_reported h n

-- each of the events es, which came after h
unfoldable pub AllShow : History → List Event → Type 0
AllShow h [] = Unit {0}
AllShow h (e ∷ es) = Shows (port_asks e.call) e.answer h × AllShow (e ∷ h) es

abbrev pub ErrorReports : Machine → Type 0
ErrorReports w = (n : w.Made) (cs : List w.Asked) → AllShow [] (run w n cs)
