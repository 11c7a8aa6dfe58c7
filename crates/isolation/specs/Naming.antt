-- Which calls name a port (C-21). A reader must believe: a line event names the port that it is at, and a port request, well formed, from
-- whatever lane, the one in its wIndex; a bad port number names no port, and no other call names any.
use Rattle.std.specs.Prelude.{ℕ, Bool, false, cond, ◌&&◌, List, [], ◌∷◌, eqb, length, Result, Ok, Err}
use Rattle.port.specs.declared.PortNumber.{PortNumber}
use Rattle.numbers.specs.Named.{port_named}
use Rattle.request.specs.declared.Fault.{Fault}
use Rattle.request.specs.declared.Request.{Request}
use Rattle.request.specs.declared.Request.TheVariants.{SetConfiguration, GetConfiguration, GetHubDescriptor, GetHubStatus, GetPortStatus, ClearHubFeature, ClearPortFeature, SetPortFeature, ClearTTBuffer, ResetTT}
use Rattle.request.specs.Request.{request_of}
use Rattle.hub.specs.Call.{Call, Control, Poll, Start, Complete, Launch, Deliver, Event, Tick, BusReset}

-- the port requests are GetPortStatus, ClearPortFeature and SetPortFeature
abbrev pub request_naming : PortNumber → Result Request Fault → Bool
request_naming p (Err f) = false
request_naming p (Ok (SetConfiguration on)) = false
request_naming p (Ok GetConfiguration) = false
request_naming p (Ok (GetHubDescriptor l)) = false
request_naming p (Ok GetHubStatus) = false
request_naming p (Ok (GetPortStatus m)) = eqb m.0 p.0
request_naming p (Ok ClearHubFeature) = false
request_naming p (Ok (ClearPortFeature m f)) = eqb m.0 p.0
request_naming p (Ok (SetPortFeature m f)) = eqb m.0 p.0
request_naming p (Ok (ClearTTBuffer k)) = false
request_naming p (Ok ResetTT) = false

-- whether a call to a hub with n ports names port p
unfoldable pub naming : ℕ → PortNumber → Call → Bool
naming n p (Control z s room) = eqb (length s) 8 && request_naming p (request_of n s)
naming n p (Poll z room) = false
naming n p (Start z q t f g a e l) = false
naming n p (Complete z a e d room) = false
naming n p (Launch room) = false
naming n p (Deliver r l) = false
naming n p (Event e m) = port_named n m && eqb m p.0
naming n p Tick = false
naming n p BusReset = false

-- the calls of a history with each call naming port p struck out
unfoldable pub struck : ℕ → PortNumber → List Call → List Call
struck n p [] = []
struck n p (c ∷ cs) = cond (naming n p c) (struck n p cs) (c ∷ struck n p cs)
