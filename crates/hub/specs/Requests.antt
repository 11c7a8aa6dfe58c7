-- The control requests. A reader must believe: what each row of document 01's table of requests answers and leaves.
use Rattle.std.specs.Prelude.{ℕ, Bool, true, false, cond, ◌||◌, List, [], ◌∷◌, take, Result, Ok, Err}
use Rattle.port.specs.declared.PortNumber.{PortNumber}
use Rattle.port.specs.declared.SettableFeature.{SettableFeature}
use Rattle.port.specs.declared.ClearableFeature.{ClearableFeature}
use Rattle.bools.specs.Bit.{bit}
use Rattle.port.specs.Status.{status_bytes}
use Rattle.port.specs.Features.{feature_set, feature_cleared}
use Rattle.ports.specs.Ports.{port_at}
use Rattle.buffer.specs.declared.Lane.{Lane}
use Rattle.buffer.specs.declared.Key.{Key}
use Rattle.buffer.specs.Key.{key_with}
use Rattle.translator.specs.Clear.{clear_buffer}
use Rattle.translator.specs.ResetLane.{reset_lane}
use Rattle.request.specs.declared.Pipe.{Pipe}
use Rattle.request.specs.declared.Fault.{Fault}
use Rattle.request.specs.declared.Request.{Request}
use Rattle.request.specs.declared.Request.TheVariants.{SetConfiguration, GetConfiguration, GetHubDescriptor, GetHubStatus, GetPortStatus, ClearHubFeature, ClearPortFeature, SetPortFeature, ClearTTBuffer, ResetTT}
use Rattle.hub.specs.declared.Identity.{Identity}
use Rattle.hub.specs.declared.Hub.{Hub}
use Rattle.hub.specs.Hub.{with_port_at, with_translator, configured_as}
use Rattle.hub.specs.Call.{Outcome, done, stall, gives}

-- Descriptor, 9 bytes: 09, 29, N, 09, 00, power-good, current, removable, FF.
abbrev pub descriptor : Identity → List ℕ
descriptor i = 0x09 ∷ 0x29 ∷ i.ports ∷ 0x09 ∷ 0x00 ∷ i.powergood ∷ i.current ∷ i.removable ∷ 0xFF ∷ []

abbrev pub set_feature : Hub → PortNumber → SettableFeature → Hub
set_feature h n f = with_port_at h n (feature_set (port_at h.ports n) f)

abbrev pub clear_feature : Hub → PortNumber → ClearableFeature → Hub
clear_feature h n f = with_port_at h n (feature_cleared (port_at h.ports n) f)

-- a key of the lane that asks
abbrev pub keyed : Lane → Pipe → Key
keyed z p = key_with z p.address p.endpoint p.direction

-- what the setup bytes from the lane z ask for; an error where they are no request
abbrev pub by_request : Hub → Lane → Result Request Fault → Outcome
by_request h z (Err f) = stall h
by_request h z (Ok (SetConfiguration on)) = done (configured_as on h)
by_request h z (Ok GetConfiguration) = gives h (bit h.configured ∷ [])
-- cut to wLength
by_request h z (Ok (GetHubDescriptor n)) = gives h (take n (descriptor h.identity))
-- length 4; four zeros
by_request h z (Ok GetHubStatus) = gives h (0 ∷ 0 ∷ 0 ∷ 0 ∷ [])
by_request h z (Ok (GetPortStatus n)) = gives h (status_bytes (port_at h.ports n))
-- 0 or 1; no effect
by_request h z (Ok ClearHubFeature) = done h
by_request h z (Ok (ClearPortFeature n f)) = done (clear_feature h n f)
by_request h z (Ok (SetPortFeature n f)) = done (set_feature h n f)
by_request h z (Ok (ClearTTBuffer k)) = done (with_translator h (clear_buffer h.translator (keyed z k)))
-- empties that lane's buffers and abandons its running transaction as a clear does
by_request h z (Ok ResetTT) = done (with_translator h (reset_lane h.translator z))

-- the first three
abbrev pub served_always : Result Request Fault → Bool
served_always (Err f) = false
served_always (Ok (SetConfiguration on)) = true
served_always (Ok GetConfiguration) = true
served_always (Ok (GetHubDescriptor n)) = true
served_always (Ok GetHubStatus) = false
served_always (Ok (GetPortStatus n)) = false
served_always (Ok ClearHubFeature) = false
served_always (Ok (ClearPortFeature n f)) = false
served_always (Ok (SetPortFeature n f)) = false
served_always (Ok (ClearTTBuffer k)) = false
served_always (Ok ResetTT) = false

-- Anything else is 2. Unconfigured, only the first three are served; others are 2.
unfoldable pub requested : Hub → Lane → Result Request Fault → Outcome
requested h z r = cond (h.configured || served_always r) (by_request h z r) (stall h)
