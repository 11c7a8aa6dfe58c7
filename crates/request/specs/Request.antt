-- Internal, pinned by `RequestClaims` (Claims.antt): from the setup bytes to the request. A request is served only if type and code, value, index
-- and length are right, looked at in this order, and then it is what `meaning` says.
use Rattle.std.specs.Prelude.{ℕ, cond, List, eqb, Option, Some, None, Result, Ok, Err}
use Rattle.port.specs.declared.PortNumber.{PortNumber}
use Rattle.request.specs.declared.Fault.{Fault}
use Rattle.request.specs.declared.Fault.TheVariants.{TypeOrCode, Value, Index, Length}
use Rattle.request.specs.declared.Kind.{Kind}
use Rattle.request.specs.declared.Kind.TheVariants as kind
use Rattle.request.specs.declared.Request.{Request}
use Rattle.request.specs.declared.Request.TheVariants.{SetConfiguration, GetConfiguration, GetHubDescriptor, GetHubStatus, GetPortStatus, ClearHubFeature, ClearPortFeature, SetPortFeature, ClearTTBuffer, ResetTT}
use Rattle.request.specs.Setup.{setup_of}
use Rattle.request.specs.Values.{settable_of, clearable_of, pipe_in}
use Rattle.request.specs.Table.{kind_of, value_fits, index_fits, length_fits}

-- index port
abbrev pub port_in : ℕ → PortNumber
port_in i = record { 0 = i }

-- what value v, index i and length l of this kind ask for
abbrev pub meaning : Kind → ℕ → ℕ → ℕ → Request
meaning kind.SetConfiguration v i l = SetConfiguration (eqb v 1)
meaning kind.GetConfiguration v i l = GetConfiguration
meaning kind.GetHubDescriptor v i l = GetHubDescriptor l
meaning kind.GetHubStatus v i l = GetHubStatus
meaning kind.GetPortStatus v i l = GetPortStatus (port_in i)
meaning kind.ClearHubFeature v i l = ClearHubFeature
meaning kind.ClearPortFeature v i l = ClearPortFeature (port_in i) (clearable_of v)
meaning kind.SetPortFeature v i l = SetPortFeature (port_in i) (settable_of v)
meaning kind.ClearTTBuffer v i l = ClearTTBuffer (pipe_in v)
meaning kind.ResetTT v i l = ResetTT

-- Wrong fields inside them, a port number included, are 2.
unfoldable pub checked : ℕ → Option Kind → ℕ → ℕ → ℕ → Result Request Fault
checked n None v i l = Err TypeOrCode
checked n (Some k) v i l =
    cond (value_fits k v)
    (cond (index_fits n k i)
    (cond (length_fits k l)
    (Ok (meaning k v i l))
    (Err Length))
    (Err Index))
    (Err Value)

-- the request of these setup bytes, on a hub with n ports, or the first that is wrong
unfoldable pub request_of : ℕ → List ℕ → Result Request Fault
request_of n b =
    let s = setup_of b in
    checked n (kind_of s.requesttype s.code) s.value s.index s.length
