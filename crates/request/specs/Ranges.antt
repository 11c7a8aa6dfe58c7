-- Internal, pinned by `RequestClaims` (Claims.antt), whose `exact` says it too: the ranges of the numbers in a request.
use Rattle.std.specs.Prelude.{ℕ}
use Rattle.port.specs.Words.{Among}
use Rattle.request.specs.declared.Request.{Request}
use Rattle.request.specs.declared.Request.TheVariants.{SetConfiguration, GetConfiguration, GetHubDescriptor, GetHubStatus, GetPortStatus, ClearHubFeature, ClearPortFeature, SetPortFeature, ClearTTBuffer, ResetTT}
use Rattle.request.specs.Fields.{PipeInRange}

-- the numbers in a request are within document 01's ranges
abbrev pub InRange : ℕ → Request → Type 0
InRange n (SetConfiguration one) = Unit {0}
InRange n GetConfiguration = Unit {0}
InRange n (GetHubDescriptor l) = Unit {0}
InRange n GetHubStatus = Unit {0}
InRange n (GetPortStatus p) = Among n p
InRange n ClearHubFeature = Unit {0}
InRange n (ClearPortFeature p f) = Among n p
InRange n (SetPortFeature p f) = Among n p
InRange n (ClearTTBuffer k) = PipeInRange k
InRange n ResetTT = Unit {0}
