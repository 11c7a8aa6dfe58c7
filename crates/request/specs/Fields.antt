-- Document 01's table of requests, read from the request to its fields: one row for each request. A reader must believe: these are its rows.
use Rattle.std.specs.Prelude.{ℕ, ◌+◌, ◌*◌, ◌<◌, ◌≡◌, cond, ◌⊎◌}
use Rattle.port.specs.declared.ChangeBit.{ChangeBit}
use Rattle.port.specs.declared.ChangeBit.TheVariants as change
use Rattle.port.specs.declared.ClearableFeature.{ClearableFeature}
use Rattle.port.specs.declared.ClearableFeature.TheVariants as clearable
use Rattle.port.specs.declared.SettableFeature.{SettableFeature}
use Rattle.port.specs.declared.SettableFeature.TheVariants as settable
use Rattle.port.specs.Words.{Among}
use Rattle.buffer.specs.declared.Direction.{Direction}
use Rattle.buffer.specs.declared.Direction.TheVariants as direction
use Rattle.request.specs.declared.Pipe.{Pipe}
use Rattle.request.specs.declared.Setup.{Setup}
use Rattle.request.specs.declared.Request.{Request}
use Rattle.request.specs.declared.Request.TheVariants.{SetConfiguration, GetConfiguration, GetHubDescriptor, GetHubStatus, GetPortStatus, ClearHubFeature, ClearPortFeature, SetPortFeature, ClearTTBuffer, ResetTT}

-- Features carry the status bit's number: 2 suspend, 4 reset, 8 power
abbrev pub settable_number : SettableFeature → ℕ
settable_number settable.Suspend = 2
settable_number settable.Reset = 4
settable_number settable.Power = 8

-- change features are 16 to 20
abbrev pub change_number : ChangeBit → ℕ
change_number change.Connection = 16
change_number change.Enable = 17
change_number change.Suspend = 18
change_number change.OverCurrent = 19
change_number change.Reset = 20

-- Features carry the status bit's number: 1 enable, 2 suspend, 8 power
abbrev pub clearable_number : ClearableFeature → ℕ
clearable_number clearable.Enable = 1
clearable_number clearable.Suspend = 2
clearable_number clearable.Power = 8
clearable_number (clearable.Change b) = change_number b

-- direction .. (1 for IN)
abbrev pub direction_bit : Direction → ℕ
direction_bit direction.Out = 0
direction_bit direction.In = 1

-- endpoint bits 0 to 3, address 4 to 10, type 11 to 12, direction 15, rest zero
abbrev pub pipe_value : ℕ → Pipe → ℕ
pipe_value t k = k.endpoint + 16 * k.address.0 + 2048 * t + 32768 * direction_bit k.direction

-- device address 0 to 127; endpoint 0 to 15
abbrev pub PipeInRange : Pipe → Type 0
PipeInRange k = (k.address.0 < 128) × (k.endpoint < 16)

-- type, request, wValue, wIndex, wLength
abbrev pub fields : ℕ → ℕ → ℕ → ℕ → ℕ → Setup
fields t c v i l = record { requesttype = t; code = c; value = v; index = i; length = l }

-- these fields ask for this request, on a hub with n ports
abbrev pub AsksFor : ℕ → Setup → Request → Type 0
AsksFor n s (SetConfiguration one) = s ≡ fields 0x00 0x09 (cond one 1 0) 0 0
AsksFor n s GetConfiguration = s ≡ fields 0x80 0x08 0 0 1
AsksFor n s (GetHubDescriptor l) = s ≡ fields 0xA0 0x06 0x2900 0 l
AsksFor n s GetHubStatus = s ≡ fields 0xA0 0x00 0 0 4
AsksFor n s (GetPortStatus p) = Among n p × (s ≡ fields 0xA3 0x00 0 p.0 4)
AsksFor n s ClearHubFeature = (s ≡ fields 0x20 0x01 0 0 0) ⊎ (s ≡ fields 0x20 0x01 1 0 0)
AsksFor n s (ClearPortFeature p f) = Among n p × (s ≡ fields 0x23 0x01 (clearable_number f) p.0 0)
AsksFor n s (SetPortFeature p f) = Among n p × (s ≡ fields 0x23 0x03 (settable_number f) p.0 0)
AsksFor n s (ClearTTBuffer k) = PipeInRange k × ((s ≡ fields 0x23 0x08 (pipe_value 0 k) 1 0) ⊎ (s ≡ fields 0x23 0x08 (pipe_value 2 k) 1 0))
AsksFor n s ResetTT = s ≡ fields 0x23 0x09 0 1 0
