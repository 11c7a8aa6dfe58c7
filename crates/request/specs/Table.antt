-- Internal, pinned by `RequestClaims` (Claims.antt), which ties it to Fields.antt: the table of document 01, "Requests and layouts", read from
-- the fields to the request. One row here per row there, with its type, code and fields. Unlisted fields are zero, wIndex high byte included.
use Rattle.std.specs.Prelude.{ℕ, Bool, true, cond, ◌&&◌, eqb, leb, Option, Some, None}
use Rattle.request.specs.declared.Kind.{Kind}
use Rattle.request.specs.declared.Kind.TheVariants.{SetConfiguration, GetConfiguration, GetHubDescriptor, GetHubStatus, GetPortStatus, ClearHubFeature, ClearPortFeature, SetPortFeature, ClearTTBuffer, ResetTT}
use Rattle.request.specs.Values.{is_settable, is_clearable, is_pipe}

-- Type, code. Anything else is 2.
unfoldable pub kind_of : ℕ → ℕ → Option Kind
kind_of type code =
    cond (eqb type 0x00 && eqb code 0x09) (Some SetConfiguration)
    (cond (eqb type 0x80 && eqb code 0x08) (Some GetConfiguration)
    (cond (eqb type 0xA0 && eqb code 0x06) (Some GetHubDescriptor)
    (cond (eqb type 0xA0 && eqb code 0x00) (Some GetHubStatus)
    (cond (eqb type 0xA3 && eqb code 0x00) (Some GetPortStatus)
    (cond (eqb type 0x20 && eqb code 0x01) (Some ClearHubFeature)
    (cond (eqb type 0x23 && eqb code 0x01) (Some ClearPortFeature)
    (cond (eqb type 0x23 && eqb code 0x03) (Some SetPortFeature)
    (cond (eqb type 0x23 && eqb code 0x08) (Some ClearTTBuffer)
    (cond (eqb type 0x23 && eqb code 0x09) (Some ResetTT)
    None)))))))))

-- Fields: the value. 2900 is hexadecimal.
abbrev pub value_fits : Kind → ℕ → Bool
value_fits SetConfiguration v = leb v 1
value_fits GetConfiguration v = eqb v 0
value_fits GetHubDescriptor v = eqb v 0x2900
value_fits GetHubStatus v = eqb v 0
value_fits GetPortStatus v = eqb v 0
value_fits ClearHubFeature v = leb v 1
value_fits ClearPortFeature v = is_clearable v
value_fits SetPortFeature v = is_settable v
value_fits ClearTTBuffer v = is_pipe v
value_fits ResetTT v = eqb v 0

-- N ports .. numbered from 1. With N below 256 the high byte of a port's wIndex is zero.
abbrev pub is_port : ℕ → ℕ → Bool
is_port n i = leb 1 i && leb i n

-- Fields: the index, on a hub with n ports
abbrev pub index_fits : ℕ → Kind → ℕ → Bool
index_fits n SetConfiguration i = eqb i 0
index_fits n GetConfiguration i = eqb i 0
index_fits n GetHubDescriptor i = eqb i 0
index_fits n GetHubStatus i = eqb i 0
index_fits n GetPortStatus i = is_port n i
index_fits n ClearHubFeature i = eqb i 0
index_fits n ClearPortFeature i = is_port n i
index_fits n SetPortFeature i = is_port n i
index_fits n ClearTTBuffer i = eqb i 1
index_fits n ResetTT i = eqb i 1

-- Fields: the length
abbrev pub length_fits : Kind → ℕ → Bool
length_fits SetConfiguration l = eqb l 0
length_fits GetConfiguration l = eqb l 1
length_fits GetHubDescriptor l = true
length_fits GetHubStatus l = eqb l 4
length_fits GetPortStatus l = eqb l 4
length_fits ClearHubFeature l = eqb l 0
length_fits ClearPortFeature l = eqb l 0
length_fits SetPortFeature l = eqb l 0
length_fits ClearTTBuffer l = eqb l 0
length_fits ResetTT l = eqb l 0
