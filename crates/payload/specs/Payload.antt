-- A payload of 0 to 64 bytes in an array of 64. A reader must believe: a payload is made in a new array, so nothing that an
-- array held before is behind it, and what is handed to a reply space changes no byte past it.
use Rattle.std.specs.Prelude.{ℕ, ◌-◌, List, ◌++◌, length, take, drop, replicate}
use Rattle.payload.specs.declared.Payload.{Payload}

-- bytes in an array of 64, zeros behind them
unfoldable pub padded : List ℕ → List ℕ
padded l = l ++ replicate (64 - length l) 0

-- the bytes that a payload stands for
abbrev pub content : Payload → List ℕ
content p = take p.len p.bytes

abbrev pub no_payload : Payload
no_payload = record { len = 0; bytes = replicate 64 0 }

-- the payload of these bytes, of more than 64 the first 64
unfoldable pub payload_of : List ℕ → Payload
payload_of l = record { len = length (take 64 l); bytes = padded (take 64 l) }

-- d at the start of the reply space r, as far as it fits; the rest of r is kept
unfoldable pub written : List ℕ → List ℕ → List ℕ
written d r = take (length r) d ++ drop (length d) r
