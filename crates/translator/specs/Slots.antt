-- Internal, pinned by the contracts over slots, which give the rules of buffers: slots alone. The search of a start-split, the order of
-- acceptance and the choice of a launch look at slots, never at payload bytes: each comes out the same of buffers that have the same slots
-- and no payload, and that is proved.
use Rattle.std.specs.Prelude.{List, map}
use Rattle.payload.specs.Payload.{no_payload}
use Rattle.buffer.specs.declared.Slot.{Slot}
use Rattle.buffer.specs.declared.Buffer.{Buffer}

-- the slots of the buffers
abbrev pub slots_in : List Buffer → List Slot
slots_in bs = map (λ (b : Buffer). b.slot) bs

-- buffers with these slots and no payload
unfoldable pub bare : List Slot → List Buffer
bare ss = map (λ (s : Slot). record { slot = s; payload = no_payload }) ss
