-- One buffer. A reader must believe: it is empty, pending, ready or old; all but empty hold a key.
use Rattle.std.specs.Prelude.{Bool, true, false}
use Rattle.payload.specs.Payload.{no_payload}
use Rattle.buffer.specs.declared.Lane.{Lane}
use Rattle.buffer.specs.declared.Key.{Key}
use Rattle.buffer.specs.declared.Slot.{Slot}
use Rattle.buffer.specs.declared.Slot.TheVariants.{Empty, Pending, Ready, Old}
use Rattle.buffer.specs.declared.Buffer.{Buffer}
use Rattle.buffer.specs.Same.{same_key}
use Rattle.buffer.specs.Key.{key_of, same_lane}

-- an empty buffer
abbrev pub vacant : Buffer
vacant = record { slot = Empty; payload = no_payload }

abbrev pub is_pending : Slot → Bool
is_pending Empty = false
is_pending (Pending s p) = true
is_pending (Ready s r) = false
is_pending (Old s r) = false

-- pending or ready
abbrev pub is_active : Slot → Bool
is_active Empty = false
is_active (Pending s p) = true
is_active (Ready s r) = true
is_active (Old s r) = false

-- empty or old
abbrev pub is_free : Slot → Bool
is_free Empty = true
is_free (Pending s p) = false
is_free (Ready s r) = false
is_free (Old s r) = true

-- it holds a key of the lane l
abbrev pub in_lane : Lane → Slot → Bool
in_lane l Empty = false
in_lane l (Pending s p) = same_lane s.lane l
in_lane l (Ready s r) = same_lane s.lane l
in_lane l (Old s r) = same_lane s.lane l

-- pending or ready, under a key of the lane l
abbrev pub active_in : Lane → Slot → Bool
active_in l Empty = false
active_in l (Pending s p) = same_lane s.lane l
active_in l (Ready s r) = same_lane s.lane l
active_in l (Old s r) = false

-- it holds the key k
abbrev pub holds : Key → Slot → Bool
holds k Empty = false
holds k (Pending s p) = same_key (key_of s) k
holds k (Ready s r) = same_key (key_of s) k
holds k (Old s r) = same_key (key_of s) k
