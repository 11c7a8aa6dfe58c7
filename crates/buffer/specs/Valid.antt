-- Which buffers a valid translator holds. A reader must believe: a held start-split and result keep the rules whose breach is answer 6
-- to a start-split or a delivery (addresses, endpoints, SETUP is control, the payload's length by PID or by result), and the bytes behind
-- a payload are zero. Whether the result suits the PID is not asked: that is no number range, and answer 8.
use Rattle.std.specs.Prelude.{ℕ, ◌≡◌, Bool, true, ◌&&◌, eqb}
use Rattle.payload.specs.Payload.{padded, content}
use Rattle.buffer.specs.declared.Slot.{Slot}
use Rattle.buffer.specs.declared.Slot.TheVariants.{Empty, Pending, Ready, Old}
use Rattle.buffer.specs.declared.Buffer.{Buffer}
use Rattle.buffer.specs.Lengths.{numbers_fit, start_fits, result_length}

-- the numbers of a slot whose buffer has n bytes of payload
abbrev pub slot_fits : Slot → ℕ → Bool
slot_fits Empty n = eqb n 0
slot_fits (Pending s p) n = start_fits s n
slot_fits (Ready s r) n = numbers_fit s && result_length r n
slot_fits (Old s r) n = numbers_fit s && result_length r n

pub record Whole (b : Buffer) : Type 0 where
  pub fits : slot_fits b.slot b.payload.len ≡ true
  pub zeros : b.payload.bytes ≡ padded (content b.payload)
