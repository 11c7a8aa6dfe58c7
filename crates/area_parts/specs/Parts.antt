-- Internal, pinned by `PartsExact` (Claims.antt), which says what they come to on the written form of a valid hub: parts of an area, one at a
-- time, for any bytes.
use Rattle.std.specs.Prelude.{ℕ, ◌+◌, ◌*◌, List, [], ◌∷◌, false, cond, length, get_or, eqb, leb}
use Rattle.payload.specs.Payload.{payload_of}
use Rattle.buffer.specs.declared.Slot.{Slot}
use Rattle.buffer.specs.declared.Slot.TheVariants.{Empty, Pending, Ready, Old}
use Rattle.buffer.specs.declared.StartSplit.{StartSplit}
use Rattle.buffer.specs.declared.Buffer.{Buffer}
use Rattle.buffer.specs.declared.BufferNumber.{BufferNumber}
use Rattle.translator.specs.declared.LowSide.{LowSide}
use Rattle.translator.specs.declared.LowSide.TheVariants.{Idle}
use Rattle.translator.specs.Order.{waiting, before}
use Rattle.translator.specs.Slots.{bare}
use Rattle.area.specs.Written.{low_byte, running_byte, placed, buffer_put}
use Rattle.area.specs.Read.{buffer_from}
use Rattle.area_check.specs.Read.{low_of}
use Rattle.area_parts.specs.declared.Head.{Head}

-- ---- got

-- what the first 8 bytes say; of fewer, nothing
unfoldable pub head_at : List ℕ → Head
head_at a =
    cond (leb 8 (length a))
    (record {
      ports = record { 0 = get_or a 0 0 };
      count = record { 0 = get_or a 1 0 };
      configured = eqb (get_or a 5 0) 1;
      low = low_of (get_or a 6 0) (get_or a 7 0);
    })
    (record { ports = record { 0 = 0 }; count = record { 0 = 0 }; configured = false; low = Idle })

-- where the bytes of buffer i begin, of a hub of n ports
abbrev pub buffer_start : ℕ → BufferNumber → ℕ
buffer_start n i = 8 + n * 4 + i.0 * 72

-- buffer i of a hub of n ports; an empty one where the area doesn't have its bytes
unfoldable pub buffer_at : ℕ → BufferNumber → List ℕ → Buffer
buffer_at n i a = buffer_from (buffer_start n i) a

abbrev pub slot_at : ℕ → ℕ → List ℕ → Slot
slot_at n i a = (buffer_at n (record { 0 = i }) a).slot

unfoldable pub slots_at : ℕ → List ℕ → List Slot
slots_at n a = slot_at n 0 a ∷ slot_at n 1 a ∷ slot_at n 2 a ∷ slot_at n 3 a ∷ []

-- ---- put

-- the area with this low side, if it has its bytes
unfoldable pub low_over : LowSide → List ℕ → List ℕ
low_over low a = cond (leb 8 (length a)) (placed 6 2 (low_byte low ∷ running_byte low ∷ []) a) a

-- the area of a hub of n ports with this buffer, if it has its bytes
unfoldable pub buffer_over : ℕ → BufferNumber → Buffer → List ℕ → List ℕ
buffer_over n i b a = buffer_put (buffer_start n i) b a

-- the pending buffer i with its rank among the slots as its place; any other stays
unfoldable pub rank_over : List Slot → ℕ → BufferNumber → Slot → List ℕ → List ℕ
rank_over ss n i Empty a = a
rank_over ss n i (Pending s p) a = buffer_over n i (record { slot = Pending s (before p (bare ss)); payload = (buffer_at n i a).payload }) a
rank_over ss n i (Ready s r) a = a
rank_over ss n i (Old s r) a = a

-- slot i ranked, of the four slots
abbrev pub slot_ranked : List Slot → ℕ → ℕ → List ℕ → List ℕ
slot_ranked ss n i a = rank_over ss n (record { 0 = i }) (get_or ss i Empty) a

-- all four ranked, one after the other
unfoldable pub ranks_over : List Slot → ℕ → List ℕ → List ℕ
ranks_over ss n a = slot_ranked ss n 3 (slot_ranked ss n 2 (slot_ranked ss n 1 (slot_ranked ss n 0 a)))

-- the start-split s with the payload l in buffer i, last in the order of acceptance
unfoldable pub store_over : List Slot → ℕ → BufferNumber → StartSplit → List ℕ → List ℕ → List ℕ
store_over ss n i s l a = buffer_over n i (record { slot = Pending s (waiting (bare ss)); payload = payload_of l }) (ranks_over ss n a)
