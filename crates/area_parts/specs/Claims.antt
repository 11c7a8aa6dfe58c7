-- Internal, pinned by the contracts of the entries (crate `grimholdi`), which have no proof without it: on the written form of a valid hub,
-- reading a part gives that part of the hub, and writing one gives the written form of the hub with that part anew.
use Rattle.std.specs.Prelude.{ℕ, ◌≡◌, List}
use Rattle.buffer.specs.declared.StartSplit.{StartSplit}
use Rattle.buffer.specs.declared.Buffer.{Buffer}
use Rattle.buffer.specs.declared.BufferNumber.{BufferNumber}
use Rattle.translator.specs.declared.LowSide.{LowSide}
use Rattle.translator.specs.Translator.{at, with_buffer, with_low}
use Rattle.translator.specs.Slots.{slots_in}
use Rattle.translator.specs.StartSplit.{stored}
use Rattle.hub.specs.declared.Hub.{Hub}
use Rattle.hub.specs.Hub.{with_translator}
use Rattle.hub.specs.Valid.{ValidHub}
use Rattle.area.specs.Written.{written}
use Rattle.area_parts.specs.Parts.{head_at, buffer_at, slots_at, low_over, buffer_over, store_over}

pub record PartsExact : Type 0 where
  pub head_got : (h : Hub) → ValidHub h
      → head_at (written h) ≡ record {
        ports = record { 0 = h.identity.ports };
        count = record { 0 = h.translator.count };
        configured = h.configured;
        low = h.translator.low;
      }
  pub buffer_got : (h : Hub) (n : BufferNumber) → ValidHub h → buffer_at h.identity.ports n (written h) ≡ at h.translator.buffers n.0
  pub slots_got : (h : Hub) → ValidHub h → slots_at h.identity.ports (written h) ≡ slots_in h.translator.buffers
  pub low_put : (h : Hub) (low : LowSide) → ValidHub h → low_over low (written h) ≡ written (with_translator h (with_low h.translator low))
  pub buffer_put_lem : (h : Hub) (n : BufferNumber) (b : Buffer) → ValidHub h
      → buffer_over h.identity.ports n b (written h) ≡ written (with_translator h (with_buffer h.translator n b))
  -- storing a start-split with the hub's own slots is `stored` (crates/translator/specs/StartSplit.antt)
  pub store_put : (h : Hub) (n : BufferNumber) (s : StartSplit) (l : List ℕ) → ValidHub h
      → store_over (slots_in h.translator.buffers) h.identity.ports n s l (written h) ≡ written (with_translator h (stored h.translator n s l))
