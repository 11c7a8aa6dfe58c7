-- The written form of a hub, byte by byte. A reader must believe this layout: 8 bytes for the hub, then 4 bytes for each of its N ports,
-- then 72 bytes for each of its B buffers. What a state doesn't have is written as 0.
use Rattle.std.specs.Prelude.{ℕ, ◌+◌, ◌*◌, min, List, [], ◌∷◌, ◌++◌, Bool, cond, ◌&&◌, length, take, drop, eqb, leb}
use Rattle.port.specs.declared.Port.{Port}
use Rattle.bools.specs.Bit.{bit}
use Rattle.port.specs.Status.{byte_of}
use Rattle.port.specs.Numbers.{state_number, state_speed, ticks_so_far}
use Rattle.buffer.specs.declared.Lane.TheVariants.{One}
use Rattle.buffer.specs.declared.StartSplit.{StartSplit}
use Rattle.buffer.specs.declared.Slot.{Slot}
use Rattle.buffer.specs.declared.Slot.TheVariants.{Empty, Pending, Ready, Old}
use Rattle.buffer.specs.declared.Buffer.{Buffer}
use Rattle.buffer.specs.Key.{same_lane}
use Rattle.translator.specs.declared.LowSide.{LowSide}
use Rattle.translator.specs.declared.LowSide.TheVariants.{Idle, Running, Abandoned}
use Rattle.translator.specs.Answers.{pid_number}
use Rattle.numbers.specs.Written.{type_number, result_written}
use Rattle.hub.specs.declared.Identity.{Identity}
use Rattle.hub.specs.declared.Hub.{Hub}
use Rattle.payload.specs.Bytes.{flat}

-- ---- a port, 4 bytes

-- bit 0 C_PORT_CONNECTION, 1 C_PORT_ENABLE, 2 C_PORT_SUSPEND, 3 C_PORT_OVER_CURRENT, 4 C_PORT_RESET, 5 the over-current level
abbrev pub marks_byte : Port → ℕ
marks_byte p =
    byte_of
    (p.changes.connection ∷ p.changes.enable ∷ p.changes.suspend ∷ p.changes.overcurrent ∷ p.changes.reset ∷ p.overcurrent ∷ [])

-- byte 0 state, 1 speed, 2 ticks, 3 marks
unfoldable pub port_bytes : Port → List ℕ
port_bytes p = state_number p.state ∷ state_speed p.state ∷ ticks_so_far p.state ∷ marks_byte p ∷ []

-- ---- a buffer, 72 bytes

-- byte 0 status, 1 PID (OUT 1, IN 9, SETUP 13), 2 transfer type (0 control, 2 bulk), 3 flags (bit 0 low speed, bit 1 toggle, bit 2 lane),
-- 4 device address, 5 endpoint, 6 the last, 7 length of the payload
abbrev pub held_bytes : ℕ → StartSplit → ℕ → ℕ → List ℕ
held_bytes status s last n =
    status ∷ pid_number s.pid ∷ type_number s.transfer ∷ byte_of (s.lowspeed ∷ s.toggle ∷ same_lane s.lane One ∷ []) ∷ s.address.0 ∷ s.endpoint ∷ last ∷ n ∷ []

-- status 0 empty, 1 pending, 2 ready, 3 old. The last is the place of a pending buffer, and the result of a ready or old one.
abbrev pub slot_bytes : Slot → ℕ → List ℕ
slot_bytes Empty n = 0 ∷ 0 ∷ 0 ∷ 0 ∷ 0 ∷ 0 ∷ 0 ∷ n ∷ []
slot_bytes (Pending s place) n = held_bytes 1 s place n
slot_bytes (Ready s r) n = held_bytes 2 s (result_written r) n
slot_bytes (Old s r) n = held_bytes 3 s (result_written r) n

-- then 64 bytes: the payload, and zeros behind it
unfoldable pub buffer_bytes : Buffer → List ℕ
buffer_bytes b = slot_bytes b.slot b.payload.len ++ b.payload.bytes

-- k bytes from n on are p now
abbrev pub placed : ℕ → ℕ → List ℕ → List ℕ → List ℕ
placed n k p a = take n a ++ (p ++ drop (n + k) a)

-- the area with this buffer's 72 bytes from n on, where it has them
unfoldable pub buffer_put : ℕ → Buffer → List ℕ → List ℕ
buffer_put n b a = cond (leb (n + 72) (length a)) (placed n 72 (buffer_bytes b) a) a

-- ---- the hub

-- 0 idle, 1 running, 2 abandoned
abbrev pub low_byte : LowSide → ℕ
low_byte Idle = 0
low_byte (Running n) = 1
low_byte Abandoned = 2

-- the number of the running buffer, 0 unless one runs
abbrev pub running_byte : LowSide → ℕ
running_byte Idle = 0
running_byte (Running n) = n.0
running_byte Abandoned = 0

-- byte 0 N, 1 B, 2 power-good time, 3 hub current, 4 removable, 5 configured, 6 low side, 7 running buffer
unfoldable pub head_bytes : Identity → Bool → ℕ → LowSide → List ℕ
head_bytes i configured b low =
    i.ports ∷ b ∷ i.powergood ∷ i.current ∷ i.removable ∷ bit configured ∷ low_byte low ∷ running_byte low ∷ []

-- these 8 bytes, then the hub's N ports, then its B buffers
unfoldable pub written : Hub → List ℕ
written h =
    head_bytes h.identity h.configured h.translator.count h.translator.low
    ++ (flat port_bytes (take h.identity.ports h.ports) ++ flat buffer_bytes (take h.translator.count h.translator.buffers))

-- the length of the area of a hub of n ports and b buffers; 0 where a number is outside the rules
unfoldable pub area_length : ℕ → ℕ → ℕ
area_length n b = cond ((leb 1 n && leb n 7) && (leb 2 b && leb b 4)) (8 + n * 4 + b * 72) 0

-- the area after writing: the hub's written form where the area has its length, else the area as it was; a hub has seven entries for
-- ports and four for buffers, whatever its numbers say
unfoldable pub written_over : Hub → List ℕ → List ℕ
written_over h a = cond (eqb (length a) (8 + min h.identity.ports 7 * 4 + min h.translator.count 4 * 72)) (written h) a
