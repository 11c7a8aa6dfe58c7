-- Internal, pinned by `AreaExact` (crate `area`), which says that the tests here accept exactly the written forms of valid hubs: what an area's
-- bytes stand for, and the test of them.
use Rattle.std.specs.Prelude.{ℕ, ◌+◌, ◌*◌, ◌/◌, ◌%◌, List, [], ◌∷◌, ◌++◌, Bool, true, false, cond, not, ◌&&◌, ◌||◌, length, get_or, take, drop, replicate, eqb, leb, ltb}
use Rattle.port.specs.declared.PortState.{PortState}
use Rattle.port.specs.declared.Port.{Port}
use Rattle.port.specs.FromNumbers.{speed_of, state_of, end_of}
use Rattle.ports.specs.Ports.{new_ports}
use Rattle.buffer.specs.declared.Lane.{Lane}
use Rattle.buffer.specs.declared.Lane.TheVariants.{Zero, One}
use Rattle.buffer.specs.declared.StartSplit.{StartSplit}
use Rattle.buffer.specs.declared.Slot.{Slot}
use Rattle.buffer.specs.declared.Slot.TheVariants.{Empty, Pending, Ready, Old}
use Rattle.buffer.specs.declared.Buffer.{Buffer}
use Rattle.buffer.specs.Key.{key_of}
use Rattle.buffer.specs.Buffer.{vacant, is_pending, holds, active_in}
use Rattle.buffer.specs.Valid.{slot_fits}
use Rattle.translator.specs.declared.LowSide.{LowSide}
use Rattle.translator.specs.declared.LowSide.TheVariants.{Idle, Running, Abandoned}
use Rattle.translator.specs.Slots.{slots_in}
use Rattle.translator.specs.Valid.{at_place}
use Rattle.numbers.specs.Named.{is_pid, pid_from, is_type, type_from, is_result, result_from}
use Rattle.hub.specs.declared.Hub.{Hub}
use Rattle.hub.specs.Hub.{new_fits}
use Rattle.area_check.specs.Rows.{parts, every, blank}

abbrev pub is_odd : ℕ → Bool
is_odd n = eqb (n % 2) 1

-- ---- what bytes stand for, if they stand for anything

-- a port with these marks
unfoldable pub marked_port : PortState → ℕ → Port
marked_port s m =
    record {
      state = s;
      overcurrent = is_odd (m / 2 / 2 / 2 / 2 / 2);
      changes =
          record {
            connection = is_odd m;
            enable = is_odd (m / 2);
            suspend = is_odd (m / 2 / 2);
            overcurrent = is_odd (m / 2 / 2 / 2);
            reset = is_odd (m / 2 / 2 / 2 / 2);
          };
    }

unfoldable pub port_of : List ℕ → Port
port_of l = marked_port (state_of (get_or l 0 0) (speed_of (get_or l 1 0)) (get_or l 2 0)) (get_or l 3 0)

-- the lane of a start-split with these flags
abbrev pub lane_in : ℕ → Lane
lane_in f = cond (is_odd (f / 2 / 2)) One Zero

unfoldable pub held_split : List ℕ → StartSplit
held_split l =
    record {
      lane = lane_in (get_or l 3 0);
      pid = pid_from (get_or l 1 0);
      transfer = type_from (get_or l 2 0);
      lowspeed = is_odd (get_or l 3 0);
      toggle = is_odd (get_or l 3 0 / 2);
      address = record { 0 = get_or l 4 0 };
      endpoint = get_or l 5 0;
    }

abbrev pub slot_named : ℕ → StartSplit → ℕ → Slot
slot_named n s last = cond (eqb n 1) (Pending s last) (cond (eqb n 2) (Ready s (result_from last)) (cond (eqb n 3) (Old s (result_from last)) Empty))

unfoldable pub slot_of : List ℕ → Slot
slot_of l = slot_named (get_or l 0 0) (held_split l) (get_or l 6 0)

unfoldable pub buffer_of : List ℕ → Buffer
buffer_of l = record { slot = slot_of l; payload = record { len = get_or l 7 0; bytes = take 64 (drop 8 l) } }

abbrev pub low_of : ℕ → ℕ → LowSide
low_of k n = cond (eqb k 1) (Running (record { 0 = n })) (cond (eqb k 2) Abandoned Idle)

unfoldable pub no_ports : List Port
no_ports = new_ports

unfoldable pub no_buffers : List Buffer
no_buffers = replicate 4 vacant

-- n ports, m buffers; the entries behind them are new ports and empty buffers
unfoldable pub ports_of : ℕ → List ℕ → List Port
ports_of n l = parts port_of 4 n l ++ drop n no_ports

unfoldable pub buffers_of : ℕ → List ℕ → List Buffer
buffers_of m l = parts buffer_of 72 m l ++ drop m no_buffers

-- the bytes of the ports, and of the buffers
abbrev pub port_part : List ℕ → List ℕ
port_part a = take (get_or a 0 0 * 4) (drop 8 a)

abbrev pub buffer_part : List ℕ → List ℕ
buffer_part a = take (get_or a 1 0 * 72) (drop (8 + get_or a 0 0 * 4) a)

unfoldable pub decoded : List ℕ → Hub
decoded a =
    record {
      identity = record { ports = get_or a 0 0; powergood = get_or a 2 0; current = get_or a 3 0; removable = get_or a 4 0 };
      configured = eqb (get_or a 5 0) 1;
      ports = ports_of (get_or a 0 0) (port_part a);
      translator =
          record {
            buffers = buffers_of (get_or a 1 0) (buffer_part a);
            count = get_or a 1 0;
            low = low_of (get_or a 6 0) (get_or a 7 0);
          };
    }

-- ---- one port

-- the speeds that a state's number goes with are those below this
abbrev pub speeds_of : ℕ → ℕ
speeds_of n = cond (ltb n 3) 1 (cond (ltb n 8) 3 0)

-- a port is Not Configured, or else the hub is configured
abbrev pub agrees : Bool → Bool → Bool
agrees true g = not g
agrees false g = g

abbrev pub state_fits : Bool → ℕ → ℕ → ℕ → Bool
state_fits g s v t = (ltb v (speeds_of s) && ltb t (end_of s)) && agrees (eqb s 0) g

unfoldable pub port_fits : Bool → List ℕ → Bool
port_fits g l = state_fits g (get_or l 0 0) (get_or l 1 0) (get_or l 2 0) && ltb (get_or l 3 0) 64

-- ---- one buffer

-- an empty buffer has no start-split
abbrev pub empty_fits : ℕ → ℕ → ℕ → ℕ → ℕ → ℕ → Bool
empty_fits p t f a e last = (eqb p 0 && (eqb t 0 && eqb f 0)) && (eqb a 0 && (eqb e 0 && eqb last 0))

abbrev pub held_fits : ℕ → ℕ → ℕ → ℕ → ℕ → Bool
held_fits s p t f last = (ltb s 4 && (is_pid p && is_type t)) && (ltb f 8 && (eqb s 1 || is_result last))

unfoldable pub names_fit : List ℕ → Bool
names_fit l =
    cond (eqb (get_or l 0 0) 0)
    (empty_fits (get_or l 1 0) (get_or l 2 0) (get_or l 3 0) (get_or l 4 0) (get_or l 5 0) (get_or l 6 0))
    (held_fits (get_or l 0 0) (get_or l 1 0) (get_or l 2 0) (get_or l 3 0) (get_or l 6 0))

unfoldable pub buffer_fits : List ℕ → Bool
buffer_fits l = (names_fit l && slot_fits (slot_of l) (get_or l 7 0)) && blank (drop (8 + get_or l 7 0) l)

-- ---- the buffers among each other

-- two buffers under one key, or at one place
abbrev pub clash : Slot → Slot → Bool
clash Empty y = false
clash (Pending s p) y = holds (key_of s) y || at_place p y
clash (Ready s r) y = holds (key_of s) y
clash (Old s r) y = holds (key_of s) y

abbrev pub clash_any : Slot → List Slot → Bool
clash_any x [] = false
clash_any x (y ∷ ys) = clash x y || clash_any x ys

unfoldable pub clashing : List Slot → Bool
clashing [] = false
clashing (x ∷ xs) = clash_any x xs || clashing xs

-- pending or ready under a key of the lane
unfoldable pub filled_by : Lane → List ℕ → Bool
filled_by z l = active_in z (slot_of l)

-- a lane holds all n buffers pending or ready, and so more than B minus 1
abbrev pub crowded : ℕ → List ℕ → Bool
crowded n l = every (filled_by Zero) 72 n l || every (filled_by One) 72 n l

-- a running buffer is pending
unfoldable pub runs : List Slot → ℕ → ℕ → Bool
runs l k n = cond (eqb k 1) (is_pending (get_or l n Empty)) true

-- ---- the hub

abbrev pub low_fits : ℕ → ℕ → Bool
low_fits k n = eqb k 1 || (ltb k 3 && eqb n 0)

unfoldable pub head_fits : List ℕ → Bool
head_fits a =
    new_fits (get_or a 0 0) (get_or a 1 0) (get_or a 2 0) (get_or a 3 0) (get_or a 4 0) && (ltb (get_or a 5 0) 2 && low_fits (get_or a 6 0) (get_or a 7 0))

unfoldable pub sized : List ℕ → Bool
sized a = leb 8 (length a) && (head_fits a && eqb (length a) (8 + get_or a 0 0 * 4 + get_or a 1 0 * 72))

unfoldable pub rows_fit : List ℕ → Bool
rows_fit a =
    (every (port_fits (eqb (get_or a 5 0) 1)) 4 (get_or a 0 0) (port_part a) && every buffer_fits 72 (get_or a 1 0) (buffer_part a))
    && (not (clashing (slots_in (buffers_of (get_or a 1 0) (buffer_part a))))
    && (not (crowded (get_or a 1 0) (buffer_part a)) && runs (slots_in (buffers_of (get_or a 1 0) (buffer_part a))) (get_or a 6 0) (get_or a 7 0)))

unfoldable pub accepts : List ℕ → Bool
accepts a = sized a && rows_fit a
