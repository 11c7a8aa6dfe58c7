-- Bench cases P1 to P13 of document 01, four ports, three buffers, in lane 0, and the three of its last line; then the cases of C-12 and of C-18.
-- A reader must believe: each row has the calls of its case on a new hub, and all that document 01, as C-12 and C-18 correct it, answers to each of them.
use Rattle.std.specs.Prelude.{ℕ, ◌≡◌, Bool, true, false, ◌&&◌, List, [], ◌∷◌, ◌++◌, eqb, replicate}
use Rattle.std.specs.Result.{result_unwrap_or}
use Rattle.payload.specs.Bytes.{same_bytes}
use Rattle.hub.specs.declared.Hub.{Hub}
use Rattle.hub.specs.Hub.{hub_of, new_hub}
use Rattle.hub.specs.Call.{Call, Control, Poll, Start, Complete, Launch, Deliver, Event, Tick, BusReset, Answer, plain_answer, pid_answer}
use Rattle.hub.specs.Step.{step}

pub record Row : Type 0 where
  pub calls : List Call
  -- of all calls, one by one
  pub answers : List Answer

-- four ports, so many buffers; power-good, current and removable hexadecimal 32, 64, 00
abbrev pub hub_with : ℕ → Hub
hub_with buffers = result_unwrap_or (new_hub 4 buffers 0x32 0x64 0x00) (hub_of 0 0 0 0 0)

-- ---- calls and answers by their names

-- setup bytes: type, request, wValue, wIndex, wLength, low bytes first
abbrev pub set_configuration1 : Call
set_configuration1 = Control 0 (0x00 ∷ 0x09 ∷ 1 ∷ 0 ∷ 0 ∷ 0 ∷ 0 ∷ 0 ∷ []) 64

abbrev pub get_hub_descriptor : ℕ → Call
get_hub_descriptor length = Control 0 (0xA0 ∷ 0x06 ∷ 0x00 ∷ 0x29 ∷ 0 ∷ 0 ∷ length ∷ 0 ∷ []) 64

abbrev pub get_port_status : ℕ → Call
get_port_status port = Control 0 (0xA3 ∷ 0x00 ∷ 0 ∷ 0 ∷ port ∷ 0 ∷ 4 ∷ 0 ∷ []) 64

abbrev pub set_port_feature : ℕ → ℕ → Call
set_port_feature feature port = Control 0 (0x23 ∷ 0x03 ∷ feature ∷ 0 ∷ port ∷ 0 ∷ 0 ∷ 0 ∷ []) 64

abbrev pub clear_port_feature : ℕ → ℕ → Call
clear_port_feature feature port = Control 0 (0x23 ∷ 0x01 ∷ feature ∷ 0 ∷ port ∷ 0 ∷ 0 ∷ 0 ∷ []) 64

-- PORT_SUSPEND 2, PORT_RESET 4, PORT_POWER 8
abbrev pub set_suspend : ℕ → Call
set_suspend = set_port_feature 2

abbrev pub set_reset : ℕ → Call
set_reset = set_port_feature 4

abbrev pub set_power : ℕ → Call
set_power = set_port_feature 8

-- C_PORT_ENABLE 17
abbrev pub clear_enable_change : ℕ → Call
clear_enable_change = clear_port_feature 17

-- attach low 0, attach full 1, detach 2, chirp 3, wake 4, port error 5, over-current on 6
abbrev pub attach_low : ℕ → Call
attach_low = Event 0

abbrev pub attach_full : ℕ → Call
attach_full = Event 1

abbrev pub detach : ℕ → Call
detach = Event 2

abbrev pub chirp : ℕ → Call
chirp = Event 3

abbrev pub wake : ℕ → Call
wake = Event 4

abbrev pub port_error : ℕ → Call
port_error = Event 5

abbrev pub over_current_on : ℕ → Call
over_current_on = Event 6

-- a full-speed bulk start-split with toggle 0: PID IN 9, OUT 1; bulk 2
abbrev pub start_from : ℕ → ℕ → ℕ → Call
start_from lane address endpoint = Start lane 9 2 0 0 address endpoint []

abbrev pub start_in : ℕ → ℕ → Call
start_in = start_from 0

abbrev pub start_out : ℕ → ℕ → List ℕ → Call
start_out = Start 0 1 2 0 0

-- direction IN 1
abbrev pub complete_from : ℕ → ℕ → ℕ → Call
complete_from lane address endpoint = Complete lane address endpoint 1 64

abbrev pub complete_in : ℕ → ℕ → Call
complete_in = complete_from 0

-- ClearTTBuffer of the bulk IN endpoint (5,1), and ResetTT
abbrev pub clear_from : ℕ → Call
clear_from lane = Control lane (0x23 ∷ 0x08 ∷ 0x51 ∷ 0x90 ∷ 1 ∷ 0 ∷ 0 ∷ 0 ∷ []) 64

abbrev pub reset_from : ℕ → Call
reset_from lane = Control lane (0x23 ∷ 0x09 ∷ 0 ∷ 0 ∷ 1 ∷ 0 ∷ 0 ∷ 0 ∷ []) 64

-- DATA0 3
abbrev pub deliver_data0 : List ℕ → Call
deliver_data0 = Deliver 3

-- 0 done (ACK)
abbrev pub done : Answer
done = plain_answer 0

-- 1 data
abbrev pub bytes : List ℕ → Answer
bytes = pid_answer 1 0

-- 1 data, for a complete-split also DATA0
abbrev pub data0 : List ℕ → Answer
data0 = pid_answer 1 3

-- a launched IN, with its PID, type, key, flag and toggle
abbrev pub launched_from : ℕ → ℕ → ℕ → Answer
launched_from z a e = record { number = 1; pid = 9; transfer = 2; lane = z; address = a; endpoint = e; direction = 1; lowspeed = 0; toggle = 0; bytes = [] }

abbrev pub launched_in : ℕ → ℕ → Answer
launched_in = launched_from 0

-- this many times
abbrev pub ticks : ℕ → List Call
ticks n = replicate n Tick

abbrev pub dones : ℕ → List Answer
dones n = replicate n done

-- what comes after a row
abbrev pub after : Row → List Call → List Answer → Row
after r cs rest = record { calls = r.calls ++ cs; answers = r.answers ++ rest }

-- ---- the cases

-- P1 new hub, poll: 5.
abbrev pub p1 : Row
p1 = record { calls = Poll 0 64 ∷ []; answers = plain_answer 5 ∷ [] }

-- P2 descriptor, power-good, current and removable hexadecimal 32, 64, 00: `09 29 04 09 00 32 64 00 FF`; length 0 is answer 1 with no bytes.
abbrev pub p2 : Row
p2 =
    record {
      calls = get_hub_descriptor 9 ∷ get_hub_descriptor 0 ∷ [];
      answers = bytes (0x09 ∷ 0x29 ∷ 0x04 ∷ 0x09 ∷ 0x00 ∷ 0x32 ∷ 0x64 ∷ 0x00 ∷ 0xFF ∷ []) ∷ bytes [] ∷ [];
    }

-- P3 configured, port 2 powered: `00 01 00 00`.
abbrev pub p3 : Row
p3 = record { calls = set_configuration1 ∷ set_power 2 ∷ get_port_status 2 ∷ []; answers = done ∷ done ∷ bytes (0x00 ∷ 0x01 ∷ 0x00 ∷ 0x00 ∷ []) ∷ [] }

-- P4 full attach: `01 01 01 00`, poll `04`.
abbrev pub p4 : Row
p4 = after p3 (attach_full 2 ∷ get_port_status 2 ∷ Poll 0 64 ∷ []) (done ∷ bytes (0x01 ∷ 0x01 ∷ 0x01 ∷ 0x00 ∷ []) ∷ bytes (0x04 ∷ []) ∷ [])

-- P5 low attach instead: `01 03 01 00`.
abbrev pub p5 : Row
p5 = after p3 (attach_low 2 ∷ get_port_status 2 ∷ []) (done ∷ bytes (0x01 ∷ 0x03 ∷ 0x01 ∷ 0x00 ∷ []) ∷ [])

-- P6 after P4, reset, 14 ticks: `11 01 01 00`.
abbrev pub p6 : Row
p6 = after p4 (set_reset 2 ∷ (ticks 14 ++ get_port_status 2 ∷ [])) (done ∷ (dones 14 ++ bytes (0x11 ∷ 0x01 ∷ 0x01 ∷ 0x00 ∷ []) ∷ []))

-- P7 one more tick: `03 01 11 00`.
abbrev pub p7 : Row
p7 = after p6 (Tick ∷ get_port_status 2 ∷ []) (done ∷ bytes (0x03 ∷ 0x01 ∷ 0x11 ∷ 0x00 ∷ []) ∷ [])

-- P8 chirp inside it: `03 05 11 00`; here at its start, and before its last tick.
abbrev pub p8 : Row
p8 =
    after p4 (set_reset 2 ∷ chirp 2 ∷ (ticks 15 ++ get_port_status 2 ∷ []))
    (done ∷ done ∷ (dones 15 ++ bytes (0x03 ∷ 0x05 ∷ 0x11 ∷ 0x00 ∷ []) ∷ []))

abbrev pub p8_late : Row
p8_late = after p6 (chirp 2 ∷ Tick ∷ get_port_status 2 ∷ []) (done ∷ done ∷ bytes (0x03 ∷ 0x05 ∷ 0x11 ∷ 0x00 ∷ []) ∷ [])

-- P9 after P7, over-current: `08 00 19 00` (C-12).
abbrev pub p9 : Row
p9 = after p7 (over_current_on 2 ∷ get_port_status 2 ∷ []) (done ∷ bytes (0x08 ∷ 0x00 ∷ 0x19 ∷ 0x00 ∷ []) ∷ [])

-- P10 after P7, suspend: `07 01 11 00`.
abbrev pub p10 : Row
p10 = after p7 (set_suspend 2 ∷ get_port_status 2 ∷ []) (done ∷ bytes (0x07 ∷ 0x01 ∷ 0x11 ∷ 0x00 ∷ []) ∷ [])

-- P11 IN starts to (5,1), (6,1): ACK both; (7,1): 3. Complete (5,1): 4.
abbrev pub p11 : Row
p11 =
    record {
      calls = set_configuration1 ∷ start_in 5 1 ∷ start_in 6 1 ∷ start_in 7 1 ∷ complete_in 5 1 ∷ [];
      answers = done ∷ done ∷ done ∷ plain_answer 3 ∷ plain_answer 4 ∷ [];
    }

-- P12 launch, deliver DATA0 `11 22 33`, complete (5,1) twice: the same 3 bytes.
abbrev pub p12 : Row
p12 =
    after p11 (Launch 64 ∷ deliver_data0 (0x11 ∷ 0x22 ∷ 0x33 ∷ []) ∷ complete_in 5 1 ∷ complete_in 5 1 ∷ [])
    (launched_in 5 1 ∷ done ∷ data0 (0x11 ∷ 0x22 ∷ 0x33 ∷ []) ∷ data0 (0x11 ∷ 0x22 ∷ 0x33 ∷ []) ∷ [])

-- P13 start (7,1): ACK; complete (5,1): 2.
abbrev pub p13 : Row
p13 = after p12 (start_in 7 1 ∷ complete_in 5 1 ∷ []) (done ∷ plain_answer 2 ∷ [])

-- Port 0 and port 5 in a request: 2.
abbrev pub no_such_port : Row
no_such_port =
    record {
      calls = set_configuration1 ∷ get_port_status 0 ∷ get_port_status 5 ∷ set_power 0 ∷ set_power 5 ∷ [];
      answers = done ∷ plain_answer 2 ∷ plain_answer 2 ∷ plain_answer 2 ∷ plain_answer 2 ∷ [];
    }

-- Payload 64 passes, 65 is 6.
abbrev pub payload64 : Row
payload64 =
    record {
      calls = set_configuration1 ∷ start_out 5 1 (replicate 64 0xA5) ∷ start_out 6 1 (replicate 65 0xA5) ∷ [];
      answers = done ∷ done ∷ plain_answer 6 ∷ [];
    }

-- Reply space 63 is 7.
abbrev pub room63 : Row
room63 = record { calls = set_configuration1 ∷ Poll 0 63 ∷ Poll 0 64 ∷ []; answers = done ∷ plain_answer 7 ∷ plain_answer 3 ∷ [] }

-- ---- C-12: detach and over-current no longer set C_PORT_ENABLE, which is bit 1 of the third status byte

-- Unplugged while Disabled (after P4), Enabled (after P7) and Suspended (after P10).
abbrev pub unplugged_disabled : Row
unplugged_disabled = after p4 (detach 2 ∷ get_port_status 2 ∷ []) (done ∷ bytes (0x00 ∷ 0x01 ∷ 0x01 ∷ 0x00 ∷ []) ∷ [])

abbrev pub unplugged_enabled : Row
unplugged_enabled = after p7 (detach 2 ∷ get_port_status 2 ∷ []) (done ∷ bytes (0x00 ∷ 0x01 ∷ 0x11 ∷ 0x00 ∷ []) ∷ [])

abbrev pub unplugged_suspended : Row
unplugged_suspended = after p10 (detach 2 ∷ get_port_status 2 ∷ []) (done ∷ bytes (0x00 ∷ 0x01 ∷ 0x11 ∷ 0x00 ∷ []) ∷ [])

-- After P10, wake, over-current in Resuming.
abbrev pub over_current_resuming : Row
over_current_resuming =
    after p10 (wake 2 ∷ get_port_status 2 ∷ over_current_on 2 ∷ get_port_status 2 ∷ [])
    (done ∷ bytes (0x07 ∷ 0x01 ∷ 0x11 ∷ 0x00 ∷ []) ∷ done ∷ bytes (0x08 ∷ 0x00 ∷ 0x19 ∷ 0x00 ∷ []) ∷ [])

-- After P7, a port error sets it; it stays when the device is unplugged, until it is cleared.
abbrev pub error_reported : Row
error_reported =
    after p7 (port_error 2 ∷ get_port_status 2 ∷ detach 2 ∷ get_port_status 2 ∷ clear_enable_change 2 ∷ get_port_status 2 ∷ [])
    (done ∷ bytes (0x01 ∷ 0x01 ∷ 0x13 ∷ 0x00 ∷ [])
    ∷ done ∷ bytes (0x00 ∷ 0x01 ∷ 0x13 ∷ 0x00 ∷ [])
    ∷ done ∷ bytes (0x00 ∷ 0x01 ∷ 0x11 ∷ 0x00 ∷ []) ∷ [])

-- ---- C-18: two lanes

-- one call and its answer after another
abbrev pub row : List (Call × Answer) → Row
row [] = record { calls = []; answers = [] }
row (e ∷ es) = record { calls = e.0 ∷ (row es).calls; answers = e.1 ∷ (row es).answers }

abbrev pub nak : Answer
nak = plain_answer 3

abbrev pub stall : Answer
stall = plain_answer 2

abbrev pub nyet : Answer
nyet = plain_answer 4

-- Both lanes have (5,1): two keys, each with its own bytes; neither's data answers the other.
abbrev pub two_keys : Row
two_keys =
    row
    ((set_configuration1, done)
    ∷ (start_from 0 5 1, done)
    ∷ (complete_from 1 5 1, stall)
    ∷ (start_from 1 5 1, done)
    ∷ (Launch 64, launched_from 0 5 1)
    ∷ (deliver_data0 (0x10 ∷ []), done)
    ∷ (complete_from 1 5 1, nyet)
    ∷ (Launch 64, launched_from 1 5 1)
    ∷ (deliver_data0 (0x11 ∷ 0x12 ∷ []), done)
    ∷ (complete_from 0 5 1, data0 (0x10 ∷ []))
    ∷ (complete_from 1 5 1, data0 (0x11 ∷ 0x12 ∷ []))
    ∷ (complete_from 0 5 1, data0 (0x10 ∷ [])) ∷ [])

-- Three buffers. Lane 0 holds two: its limit, with a buffer empty; a repeat is still ACK; and lane 1, which takes the third, finds no buffer
-- for another, below its own limit.
abbrev pub limit_reached : Row
limit_reached =
    row
    ((set_configuration1, done)
    ∷ (start_from 0 5 1, done)
    ∷ (start_from 0 6 1, done)
    ∷ (start_from 0 7 1, nak)
    ∷ (start_from 0 5 1, done)
    ∷ (start_from 1 5 1, done)
    ∷ (start_from 1 6 1, nak) ∷ [])

-- An old buffer doesn't count: with (5,1) old and (6,1) pending, (7,1) is stored, in the buffer that lane 1's ResetTT emptied. The lane is at
-- its limit again: (5,1) is 3 in its own old buffer too, which still gives its bytes. Lane 1 takes that buffer, and lane 0's complete-split
-- is STALL.
abbrev pub old_buffers : Row
old_buffers =
    row
    ((set_configuration1, done)
    ∷ (start_from 1 9 1, done)
    ∷ (start_from 0 5 1, done)
    ∷ (start_from 0 6 1, done)
    ∷ (Launch 64, launched_from 1 9 1)
    ∷ (deliver_data0 [], done)
    ∷ (Launch 64, launched_from 0 5 1)
    ∷ (deliver_data0 (0x11 ∷ []), done)
    ∷ (complete_from 0 5 1, data0 (0x11 ∷ []))
    ∷ (reset_from 1, done)
    ∷ (start_from 0 7 1, done)
    ∷ (start_from 0 5 1, nak)
    ∷ (complete_from 0 5 1, data0 (0x11 ∷ []))
    ∷ (start_from 1 9 1, done)
    ∷ (complete_from 0 5 1, stall) ∷ [])

-- ResetTT from lane 1 while lane 0's transaction runs: its own buffers are emptied, the transaction runs on and its result arrives.
abbrev pub reset_other : Row
reset_other =
    row
    ((set_configuration1, done)
    ∷ (start_from 0 5 1, done)
    ∷ (start_from 1 5 1, done)
    ∷ (Launch 64, launched_from 0 5 1)
    ∷ (reset_from 1, done)
    ∷ (complete_from 1 5 1, stall)
    ∷ (complete_from 0 5 1, nyet)
    ∷ (deliver_data0 (0x10 ∷ []), done)
    ∷ (complete_from 0 5 1, data0 (0x10 ∷ []))
    ∷ (Launch 64, nak) ∷ [])

-- ResetTT from lane 0 while its own runs: the low side stays occupied, through a second ResetTT too, until the delivery, which is thrown
-- away; lane 1's start-split waits, and is launched then.
abbrev pub reset_own : Row
reset_own =
    row
    ((set_configuration1, done)
    ∷ (start_from 0 5 1, done)
    ∷ (start_from 1 5 1, done)
    ∷ (Launch 64, launched_from 0 5 1)
    ∷ (reset_from 0, done)
    ∷ (complete_from 0 5 1, stall)
    ∷ (start_from 0 5 1, done)
    ∷ (Launch 64, plain_answer 8)
    ∷ (reset_from 0, done)
    ∷ (Launch 64, plain_answer 8)
    ∷ (deliver_data0 (0x10 ∷ []), done)
    ∷ (complete_from 1 5 1, nyet)
    ∷ (Launch 64, launched_from 1 5 1)
    ∷ (deliver_data0 (0x11 ∷ []), done)
    ∷ (complete_from 1 5 1, data0 (0x11 ∷ []))
    ∷ (complete_from 0 5 1, stall) ∷ [])

-- ClearTTBuffer empties the buffer of the caller's lane alone.
abbrev pub clear_own : Row
clear_own =
    row
    ((set_configuration1, done)
    ∷ (start_from 0 5 1, done)
    ∷ (start_from 1 5 1, done)
    ∷ (clear_from 1, done)
    ∷ (complete_from 1 5 1, stall)
    ∷ (complete_from 0 5 1, nyet) ∷ [])

-- Bus reset and SetConfiguration act on both lanes and stop the low side at once.
abbrev pub both_lanes : Row
both_lanes =
    row
    ((set_configuration1, done)
    ∷ (start_from 0 5 1, done)
    ∷ (start_from 1 5 1, done)
    ∷ (Launch 64, launched_from 0 5 1)
    ∷ (set_configuration1, done)
    ∷ (complete_from 0 5 1, stall)
    ∷ (complete_from 1 5 1, stall)
    ∷ (start_from 1 5 1, done)
    ∷ (Launch 64, launched_from 1 5 1)
    ∷ (BusReset, done)
    ∷ (set_configuration1, done)
    ∷ (complete_from 1 5 1, stall)
    ∷ (Launch 64, nak) ∷ [])

-- Both lanes act on the one set of ports.
abbrev pub one_port_set : Row
one_port_set = after p3 (Poll 1 64 ∷ attach_full 2 ∷ Poll 0 64 ∷ Poll 1 64 ∷ []) (nak ∷ done ∷ bytes (0x04 ∷ []) ∷ bytes (0x04 ∷ []) ∷ [])

-- A lane outside 0 and 1 is 6, also with wrong setup fields, a bad length, or on an unconfigured hub.
abbrev pub no_such_lane : Row
no_such_lane =
    row
    ((Poll 2 64, plain_answer 6)
    ∷ (set_configuration1, done)
    ∷ (Control 2 (0x00 ∷ 0x09 ∷ 0 ∷ 0 ∷ 0 ∷ 0 ∷ 0 ∷ 0 ∷ []) 64, plain_answer 6)
    ∷ (Control 2 (0xFF ∷ 0xFF ∷ 0 ∷ 0 ∷ 0 ∷ 0 ∷ 0 ∷ 0 ∷ []) 64, plain_answer 6)
    ∷ (Control 2 [] 64, plain_answer 6)
    ∷ (Poll 256 63, plain_answer 6)
    ∷ (start_from 2 5 1, plain_answer 6)
    ∷ (complete_from 2 5 1, plain_answer 6) ∷ [])

-- With two buffers each lane has one; the second of either is 3, whatever the other holds.
abbrev pub one_each : Row
one_each =
    row
    ((set_configuration1, done)
    ∷ (start_from 1 5 1, done)
    ∷ (start_from 1 6 1, nak)
    ∷ (start_from 0 5 1, done)
    ∷ (start_from 0 6 1, nak)
    ∷ (Launch 64, launched_from 1 5 1)
    ∷ (deliver_data0 (0x11 ∷ []), done)
    ∷ (start_from 1 6 1, nak)
    ∷ (complete_from 1 5 1, data0 (0x11 ∷ []))
    ∷ (start_from 1 6 1, done)
    ∷ (complete_from 1 5 1, stall) ∷ [])

-- of a hub with three buffers
abbrev pub table : List Row
table =
    p1 ∷ p2 ∷ p3 ∷ p4 ∷ p5 ∷ p6 ∷ p7 ∷ p8 ∷ p8_late ∷ p9 ∷ p10 ∷ p11 ∷ p12 ∷ p13
    ∷ no_such_port ∷ payload64 ∷ room63
    ∷ unplugged_disabled ∷ unplugged_enabled ∷ unplugged_suspended ∷ over_current_resuming ∷ error_reported
    ∷ two_keys ∷ limit_reached ∷ old_buffers ∷ reset_other ∷ reset_own ∷ clear_own ∷ both_lanes ∷ one_port_set ∷ no_such_lane ∷ []

-- ---- the comparison

-- field by field
abbrev pub same_answer : Answer → Answer → Bool
same_answer a b =
    (eqb a.number b.number && (eqb a.pid b.pid && (eqb a.transfer b.transfer && (eqb a.lane b.lane && eqb a.address b.address))))
    && ((eqb a.endpoint b.endpoint && (eqb a.direction b.direction && (eqb a.lowspeed b.lowspeed && eqb a.toggle b.toggle)))
    && same_bytes a.bytes b.bytes)

-- every call from here on is answered as the row says
abbrev pub holds_from : Hub → List Call → List Answer → Bool
holds_from h [] [] = true
holds_from h [] (a ∷ rest) = false
holds_from h (c ∷ cs) [] = false
holds_from h (c ∷ cs) (a ∷ rest) = let o = step h c in same_answer o.answer a && holds_from o.next cs rest

abbrev pub all_hold : Hub → List Row → Bool
all_hold h [] = true
all_hold h (r ∷ rs) = holds_from h r.calls r.answers && all_hold h rs

-- every row of the table holds, and the one of two buffers
abbrev pub BenchCases : Type 0
BenchCases = (all_hold (hub_with 3) table && all_hold (hub_with 2) (one_each ∷ [])) ≡ true
