-- Calls that name port 2 of the bench hub, calls that don't, and its polls. A reader can check each by hand.
use Rattle.std.specs.Prelude.{ℕ, ◌≡◌, List, [], ◌∷◌}
use Rattle.hub.specs.Call.{Call, Control, Poll, Event, Tick, BusReset, Answer, plain_answer}
use Rattle.hub.specs.Cases.{hub_with, set_configuration1, get_port_status, set_port_feature, set_power, set_reset, clear_enable_change, attach_full, detach, start_in, clear_from, reset_from, bytes}
use Rattle.hub.specs.Step.{step}
use Rattle.runs.specs.Machine.{rules, after_from}
use Rattle.isolation.specs.Naming.{struck}

-- what is left of these calls to a hub with four ports, without those that name port m
abbrev pub left_without : ℕ → List Call → List Call
left_without m = struck 4 (record { 0 = m })

-- SetPortFeature PORT_POWER with wIndex 0102
abbrev pub high_byte : Call
high_byte = Control 0 (0x23 ∷ 0x03 ∷ 8 ∷ 0 ∷ 2 ∷ 1 ∷ 0 ∷ 0 ∷ []) 64

-- GetPortStatus of port 2 from this lane
abbrev pub status_from : ℕ → Call
status_from lane = Control lane (0xA3 ∷ 0x00 ∷ 0 ∷ 0 ∷ 2 ∷ 0 ∷ 4 ∷ 0 ∷ []) 64

-- with wLength 3
abbrev pub wrong_length : Call
wrong_length = Control 0 (0xA3 ∷ 0x00 ∷ 0 ∷ 0 ∷ 2 ∷ 0 ∷ 3 ∷ 0 ∷ []) 64

-- with seven setup bytes
abbrev pub seven_bytes : Call
seven_bytes = Control 0 (0xA3 ∷ 0x00 ∷ 0 ∷ 0 ∷ 2 ∷ 0 ∷ 4 ∷ []) 64

-- the poll's answer after these calls
abbrev pub poll_after : List Call → Answer
poll_after cs = (step (after_from rules (hub_with 3) cs) (Poll 0 64)).answer

-- a device at this port
abbrev pub device_at : ℕ → List Call → List Call
device_at m cs = set_power m ∷ attach_full m ∷ cs

pub record IsolationCases : Type 0 where
  -- events and port requests that name port 2
  pub named : left_without 2 (set_power 2 ∷ attach_full 2 ∷ clear_enable_change 2 ∷ get_port_status 2 ∷ status_from 1 ∷ detach 2 ∷ []) ≡ []
  -- .. though they are 6: lane 2, event 8
  pub refused : left_without 2 (status_from 2 ∷ Event 8 2 ∷ []) ≡ []
  -- ticks, bus resets, SetConfiguration and translator calls, and what names another port
  pub in_both :
      left_without 2
      (set_configuration1 ∷ set_power 2 ∷ Tick ∷ start_in 5 1 ∷ attach_full 2 ∷ set_reset 1 ∷ attach_full 3 ∷ Poll 0 64 ∷ BusReset ∷ [])
      ≡ set_configuration1 ∷ Tick ∷ start_in 5 1 ∷ set_reset 1 ∷ attach_full 3 ∷ Poll 0 64 ∷ BusReset ∷ []
  -- ClearTTBuffer and ResetTT, which have wIndex 1
  pub translator : left_without 1 (clear_from 0 ∷ reset_from 0 ∷ []) ≡ clear_from 0 ∷ reset_from 0 ∷ []
  -- a bad port number names no port: 0, 5 of four, and 0102, whose low byte is 2
  pub no_port_0 : left_without 0 (set_power 0 ∷ attach_full 0 ∷ []) ≡ set_power 0 ∷ attach_full 0 ∷ []
  pub no_port_5 : left_without 5 (set_power 5 ∷ attach_full 5 ∷ []) ≡ set_power 5 ∷ attach_full 5 ∷ []
  pub high_byte_lem : left_without 2 (high_byte ∷ attach_full 0x0102 ∷ []) ≡ high_byte ∷ attach_full 0x0102 ∷ []
  -- nor does a request that isn't well formed: feature 3 can't be set
  pub malformed : left_without 2 (set_port_feature 3 2 ∷ wrong_length ∷ seven_bytes ∷ []) ≡ set_port_feature 3 2 ∷ wrong_length ∷ seven_bytes ∷ []
  -- a device at port 2: the poll is 1 with bit 2 alone; without it, 3
  pub bit_alone : poll_after (set_configuration1 ∷ device_at 2 []) ≡ bytes (0x04 ∷ [])
  pub none : poll_after (set_configuration1 ∷ []) ≡ plain_answer 3
  -- one at port 3 too: the byte differs in bit 2
  pub two_bits : poll_after (set_configuration1 ∷ device_at 2 (device_at 3 [])) ≡ bytes (0x0C ∷ [])
  pub other_bit : poll_after (set_configuration1 ∷ device_at 3 []) ≡ bytes (0x08 ∷ [])
