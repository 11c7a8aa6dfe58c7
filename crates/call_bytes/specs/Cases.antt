-- Records worked out by hand from docs/CALLS.md.
use Rattle.std.specs.Prelude.{ℕ, ◌≡◌, List, [], ◌∷◌, replicate, None, option_map, Some}
use Rattle.hub.specs.Call.{Control, Poll, Start, Complete, Launch, Deliver, Event, Tick, BusReset}
use Rattle.call_bytes.specs.Written.{written}
use Rattle.call_bytes.specs.Read.{read_of, call_in}

-- a start-split of lane 1: IN, bulk, full speed, toggle 0, address 5, endpoint 1, no payload
abbrev pub start_bytes : List ℕ
start_bytes =
    3 ∷ 1 ∷ 0 ∷ 0 ∷ 0 ∷ 9 ∷ 0 ∷ 0 ∷ 0 ∷ 2 ∷ 0 ∷ 0 ∷ 0 ∷ 0 ∷ 0 ∷ 0 ∷ 0 ∷ 0 ∷ 0 ∷ 0 ∷ 0 ∷ 5 ∷ 0 ∷ 0 ∷ 0 ∷ 1 ∷ 0 ∷ 0 ∷ 0 ∷ 0 ∷ 0 ∷ []

pub record RecordCases : Type 0 where
  pub start_written : written (Start 1 9 2 0 0 5 1 []) ≡ start_bytes
  pub start_read : option_map (λ r. call_in r start_bytes) (read_of start_bytes) ≡ Some (Start 1 9 2 0 0 5 1 [])
  -- SetConfiguration 1 from lane 0, with 64 bytes of reply space
  pub control_written : written (Control 0 (0 ∷ 9 ∷ 1 ∷ 0 ∷ 0 ∷ 0 ∷ 0 ∷ 0 ∷ []) 64)
      ≡ 1 ∷ 0 ∷ 0 ∷ 0 ∷ 0 ∷ 64 ∷ 0 ∷ 0 ∷ 0 ∷ 8 ∷ 0 ∷ 0 ∷ 9 ∷ 1 ∷ 0 ∷ 0 ∷ 0 ∷ 0 ∷ 0 ∷ []
  -- calls that the hub refuses have a form too: lane 2, a room of 10 bytes
  pub poll_written : written (Poll 2 10) ≡ 2 ∷ 2 ∷ 0 ∷ 0 ∷ 0 ∷ 10 ∷ 0 ∷ 0 ∷ 0 ∷ []
  -- address 200 and the largest number
  pub complete_written : written (Complete 0 200 1 1 4294967295)
      ≡ 4 ∷ 0 ∷ 0 ∷ 0 ∷ 0 ∷ 200 ∷ 0 ∷ 0 ∷ 0 ∷ 1 ∷ 0 ∷ 0 ∷ 0 ∷ 1 ∷ 0 ∷ 0 ∷ 0 ∷ 255 ∷ 255 ∷ 255 ∷ 255 ∷ []
  -- a payload of 65 bytes
  pub deliver_written : written (Deliver 3 (replicate 65 7)) ≡ 6 ∷ 3 ∷ 0 ∷ 0 ∷ 0 ∷ 65 ∷ 0 ∷ replicate 65 7
  -- a setup of seven bytes
  pub setup_written : written (Control 0 (replicate 7 1) 64) ≡ 1 ∷ 0 ∷ 0 ∷ 0 ∷ 0 ∷ 64 ∷ 0 ∷ 0 ∷ 0 ∷ 7 ∷ 0 ∷ replicate 7 1
  pub launch_written : written (Launch 64) ≡ 5 ∷ 64 ∷ 0 ∷ 0 ∷ 0 ∷ []
  pub event_written : written (Event 2 260) ≡ 7 ∷ 2 ∷ 0 ∷ 0 ∷ 0 ∷ 4 ∷ 1 ∷ 0 ∷ 0 ∷ []
  pub tick_written : written Tick ≡ 8 ∷ []
  pub reset_written : written BusReset ≡ 9 ∷ []
  -- no call: no bytes, tag 0, tag 10, a poll that lacks its last byte, a delivery whose count is larger than its bytes
  pub no_bytes : read_of [] ≡ None
  pub tag_zero : read_of (0 ∷ []) ≡ None
  pub tag_ten : read_of (10 ∷ []) ≡ None
  pub poll_cut : read_of (2 ∷ 2 ∷ 0 ∷ 0 ∷ 0 ∷ 10 ∷ 0 ∷ 0 ∷ []) ≡ None
  pub deliver_cut : read_of (6 ∷ 3 ∷ 0 ∷ 0 ∷ 0 ∷ 2 ∷ 0 ∷ 7 ∷ []) ≡ None
