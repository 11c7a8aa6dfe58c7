-- Hubs whose written form is taken, and hubs whose isn't: for each clause of document 01's sentence on the area, a hub that breaks that
-- clause alone, beside one that keeps it. A reader must believe: each hub is what its comment says.
use Rattle.std.specs.Prelude.{ℕ, ◌≡◌, Bool, true, false, List, [], ◌∷◌, replicate}
use Rattle.port.specs.declared.Speed.TheVariants.{Full}
use Rattle.port.specs.declared.PortState.{PortState}
use Rattle.port.specs.declared.PortState.TheVariants.{NotConfigured, PoweredOff, Disconnected, Resetting, Resuming}
use Rattle.port.specs.declared.Port.{Port}
use Rattle.port.specs.Reaction.{no_changes, new_port}
use Rattle.payload.specs.declared.Payload.{Payload}
use Rattle.payload.specs.Payload.{payload_of}
use Rattle.buffer.specs.declared.Lane.{Lane}
use Rattle.buffer.specs.declared.Lane.TheVariants.{Zero, One}
use Rattle.buffer.specs.declared.Pid.{Pid}
use Rattle.buffer.specs.declared.Pid.TheVariants as pid
use Rattle.buffer.specs.declared.TransferType.{TransferType}
use Rattle.buffer.specs.declared.TransferType.TheVariants.{Control, Bulk}
use Rattle.buffer.specs.declared.StartSplit.{StartSplit}
use Rattle.buffer.specs.declared.DeviceResult.{DeviceResult}
use Rattle.buffer.specs.declared.DeviceResult.TheVariants.{Ack, Nak, Data0}
use Rattle.buffer.specs.declared.Slot.TheVariants.{Empty, Pending, Ready, Old}
use Rattle.buffer.specs.declared.Buffer.{Buffer}
use Rattle.buffer.specs.Buffer.{vacant}
use Rattle.translator.specs.declared.LowSide.{LowSide}
use Rattle.translator.specs.declared.LowSide.TheVariants.{Idle, Running, Abandoned}
use Rattle.hub.specs.declared.Hub.{Hub}
use Rattle.hub.specs.Hub.{new_fits, hub_of}
use Rattle.hub.specs.Valid.{ValidHub}

-- ---- hubs of four ports and three buffers

-- a port in this state, with no change bit; the level is over-current's
abbrev pub port_with : PortState → Bool → Port
port_with s level = record { state = s; overcurrent = level; changes = no_changes }

-- configured or not; port 1, the state of ports 2 to 4; the three buffers; the low side
abbrev pub hub_with : Bool → Port → PortState → Buffer → Buffer → Buffer → LowSide → Hub
hub_with on p s a b c low =
    record {
      identity = record { ports = 4; powergood = 50; current = 100; removable = 0 };
      configured = on;
      ports = p ∷ port_with s false ∷ port_with s false ∷ port_with s false ∷ new_port ∷ new_port ∷ new_port ∷ [];
      translator = record { buffers = a ∷ b ∷ c ∷ vacant ∷ []; count = 3; low = low };
    }

-- configured, with this port 1; the others Powered-off, and the buffers empty
abbrev pub with_port : Port → Hub
with_port p = hub_with true p PoweredOff vacant vacant vacant Idle

-- unconfigured, with this port 1; the others Not Configured, and the buffers empty
abbrev pub unconfigured : Port → Hub
unconfigured p = hub_with false p NotConfigured vacant vacant vacant Idle

-- configured, with these buffers and this low side; the ports Powered-off
abbrev pub holding : Buffer → Buffer → Buffer → LowSide → Hub
holding = hub_with true (port_with PoweredOff false) PoweredOff

-- with this buffer 0; the others empty
abbrev pub with_buffer : Buffer → Hub
with_buffer b = holding b vacant vacant Idle

-- ---- buffers

-- a full-speed start-split with toggle 0
abbrev pub split : Lane → Pid → TransferType → ℕ → ℕ → StartSplit
split z p t a e = record { lane = z; pid = p; transfer = t; lowspeed = false; toggle = false; address = record { 0 = a }; endpoint = e }

abbrev pub pending_at : ℕ → StartSplit → List ℕ → Buffer
pending_at place s l = record { slot = Pending s place; payload = payload_of l }

abbrev pub ready : StartSplit → DeviceResult → List ℕ → Buffer
ready s r l = record { slot = Ready s r; payload = payload_of l }

abbrev pub old : StartSplit → DeviceResult → List ℕ → Buffer
old s r l = record { slot = Old s r; payload = payload_of l }

-- a bulk IN of lane 0, pending
abbrev pub waiting_in : ℕ → ℕ → ℕ → Buffer
waiting_in place a e = pending_at place (split Zero pid.In Bulk a e) []

-- a bulk OUT with this payload, pending
abbrev pub waiting_out : Payload → Buffer
waiting_out p = record { slot = Pending (split Zero pid.Out Bulk 5 1) 0; payload = p }

-- ---- "The area answers 6 exactly if it isn't the written form of a state that keeps the number ranges here, has timers below their ends,
-- no key and no place in the order of acceptance held twice, and at most one running transaction, itself pending unless abandoned, and has
-- every port Not Configured if the hub is unconfigured, else none."

pub record NumbersAsked : Type 0 where
  -- N ports, 1 to 7; B buffers, 2 to 4; power-good time and current 0 to 255; removable with bit 0 and bits above N zero
  pub kept : ValidHub (hub_of 4 3 50 100 30)
  pub no_port : ¬ (ValidHub (hub_of 0 3 50 100 0))
  pub eight_ports : ¬ (ValidHub (hub_of 8 3 50 100 30))
  pub one_buffer : ¬ (ValidHub (hub_of 4 1 50 100 30))
  pub five_buffers : ¬ (ValidHub (hub_of 4 5 50 100 30))
  pub power_good : ¬ (ValidHub (hub_of 4 3 256 100 30))
  pub current : ¬ (ValidHub (hub_of 4 3 50 256 30))
  pub removable_bit_0 : ¬ (ValidHub (hub_of 4 3 50 100 31))
  pub removable_above : ¬ (ValidHub (hub_of 4 3 50 100 62))
  -- device address 0 to 127; endpoint 0 to 15
  pub largest : ValidHub (with_buffer (waiting_in 0 127 15))
  pub address_128 : ¬ (ValidHub (with_buffer (waiting_in 0 128 15)))
  pub endpoint_16 : ¬ (ValidHub (with_buffer (waiting_in 0 127 16)))

pub record PayloadsAsked : Type 0 where
  -- IN carries none, SETUP is control with 8 bytes
  pub setup : ValidHub (with_buffer (pending_at 0 (split Zero pid.Setup Control 5 0) (replicate 8 1)))
  pub setup_bulk : ¬ (ValidHub (with_buffer (pending_at 0 (split Zero pid.Setup Bulk 5 0) (replicate 8 1))))
  pub setup_7_bytes : ¬ (ValidHub (with_buffer (pending_at 0 (split Zero pid.Setup Control 5 0) (replicate 7 1))))
  pub in_with_payload : ¬ (ValidHub (with_buffer (pending_at 0 (split Zero pid.In Bulk 5 1) (1 ∷ []))))
  -- payload 0 to 64 bytes
  pub sixty_four : ValidHub (with_buffer (waiting_out (payload_of (replicate 64 1))))
  pub sixty_five : ¬ (ValidHub (with_buffer (waiting_out (record { len = 65; bytes = replicate 64 1 }))))
  -- no payload on a result that isn't data
  pub data_payload : ValidHub (with_buffer (ready (split Zero pid.In Bulk 5 1) Data0 (1 ∷ [])))
  pub nak_payload : ¬ (ValidHub (with_buffer (ready (split Zero pid.In Bulk 5 1) Nak (1 ∷ []))))
  pub old_nak_payload : ¬ (ValidHub (with_buffer (old (split Zero pid.In Bulk 5 1) Nak (1 ∷ []))))
  -- what a buffer doesn't have is zero: the bytes behind a payload, and an empty buffer's payload
  pub zeros_behind : ValidHub (with_buffer (waiting_out (record { len = 1; bytes = 1 ∷ replicate 63 0 })))
  pub byte_behind : ¬ (ValidHub (with_buffer (waiting_out (record { len = 1; bytes = 1 ∷ 1 ∷ replicate 62 0 }))))
  pub empty_payload : ¬ (ValidHub (with_buffer (record { slot = Empty; payload = payload_of (1 ∷ []) })))

pub record TimersAsked : Type 0 where
  pub resetting_14 : ValidHub (with_port (port_with (Resetting Full 14) false))
  pub resetting_15 : ¬ (ValidHub (with_port (port_with (Resetting Full 15) false)))
  pub resuming_21 : ValidHub (with_port (port_with (Resuming Full 21) false))
  pub resuming_22 : ¬ (ValidHub (with_port (port_with (Resuming Full 22) false)))

pub record BuffersAsked : Type 0 where
  -- no key held twice: pending, or one of them old
  pub other_key : ValidHub (holding (waiting_in 0 5 1) (waiting_in 1 6 1) vacant Idle)
  pub same_key : ¬ (ValidHub (holding (waiting_in 0 5 1) (waiting_in 1 5 1) vacant Idle))
  pub same_key_old : ¬ (ValidHub (holding (waiting_in 0 5 1) (old (split Zero pid.In Bulk 5 1) Nak []) vacant Idle))
  -- keys that differ in the direction alone, or in the lane alone
  pub other_direction : ValidHub (holding (waiting_in 0 5 1) (pending_at 1 (split Zero pid.Out Bulk 5 1) []) vacant Idle)
  pub other_lane : ValidHub (holding (waiting_in 0 5 1) (pending_at 1 (split One pid.In Bulk 5 1) []) vacant Idle)
  -- no place held twice
  pub same_place : ¬ (ValidHub (holding (waiting_in 0 5 1) (waiting_in 0 6 1) vacant Idle))
  -- a running transaction, itself pending unless abandoned
  pub running : ValidHub (holding (waiting_in 0 5 1) vacant vacant (Running (record { 0 = 0 })))
  pub running_ready : ¬ (ValidHub (holding (ready (split Zero pid.In Bulk 5 1) Nak []) vacant vacant (Running (record { 0 = 0 }))))
  pub running_empty : ¬ (ValidHub (holding (waiting_in 0 5 1) vacant vacant (Running (record { 0 = 1 }))))
  pub running_nowhere : ¬ (ValidHub (holding (waiting_in 0 5 1) vacant vacant (Running (record { 0 = 3 }))))
  pub abandoned : ValidHub (holding vacant vacant vacant Abandoned)
  -- C-18: no lane holds all B buffers pending or ready
  pub two_of_three : ValidHub (holding (waiting_in 0 5 1) (waiting_in 1 6 1) (pending_at 2 (split One pid.In Bulk 7 1) []) Idle)
  pub all_pending : ¬ (ValidHub (holding (waiting_in 0 5 1) (waiting_in 1 6 1) (waiting_in 2 7 1) Idle))
  pub all_held : ¬ (ValidHub (holding (waiting_in 0 5 1) (waiting_in 1 6 1) (ready (split Zero pid.In Bulk 7 1) Nak []) Idle))

pub record ConfigurationAsked : Type 0 where
  pub none_not_configured : ValidHub (with_port (port_with PoweredOff false))
  pub one_not_configured : ¬ (ValidHub (with_port (port_with NotConfigured false)))
  pub all_not_configured : ValidHub (unconfigured (port_with NotConfigured false))
  pub one_powered_off : ¬ (ValidHub (unconfigured (port_with PoweredOff false)))

-- ---- what no clause excludes is taken, though no new hub comes to it

pub record OthersTaken : Type 0 where
  -- a result that doesn't suit the PID
  pub in_ack : ValidHub (with_buffer (ready (split Zero pid.In Bulk 5 1) Ack []))
  pub out_data : ValidHub (with_buffer (old (split Zero pid.Out Bulk 5 1) Data0 (1 ∷ 2 ∷ 3 ∷ [])))
  -- power on under over-current
  pub powered : ValidHub (with_port (port_with Disconnected true))
  -- a running transaction that isn't the one stored earliest
  pub later_runs : ValidHub (holding (waiting_in 0 5 1) (waiting_in 1 6 1) vacant (Running (record { 0 = 1 })))
  -- places that are no ranks
  pub far_place : ValidHub (with_buffer (waiting_in 200 5 1))
  -- an unconfigured hub that holds buffers, whose transaction runs, or that has an over-current level
  pub held_unconfigured : ValidHub (hub_with false (port_with NotConfigured false) NotConfigured (waiting_in 0 5 1) (old (split One pid.In Bulk 5 1) Nak []) vacant (Running (record { 0 = 0 })))
  pub level_unconfigured : ValidHub (unconfigured (port_with NotConfigured true))

-- ---- "A new hub is made from N, B, power-good time, hub current (both 0 to 255) and a removable byte whose bit 0 and bits above N are
-- zero"

pub record NewNumbers : Type 0 where
  pub least : new_fits 1 2 0 0 0 ≡ true
  pub most : new_fits 7 4 255 255 0xFE ≡ true
  pub no_port : new_fits 0 2 0 0 0 ≡ false
  pub eight_ports : new_fits 8 2 0 0 0 ≡ false
  pub one_buffer : new_fits 4 1 0 0 0 ≡ false
  pub five_buffers : new_fits 4 5 0 0 0 ≡ false
  pub power_good : new_fits 4 2 256 0 0 ≡ false
  pub current : new_fits 4 2 0 256 0 ≡ false
  pub removable_bit_0 : new_fits 4 2 0 0 1 ≡ false
  pub removable_bit_4 : new_fits 4 2 0 0 0x10 ≡ true
  pub removable_bit_5 : new_fits 4 2 0 0 0x20 ≡ false

pub record ValidCases : Type 0 where
  pub numbers : NumbersAsked
  pub payloads : PayloadsAsked
  pub timers : TimersAsked
  pub buffers : BuffersAsked
  pub configuration : ConfigurationAsked
  pub others : OthersTaken
  pub new : NewNumbers
