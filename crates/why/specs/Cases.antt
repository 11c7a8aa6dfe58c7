-- Reasons on the bench hub of document 01: four ports, three buffers. A reader can check each by hand.
use Rattle.std.specs.Prelude.{ℕ, ◌≡◌, true, false, List, [], ◌∷◌, ◌++◌}
use Rattle.buffer.specs.declared.BufferNumber.{BufferNumber}
use Rattle.port.specs.declared.Changes.{Changes}
use Rattle.port.specs.Reaction.{no_changes}
use Rattle.hub.specs.Call.{Call, Control, Poll, Launch}
use Rattle.hub.specs.Cases.{hub_with, set_configuration1, set_power, set_port_feature, attach_full, port_error, start_from, start_in, complete_in, reset_from, deliver_data0, p4, p7, p11, p12}
use Rattle.runs.specs.Machine.{rules, after_from}
use Rattle.why.specs.declared.RequestFault.TheVariants as wrong
use Rattle.why.specs.declared.PortChanges.{PortChanges}
use Rattle.why.specs.declared.Reason.{Reason}
use Rattle.why.specs.declared.Reason.TheVariants.{Nothing, Number, HeldBy, Reused, TookFree, LimitReached, NoRoom, Changed, Wrong}
use Rattle.why.specs.Why.{why_of}

-- why this call, after these
abbrev pub why_after : List Call → Call → Reason
why_after cs c = why_of (after_from rules (hub_with 3) cs) c

abbrev pub buffer : ℕ → BufferNumber
buffer n = record { 0 = n }

-- C_PORT_CONNECTION alone, and with C_PORT_ENABLE and C_PORT_RESET
abbrev pub connected : Changes
connected = record { connection = true; enable = false; suspend = false; overcurrent = false; reset = false }

abbrev pub failed_after_reset : Changes
failed_after_reset = record { connection = true; enable = true; suspend = false; overcurrent = false; reset = true }

-- these change bits at ports 2 and 4, and no others
abbrev pub at_ports2_and4 : Changes → Changes → PortChanges
at_ports2_and4 two four =
    record { port1 = no_changes; port2 = two; port3 = no_changes; port4 = four; port5 = no_changes; port6 = no_changes; port7 = no_changes }

-- buffer 1 is old under lane 0's (5,1), and lane 0 holds two others
abbrev pub old_above : List Call
old_above =
    set_configuration1 ∷ start_from 1 5 1 ∷ start_in 5 1 ∷ start_in 6 1 ∷ Launch 64 ∷ deliver_data0 [] ∷ Launch 64 ∷ deliver_data0 [] ∷ complete_in 5 1
    ∷ reset_from 1 ∷ start_in 7 1 ∷ []

pub record WhyCases : Type 0 where
  -- P1 new hub, poll: 5; reply space 63 is 7 all the same
  pub silent : why_after [] (Poll 0 64) ≡ Number 5
  pub short : why_after [] (Poll 0 63) ≡ Number 7
  -- lane 2 is 6 before that; a launch while one runs is 8
  pub outside : why_after [] (Poll 2 63) ≡ Number 6
  pub misplaced : why_after (set_configuration1 ∷ start_in 5 1 ∷ Launch 64 ∷ []) (Launch 64) ≡ Number 8
  -- P4
  pub polled : why_after p4.calls (Poll 0 64) ≡ Changed (at_ports2_and4 connected no_changes)
  -- P7, a port error at port 2, and a device at port 4: each port and change bit
  pub polled_more :
      why_after (p7.calls ++ port_error 2 ∷ set_power 4 ∷ attach_full 4 ∷ []) (Poll 1 64) ≡ Changed (at_ports2_and4 failed_after_reset connected)
  pub quiet : why_after (set_configuration1 ∷ []) (Poll 0 64) ≡ Nothing
  -- P11: lane 0 holds two of three buffers
  pub limit : why_after p11.calls (start_in 7 1) ≡ LimitReached
  -- a key of the other lane is another key
  pub other_lane : why_after p11.calls (start_from 1 6 1) ≡ TookFree (buffer 2)
  -- all three are pending: lane 1 has no room, and lane 0 is at its limit all the same
  pub no_room : why_after (p11.calls ++ start_from 1 6 1 ∷ []) (start_from 1 7 1) ≡ NoRoom
  pub limit_before_no_room_lem : why_after (p11.calls ++ start_from 1 6 1 ∷ []) (start_in 7 1) ≡ LimitReached
  -- in its own old buffer too; a repeat is none
  pub limit_old : why_after old_above (start_in 5 1) ≡ LimitReached
  pub limit_repeat : why_after old_above (start_in 7 1) ≡ HeldBy (buffer 0)
  pub held : why_after p11.calls (start_in 6 1) ≡ HeldBy (buffer 1)
  -- P12: buffer 0 is old under (5,1)
  pub reused : why_after p12.calls (start_in 5 1) ≡ Reused (buffer 0)
  pub took_old : why_after p12.calls (start_in 7 1) ≡ TookFree (buffer 0)
  pub took_empty : why_after (set_configuration1 ∷ start_in 5 1 ∷ []) (start_in 6 1) ≡ TookFree (buffer 1)
  -- a feature that isn't settable at a port that isn't there: unconfigured comes first, then value, then index
  pub unconfigured : why_after [] (set_port_feature 3 5) ≡ Wrong wrong.Unconfigured
  pub value : why_after (set_configuration1 ∷ []) (set_port_feature 3 5) ≡ Wrong wrong.Value
  pub index : why_after (set_configuration1 ∷ []) (set_power 5) ≡ Wrong wrong.Index
  pub size : why_after [] (Control 0 (0x80 ∷ 0x08 ∷ 0 ∷ 0 ∷ 0 ∷ 0 ∷ 2 ∷ 0 ∷ []) 64) ≡ Wrong wrong.Length
  pub code : why_after [] (Control 0 (0x80 ∷ 0x09 ∷ 7 ∷ 0 ∷ 0 ∷ 0 ∷ 0 ∷ 0 ∷ []) 64) ≡ Wrong wrong.TypeOrCode
  -- other answers: a request served, a complete-split answered 2 or 4, a launch answered 3
  pub served : why_after (set_configuration1 ∷ []) (set_power 4) ≡ Nothing
  pub no_match : why_after p11.calls (complete_in 7 1) ≡ Nothing
  pub not_yet : why_after p11.calls (complete_in 5 1) ≡ Nothing
  pub none_pending : why_after (set_configuration1 ∷ []) (Launch 64) ≡ Nothing
