-- Entries on areas that no new hub comes to and that are taken: a held result that doesn't suit its PID, which is answer 8 to a delivery and no
-- number or length outside the rules. A reader must believe: these are the answers of document 01.
use Rattle.std.specs.Prelude.{ℕ, ◌≡◌, List, [], ◌∷◌, replicate}
use Rattle.buffer.specs.declared.Lane.TheVariants.{Zero}
use Rattle.buffer.specs.declared.Pid.TheVariants as pid
use Rattle.buffer.specs.declared.TransferType.TheVariants.{Bulk}
use Rattle.buffer.specs.declared.StartSplit.{StartSplit}
use Rattle.buffer.specs.declared.DeviceResult.TheVariants.{Ack, Data0}
use Rattle.hub.specs.declared.Hub.{Hub}
use Rattle.hub.specs.Call.{pid_answer}
use Rattle.area.specs.Written.{written}
use Rattle.area.specs.Cases.{with_buffer, split, ready, old}
use Rattle.grimholdi.specs.Entry.{struct_of}
use Rattle.grimholdi.specs.Asked.{Asked, complete_split, gives}

-- bulk IN and bulk OUT, device 5, endpoint 1, lane 0
abbrev pub in_split : StartSplit
in_split = split Zero pid.In Bulk 5 1

abbrev pub out_split : StartSplit
out_split = split Zero pid.Out Bulk 5 1

-- configured hubs with this buffer 0
abbrev pub ready_in_ack : Hub
ready_in_ack = with_buffer (ready in_split Ack [])

abbrev pub old_in_ack : Hub
old_in_ack = with_buffer (old in_split Ack [])

abbrev pub old_out_data : Hub
old_out_data = with_buffer (old out_split Data0 (1 ∷ 2 ∷ 3 ∷ []))

abbrev pub sevens : ℕ → List ℕ
sevens n = replicate n 7

-- the complete-splits of those two
abbrev pub complete_in : Asked
complete_in = complete_split 0 5 1 1 (sevens 64)

abbrev pub complete_out : Asked
complete_out = complete_split 0 5 1 0 (sevens 64)

pub record EntryCases : Type 0 where
  -- its complete-split answers 9 with ACK (2), and the buffer is old; then the same again
  pub in_ack : gives (written ready_in_ack) complete_in
      ≡ record { answer = struct_of (pid_answer 9 2 []); area = written old_in_ack; reply = sevens 64 }
  pub in_ack_again : gives (written old_in_ack) complete_in
      ≡ record { answer = struct_of (pid_answer 9 2 []); area = written old_in_ack; reply = sevens 64 }
  -- its complete-split answers 1 with DATA0 (3) and the 3 bytes
  pub out_data : gives (written old_out_data) complete_out
      ≡ record { answer = struct_of (pid_answer 1 3 (1 ∷ 2 ∷ 3 ∷ [])); area = written old_out_data; reply = 1 ∷ 2 ∷ 3 ∷ sevens 61 }
