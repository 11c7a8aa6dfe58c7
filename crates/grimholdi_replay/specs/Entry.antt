-- What the replaying entry returns, and what it leaves in the area and in the answers' space, for any bytes and any place. A reader must
-- believe: an area that isn't taken answers 6, too little space 7, and nothing changes; else the block is replayed on the hub that is read.
use Rattle.std.specs.Prelude.{ℕ, cond, List, length, Ok, Err, is_some}
use Rattle.hub.specs.declared.Hub.{Hub}
use Rattle.runs.specs.Tally.{active_buffers}
use Rattle.area.specs.Written.{written}
use Rattle.area.specs.Read.{read_of, hub_read}
use Rattle.recording.specs.declared.BlockFault.{BlockFault}
use Rattle.recording.specs.declared.BlockFault.TheVariants.{BadLength, BadCheck, BadNumber, BadCount, BadRecord}
use Rattle.recording.specs.Block.{Verdict}
use Rattle.replay.specs.Replay.{Played, block_played}
use Rattle.replay.specs.Answers.{is_enough, put_first}
use Rattle.grimholdi_replay.specs.declared.Replayed.{Replayed}

-- in the order of the tests
abbrev pub fault_number : BlockFault → ℕ
fault_number BadLength = 1
fault_number BadCheck = 2
fault_number BadNumber = 3
fault_number BadCount = 4
fault_number BadRecord = 5

abbrev pub refusal_number : Verdict → ℕ
refusal_number (Ok u) = 0
refusal_number (Err f) = fault_number f

-- a number alone
abbrev pub plain_replayed : ℕ → Replayed
plain_replayed n = record { number = n; refusal = 0; active = 0; stored = 0; answered = 0; emptied = 0; length = 0 }

abbrev pub replayed_as : Played Hub → Replayed
replayed_as a =
    record {
      number = 0;
      refusal = refusal_number a.verdict;
      active = active_buffers a.state;
      stored = a.tally.stored;
      answered = a.tally.answered;
      emptied = a.tally.emptied;
      length = length a.output;
    }

-- what the entry returns and leaves
pub record ReplayOutcome : Type 0 where
  pub answer : Replayed
  pub area : List ℕ
  pub answers : List ℕ

abbrev pub refused : ℕ → List ℕ → List ℕ → ReplayOutcome
refused n a o = record { answer = plain_replayed n; area = a; answers = o }

abbrev pub carried_out : Played Hub → List ℕ → ReplayOutcome
carried_out x o = record { answer = replayed_as x; area = written x.state; answers = put_first x.output o }

-- the block b at the place p, on the area a, with the answers' space o
unfoldable pub block_entry : List ℕ → ℕ → List ℕ → List ℕ → ReplayOutcome
block_entry a p b o =
    cond (is_some (read_of a)) (cond (is_enough (length o)) (carried_out (block_played (hub_read a) p b) o) (refused 7 a o)) (refused 6 a o)
