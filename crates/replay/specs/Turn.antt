-- Internal, pinned by `ReplayClaims` (Replay.antt): what the code promises of a block's records, one record and all of them.
use Rattle.std.specs.Prelude.{ℕ, ◌+◌, ◌*◌, ◌<◌, ◌≤◌, ◌^◌, ◌≡◌, true, List, ◌++◌, length, take, drop, Some, is_some}
use Rattle.hub.specs.declared.Hub.{Hub}
use Rattle.hub.specs.Call.{Call}
use Rattle.hub.specs.Step.{step}
use Rattle.runs.specs.Machine.{rules, run_from, after_from}
use Rattle.runs.specs.Tally.{active_buffers}
use Rattle.call_bytes.specs.declared.Recorded.{Recorded}
use Rattle.call_bytes.specs.Read.{read_of, call_in}
use Rattle.recording.specs.Calls.{calls_of, listed}
use Rattle.replay.specs.declared.Counts.{Counts}
use Rattle.replay.specs.declared.Ran.{Ran}
use Rattle.replay.specs.Answers.{answer_bytes, answers_in}
use Rattle.replay.specs.Counting.{no_tally, is_complete, tallied_by, tallied}
use Rattle.replay.specs.Code.{tally_in}

-- n more fit each of the three counts
pub record CountsFit (c : Counts) (n : ℕ) : Type 0 where
  pub stored : c.stored + n < 2 ^ 32
  pub answered : c.answered + n < 2 ^ 32
  pub emptied : c.emptied + n < 2 ^ 32

-- b has at most n more than a in each
pub record AtMost (a b : Counts) (n : ℕ) : Type 0 where
  pub stored : b.stored ≤ a.stored + n
  pub answered : b.answered ≤ a.answered + n
  pub emptied : b.emptied ≤ a.emptied + n

-- the record taken stands there, and its answer fits
pub record TurnFits (ran : Ran) (taken : Recorded) (l : List ℕ) (room : ℕ) : Type 0 where
  pub used : length l ≤ 506
  pub there : read_of (drop ran.at l) ≡ Some taken
  pub few : ran.written ≤ 74 * ran.at
  pub space : ran.written + 74 ≤ room
  pub counts : CountsFit ran.counts 4

-- the call of a record that stands at a byte
abbrev pub call_there : Recorded → ℕ → List ℕ → Call
call_there taken at l = call_in taken (drop at l)

pub record Turned (ran : Ran) (taken : Recorded) (r : Ran) (l o o' : List ℕ) : Type 0 where
  pub hub : r.hub ≡ (step ran.hub (call_there taken ran.at l)).next
  pub tally : tally_in r.counts
      ≡ tallied_by (is_complete (call_there taken ran.at l)) (active_buffers ran.hub) (active_buffers (step ran.hub (call_there taken ran.at l)).next)
      (tally_in ran.counts)
  pub most : AtMost ran.counts r.counts 4
  pub at : r.at ≡ ran.at + taken.length
  pub written : r.written ≡ ran.written + length (answer_bytes (step ran.hub (call_there taken ran.at l)).answer)
  pub short : r.written ≤ ran.written + 74
  pub out : o' ≡ take ran.written o ++ (answer_bytes (step ran.hub (call_there taken ran.at l)).answer
      ++ drop (length (answer_bytes (step ran.hub (call_there taken ran.at l)).answer)) (drop ran.written o))

-- used bytes that are records, and an output with room for an answer for each byte
pub record RunFits (l : List ℕ) (room : ℕ) : Type 0 where
  pub used : length l ≤ 506
  pub records : is_some (calls_of l) ≡ true
  pub space : 74 * length l ≤ room

-- all calls were run in order, each answer was written whole, behind the one before
pub record RanAll (h₀ : Hub) (r : Ran) (l o o' : List ℕ) : Type 0 where
  pub hub : r.hub ≡ after_from rules h₀ (listed (calls_of l))
  pub tally : tally_in r.counts ≡ tallied h₀ (listed (calls_of l)) no_tally
  pub most : AtMost (record { stored = 0; answered = 0; emptied = 0 }) r.counts (4 * length l)
  pub written : r.written ≡ length (answers_in (run_from rules h₀ (listed (calls_of l))))
  pub short : r.written ≤ 74 * length l
  pub out : o' ≡ answers_in (run_from rules h₀ (listed (calls_of l))) ++ drop (length (answers_in (run_from rules h₀ (listed (calls_of l))))) o
