-- Replay of a recording. A reader must believe: what is replayed and tallied is the run, from the new hub, of the calls of all blocks before
-- the first bad one, each answer is written whole, in order, and the first bad block is named with its place and what is wrong with it.
use Rattle.std.specs.Prelude.{ℕ, ◌+◌, ◌≡◌, List, [], ◌∷◌, ◌++◌, cond, length}
use Rattle.hub.specs.declared.Hub.{Hub}
use Rattle.hub.specs.Call.{Call}
use Rattle.runs.specs.Machine.{Numbers, new_hub_of, rules, run, run_from, after_from}
use Rattle.runs.specs.Tally.{Tally, tally_of, past, active_buffers}
use Rattle.call_bytes.specs.Written.{Bytes}
use Rattle.recording.specs.Block.{Verdict, Good, verdict_of, is_good, calls_at}
use Rattle.recording.specs.Written.{block_of, Writable, IsBlock}
use Rattle.replay.specs.Answers.{answers_in}
use Rattle.replay.specs.Counting.{no_tally, plus, tallied}

-- a recording: its blocks in order, each as it was read
abbrev pub Recording : Type 0
Recording = List (List ℕ)

-- the calls before the first bad block, where the first block has the place p
unfoldable pub calls_from : ℕ → Recording → List Call
calls_from p [] = []
calls_from p (b ∷ bs) = cond (is_good (verdict_of p b)) (calls_at b ++ calls_from (p + 1) bs) []

-- what is wrong with the first bad block, and its place; Good, with the place behind the last, if there is none
pub record Stop : Type 0 where
  pub verdict : Verdict
  pub place : ℕ

unfoldable pub stop_from : ℕ → Recording → Stop
stop_from p [] = record { verdict = Good; place = p }
stop_from p (b ∷ bs) = cond (is_good (verdict_of p b)) (stop_from (p + 1) bs) (record { verdict = verdict_of p b; place = p })

-- all that a replay gives, where S is what holds the hub
pub record Replayed (S : Type 0) : Type 0 where
  pub output : List ℕ
  pub state : S
  pub tally : Tally
  pub stop : Stop

abbrev pub replay_of : Numbers → Recording → Replayed Hub
replay_of n bs =
    record {
      output = answers_in (run rules n (calls_from 1 bs));
      state = after_from rules (new_hub_of n) (calls_from 1 bs);
      tally = tally_of (past [] (run rules n (calls_from 1 bs)));
      stop = stop_from 1 bs;
    }

-- ---- block by block

-- what one block gives: what is written, the state that it leaves, its part of the tally, and Good or what is wrong with it
pub record Played (S : Type 0) : Type 0 where
  pub output : List ℕ
  pub state : S
  pub tally : Tally
  pub verdict : Verdict

-- a way to replay one block: by value, through the C entry, or with a mistake
pub record Player : Type 1 where
  pub State : Type 0
  -- what a new one is made from, and the numbers in it
  pub Made : Type 0
  pub numbers : Made → Numbers
  pub new : Made → State
  pub hub : State → Hub
  -- one block, at its place
  pub block : State → ℕ → List ℕ → Played State

-- a block, then what is behind it, unless the block is bad
abbrev pub and_then : {S : Type 0} → ℕ → Played S → Replayed S → Replayed S
and_then p a r =
    cond (is_good a.verdict) (record { output = a.output ++ r.output; state = r.state; tally = plus a.tally r.tally; stop = r.stop })
    (record { output = a.output; state = a.state; tally = a.tally; stop = record { verdict = a.verdict; place = p } })

-- block after block, from the place p on, up to the first that is bad
unfoldable pub replay_from : (w : Player) → w.State → ℕ → Recording → Replayed w.State
replay_from w s p [] = record { output = []; state = s; tally = no_tally; stop = record { verdict = Good; place = p } }
replay_from w s p (b ∷ bs) = and_then p (w.block s p b) (replay_from w (w.block s p b).state (p + 1) bs)

abbrev pub seen_as : (w : Player) → Replayed w.State → Replayed Hub
seen_as w r = record { output = r.output; state = w.hub r.state; tally = r.tally; stop = r.stop }

-- block by block gives the replay of the recording
abbrev pub ReplayExact : Player → Type 0
ReplayExact w = (m : w.Made) (bs : Recording) → seen_as w (replay_from w (w.new m) 1 bs) ≡ replay_of (w.numbers m) bs

-- start-splits stored equal those answered, plus those emptied before that, plus those pending or ready now
abbrev pub ReplayAddsUp : Player → Type 0
ReplayAddsUp w = (m : w.Made) (bs : Recording) → let r = replay_from w (w.new m) 1 bs in
    r.tally.stored ≡ r.tally.answered + r.tally.emptied + active_buffers (w.hub r.state)

-- ---- by value, as the code goes

-- a good block: all its calls are run
abbrev pub played_calls : Hub → List Call → Played Hub
played_calls h cs =
    record { output = answers_in (run_from rules h cs); state = after_from rules h cs; tally = tallied h cs no_tally; verdict = Good }

-- a bad one: none is
abbrev pub played_none : Hub → Verdict → Played Hub
played_none h v = record { output = []; state = h; tally = no_tally; verdict = v }

unfoldable pub block_played : Hub → ℕ → List ℕ → Played Hub
block_played h p b = cond (is_good (verdict_of p b)) (played_calls h (calls_at b)) (played_none h (verdict_of p b))

-- a player on hubs by value, with this way to replay a block
abbrev pub playing : (Hub → ℕ → List ℕ → Played Hub) → Player
playing block = record { State = Hub; Made = Numbers; numbers = λ n. n; new = new_hub_of; hub = λ h. h; block = block }

abbrev pub by_value : Player
by_value = playing block_played

-- ---- what was recorded

-- calls block by block, from the place p on, as a recording
unfoldable pub blocks_of : ℕ → List (List Call) → Recording
blocks_of p [] = []
blocks_of p (cs ∷ css) = block_of p cs ∷ blocks_of (p + 1) css

unfoldable pub AllWritable : ℕ → List (List Call) → Type 0
AllWritable p [] = Unit {0}
AllWritable p (cs ∷ css) = Writable p cs × AllWritable (p + 1) css

-- one block's calls behind the other's
unfoldable pub joined : List (List Call) → List Call
joined [] = []
joined (cs ∷ css) = cs ++ joined css

pub record RecordedReplays (p : ℕ) (css : List (List Call)) : Type 0 where
  -- all of it is replayed, and nothing is refused
  pub calls : calls_from p (blocks_of p css) ≡ joined css
  pub good : stop_from p (blocks_of p css) ≡ record { verdict = Good; place = p + length css }
  -- a block behind it that is the written form of no calls is refused at its place, and what is behind that is not replayed
  pub bad : (b : List ℕ) (bs : Recording) → Bytes b → ((cs : List Call) → ¬ (IsBlock (p + length css) cs b))
      → (calls_from p (blocks_of p css ++ (b ∷ bs)) ≡ joined css) × ((stop_from p (blocks_of p css ++ (b ∷ bs))).place ≡ p + length css)

pub record ReplayClaims : Type 0 where
  pub exact : ReplayExact by_value
  pub adds_up : ReplayAddsUp by_value
  pub recorded : (css : List (List Call)) → AllWritable 1 css → RecordedReplays 1 css
