-- Players with one mistake each that break the replay: so it is not empty. A reader must believe: each is the player by value but for its
-- blocks, and the comment there says how.
use Rattle.std.specs.Prelude.{ℕ, zero, suc, List, [], ◌∷◌, ◌++◌, Bool, true, false, cond, ◌&&◌, leb, length, drop, None, Ok, Err, option_map, unwrap_or}
use Rattle.hub.specs.declared.Hub.{Hub}
use Rattle.hub.specs.Call.{Call}
use Rattle.runs.specs.History.{Event}
use Rattle.runs.specs.Machine.{rules, run_from}
use Rattle.call_bytes.specs.Read.{read_of, call_in}
use Rattle.recording.specs.declared.BlockFault.TheVariants.{BadLength, BadCheck, BadNumber, BadCount, BadRecord}
use Rattle.recording.specs.Written.{used_of}
use Rattle.recording.specs.Block.{Verdict, verdict_for, verdict_of, is_good, calls_at}
use Rattle.replay.specs.Answers.{answer_bytes}
use Rattle.replay.specs.Replay.{Played, played_calls, played_none, block_played, playing, ReplayExact, ReplayAddsUp}

-- the block's number isn't tested
unfoldable pub unnumbered : Hub → ℕ → List ℕ → Played Hub
unnumbered h p b = cond (is_good (verdict_for None b)) (played_calls h (calls_at b)) (played_none h (verdict_for None b))

abbrev pub is_bad_record : Verdict → Bool
is_bad_record (Ok u) = false
is_bad_record (Err BadLength) = false
is_bad_record (Err BadCheck) = false
is_bad_record (Err BadNumber) = false
is_bad_record (Err BadCount) = false
is_bad_record (Err BadRecord) = true

-- of at most n records, up to the first bad one
unfoldable pub calls_before : ℕ → List ℕ → List Call
calls_before zero l = []
calls_before (suc n) l = unwrap_or (option_map (λ r. call_in r l ∷ calls_before n (drop r.length l)) (read_of l)) []

abbrev pub with_verdict : Verdict → Played Hub → Played Hub
with_verdict v a = record { output = a.output; state = a.state; tally = a.tally; verdict = v }

-- of a block with a bad record the calls in front of it are made, and then it is refused
unfoldable pub before_bad : Hub → ℕ → List ℕ → Played Hub
before_bad h p b =
    cond (is_bad_record (verdict_of p b)) (with_verdict (Err BadRecord) (played_calls h (calls_before (length (used_of b)) (used_of b)))) (block_played h p b)

-- a block's start-splits that were answered are counted as emptied, and the other way round
abbrev pub swapped_in : Played Hub → Played Hub
swapped_in a =
    record {
      output = a.output;
      state = a.state;
      tally = record { stored = a.tally.stored; answered = a.tally.emptied; emptied = a.tally.answered };
      verdict = a.verdict;
    }

abbrev pub swapped : Hub → ℕ → List ℕ → Played Hub
swapped h p b = swapped_in (block_played h p b)

-- what a block's calls emptied isn't counted
abbrev pub uncounted_in : Played Hub → Played Hub
uncounted_in a =
    record {
      output = a.output;
      state = a.state;
      tally = record { stored = a.tally.stored; answered = a.tally.answered; emptied = 0 };
      verdict = a.verdict;
    }

abbrev pub uncounted : Hub → ℕ → List ℕ → Played Hub
uncounted h p b = uncounted_in (block_played h p b)

-- an answer 2 to 8 isn't written
unfoldable pub unrefused : List Event → List ℕ
unrefused [] = []
unrefused (e ∷ es) = cond (leb 2 e.answer.number && leb e.answer.number 8) [] (answer_bytes e.answer) ++ unrefused es

abbrev pub writing : List ℕ → Played Hub → Played Hub
writing l a = record { output = l; state = a.state; tally = a.tally; verdict = a.verdict }

unfoldable pub refusals_left_out : Hub → ℕ → List ℕ → Played Hub
refusals_left_out h p b =
    cond (is_good (verdict_of p b)) (writing (unrefused (run_from rules h (calls_at b))) (played_calls h (calls_at b))) (played_none h (verdict_of p b))

pub record ReplayMistakesShutOut : Type 0 where
  pub unnumbered_block : ¬ (ReplayExact (playing unnumbered))
  pub before_bad_lem : ¬ (ReplayExact (playing before_bad))
  pub swapped_counts : ¬ (ReplayExact (playing swapped))
  pub emptied_uncounted : ¬ (ReplayAddsUp (playing uncounted))
  pub refusals_left_out_lem : ¬ (ReplayExact (playing refusals_left_out))
