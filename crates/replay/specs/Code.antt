-- Internal, pinned by `ReplayClaims` (Replay.antt) and `EntryReplays` (crate `grimholdi_replay`): what the code gives of a block, and its tally
-- as the definitions' tally.
use Rattle.std.specs.Prelude.{ℕ, cond, List, length, Option, Some, None}
use Rattle.hub.specs.declared.Hub.{Hub}
use Rattle.runs.specs.Tally.{Tally}
use Rattle.replay.specs.declared.Counts.{Counts}
use Rattle.replay.specs.declared.Block.{Block}
use Rattle.replay.specs.Replay.{Played, block_played}
use Rattle.replay.specs.Answers.{is_enough, put_first}

abbrev pub tally_in : Counts → Tally
tally_in c = record { stored = c.stored; answered = c.answered; emptied = c.emptied }

abbrev pub counts_of : Tally → Counts
counts_of t = record { stored = t.stored; answered = t.answered; emptied = t.emptied }

abbrev pub gives : Played Hub → Block
gives a = record { hub = a.state; verdict = a.verdict; counts = counts_of a.tally; written = length a.output }

-- the block b at the place p, on the hub h, with so much room for answers
unfoldable pub block_gives : Hub → ℕ → List ℕ → ℕ → Option Block
block_gives h p b room = cond (is_enough room) (Some (gives (block_played h p b))) None

unfoldable pub block_writes : Hub → ℕ → List ℕ → List ℕ → List ℕ
block_writes h p b o = cond (is_enough (length o)) (put_first (block_played h p b).output o) o
