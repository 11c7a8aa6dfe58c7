-- Blocks worked out by hand from docs/CALLS.md.
use Rattle.std.specs.Prelude.{ℕ, ◌-◌, ◌≡◌, List, [], ◌∷◌, ◌++◌, length, take, replicate, Err}
use Rattle.hub.specs.Call.{Tick}
use Rattle.recording.specs.declared.BlockFault.TheVariants.{BadLength, BadCheck, BadNumber, BadCount, BadRecord}
use Rattle.recording.specs.Block.{Good, verdict_of, calls_at}
use Rattle.recording.specs.Written.{block_of}

-- the first bytes, zeros, and the last two
abbrev pub bytes : List ℕ → List ℕ → List ℕ
bytes a z = a ++ (replicate (510 - length a) 0 ++ z)

-- block 1 with one record, a tick: 0001h + 0001h + 0008h + FFF6h is 10000h
abbrev pub tick_block : List ℕ
tick_block = bytes (1 ∷ 0 ∷ 1 ∷ 0 ∷ 8 ∷ []) (246 ∷ 255 ∷ [])

pub record BlockCases : Type 0 where
  pub tick_written : block_of 1 (Tick ∷ []) ≡ tick_block
  pub tick_good : verdict_of 1 tick_block ≡ Good
  pub tick_calls : calls_at tick_block ≡ Tick ∷ []
  -- a block without records
  pub empty_good : verdict_of 1 (bytes (1 ∷ []) (255 ∷ 255 ∷ [])) ≡ Good
  -- a byte less
  pub cut : verdict_of 1 (take 511 tick_block) ≡ Err BadLength
  -- another last byte
  pub damaged : verdict_of 1 (bytes (1 ∷ 0 ∷ 1 ∷ 0 ∷ 8 ∷ []) (246 ∷ 254 ∷ [])) ≡ Err BadCheck
  -- at another place; at place 65,537, which 16 bits can't tell from 1; number 0 at place 0
  pub misplaced : verdict_of 2 tick_block ≡ Err BadNumber
  pub too_many : verdict_of 65537 tick_block ≡ Err BadNumber
  pub place_zero : verdict_of 0 (bytes [] (0 ∷ 0 ∷ [])) ≡ Err BadNumber
  -- a count of 507 (01FBh), with its check
  pub count_507 : verdict_of 1 (bytes (1 ∷ 0 ∷ 251 ∷ 1 ∷ []) (4 ∷ 254 ∷ [])) ≡ Err BadCount
  -- a byte behind the tick
  pub unused : verdict_of 1 (bytes (1 ∷ 0 ∷ 1 ∷ 0 ∷ 8 ∷ 9 ∷ []) (246 ∷ 246 ∷ [])) ≡ Err BadCount
  -- tag 10
  pub no_record : verdict_of 1 (bytes (1 ∷ 0 ∷ 1 ∷ 0 ∷ 10 ∷ []) (244 ∷ 255 ∷ [])) ≡ Err BadRecord
  -- number and count are wrong: the number is told
  pub number_first_lem : verdict_of 2 (bytes (1 ∷ 0 ∷ 251 ∷ 1 ∷ []) (4 ∷ 254 ∷ [])) ≡ Err BadNumber
  -- check and number are wrong: the check is told
  pub check_first : verdict_of 2 (bytes (1 ∷ 0 ∷ 1 ∷ 0 ∷ 8 ∷ []) (246 ∷ 254 ∷ [])) ≡ Err BadCheck
