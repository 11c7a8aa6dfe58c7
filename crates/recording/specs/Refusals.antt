-- When a block is refused, and for what. A reader must believe: the five things that are right with a good block, in document 02's words, and
-- that the first of them that isn't is told.
use Rattle.std.specs.Prelude.{ℕ, ◌+◌, ◌%◌, ◌≤◌, ◌<◌, ◌≡◌, ◌↔◌, List, length, get_or, Ok, Err}
use Rattle.hub.specs.Call.{Call}
use Rattle.call_bytes.specs.Words.{half_at}
use Rattle.call_bytes.specs.Written.{Bytes}
use Rattle.recording.specs.declared.BlockFault.{BlockFault}
use Rattle.recording.specs.declared.BlockFault.TheVariants.{BadLength, BadCheck, BadNumber, BadCount, BadRecord}
use Rattle.recording.specs.Written.{written_all, AllFit, sum_to, count_of, used_of}
use Rattle.recording.specs.Block.{Verdict}

-- at most 506 bytes are used from 4 on, and unused bytes are zero
pub record CountRight (l : List ℕ) : Type 0 where
  pub few : count_of l ≤ 506
  pub zeros : (i : ℕ) → 4 + count_of l ≤ i → i < 510 → get_or l i 0 ≡ 0

-- the bytes used are the written forms of some calls, one behind the other
pub record RecordsRight (l : List ℕ) : Type 0 where
  pub calls : List Call
  pub fit : AllFit calls
  pub form : used_of l ≡ written_all calls

-- what a fault says isn't so, of the block l at the place p
abbrev pub Right : BlockFault → ℕ → List ℕ → Type 0
-- blocks of 512 bytes
Right BadLength p l = length l ≡ 512
-- the sum of all 256 little-endian words is zero modulo 65,536
Right BadCheck p l = sum_to l 256 % 65536 ≡ 0
-- the block number, from 1; no number is right for a place above 65,535
Right BadNumber p l = (1 ≤ p) × (half_at l 0 ≡ p)
Right BadCount p l = CountRight l
Right BadRecord p l = RecordsRight l

-- refusals are block length, check, number, count, record, in that order
abbrev pub Told : Verdict → ℕ → List ℕ → Type 0
Told (Err BadLength) p l = ¬ (Right BadLength p l)
Told (Err BadCheck) p l = Right BadLength p l × ¬ (Right BadCheck p l)
Told (Err BadNumber) p l = Right BadLength p l × (Right BadCheck p l × ¬ (Right BadNumber p l))
Told (Err BadCount) p l = Right BadLength p l × (Right BadCheck p l × (Right BadNumber p l × ¬ (Right BadCount p l)))
Told (Err BadRecord) p l = Right BadLength p l × (Right BadCheck p l × (Right BadNumber p l × (Right BadCount p l × ¬ (Right BadRecord p l))))
Told (Ok u) p l = Right BadLength p l × (Right BadCheck p l × (Right BadNumber p l × (Right BadCount p l × Right BadRecord p l)))

-- a verdict is given exactly if it is the one to be told
abbrev pub BlockRefusals : (ℕ → List ℕ → Verdict) → Type 0
BlockRefusals verdict = (v : Verdict) (p : ℕ) (l : List ℕ) → Bytes l → (verdict p l ≡ v) ↔ Told v p l
