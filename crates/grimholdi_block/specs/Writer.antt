-- What is shown of the writing entries. A reader must believe: a block under way is a block with zero in place of its number, and its number in
-- place of its check.
use Rattle.std.specs.Prelude.{ℕ, ◌+◌, ◌<◌, ◌≤◌, ◌≡◌, List, [], ◌∷◌, ◌++◌, length}
use Rattle.hub.specs.Call.{Call}
use Rattle.call_bytes.specs.Words.{half, half_at}
use Rattle.call_bytes.specs.Written.{written, Bytes, Fits}
use Rattle.recording.specs.Written.{written_all, count_of, unchecked, block_of, Writable}
use Rattle.recording.specs.Block.{Good, verdict_of}
use Rattle.grimholdi_block.specs.Writing.{Wrote, wrote, start_entry, add_entry, finish_entry}

-- the calls cs in a block under way, which will be the block at the place p
unfoldable pub under_way : ℕ → List Call → List ℕ
under_way p cs = unchecked 0 (written_all cs) ++ half p

-- r is the written form of the call c
pub record IsRecord (c : Call) (r : List ℕ) : Type 0 where
  pub fits : Fits c
  pub form : r ≡ written c

-- a block is under way in the memory l: 512 bytes, no number yet, one that waits in the last two, and a count that fits
pub record UnderWay (l : List ℕ) : Type 0 where
  pub long : length l ≡ 512
  pub unnumbered : half_at l 0 ≡ 0
  pub waiting : 1 ≤ half_at l 510
  pub few : count_of l ≤ 506

-- the records of the calls cs added, one after the other
unfoldable pub add_all : List ℕ → List Call → List ℕ
add_all l [] = l
add_all l (c ∷ cs) = add_all (add_entry l (written c)).block cs

abbrev pub Keeps : List ℕ → Wrote → Type 0
Keeps l w = ¬ (w.answer ≡ 0) → w.block ≡ l

pub record WriterExact : Type 0 where
  -- started: memory of 512 bytes and a number from 1 to 65,535; else 6
  pub started : (p : ℕ) (l : List ℕ) → length l ≡ 512 → 1 ≤ p → p ≤ 65535 → start_entry l p ≡ wrote 0 (under_way p [])
  pub not_started : (p : ℕ) (l : List ℕ) → ¬ ((length l ≡ 512) × ((1 ≤ p) × (p ≤ 65535))) → start_entry l p ≡ wrote 6 l
  -- a record is added if it fits behind the others; else 3
  pub added : (p : ℕ) (cs : List Call) (c : Call) (r : List ℕ) → Writable p cs → IsRecord c r → length (written_all cs) + length r ≤ 506
      → add_entry (under_way p cs) r ≡ wrote 0 (under_way p (cs ++ (c ∷ [])))
  -- so in any memory with a block under way
  pub fits : (l : List ℕ) (c : Call) (r : List ℕ) → UnderWay l → IsRecord c r → count_of l + length r ≤ 506 → (add_entry l r).answer ≡ 0
  pub full : (l : List ℕ) (c : Call) (r : List ℕ) → UnderWay l → IsRecord c r → 506 < count_of l + length r → add_entry l r ≡ wrote 3 l
  -- no block under way: 6, whatever is added
  pub nowhere : (l r : List ℕ) → ¬ (UnderWay l) → add_entry l r ≡ wrote 6 l
  -- bytes that are the written form of no call: 6, whatever the memory holds
  pub no_record : (l r : List ℕ) → Bytes r → ((c : Call) → ¬ (IsRecord c r)) → add_entry l r ≡ wrote 6 l
  -- a block under way is finished as the written form of its calls
  pub finished : (p : ℕ) (cs : List Call) → Writable p cs → finish_entry (under_way p cs) ≡ wrote 0 (block_of p cs)
  -- and nothing else is finished, whatever the memory holds
  pub not_finished : (l : List ℕ) → Bytes l → ((p : ℕ) (cs : List Call) → Writable p cs → ¬ (l ≡ under_way p cs)) → finish_entry l ≡ wrote 6 l
  -- a block that was never finished is good at no place
  pub unfinished : (l : List ℕ) (p : ℕ) → UnderWay l → ¬ (verdict_of p l ≡ Good)
  -- started, calls added in order and finished, memory of 512 bytes is the written form of those calls
  pub whole : (p : ℕ) (cs : List Call) (l : List ℕ) → length l ≡ 512 → Writable p cs
      → finish_entry (add_all (start_entry l p).block cs) ≡ wrote 0 (block_of p cs)
  -- answers other than 0 change nothing
  pub start_keeps : (l : List ℕ) (p : ℕ) → Keeps l (start_entry l p)
  pub add_keeps : (l r : List ℕ) → Keeps l (add_entry l r)
  pub finish_keeps : (l : List ℕ) → Keeps l (finish_entry l)
