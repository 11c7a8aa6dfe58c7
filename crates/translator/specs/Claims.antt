-- What is shown of the translator's rules. A reader must believe the rules and these statements; the proofs are in proofs/.
use Rattle.std.specs.Prelude.{ℕ, ◌≤◌, ◌<◌, ◌≡◌, true, false, List, length, Ok, Err}
use Rattle.payload.specs.Payload.{payload_of}
use Rattle.buffer.specs.declared.Lane.{Lane}
use Rattle.buffer.specs.declared.Key.{Key}
use Rattle.buffer.specs.declared.StartSplit.{StartSplit}
use Rattle.buffer.specs.declared.DeviceResult.{DeviceResult}
use Rattle.buffer.specs.declared.Slot.TheVariants.{Pending, Old}
use Rattle.buffer.specs.declared.Buffer.{Buffer}
use Rattle.buffer.specs.declared.BufferNumber.{BufferNumber}
use Rattle.buffer.specs.Key.{key_of}
use Rattle.buffer.specs.Lengths.{start_fits}
use Rattle.buffer.specs.Buffer.{vacant, is_pending, is_active, holds, in_lane}
use Rattle.translator.specs.declared.LowSide.TheVariants.{Idle, Running, Abandoned}
use Rattle.translator.specs.declared.Translator.{Translator}
use Rattle.translator.specs.declared.Choice.TheVariants.{LimitReached, Held, Reused, Took}
use Rattle.translator.specs.declared.NotLaunched.TheVariants.{NothingPending}
use Rattle.translator.specs.Translator.{at, new_translator, emptied}
use Rattle.translator.specs.Valid.{at_place, ValidTranslator}
use Rattle.translator.specs.Order.{ranked}
use Rattle.translator.specs.Limit.{AtLimit, NoRepeat}
use Rattle.translator.specs.StartSplit.{start_split}
use Rattle.translator.specs.CompleteSplit.{complete_split}
use Rattle.translator.specs.Launch.{launch}
use Rattle.translator.specs.Deliver.{deliver}
use Rattle.translator.specs.Clear.{clear_buffer}
use Rattle.translator.specs.ResetLane.{reset_lane}
use Rattle.translator.specs.Answers.{is_refusal, start_number, complete_number, launch_number, deliver_number}

-- a new translator is valid, and every call leaves a valid one valid
pub record StaysValid : Type 0 where
  pub new : (n : ℕ) → 2 ≤ n → n ≤ 4 → ValidTranslator (new_translator n)
  pub start : (t : Translator) (s : StartSplit) (l : List ℕ) → ValidTranslator t → ValidTranslator (start_split t s l).next
  pub complete : (t : Translator) (k : Key) → ValidTranslator t → ValidTranslator (complete_split t k).next
  pub launched : (t : Translator) → ValidTranslator t → ValidTranslator (launch t).next
  pub delivered : (t : Translator) (r : DeviceResult) (l : List ℕ) → ValidTranslator t → ValidTranslator (deliver t r l).next
  pub cleared : (t : Translator) (k : Key) → ValidTranslator t → ValidTranslator (clear_buffer t k)
  pub reset : (t : Translator) (l : Lane) → ValidTranslator t → ValidTranslator (reset_lane t l)
  pub empty : (t : Translator) → ValidTranslator t → ValidTranslator (emptied t)

-- a refused call leaves the translator as it was
pub record RefusedSame : Type 0 where
  pub start : (t : Translator) (s : StartSplit) (l : List ℕ) → is_refusal (start_number (start_split t s l).answer) ≡ true → (start_split t s l).next ≡ t
  pub complete : (t : Translator) (k : Key) → is_refusal (complete_number (complete_split t k).answer) ≡ true → (complete_split t k).next ≡ t
  pub launched : (t : Translator) → is_refusal (launch_number (launch t).answer) ≡ true → (launch t).next ≡ t
  pub delivered : (t : Translator) (r : DeviceResult) (l : List ℕ) → is_refusal (deliver_number (deliver t r l).answer) ≡ true → (deliver t r l).next ≡ t

-- numbering the places anew by rank keeps their order
abbrev pub RanksKeepOrder : Type 0
RanksKeepOrder =
    (bs : List Buffer) (i j p q p' q' : ℕ) → at_place p (at bs i).slot ≡ true → at_place q (at bs j).slot ≡ true → p < q
    → at_place p' (at (ranked bs) i).slot ≡ true → at_place q' (at (ranked bs) j).slot ≡ true → p' < q'

-- a launch gives the start-split of the pending buffer with the least place, which then runs
pub record Least (t : Translator) (s : StartSplit) : Type 0 where
  pub number : BufferNumber
  pub place : ℕ
  pub pending : (at t.buffers number.0).slot ≡ Pending s place
  pub least : (j q : ℕ) → at_place q (at t.buffers j).slot ≡ true → place ≤ q
  pub runs : (launch t).next.low ≡ Running number
  pub payload : (launch t).payload ≡ (at t.buffers number.0).payload

pub record LaunchesEarliest : Type 0 where
  pub gives : (t : Translator) (s : StartSplit) → ValidTranslator t → (launch t).answer ≡ Ok s → Least t s
  pub nothing : (t : Translator) → ValidTranslator t → (launch t).answer ≡ Err NothingPending → (j : ℕ) → is_pending (at t.buffers j).slot ≡ false

-- a stored start-split is in the buffer that was chosen, with its payload, behind all others in the order of acceptance
pub record Last (t : Translator) (s : StartSplit) (l : List ℕ) (n : BufferNumber) : Type 0 where
  pub place : ℕ
  pub stored : at (start_split t s l).next.buffers n.0 ≡ record { slot = Pending s place; payload = payload_of l }
  pub last : (j q : ℕ) → at_place q (at (start_split t s l).next.buffers j).slot ≡ true → ¬ (j ≡ n.0) → q < place

pub record StoredLast : Type 0 where
  pub reused : (t : Translator) (s : StartSplit) (l : List ℕ) (n : BufferNumber) → (start_split t s l).answer ≡ Ok (Reused n) → Last t s l n
  pub took : (t : Translator) (s : StartSplit) (l : List ℕ) (n : BufferNumber) → (start_split t s l).answer ≡ Ok (Took n) → Last t s l n

-- a complete-split gives the same again, ..
abbrev pub SameAgain : Type 0
SameAgain = (t : Translator) (k : Key) → complete_split (complete_split t k).next k ≡ complete_split t k

-- .. and an old buffer stays as it is until a start-split takes it or it is emptied
pub record OldKept : Type 0 where
  pub start : (t : Translator) (s o : StartSplit) (r : DeviceResult) (l : List ℕ) (i : ℕ) → (at t.buffers i).slot ≡ Old o r
      → ¬ ((start_split t s l).answer ≡ Ok (Reused (record { 0 = i }))) → ¬ ((start_split t s l).answer ≡ Ok (Took (record { 0 = i })))
      → at (start_split t s l).next.buffers i ≡ at t.buffers i
  pub complete : (t : Translator) (k : Key) (o : StartSplit) (r : DeviceResult) (i : ℕ) → (at t.buffers i).slot ≡ Old o r
      → at (complete_split t k).next.buffers i ≡ at t.buffers i
  pub launched : (t : Translator) (i : ℕ) → at (launch t).next.buffers i ≡ at t.buffers i
  pub delivered : (t : Translator) (x : DeviceResult) (l : List ℕ) (o : StartSplit) (r : DeviceResult) (i : ℕ) → (at t.buffers i).slot ≡ Old o r
      → at (deliver t x l).next.buffers i ≡ at t.buffers i

-- a delivery while abandoned changes no buffer
abbrev pub AbandonedDropped : Type 0
AbandonedDropped = (t : Translator) (r : DeviceResult) (l : List ℕ) → t.low ≡ Abandoned → (deliver t r l).next.buffers ≡ t.buffers

-- The limit of a lane, exactly: a start-split is refused for it where storing would pass it and is no repeat, whatever other buffer is old
-- or empty, ..
pub record LaneLimit : Type 0 where
  pub reached : (t : Translator) (s : StartSplit) (l : List ℕ) → ValidTranslator t → (start_split t s l).answer ≡ Ok LimitReached
      → AtLimit s.lane t × NoRepeat (key_of s) t
  pub refused : (t : Translator) (s : StartSplit) (l : List ℕ) → ValidTranslator t → start_fits s (length l) ≡ true
      → AtLimit s.lane t → NoRepeat (key_of s) t → (start_split t s l).answer ≡ Ok LimitReached
  -- .. and a repeat of a key held pending or ready is answered as ever
  pub repeated : (t : Translator) (s : StartSplit) (l : List ℕ) (n : BufferNumber) → ValidTranslator t → start_fits s (length l) ≡ true
      → holds (key_of s) (at t.buffers n.0).slot ≡ true → is_active (at t.buffers n.0).slot ≡ true → (start_split t s l).answer ≡ Ok (Held n)

-- ResetTT from a lane
pub record LaneReset : Type 0 where
  pub empties : (t : Translator) (l : Lane) (i : ℕ) → in_lane l (at t.buffers i).slot ≡ true → at (reset_lane t l).buffers i ≡ vacant
  pub kept : (t : Translator) (l : Lane) (i : ℕ) → in_lane l (at t.buffers i).slot ≡ false → at (reset_lane t l).buffers i ≡ at t.buffers i
  pub abandoned : (t : Translator) (l : Lane) (n : BufferNumber) → t.low ≡ Running n → in_lane l (at t.buffers n.0).slot ≡ true → (reset_lane t l).low ≡ Abandoned
  pub runs_on : (t : Translator) (l : Lane) (n : BufferNumber) → t.low ≡ Running n → in_lane l (at t.buffers n.0).slot ≡ false → (reset_lane t l).low ≡ Running n
  pub idle : (t : Translator) (l : Lane) → t.low ≡ Idle → (reset_lane t l).low ≡ Idle
  pub stays_abandoned : (t : Translator) (l : Lane) → t.low ≡ Abandoned → (reset_lane t l).low ≡ Abandoned

pub record TranslatorClaims : Type 0 where
  pub stays_valid : StaysValid
  pub refused_same : RefusedSame
  pub ranks_keep_order : RanksKeepOrder
  pub launches_earliest : LaunchesEarliest
  pub stored_last : StoredLast
  pub same_again : SameAgain
  pub old_kept : OldKept
  pub abandoned_dropped : AbandonedDropped
  pub lane_limit : LaneLimit
  pub lane_reset : LaneReset
