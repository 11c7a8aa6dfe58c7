-- Demand 3. A reader must believe: the two halves below are its words.
use Rattle.std.specs.Prelude.{ℕ, ◌≡◌, List, [], ◌∷◌, Bool, true, length, Option, Some}
use Rattle.buffer.specs.declared.Lane.{Lane}
use Rattle.buffer.specs.declared.Key.{Key}
use Rattle.buffer.specs.Same.{same_key}
use Rattle.buffer.specs.Key.{same_lane, direction_of}
use Rattle.numbers.specs.Named.{lane_from, pid_from}
use Rattle.hub.specs.Call.{Call, Start, Deliver, Answer}
use Rattle.runs.specs.History.{Event, History, Asks, nothing, starts, completes, launches, delivers, clears, resets, empties, key_of, asks, answer_key, last_stored, For, last_for, delivered_to}
use Rattle.runs.specs.Machine.{Machine, new_hub_of, run}

-- ---- first half: whatever the marked bytes are, they show nowhere else

-- The marked keys: a test of keys. One key is a case, every key of a lane another.
abbrev pub Marks : Type 0
Marks = Key → Bool

abbrev pub only_key : Key → Marks
only_key m k = same_key k m

abbrev pub every_key_of : Lane → Marks
every_key_of z k = same_lane k.lane z

-- Two calls of the two runs: the same but for payload bytes in start-splits to a marked key and in results delivered for one (l is what the
-- first run's last launch answered 1 was for); lengths and kinds agree.
pub data SameCall (m : Marks) (l : Option For) : Call → Call → Type 0 where
  same : (c : Call) → SameCall m l c c
  start : (z p t f g a e : ℕ) (x y : List ℕ) → m (key_of (lane_from z) a e (direction_of (pid_from p))) ≡ true → length x ≡ length y
      → SameCall m l (Start z p t f g a e x) (Start z p t f g a e y)
  deliver : (r : ℕ) (x y : List ℕ) (s : For) → l ≡ Some s → m s.key ≡ true → length x ≡ length y
      → SameCall m l (Deliver r x) (Deliver r y)

unfoldable pub SameCalls : Marks → History → List Event → List Event → Type 0
SameCalls m h [] [] = Unit {0}
SameCalls m h [] (f ∷ fs) = ⊥
SameCalls m h (e ∷ es) [] = ⊥
SameCalls m h (e ∷ es) (f ∷ fs) = SameCall m (last_for h) e.call f.call × SameCalls m (e ∷ h) es fs

-- payload bytes launched for a marked key or answered to complete-splits for it
abbrev pub Excepted : Marks → Asks → Answer → Type 0
Excepted m nothing a = ⊥
Excepted m (starts k) a = ⊥
Excepted m (completes k) a = m k ≡ true
Excepted m launches a = m (answer_key a) ≡ true
Excepted m (delivers r l) a = ⊥
Excepted m (clears k) a = ⊥
Excepted m (resets z) a = ⊥
Excepted m empties a = ⊥

pub record SameAnswer (m : Marks) (c : Call) (a b : Answer) : Type 0 where
  pub number : a.number ≡ b.number
  pub pid : a.pid ≡ b.pid
  pub transfer : a.transfer ≡ b.transfer
  pub lane : a.lane ≡ b.lane
  pub address : a.address ≡ b.address
  pub endpoint : a.endpoint ≡ b.endpoint
  pub direction : a.direction ≡ b.direction
  pub lowspeed : a.lowspeed ≡ b.lowspeed
  pub toggle : a.toggle ≡ b.toggle
  pub size : length a.bytes ≡ length b.bytes
  pub bytes : ¬ (Excepted m (asks c) a) → a.bytes ≡ b.bytes

unfoldable pub SameAnswers : Marks → List Event → List Event → Type 0
SameAnswers m [] [] = Unit {0}
SameAnswers m [] (f ∷ fs) = ⊥
SameAnswers m (e ∷ es) [] = ⊥
SameAnswers m (e ∷ es) (f ∷ fs) = SameAnswer m e.call e.answer f.answer × SameAnswers m es fs

-- Take any two runs on equal new hubs that hold the same calls in the same order, but for those bytes. Then each call has the same answer
-- in both, except those bytes.
abbrev pub Hidden : (w : Machine) → Marks → Type 0
Hidden w m =
    (n k : w.Made) (cs ds : List w.Asked) → new_hub_of (w.numbers n) ≡ new_hub_of (w.numbers k)
    → SameCalls m [] (run w n cs) (run w k ds) → SameAnswers m (run w n cs) (run w k ds)

-- whatever keys are marked
abbrev pub SetHidden : Machine → Type 0
SetHidden w = (m : Marks) → Hidden w m

-- one key
abbrev pub MarkHidden : Machine → Type 0
MarkHidden w = (m : Key) → Hidden w (only_key m)

-- every key of a lane: no payload byte of the lane z shows in any answer but to its own complete-splits, and in its own launches
abbrev pub LaneHidden : Machine → Type 0
LaneHidden w = (z : Lane) → Hidden w (every_key_of z)

-- ---- second half: a data answer holds exactly the bytes delivered for the latest start-split stored under its key

-- A complete-split answered 1 gives DATA0 or DATA1, n and the bytes of the only data delivery answered 0 for the start-split last stored
-- under its key by then.
abbrev pub Explained : Asks → Answer → History → Type 0
Explained nothing a h = Unit {0}
Explained (starts k) a h = Unit {0}
Explained (completes k) a h = a.number ≡ 1 → delivered_to h (last_stored h k) ≡ record { pid = a.pid; bytes = a.bytes } ∷ []
Explained launches a h = Unit {0}
Explained (delivers r l) a h = Unit {0}
Explained (clears k) a h = Unit {0}
Explained (resets z) a h = Unit {0}
Explained empties a h = Unit {0}

-- each of the events es, which came after h
unfoldable pub AllExplained : History → List Event → Type 0
AllExplained h [] = Unit {0}
AllExplained h (e ∷ es) = Explained (asks e.call) e.answer h × AllExplained (e ∷ h) es

abbrev pub DataExplained : Machine → Type 0
DataExplained w = (n : w.Made) (cs : List w.Asked) → AllExplained [] (run w n cs)

pub record Demand3 (w : Machine) : Type 0 where
  pub set_hidden : SetHidden w
  pub mark_hidden : MarkHidden w
  pub lane_hidden : LaneHidden w
  pub data_explained : DataExplained w
