-- Which start-splits are pending, and which of them a launch must give, from a run's calls and answers alone.
-- A reader must believe: a launch answered 1 gives the start-split stored earliest of those still pending; 3 only where none is; 8 exactly
-- if the low side is occupied.
use Rattle.std.specs.Prelude.{ℕ, ◌≤◌, ◌≡◌, List, [], ◌∷◌, Bool, true, false, cond, not, ◌&&◌, ◌||◌, ◌↔◌, length, eqb, Option, None, Some}
use Rattle.buffer.specs.declared.Lane.{Lane}
use Rattle.buffer.specs.declared.Pid.TheVariants as pid
use Rattle.buffer.specs.declared.Direction.TheVariants as direction
use Rattle.buffer.specs.Key.{same_lane}
use Rattle.translator.specs.Answers.{pid_number}
use Rattle.numbers.specs.Written.{direction_number}
use Rattle.numbers.specs.Named.{lane_from}
use Rattle.hub.specs.Call.{Call, Control, Poll, Start, Complete, Launch, Deliver, Event as LineEvent, Tick, BusReset, Answer}
use Rattle.runs.specs.History.{Event, History, Asks, nothing, starts, completes, launches, delivers, clears, resets, empties, asks, is_done, is_open, stores, last_stored, last_for, is_at, is_for}
use Rattle.runs.specs.Machine.{Machine, run}

-- the call with s calls before it
unfoldable pub call_at : History → ℕ → Option Call
call_at [] s = None
call_at (e ∷ h) s = cond (eqb s (length h)) (Some e.call) (call_at h s)

-- it is a start-split of the lane
abbrev pub is_from : Lane → Option Call → Bool
is_from l None = false
is_from l (Some (Control z s room)) = false
is_from l (Some (Poll z room)) = false
is_from l (Some (Start z p t f g a e x)) = same_lane (lane_from z) l
is_from l (Some (Complete z a e d room)) = false
is_from l (Some (Launch room)) = false
is_from l (Some (Deliver r x)) = false
is_from l (Some (LineEvent e n)) = false
is_from l (Some Tick) = false
is_from l (Some BusReset) = false

-- whether the start-split s is pending after a call, where w says whether it was before
unfoldable pub pending_after : Asks → Answer → History → ℕ → Bool → Bool
pending_after nothing a h s w = w
-- it is this one, and it is stored
pending_after (starts k) a h s w = (stores (starts k) a k (is_open h k) && eqb s (length h)) || w
pending_after (completes k) a h s w = w
pending_after launches a h s w = w
-- a delivery answered 0 is for it
pending_after (delivers r l) a h s w = not (is_done a && is_for (last_for h) s) && w
-- its buffer is emptied
pending_after (clears k) a h s w = not (is_done a && is_at (last_stored h k) s) && w
pending_after (resets z) a h s w = not (is_done a && is_from z (call_at h s)) && w
pending_after empties a h s w = not (is_done a) && w

unfoldable pub is_pending_at : History → ℕ → Bool
is_pending_at [] s = false
is_pending_at (e ∷ h) s = pending_after (asks e.call) e.answer h s (is_pending_at h s)

-- whether the low side is occupied after a call, where w says whether it was before
unfoldable pub occupied_after : Asks → Answer → Bool → Bool
occupied_after nothing a w = w
occupied_after (starts k) a w = w
occupied_after (completes k) a w = w
-- a launch answered 1 occupies it
occupied_after launches a w = eqb a.number 1 || w
-- a delivery answered 0 frees it
occupied_after (delivers r l) a w = not (is_done a) && w
-- ClearTTBuffer: if that one is running, the low side stays occupied; ResetTT of a lane does the same
occupied_after (clears k) a w = w
occupied_after (resets z) a w = w
-- Bus reset and an accepted SetConfiguration stop the low side at once.
occupied_after empties a w = not (is_done a) && w

unfoldable pub is_occupied : History → Bool
is_occupied [] = false
is_occupied (e ∷ h) = occupied_after (asks e.call) e.answer (is_occupied h)

-- The direction is IN for PID IN and OUT for the other two.
abbrev pub Directed : ℕ → ℕ → Type 0
Directed p d = (p ≡ pid_number pid.In → d ≡ direction_number direction.In) × (¬ (p ≡ pid_number pid.In) → d ≡ direction_number direction.Out)

-- the answer a gives key, PID, type, flag, toggle and payload of the earliest start-split that is pending
pub record Earliest (a : Answer) (h : History) : Type 0 where
  pub place : ℕ
  pub pending : is_pending_at h place ≡ true
  pub earliest : (s : ℕ) → is_pending_at h s ≡ true → place ≤ s
  pub gives : call_at h place ≡ Some (Start a.lane a.pid a.transfer a.lowspeed a.toggle a.address a.endpoint a.bytes)
  pub directed : Directed a.pid a.direction

abbrev pub NonePending : History → Type 0
NonePending h = (s : ℕ) → is_pending_at h s ≡ false

-- Launch: 8 if the low side is occupied, and only then. 7 comes first.
abbrev pub EightIfOccupied : Answer → History → Type 0
EightIfOccupied a h = ¬ (a.number ≡ 7) → (a.number ≡ 8) ↔ (is_occupied h ≡ true)

abbrev pub Ordered : Asks → Answer → History → Type 0
Ordered nothing a h = Unit {0}
Ordered (starts k) a h = Unit {0}
Ordered (completes k) a h = Unit {0}
Ordered launches a h = (a.number ≡ 1 → Earliest a h) × (a.number ≡ 3 → NonePending h) × EightIfOccupied a h
Ordered (delivers r l) a h = Unit {0}
Ordered (clears k) a h = Unit {0}
Ordered (resets z) a h = Unit {0}
Ordered empties a h = Unit {0}

-- each of the events es, which came after h
unfoldable pub AllOrdered : History → List Event → Type 0
AllOrdered h [] = Unit {0}
AllOrdered h (e ∷ es) = Ordered (asks e.call) e.answer h × AllOrdered (e ∷ h) es

abbrev pub LaunchOrder : Machine → Type 0
LaunchOrder w = (n : w.Made) (cs : List w.Asked) → AllOrdered [] (run w n cs)
