-- What the limit of a lane buys. A reader must believe: a start-split holds a buffer pending or ready while it is stored and neither answered
-- nor emptied (Tally.antt); so these are, of calls and answers alone, the words: a lane never holds more than B minus 1, and a start-split
-- of a lane that holds none is never answered 3.
use Rattle.std.specs.Prelude.{ℕ, ◌<◌, ◌≡◌, List, [], ◌∷◌, Bool, ◌&&◌, length}
use Rattle.buffer.specs.declared.Lane.{Lane}
use Rattle.hub.specs.Call.{Answer}
use Rattle.runs.specs.History.{Event, History, Asks, nothing, starts, completes, launches, delivers, clears, resets, empties, asks}
use Rattle.runs.specs.Order.{call_at, is_from}
use Rattle.runs.specs.Machine.{Machine, run}
use Rattle.runs.specs.Tally.{waits_at, count_to, past}

-- the start-split s is one of the lane, and waits: stored, and neither answered nor emptied
abbrev pub holds_at : Lane → History → ℕ → Bool
holds_at z h s = is_from z (call_at h s) && waits_at h s

-- how many buffers the lane holds pending or ready
abbrev pub holding : Lane → History → ℕ
holding z h = count_to (holds_at z h) (length h)

-- a start-split of a lane that holds none is never answered 3
abbrev pub Shared : Asks → Answer → History → Type 0
Shared nothing a h = Unit {0}
Shared (starts k) a h = holding k.lane h ≡ 0 → ¬ (a.number ≡ 3)
Shared (completes k) a h = Unit {0}
Shared launches a h = Unit {0}
Shared (delivers r l) a h = Unit {0}
Shared (clears k) a h = Unit {0}
Shared (resets z) a h = Unit {0}
Shared empties a h = Unit {0}

-- each of the events es, which came after h
unfoldable pub AllShared : History → List Event → Type 0
AllShared h [] = Unit {0}
AllShared h (e ∷ es) = Shared (asks e.call) e.answer h × AllShared (e ∷ h) es

pub record LaneShare (w : Machine) : Type 0 where
  -- at most B minus 1, after any calls
  pub few : (z : Lane) (n : w.Made) (cs : List w.Asked) → holding z (past [] (run w n cs)) < (w.numbers n).buffers
  pub served : (n : w.Made) (cs : List w.Asked) → AllShared [] (run w n cs)
