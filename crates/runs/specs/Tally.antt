-- The tally over a history: which start-splits were stored, which a complete-split answered, which were emptied before that, from calls and
-- answers alone; and how many buffers are pending or ready now. A start-split is named by the number of events before it.
-- A reader must believe: these are the words of request C-19, over document 01's "stored", "open" and "for".
use Rattle.std.specs.Prelude.{ℕ, zero, suc, ◌+◌, ◌≡◌, List, [], ◌∷◌, Bool, false, not, ◌&&◌, ◌||◌, length, eqb}
use Rattle.buffer.specs.Buffer.{is_active}
use Rattle.bools.specs.Bit.{bit}
use Rattle.translator.specs.Translator.{tally}
use Rattle.hub.specs.declared.Hub.{Hub}
use Rattle.hub.specs.Call.{Answer}
use Rattle.runs.specs.History.{Event, History, Asks, nothing, starts, completes, launches, delivers, clears, resets, empties, asks, is_done, gives_result, is_open, stores, last_stored, is_at}
use Rattle.runs.specs.Order.{call_at, is_from}
use Rattle.runs.specs.Machine.{Machine, run, after_from}

-- ---- what one call does to the start-split s, h being what came before

-- it is stored: answered 0, and its key isn't open
unfoldable pub stores_it : Asks → Answer → History → ℕ → Bool
stores_it nothing a h s = false
stores_it (starts k) a h s = stores (starts k) a k (is_open h k) && eqb s (length h)
stores_it (completes k) a h s = false
stores_it launches a h s = false
stores_it (delivers r l) a h s = false
stores_it (clears k) a h s = false
stores_it (resets z) a h s = false
stores_it empties a h s = false

-- a complete-split answered 1 or 9 is for the start-split last stored under its key
unfoldable pub answers_it : Asks → Answer → History → ℕ → Bool
answers_it nothing a h s = false
answers_it (starts k) a h s = false
answers_it (completes k) a h s = gives_result a && is_at (last_stored h k) s
answers_it launches a h s = false
answers_it (delivers r l) a h s = false
answers_it (clears k) a h s = false
answers_it (resets z) a h s = false
answers_it empties a h s = false

-- ClearTTBuffer answered 0 empties the buffer of its key; ResetTT answered 0 its lane's buffers; bus reset, and SetConfiguration answered 0,
-- all
unfoldable pub empties_it : Asks → Answer → History → ℕ → Bool
empties_it nothing a h s = false
empties_it (starts k) a h s = false
empties_it (completes k) a h s = false
empties_it launches a h s = false
empties_it (delivers r l) a h s = false
empties_it (clears k) a h s = is_done a && is_at (last_stored h k) s
empties_it (resets z) a h s = is_done a && is_from z (call_at h s)
empties_it empties a h s = is_done a

-- ---- what became of the start-split s

unfoldable pub is_stored_at : History → ℕ → Bool
is_stored_at [] s = false
is_stored_at (e ∷ h) s = stores_it (asks e.call) e.answer h s || is_stored_at h s

unfoldable pub is_answered_at : History → ℕ → Bool
is_answered_at [] s = false
is_answered_at (e ∷ h) s = answers_it (asks e.call) e.answer h s || is_answered_at h s

-- emptied, while it was stored and not answered
unfoldable pub is_emptied_at : History → ℕ → Bool
is_emptied_at [] s = false
is_emptied_at (e ∷ h) s = (empties_it (asks e.call) e.answer h s && (is_stored_at h s && not (is_answered_at h s))) || is_emptied_at h s

-- stored, and neither answered nor emptied
abbrev pub waits_at : History → ℕ → Bool
waits_at h s = is_stored_at h s && (not (is_answered_at h s) && not (is_emptied_at h s))

-- ---- the tally

-- how many numbers below n pass a test
unfoldable pub count_to : (ℕ → Bool) → ℕ → ℕ
count_to f zero = 0
count_to f (suc n) = bit (f n) + count_to f n

pub record Tally : Type 0 where
  pub stored : ℕ
  pub answered : ℕ
  pub emptied : ℕ

unfoldable pub tally_of : History → Tally
tally_of h =
    record {
      stored = count_to (is_stored_at h) (length h);
      answered = count_to (is_answered_at h) (length h);
      emptied = count_to (is_emptied_at h) (length h);
    }

-- buffers pending or ready
abbrev pub active_buffers : Hub → ℕ
active_buffers h = tally is_active h.translator.buffers

-- the events of a run as a history, the latest first, behind what came before
unfoldable pub past : History → List Event → History
past h [] = h
past h (e ∷ es) = past (e ∷ h) es

-- Start-splits stored equal those that a complete-split answered 1 or 9, plus those emptied before that, plus those pending or ready now.
abbrev pub TallyHolds : (w : Machine) → (w.State → ℕ) → Type 0
TallyHolds w active =
    (n : w.Made) (cs : List w.Asked)
    → (tally_of (past [] (run w n cs))).stored
    ≡ (tally_of (past [] (run w n cs))).answered + (tally_of (past [] (run w n cs))).emptied + active (after_from w (w.new n) cs)
