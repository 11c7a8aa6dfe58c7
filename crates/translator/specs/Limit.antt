-- The limit of a lane. A reader must believe: each lane may hold at most B minus 1 buffers pending or ready; a repeat of a key held
-- pending or ready is still ACK; a start-split whose storing would pass the limit, in its own old buffer too, is answer 3, and the limit
-- is named before no room.
use Rattle.std.specs.Prelude.{ℕ, ◌+◌, ◌≤◌, ◌≡◌, Bool, true, false, List, ltb, take}
use Rattle.buffer.specs.declared.Lane.{Lane}
use Rattle.buffer.specs.declared.Key.{Key}
use Rattle.buffer.specs.declared.Buffer.{Buffer}
use Rattle.buffer.specs.Buffer.{is_active, holds, active_in}
use Rattle.translator.specs.declared.Translator.{Translator}
use Rattle.translator.specs.declared.Choice.{Choice}
use Rattle.translator.specs.declared.Choice.TheVariants.{NoRoom, LimitReached, Held, Reused, Took}
use Rattle.translator.specs.Translator.{at, tally}
use Rattle.translator.specs.Search.{chosen}

-- how many buffers the lane l holds pending or ready
abbrev pub held_by : Lane → List Buffer → ℕ
held_by l bs = tally (active_in l) bs

-- with one more, a lane that holds n of b buffers is at B minus 1 or below
abbrev pub may_store : ℕ → ℕ → Bool
may_store b n = ltb (n + 1) b

-- what is chosen, where the lane may store or may not
abbrev pub limited : Bool → Choice → Choice
limited true c = c
limited false NoRoom = LimitReached
limited false LimitReached = LimitReached
limited false (Held n) = Held n
limited false (Reused n) = LimitReached
limited false (Took n) = LimitReached

-- what a start-split under the key k does, of the b buffers bs
unfoldable pub permitted : ℕ → Key → List Buffer → Choice
permitted b k bs = limited (may_store b (held_by k.lane bs)) (chosen k bs)

-- ---- the same of a translator, in the request's words

-- with one more of the B buffers pending or ready, the lane would hold more than B minus 1
abbrev pub AtLimit : Lane → Translator → Type 0
AtLimit l t = t.count ≤ held_by l (take t.count t.buffers) + 1

-- no buffer that has the key k is pending or ready
abbrev pub NoRepeat : Key → Translator → Type 0
NoRepeat k t = (i : ℕ) → holds k (at t.buffers i).slot ≡ true → is_active (at t.buffers i).slot ≡ false
