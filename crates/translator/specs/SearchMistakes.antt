-- Steps of the search with one mistake each. A reader must believe: each is `look` but for what its comment says; `OnePass` shuts it out.
use Rattle.std.specs.Prelude.{◌≡◌, cond, eqb}
use Rattle.buffer.specs.declared.Key.{Key}
use Rattle.buffer.specs.declared.Slot.{Slot}
use Rattle.buffer.specs.declared.BufferNumber.{BufferNumber}
use Rattle.buffer.specs.declared.Standing.{Standing}
use Rattle.buffer.specs.declared.Standing.TheVariants.{Busy, Free, Holds, Reusable}
use Rattle.buffer.specs.Standing.{standing}
use Rattle.buffer.specs.Buffer.{in_lane, active_in}
use Rattle.translator.specs.declared.Carried.{Carried}
use Rattle.translator.specs.declared.Carried.TheVariants.{NoneYet, LowestFree, OwnOld, Repeat}
use Rattle.bools.specs.Bit.{bit}
use Rattle.translator.specs.OnePass.{past, counted, look, Looking, OnePass}

-- `look` with another way past a buffer
abbrev pub look_by : (Carried → BufferNumber → Standing → Carried) → Looking
look_by p c n s k = counted (bit (active_in k.lane s)) (p c n (standing k s))

-- the highest-numbered empty or old one is carried
abbrev pub latest : Carried → BufferNumber → Carried
latest (NoneYet h) n = LowestFree n h
latest (LowestFree m h) n = LowestFree n h
latest (OwnOld m h) n = OwnOld m h
latest (Repeat m) n = Repeat m

abbrev pub highest_free : Carried → BufferNumber → Standing → Carried
highest_free c n Busy = past c n Busy
highest_free c n Free = latest c n
highest_free c n Holds = past c n Holds
highest_free c n Reusable = past c n Reusable

-- with an empty or old one in hand, no key is looked for
abbrev pub stops_at_free : Carried → BufferNumber → Standing → Carried
stops_at_free (NoneYet h) n s = past (NoneYet h) n s
stops_at_free (LowestFree m h) n s = LowestFree m h
stops_at_free (OwnOld m h) n s = past (OwnOld m h) n s
stops_at_free (Repeat m) n s = past (Repeat m) n s

-- an old one with the key is like any other old one
abbrev pub own_old_unseen : Carried → BufferNumber → Standing → Carried
own_old_unseen c n Busy = past c n Busy
own_old_unseen c n Free = past c n Free
own_old_unseen c n Holds = past c n Holds
own_old_unseen c n Reusable = past c n Free

-- past a repeat the number of the last buffer is carried
abbrev pub number_lost : Carried → BufferNumber → Standing → Carried
number_lost (NoneYet h) n s = past (NoneYet h) n s
number_lost (LowestFree m h) n s = past (LowestFree m h) n s
number_lost (OwnOld m h) n s = past (OwnOld m h) n s
number_lost (Repeat m) n s = Repeat n

-- buffer 0 is not looked at
abbrev pub first_skipped : Looking
first_skipped c n s k = cond (eqb n.0 0) c (look c n s k)

-- the buffers of the lane are not counted
abbrev pub uncounted : Looking
uncounted c n s k = past c n (standing k s)

-- old ones are counted too
abbrev pub old_counted : Looking
old_counted c n s k = counted (bit (in_lane k.lane s)) (past c n (standing k s))

pub record SearchMistakesShutOut : Type 0 where
  -- (with the way past a buffer that is right, the step is `look`)
  pub own : (c : Carried) (n : BufferNumber) (s : Slot) (k : Key) → look_by past c n s k ≡ look c n s k
  pub highest_free_lem : ¬ (OnePass (look_by highest_free))
  pub stops_at_free_lem : ¬ (OnePass (look_by stops_at_free))
  pub own_old_unseen_lem : ¬ (OnePass (look_by own_old_unseen))
  pub number_lost_lem : ¬ (OnePass (look_by number_lost))
  pub first_skipped_lem : ¬ (OnePass first_skipped)
  pub uncounted : ¬ (OnePass uncounted)
  pub old_counted_lem : ¬ (OnePass old_counted)
