-- The search of one start-split, worked out by hand: what is carried past each buffer, and the choice. It comes in lane 0, for IN of
-- device 5, endpoint 1; each row has its B buffers. A reader must believe: each row says what document 01 and C-18 say of its buffers.
use Rattle.std.specs.Prelude.{ℕ, suc, ◌≡◌, List, [], ◌∷◌, map, length}
use Rattle.buffer.specs.declared.Lane.TheVariants.{Zero, One}
use Rattle.buffer.specs.declared.Pid.TheVariants as pid
use Rattle.buffer.specs.declared.StartSplit.{StartSplit}
use Rattle.buffer.specs.declared.DeviceResult.TheVariants.{Ack, Data0}
use Rattle.buffer.specs.declared.Slot.{Slot}
use Rattle.buffer.specs.declared.Slot.TheVariants.{Empty, Pending, Ready, Old}
use Rattle.buffer.specs.declared.BufferNumber.{BufferNumber}
use Rattle.buffer.specs.Key.{key_of}
use Rattle.translator.specs.declared.Carried.{Carried}
use Rattle.translator.specs.declared.Carried.TheVariants.{NoneYet, LowestFree, OwnOld, Repeat}
use Rattle.translator.specs.declared.Choice.{Choice}
use Rattle.translator.specs.declared.Choice.TheVariants.{NoRoom, LimitReached, Held, Reused, Took}
use Rattle.translator.specs.Slots.{bare}
use Rattle.translator.specs.Limit.{permitted}
use Rattle.translator.specs.OnePass.{look, carried_by, choice_of}
use Rattle.translator.specs.Cases.{split_in}

-- the one that comes
abbrev pub own : StartSplit
own = split_in Zero pid.In 5 1

-- others of its lane: two devices, and OUT of the same endpoint
abbrev pub second : StartSplit
second = split_in Zero pid.In 6 1

abbrev pub third : StartSplit
third = split_in Zero pid.In 7 1

abbrev pub outward : StartSplit
outward = split_in Zero pid.Out 5 1

-- of the other lane: the same pipe, and another device
abbrev pub across : StartSplit
across = split_in One pid.In 5 1

abbrev pub across2 : StartSplit
across2 = split_in One pid.In 6 1

abbrev pub b0 : BufferNumber
b0 = record { 0 = 0 }

abbrev pub b1 : BufferNumber
b1 = record { 0 = 1 }

abbrev pub b2 : BufferNumber
b2 = record { 0 = 2 }

abbrev pub b3 : BufferNumber
b3 = record { 0 = 3 }

pub record Row : Type 0 where
  pub slots : List Slot
  pub carried : List Carried
  pub choice : Choice

-- ---- the rows

-- no key match: the lowest-numbered empty one
abbrev pub all_empty : Row
all_empty = record { slots = Empty ∷ Empty ∷ []; carried = LowestFree b0 0 ∷ LowestFree b0 0 ∷ []; choice = Took b0 }

-- .. or old one
abbrev pub old_before_empty : Row
old_before_empty =
    record {
      slots = Pending across 0 ∷ Old second Data0 ∷ Empty ∷ [];
      carried = NoneYet 0 ∷ LowestFree b1 0 ∷ LowestFree b1 0 ∷ [];
      choice = Took b1;
    }

-- its key is held behind an empty buffer: a repeat, and nothing is taken
abbrev pub repeat_behind_empty : Row
repeat_behind_empty =
    record {
      slots = Empty ∷ Pending own 0 ∷ Old second Data0 ∷ [];
      carried = LowestFree b0 0 ∷ Repeat b1 ∷ Repeat b1 ∷ [];
      choice = Held b1;
    }

-- its own old buffer, behind another old one and an empty one
abbrev pub old_behind_others : Row
old_behind_others =
    record {
      slots = Old second Data0 ∷ Empty ∷ Old own Data0 ∷ [];
      carried = LowestFree b0 0 ∷ LowestFree b0 0 ∷ OwnOld b2 0 ∷ [];
      choice = Reused b2;
    }

-- a key is lane, address, endpoint, direction
abbrev pub near_misses : Row
near_misses =
    record {
      slots = Ready outward Ack ∷ Ready across Data0 ∷ Old second Data0 ∷ Empty ∷ [];
      carried = NoneYet 1 ∷ NoneYet 1 ∷ LowestFree b2 1 ∷ LowestFree b2 1 ∷ [];
      choice = Took b2;
    }

-- the key in the last of four
abbrev pub repeat_in_last : Row
repeat_in_last =
    record {
      slots = Pending across 0 ∷ Old second Data0 ∷ Pending third 1 ∷ Ready own Data0 ∷ [];
      carried = NoneYet 0 ∷ LowestFree b1 0 ∷ LowestFree b1 1 ∷ Repeat b3 ∷ [];
      choice = Held b3;
    }

-- every buffer is pending or ready under another key, and the lane is below its limit
abbrev pub no_room : Row
no_room =
    record {
      slots = Pending second 0 ∷ Ready across Data0 ∷ Pending across2 1 ∷ [];
      carried = NoneYet 1 ∷ NoneYet 1 ∷ NoneYet 1 ∷ [];
      choice = NoRoom;
    }

-- the limit is named before no room
abbrev pub limit_before_no_room : Row
limit_before_no_room =
    record {
      slots = Pending second 0 ∷ Pending third 1 ∷ Ready across Data0 ∷ [];
      carried = NoneYet 1 ∷ NoneYet 2 ∷ NoneYet 2 ∷ [];
      choice = LimitReached;
    }

-- at the limit an empty buffer isn't taken
abbrev pub empty_at_limit : Row
empty_at_limit = record { slots = Pending second 0 ∷ Empty ∷ []; carried = NoneYet 1 ∷ LowestFree b1 1 ∷ []; choice = LimitReached }

-- nor the own old one reused
abbrev pub own_old_at_limit : Row
own_old_at_limit =
    record {
      slots = Old own Data0 ∷ Pending second 0 ∷ Ready third Data0 ∷ [];
      carried = OwnOld b0 0 ∷ OwnOld b0 1 ∷ OwnOld b0 2 ∷ [];
      choice = LimitReached;
    }

-- one below it the own old one is
abbrev pub own_old_below_limit : Row
own_old_below_limit =
    record {
      slots = Old own Data0 ∷ Pending second 0 ∷ Ready across Data0 ∷ [];
      carried = OwnOld b0 0 ∷ OwnOld b0 1 ∷ OwnOld b0 1 ∷ [];
      choice = Reused b0;
    }

-- a repeat at the limit is still ACK
abbrev pub repeat_at_limit : Row
repeat_at_limit = record { slots = Ready own Data0 ∷ Empty ∷ []; carried = Repeat b0 ∷ Repeat b0 ∷ []; choice = Held b0 }

abbrev pub table : List Row
table =
    all_empty ∷ old_before_empty ∷ repeat_behind_empty ∷ old_behind_others ∷ near_misses ∷ repeat_in_last ∷ no_room ∷ limit_before_no_room ∷ empty_at_limit
    ∷ own_old_at_limit ∷ own_old_below_limit ∷ repeat_at_limit ∷ []

-- what is carried past each slot from number n on
abbrev pub carried_past : ℕ → Carried → List Slot → List Carried
carried_past n c [] = []
carried_past n c (s ∷ ss) = look c (record { 0 = n }) s (key_of own) ∷ carried_past (suc n) (look c (record { 0 = n }) s (key_of own)) ss

-- every row of the table holds: what is carried, the choice read off at the end, and the rule's choice
pub record SearchCasesHold : Type 0 where
  pub carried : map (λ (r : Row). carried_past 0 (NoneYet 0) r.slots) table ≡ map (λ (r : Row). r.carried) table
  pub read_off : map (λ (r : Row). choice_of (length r.slots) (carried_by look (key_of own) (bare r.slots))) table ≡ map (λ (r : Row). r.choice) table
  pub by_rule : map (λ (r : Row). permitted (length r.slots) (key_of own) (bare r.slots)) table ≡ map (λ (r : Row). r.choice) table
