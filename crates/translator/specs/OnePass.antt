-- The search of a start-split in one pass (C-13): each buffer is taken at most once, in rising number, and what is carried on, numbers and
-- flags, follows from what was carried so far, that buffer and the start-split alone. The code's pass is this one. A reader must believe
-- that `look` sees no more than its arguments, and the claim `OnePass`.
use Rattle.std.specs.Prelude.{ℕ, ◌+◌, ◌≡◌, ◌↔◌, Bool, true, false, cond, List, ◌++◌, length, take, Ok}
use Rattle.buffer.specs.declared.Key.{Key}
use Rattle.buffer.specs.declared.StartSplit.{StartSplit}
use Rattle.buffer.specs.declared.Slot.{Slot}
use Rattle.buffer.specs.declared.Buffer.{Buffer}
use Rattle.buffer.specs.declared.BufferNumber.{BufferNumber}
use Rattle.buffer.specs.declared.Standing.{Standing}
use Rattle.buffer.specs.declared.Standing.TheVariants.{Busy, Free, Holds, Reusable}
use Rattle.buffer.specs.Key.{key_of}
use Rattle.buffer.specs.Lengths.{start_fits}
use Rattle.buffer.specs.Standing.{standing}
use Rattle.buffer.specs.Buffer.{active_in}
use Rattle.buffer.specs.Words.{Holding, OldWith, With, Vacated}
use Rattle.translator.specs.declared.Translator.{Translator}
use Rattle.translator.specs.declared.Carried.{Carried}
use Rattle.translator.specs.declared.Carried.TheVariants.{NoneYet, LowestFree, OwnOld, Repeat}
use Rattle.translator.specs.declared.Choice.{Choice}
use Rattle.translator.specs.declared.Choice.TheVariants.{NoRoom, LimitReached, Held, Reused, Took}
use Rattle.translator.specs.Slots.{slots_in, bare}
use Rattle.translator.specs.Order.{pass}
use Rattle.bools.specs.Bit.{bit}
use Rattle.translator.specs.Limit.{held_by, may_store, permitted}
use Rattle.translator.specs.StartSplit.{start_split}
use Rattle.translator.specs.TwoSteps.{Buffered, Lowest, NoBuffer, TwoSteps}
use Rattle.translator.specs.Valid.{ValidTranslator}

-- ---- one buffer

-- past buffer n, which so stands to the key
abbrev pub past : Carried → BufferNumber → Standing → Carried
past (NoneYet h) n Busy = NoneYet h
past (NoneYet h) n Free = LowestFree n h
past (NoneYet h) n Holds = Repeat n
past (NoneYet h) n Reusable = OwnOld n h
past (LowestFree m h) n Busy = LowestFree m h
past (LowestFree m h) n Free = LowestFree m h
past (LowestFree m h) n Holds = Repeat n
past (LowestFree m h) n Reusable = OwnOld n h
past (OwnOld m h) n s = OwnOld m h
past (Repeat m) n s = Repeat m

-- a more that the lane holds pending or ready
abbrev pub counted : ℕ → Carried → Carried
counted a (NoneYet h) = NoneYet (h + a)
counted a (LowestFree n h) = LowestFree n (h + a)
counted a (OwnOld n h) = OwnOld n (h + a)
counted a (Repeat n) = Repeat n

-- what is carried on past buffer n, whose slot is s, in the search of a start-split with the key k
unfoldable pub look : Carried → BufferNumber → Slot → Key → Carried
look c n s k = counted (bit (active_in k.lane s)) (past c n (standing k s))

-- the outcome is settled: no later buffer changes it
abbrev pub is_settled : Carried → Bool
is_settled (NoneYet h) = false
is_settled (LowestFree n h) = false
is_settled (OwnOld n h) = false
is_settled (Repeat n) = true

-- how many the lane holds so far, where that is carried
abbrev pub held_so_far : Carried → ℕ
held_so_far (NoneYet h) = h
held_so_far (LowestFree n h) = h
held_so_far (OwnOld n h) = h
held_so_far (Repeat n) = 0

-- ---- the pass

-- a step such as `look`
abbrev pub Looking : Type 0
Looking = Carried → BufferNumber → Slot → Key → Carried

-- the left fold over the slots of the buffers, from number 0 on, each taken once
abbrev pub carried_by : Looking → Key → List Buffer → Carried
carried_by f k bs = pass (λ (c : Carried) (s : Slot) (n : BufferNumber). f c n s k) 0 (NoneYet 0) bs

-- the choice is read off what is carried at the end, of b buffers
abbrev pub choice_of : ℕ → Carried → Choice
choice_of b (NoneYet h) = cond (may_store b h) NoRoom LimitReached
choice_of b (LowestFree n h) = cond (may_store b h) (Took n) LimitReached
choice_of b (OwnOld n h) = cond (may_store b h) (Reused n) LimitReached
choice_of b (Repeat n) = Held n

-- the choice of the pass over the translator's B buffers
abbrev pub choice_by : Looking → Translator → Key → Choice
choice_by f t k = choice_of t.count (carried_by f k (take t.count t.buffers))

-- ---- the claim, of a step f

-- what is carried past the B buffers of the translator t, in words over them
abbrev pub Carries : Translator → Key → Carried → Type 0
-- none has the key, none is empty or old
Carries t k (NoneYet h) = NoBuffer (With k) t × (NoBuffer Vacated t × (h ≡ held_by k.lane (take t.count t.buffers)))
-- none has the key; n is the lowest-numbered empty or old one
Carries t k (LowestFree n h) = NoBuffer (With k) t × (Lowest Vacated t n × (h ≡ held_by k.lane (take t.count t.buffers)))
-- n is the lowest-numbered one with the key, and old
Carries t k (OwnOld n h) = Lowest (With k) t n × (Buffered (OldWith k) t n × (h ≡ held_by k.lane (take t.count t.buffers)))
-- n is the lowest-numbered one with the key, and pending or ready
Carries t k (Repeat n) = Lowest (With k) t n × Buffered (Holding k) t n

pub record OnePass (f : Looking) : Type 0 where
  -- what is carried says that, past however many buffers
  pub carries : (t : Translator) (k : Key) → Carries t k (carried_by f k (take t.count t.buffers))
  -- the choice is document 01's two steps, of every translator and key
  pub exactly : (t : Translator) (k : Key) (c : Choice) → (choice_by f t k ≡ c) ↔ TwoSteps t k c
  -- (a buffer with the key is the lowest-numbered one with it in every valid translator: no key is held twice there)
  pub one_holder : (t : Translator) (k : Key) (n : BufferNumber) → ValidTranslator t → Buffered (With k) t n → Lowest (With k) t n
  -- it is what every start-split within the rules is answered
  pub answered : (t : Translator) (s : StartSplit) (l : List ℕ) → start_fits s (length l) ≡ true → (start_split t s l).answer ≡ Ok (choice_by f t (key_of s))
  -- of the slots alone it is the same: the rule's choice of buffers without their payloads, which the C entries search
  pub of_slots : (t : Translator) (k : Key) → permitted t.count k (take t.count (bare (slots_in t.buffers))) ≡ choice_by f t k
  -- the rule's choice follows from what is carried and the buffers to come: the same carried, the same choice, whatever the buffers before were
  pub carried_alone : (b : ℕ) (k : Key) (xs ys rest : List Buffer) → length xs ≡ length ys → carried_by f k xs ≡ carried_by f k ys
      → permitted b k (xs ++ rest) ≡ permitted b k (ys ++ rest)
  -- once settled nothing changes, so that the pass may end there
  pub settled : (c : Carried) (n : BufferNumber) (s : Slot) (k : Key) → is_settled c ≡ true → f c n s k ≡ c
