-- The pass of a start-split: the choice that is read off it is the rule's, and the code's pass is it. Assumes nothing.
use Prim.Native.Nat.{ℕ, suc, ◌+◌, ◌≤◌}
use mathlib.Core.Path.{◌≡◌, refl, sym, ap, ◌∙◌, subst}
use mathlib.Core.Bool.{Bool, true, false, cond, false≢true}
use mathlib.Core.List.{List, [], ◌∷◌}
use native.Mathlib.Omega.{arith}
use lib.ListN.{take, drop}
use Rattle.std.specs.Prelude.{Option, Some, None}
use Rattle.buffer.specs.declared.Key.{Key}
use Rattle.buffer.specs.declared.StartSplit.{StartSplit}
use Rattle.buffer.specs.declared.Slot.{Slot}
use Rattle.buffer.specs.declared.Slot.TheVariants.{Empty, Pending, Ready, Old}
use Rattle.buffer.specs.declared.Buffer.{Buffer}
use Rattle.buffer.specs.declared.BufferNumber.{BufferNumber}
use Rattle.buffer.specs.declared.Standing.{Standing}
use Rattle.buffer.specs.declared.Standing.TheVariants.{Busy, Free, Holds, Reusable}
use Rattle.buffer.specs.Same.{same_key}
use Rattle.buffer.specs.Key.{key_of, same_lane}
use Rattle.buffer.specs.Standing.{standing}
use Rattle.buffer.specs.Buffer.{holds, is_active, is_free, active_in}
use Rattle.buffer.proofs.Keys.{lane_refl, same_true}
use Rattle.translator.specs.declared.Carried.{Carried}
use Rattle.translator.specs.declared.Carried.TheVariants.{NoneYet, LowestFree, OwnOld, Repeat}
use Rattle.translator.specs.declared.Choice.TheVariants.{NoRoom, LimitReached, Held, Reused, Took}
use Rattle.translator.specs.Translator.{at, tally}
use Rattle.translator.specs.Slots.{bare}
use Rattle.bools.specs.Bit.{bit}
use Rattle.translator.specs.Limit.{held_by, may_store, limited, permitted}
use Rattle.translator.specs.Order.{pass}
use Rattle.translator.specs.Search.{later, find, choose_held, chosen}
use Rattle.translator.specs.OnePass.{past, counted, look, is_settled, held_so_far, carried_by, choice_of}
use Rattle.translator.proofs.Passes.{Ahead, starting}

-- the step of the search for a key
abbrev pub looking : Key → Carried → Slot → BufferNumber → Carried
looking k c s n = look c n s k

-- what is carried from number n on, by the holder that was found, or else d
abbrev held_at : List Buffer → ℕ → Option BufferNumber → ℕ → Carried → Carried
held_at bs n None h d = d
held_at bs n (Some i) h d = cond (is_active (at bs i.0).slot) (Repeat (record { 0 = n + i.0 })) (OwnOld (record { 0 = n + i.0 }) h)

abbrev free_at : ℕ → Option BufferNumber → ℕ → Carried
free_at n None h = NoneYet h
free_at n (Some i) h = LowestFree (record { 0 = n + i.0 }) h

held-later : (b : Buffer) (bs : List Buffer) (n : ℕ) (f : Option BufferNumber) (h : ℕ) (d : Carried) → held_at bs (suc n) f h d ≡ held_at (b ∷ bs) n (later f) h d
held-later b bs n None h d = refl
held-later b bs n (Some i) h d = let e : suc n + i.0 ≡ n + suc i.0 = omega arith in rw e

free_later : (n : ℕ) (f : Option BufferNumber) (h : ℕ) → free_at (suc n) f h ≡ free_at n (later f) h
free_later n None h = refl
free_later n (Some i) h = let e : suc n + i.0 ≡ n + suc i.0 = omega arith in rw e

-- what holds of each standing to the key k holds of a slot's
by_standing : (k : Key) (P : Standing → Bool → Bool → Type 0) (s : Slot) → (is_active s ≡ true → P Holds true false) → (is_active s ≡ false → P Reusable true true)
    → P Free false true → P Busy false false → P (standing k s) (holds k s) (is_free s)
by_standing k P Empty held old free busy = free
by_standing k P (Pending s p) held old free busy = elim (same_key (key_of s) k) as (λ x. P (cond x Holds Busy) x false) [ true ↦ held refl | false ↦ busy ]
by_standing k P (Ready s r) held old free busy = elim (same_key (key_of s) k) as (λ x. P (cond x Holds Busy) x false) [ true ↦ held refl | false ↦ busy ]
by_standing k P (Old s r) held old free busy = elim (same_key (key_of s) k) as (λ x. P (cond x Reusable Free) x true) [ true ↦ old refl | false ↦ free ]

module _ (k : Key) where
  -- whether a buffer counts for the key's lane
  abbrev one : Buffer → ℕ
  one b = bit (active_in k.lane b.slot)

  -- with h so far, all that the lane holds
  abbrev all : ℕ → List Buffer → ℕ
  all h bs = h + held_by k.lane bs

  all_later : (h : ℕ) (b : Buffer) (bs : List Buffer) → all (h + one b) bs ≡ all h (b ∷ bs)
  unfolding tally
  all_later h b bs = omega arith

  all_none : (h : ℕ) → h ≡ all h []
  unfolding tally
  all_none h = omega arith

  -- a repeat settles it
  pub settled : (n : ℕ) (m : BufferNumber) (bs : List Buffer) → pass (looking k) n (Repeat m) bs ≡ Repeat m
  unfolding pass look
  settled n m [] = refl
  settled n m (b ∷ bs) = settled (suc n) m bs

  -- with the own old one in hand, only the lane's are counted
  own_old : (n : ℕ) (m : BufferNumber) (h : ℕ) (bs : List Buffer) → pass (looking k) n (OwnOld m h) bs ≡ OwnOld m (all h bs)
  unfolding pass look
  own_old n m h [] = ap (OwnOld m) (all_none h)
  own_old n m h (b ∷ bs) = own_old (suc n) m (h + one b) bs ∙ ap (OwnOld m) (all_later h b bs)

  module _ (n : ℕ) (b : Buffer) (bs : List Buffer) where
    -- the first buffer is the holder
    first_held : is_active b.slot ≡ true → (h : ℕ) (d : Carried) → pass (looking k) (suc n) (Repeat (record { 0 = n })) bs ≡ held_at (b ∷ bs) n (Some (record { 0 = 0 })) h d
    first_held e h d = let z : n + 0 ≡ n = omega arith in settled (suc n) (record { 0 = n }) bs ∙ rw (e, z)

    first_old : is_active b.slot ≡ false → (h : ℕ) (d : Carried)
        → pass (looking k) (suc n) (OwnOld (record { 0 = n }) (h + one b)) bs ≡ held_at (b ∷ bs) n (Some (record { 0 = 0 })) (all h (b ∷ bs)) d
    first_old e h d = let z : n + 0 ≡ n = omega arith in own_old (suc n) (record { 0 = n }) (h + one b) bs ∙ rw (e, z, all_later h b bs)

  -- with a free buffer in hand, only the key and the lane's count
  lowest : (n : ℕ) (m : BufferNumber) (h : ℕ) (bs : List Buffer)
      → pass (looking k) n (LowestFree m h) bs ≡ held_at bs n (find (holds k) bs) (all h bs) (LowestFree m (all h bs))
  unfolding pass find look
  lowest n m h [] = ap (LowestFree m) (all_none h)
  lowest n m h (b ∷ bs) =
      let t = all h (b ∷ bs) in
      let next : pass (looking k) (suc n) (LowestFree m (h + one b)) bs ≡ held_at (b ∷ bs) n (later (find (holds k) bs)) t (LowestFree m t) =
      lowest (suc n) m (h + one b) bs ∙ rw (all_later h b bs) (held-later b bs n (find (holds k) bs) t (LowestFree m t)) in
      by_standing k
      (λ st x y. pass (looking k) (suc n) (counted (one b) (past (LowestFree m h) (record { 0 = n }) st)) bs
      ≡ held_at (b ∷ bs) n (cond x (Some (record { 0 = 0 })) (later (find (holds k) bs))) t (LowestFree m t))
      b.slot (λ e. first_held n b bs e t (LowestFree m t)) (λ e. first_old n b bs e h (LowestFree m t)) next next

  -- one pass is the two steps and the count
  one_pass : (n h : ℕ) (bs : List Buffer) → pass (looking k) n (NoneYet h) bs ≡ held_at bs n (find (holds k) bs) (all h bs) (free_at n (find is_free bs) (all h bs))
  unfolding pass find look
  one_pass n h [] = ap NoneYet (all_none h)
  one_pass n h (b ∷ bs) =
      let t = all h (b ∷ bs) in
      let here : Carried = free_at n (Some (record { 0 = 0 })) t in
      let further : Carried = free_at n (later (find is_free bs)) t in
      let z : n + 0 ≡ n = omega arith in
      let free : pass (looking k) (suc n) (LowestFree (record { 0 = n }) (h + one b)) bs ≡ held_at (b ∷ bs) n (later (find (holds k) bs)) t here =
      lowest (suc n) (record { 0 = n }) (h + one b) bs ∙ rw (all_later h b bs, z) (held-later b bs n (find (holds k) bs) t (LowestFree (record { 0 = n }) t)) in
      let busy : pass (looking k) (suc n) (NoneYet (h + one b)) bs ≡ held_at (b ∷ bs) n (later (find (holds k) bs)) t further =
      one_pass (suc n) (h + one b) bs ∙ rw (all_later h b bs, free_later n (find is_free bs) t) (held-later b bs n (find (holds k) bs) t further) in
      by_standing k
      (λ st x y. pass (looking k) (suc n) (counted (one b) (past (NoneYet h) (record { 0 = n }) st)) bs
      ≡ held_at (b ∷ bs) n (cond x (Some (record { 0 = 0 })) (later (find (holds k) bs))) t (free_at n (cond y (Some (record { 0 = 0 })) (later (find is_free bs))) t))
      b.slot (λ e. first_held n b bs e t further) (λ e. first_old n b bs e h here) free busy

-- what is carried past all, by the buffer with the key, the free one and how many the lane holds
abbrev pub ending : List Buffer → Option BufferNumber → Option BufferNumber → ℕ → Carried
ending bs (Some i) g h = cond (is_active (at bs i.0).slot) (Repeat i) (OwnOld i h)
ending bs None (Some i) h = LowestFree i h
ending bs None None h = NoneYet h

from_zero : (bs : List Buffer) (f g : Option BufferNumber) (h : ℕ) → held_at bs 0 f h (free_at 0 g h) ≡ ending bs f g h
from_zero bs (Some i) g h = let z : 0 + i.0 ≡ i.0 = omega arith in rw z
from_zero bs None (Some i) h = let z : 0 + i.0 ≡ i.0 = omega arith in rw z
from_zero bs None None h = refl

pub pass-ending : (k : Key) (bs : List Buffer) → carried_by look k bs ≡ ending bs (find (holds k) bs) (find is_free bs) (held_by k.lane bs)
pass-ending k bs =
    let z : 0 + held_by k.lane bs ≡ held_by k.lane bs = omega arith in
    one_pass k 0 0 bs ∙ rw z (from_zero bs (find (holds k) bs) (find is_free bs) (held_by k.lane bs))

-- what is read off is the choice under the limit
read_off : (b h : ℕ) (bs : List Buffer) (f g : Option BufferNumber) → find is_free bs ≡ g → choice_of b (ending bs f g h) ≡ limited (may_store b h) (choose_held bs f)
read_off b h bs None None e = rw e (elim (may_store b h) as (λ x. cond x NoRoom LimitReached ≡ limited x NoRoom) [ true ↦ refl | false ↦ refl ])
read_off b h bs None (Some i) e = rw e (elim (may_store b h) as (λ x. cond x (Took i) LimitReached ≡ limited x (Took i)) [ true ↦ refl | false ↦ refl ])
read_off b h bs (Some i) g e = go (is_active (at bs i.0).slot)
  where
    go : (y : Bool) → choice_of b (cond y (Repeat i) (OwnOld i h)) ≡ limited (may_store b h) (cond y (Held i) (Reused i))
    go true = elim (may_store b h) as (λ x. Held i ≡ limited x (Held i)) [ true ↦ refl | false ↦ refl ]
    go false = elim (may_store b h) as (λ x. cond x (Reused i) LimitReached ≡ limited x (Reused i)) [ true ↦ refl | false ↦ refl ]

-- the choice that is read off at the end is the rule's
pub pass-permitted : (b : ℕ) (k : Key) (bs : List Buffer) → choice_of b (carried_by look k bs) ≡ permitted b k bs
unfolding permitted chosen
pass-permitted b k bs = ap (choice_of b) (pass-ending k bs) ∙ read_off b (held_by k.lane bs) bs (find (holds k) bs) (find is_free bs) refl

-- ---- the code's pass

past_busy : (c : Carried) (n : BufferNumber) → past c n Busy ≡ c
past_busy (NoneYet h) n = refl
past_busy (LowestFree m h) n = refl
past_busy (OwnOld m h) n = refl
past_busy (Repeat m) n = refl

counted_none : (c : Carried) → counted 0 c ≡ c
counted_none (NoneYet h) = let z : h + 0 ≡ h = omega arith in rw z
counted_none (LowestFree m h) = let z : h + 0 ≡ h = omega arith in rw z
counted_none (OwnOld m h) = let z : h + 0 ≡ h = omega arith in rw z
counted_none (Repeat m) = refl

-- whether a buffer that so stands to a key counts for the key's lane
abbrev Counts : Standing → Bool → Type 0
Counts Busy x = Unit {0}
Counts Free x = x ≡ false
Counts Holds x = x ≡ true
Counts Reusable x = x ≡ false

own_lane : (k : Key) (s : StartSplit) (x : Bool) → same_key (key_of s) k ≡ x → Counts (cond x Holds Busy) (same_lane s.lane k.lane)
own_lane k s true e = ap (λ (a : Key). same_lane s.lane a.lane) (sym (same_true (key_of s) k e)) ∙ lane_refl s.lane
own_lane k s false e = tt

counts : (k : Key) (s : Slot) → Counts (standing k s) (active_in k.lane s)
counts k Empty = refl
counts k (Pending s p) = own_lane k s (same_key (key_of s) k) refl
counts k (Ready s r) = own_lane k s (same_key (key_of s) k) refl
counts k (Old s r) = elim (same_key (key_of s) k) as (λ x. Counts (cond x Reusable Free) false) [ true ↦ refl | false ↦ refl ]

module _ (c : Carried) (n : BufferNumber) (s : Slot) (k : Key) {st : Standing} (stands : st ≡ standing k s) where
  pub look_counted : {r : Carried} {x : Bool} → st ≡ Busy → x ≡ active_in k.lane s → x ≡ true → r ≡ counted 1 c → r ≡ look c n s k
  unfolding look
  look_counted e f g h = rw (sym stands ∙ e, sym f ∙ g, past_busy c n, h)

  pub look_other : {x : Bool} → st ≡ Busy → x ≡ active_in k.lane s → x ≡ false → c ≡ look c n s k
  unfolding look
  look_other e f g = rw (sym stands ∙ e, sym f ∙ g, past_busy c n, counted_none c)

  as_it_stands : {y : Standing} → st ≡ y → Counts y (active_in k.lane s)
  as_it_stands e = subst (λ (y : Standing). Counts y (active_in k.lane s)) (sym stands ∙ e) (counts k s)

  pub look_free : {r : Carried} → st ≡ Free → r ≡ past c n Free → r ≡ look c n s k
  unfolding look
  look_free e h = let f : active_in k.lane s ≡ false = as_it_stands e in rw (sym stands ∙ e, f, h, counted_none (past c n Free))

  pub look_repeat : {r : Carried} → st ≡ Holds → r ≡ counted 1 (past c n Holds) → r ≡ look c n s k
  unfolding look
  look_repeat e h = let f : active_in k.lane s ≡ true = as_it_stands e in rw (sym stands ∙ e, f, h)

  pub look_old : {r : Carried} → st ≡ Reusable → r ≡ past c n Reusable → r ≡ look c n s k
  unfolding look
  look_old e h = let f : active_in k.lane s ≡ false = as_it_stands e in rw (sym stands ∙ e, f, h, counted_none (past c n Reusable))

-- past one more buffer the lane holds at most one more
one_more : (c : Carried) (n : BufferNumber) (st : Standing) (x : Bool) → held_so_far (counted (bit x) (past c n st)) ≤ held_so_far c + 1
one_more c n st x = omega (arith, sum (past c n st) (bit x), kept c st, bit_le x)
  where
    bit_le : (y : Bool) → bit y ≤ 1
    bit_le true = omega arith
    bit_le false = omega arith

    sum : (d : Carried) (a : ℕ) → held_so_far (counted a d) ≤ held_so_far d + a
    sum (NoneYet h) a = omega arith
    sum (LowestFree m h) a = omega arith
    sum (OwnOld m h) a = omega arith
    sum (Repeat m) a = omega arith

    kept : (d : Carried) (y : Standing) → held_so_far (past d n y) ≤ held_so_far d
    kept (NoneYet h) Busy = omega arith
    kept (NoneYet h) Free = omega arith
    kept (NoneYet h) Holds = omega arith
    kept (NoneYet h) Reusable = omega arith
    kept (LowestFree m h) Busy = omega arith
    kept (LowestFree m h) Free = omega arith
    kept (LowestFree m h) Holds = omega arith
    kept (LowestFree m h) Reusable = omega arith
    kept (OwnOld m h) y = omega arith
    kept (Repeat m) y = omega arith

-- so that it holds no more than the buffers so far
pub few : (c : Carried) (n : BufferNumber) (s : Slot) (k : Key) {d : Carried} {i : ℕ} → d ≡ look c n s k → held_so_far c ≤ i → held_so_far d ≤ i + 1
unfolding look
few c n s k e l = rw e (omega (arith, one_more c n (standing k s) (active_in k.lane s), l))

-- it starts with nothing in hand, ..
pub looking_from : (k : Key) (m : ℕ) (ss : List Slot) {us : List Slot} → us ≡ take m ss → Ahead (looking k) us (carried_by look k (take m (bare ss))) 0 (NoneYet 0)
looking_from k m ss e = starting (looking k) (NoneYet 0) m ss e

-- .. and may end where it is settled
pub ends_settled : (k : Key) {ss : List Slot} {w : Carried} {i : ℕ} (c : Carried) → Ahead (looking k) ss w i c → is_settled c ≡ true → c ≡ w
ends_settled k (NoneYet h) a e = absurd (false≢true e)
ends_settled k (LowestFree n h) a e = absurd (false≢true e)
ends_settled k (OwnOld n h) a e = absurd (false≢true e)
ends_settled k {ss} {i = i} (Repeat n) a e = sym (settled k i n (drop i (bare ss))) ∙ a.rest
