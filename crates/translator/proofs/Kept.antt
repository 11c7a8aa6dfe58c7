-- A new translator is valid, and every call leaves a valid one valid. Assumes nothing.
use Prim.Native.Nat.{ℕ, zero, suc, ◌+◌, ◌<◌, ◌≤◌}
use native.Mathlib.Omega.{arith}
use mathlib.Core.Path.{◌≡◌, refl, sym, ◌∙◌, ap, subst}
use mathlib.Core.List.{List, map}
use mathlib.Core.Bool.{Bool, true, false, cond, and-eq-true_iff, true≢false, false≢true}
use borrow.Author.Tests.{eqb-true, eqb-false, leb-true, ltb-true, ltb-false}
use lib.Dec.{eqb, ltb}
use lib.ListN.{length, set, take, replicate, length-set, length-map}
use Rattle.std.specs.Prelude.{Option, Some, None, Ok, Err}
use Rattle.payload.specs.Payload.{padded, payload_of}
use Rattle.payload.proofs.Laws.{zeros_of, len_of}
use Rattle.buffer.specs.declared.Lane.{Lane}
use Rattle.buffer.specs.declared.Key.{Key}
use Rattle.buffer.specs.declared.StartSplit.{StartSplit}
use Rattle.buffer.specs.declared.DeviceResult.{DeviceResult}
use Rattle.buffer.specs.declared.Pid.{Pid}
use Rattle.buffer.specs.declared.Pid.TheVariants as pid
use Rattle.buffer.specs.declared.Slot.{Slot}
use Rattle.buffer.specs.declared.Slot.TheVariants.{Empty, Pending, Ready, Old}
use Rattle.buffer.specs.declared.Buffer.{Buffer}
use Rattle.buffer.specs.declared.BufferNumber.{BufferNumber}
use Rattle.buffer.specs.Key.{key_of, same_lane}
use Rattle.buffer.specs.Lengths.{numbers_fit, start_length, start_fits, result_length, suits}
use Rattle.buffer.specs.Buffer.{vacant, is_pending, is_active, is_free, holds, in_lane, active_in}
use Rattle.buffer.specs.Valid.{slot_fits, Whole}
use Rattle.buffer.proofs.Keys.{same_true, lane_true}
use Rattle.translator.specs.declared.LowSide.{LowSide}
use Rattle.translator.specs.declared.LowSide.TheVariants.{Idle, Running, Abandoned}
use Rattle.translator.specs.declared.Translator.{Translator}
use Rattle.translator.specs.declared.Choice.{Choice}
use Rattle.translator.specs.declared.Choice.TheVariants.{NoRoom, LimitReached, Held, Reused, Took}
use Rattle.translator.specs.declared.NotDelivered.TheVariants as answer
use Rattle.translator.specs.Translator.{at, new_translator, tally}
use Rattle.translator.specs.Search.{find}
use Rattle.translator.specs.Limit.{held_by, may_store, permitted, NoRepeat}
use Rattle.bools.specs.Bit.{bit}
use Rattle.translator.specs.Valid.{at_place, RunsPending, ValidTranslator}
use Rattle.translator.specs.Order.{waiting, before, reranked, ranked_in, ranked, earliest}
use Rattle.translator.specs.StartSplit.{outside, stored, start_by, start_split}
use Rattle.translator.specs.CompleteSplit.{completed, complete_at, complete_split}
use Rattle.translator.specs.Launch.{launched, launch_at, launch_by, launch}
use Rattle.translator.specs.Deliver.{undelivered, delivered, deliver_by, deliver}
use Rattle.translator.specs.Clear.{low_without, clear_at, clear_buffer}
use Rattle.translator.specs.ResetLane.{without_lane, low_without_lane, reset_lane}
use Rattle.translator.proofs.At.{inside, at_other, at_cases, apart_set, at-ranked, length-ranked, holds-reranked, pending_reranked, active_in_reranked, at-without_lane}
use Rattle.translator.proofs.Tallies.{tally_set, no_more, tally_map, tally_map_le, tally_take}
use Rattle.translator.proofs.Finding.{Miss, FindSays, find_says, ChosenSays, is_held, PermittedSays, permitted_says}
use Rattle.translator.proofs.Ranks.{rank_below, ranked-place, same_rank}

-- ---- lengths

start_short : (p : Pid) (n : ℕ) → start_length p n ≡ true → n ≤ 64
start_short pid.Out n e = leb-true n 64 e
start_short pid.In n e = omega (arith, eqb-true n 0 e)
start_short pid.Setup n e = omega (arith, eqb-true n 8 e)

pub start_le : (s : StartSplit) (n : ℕ) → start_fits s n ≡ true → n ≤ 64
unfolding start_fits
start_le s n e = start_short s.pid n ((and-eq-true_iff (numbers_fit s) (start_length s.pid n)).0 e).1

pub numbers_of : (s : StartSplit) (n : ℕ) → start_fits s n ≡ true → numbers_fit s ≡ true
unfolding start_fits
numbers_of s n e = ((and-eq-true_iff (numbers_fit s) (start_length s.pid n)).0 e).0

pub result_le : (r : DeviceResult) (n : ℕ) → result_length r n ≡ true → n ≤ 64
unfolding result_length
result_le r n e = leb-true n 64 ((and-eq-true_iff _ _).0 e).0

pub slot_le : (s : Slot) (n : ℕ) → slot_fits s n ≡ true → n ≤ 64
slot_le Empty n e = omega (arith, eqb-true n 0 e)
slot_le (Pending s p) n e = start_le s n e
slot_le (Ready s r) n e = result_le r n ((and-eq-true_iff (numbers_fit s) (result_length r n)).0 e).1
slot_le (Old s r) n e = result_le r n ((and-eq-true_iff (numbers_fit s) (result_length r n)).0 e).1

-- ---- the empty translator

vacant-whole : Whole vacant
unfolding padded
vacant-whole = record { fits = refl; zeros = refl }

at_empty : (i : ℕ) → at (replicate 4 vacant) i ≡ vacant
at_empty zero = refl
at_empty (suc zero) = refl
at_empty (suc (suc zero)) = refl
at_empty (suc (suc (suc zero))) = refl
at_empty (suc (suc (suc (suc i)))) = refl

none_held : (l : Lane) → held_by l (replicate 4 vacant) ≡ 0
unfolding tally
none_held l = refl

pub new_valid : (n : ℕ) → 2 ≤ n → n ≤ 4 → ValidTranslator (new_translator n)
new_valid n l m =
    record {
      least = l;
      most = m;
      four = refl;
      spare = λ i _. at_empty i;
      whole = λ i. subst Whole (sym (at_empty i)) vacant-whole;
      keys = λ k i j e. absurd (false≢true (ap (λ (b : Buffer). holds k b.slot) (sym (at_empty i)) ∙ e));
      places = λ p i j e. absurd (false≢true (ap (λ (b : Buffer). at_place p b.slot) (sym (at_empty i)) ∙ e));
      lanes = λ z. omega (arith, none_held z, l);
      running = tt;
    }

-- ---- one buffer changed

waits_else : (bs : List Buffer) (i : ℕ) (b : Buffer) → i < length bs → (j : ℕ) → ¬ (j ≡ i) → is_pending (at bs j).slot ≡ true → is_pending (at (set bs i b) j).slot ≡ true
waits_else bs i b here j ne w = subst (λ (x : Buffer). is_pending x.slot ≡ true) (sym (at_other bs i b here j ne)) w

-- where the buffer was not pending, the low side is as it was
runs_else : (bs : List Buffer) (i : ℕ) (b : Buffer) → i < length bs → is_pending (at bs i).slot ≡ false → (l : LowSide) → RunsPending bs l → RunsPending (set bs i b) l
runs_else bs i b here np Idle w = tt
runs_else bs i b here np (Running n) w =
    waits_else bs i b here n.0 (λ q. true≢false (sym w ∙ ap (λ (x : ℕ). is_pending (at bs x).slot) q ∙ np)) w
runs_else bs i b here np Abandoned w = tt

module _ (t : Translator) (v : ValidTranslator t) where
  -- buffer i in use is b now, under no other buffer's key and at no other's place
  pub valid_set : (i : ℕ) (b : Buffer) (l : LowSide) → i < t.count → Whole b
      → ((k : Key) → holds k b.slot ≡ true → (j : ℕ) → holds k (at t.buffers j).slot ≡ true → j ≡ i)
      → ((p : ℕ) → at_place p b.slot ≡ true → (j : ℕ) → at_place p (at t.buffers j).slot ≡ true → j ≡ i)
      → ((z : Lane) → held_by z (set t.buffers i b) < t.count)
      → RunsPending (set t.buffers i b) l → ValidTranslator (record { buffers = set t.buffers i b; count = t.count; low = l })
  valid_set i b l used w key place few runs =
      let here : i < length t.buffers = omega (arith, used, v.most, v.four) in
      record {
        least = v.least;
        most = v.most;
        four = length-set t.buffers i b ∙ v.four;
        spare = λ j h. at_other t.buffers i b here j (λ q. omega (arith, used, h, q)) ∙ v.spare j h;
        whole = λ j. at_cases t.buffers i b here Whole j (λ _. w) (λ _. v.whole j);
        keys = λ k. apart_set t.buffers i b here (holds k) (v.keys k) (key k);
        places = λ p. apart_set t.buffers i b here (at_place p) (v.places p) (place p);
        lanes = few;
        running = runs;
      }

  -- a lane holds no more than before
  pub few_set : (i : ℕ) (b : Buffer) → i < t.count → ((z : Lane) → active_in z b.slot ≡ true → active_in z (at t.buffers i).slot ≡ true)
      → (z : Lane) → held_by z (set t.buffers i b) < t.count
  few_set i b used w z =
      let here : i < length t.buffers = omega (arith, used, v.most, v.four) in
      omega (arith, no_more (active_in z) t.buffers i b here (w z), v.lanes z)

  pub with_low_lem : (l : LowSide) → RunsPending t.buffers l → ValidTranslator (record { buffers = t.buffers; count = t.count; low = l })
  with_low_lem l runs =
      record {
        least = v.least;
        most = v.most;
        four = v.four;
        spare = v.spare;
        whole = v.whole;
        keys = v.keys;
        places = v.places;
        lanes = v.lanes;
        running = runs;
      }

  -- what passes a test that an empty buffer fails is in use
  pub in_use : (f : Slot → Bool) → f Empty ≡ false → (i : ℕ) → f (at t.buffers i).slot ≡ true → i < t.count
  in_use f n i e = go (ltb i t.count) refl
    where
      go : (x : Bool) → ltb i t.count ≡ x → i < t.count
      go true g = ltb-true i t.count g
      go false g = absurd (true≢false (sym e ∙ ap (λ (b : Buffer). f b.slot) (v.spare i (ltb-false i t.count g)) ∙ n))

-- ---- start-split

-- a place is not looked at
pub fits_reranked : (bs : List Buffer) (s : Slot) (n : ℕ) → slot_fits (reranked bs s) n ≡ slot_fits s n
fits_reranked bs Empty n = refl
fits_reranked bs (Pending s p) n = refl
fits_reranked bs (Ready s r) n = refl
fits_reranked bs (Old s r) n = refl

not_free : (s : Slot) → is_free s ≡ true → is_pending s ≡ false
not_free Empty e = refl
not_free (Pending s p) e = sym e
not_free (Ready s r) e = refl
not_free (Old s r) e = refl

module _ (t : Translator) (v : ValidTranslator t) where
  ranked_held : (z : Lane) → held_by z (ranked t.buffers) ≡ held_by z t.buffers
  unfolding ranked
  ranked_held z = tally_map (active_in z) (ranked_in t.buffers) (λ b. active_in_reranked t.buffers z b.slot) t.buffers

  ranked_valid : ValidTranslator (record { buffers = ranked t.buffers; count = t.count; low = t.low })
  ranked_valid =
      record {
        least = v.least;
        most = v.most;
        four = length-ranked bs ∙ v.four;
        spare = λ i h. at-ranked bs i ∙ ap (ranked_in bs) (v.spare i h);
        whole = λ i. subst Whole (sym (at-ranked bs i)) (record { fits = fits_reranked bs (at bs i).slot _ ∙ (v.whole i).fits; zeros = (v.whole i).zeros });
        keys = λ k i j e f. v.keys k i j (held i k e) (held j k f);
        places = λ p i j e f.
            let x = ranked-place bs i p e in
            let y = ranked-place bs j p f in
            let q : x.0 ≡ y.0 = same_rank bs i j x.0 y.0 x.1 y.1 (x.2 ∙ sym y.2) in
            v.places y.0 i j (ap (λ (n : ℕ). at_place n (at bs i).slot) (sym q) ∙ x.1) y.1;
        lanes = λ z. subst (λ (n : ℕ). n < t.count) (sym (ranked_held z)) (v.lanes z);
        running = low t.low v.running;
      }
    where
      bs : List Buffer
      bs = t.buffers

      held : (i : ℕ) (k : Key) → holds k (at (ranked t.buffers) i).slot ≡ true → holds k (at t.buffers i).slot ≡ true
      held i k e = sym (holds-reranked t.buffers k (at t.buffers i).slot) ∙ ap (λ (b : Buffer). holds k b.slot) (sym (at-ranked t.buffers i)) ∙ e

      low : (l : LowSide) → RunsPending t.buffers l → RunsPending (ranked t.buffers) l
      low Idle w = tt
      low (Running n) w = ap (λ (b : Buffer). is_pending b.slot) (at-ranked t.buffers n.0) ∙ pending_reranked t.buffers (at t.buffers n.0).slot ∙ w
      low Abandoned w = tt

  -- the buffers that are not in use count for no lane
  pub all_held : (z : Lane) → held_by z (take t.count t.buffers) ≡ held_by z t.buffers
  all_held z = tally_take (active_in z) refl t.count t.buffers v.spare

  held_below : (z : Lane) → may_store t.count (held_by z (take t.count t.buffers)) ≡ true → held_by z t.buffers + 1 < t.count
  held_below z e = omega (arith, ltb-true (held_by z (take t.count t.buffers) + 1) t.count e, all_held z)

  missed : (k : Key) → Miss (holds k) t.count t.buffers → (i : ℕ) → ¬ (holds k (at t.buffers i).slot ≡ true)
  missed k m i e = true≢false (sym e ∙ m i (in_use t v (holds k) refl i e) (inside (holds k) refl t.buffers i e))

  -- no repeat, where the search found the key in no buffer or in an old one
  pub no_repeat : (k : Key) (c : Choice) → ChosenSays k t.count t.buffers c → is_held c ≡ false → NoRepeat k t
  no_repeat k NoRoom r u i e = absurd (missed k r.none i e)
  no_repeat k LimitReached r u i e = absurd r
  no_repeat k (Held n) r u i e = absurd (true≢false u)
  no_repeat k (Reused n) r u i e = ap (λ (j : ℕ). is_active (at t.buffers j).slot) (v.keys k i n.0 e r.found.passes) ∙ r.active
  no_repeat k (Took n) r u i e = absurd (missed k r.none i e)

  store_valid : (n : BufferNumber) (s : StartSplit) (l : List ℕ) → start_fits s (length l) ≡ true → n.0 < t.count → is_free (at t.buffers n.0).slot ≡ true
      → ((j : ℕ) → holds (key_of s) (at t.buffers j).slot ≡ true → j ≡ n.0) → may_store t.count (held_by s.lane (take t.count t.buffers)) ≡ true
      → ValidTranslator (stored t n s l)
  unfolding stored
  store_valid n s l fits used free only may =
      valid_set (record { buffers = ranked bs; count = t.count; low = t.low }) ranked_valid n.0 b t.low used
      (record { fits = ap (start_fits s) (len_of l (start_le s (length l) fits)) ∙ fits; zeros = zeros_of l })
      (λ k e j h. only j (ap (λ (x : Key). holds x (at bs j).slot) (same_true (key_of s) k e) ∙ (sym (holds-reranked bs k (at bs j).slot) ∙ ap (λ (x : Buffer). holds k x.slot) (sym (at-ranked bs j)) ∙ h)))
      (λ p e j h.
      let x = ranked-place bs j p h in
      let below : before x.0 bs < waiting bs = rank_below bs j x.0 x.1 in
      let w : waiting bs ≡ p = eqb-true (waiting bs) p e in
      absurd (omega (arith, below, w, x.2)))
      few
      (runs_else (ranked bs) n.0 b here
      (ap (λ (x : Buffer). is_pending x.slot) (at-ranked bs n.0) ∙ pending_reranked bs (at bs n.0).slot ∙ not_free (at bs n.0).slot free)
      t.low ranked_valid.running)
    where
      bs : List Buffer
      bs = t.buffers

      b : Buffer
      b = record { slot = Pending s (waiting t.buffers); payload = payload_of l }

      here : n.0 < length (ranked t.buffers)
      here = subst (λ (m : ℕ). n.0 < m) (sym (length-ranked t.buffers)) (omega (arith, used, v.most, v.four))

      below : held_by s.lane t.buffers + 1 < t.count
      below = held_below s.lane may

      -- its own lane holds one more, the other no more
      few : (z : Lane) → held_by z (set (ranked t.buffers) n.0 b) < t.count
      few z = go (same_lane s.lane z) refl
        where
          now_held : held_by z (set (ranked t.buffers) n.0 b) + bit (active_in z (at (ranked t.buffers) n.0).slot) ≡ held_by z (ranked t.buffers) + bit (same_lane s.lane z)
          now_held = tally_set (active_in z) (ranked t.buffers) n.0 b here

          go : (x : Bool) → same_lane s.lane z ≡ x → held_by z (set (ranked t.buffers) n.0 b) < t.count
          go true e =
              let one : bit (same_lane s.lane z) ≡ 1 = ap bit e in
              let mine : held_by z t.buffers + 1 < t.count = subst (λ (y : Lane). held_by y t.buffers + 1 < t.count) (lane_true s.lane z e) below in
              omega (arith, now_held, one, ranked_held z, mine)
          go false e =
              let none : bit (same_lane s.lane z) ≡ 0 = ap bit e in
              omega (arith, now_held, none, ranked_held z, v.lanes z)

  active_free : (s : Slot) → is_active s ≡ false → is_free s ≡ true
  active_free Empty e = refl
  active_free (Pending s p) e = sym e
  active_free (Ready s r) e = sym e
  active_free (Old s r) e = refl

  start_by_lem : (s : StartSplit) (l : List ℕ) → start_fits s (length l) ≡ true → (c : Choice) → PermittedSays t.count (key_of s) t.count t.buffers c → ValidTranslator (start_by t s l c).next
  start_by_lem s l f NoRoom r = v
  start_by_lem s l f LimitReached r = v
  start_by_lem s l f (Held n) r = v
  start_by_lem s l f (Reused n) r =
      store_valid n s l f r.says.found.small (active_free (at t.buffers n.0).slot r.says.active) (λ j h. v.keys (key_of s) j n.0 h r.says.found.passes) r.may
  start_by_lem s l f (Took n) r =
      store_valid n s l f r.says.free.small r.says.free.passes
      (λ j h. absurd (true≢false (sym h ∙ r.says.none j (in_use t v (holds (key_of s)) refl j h) (inside (holds (key_of s)) refl t.buffers j h))))
      r.may

  pub start_valid : (s : StartSplit) (l : List ℕ) → ValidTranslator (start_split t s l).next
  unfolding start_split
  start_valid s l = go (start_fits s (length l)) refl
    where
      go : (x : Bool) → start_fits s (length l) ≡ x
          → ValidTranslator (cond x (start_by t s l (permitted t.count (key_of s) (take t.count t.buffers))) (record { next = t; answer = Err outside })).next
      go true e = start_by_lem s l e (permitted t.count (key_of s) (take t.count t.buffers)) (permitted_says t.count (key_of s) t.count t.buffers)
      go false e = v

  -- ---- the other calls

  -- a buffer goes on under its key, no longer pending
  goes_on : (n : BufferNumber) (b : Buffer) (l : LowSide) → n.0 < t.count → Whole b → ((k : Key) → holds k b.slot ≡ holds k (at t.buffers n.0).slot)
      → ((p : ℕ) → at_place p b.slot ≡ false) → ((z : Lane) → active_in z b.slot ≡ true → active_in z (at t.buffers n.0).slot ≡ true)
      → RunsPending (set t.buffers n.0 b) l
      → ValidTranslator (record { buffers = set t.buffers n.0 b; count = t.count; low = l })
  goes_on n b l used w same idle counted runs =
      valid_set t v n.0 b l used w (λ k e j h. v.keys k j n.0 h (sym (same k) ∙ e)) (λ p e. absurd (true≢false (sym e ∙ idle p)))
      (few_set t v n.0 b used counted) runs

  here_in : (n : ℕ) → n < t.count → n < length t.buffers
  here_in n used = omega (arith, used, v.most, v.four)

  complete_at_lem : (k : Key) (f : Option BufferNumber) → FindSays (holds k) t.count t.buffers f → ValidTranslator (complete_at t f).next
  complete_at_lem k None r = v
  complete_at_lem k (Some n) r = go (at t.buffers n.0).slot refl
    where
      go : (s : Slot) → (at t.buffers n.0).slot ≡ s → ValidTranslator (completed t n (at t.buffers n.0).payload s).next
      go Empty e = v
      go (Pending s p) e = v
      go (Ready s x) e =
          goes_on n (record { slot = Old s x; payload = (at t.buffers n.0).payload }) t.low r.small
          (record { fits = ap (λ (y : Slot). slot_fits y (at t.buffers n.0).payload.len) (sym e) ∙ (v.whole n.0).fits; zeros = (v.whole n.0).zeros })
          (λ h. ap (holds h) (sym e)) (λ p. refl) (λ z x. absurd (false≢true x))
          (runs_else t.buffers n.0 _ (here_in n.0 r.small) (ap is_pending e) t.low v.running)
      go (Old s x) e = v

  pub complete_valid : (k : Key) → ValidTranslator (complete_split t k).next
  unfolding complete_split
  complete_valid k = complete_at_lem k (find (holds k) (take t.count t.buffers)) (find_says (holds k) t.count t.buffers)

  launch_at_lem : (e : Option (BufferNumber × ℕ)) → ValidTranslator (launch_at t e).next
  launch_at_lem None = v
  launch_at_lem (Some (n, p)) = go (at t.buffers n.0).slot refl
    where
      go : (s : Slot) → (at t.buffers n.0).slot ≡ s → ValidTranslator (launched t n (at t.buffers n.0).payload s).next
      go Empty e = v
      go (Pending s q) e = with_low_lem t v (Running n) (ap is_pending e)
      go (Ready s r) e = v
      go (Old s r) e = v

  pub launch_valid : ValidTranslator (launch t).next
  unfolding launch
  launch_valid = go t.low
    where
      go : (l : LowSide) → ValidTranslator (launch_by t l).next
      go Idle = launch_at_lem (earliest (take t.count t.buffers))
      go (Running n) = v
      go Abandoned = v

  deliver_to : (r : DeviceResult) (l : List ℕ) (n : BufferNumber) → result_length r (length l) ≡ true → is_pending (at t.buffers n.0).slot ≡ true
      → (s : Slot) → (at t.buffers n.0).slot ≡ s → ValidTranslator (delivered t r l n s).next
  deliver_to r l n fits w Empty e = v
  deliver_to r l n fits w (Ready s x) e = v
  deliver_to r l n fits w (Old s x) e = v
  deliver_to r l n fits w (Pending s p) e = go (suits s.pid r) refl
    where
      b : Buffer
      b = record { slot = Ready s r; payload = payload_of l }

      numbers : numbers_fit s ≡ true
      numbers = numbers_of s (at t.buffers n.0).payload.len (ap (λ (y : Slot). slot_fits y (at t.buffers n.0).payload.len) (sym e) ∙ (v.whole n.0).fits)

      go : (x : Bool) → suits s.pid r ≡ x
          → ValidTranslator (cond x (record { next = record { buffers = set t.buffers n.0 b; count = t.count; low = Idle }; answer = Ok tt }) (undelivered t answer.NotInThisState)).next
      go true x =
          goes_on n b Idle (in_use t v is_pending refl n.0 w)
          (record { fits = rw (numbers, len_of l (result_le r (length l) fits)) fits; zeros = zeros_of l })
          (λ k. ap (holds k) (sym e)) (λ q. refl) (λ z x. ap (active_in z) e ∙ x) tt
      go false x = v

  deliver_by_lem : (r : DeviceResult) (l : List ℕ) → result_length r (length l) ≡ true → (low : LowSide) → RunsPending t.buffers low → ValidTranslator (deliver_by t r l low).next
  deliver_by_lem r l fits Idle w = v
  deliver_by_lem r l fits (Running n) w = deliver_to r l n fits w (at t.buffers n.0).slot refl
  deliver_by_lem r l fits Abandoned w = with_low_lem t v Idle tt

  pub deliver_valid : (r : DeviceResult) (l : List ℕ) → ValidTranslator (deliver t r l).next
  unfolding deliver
  deliver_valid r l = go (result_length r (length l)) refl
    where
      go : (x : Bool) → result_length r (length l) ≡ x → ValidTranslator (cond x (deliver_by t r l t.low) (undelivered t answer.Outside)).next
      go true e = deliver_by_lem r l e t.low v.running
      go false e = v

  low_without_lem : (n : BufferNumber) → n.0 < t.count → (l : LowSide) → RunsPending t.buffers l → RunsPending (set t.buffers n.0 vacant) (low_without n l)
  low_without_lem n used Idle w = tt
  low_without_lem n used Abandoned w = tt
  low_without_lem n used (Running m) w = go (eqb m.0 n.0) refl
    where
      go : (x : Bool) → eqb m.0 n.0 ≡ x → RunsPending (set t.buffers n.0 vacant) (cond x Abandoned (Running m))
      go true e = tt
      go false e = waits_else t.buffers n.0 vacant (here_in n.0 used) m.0 (eqb-false m.0 n.0 e) w

  clear_at_lem : (k : Key) (f : Option BufferNumber) → FindSays (holds k) t.count t.buffers f → ValidTranslator (clear_at t f)
  clear_at_lem k None r = v
  clear_at_lem k (Some n) r =
      valid_set t v n.0 vacant (low_without n t.low) r.small vacant-whole (λ h e. absurd (false≢true e)) (λ p e. absurd (false≢true e))
      (few_set t v n.0 vacant r.small (λ z e. absurd (false≢true e)))
      (low_without_lem n r.small t.low v.running)

  pub clear_valid : (k : Key) → ValidTranslator (clear_buffer t k)
  unfolding clear_buffer
  clear_valid k = clear_at_lem k (find (holds k) (take t.count t.buffers)) (find_says (holds k) t.count t.buffers)

  -- ---- ResetTT from a lane

  -- what an emptied buffer fails, it passed before
  passed_before : (z : Lane) (f : Slot → Bool) → f Empty ≡ false → (b : Buffer) → f (without_lane z b).slot ≡ true → f b.slot ≡ true
  passed_before z f none b = go (in_lane z b.slot)
    where
      go : (x : Bool) → f (cond x vacant b).slot ≡ true → f b.slot ≡ true
      go true e = absurd (true≢false (sym e ∙ none))
      go false e = e

  passed_at : (z : Lane) (f : Slot → Bool) → f Empty ≡ false → (i : ℕ) → f (at (map (without_lane z) t.buffers) i).slot ≡ true → f (at t.buffers i).slot ≡ true
  passed_at z f none i e = passed_before z f none (at t.buffers i) (ap (λ (b : Buffer). f b.slot) (sym (at-without_lane z t.buffers i)) ∙ e)

  low_reset : (z : Lane) (l : LowSide) → RunsPending t.buffers l → RunsPending (map (without_lane z) t.buffers) (low_without_lane z t.buffers l)
  low_reset z Idle w = tt
  low_reset z Abandoned w = tt
  low_reset z (Running n) w = go (in_lane z (at t.buffers n.0).slot) refl
    where
      go : (x : Bool) → in_lane z (at t.buffers n.0).slot ≡ x → RunsPending (map (without_lane z) t.buffers) (cond x Abandoned (Running n))
      go true e = tt
      go false e =
          ap (λ (b : Buffer). is_pending b.slot) (at-without_lane z t.buffers n.0)
          ∙ (ap (λ (x : Bool). is_pending (cond x vacant (at t.buffers n.0)).slot) e ∙ w)

  pub reset_valid : (z : Lane) → ValidTranslator (reset_lane t z)
  unfolding reset_lane
  reset_valid z =
      record {
        least = v.least;
        most = v.most;
        four = length-map t.buffers (without_lane z) ∙ v.four;
        spare = λ i h. at-without_lane z t.buffers i ∙ ap (without_lane z) (v.spare i h);
        whole = λ i. subst Whole (sym (at-without_lane z t.buffers i)) (whole_without (at t.buffers i) (v.whole i));
        keys = λ k i j e f. v.keys k i j (passed_at z (holds k) refl i e) (passed_at z (holds k) refl j f);
        places = λ p i j e f. v.places p i j (passed_at z (at_place p) refl i e) (passed_at z (at_place p) refl j f);
        lanes = λ y. omega (arith, tally_map_le (active_in y) (without_lane z) (passed_before z (active_in y) refl) t.buffers, v.lanes y);
        running = low_reset z t.low v.running;
      }
    where
      whole_without : (b : Buffer) → Whole b → Whole (without_lane z b)
      whole_without b w = go (in_lane z b.slot)
        where
          go : (x : Bool) → Whole (cond x vacant b)
          go true = vacant-whole
          go false = w
