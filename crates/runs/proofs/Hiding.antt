-- The marked bytes, blanked: a call of the blanked translator with blanked bytes is the blanked call. Assumes nothing.
use Prim.Native.Nat.{ℕ, zero, suc, ◌+◌}
use mathlib.Core.Path.{◌≡◌, refl, sym, ◌∙◌, ap, ap₂}
use mathlib.Core.List.{List, [], ◌∷◌, map}
use mathlib.Core.Bool.{Bool, true, false, cond, true≢false}
use lib.ListN.{length, set, take, replicate, length-replicate, length-append, replicate-append-replicate, get_or-map}
use Rattle.payload.specs.declared.Payload.{Payload}
use Rattle.payload.specs.Payload.{padded, content, no_payload, payload_of}
use Rattle.buffer.specs.declared.Lane.{Lane}
use Rattle.buffer.specs.declared.Key.{Key}
use Rattle.buffer.specs.declared.StartSplit.{StartSplit}
use Rattle.buffer.specs.declared.DeviceResult.{DeviceResult}
use Rattle.buffer.specs.declared.Slot.{Slot}
use Rattle.buffer.specs.declared.Slot.TheVariants.{Empty, Pending, Ready, Old}
use Rattle.buffer.specs.declared.Buffer.{Buffer}
use Rattle.buffer.specs.declared.BufferNumber.{BufferNumber}
use Rattle.buffer.specs.Key as key
use Rattle.buffer.specs.Lengths.{start_fits, result_length, is_data, suits}
use Rattle.buffer.specs.Buffer.{vacant, is_pending, is_free, holds, in_lane, active_in}
use Rattle.buffer.proofs.Keys.{same_true}
use Rattle.std.specs.Prelude.{Err, None, Ok, Option, Result, Some}
use Rattle.translator.specs.declared.NotLaunched.{NotLaunched}
use Rattle.translator.specs.declared.Translator.{Translator}
use Rattle.translator.specs.declared.LowSide.{LowSide}
use Rattle.translator.specs.declared.LowSide.TheVariants.{Idle, Running, Abandoned}
use Rattle.translator.specs.declared.Choice.{Choice}
use Rattle.translator.specs.declared.Choice.TheVariants.{NoRoom, LimitReached, Held, Reused, Took}
use Rattle.translator.specs.declared.NotLaunched.TheVariants.{NothingPending, Occupied}
use Rattle.translator.specs.declared.NotDelivered.TheVariants as answer
use Rattle.translator.specs.declared.Started.{Started}
use Rattle.translator.specs.declared.Completed.{Completed}
use Rattle.translator.specs.declared.Launched.{Launched}
use Rattle.translator.specs.declared.Delivered.{Delivered}
use Rattle.translator.specs.Translator.{at, tally}
use Rattle.translator.specs.Order.{pass, is_before, waiting, reranked, ranked_in, ranked, sooner, earliest}
use Rattle.translator.specs.Search.{later, find, choose_held, chosen}
use Rattle.translator.specs.Limit.{permitted}
use Rattle.translator.specs.ResetLane.{without_lane, low_without_lane, reset_lane}
use Rattle.bools.specs.Bit.{bit}
use Rattle.translator.specs.StartSplit.{stored, start_by, start_split, outside}
use Rattle.translator.specs.CompleteSplit.{given, completed, complete_at, complete_split}
use Rattle.translator.specs.Launch.{launched, launch_at, launch_by, launch}
use Rattle.translator.specs.Deliver.{undelivered, delivered, deliver_by, deliver}
use Rattle.translator.specs.Clear.{clear_at, clear_buffer}
use Rattle.translator.proofs.Finding.{FindSays, find_says}
use Rattle.runs.specs.Altered.{holds_key}
use Rattle.runs.specs.Demand3.{Marks}

-- the bytes, or as many zeros
abbrev pub blank : Bool → List ℕ → List ℕ
blank true x = replicate (length x) 0
blank false x = x

pub length-blank : (b : Bool) (x : List ℕ) → length (blank b x) ≡ length x
length-blank true x = length-replicate (length x) 0
length-blank false x = refl

blank-padded : (b : Bool) (x : List ℕ) → blank b (padded x) ≡ padded (blank b x)
unfolding padded
blank-padded true x = simp (length-append, length-replicate, replicate-append-replicate)
blank-padded false x = refl

blank-take : (b : Bool) (n : ℕ) (x : List ℕ) → take n (blank b x) ≡ blank b (take n x)
blank-take false n x = refl
blank-take true n x = go n x
  where
    go : (n : ℕ) (x : List ℕ) → take {A = ℕ} n (replicate (length x) 0) ≡ replicate (length (take n x)) 0
    go zero x = refl
    go (suc n) [] = refl
    go (suc n) (y ∷ x) = ap {B = List ℕ} (λ r. 0 ∷ r) (go n x)

pub blank_nil : (b : Bool) → blank b [] ≡ []
blank_nil true = refl
blank_nil false = refl

abbrev pub blank_p : Bool → Payload → Payload
blank_p b p = record { len = p.len; bytes = blank b p.bytes }

blank_none : (b : Bool) → blank_p b no_payload ≡ no_payload
blank_none true = refl
blank_none false = refl

pub blank-content : (b : Bool) (p : Payload) → content (blank_p b p) ≡ blank b (content p)
blank-content b p = blank-take b p.len p.bytes

blank_payload : (b : Bool) (l : List ℕ) → payload_of (blank b l) ≡ blank_p b (payload_of l)
unfolding payload_of
blank_payload b l = rw (blank-take b 64 l, length-blank b (take 64 l), blank-padded b (take 64 l))

holds-key-reranked : (bs : List Buffer) (m : Marks) (s : Slot) → holds_key m (reranked bs s) ≡ holds_key m s
holds-key-reranked bs m Empty = refl
holds-key-reranked bs m (Pending s p) = refl
holds-key-reranked bs m (Ready s r) = refl
holds-key-reranked bs m (Old s r) = refl

module _ (m : Marks) where
  abbrev pub hide_b : Buffer → Buffer
  hide_b b = record { slot = b.slot; payload = blank_p (holds_key m b.slot) b.payload }

  abbrev pub hide_t : Translator → Translator
  hide_t t = record { buffers = map hide_b t.buffers; count = t.count; low = t.low }

  -- whether a delivery now may be blanked: what runs is marked, or nothing runs
  abbrev pub shown : List Buffer → LowSide → Bool
  shown bs Idle = true
  shown bs (Running n) = holds_key m (at bs n.0).slot
  shown bs Abandoned = true

  -- ---- the searches do not see the bytes

  pub hide_at : (bs : List Buffer) (i : ℕ) → at (map hide_b bs) i ≡ hide_b (at bs i)
  hide_at bs i = get_or-map hide_b bs i vacant

  hide_set : (bs : List Buffer) (i : ℕ) (b : Buffer) → map hide_b (set bs i b) ≡ set (map hide_b bs) i (hide_b b)
  hide_set [] i b = refl
  hide_set (x ∷ bs) zero b = refl
  hide_set (x ∷ bs) (suc i) b = ap {B = List Buffer} (λ r. hide_b x ∷ r) (hide_set bs i b)

  hide_take : (n : ℕ) (bs : List Buffer) → take n (map hide_b bs) ≡ map hide_b (take n bs)
  hide_take zero bs = refl
  hide_take (suc n) [] = refl
  hide_take (suc n) (b ∷ bs) = ap {B = List Buffer} (λ r. hide_b b ∷ r) (hide_take n bs)

  hide_tally : (f : Slot → Bool) (bs : List Buffer) → tally f (map hide_b bs) ≡ tally f bs
  unfolding tally
  hide_tally f [] = refl
  hide_tally f (b ∷ bs) = ap (λ (n : ℕ). bit (f b.slot) + n) (hide_tally f bs)

  hide_find : (f : Slot → Bool) (bs : List Buffer) → find f (map hide_b bs) ≡ find f bs
  unfolding find
  hide_find f [] = refl
  hide_find f (b ∷ bs) = ap (λ (x : Option BufferNumber). cond (f b.slot) (Some (record { 0 = 0 })) (later x)) (hide_find f bs)

  hide_pass : {C : Type 0} (f : C → Slot → BufferNumber → C) (n : ℕ) (c : C) (bs : List Buffer) → pass f n c (map hide_b bs) ≡ pass f n c bs
  unfolding pass
  hide_pass f n c [] = refl
  hide_pass f n c (b ∷ bs) = hide_pass f (suc n) (f c b.slot (record { 0 = n })) bs

  hide_first : (n : ℕ) (f : Slot → Bool) (bs : List Buffer) → find f (take n (map hide_b bs)) ≡ find f (take n bs)
  hide_first n f bs = rw (hide_take n bs) (hide_find f (take n bs))

  hide_earliest : (n : ℕ) (bs : List Buffer) → earliest (take n (map hide_b bs)) ≡ earliest (take n bs)
  unfolding earliest
  hide_earliest n bs = rw (hide_take n bs) (hide_pass sooner 0 None (take n bs))

  hide_chosen : (n : ℕ) (k : Key) (bs : List Buffer) → chosen k (take n (map hide_b bs)) ≡ chosen k (take n bs)
  unfolding chosen
  hide_chosen n k bs = rw (hide_take n bs, hide_find (holds k) (take n bs)) (go (find (holds k) (take n bs)))
    where
      go : (f : Option BufferNumber) → choose_held (map hide_b (take n bs)) f ≡ choose_held (take n bs) f
      go None = rw (hide_find is_free (take n bs))
      go (Some i) = rw (hide_at (take n bs) i.0)

  hide_permitted : (b n : ℕ) (k : Key) (bs : List Buffer) → permitted b k (take n (map hide_b bs)) ≡ permitted b k (take n bs)
  unfolding permitted
  hide_permitted b n k bs = rw (hide_chosen n k bs, hide_take n bs, hide_tally (active_in k.lane) (take n bs))

  hide_reranked : (bs : List Buffer) (s : Slot) → reranked (map hide_b bs) s ≡ reranked bs s
  hide_reranked bs Empty = refl
  hide_reranked bs (Pending s p) = rw (hide_tally (is_before p) bs)
  hide_reranked bs (Ready s r) = refl
  hide_reranked bs (Old s r) = refl

  hide_ranked : (bs : List Buffer) → ranked (map hide_b bs) ≡ map hide_b (ranked bs)
  unfolding ranked
  hide_ranked bs = go bs
    where
      one : (b : Buffer) → ranked_in (map hide_b bs) (hide_b b) ≡ hide_b (ranked_in bs b)
      one b = rw (hide_reranked bs b.slot, holds-key-reranked bs m b.slot)

      go : (cs : List Buffer) → map (ranked_in (map hide_b bs)) (map hide_b cs) ≡ map hide_b (map (ranked_in bs) cs)
      go [] = refl
      go (c ∷ cs) = ap₂ {C = List Buffer} ◌∷◌ (one c) (go cs)

  -- ---- the calls

  abbrev pub hide_started : Started → Started
  hide_started o = record { next = hide_t o.next; answer = o.answer }

  abbrev pub hide_delivered : Delivered → Delivered
  hide_delivered o = record { next = hide_t o.next; answer = o.answer }

  hide_stored : (t : Translator) (n : BufferNumber) (s : StartSplit) (l : List ℕ) → stored (hide_t t) n s (blank (m (key.key_of s)) l) ≡ hide_t (stored t n s l)
  unfolding stored
  hide_stored t n s l =
      rw (hide_ranked t.buffers, hide_tally is_pending t.buffers, blank_payload (m (key.key_of s)) l, hide_set (ranked t.buffers) n.0 (record { slot = Pending s (waiting t.buffers); payload = payload_of l }))

  pub hide_start : (t : Translator) (s : StartSplit) (l : List ℕ) → start_split (hide_t t) s (blank (m (key.key_of s)) l) ≡ hide_started (start_split t s l)
  unfolding start_split
  hide_start t s l =
      rw (length-blank (m (key.key_of s)) l, hide_permitted t.count t.count (key.key_of s) t.buffers)
      (go (start_fits s (length l)) (permitted t.count (key.key_of s) (take t.count t.buffers)))
    where
      by : (c : Choice) → start_by (hide_t t) s (blank (m (key.key_of s)) l) c ≡ hide_started (start_by t s l c)
      by NoRoom = refl
      by LimitReached = refl
      by (Held n) = refl
      by (Reused n) = rw (hide_stored t n s l)
      by (Took n) = rw (hide_stored t n s l)

      go : (x : Bool) (c : Choice) → cond x (start_by (hide_t t) s (blank (m (key.key_of s)) l) c) (record { next = hide_t t; answer = Err outside })
          ≡ hide_started (cond x (start_by t s l c) (record { next = t; answer = Err outside }))
      go true c = by c
      go false c = refl

  abbrev pub hide_completed : Bool → Completed → Completed
  hide_completed b o = record { next = hide_t o.next; answer = o.answer; payload = blank_p b o.payload }

  -- a buffer that holds k is marked exactly if k is
  under : (k : Key) (s : Slot) → holds k s ≡ true → holds_key m s ≡ m k
  under k Empty e = absurd (true≢false (sym e))
  under k (Pending s p) e = ap m (same_true (key.key_of s) k e)
  under k (Ready s r) e = ap m (same_true (key.key_of s) k e)
  under k (Old s r) e = ap m (same_true (key.key_of s) k e)

  hide_given : (b : Bool) (r : DeviceResult) (p : Payload) → given r (blank_p b p) ≡ blank_p b (given r p)
  hide_given b r p = go (is_data r)
    where
      go : (x : Bool) → cond x (blank_p b p) no_payload ≡ blank_p b (cond x p no_payload)
      go true = refl
      go false = sym (blank_none b)

  pub hide_complete : (t : Translator) (k : Key) → complete_split (hide_t t) k ≡ hide_completed (m k) (complete_split t k)
  unfolding complete_split
  hide_complete t k = rw (hide_first t.count (holds k) t.buffers) (go (find (holds k) (take t.count t.buffers)) (find_says (holds k) t.count t.buffers))
    where
      go : (f : Option BufferNumber) → FindSays (holds k) t.count t.buffers f → complete_at (hide_t t) f ≡ hide_completed (m k) (complete_at t f)
      go None r = rw (blank_none (m k))
      go (Some n) r = rw (hide_at t.buffers n.0, under k (at t.buffers n.0).slot r.passes) (slot (at t.buffers n.0).slot refl)
        where
          p : Payload
          p = (at t.buffers n.0).payload

          slot : (s : Slot) → (at t.buffers n.0).slot ≡ s → completed (hide_t t) n (blank_p (m k) p) s ≡ hide_completed (m k) (completed t n p s)
          slot Empty e = rw (blank_none (m k))
          slot (Pending s q) e = rw (blank_none (m k))
          slot (Ready s x) e =
              rw (hide_set t.buffers n.0 (record { slot = Old s x; payload = p }), hide_given (m k) x p, sym (sym (under k (at t.buffers n.0).slot r.passes) ∙ ap (holds_key m) e))
          slot (Old s x) e = rw (hide_given (m k) x p)

  -- whether what is launched is marked
  abbrev pub marked : Result StartSplit NotLaunched → Bool
  marked (Err NothingPending) = false
  marked (Err Occupied) = false
  marked (Ok s) = m (key.key_of s)

  abbrev pub hide_launched : Launched → Launched
  hide_launched o = record { next = hide_t o.next; answer = o.answer; payload = blank_p (marked o.answer) o.payload }

  pub hide_launch : (t : Translator) → launch (hide_t t) ≡ hide_launched (launch t)
  unfolding launch
  hide_launch t = go t.low
    where
      slot : (n : BufferNumber) (s : Slot) → (at t.buffers n.0).slot ≡ s → launched (hide_t t) n (blank_p (holds_key m s) (at t.buffers n.0).payload) s ≡ hide_launched (launched t n (at t.buffers n.0).payload s)
      slot n Empty e = refl
      slot n (Pending s p) e = refl
      slot n (Ready s r) e = refl
      slot n (Old s r) e = refl

      found : (e : Option (BufferNumber × ℕ)) → launch_at (hide_t t) e ≡ hide_launched (launch_at t e)
      found None = refl
      found (Some (n, p)) = rw (hide_at t.buffers n.0) (slot n (at t.buffers n.0).slot refl)

      go : (l : LowSide) → launch_by (hide_t t) l ≡ hide_launched (launch_by t l)
      go Idle = rw (hide_earliest t.count t.buffers) (found (earliest (take t.count t.buffers)))
      go (Running n) = refl
      go Abandoned = refl

  pub hide_deliver : (t : Translator) (r : DeviceResult) (l : List ℕ) → deliver (hide_t t) r (blank (shown t.buffers t.low) l) ≡ hide_delivered (deliver t r l)
  unfolding deliver
  hide_deliver t r l = rw (length-blank (shown t.buffers t.low) l) (go (result_length r (length l)) t.low)
    where
      slot : (n : BufferNumber) (s : Slot) → (at t.buffers n.0).slot ≡ s → delivered (hide_t t) r (blank (holds_key m s) l) n s ≡ hide_delivered (delivered t r l n s)
      slot n Empty e = refl
      slot n (Ready s x) e = refl
      slot n (Old s x) e = refl
      slot n (Pending s p) e = by (suits s.pid r)
        where
          by : (x : Bool)
              → cond x (record { next = record { buffers = set (map hide_b t.buffers) n.0 (record { slot = Ready s r; payload = payload_of (blank (m (key.key_of s)) l) }); count = t.count; low = Idle }; answer = Ok tt }) (undelivered (hide_t t) answer.NotInThisState)
              ≡ hide_delivered (cond x (record { next = record { buffers = set t.buffers n.0 (record { slot = Ready s r; payload = payload_of l }); count = t.count; low = Idle }; answer = Ok tt }) (undelivered t answer.NotInThisState))
          by true = rw (blank_payload (m (key.key_of s)) l, hide_set t.buffers n.0 (record { slot = Ready s r; payload = payload_of l }))
          by false = refl

      go : (x : Bool) (low : LowSide) → cond x (deliver_by (hide_t t) r (blank (shown t.buffers low) l) low) (undelivered (hide_t t) answer.Outside)
          ≡ hide_delivered (cond x (deliver_by t r l low) (undelivered t answer.Outside))
      go true Idle = refl
      go true (Running n) = rw (hide_at t.buffers n.0) (slot n (at t.buffers n.0).slot refl)
      go true Abandoned = refl
      go false low = refl

  pub hide_clear : (t : Translator) (k : Key) → clear_buffer (hide_t t) k ≡ hide_t (clear_buffer t k)
  unfolding clear_buffer
  hide_clear t k = rw (hide_first t.count (holds k) t.buffers) (go (find (holds k) (take t.count t.buffers)))
    where
      go : (f : Option BufferNumber) → clear_at (hide_t t) f ≡ hide_t (clear_at t f)
      go None = refl
      go (Some n) = rw (hide_set t.buffers n.0 vacant)

  pub hide_reset : (t : Translator) (z : Lane) → reset_lane (hide_t t) z ≡ hide_t (reset_lane t z)
  unfolding reset_lane
  hide_reset t z = rw (all t.buffers, low t.low)
    where
      one : (b : Buffer) → without_lane z (hide_b b) ≡ hide_b (without_lane z b)
      one b = go (in_lane z b.slot)
        where
          go : (x : Bool) → cond x vacant (hide_b b) ≡ hide_b (cond x vacant b)
          go true = refl
          go false = refl

      all : (bs : List Buffer) → map (without_lane z) (map hide_b bs) ≡ map hide_b (map (without_lane z) bs)
      all [] = refl
      all (b ∷ bs) = ap₂ {C = List Buffer} ◌∷◌ (one b) (all bs)

      low : (l : LowSide) → low_without_lane z (map hide_b t.buffers) l ≡ low_without_lane z t.buffers l
      low Idle = refl
      low (Running n) = rw (hide_at t.buffers n.0)
      low Abandoned = refl
