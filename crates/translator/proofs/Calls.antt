-- What each call leaves: refusals, the earliest, the last stored, the same answer again, old buffers. Assumes nothing.
use Prim.Native.Nat.{ℕ, zero, suc, ◌<◌, ◌≤◌, min}
use native.Mathlib.Omega.{arith}
use mathlib.Core.Path.{◌≡◌, refl, sym, ◌∙◌, ap, subst}
use mathlib.Core.List.{List, [], ◌∷◌}
use mathlib.Core.Bool.{Bool, true, false, cond, true≢false, false≢true}
use borrow.Author.Tests.{eqb-true}
use lib.ListN.{length, set, take, length-take}
use lib.Seq.{get_or-take}
use Rattle.std.specs.Prelude.{Option, Some, None, Result, Ok, Err}
use Rattle.payload.specs.Payload.{payload_of}
use Rattle.buffer.specs.declared.Key.{Key}
use Rattle.buffer.specs.declared.StartSplit.{StartSplit}
use Rattle.buffer.specs.declared.DeviceResult.{DeviceResult}
use Rattle.buffer.specs.declared.DeviceResult.TheVariants as result
use Rattle.buffer.specs.declared.Slot.{Slot}
use Rattle.buffer.specs.declared.Slot.TheVariants.{Empty, Pending, Ready, Old}
use Rattle.buffer.specs.declared.Buffer.{Buffer}
use Rattle.buffer.specs.declared.BufferNumber.{BufferNumber}
use Rattle.buffer.specs.Key.{key_of}
use Rattle.buffer.specs.Lengths.{start_fits, result_length, suits}
use Rattle.buffer.specs.Buffer.{vacant, is_pending, is_active, holds}
use Rattle.translator.specs.declared.LowSide.{LowSide}
use Rattle.translator.specs.declared.LowSide.TheVariants.{Idle, Running, Abandoned}
use Rattle.translator.specs.declared.Translator.{Translator}
use Rattle.translator.specs.declared.Choice.{Choice}
use Rattle.translator.specs.declared.Choice.TheVariants.{NoRoom, LimitReached, Held, Reused, Took}
use Rattle.translator.specs.declared.Outside.{Outside}
use Rattle.translator.specs.declared.NotLaunched.{NotLaunched}
use Rattle.translator.specs.declared.NotLaunched.TheVariants.{NothingPending, Occupied}
use Rattle.translator.specs.declared.NotDelivered.TheVariants as answer
use Rattle.translator.specs.declared.Started.{Started}
use Rattle.translator.specs.declared.Completed.{Completed}
use Rattle.translator.specs.declared.Launched.{Launched}
use Rattle.translator.specs.declared.Delivered.{Delivered}
use Rattle.translator.specs.Translator.{at}
use Rattle.translator.specs.Search.{later, find, chosen}
use Rattle.translator.specs.Limit.{held_by, may_store, limited, permitted, AtLimit, NoRepeat}
use Rattle.translator.specs.ResetLane.{reset_lane}
use Rattle.translator.specs.Valid.{at_place, ValidTranslator}
use Rattle.translator.specs.Order.{waiting, before, ranked, earliest}
use Rattle.translator.specs.StartSplit.{outside, stored, start_by, start_split}
use Rattle.translator.specs.CompleteSplit.{completed, complete_at, complete_split}
use Rattle.translator.specs.Launch.{launched, launch_at, launch_by, launch}
use Rattle.translator.specs.Deliver.{undelivered, delivered, deliver_by, deliver}
use Rattle.translator.specs.Answers.{is_refusal, start_number, result_number, complete_number, launch_number, deliver_number}
use Rattle.translator.specs.Claims.{RefusedSame, LaunchesEarliest, Last, StoredLast, SameAgain, OldKept, AbandonedDropped, LaneLimit, LaneReset}
use Rattle.translator.proofs.At.{inside, at_same, at_other, at-ranked, length-ranked, reranked_idle, at-without_lane}
use Rattle.translator.proofs.Finding.{FindSays, find_says, ChosenSays, chosen_says, may_store_lem, may_not_store, PermittedSays, permitted_says, First, EarliestSays, earliest_says}
use Rattle.translator.proofs.Ranks.{rank_below, ranked-place}
use Rattle.translator.proofs.Kept.{in_use, no_repeat}

-- ---- a refused call leaves the translator as it was

start_same : (t : Translator) (s : StartSplit) (l : List ℕ) → is_refusal (start_number (start_split t s l).answer) ≡ true → (start_split t s l).next ≡ t
unfolding start_split
start_same t s l = go (start_fits s (length l)) (permitted t.count (key_of s) (take t.count t.buffers))
  where
    Same : Started → Type 0
    Same o = is_refusal (start_number o.answer) ≡ true → o.next ≡ t

    go : (x : Bool) (c : Choice) → Same (cond x (start_by t s l c) (record { next = t; answer = Err outside }))
    go true NoRoom e = refl
    go true LimitReached e = refl
    go true (Held n) e = refl
    go true (Reused n) e = absurd (false≢true e)
    go true (Took n) e = absurd (false≢true e)
    go false c e = refl

result_served : (r : DeviceResult) → is_refusal (result_number r) ≡ false
result_served result.Failure = refl
result_served result.Ack = refl
result_served result.Nak = refl
result_served result.Stall = refl
result_served result.Data0 = refl
result_served result.Data1 = refl

complete_same : (t : Translator) (k : Key) → is_refusal (complete_number (complete_split t k).answer) ≡ true → (complete_split t k).next ≡ t
unfolding complete_split
complete_same t k = go (find (holds k) (take t.count t.buffers))
  where
    Same : Completed → Type 0
    Same o = is_refusal (complete_number o.answer) ≡ true → o.next ≡ t

    slot : (n : BufferNumber) (s : Slot) → Same (completed t n (at t.buffers n.0).payload s)
    slot n Empty e = refl
    slot n (Pending s p) e = refl
    slot n (Ready s r) e = absurd (true≢false (sym e ∙ result_served r))
    slot n (Old s r) e = refl

    go : (f : Option BufferNumber) → Same (complete_at t f)
    go None e = refl
    go (Some n) e = slot n (at t.buffers n.0).slot e

launch_same : (t : Translator) → is_refusal (launch_number (launch t).answer) ≡ true → (launch t).next ≡ t
unfolding launch
launch_same t = go t.low
  where
    Same : Launched → Type 0
    Same o = is_refusal (launch_number o.answer) ≡ true → o.next ≡ t

    slot : (n : BufferNumber) (s : Slot) → Same (launched t n (at t.buffers n.0).payload s)
    slot n Empty e = refl
    slot n (Pending s p) e = absurd (false≢true e)
    slot n (Ready s r) e = refl
    slot n (Old s r) e = refl

    found : (x : Option (BufferNumber × ℕ)) → Same (launch_at t x)
    found None e = refl
    found (Some (n, p)) e = slot n (at t.buffers n.0).slot e

    go : (l : LowSide) → Same (launch_by t l)
    go Idle e = found (earliest (take t.count t.buffers)) e
    go (Running n) e = refl
    go Abandoned e = refl

deliver_same : (t : Translator) (r : DeviceResult) (l : List ℕ) → is_refusal (deliver_number (deliver t r l).answer) ≡ true → (deliver t r l).next ≡ t
unfolding deliver
deliver_same t r l = go (result_length r (length l)) t.low
  where
    Same : Delivered → Type 0
    Same o = is_refusal (deliver_number o.answer) ≡ true → o.next ≡ t

    suited : (o : Delivered) → o.answer ≡ Ok tt → (x : Bool) → Same (cond x o (undelivered t answer.NotInThisState))
    suited o d true e = absurd (false≢true (ap (λ a. is_refusal (deliver_number a)) (sym d) ∙ e))
    suited o d false e = refl

    slot : (n : BufferNumber) (s : Slot) → Same (delivered t r l n s)
    slot n Empty e = refl
    slot n (Pending s p) e = suited _ refl (suits s.pid r) e
    slot n (Ready s x) e = refl
    slot n (Old s x) e = refl

    go : (x : Bool) (low : LowSide) → Same (cond x (deliver_by t r l low) (undelivered t answer.Outside))
    go true Idle e = refl
    go true (Running n) e = slot n (at t.buffers n.0).slot e
    go true Abandoned e = absurd (false≢true e)
    go false low e = refl

pub refused_same : RefusedSame
refused_same = record { start = start_same; complete = complete_same; launched = launch_same; delivered = deliver_same }

-- ---- a delivery while abandoned

pub abandoned_dropped : AbandonedDropped
unfolding deliver
abandoned_dropped t r l e =
    elim (result_length r (length l)) as (λ x. (cond x (deliver_by t r l t.low) (undelivered t answer.Outside)).next.buffers ≡ t.buffers) [
      | true ↦ rw e
      | false ↦ refl
    ]

-- ---- what is stored is last

last_stored : (t : Translator) (s : StartSplit) (l : List ℕ) (n : BufferNumber) → n.0 < length t.buffers → (start_split t s l).next ≡ stored t n s l → Last t s l n
unfolding stored
last_stored t s l n here e =
    record {
      place = waiting t.buffers;
      stored = ap (λ (x : Translator). at x.buffers n.0) e ∙ at_same (ranked t.buffers) n.0 b there;
      last = λ j q f ne.
          let g : at_place q (at (ranked t.buffers) j).slot ≡ true =
          ap (λ (x : Buffer). at_place q x.slot) (sym (at_other (ranked t.buffers) n.0 b there j ne)) ∙ (ap (λ (x : Translator). at_place q (at x.buffers j).slot) (sym e) ∙ f) in
          let x = ranked-place t.buffers j q g in
          let below : before x.0 t.buffers < waiting t.buffers = rank_below t.buffers j x.0 x.1 in
          omega (arith, below, x.2);
    }
  where
    b : Buffer
    b = record { slot = Pending s (waiting t.buffers); payload = payload_of l }

    there : n.0 < length (ranked t.buffers)
    there = subst (λ (m : ℕ). n.0 < m) (sym (length-ranked t.buffers)) here

-- what a start-split that was answered so did
abbrev pub StartedAs : Translator → StartSplit → List ℕ → Result Choice Outside → Translator → Type 0
StartedAs t s l (Err o) u = u ≡ t
StartedAs t s l (Ok NoRoom) u = u ≡ t
StartedAs t s l (Ok LimitReached) u = u ≡ t
StartedAs t s l (Ok (Held n)) u = u ≡ t
StartedAs t s l (Ok (Reused n)) u = (n.0 < length t.buffers) × (u ≡ stored t n s l)
StartedAs t s l (Ok (Took n)) u = (n.0 < length t.buffers) × (u ≡ stored t n s l)

pub started_as_lem : (t : Translator) (s : StartSplit) (l : List ℕ) → StartedAs t s l (start_split t s l).answer (start_split t s l).next
unfolding start_split
started_as_lem t s l = go (start_fits s (length l)) (permitted t.count (key_of s) (take t.count t.buffers)) (permitted_says t.count (key_of s) t.count t.buffers)
  where
    As : Started → Type 0
    As o = StartedAs t s l o.answer o.next

    go : (x : Bool) (c : Choice) → PermittedSays t.count (key_of s) t.count t.buffers c → As (cond x (start_by t s l c) (record { next = t; answer = Err outside }))
    go true NoRoom r = refl
    go true LimitReached r = refl
    go true (Held n) r = refl
    go true (Reused n) r = (r.says.found.inside, refl)
    go true (Took n) r = (r.says.free.inside, refl)
    go false c r = refl

pub stored_last : StoredLast
stored_last =
    record {
      reused = λ t s l n e. let x = subst (λ a. StartedAs t s l a (start_split t s l).next) e (started_as_lem t s l) in last_stored t s l n x.0 x.1;
      took = λ t s l n e. let x = subst (λ a. StartedAs t s l a (start_split t s l).next) e (started_as_lem t s l) in last_stored t s l n x.0 x.1;
    }

-- ---- a launch gives the earliest

-- what a launch that was answered so did
pub record EarliestLaunched (t : Translator) (s : StartSplit) (o : Launched) : Type 0 where
  pub number : BufferNumber
  pub place : ℕ
  pub pending : (at t.buffers number.0).slot ≡ Pending s place
  pub least : (j q : ℕ) → at_place q (at t.buffers j).slot ≡ true → place ≤ q
  pub next : o.next ≡ record { buffers = t.buffers; count = t.count; low = Running number }
  pub payload : o.payload ≡ (at t.buffers number.0).payload

abbrev pub LaunchedAs : Translator → Result StartSplit NotLaunched → Launched → Type 0
LaunchedAs t (Err NothingPending) o = (j : ℕ) → is_pending (at t.buffers j).slot ≡ false
LaunchedAs t (Err Occupied) o = Unit {0}
LaunchedAs t (Ok s) o = EarliestLaunched t s o

module _ (t : Translator) (v : ValidTranslator t) where
  long : length (take t.count t.buffers) ≡ t.count
  long = length-take t.count t.buffers ∙ min_left
    where
      min_left : min t.count (length t.buffers) ≡ t.count
      min_left = omega (arith, v.most, v.four)

  -- what holds of the buffers in use holds of all
  same_at : (j : ℕ) → j < t.count → at (take t.count t.buffers) j ≡ at t.buffers j
  same_at j h = get_or-take t.count t.buffers j vacant h

  nothing : EarliestSays (take t.count t.buffers) (length (take t.count t.buffers)) None → (j : ℕ) → is_pending (at t.buffers j).slot ≡ false
  nothing says j = go (is_pending (at t.buffers j).slot) refl
    where
      go : (x : Bool) → is_pending (at t.buffers j).slot ≡ x → x ≡ false
      go true e =
          let used : j < t.count = in_use t v is_pending refl j e in
          sym (ap (λ (b : Buffer). is_pending b.slot) (same_at j used) ∙ e) ∙ says j (subst (λ (m : ℕ). j < m) (sym long) used)
      go false e = refl

  slot : (n : BufferNumber) (p : ℕ) → First (take t.count t.buffers) (length (take t.count t.buffers)) n p → (s : Slot) → (at t.buffers n.0).slot ≡ s
      → LaunchedAs t (launched t n (at t.buffers n.0).payload s).answer (launched t n (at t.buffers n.0).payload s)
  slot n p f s e = by s e (ap (λ (b : Buffer). at_place p b.slot) (sym (same_at n.0 used)) ∙ f.placed)
    where
      used : n.0 < t.count
      used = subst (λ (m : ℕ). n.0 < m) long f.small

      by : (s : Slot) → (at t.buffers n.0).slot ≡ s → at_place p (at t.buffers n.0).slot ≡ true
          → LaunchedAs t (launched t n (at t.buffers n.0).payload s).answer (launched t n (at t.buffers n.0).payload s)
      by Empty e g = absurd (false≢true (ap (at_place p) (sym e) ∙ g))
      by (Ready s r) e g = absurd (false≢true (ap (at_place p) (sym e) ∙ g))
      by (Old s r) e g = absurd (false≢true (ap (at_place p) (sym e) ∙ g))
      by (Pending s q) e g =
          record {
            number = n;
            place = p;
            pending = e ∙ ap (Pending s) (eqb-true q p (ap (at_place p) (sym e) ∙ g));
            least = λ j r h.
                let u : j < t.count = in_use t v (at_place r) refl j h in
                f.least j r (subst (λ (m : ℕ). j < m) (sym long) u) (ap (λ (b : Buffer). at_place r b.slot) (same_at j u) ∙ h);
            next = refl;
            payload = refl;
          }

  pub launched_as_lem : LaunchedAs t (launch t).answer (launch t)
  unfolding launch
  launched_as_lem = go t.low
    where
      found : (e : Option (BufferNumber × ℕ)) → EarliestSays (take t.count t.buffers) (length (take t.count t.buffers)) e → LaunchedAs t (launch_at t e).answer (launch_at t e)
      found None says = nothing says
      found (Some (n, p)) says = slot n p says (at t.buffers n.0).slot refl

      go : (l : LowSide) → LaunchedAs t (launch_by t l).answer (launch_by t l)
      go Idle = found (earliest (take t.count t.buffers)) (earliest_says (take t.count t.buffers))
      go (Running n) = tt
      go Abandoned = tt

pub launches_earliest : LaunchesEarliest
launches_earliest =
    record {
      gives = λ t s v e.
          let g : EarliestLaunched t s (launch t) = subst (λ a. LaunchedAs t a (launch t)) e (launched_as_lem t v) in
          record { number = g.number; place = g.place; pending = g.pending; least = g.least; runs = ap (λ (x : Translator). x.low) g.next; payload = g.payload };
      nothing = λ t v e. subst (λ a. LaunchedAs t a (launch t)) e (launched_as_lem t v);
    }

-- ---- the same answer again

find-set : (f : Slot → Bool) (m : ℕ) (bs : List Buffer) (i : ℕ) (b : Buffer) → i < length bs → f b.slot ≡ f (at bs i).slot → find f (take m (set bs i b)) ≡ find f (take m bs)
unfolding find
find-set f zero bs i b h e = refl
find-set f (suc m) [] i b h e = refl
find-set f (suc m) (c ∷ bs) zero b h e = rw e
find-set f (suc m) (c ∷ bs) (suc i) b h e = ap (λ (x : Option BufferNumber). cond (f c.slot) (Some (record { 0 = 0 })) (later x)) (find-set f m bs i b (omega (arith, h)) e)

pub same_again : SameAgain
unfolding complete_split
same_again t k = go (find (holds k) (take t.count t.buffers)) refl (find_says (holds k) t.count t.buffers)
  where
    Again : Completed → Type 0
    Again o = complete_at o.next (find (holds k) (take o.next.count o.next.buffers)) ≡ o

    go : (f : Option BufferNumber) → find (holds k) (take t.count t.buffers) ≡ f → FindSays (holds k) t.count t.buffers f → Again (complete_at t f)
    go None e r = rw e
    go (Some n) e r = slot (at t.buffers n.0).slot refl
      where
        slot : (s : Slot) → (at t.buffers n.0).slot ≡ s → Again (completed t n (at t.buffers n.0).payload s)
        slot Empty g = rw (e, g)
        slot (Pending s p) g = rw (e, g)
        slot (Old s x) g = rw (e, g)
        slot (Ready s x) g =
            let b : Buffer = record { slot = Old s x; payload = (at t.buffers n.0).payload } in
            let same : at (set t.buffers n.0 b) n.0 ≡ b = at_same t.buffers n.0 b r.inside in
            rw (find-set (holds k) t.count t.buffers n.0 b r.inside (ap (holds k) (sym g)), e, same)

-- ---- old buffers

old_start : (t : Translator) (s o : StartSplit) (r : DeviceResult) (l : List ℕ) (i : ℕ) → (at t.buffers i).slot ≡ Old o r
    → ¬ ((start_split t s l).answer ≡ Ok (Reused (record { 0 = i }))) → ¬ ((start_split t s l).answer ≡ Ok (Took (record { 0 = i })))
    → at (start_split t s l).next.buffers i ≡ at t.buffers i
unfolding stored
old_start t s o r l i e nr nt = go (start_split t s l).answer refl (started_as_lem t s l)
  where
    other : (n : BufferNumber) → n.0 < length t.buffers → ¬ (i ≡ n.0) → at (stored t n s l).buffers i ≡ at t.buffers i
    other n h ne =
        at_other (ranked t.buffers) n.0 (record { slot = Pending s (waiting t.buffers); payload = payload_of l }) (subst (λ (m : ℕ). n.0 < m) (sym (length-ranked t.buffers)) h) i ne
        ∙ (at-ranked t.buffers i ∙ ap (λ (x : Slot). record { slot = x; payload = (at t.buffers i).payload }) (reranked_idle t.buffers (at t.buffers i).slot (ap is_pending e)))

    go : (a : Result Choice Outside) → (start_split t s l).answer ≡ a → StartedAs t s l a (start_split t s l).next → at (start_split t s l).next.buffers i ≡ at t.buffers i
    go (Err o) f x = ap (λ (u : Translator). at u.buffers i) x
    go (Ok NoRoom) f x = ap (λ (u : Translator). at u.buffers i) x
    go (Ok LimitReached) f x = ap (λ (u : Translator). at u.buffers i) x
    go (Ok (Held n)) f x = ap (λ (u : Translator). at u.buffers i) x
    go (Ok (Reused n)) f x = ap (λ (u : Translator). at u.buffers i) x.1 ∙ other n x.0 (λ q. nr (rw q f))
    go (Ok (Took n)) f x = ap (λ (u : Translator). at u.buffers i) x.1 ∙ other n x.0 (λ q. nt (rw q f))

-- a call that leaves buffer n or changes it where it was not old
old_else : (t : Translator) (o : StartSplit) (r : DeviceResult) (i : ℕ) → (at t.buffers i).slot ≡ Old o r → (n : BufferNumber) (b : Buffer) (f : Slot → Bool)
    → f (at t.buffers n.0).slot ≡ true → f (Old o r) ≡ false → n.0 < length t.buffers → at (set t.buffers n.0 b) i ≡ at t.buffers i
old_else t o r i e n b f yes-n no_old h =
    at_other t.buffers n.0 b h i (λ q. true≢false (sym yes-n ∙ (ap (λ (x : ℕ). f (at t.buffers x).slot) (sym q) ∙ (ap f e ∙ no_old))))

is_ready : Slot → Bool
is_ready Empty = false
is_ready (Pending s p) = false
is_ready (Ready s r) = true
is_ready (Old s r) = false

old-complete : (t : Translator) (k : Key) (o : StartSplit) (r : DeviceResult) (i : ℕ) → (at t.buffers i).slot ≡ Old o r
    → at (complete_split t k).next.buffers i ≡ at t.buffers i
unfolding complete_split is_ready
old-complete t k o r i e = go (find (holds k) (take t.count t.buffers)) (find_says (holds k) t.count t.buffers)
  where
    go : (f : Option BufferNumber) → FindSays (holds k) t.count t.buffers f → at (complete_at t f).next.buffers i ≡ at t.buffers i
    go None x = refl
    go (Some n) x = slot (at t.buffers n.0).slot refl
      where
        slot : (s : Slot) → (at t.buffers n.0).slot ≡ s → at (completed t n (at t.buffers n.0).payload s).next.buffers i ≡ at t.buffers i
        slot Empty g = refl
        slot (Pending s p) g = refl
        slot (Ready s y) g = old_else t o r i e n (record { slot = Old s y; payload = (at t.buffers n.0).payload }) is_ready (ap is_ready g) refl x.inside
        slot (Old s y) g = refl

old-launch : (t : Translator) (i : ℕ) → at (launch t).next.buffers i ≡ at t.buffers i
unfolding launch
old-launch t i = ap (λ (bs : List Buffer). at bs i) (go t.low)
  where
    slot : (n : BufferNumber) (s : Slot) → (launched t n (at t.buffers n.0).payload s).next.buffers ≡ t.buffers
    slot n Empty = refl
    slot n (Pending s p) = refl
    slot n (Ready s r) = refl
    slot n (Old s r) = refl

    found : (e : Option (BufferNumber × ℕ)) → (launch_at t e).next.buffers ≡ t.buffers
    found None = refl
    found (Some (n, p)) = slot n (at t.buffers n.0).slot

    go : (l : LowSide) → (launch_by t l).next.buffers ≡ t.buffers
    go Idle = found (earliest (take t.count t.buffers))
    go (Running n) = refl
    go Abandoned = refl

old-deliver : (t : Translator) (x : DeviceResult) (l : List ℕ) (o : StartSplit) (r : DeviceResult) (i : ℕ) → (at t.buffers i).slot ≡ Old o r
    → at (deliver t x l).next.buffers i ≡ at t.buffers i
unfolding deliver
old-deliver t x l o r i e = go (result_length x (length l)) t.low
  where
    slot : (n : BufferNumber) (s : Slot) → (at t.buffers n.0).slot ≡ s → at (delivered t x l n s).next.buffers i ≡ at t.buffers i
    slot n Empty g = refl
    slot n (Ready s y) g = refl
    slot n (Old s y) g = refl
    slot n (Pending s p) g = by (suits s.pid x)
      where
        b : Buffer
        b = record { slot = Ready s x; payload = payload_of l }

        by : (y : Bool) → at (cond y (record { next = record { buffers = set t.buffers n.0 b; count = t.count; low = Idle }; answer = Ok tt }) (undelivered t answer.NotInThisState)).next.buffers i ≡ at t.buffers i
        by true = old_else t o r i e n b is_pending (ap is_pending g) refl (inside is_pending refl t.buffers n.0 (ap is_pending g))
        by false = refl

    go : (y : Bool) (low : LowSide) → at (cond y (deliver_by t x l low) (undelivered t answer.Outside)).next.buffers i ≡ at t.buffers i
    go true Idle = refl
    go true (Running n) = slot n (at t.buffers n.0).slot refl
    go true Abandoned = refl
    go false low = refl

pub old_kept : OldKept
old_kept = record { start = old_start; complete = old-complete; launched = old-launch; delivered = old-deliver }

-- ---- the limit of a lane

-- what a start-split that was answered so says of its lane
abbrev LimitAs : Translator → StartSplit → Result Choice Outside → Type 0
LimitAs t s (Err o) = Unit {0}
LimitAs t s (Ok NoRoom) = Unit {0}
LimitAs t s (Ok LimitReached) = AtLimit s.lane t × NoRepeat (key_of s) t
LimitAs t s (Ok (Held n)) = Unit {0}
LimitAs t s (Ok (Reused n)) = Unit {0}
LimitAs t s (Ok (Took n)) = Unit {0}

limit_as : (t : Translator) (s : StartSplit) (l : List ℕ) → ValidTranslator t → LimitAs t s (start_split t s l).answer
unfolding start_split
limit_as t s l v = go (start_fits s (length l)) (permitted t.count (key_of s) (take t.count t.buffers)) (permitted_says t.count (key_of s) t.count t.buffers)
  where
    go : (x : Bool) (c : Choice) → PermittedSays t.count (key_of s) t.count t.buffers c
        → LimitAs t s (cond x (start_by t s l c) (record { next = t; answer = Err outside })).answer
    go true NoRoom r = tt
    go true LimitReached r = (may_not_store t s.lane r.full, no_repeat t v (key_of s) r.wanted r.says r.unheld)
    go true (Held n) r = tt
    go true (Reused n) r = tt
    go true (Took n) r = tt
    go false c r = tt

at_limit : (t : Translator) (s : StartSplit) (l : List ℕ) → ValidTranslator t → start_fits s (length l) ≡ true → AtLimit s.lane t → NoRepeat (key_of s) t
    → (start_split t s l).answer ≡ Ok LimitReached
unfolding start_split
at_limit t s l v fits full none = rw fits (go (permitted t.count (key_of s) (take t.count t.buffers)) (permitted_says t.count (key_of s) t.count t.buffers))
  where
    go : (c : Choice) → PermittedSays t.count (key_of s) t.count t.buffers c → (start_by t s l c).answer ≡ Ok LimitReached
    go NoRoom r = absurd (may_store_lem t s.lane r.may full)
    go LimitReached r = refl
    go (Held n) r = absurd (true≢false (sym r.active ∙ none n.0 r.found.passes))
    go (Reused n) r = absurd (may_store_lem t s.lane r.may full)
    go (Took n) r = absurd (may_store_lem t s.lane r.may full)

repeated : (t : Translator) (s : StartSplit) (l : List ℕ) (n : BufferNumber) → ValidTranslator t → start_fits s (length l) ≡ true
    → holds (key_of s) (at t.buffers n.0).slot ≡ true → is_active (at t.buffers n.0).slot ≡ true → (start_split t s l).answer ≡ Ok (Held n)
unfolding start_split permitted
repeated t s l n v fits has active = rw fits (go (may_store t.count (held_by s.lane (take t.count t.buffers))) (chosen (key_of s) (take t.count t.buffers)) (chosen_says (key_of s) t.count t.buffers))
  where
    there : (i : ℕ) → holds (key_of s) (at t.buffers i).slot ≡ true → i ≡ n.0
    there i h = v.keys (key_of s) i n.0 h has

    missed : ¬ (holds (key_of s) (at t.buffers n.0).slot ≡ false)
    missed e = true≢false (sym has ∙ e)

    used : n.0 < t.count
    used = in_use t v (holds (key_of s)) refl n.0 has

    listed : n.0 < length t.buffers
    listed = inside (holds (key_of s)) refl t.buffers n.0 has

    held : (m : BufferNumber) (x : Bool) → m.0 ≡ n.0 → (start_by t s l (limited x (Held m))).answer ≡ Ok (Held n)
    held m true e = ap (λ (i : ℕ). Ok (Held (record { 0 = i }))) e
    held m false e = ap (λ (i : ℕ). Ok (Held (record { 0 = i }))) e

    go : (x : Bool) (c : Choice) → ChosenSays (key_of s) t.count t.buffers c → (start_by t s l (limited x c)).answer ≡ Ok (Held n)
    go x NoRoom r = absurd (missed (r.none n.0 used listed))
    go x LimitReached r = absurd r
    go x (Held m) r = held m x (there m.0 r.found.passes)
    go x (Reused m) r = absurd (true≢false (sym active ∙ (ap (λ (i : ℕ). is_active (at t.buffers i).slot) (sym (there m.0 r.found.passes)) ∙ r.active)))
    go x (Took m) r = absurd (missed (r.none n.0 used listed))

pub lane_limit : LaneLimit
lane_limit =
    record {
      reached = λ t s l v e. subst (LimitAs t s) e (limit_as t s l v);
      refused = at_limit;
      repeated = repeated;
    }

-- ---- ResetTT from a lane

pub lane_reset : LaneReset
unfolding reset_lane
lane_reset =
    record {
      empties = λ t l i e. at-without_lane l t.buffers i ∙ ap (λ (x : Bool). cond x vacant (at t.buffers i)) e;
      kept = λ t l i e. at-without_lane l t.buffers i ∙ ap (λ (x : Bool). cond x vacant (at t.buffers i)) e;
      abandoned = λ t l n r e. rw (r, e);
      runs_on = λ t l n r e. rw (r, e);
      idle = λ t l r. rw r;
      stays_abandoned = λ t l r. rw r;
    }
