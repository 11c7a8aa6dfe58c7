-- Every call on the hub keeps the translator tied to the history, and every data answer is explained. Assumes nothing.
use Prim.Native.Nat.{ℕ, ◌<◌}
use native.Mathlib.Omega.{arith}
use mathlib.Core.Path.{◌≡◌, refl, sym, ◌∙◌, ap, subst}
use mathlib.Core.List.{List, [], ◌∷◌}
use mathlib.Core.Bool.{Bool, true, false, cond, ◌||◌, true≢false}
use borrow.Author.Tests.{eqb-false}
use lib.Dec.{eqb}
use lib.ListN.{length, take, set}
use Rattle.payload.specs.declared.Payload.{Payload}
use Rattle.payload.specs.Payload.{content, no_payload, payload_of}
use Rattle.buffer.specs.declared.Lane.{Lane}
use Rattle.buffer.specs.declared.Key.{Key}
use Rattle.buffer.specs.declared.StartSplit.{StartSplit}
use Rattle.buffer.specs.declared.DeviceResult.{DeviceResult}
use Rattle.buffer.specs.declared.DeviceResult.TheVariants as result
use Rattle.buffer.specs.declared.Slot.{Slot}
use Rattle.buffer.specs.declared.Slot.TheVariants.{Empty, Pending, Ready, Old}
use Rattle.buffer.specs.declared.Buffer.{Buffer}
use Rattle.buffer.specs.declared.BufferNumber.{BufferNumber}
use Rattle.buffer.specs.Key as key
use Rattle.buffer.specs.Lengths.{start_fits, result_length, is_data, suits}
use Rattle.buffer.specs.Buffer.{is_active, is_free, holds}
use Rattle.buffer.proofs.Keys.{same_true}
use Rattle.std.specs.Prelude.{Err, None, Ok, Option, Result, Some}
use Rattle.translator.specs.declared.NotLaunched.{NotLaunched}
use Rattle.translator.specs.declared.Translator.{Translator}
use Rattle.translator.specs.declared.LowSide.{LowSide}
use Rattle.translator.specs.declared.LowSide.TheVariants.{Idle, Running, Abandoned}
use Rattle.translator.specs.declared.Choice.{Choice}
use Rattle.translator.specs.declared.Choice.TheVariants.{NoRoom, LimitReached, Held, Reused, Took}
use Rattle.translator.specs.declared.NotLaunched.TheVariants.{NothingPending, Occupied}
use Rattle.translator.specs.declared.NotDelivered.TheVariants as deliver
use Rattle.translator.specs.declared.Started.{Started}
use Rattle.translator.specs.declared.Delivered.{Delivered}
use Rattle.translator.specs.Translator.{at, emptied}
use Rattle.translator.specs.Search.{find}
use Rattle.translator.specs.Limit.{permitted}
use Rattle.translator.specs.Order.{waiting, ranked}
use Rattle.translator.specs.StartSplit.{stored, start_by, start_split, outside}
use Rattle.translator.specs.CompleteSplit.{given, completed, complete_at, complete_split}
use Rattle.translator.specs.Launch.{launch}
use Rattle.translator.specs.Deliver as delivering
use Rattle.translator.specs.Clear.{clear_at, clear_buffer}
use Rattle.translator.specs.ResetLane.{reset_lane}
use Rattle.translator.specs.Answers.{is_refusal, start_number, result_number, result_pid, launch_number, deliver_number}
use Rattle.translator.specs.Valid.{ValidTranslator}
use Rattle.translator.proofs.At.{inside, length-ranked}
use Rattle.translator.proofs.Finding.{Hit, FindSays, find_says, PermittedSays, permitted_says}
use Rattle.translator.proofs.Kept.{in_use, start_valid, complete_valid, launch_valid, deliver_valid, clear_valid, reset_valid, new_valid, result_le}
use Rattle.translator.proofs.Calls.{LaunchedAs, launched_as_lem, refused_same}
use Rattle.numbers.proofs.Laws.{numbers_claims_lem}
use Rattle.hub.specs.declared.Hub.{Hub}
use Rattle.hub.specs.Call.{Call, Answer, plain_answer, pid_answer}
use Rattle.hub.specs.Rules.{completed_by, launch_answer, launched_by}
use Rattle.runs.specs.History.{Event, History, Asks, nothing, starts, completes, launches, delivers, clears, resets, empties, asks, last_stored, delivered_to}
use Rattle.runs.specs.Demand3.{Explained}
use Rattle.runs.proofs.Histories.{silent_nothing, silent_refused, Refused, empty_closes}
use Rattle.runs.proofs.Invariant.{held_data, Good, Inv, LowOk, Unheld, quiet, held-ranked, inv_ranked, free_ranked, into_kept, aged_kept, again_kept, launch_kept, delivered_kept, thrown_kept, clear_kept, closed_kept, repeat_kept, reset_kept, empty_kept}

abbrev pub ev : Call → Answer → Event
ev c a = record { call = c; answer = a }

-- the translator is valid, and is as the history says
pub record Tied (h : History) (t : Translator) : Type 0 where
  pub valid : ValidTranslator t
  pub inv : Inv h t.buffers t.low

-- what a call leaves is tied to the history with it, and a data answer is explained
abbrev pub Kept : History → Call → Translator → Answer → Type 0
Kept h c t a = Tied (ev c a ∷ h) t × Explained (asks c) a h

explained_else : (h : History) (x : Asks) (a : Answer) → eqb a.number 1 ≡ false → Explained x a h
explained_else h nothing a n = tt
explained_else h (starts k) a n = tt
explained_else h (completes k) a n = λ q. absurd (eqb-false a.number 1 n q)
explained_else h launches a n = tt
explained_else h (delivers r l) a n = tt
explained_else h (clears k) a n = tt
explained_else h (resets z) a n = tt
explained_else h empties a n = tt

module _ (h : History) (t : Translator) (tied : Tied h t) where
  -- a refusal, of any call
  pub refused_kept : (c : Call) (a : Answer) → Refused a → Kept h c t a
  refused_kept c a r = (record { valid = tied.valid; inv = quiet (silent_refused h (ev c a) r) tied.inv }, explained_else h (asks c) a r.not_1)

  -- a call that asks nothing of the translator
  pub nothing_kept : (c : Call) (a : Answer) → asks c ≡ nothing → Kept h c t a
  nothing_kept c a q =
      (record { valid = tied.valid; inv = quiet (silent_nothing h (ev c a) q) tied.inv }, subst (λ (x : Asks). Explained x a h) (sym q) tt)

  active_free : (s : Slot) → is_active s ≡ false → is_free s ≡ true
  active_free Empty e = refl
  active_free (Pending s p) e = sym e
  active_free (Ready s r) e = sym e
  active_free (Old s r) e = refl

  store_inv : (c : Call) (s : StartSplit) (l : List ℕ) (n : BufferNumber) → asks c ≡ starts (key.key_of s) → n.0 < length t.buffers
      → is_free (at t.buffers n.0).slot ≡ true → ((j : ℕ) → holds (key.key_of s) (at t.buffers j).slot ≡ true → j ≡ n.0)
      → Inv (ev c (plain_answer 0) ∷ h) (stored t n s l).buffers t.low
  unfolding stored
  store_inv c s l n q here free only =
      into_kept h (ev c (plain_answer 0)) (ranked bs) t.low (inv_ranked bs t.low tied.inv) s l n.0 (waiting bs) q refl
      (subst (λ (m : ℕ). n.0 < m) (sym (length-ranked bs)) here) (free_ranked bs n.0 ∙ free)
      (λ j hd. only j (sym (held-ranked bs (key.key_of s) j) ∙ hd))
    where
      bs : List Buffer
      bs = t.buffers

  start_by_lem : (c : Call) (s : StartSplit) (l : List ℕ) → asks c ≡ starts (key.key_of s) → start_fits s (length l) ≡ true
      → (x : Choice) → PermittedSays t.count (key.key_of s) t.count t.buffers x → ValidTranslator (start_by t s l x).next
      → Kept h c (start_by t s l x).next (plain_answer (start_number (start_by t s l x).answer))
  unfolding stored
  start_by_lem c s l q f NoRoom r v = refused_kept c (plain_answer 3) (record { not_0 = refl; not_1 = refl; not_9 = refl })
  start_by_lem c s l q f LimitReached r v = refused_kept c (plain_answer 3) (record { not_0 = refl; not_1 = refl; not_9 = refl })
  start_by_lem c s l q f (Held n) r v = (
    record { valid = v; inv = repeat_kept h (ev c (plain_answer 0)) t.buffers t.low tied.inv (key.key_of s) n.0 q refl r.found.passes r.active },
    explained_else h (asks c) (plain_answer 0) refl,
  )
  start_by_lem c s l q f (Reused n) r v = (
    record { valid = v; inv = store_inv c s l n q r.says.found.inside (active_free (at t.buffers n.0).slot r.says.active) (λ j hd. tied.valid.keys (key.key_of s) j n.0 hd r.says.found.passes) },
    explained_else h (asks c) (plain_answer 0) refl,
  )
  start_by_lem c s l q f (Took n) r v = (
    record { valid = v; inv = store_inv c s l n q r.says.free.inside r.says.free.passes (λ j hd. absurd (true≢false (sym hd ∙ none_holds j hd))) },
    explained_else h (asks c) (plain_answer 0) refl,
  )
    where
      none_holds : (j : ℕ) → holds (key.key_of s) (at t.buffers j).slot ≡ true → holds (key.key_of s) (at t.buffers j).slot ≡ false
      none_holds j hd = r.says.none j (in_use t tied.valid (holds (key.key_of s)) refl j hd) (inside (holds (key.key_of s)) refl t.buffers j hd)

  pub start_kept : (c : Call) (s : StartSplit) (l : List ℕ) → asks c ≡ starts (key.key_of s) → start_fits s (length l) ≡ true
      → Kept h c (start_split t s l).next (plain_answer (start_number (start_split t s l).answer))
  unfolding start_split
  start_kept c s l q f =
      subst (λ (x : Bool). Kept h c (cond x by_choice none).next (plain_answer (start_number (cond x by_choice none).answer))) (sym f)
      (start_by_lem c s l q f x (permitted_says t.count (key.key_of s) t.count t.buffers) valid)
    where
      x : Choice
      x = permitted t.count (key.key_of s) (take t.count t.buffers)

      by_choice : Started
      by_choice = start_by t s l (permitted t.count (key.key_of s) (take t.count t.buffers))

      none : Started
      none = record { next = t; answer = Err outside }

      valid : ValidTranslator (start_by t s l (permitted t.count (key.key_of s) (take t.count t.buffers))).next
      valid = subst (λ (y : Bool). ValidTranslator (cond y by_choice none).next) f (start_valid t tied.valid s l)

  -- ---- complete-split

  -- the data that a buffer under the key k holds are those delivered for what was last stored under k
  result_said : (c : Call) (k : Key) (i : ℕ) (r : DeviceResult) → asks c ≡ completes k → holds k (at t.buffers i).slot ≡ true
      → ((l : List ℕ) → held_data (at t.buffers i).slot l ≡ cond (is_data r) (record { pid = result_pid r; bytes = l } ∷ []) [])
      → Explained (asks c) (pid_answer (result_number r) (result_pid r) (content (given r (at t.buffers i).payload))) h
  result_said c k i r q hd is =
      subst (λ (x : Asks). Explained x (pid_answer (result_number r) (result_pid r) (content (given r p))) h) (sym q) (go (is_data r) refl)
    where
      p : Payload
      p = (at t.buffers i).payload

      g : Good h k (at t.buffers i)
      g = tied.inv.good i k hd

      go : (x : Bool) → is_data r ≡ x → ◌≡◌ {A = ℕ} (cond x 1 9) 1 → delivered_to h (last_stored h k) ≡ record { pid = result_pid r; bytes = content (cond x p no_payload) } ∷ []
      go true e n = ap (delivered_to h) g.placed ∙ (g.got ∙ (is (content p) ∙ ap (λ (b : Bool). cond b (record { pid = result_pid r; bytes = content p } ∷ []) []) e))
      go false e n = absurd (omega (arith, n))

  is_result_lem : (r : DeviceResult) → (eqb (result_number r) 1 || eqb (result_number r) 9) ≡ true
  is_result_lem result.Failure = refl
  is_result_lem result.Ack = refl
  is_result_lem result.Nak = refl
  is_result_lem result.Stall = refl
  is_result_lem result.Data0 = refl
  is_result_lem result.Data1 = refl

  -- what a complete-split leaves, by the slot of its buffer
  complete_by : (hub : Hub) (c : Call) (k : Key) (n : BufferNumber) → asks c ≡ completes k → Hit (holds k) t.count t.buffers n.0 → (s : Slot) → (at t.buffers n.0).slot ≡ s
      → ValidTranslator (completed t n (at t.buffers n.0).payload s).next
      → Kept h c (completed t n (at t.buffers n.0).payload s).next
      (completed_by hub (completed t n (at t.buffers n.0).payload s).answer (completed t n (at t.buffers n.0).payload s).payload).answer
  complete_by hub c k n q r Empty e v = refused_kept c (plain_answer 2) (record { not_0 = refl; not_1 = refl; not_9 = refl })
  complete_by hub c k n q r (Pending s p) e v = refused_kept c (plain_answer 4) (record { not_0 = refl; not_1 = refl; not_9 = refl })
  complete_by hub c k n q r (Ready s x) e v = (
    record { valid = v; inv = aged_kept h (ev c a) t.buffers t.low tied.inv k n.0 s x q (is_result_lem x) r.inside e (same_true (key.key_of s) k (ap (holds k) (sym e) ∙ r.passes)) (tied.valid.keys k) },
    result_said c k n.0 x q r.passes (λ l. ap (λ (y : Slot). held_data y l) e),
  )
    where
      a : Answer
      a = pid_answer (result_number x) (result_pid x) (content (given x (at t.buffers n.0).payload))
  complete_by hub c k n q r (Old s x) e v = (
    record { valid = v; inv = again_kept h (ev c a) t.buffers t.low tied.inv k n.0 q r.passes (ap is_active e) },
    result_said c k n.0 x q r.passes (λ l. ap (λ (y : Slot). held_data y l) e),
  )
    where
      a : Answer
      a = pid_answer (result_number x) (result_pid x) (content (given x (at t.buffers n.0).payload))

  pub complete_kept : (hub : Hub) (c : Call) (k : Key) → asks c ≡ completes k
      → Kept h c (complete_split t k).next (completed_by hub (complete_split t k).answer (complete_split t k).payload).answer
  unfolding complete_split
  complete_kept hub c k q = go (find (holds k) (take t.count t.buffers)) (find_says (holds k) t.count t.buffers) (complete_valid t tied.valid k)
    where
      go : (f : Option BufferNumber) → FindSays (holds k) t.count t.buffers f → ValidTranslator (complete_at t f).next
          → Kept h c (complete_at t f).next (completed_by hub (complete_at t f).answer (complete_at t f).payload).answer
      go None r v = refused_kept c (plain_answer 2) (record { not_0 = refl; not_1 = refl; not_9 = refl })
      go (Some n) r v = complete_by hub c k n q r (at t.buffers n.0).slot refl v

  -- ---- launch

  pub launch_said_lem : (hub : Hub) (c : Call) → asks c ≡ launches → Kept h c (launch t).next (launched_by hub (launch t).answer (launch t).payload).answer
  launch_said_lem hub c q = go (launch t).answer refl (launched_as_lem t tied.valid) (launch_valid t tied.valid)
    where
      p : Payload
      p = (launch t).payload

      refused : (n : ℕ) → Refused (plain_answer n) → is_refusal (launch_number (launch t).answer) ≡ true → Kept h c (launch t).next (plain_answer n)
      refused n r e = subst (λ (u : Translator). Kept h c u (plain_answer n)) (sym (refused_same.launched t e)) (refused_kept c (plain_answer n) r)

      go : (a : Result StartSplit NotLaunched) → (launch t).answer ≡ a → LaunchedAs t a (launch t) → ValidTranslator (launch t).next → Kept h c (launch t).next (launched_by hub a p).answer
      go (Err NothingPending) e r v = refused 3 (record { not_0 = refl; not_1 = refl; not_9 = refl }) (ap (λ (a : Result StartSplit NotLaunched). is_refusal (launch_number a)) e)
      go (Err Occupied) e r v = refused 8 (record { not_0 = refl; not_1 = refl; not_9 = refl }) (ap (λ (a : Result StartSplit NotLaunched). is_refusal (launch_number a)) e)
      go (Ok s) e g v = (
        record {
          valid = v;
          inv =
              subst (λ (u : Translator). Inv (ev c (launch_answer s (content p)) ∷ h) u.buffers u.low) (sym g.next)
              (launch_kept h (ev c (launch_answer s (content p))) t.buffers t.low tied.inv g.number s g.place q refl g.pending
              (rw (numbers_claims_lem.lanes.value_back s.lane, numbers_claims_lem.directions.value_back (key.direction_of s.pid))));
        },
        subst (λ (x : Asks). Explained x (launch_answer s (content p)) h) (sym q) tt,
      )

  -- ---- deliver

  pub deliver_kept : (c : Call) (r : DeviceResult) (l : List ℕ) → asks c ≡ delivers r l → result_length r (length l) ≡ true
      → Kept h c (delivering.deliver t r l).next (plain_answer (deliver_number (delivering.deliver t r l).answer))
  unfolding delivering.deliver
  deliver_kept c r l q f =
      subst (λ (x : Bool). Said (cond x (delivering.deliver_by t r l t.low) (delivering.undelivered t deliver.Outside))) (sym f)
      (by_low t.low refl tied.inv.low_ok (subst (λ (x : Bool). ValidTranslator (cond x (delivering.deliver_by t r l t.low) (delivering.undelivered t deliver.Outside)).next) f (deliver_valid t tied.valid r l)))
    where
      Said : Delivered → Type 0
      Said o = Kept h c o.next (plain_answer (deliver_number o.answer))

      e : Event
      e = ev c (plain_answer 0)

      done : Explained (asks c) (plain_answer 0) h
      done = explained_else h (asks c) (plain_answer 0) refl

      no : Said (delivering.undelivered t deliver.NotInThisState)
      no = refused_kept c (plain_answer 8) (record { not_0 = refl; not_1 = refl; not_9 = refl })

      slot : (n : BufferNumber) (s : Slot) → (at t.buffers n.0).slot ≡ s → LowOk h t.buffers (Running n) → ValidTranslator (delivering.delivered t r l n s).next → Said (delivering.delivered t r l n s)
      slot n Empty is w v = no
      slot n (Ready s x) is w v = no
      slot n (Old s x) is w v = no
      slot n (Pending s p) is w v = suited (suits s.pid r) v
        where
          b : Buffer
          b = record { slot = Ready s r; payload = payload_of l }

          now : Delivered
          now = record { next = record { buffers = set t.buffers n.0 b; count = t.count; low = Idle }; answer = Ok tt }

          suited : (x : Bool) → ValidTranslator (cond x now (delivering.undelivered t deliver.NotInThisState)).next → Said (cond x now (delivering.undelivered t deliver.NotInThisState))
          suited true v =
              (record { valid = v; inv = delivered_kept h e t.buffers t.low tied.inv n s p r l q refl (result_le r (length l) f) is w (tied.valid.keys (key.key_of s)) }, done)
          suited false v = no

      by_low : (x : LowSide) → t.low ≡ x → LowOk h t.buffers x → ValidTranslator (delivering.deliver_by t r l x).next → Said (delivering.deliver_by t r l x)
      by_low Idle y w v = no
      by_low (Running n) y w v = slot n (at t.buffers n.0).slot refl w v
      by_low Abandoned y w v = (record { valid = v; inv = thrown_kept h e t.buffers t.low tied.inv r l q w }, done)

  -- ---- ClearTTBuffer, and what empties the translator

  pub clear_said : (c : Call) (k : Key) → asks c ≡ clears k → Kept h c (clear_buffer t k) (plain_answer 0)
  unfolding clear_buffer
  clear_said c k q = go (find (holds k) (take t.count t.buffers)) (find_says (holds k) t.count t.buffers) (clear_valid t tied.valid k)
    where
      go : (f : Option BufferNumber) → FindSays (holds k) t.count t.buffers f → ValidTranslator (clear_at t f) → Kept h c (clear_at t f) (plain_answer 0)
      go None r v =
          (record { valid = v; inv = closed_kept h (ev c (plain_answer 0)) t.buffers t.low tied.inv k q refl unheld }, explained_else h (asks c) (plain_answer 0) refl)
        where
          unheld : Unheld k t.buffers
          unheld i = by (holds k (at t.buffers i).slot) refl
            where
              by : (x : Bool) → holds k (at t.buffers i).slot ≡ x → x ≡ false
              by true hd = sym hd ∙ r i (in_use t tied.valid (holds k) refl i hd) (inside (holds k) refl t.buffers i hd)
              by false hd = refl
      go (Some n) r v = (
        record { valid = v; inv = clear_kept h (ev c (plain_answer 0)) t.buffers t.low tied.inv k n q refl r.inside r.passes tied.valid.keys },
        explained_else h (asks c) (plain_answer 0) refl,
      )

  pub reset_said : (c : Call) (z : Lane) → asks c ≡ resets z → Kept h c (reset_lane t z) (plain_answer 0)
  unfolding reset_lane
  reset_said c z q = (
    record { valid = reset_valid t tied.valid z; inv = reset_kept h (ev c (plain_answer 0)) t.buffers t.low tied.inv z q refl },
    explained_else h (asks c) (plain_answer 0) refl,
  )

  pub empty_said : (c : Call) → asks c ≡ empties → Kept h c (emptied t) (plain_answer 0)
  empty_said c q = (
    record {
      valid = new_valid t.count tied.valid.least tied.valid.most;
      inv = empty_kept (ev c (plain_answer 0) ∷ h) (empty_closes h (ev c (plain_answer 0)) q refl);
    },
    explained_else h (asks c) (plain_answer 0) refl,
  )
