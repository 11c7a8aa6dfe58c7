-- Every call on the hub keeps the order of acceptance as the history says, and a launch gives the earliest. Assumes nothing.
use Prim.Native.Nat.{ℕ, ◌<◌, ◌≤◌}
use native.Mathlib.Omega.{arith}
use mathlib.Core.Path.{◌≡◌, refl, sym, ◌∙◌, ap, subst}
use mathlib.Core.List.{List, [], ◌∷◌}
use mathlib.Core.Bool.{Bool, true, false, cond, not, ◌&&◌, ◌||◌, and-eq-true_iff, true≢false, and-false}
use borrow.Author.Tests.{ne_eqb, eqb-false, ltb-true, ltb-false}
use lib.Dec.{eqb, ltb}
use lib.ListN.{length, take, set}
use Rattle.payload.specs.declared.Payload.{Payload}
use Rattle.payload.specs.Payload.{content, payload_of}
use Rattle.ports.specs.declared.Sweep.TheVariants.{Tick as Tick'}
use Rattle.ports.specs.Sweep.{swept}
use Rattle.ports.specs.Bitmap.{bitmap_of}
use Rattle.buffer.specs.declared.Lane.{Lane}
use Rattle.buffer.specs.declared.Key.{Key}
use Rattle.buffer.specs.declared.Pid.{Pid}
use Rattle.buffer.specs.declared.Pid.TheVariants as pid
use Rattle.buffer.specs.declared.StartSplit.{StartSplit}
use Rattle.buffer.specs.declared.DeviceResult.{DeviceResult}
use Rattle.buffer.specs.declared.Slot.{Slot}
use Rattle.buffer.specs.declared.Slot.TheVariants.{Empty, Pending, Ready, Old}
use Rattle.buffer.specs.declared.Buffer.{Buffer}
use Rattle.buffer.specs.declared.BufferNumber.{BufferNumber}
use Rattle.buffer.specs.Key as key
use Rattle.buffer.specs.Same.{same_key}
use Rattle.buffer.specs.Lengths.{start_fits, result_length, suits}
use Rattle.buffer.specs.Buffer.{vacant, is_pending, is_active, is_free, holds}
use Rattle.buffer.proofs.Keys.{same_refl}
use Rattle.translator.specs.declared.NotLaunched.{NotLaunched}
use Rattle.translator.specs.declared.Translator.{Translator}
use Rattle.translator.specs.declared.LowSide.{LowSide}
use Rattle.translator.specs.declared.LowSide.TheVariants.{Idle, Running, Abandoned}
use Rattle.translator.specs.declared.Choice.{Choice}
use Rattle.translator.specs.declared.Choice.TheVariants.{NoRoom, LimitReached, Held, Reused, Took}
use Rattle.translator.specs.declared.NotDelivered.TheVariants as deliver
use Rattle.translator.specs.declared.Started.{Started}
use Rattle.translator.specs.declared.Delivered.{Delivered}
use Rattle.translator.specs.declared.NotLaunched.TheVariants.{NothingPending, Occupied}
use Rattle.translator.specs.Translator.{at, emptied}
use Rattle.translator.specs.Search.{find}
use Rattle.translator.specs.Limit.{permitted}
use Rattle.translator.specs.ResetLane.{reset_lane}
use Rattle.translator.specs.Order.{waiting, ranked}
use Rattle.translator.specs.StartSplit.{stored, start_by, start_split, outside}
use Rattle.translator.specs.CompleteSplit.{completed, complete_at, complete_split}
use Rattle.translator.specs.Launch.{launch}
use Rattle.translator.specs.Deliver as delivering
use Rattle.translator.specs.Clear.{clear_at, clear_buffer}
use Rattle.translator.specs.Answers.{is_refusal, pid_number, start_number, launch_number, deliver_number}
use Rattle.translator.proofs.At.{inside, length-ranked}
use Rattle.translator.proofs.Finding.{FindSays, find_says, PermittedSays, permitted_says}
use Rattle.translator.proofs.Kept.{in_use, start_le}
use Rattle.translator.proofs.Calls.{LaunchedAs, launched_as_lem, refused_same}
use Rattle.numbers.specs.Written.{direction_number}
use Rattle.numbers.specs.Named.{lane_from, is_result, result_from}
use Rattle.numbers.specs.Split.{split_named, split_from, key_from}
use Rattle.numbers.specs.Claims.{SplitHas}
use Rattle.numbers.proofs.Laws.{numbers_claims_lem}
use Rattle.std.specs.Prelude.{Result, Ok, Err, Option, None, Some}
use Rattle.request.specs.declared.Fault.{Fault}
use Rattle.request.specs.declared.Request.{Request}
use Rattle.request.specs.declared.Request.TheVariants.{SetConfiguration, GetConfiguration, GetHubDescriptor, GetHubStatus, GetPortStatus, ClearHubFeature, ClearPortFeature, SetPortFeature, ClearTTBuffer, ResetTT}
use Rattle.request.specs.Request.{request_of}
use Rattle.hub.specs.declared.Hub.{Hub}
use Rattle.hub.specs.Hub.{with_ports, with_translator, configured_as, reset_hub, ticked_hub}
use Rattle.hub.specs.Call.{Call, Control, Poll, Start, Complete, Launch, Deliver, Event as Line, Tick, BusReset, Answer, Outcome, plain_answer, done, refuse, gives}
use Rattle.hub.specs.Requests.{keyed, by_request, served_always, requested}
use Rattle.hub.specs.Rules.{polled, completed_by, launch_answer, launched_by}
use Rattle.hub.specs.Checks.{within}
use Rattle.hub.specs.Step.{served, step}
use Rattle.hub.proofs.Order.{by_checks}
use Rattle.hub.proofs.Valid.{completed-next, launched-next}
use Rattle.runs.specs.History.{Event, History, Asks, nothing, starts, completes, launches, delivers, clears, resets, empties, asks, is_open, stores, last_stored, For, last_for, is_at, is_for}
use Rattle.runs.specs.Order.{pending_after, is_pending_at, Directed, Earliest, NonePending, EightIfOccupied, Ordered, AllOrdered, LaunchOrder}
use Rattle.runs.specs.Machine.{new_hub_of, rules, run_from}
use Rattle.runs.proofs.Histories.{one_key, Refused, silent_refused, silent_nothing, complete_stores, keeps_repeat, keeps_launch, keeps_deliver}
use Rattle.runs.proofs.Invariant.{Good, LowOk, RunsFor, held-ranked, free_ranked, inv_ranked}
use Rattle.runs.proofs.Kept.{ev, Tied}
use Rattle.runs.proofs.Steps.{start_key, complete-key, AsksFor, request_asks_lem, step_kept}
use Rattle.runs.proofs.Acceptance.{split_in, place_in, key_in, Waits, waits_holds, waits_placed, call_of, Stands, Known, Queue, queue_ranked, queue_quiet, queue_left, queue_gone, queue_into, queue_empty, queue_reset, ranked-below}
use Rattle.runs.proofs.Occupying.{OfLaunch, SideOf, step_side, step_eight, new_side}
use Rattle.runs.proofs.Theorems.{new_tied}

-- of a launch: it gives the earliest that is pending, and is answered 3 only where none is
abbrev InOrder : Asks → Answer → History → Type 0
InOrder x a h = OfLaunch ((a.number ≡ 1 → Earliest a h) × (a.number ≡ 3 → NonePending h)) x

-- what a call leaves goes as the history says, and a launch is in order
abbrev pub Queued : History → Call → List Buffer → Answer → Type 0
Queued h c bs a = Queue (ev c a ∷ h) bs × InOrder (asks c) a h

ordered_else : (h : History) (x : Asks) (a : Answer) → eqb a.number 1 ≡ false → eqb a.number 3 ≡ false → InOrder x a h
ordered_else h nothing a f g = tt
ordered_else h (starts k) a f g = tt
ordered_else h (completes k) a f g = tt
ordered_else h launches a f g = (λ q. absurd (eqb-false a.number 1 f q), λ q. absurd (eqb-false a.number 3 g q))
ordered_else h (delivers r l) a f g = tt
ordered_else h (clears k) a f g = tt
ordered_else h (resets z) a f g = tt
ordered_else h empties a f g = tt

-- with 8
joined : (h : History) (x : Asks) (a : Answer) → InOrder x a h → OfLaunch (EightIfOccupied a h) x → Ordered x a h
joined h nothing a o e = tt
joined h (starts k) a o e = tt
joined h (completes k) a o e = tt
joined h launches a o e = (o.0, o.1, e)
joined h (delivers r l) a o e = tt
joined h (clears k) a o e = tt
joined h (resets z) a o e = tt
joined h empties a o e = tt

directed : (p : Pid) → Directed (pid_number p) (direction_number (key.direction_of p))
directed pid.Out = (λ e. absurd (omega (arith, e)), λ n. refl)
directed pid.In = (λ e. refl, λ n. absurd (n refl))
directed pid.Setup = (λ e. absurd (omega (arith, e)), λ n. refl)

pending_refused : (x : Asks) (a : Answer) (h : History) (s : ℕ) (w : Bool) → eqb a.number 0 ≡ false → pending_after x a h s w ≡ w
unfolding pending_after stores
pending_refused nothing a h s w e = refl
pending_refused (starts k) a h s w e = rw e
pending_refused (completes k) a h s w e = refl
pending_refused launches a h s w e = refl
pending_refused (delivers r l) a h s w e = rw e
pending_refused (clears k) a h s w e = rw e
pending_refused (resets z) a h s w e = rw e
pending_refused empties a h s w e = rw e

module _ (h : History) (t : Translator) (tied : Tied h t) (queue : Queue h t.buffers) where
  refused_queue : (c : Call) (a : Answer) → Refused a → Queue (ev c a ∷ h) t.buffers
  unfolding is_pending_at
  refused_queue c a r =
      queue_quiet h (ev c a) t.buffers queue (λ k. (silent_refused h (ev c a) r).keeps.stored_kept k tt) (λ s. pending_refused (asks c) a h s (is_pending_at h s) r.not_0)

  nothing_queue : (c : Call) (a : Answer) → asks c ≡ nothing → Queued h c t.buffers a
  unfolding is_pending_at pending_after
  nothing_queue c a q =
      (queue_quiet h (ev c a) t.buffers queue (λ k. (silent_nothing h (ev c a) q).keeps.stored_kept k tt) (λ s. rw q), subst (λ (x : Asks). InOrder x a h) (sym q) tt)

  -- ---- start-split

  active_free : (s : Slot) → is_active s ≡ false → is_free s ≡ true
  active_free Empty e = refl
  active_free (Pending s p) e = sym e
  active_free (Ready s r) e = sym e
  active_free (Old s r) e = refl

  store_queue : (c : Call) (s : StartSplit) (l : List ℕ) (n : BufferNumber) → asks c ≡ starts (key.key_of s) → c ≡ call_of s l → length l ≤ 64 → n.0 < length t.buffers
      → is_free (at t.buffers n.0).slot ≡ true → ((j : ℕ) → holds (key.key_of s) (at t.buffers j).slot ≡ true → j ≡ n.0)
      → Queue (ev c (plain_answer 0) ∷ h) (stored t n s l).buffers
  unfolding stored
  store_queue c s l n q says short here free only =
      queue_into h (ev c (plain_answer 0)) (ranked t.buffers) t.low (inv_ranked t.buffers t.low tied.inv) (queue_ranked h t.buffers queue) s l n.0 (waiting t.buffers) q refl says short
      (subst (λ (m : ℕ). n.0 < m) (sym (length-ranked t.buffers)) here) (free_ranked t.buffers n.0 ∙ free)
      (λ j hd. only j (sym (held-ranked t.buffers (key.key_of s) j) ∙ hd)) (ranked-below t.buffers)

  start_by_lem : (c : Call) (s : StartSplit) (l : List ℕ) → asks c ≡ starts (key.key_of s) → c ≡ call_of s l → length l ≤ 64
      → (x : Choice) → PermittedSays t.count (key.key_of s) t.count t.buffers x → Queue (ev c (plain_answer (start_number (start_by t s l x).answer)) ∷ h) (start_by t s l x).next.buffers
  unfolding stored is_pending_at pending_after stores
  start_by_lem c s l q says short NoRoom r = refused_queue c (plain_answer 3) (record { not_0 = refl; not_1 = refl; not_9 = refl })
  start_by_lem c s l q says short LimitReached r = refused_queue c (plain_answer 3) (record { not_0 = refl; not_1 = refl; not_9 = refl })
  start_by_lem c s l q says short (Held n) r =
      queue_quiet h (ev c (plain_answer 0)) t.buffers queue (λ k. (keeps_repeat h (ev c (plain_answer 0)) (key.key_of s) q refl opened).stored_kept k tt)
      (λ x. rw (q, opened, and-false (same_key (key.key_of s) (key.key_of s))))
    where
      opened : is_open h (key.key_of s) ≡ true
      opened = (tied.inv.good n.0 (key.key_of s) r.found.passes).opened ∙ r.active
  start_by_lem c s l q says short (Reused n) r =
      store_queue c s l n q says short r.says.found.inside (active_free (at t.buffers n.0).slot r.says.active) (λ j hd. tied.valid.keys (key.key_of s) j n.0 hd r.says.found.passes)
  start_by_lem c s l q says short (Took n) r =
      store_queue c s l n q says short r.says.free.inside r.says.free.passes
      (λ j hd. absurd (true≢false (sym hd ∙ r.says.none j (in_use t tied.valid (holds (key.key_of s)) refl j hd) (inside (holds (key.key_of s)) refl t.buffers j hd))))

  start_queue : (c : Call) (s : StartSplit) (l : List ℕ) → asks c ≡ starts (key.key_of s) → c ≡ call_of s l → start_fits s (length l) ≡ true
      → Queued h c (start_split t s l).next.buffers (plain_answer (start_number (start_split t s l).answer))
  unfolding start_split
  start_queue c s l q says f = (
    subst (λ (x : Bool). Queue (ev c (plain_answer (start_number (cond x by_choice unstarted).answer)) ∷ h) (cond x by_choice unstarted).next.buffers) (sym f)
        (start_by_lem c s l q says (start_le s (length l) f) (permitted t.count (key.key_of s) (take t.count t.buffers)) (permitted_says t.count (key.key_of s) t.count t.buffers)),
    subst (λ (x : Asks). InOrder x (plain_answer (start_number (start_split t s l).answer)) h) (sym q) tt,
  )
    where
      by_choice : Started
      by_choice = start_by t s l (permitted t.count (key.key_of s) (take t.count t.buffers))

      unstarted : Started
      unstarted = record { next = t; answer = Err outside }

  -- ---- complete-split

  same_stored : (c : Call) (a : Answer) (k : Key) → asks c ≡ completes k → Queue (ev c a ∷ h) t.buffers
  unfolding is_pending_at pending_after
  same_stored c a k q = queue_quiet h (ev c a) t.buffers queue (complete_stores h (ev c a) k q) (λ x. rw q)

  complete_queue : (c : Call) (a : Answer) (k : Key) → asks c ≡ completes k → Queued h c (complete_split t k).next.buffers a
  unfolding complete_split is_pending_at pending_after
  complete_queue c a k q = (go (find (holds k) (take t.count t.buffers)) (find_says (holds k) t.count t.buffers), subst (λ (x : Asks). InOrder x a h) (sym q) tt)
    where
      slot : (n : BufferNumber) → n.0 < length t.buffers → (s : Slot) → (at t.buffers n.0).slot ≡ s → Queue (ev c a ∷ h) (completed t n (at t.buffers n.0).payload s).next.buffers
      slot n here Empty e = same_stored c a k q
      slot n here (Pending s p) e = same_stored c a k q
      slot n here (Old s x) e = same_stored c a k q
      slot n here (Ready s x) e =
          queue_left h (ev c a) t.buffers queue (complete_stores h (ev c a) k q) n.0 (record { slot = Old s x; payload = (at t.buffers n.0).payload }) here refl
          (λ j y ne w l p. rw q p) (λ y p. ((rw q at p), λ w. absurd (true≢false (sym w ∙ ap is_pending e))))

      go : (f : Option BufferNumber) → FindSays (holds k) t.count t.buffers f → Queue (ev c a ∷ h) (complete_at t f).next.buffers
      go None r = same_stored c a k q
      go (Some n) r = slot n r.inside (at t.buffers n.0).slot refl

  -- ---- launch

  launch_quiet : (c : Call) (a : Answer) → asks c ≡ launches → Queue (ev c a ∷ h) t.buffers
  unfolding is_pending_at pending_after
  launch_quiet c a q = queue_quiet h (ev c a) t.buffers queue (λ k. (keeps_launch h (ev c a) q).stored_kept k tt) (λ x. rw q)

  launch_queue : (hub : Hub) (c : Call) → asks c ≡ launches → Queued h c (launch t).next.buffers (launched_by hub (launch t).answer (launch t).payload).answer
  launch_queue hub c q = go (launch t).answer refl (launched_as_lem t tied.valid)
    where
      p : Payload
      p = (launch t).payload

      order_of : (a : Answer) → InOrder launches a h → InOrder (asks c) a h
      order_of a o = subst (λ (x : Asks). InOrder x a h) (sym q) o

      refused : (a : Result StartSplit NotLaunched) → (launch t).answer ≡ a → is_refusal (launch_number a) ≡ true → (launch t).next.buffers ≡ t.buffers
      refused a e r = ap (λ (u : Translator). u.buffers) (refused_same.launched t (ap (λ (x : Result StartSplit NotLaunched). is_refusal (launch_number x)) e ∙ r))

      go : (a : Result StartSplit NotLaunched) → (launch t).answer ≡ a → LaunchedAs t a (launch t) → Queued h c (launch t).next.buffers (launched_by hub a p).answer
      go (Err NothingPending) e r = (
        subst (Queue (ev c (plain_answer 3) ∷ h)) (sym (refused (Err NothingPending) e refl)) (launch_quiet c (plain_answer 3) q),
        order_of (plain_answer 3) (λ y. absurd (omega (arith, y)), λ _ s. not_pending s (is_pending_at h s) refl),
      )
        where
          not_pending : (s : ℕ) (x : Bool) → is_pending_at h s ≡ x → x ≡ false
          not_pending s false y = refl
          not_pending s true y = absurd (true≢false (sym (queue.known s y).waits ∙ r (queue.known s y).spot))
      go (Err Occupied) e r = (
        subst (Queue (ev c (plain_answer 8) ∷ h)) (sym (refused (Err Occupied) e refl)) (launch_quiet c (plain_answer 8) q),
        order_of (plain_answer 8) (λ y. absurd (omega (arith, y)), λ y. absurd (omega (arith, y))),
      )
      go (Ok s) e g = (
        subst (Queue (ev c a ∷ h)) (sym (ap (λ (u : Translator). u.buffers) g.next)) (launch_quiet c a q),
        order_of a (λ _. record { place = x.place; pending = x.pending; earliest = first; gives = x.asked ∙ is; directed = directed s.pid }, λ y. absurd (omega (arith, y))),
      )
        where
          a : Answer
          a = launch_answer s (content p)

          b : Buffer
          b = at t.buffers g.number.0

          waits : Waits t.buffers g.number.0
          waits = ap is_pending g.pending

          x : Stands h (at t.buffers g.number.0)
          x = queue.stands g.number.0 (ap is_pending g.pending)

          is : Some (call_of (split_in (at t.buffers g.number.0).slot) (content (at t.buffers g.number.0).payload)) ≡ Some (call_of s (content p))
          is = rw (g.pending, g.payload)

          first : (n : ℕ) → is_pending_at h n ≡ true → x.place ≤ n
          first n y = by (ltb n x.place) refl
            where
              k : Known h t.buffers n
              k = queue.known n y

              by : (z : Bool) → ltb n x.place ≡ z → x.place ≤ n
              by false v = ltb-false n x.place v
              by true v =
                  let lower : place_in (at t.buffers k.spot).slot < place_in (at t.buffers g.number.0).slot =
                  queue.order k.spot g.number.0 n x.place k.waits waits k.placed x.placed (ltb-true n x.place v) in
                  let here : place_in (at t.buffers g.number.0).slot ≡ g.place = ap place_in g.pending in
                  let least : g.place ≤ place_in (at t.buffers k.spot).slot =
                  g.least k.spot (place_in (at t.buffers k.spot).slot) (waits_placed (at t.buffers k.spot).slot k.waits) in
                  absurd (omega (arith, lower, here, least))

  -- ---- deliver

  deliver_queue : (c : Call) (r : DeviceResult) (l : List ℕ) → asks c ≡ delivers r l → result_length r (length l) ≡ true
      → Queued h c (delivering.deliver t r l).next.buffers (plain_answer (deliver_number (delivering.deliver t r l).answer))
  unfolding delivering.deliver is_pending_at pending_after
  deliver_queue c r l q f = (
    subst (λ (x : Bool). Said (cond x (delivering.deliver_by t r l t.low) (delivering.undelivered t deliver.Outside))) (sym f) (by_low t.low tied.inv.low_ok),
    subst (λ (x : Asks). InOrder x (plain_answer (deliver_number (delivering.deliver t r l).answer)) h) (sym q) tt,
  )
    where
      Said : Delivered → Type 0
      Said o = Queue (ev c (plain_answer (deliver_number o.answer)) ∷ h) o.next.buffers

      e : Event
      e = ev c (plain_answer 0)

      no : Said (delivering.undelivered t deliver.NotInThisState)
      no = refused_queue c (plain_answer 8) (record { not_0 = refl; not_1 = refl; not_9 = refl })

      stored_same : (k : Key) → last_stored (ev c (plain_answer 0) ∷ h) k ≡ last_stored h k
      stored_same k = (keeps_deliver h (ev c (plain_answer 0)) r l q).stored_kept k tt

      slot : (n : BufferNumber) (s : Slot) → (at t.buffers n.0).slot ≡ s → RunsFor h s → Said (delivering.delivered t r l n s)
      slot n Empty is w = no
      slot n (Ready s x) is w = no
      slot n (Old s x) is w = no
      slot n (Pending s p) is w = suited (suits s.pid r)
        where
          b : Buffer
          b = record { slot = Ready s r; payload = payload_of l }

          now : Delivered
          now = record { next = record { buffers = set t.buffers n.0 b; count = t.count; low = Idle }; answer = Ok tt }

          holding : holds (key.key_of s) (at t.buffers n.0).slot ≡ true
          holding = ap (holds (key.key_of s)) is ∙ same_refl (key.key_of s)

          g : Good h (key.key_of s) (at t.buffers n.0)
          g = tied.inv.good n.0 (key.key_of s) holding

          suited : (x : Bool) → Said (cond x now (delivering.undelivered t deliver.NotInThisState))
          suited true =
              queue_gone h e t.buffers queue stored_same n.0 b (inside (holds (key.key_of s)) refl t.buffers n.0 holding) refl (key.key_of s) (tied.valid.keys (key.key_of s)) holding
              g.place g.placed (λ x. rw (q, w, g.placed))
          suited false = no

      -- what was launched is not pending any more
      thrown : LowOk h t.buffers Abandoned → (s : ℕ) (y : Bool) → is_pending_at h s ≡ y → (o : Option For) → last_for h ≡ o → (not (is_for o s) && y) ≡ y
      thrown w s false z o v = and-false (not (is_for o s))
      thrown w s true z None v = refl
      thrown w s true z (Some m) v = by m.place refl
        where
          k : Known h t.buffers s
          k = queue.known s z

          by : (o : Option ℕ) → m.place ≡ o → (not (is_at o s) && true) ≡ true
          by None u = refl
          by (Some n) u =
              rw (ne_eqb n s (λ i. w m v k.spot (key_in (at t.buffers k.spot).slot) (waits_holds (at t.buffers k.spot).slot k.waits) (u ∙ ap Some i ∙ sym k.placed)))

      by_low : (x : LowSide) → LowOk h t.buffers x → Said (delivering.deliver_by t r l x)
      by_low Idle w = no
      by_low (Running n) w = slot n (at t.buffers n.0).slot refl w
      by_low Abandoned w = queue_quiet h e t.buffers queue stored_same (λ s. rw q (thrown w s (is_pending_at h s) refl (last_for h) refl))

  -- ---- ClearTTBuffer, and what empties the translator

  clear_queue : (c : Call) (k : Key) → asks c ≡ clears k → Queued h c (clear_buffer t k).buffers (plain_answer 0)
  unfolding clear_buffer is_pending_at pending_after last_stored stores
  clear_queue c k q = (go (find (holds k) (take t.count t.buffers)) (find_says (holds k) t.count t.buffers), subst (λ (x : Asks). InOrder x (plain_answer 0) h) (sym q) tt)
    where
      e : Event
      e = ev c (plain_answer 0)

      stored_same : (x : Key) → last_stored (ev c (plain_answer 0) ∷ h) x ≡ last_stored h x
      stored_same x = rw q

      go : (f : Option BufferNumber) → FindSays (holds k) t.count t.buffers f → Queue (ev c (plain_answer 0) ∷ h) (clear_at t f).buffers
      go (Some n) r =
          queue_gone h e t.buffers queue stored_same n.0 vacant r.inside refl k (tied.valid.keys k) r.passes g.place g.placed
          (λ s. rw q (ap (λ (o : Option ℕ). not (is_at o s) && is_pending_at h s) g.placed))
        where
          g : Good h k (at t.buffers n.0)
          g = tied.inv.good n.0 k r.passes
      go None u = queue_quiet h e t.buffers queue stored_same (λ s. rw q (still s (is_pending_at h s) refl (last_stored h k) refl))
        where
          still : (s : ℕ) (y : Bool) → is_pending_at h s ≡ y → (o : Option ℕ) → last_stored h k ≡ o → (not (is_at o s) && y) ≡ y
          still s false z o v = and-false (not (is_at o s))
          still s true z None v = refl
          still s true z (Some n) v = rw (ne_eqb n s (λ w. true≢false (sym (held w) ∙ u p.spot (in_use t tied.valid (holds k) refl p.spot (held w)) (inside (holds k) refl t.buffers p.spot (held w)))))
            where
              p : Known h t.buffers s
              p = queue.known s z

              held : n ≡ s → holds k (at t.buffers p.spot).slot ≡ true
              held w =
                  ap (λ (x : Key). holds x (at t.buffers p.spot).slot) (sym (one_key h (key_in (at t.buffers p.spot).slot) k s p.placed (v ∙ ap Some w)))
                  ∙ waits_holds (at t.buffers p.spot).slot p.waits

  reset_queue : (c : Call) (z : Lane) → asks c ≡ resets z → Queued h c (reset_lane t z).buffers (plain_answer 0)
  unfolding reset_lane
  reset_queue c z q = (queue_reset h (ev c (plain_answer 0)) t.buffers queue z q refl, subst (λ (x : Asks). InOrder x (plain_answer 0) h) (sym q) tt)

  empty_queue : (c : Call) → asks c ≡ empties → Queued h c (emptied t).buffers (plain_answer 0)
  unfolding is_pending_at pending_after
  empty_queue c q = (queue_empty (ev c (plain_answer 0) ∷ h) (λ s. rw q), subst (λ (x : Asks). InOrder x (plain_answer 0) h) (sym q) tt)

-- ---- one call

-- the numbers of a start-split that is within the rules name it
split_call : (z p t f g a e : ℕ) (l : List ℕ) → split_named z p t f g a e ≡ true → Start z p t f g a e l ≡ call_of (split_from z p t f g a e) l
split_call z p t f g a e l named =
    let s : SplitHas (split_from z p t f g a e) z p t f g a e = numbers_claims_lem.split_back z p t f g a e named in
    rw (s.lane_number_lem, s.pid_number_lem, s.type_number_lem, s.low_speed_flag, s.toggle_flag, s.address_number, s.endpoint_number)

module _ (h : History) (hub : Hub) (tied : Tied h hub.translator) (queue : Queue h hub.translator.buffers) where
  abbrev QueuedBy : Call → Outcome → Type 0
  QueuedBy c o = Queued h c o.next.translator.buffers o.answer

  refusal : (c : Call) (n : ℕ) → Refused (plain_answer n) → eqb n 3 ≡ false → QueuedBy c (refuse n hub)
  refusal c n r three = (refused_queue h hub.translator tied queue c (plain_answer n) r, ordered_else h (asks c) (plain_answer n) r.not_1 three)

  none_of : (n : ℕ) → eqb n 0 ≡ false → eqb n 1 ≡ false → eqb n 9 ≡ false → Refused (plain_answer n)
  none_of n a b c = record { not_0 = a; not_1 = b; not_9 = c }

  by_request_lem : (c : Call) (y : Lane) (r : Result Request Fault) → AsksFor y r (asks c) → QueuedBy c (by_request hub y r)
  unfolding configured_as
  by_request_lem c y (Err f) q = refusal c 2 (none_of 2 refl refl refl) refl
  by_request_lem c y (Ok (SetConfiguration on)) q = empty_queue h hub.translator tied queue c q
  by_request_lem c y (Ok GetConfiguration) q = nothing_queue h hub.translator tied queue c _ q
  by_request_lem c y (Ok (GetHubDescriptor n)) q = nothing_queue h hub.translator tied queue c _ q
  by_request_lem c y (Ok GetHubStatus) q = nothing_queue h hub.translator tied queue c _ q
  by_request_lem c y (Ok (GetPortStatus n)) q = nothing_queue h hub.translator tied queue c _ q
  by_request_lem c y (Ok ClearHubFeature) q = nothing_queue h hub.translator tied queue c _ q
  by_request_lem c y (Ok (ClearPortFeature n f)) q = nothing_queue h hub.translator tied queue c _ q
  by_request_lem c y (Ok (SetPortFeature n f)) q = nothing_queue h hub.translator tied queue c _ q
  by_request_lem c y (Ok (ClearTTBuffer k)) q = clear_queue h hub.translator tied queue c (keyed y k) q
  by_request_lem c y (Ok ResetTT) q = reset_queue h hub.translator tied queue c y q

  control : (z : ℕ) (s : List ℕ) (room : ℕ) → QueuedBy (Control z s room) (requested hub (lane_from z) (request_of hub.identity.ports s))
  unfolding requested
  control z s room = go (hub.configured || served_always r)
    where
      r : Result Request Fault
      r = request_of hub.identity.ports s

      go : (x : Bool) → QueuedBy (Control z s room) (cond x (by_request hub (lane_from z) r) (refuse 2 hub))
      go true = by_request_lem (Control z s room) (lane_from z) r (request_asks_lem hub.identity.ports z s room)
      go false = refusal (Control z s room) 2 (none_of 2 refl refl refl) refl

  poll : (z room : ℕ) → QueuedBy (Poll z room) (polled hub)
  unfolding polled asks
  poll z room = go (eqb (bitmap_of hub.identity.ports hub.ports) 0)
    where
      go : (x : Bool) → QueuedBy (Poll z room) (cond x (refuse 3 hub) (gives hub (bitmap_of hub.identity.ports hub.ports ∷ [])))
      go true = nothing_queue h hub.translator tied queue (Poll z room) _ refl
      go false = nothing_queue h hub.translator tied queue (Poll z room) _ refl

  tick : QueuedBy Tick (done (ticked_hub hub))
  unfolding ticked_hub asks
  tick = go hub.configured
    where
      go : (x : Bool) → QueuedBy Tick (done (cond x (with_ports hub (swept Tick' hub.identity.ports hub.ports)) hub))
      go true = nothing_queue h hub.translator tied queue Tick _ refl
      go false = nothing_queue h hub.translator tied queue Tick _ refl

  serve : (c : Call) → within hub c ≡ true → QueuedBy c (served hub c)
  unfolding served within asks reset_hub
  serve (Control z s room) w = control z s room
  serve (Poll z room) w = poll z room
  serve (Start z p t f g a e l) w =
      let x = (and-eq-true_iff (split_named z p t f g a e) (start_fits (split_from z p t f g a e) (length l))).0 w in
      start_queue h hub.translator tied queue (Start z p t f g a e l) (split_from z p t f g a e) l (ap starts (start_key z p t f g a e x.0)) (split_call z p t f g a e l x.0) x.1
  serve (Complete z a e d room) w =
      let o = complete_split hub.translator (key_from z a e d) in
      let next = with_translator hub o.next in
      subst (λ (u : Hub). Queued h (Complete z a e d room) u.translator.buffers (completed_by next o.answer o.payload).answer) (sym (completed-next next o.answer o.payload))
      (complete_queue h hub.translator tied queue (Complete z a e d room) (completed_by next o.answer o.payload).answer (key_from z a e d) (ap completes (complete-key z a e d w)))
  serve (Launch room) w =
      let o = launch hub.translator in
      let next = with_translator hub o.next in
      subst (λ (u : Hub). Queued h (Launch room) u.translator.buffers (launched_by next o.answer o.payload).answer) (sym (launched-next next o.answer o.payload))
      (launch_queue h hub.translator tied queue next (Launch room) refl)
  serve (Deliver r l) w = deliver_queue h hub.translator tied queue (Deliver r l) (result_from r) l refl ((and-eq-true_iff (is_result r) (result_length (result_from r) (length l))).0 w).1
  serve (Line e n) w = nothing_queue h hub.translator tied queue (Line e n) _ refl
  serve Tick w = tick
  serve BusReset w = empty_queue h hub.translator tied queue BusReset refl

  pub step_queue : (c : Call) → QueuedBy c (step hub c)
  step_queue c =
      by_checks hub c (QueuedBy c) (refusal c 6 (none_of 6 refl refl refl) refl) (refusal c 7 (none_of 7 refl refl refl) refl)
      (refusal c 5 (none_of 5 refl refl refl) refl) (refusal c 8 (none_of 8 refl refl refl) refl) (λ w f. serve c w)

-- ---- whole runs

all_ordered : (cs : List Call) (h : History) (hub : Hub) → Tied h hub.translator → Queue h hub.translator.buffers → SideOf h hub
    → AllOrdered h (run_from rules hub cs)
unfolding run_from AllOrdered
all_ordered [] h hub tied queue side = tt
all_ordered (c ∷ cs) h hub tied queue side =
    let one = step_queue h hub tied queue c in (
      joined h (asks c) (step hub c).answer one.1 (step_eight h hub side c),
      all_ordered cs (ev c (step hub c).answer ∷ h) (step hub c).next (step_kept h hub tied c).0 one.0 (step_side h hub side c),
    )

pub launch_order : LaunchOrder rules
unfolding is_pending_at
launch_order n cs = all_ordered cs [] (new_hub_of n) (new_tied n) (queue_empty [] (λ s. refl)) (new_side n)
