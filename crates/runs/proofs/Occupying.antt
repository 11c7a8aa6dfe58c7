-- The low side is occupied exactly as the history tells it, and a launch is answered 8 exactly then. Assumes nothing.
use Prim.Native.Nat.{ℕ}
use native.Mathlib.Omega.{arith}
use mathlib.Core.Path.{◌≡◌, refl, sym, ◌∙◌, ap, subst}
use mathlib.Core.List.{List, [], ◌∷◌}
use mathlib.Core.Bool.{Bool, true, false, cond, not, ◌||◌, true≢false}
use lib.Dec.{eqb, leb}
use lib.ListN.{length, take}
use Rattle.payload.specs.declared.Payload.{Payload}
use Rattle.payload.specs.Payload.{content}
use Rattle.ports.specs.declared.Sweep.TheVariants.{Tick as Tick'}
use Rattle.ports.specs.Sweep.{swept}
use Rattle.ports.specs.Bitmap.{bitmap_of}
use Rattle.buffer.specs.declared.Lane.{Lane}
use Rattle.buffer.specs.declared.Key.{Key}
use Rattle.buffer.specs.declared.StartSplit.{StartSplit}
use Rattle.buffer.specs.declared.DeviceResult.{DeviceResult}
use Rattle.buffer.specs.declared.Slot.{Slot}
use Rattle.buffer.specs.declared.Slot.TheVariants.{Empty, Pending, Ready, Old}
use Rattle.buffer.specs.declared.BufferNumber.{BufferNumber}
use Rattle.buffer.specs.Key as key
use Rattle.buffer.specs.Lengths.{start_fits, result_length, suits}
use Rattle.buffer.specs.Buffer.{in_lane, holds}
use Rattle.translator.specs.declared.Translator.{Translator}
use Rattle.translator.specs.declared.LowSide.{LowSide}
use Rattle.translator.specs.declared.LowSide.TheVariants.{Idle, Running, Abandoned}
use Rattle.translator.specs.declared.Choice.{Choice}
use Rattle.translator.specs.declared.Choice.TheVariants.{NoRoom, LimitReached, Held, Reused, Took}
use Rattle.translator.specs.declared.NotDelivered.TheVariants as deliver
use Rattle.translator.specs.declared.NotLaunched.TheVariants.{NothingPending}
use Rattle.translator.specs.declared.Delivered.{Delivered}
use Rattle.translator.specs.declared.Launched.{Launched}
use Rattle.translator.specs.Translator.{at}
use Rattle.translator.specs.Search.{find}
use Rattle.translator.specs.Limit.{permitted}
use Rattle.translator.specs.Order.{earliest}
use Rattle.translator.specs.StartSplit.{stored, start_by, start_split, outside}
use Rattle.translator.specs.CompleteSplit.{completed, complete_at, complete_split}
use Rattle.translator.specs.Launch as launching
use Rattle.translator.specs.Deliver as delivering
use Rattle.translator.specs.Clear.{low_without, clear_at, clear_buffer}
use Rattle.translator.specs.ResetLane.{low_without_lane, reset_lane}
use Rattle.translator.specs.Answers.{launch_number, deliver_number}
use Rattle.numbers.specs.Named.{lane_from, result_from}
use Rattle.numbers.specs.Split.{split_from, key_from}
use Rattle.std.specs.Prelude.{Option, Some, None}
use Rattle.request.specs.declared.Kind.{Kind}
use Rattle.request.specs.declared.Kind.TheVariants as kind
use Rattle.std.specs.Prelude.{Result, Ok, Err}
use Rattle.request.specs.declared.Fault.{Fault}
use Rattle.request.specs.declared.Request.{Request}
use Rattle.request.specs.declared.Request.TheVariants.{SetConfiguration, GetConfiguration, GetHubDescriptor, GetHubStatus, GetPortStatus, ClearHubFeature, ClearPortFeature, SetPortFeature, ClearTTBuffer, ResetTT}
use Rattle.request.specs.Setup.{setup_of}
use Rattle.request.specs.Table.{kind_of}
use Rattle.request.specs.Request.{request_of}
use Rattle.hub.specs.declared.Hub.{Hub}
use Rattle.hub.specs.Hub.{with_ports, with_translator, configured_as, reset_hub, ticked_hub}
use Rattle.hub.specs.Call.{Call, Control, Poll, Start, Complete, Launch, Deliver, Event as Line', Tick, BusReset, Answer, Outcome, plain_answer, done, refuse, gives}
use Rattle.hub.specs.Requests.{keyed, by_request, served_always, requested}
use Rattle.hub.specs.Rules.{polled, completed_by, launch_answer, launched_as}
use Rattle.hub.specs.Checks.{within, has_space, not_silent, fitting, first_refusal}
use Rattle.hub.specs.Step.{served, step}
use Rattle.hub.proofs.Order.{by_checks}
use Rattle.hub.proofs.Valid.{completed-next}
use Rattle.runs.specs.History.{History, Asks, nothing, starts, completes, launches, delivers, clears, resets, empties, request_asks, asks}
use Rattle.runs.specs.Order.{occupied_after, is_occupied, EightIfOccupied}
use Rattle.runs.specs.Machine.{Numbers, new_hub_of}
use Rattle.runs.proofs.Kept.{ev}
use Rattle.runs.proofs.Steps.{AsksFor, request_asks_lem}

-- A, of a launch alone
abbrev pub OfLaunch : Type 0 → Asks → Type 0
OfLaunch A nothing = Unit {0}
OfLaunch A (starts k) = Unit {0}
OfLaunch A (completes k) = Unit {0}
OfLaunch A launches = A
OfLaunch A (delivers r l) = Unit {0}
OfLaunch A (clears k) = Unit {0}
OfLaunch A (resets z) = Unit {0}
OfLaunch A empties = Unit {0}

abbrev pub occupied : LowSide → Bool
occupied Idle = false
occupied (Running n) = true
occupied Abandoned = true

-- ---- what keeps it as it is

start_low : (t : Translator) (s : StartSplit) (l : List ℕ) → (start_split t s l).next.low ≡ t.low
unfolding start_split stored
start_low t s l = go (start_fits s (length l))
  where
    by : (x : Choice) → (start_by t s l x).next.low ≡ t.low
    by NoRoom = refl
    by LimitReached = refl
    by (Held n) = refl
    by (Reused n) = refl
    by (Took n) = refl

    go : (x : Bool) → (cond x (start_by t s l (permitted t.count (key.key_of s) (take t.count t.buffers))) (record { next = t; answer = Err outside })).next.low ≡ t.low
    go true = by (permitted t.count (key.key_of s) (take t.count t.buffers))
    go false = refl

complete_low : (t : Translator) (k : Key) → (complete_split t k).next.low ≡ t.low
unfolding complete_split
complete_low t k = go (find (holds k) (take t.count t.buffers))
  where
    slot : (n : BufferNumber) (s : Slot) → (completed t n (at t.buffers n.0).payload s).next.low ≡ t.low
    slot n Empty = refl
    slot n (Pending s p) = refl
    slot n (Ready s r) = refl
    slot n (Old s r) = refl

    go : (f : Option BufferNumber) → (complete_at t f).next.low ≡ t.low
    go None = refl
    go (Some n) = slot n (at t.buffers n.0).slot

-- what runs and is abandoned
abandoned : (x : Bool) (n : BufferNumber) → occupied (cond x Abandoned (Running n)) ≡ true
abandoned true n = refl
abandoned false n = refl

clear_low : (t : Translator) (k : Key) → occupied (clear_buffer t k).low ≡ occupied t.low
unfolding clear_buffer
clear_low t k = go (find (holds k) (take t.count t.buffers))
  where
    without : (n : BufferNumber) (x : LowSide) → occupied (low_without n x) ≡ occupied x
    without n Idle = refl
    without n (Running m) = abandoned (eqb m.0 n.0) m
    without n Abandoned = refl

    go : (f : Option BufferNumber) → occupied (clear_at t f).low ≡ occupied t.low
    go None = refl
    go (Some n) = without n t.low

reset_low : (t : Translator) (z : Lane) → occupied (reset_lane t z).low ≡ occupied t.low
unfolding reset_lane
reset_low t z = go t.low
  where
    go : (x : LowSide) → occupied (low_without_lane z t.buffers x) ≡ occupied x
    go Idle = refl
    go (Running n) = abandoned (in_lane z (at t.buffers n.0).slot) n
    go Abandoned = refl

after-refused : (x : Asks) (a : Answer) (w : Bool) → eqb a.number 0 ≡ false → eqb a.number 1 ≡ false → occupied_after x a w ≡ w
unfolding occupied_after
after-refused nothing a w e f = refl
after-refused (starts k) a w e f = refl
after-refused (completes k) a w e f = refl
after-refused launches a w e f = rw f
after-refused (delivers r l) a w e f = rw e
after-refused (clears k) a w e f = refl
after-refused (resets z) a w e f = refl
after-refused empties a w e f = rw e

-- ---- the low side tied to the history

-- x says whether the low side is occupied, on whether the hub is configured
pub record Side (h : History) (x : Bool) (on : Bool) : Type 0 where
  pub told : is_occupied h ≡ x
  pub unconfigured : on ≡ false → x ≡ false

abbrev pub SideOf : History → Hub → Type 0
SideOf h hub = Side h (occupied hub.translator.low) hub.configured

module _ (h : History) (hub : Hub) (side : SideOf h hub) where
  abbrev SideBy : Call → Outcome → Type 0
  SideBy c o = SideOf (ev c o.answer ∷ h) o.next

  -- the call leaves it as it is
  quiet : (c : Call) (a : Answer) (x : Bool) → occupied_after (asks c) a (is_occupied h) ≡ is_occupied h → x ≡ occupied hub.translator.low
      → Side (ev c a ∷ h) x hub.configured
  unfolding is_occupied
  quiet c a x k e = record { told = k ∙ side.told ∙ sym e; unconfigured = λ u. e ∙ side.unconfigured u }

  freed : (c : Call) (a : Answer) (on : Bool) → occupied_after (asks c) a (is_occupied h) ≡ false → Side (ev c a ∷ h) false on
  unfolding is_occupied
  freed c a on k = record { told = k; unconfigured = λ u. refl }

  refusal : (c : Call) (n : ℕ) → eqb n 0 ≡ false → eqb n 1 ≡ false → SideBy c (refuse n hub)
  refusal c n e f = quiet c (plain_answer n) _ (after-refused (asks c) (plain_answer n) (is_occupied h) e f) refl

  nothing_side : (c : Call) (a : Answer) → asks c ≡ nothing → Side (ev c a ∷ h) (occupied hub.translator.low) hub.configured
  unfolding occupied_after
  nothing_side c a q = quiet c a _ (rw q) refl

  -- ---- deliver

  deliver_side : (c : Call) (r : DeviceResult) (l : List ℕ) → asks c ≡ delivers r l
      → Side (ev c (plain_answer (deliver_number (delivering.deliver hub.translator r l).answer)) ∷ h) (occupied (delivering.deliver hub.translator r l).next.low) hub.configured
  unfolding delivering.deliver occupied_after
  deliver_side c r l q = go (result_length r (length l))
    where
      t : Translator
      t = hub.translator

      Said : Delivered → Type 0
      Said o = Side (ev c (plain_answer (deliver_number o.answer)) ∷ h) (occupied o.next.low) hub.configured

      none : Said (delivering.undelivered t deliver.NotInThisState)
      none = refusal c 8 refl refl

      suited : (x : Bool) (o : Delivered) → o.answer ≡ Ok tt → o.next.low ≡ Idle → Said (cond x o (delivering.undelivered t deliver.NotInThisState))
      suited true o a i = rw (a, i) (freed c (plain_answer 0) hub.configured (rw q))
      suited false o a i = none

      slot : (n : BufferNumber) (s : Slot) → Said (delivering.delivered t r l n s)
      slot n Empty = none
      slot n (Pending s p) = suited (suits s.pid r) _ refl refl
      slot n (Ready s p) = none
      slot n (Old s p) = none

      by_low : (x : LowSide) → Said (delivering.deliver_by t r l x)
      by_low Idle = none
      by_low (Running n) = slot n (at t.buffers n.0).slot
      by_low Abandoned = freed c (plain_answer 0) hub.configured (rw q)

      go : (x : Bool) → Said (cond x (delivering.deliver_by t r l t.low) (delivering.undelivered t deliver.Outside))
      go true = by_low t.low
      go false = refusal c 6 refl refl

  -- ---- control requests

  by_request_lem : (c : Call) (y : Lane) (r : Result Request Fault) → AsksFor y r (asks c) → SideBy c (by_request hub y r)
  unfolding configured_as occupied_after
  by_request_lem c y (Err f) q = refusal c 2 refl refl
  by_request_lem c y (Ok (SetConfiguration on)) q = freed c (plain_answer 0) on (rw q)
  by_request_lem c y (Ok GetConfiguration) q = nothing_side c _ q
  by_request_lem c y (Ok (GetHubDescriptor n)) q = nothing_side c _ q
  by_request_lem c y (Ok GetHubStatus) q = nothing_side c _ q
  by_request_lem c y (Ok (GetPortStatus n)) q = nothing_side c _ q
  by_request_lem c y (Ok ClearHubFeature) q = nothing_side c _ q
  by_request_lem c y (Ok (ClearPortFeature n f)) q = nothing_side c _ q
  by_request_lem c y (Ok (SetPortFeature n f)) q = nothing_side c _ q
  by_request_lem c y (Ok (ClearTTBuffer k)) q = quiet c (plain_answer 0) _ (rw q) (clear_low hub.translator (keyed y k))
  by_request_lem c y (Ok ResetTT) q = quiet c (plain_answer 0) _ (rw q) (reset_low hub.translator y)

  control : (z : ℕ) (s : List ℕ) (room : ℕ) → SideBy (Control z s room) (requested hub (lane_from z) (request_of hub.identity.ports s))
  unfolding requested
  control z s room = go (hub.configured || served_always r)
    where
      r : Result Request Fault
      r = request_of hub.identity.ports s

      go : (x : Bool) → SideBy (Control z s room) (cond x (by_request hub (lane_from z) r) (refuse 2 hub))
      go true = by_request_lem (Control z s room) (lane_from z) r (request_asks_lem hub.identity.ports z s room)
      go false = refusal (Control z s room) 2 refl refl

  -- ---- poll and tick

  poll : (z room : ℕ) → SideBy (Poll z room) (polled hub)
  unfolding polled asks
  poll z room = go (eqb (bitmap_of hub.identity.ports hub.ports) 0)
    where
      go : (x : Bool) → SideBy (Poll z room) (cond x (refuse 3 hub) (gives hub (bitmap_of hub.identity.ports hub.ports ∷ [])))
      go true = nothing_side (Poll z room) _ refl
      go false = nothing_side (Poll z room) _ refl

  tick : SideBy Tick (done (ticked_hub hub))
  unfolding ticked_hub asks
  tick = go hub.configured refl
    where
      go : (x : Bool) → hub.configured ≡ x → SideBy Tick (done (cond x (with_ports hub (swept Tick' hub.identity.ports hub.ports)) hub))
      go true e = nothing_side Tick _ refl
      go false e = nothing_side Tick _ refl

  -- ---- launch

  occupies : (room : ℕ) (a : Answer) → a.number ≡ 1 → hub.configured ≡ true → Side (ev (Launch room) a ∷ h) true hub.configured
  unfolding is_occupied occupied_after asks
  occupies room a e on = record { told = rw e; unconfigured = λ u. absurd (true≢false (sym on ∙ u)) }

  launch_side : (room : ℕ) → SideBy (Launch room) (step hub (Launch room)) × EightIfOccupied (step hub (Launch room)).answer h
  unfolding step within has_space not_silent fitting served launching.launch
  launch_side room = go (leb 64 room) hub.configured refl hub.translator.low refl
    where
      t : Translator
      t = hub.translator

      c : Call
      c = Launch room

      -- what the launch o makes of the call
      By : Bool → Bool → Launched → Outcome
      By r s o =
          cond (eqb (first_refusal true r s (not (eqb (launch_number o.answer) 8))) 0) (launched_as hub o)
          (refuse (first_refusal true r s (not (eqb (launch_number o.answer) 8))) hub)

      Both : Outcome → Type 0
      Both o = SideBy (Launch room) o × EightIfOccupied o.answer h

      idle : t.low ≡ Idle → is_occupied h ≡ false
      idle e = side.told ∙ ap occupied e

      other : (a : Answer) → ¬ (a.number ≡ 8) → is_occupied h ≡ false → EightIfOccupied a h
      other a n i m = (λ e. absurd (n e), λ e. absurd (true≢false (sym e ∙ i)))

      none : t.low ≡ Idle → Both (By true true (launching.unlaunched t NothingPending))
      none e = (refusal c 3 refl refl, other (plain_answer 3) (λ z. omega (arith, z)) (idle e))

      slot : hub.configured ≡ true → t.low ≡ Idle → (n : BufferNumber) (p : Payload) (s : Slot) → Both (By true true (launching.launched t n p s))
      slot on e n p Empty = none e
      slot on e n p (Pending s q) = (occupies room (launch_answer s (content p)) refl on, other (launch_answer s (content p)) (λ z. omega (arith, z)) (idle e))
      slot on e n p (Ready s r) = none e
      slot on e n p (Old s r) = none e

      found : hub.configured ≡ true → t.low ≡ Idle → (x : Option (BufferNumber × ℕ)) → Both (By true true (launching.launch_at t x))
      found on e None = none e
      found on e (Some (n, p)) = slot on e n (at t.buffers n.0).payload (at t.buffers n.0).slot

      eight : is_occupied h ≡ true → Both (refuse 8 hub)
      eight e = (refusal c 8 refl refl, λ _. (λ _. e, λ _. refl))

      go : (r s : Bool) → hub.configured ≡ s → (x : LowSide) → t.low ≡ x → Both (By r s (launching.launch_by t x))
      go false s on x e = (refusal c 7 refl refl, λ n. absurd (n refl))
      go true false on x e = (refusal c 5 refl refl, other (plain_answer 5) (λ z. omega (arith, z)) (side.told ∙ side.unconfigured on))
      go true true on Idle e = found on e (earliest (take t.count t.buffers))
      go true true on (Running n) e = eight (side.told ∙ ap occupied e)
      go true true on Abandoned e = eight (side.told ∙ ap occupied e)

  -- ---- one call

  checks : (c : Call) → SideBy c (served hub c) → SideBy c (step hub c)
  checks c x = by_checks hub c (SideBy c) (refusal c 6 refl refl) (refusal c 7 refl refl) (refusal c 5 refl refl) (refusal c 8 refl refl) (λ w f. x)

  pub step_side : (c : Call) → SideBy c (step hub c)
  unfolding served asks occupied_after reset_hub
  step_side (Control z s room) = checks (Control z s room) (control z s room)
  step_side (Poll z room) = checks (Poll z room) (poll z room)
  step_side (Start z p t f g a e l) =
      checks (Start z p t f g a e l) (quiet (Start z p t f g a e l) _ _ refl (ap occupied (start_low hub.translator (split_from z p t f g a e) l)))
  step_side (Complete z a e d room) =
      let o = complete_split hub.translator (key_from z a e d) in
      let next = with_translator hub o.next in
      checks (Complete z a e d room)
      (subst (λ (u : Hub). SideOf (ev (Complete z a e d room) (completed_by next o.answer o.payload).answer ∷ h) u) (sym (completed-next next o.answer o.payload))
      (quiet (Complete z a e d room) _ _ refl (ap occupied (complete_low hub.translator (key_from z a e d)))))
  step_side (Launch room) = (launch_side room).0
  step_side (Deliver r l) = checks (Deliver r l) (deliver_side (Deliver r l) (result_from r) l refl)
  step_side (Line' e n) = checks (Line' e n) (nothing_side (Line' e n) _ refl)
  step_side Tick = checks Tick tick
  step_side BusReset = checks BusReset (freed BusReset (plain_answer 0) false refl)

  -- ---- 8, of a launch

  request_eight : (y : Lane) (k : Option Kind) (v : ℕ) (a : Answer) → OfLaunch (EightIfOccupied a h) (request_asks y k v)
  request_eight y None v a = tt
  request_eight y (Some kind.SetConfiguration) v a = tt
  request_eight y (Some kind.GetConfiguration) v a = tt
  request_eight y (Some kind.GetHubDescriptor) v a = tt
  request_eight y (Some kind.GetHubStatus) v a = tt
  request_eight y (Some kind.GetPortStatus) v a = tt
  request_eight y (Some kind.ClearHubFeature) v a = tt
  request_eight y (Some kind.ClearPortFeature) v a = tt
  request_eight y (Some kind.SetPortFeature) v a = tt
  request_eight y (Some kind.ClearTTBuffer) v a = tt
  request_eight y (Some kind.ResetTT) v a = tt

  pub step_eight : (c : Call) → OfLaunch (EightIfOccupied (step hub c).answer h) (asks c)
  unfolding asks
  step_eight (Control z s room) = request_eight (lane_from z) (kind_of (setup_of s).requesttype (setup_of s).code) (setup_of s).value (step hub (Control z s room)).answer
  step_eight (Poll z room) = tt
  step_eight (Start z p t f g a e l) = tt
  step_eight (Complete z a e d room) = tt
  step_eight (Launch room) = (launch_side room).1
  step_eight (Deliver r l) = tt
  step_eight (Line' e n) = tt
  step_eight Tick = tt
  step_eight BusReset = tt

-- a new hub's low side is idle
pub new_side : (n : Numbers) → SideOf [] (new_hub_of n)
unfolding is_occupied
new_side n = record { told = refl; unconfigured = λ u. refl }
