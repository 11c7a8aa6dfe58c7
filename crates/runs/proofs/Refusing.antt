-- Every call is refused for what is due, or served. Assumes nothing.
use Prim.Native.Nat.{ℕ, suc, ◌<◌, ◌≤◌}
use native.Mathlib.Omega.{arith}
use mathlib.Core.Path.{◌≡◌, refl, sym, ◌∙◌, ap, subst}
use mathlib.Core.Logic.{◌↔◌, ◌⊎◌, inl, inr, ⊎_elim}
use mathlib.Core.List.{List, [], ◌∷◌}
use mathlib.Core.Bool.{Bool, true, false, cond, not, ◌&&◌, ◌||◌, and-eq-true_iff, true≢false, false≢true}
use borrow.Author.Tests.{eqb-true, eqb-false, leb-true, ltb-true, ltb-false}
use lib.Dec.{eqb, leb, ltb}
use lib.ListN.{length, take}
use Rattle.port.specs.Events.{line_event}
use Rattle.port.specs.Words.{NamedIn}
use Rattle.port.proofs.Claimed.{port_claims_lem}
use Rattle.ports.specs.Ports.{port_at}
use Rattle.ports.specs.Bitmap.{bitmap_of}
use Rattle.ports.proofs.Laws.{ports_claims_lem}
use Rattle.buffer.specs.declared.Lane.{Lane}
use Rattle.buffer.specs.declared.Key.{Key}
use Rattle.buffer.specs.declared.StartSplit.{StartSplit}
use Rattle.buffer.specs.declared.DeviceResult.{DeviceResult}
use Rattle.buffer.specs.declared.DeviceResult.TheVariants as result
use Rattle.buffer.specs.declared.Slot.{Slot}
use Rattle.buffer.specs.declared.Slot.TheVariants.{Empty, Pending, Ready, Old}
use Rattle.buffer.specs.declared.BufferNumber.{BufferNumber}
use Rattle.buffer.specs.Key.{key_of}
use Rattle.buffer.specs.Lengths.{start_fits, result_length, suits}
use Rattle.buffer.specs.Buffer.{is_pending, is_free, holds}
use Rattle.translator.specs.declared.NotLaunched.{NotLaunched}
use Rattle.translator.specs.declared.Translator.{Translator}
use Rattle.translator.specs.declared.LowSide.{LowSide}
use Rattle.translator.specs.declared.LowSide.TheVariants.{Idle, Running, Abandoned}
use Rattle.translator.specs.declared.Choice.{Choice}
use Rattle.translator.specs.declared.Choice.TheVariants.{NoRoom, LimitReached, Held, Reused, Took}
use Rattle.translator.specs.declared.NotLaunched.TheVariants as answer
use Rattle.translator.specs.declared.NotDelivered.TheVariants.{NotInThisState}
use Rattle.translator.specs.declared.Launched.{Launched}
use Rattle.translator.specs.declared.Delivered.{Delivered}
use Rattle.translator.specs.Translator.{at}
use Rattle.translator.specs.Search.{find}
use Rattle.translator.specs.Limit.{permitted, AtLimit}
use Rattle.translator.specs.Order.{earliest}
use Rattle.translator.specs.StartSplit.{start_by, start_split}
use Rattle.translator.specs.CompleteSplit.{completed, complete_at, complete_split}
use Rattle.translator.specs.Launch.{launched, launch_at, launch_by, launch}
use Rattle.translator.specs.Deliver.{delivered, deliver_by, deliver, undelivered}
use Rattle.translator.specs.Answers.{is_refusal, launch_number, deliver_number, result_number}
use Rattle.translator.proofs.Finding.{Hit, Miss, FindSays, find_says, may_store_lem, may_not_store, PermittedSays, permitted_says}
use Rattle.translator.proofs.Kept.{in_use, no_repeat}
use Rattle.translator.proofs.Calls.{LaunchedAs, launched_as_lem, refused_same}
use Rattle.numbers.specs.Named.{lane_from, is_result, result_from, event_from}
use Rattle.numbers.specs.Split.{split_named, split_from, key_from}
use Rattle.std.specs.Prelude.{Result, Ok, Err, None, Option, Some}
use Rattle.request.specs.declared.Fault.{Fault}
use Rattle.request.specs.declared.Request.{Request}
use Rattle.request.specs.declared.Request.TheVariants.{SetConfiguration, GetConfiguration, GetHubDescriptor, GetHubStatus, GetPortStatus, ClearHubFeature, ClearPortFeature, SetPortFeature, ClearTTBuffer, ResetTT}
use Rattle.request.specs.Request.{request_of}
use Rattle.hub.specs.declared.Hub.{Hub}
use Rattle.hub.specs.Hub.{new_fits, with_translator}
use Rattle.hub.specs.Call.{Call, Control, Poll, Start, Complete, Launch, Deliver, Event, Tick, BusReset, Outcome, refuse, gives}
use Rattle.hub.specs.Requests.{by_request, served_always, requested}
use Rattle.hub.specs.Rules.{polled, started_as, completed_as, launched_by}
use Rattle.hub.specs.Valid.{ValidHub}
use Rattle.hub.specs.Step as rule
use Rattle.hub.specs.Checks.{within, has_space, not_silent, fitting, first_refusal}
use Rattle.hub.specs.Step.{step}
use Rattle.runs.specs.Refusals.{Refusal, outside, short, silent, misplaced, stall, nak, nyet, number_of, rank, Silent, Occupied, Unsuited, Untaken, Misplaced, IsWrong, Stalled, NothingToGive, NotYet, Applies, Due, Serves, Refusals}
use Rattle.hub.proofs.Tells.{Tells, not-told, passes, both_tell}
use Rattle.runs.proofs.Outside.{outside_tells, short_tells}

-- ---- no two refusals have one number, or one rank

by_number : ℕ → Refusal
by_number n =
    cond (eqb n 6) outside (cond (eqb n 7) short (cond (eqb n 5) silent (cond (eqb n 8) misplaced (cond (eqb n 2) stall (cond (eqb n 3) nak nyet)))))

number_back : (r : Refusal) → by_number (number_of r) ≡ r
unfolding by_number
number_back outside = refl
number_back short = refl
number_back silent = refl
number_back misplaced = refl
number_back stall = refl
number_back nak = refl
number_back nyet = refl

one_number : (r q : Refusal) → number_of r ≡ number_of q → r ≡ q
one_number r q e = sym (number_back r) ∙ ap by_number e ∙ number_back q

by_rank : ℕ → Refusal
by_rank n =
    cond (eqb n 0) outside (cond (eqb n 1) short (cond (eqb n 2) silent (cond (eqb n 3) misplaced (cond (eqb n 4) stall (cond (eqb n 5) nak nyet)))))

rank_back : (r : Refusal) → by_rank (rank r) ≡ r
unfolding by_rank
rank_back outside = refl
rank_back short = refl
rank_back silent = refl
rank_back misplaced = refl
rank_back stall = refl
rank_back nak = refl
rank_back nyet = refl

one_rank : (r q : Refusal) → rank r ≡ rank q → r ≡ q
one_rank r q e = sym (rank_back r) ∙ ap by_rank e ∙ rank_back q

rank_small : (r : Refusal) → rank r < 7
rank_small outside = omega arith
rank_small short = omega arith
rank_small silent = omega arith
rank_small misplaced = omega arith
rank_small stall = omega arith
rank_small nak = omega arith
rank_small nyet = omega arith

one_due : (r q : Refusal) (h : Hub) (c : Call) → Due r h c → Due q h c → r ≡ q
one_due r q h c d e = go (ltb (rank r) (rank q)) refl (ltb (rank q) (rank r)) refl
  where
    go : (x : Bool) → ltb (rank r) (rank q) ≡ x → (y : Bool) → ltb (rank q) (rank r) ≡ y → r ≡ q
    go true f y g = absurd (e.none_before r (ltb-true (rank r) (rank q) f) d.applies)
    go false f true g = absurd (d.none_before q (ltb-true (rank q) (rank r) g) e.applies)
    go false f false g =
        let a : rank q ≤ rank r = ltb-false (rank r) (rank q) f in
        let b : rank r ≤ rank q = ltb-false (rank q) (rank r) g in
        one_rank r q (omega (arith, a, b))

-- ---- the number of a call that is served is none of theirs

pub number_refuses : (r : Refusal) → is_refusal (number_of r) ≡ true
number_refuses outside = refl
number_refuses short = refl
number_refuses silent = refl
number_refuses misplaced = refl
number_refuses stall = refl
number_refuses nak = refl
number_refuses nyet = refl

serves_not : (n : ℕ) → Serves n → is_refusal n ≡ false
serves_not n (inl e) = ap is_refusal e
serves_not n (inr (inl e)) = ap is_refusal e
serves_not n (inr (inr e)) = ap is_refusal e

not_both : (n : ℕ) (r : Refusal) → Serves n → ¬ (n ≡ number_of r)
not_both n r s e = true≢false (sym (ap is_refusal e ∙ number_refuses r) ∙ serves_not n s)

-- ---- what becomes of a call

data Verdict (h : Hub) (c : Call) (o : Outcome) : Type 0 where
  refused : (r : Refusal) → o ≡ refuse (number_of r) h → Due r h c → Verdict h c o
  served : Serves o.answer.number → ((r : Refusal) → ¬ (Applies r h c)) → Verdict h c o

module _ (h : Hub) (c : Call) where
  -- nothing applies that comes before the place n in the order
  Past : ℕ → Type 0
  Past n = (q : Refusal) → rank q < n → ¬ (Applies q h c)

  past_none : Past 0
  unfolding Past
  past_none q l = absurd (omega arith)

  past : (r : Refusal) → Past (rank r) → ¬ (Applies r h c) → Past (suc (rank r))
  unfolding Past
  past r p f q l = go (ltb (rank q) (rank r)) refl
    where
      go : (x : Bool) → ltb (rank q) (rank r) ≡ x → ¬ (Applies q h c)
      go true e = p q (ltb-true (rank q) (rank r) e)
      go false e =
          let m : rank r ≤ rank q = ltb-false (rank q) (rank r) e in
          subst (λ (x : Refusal). ¬ (Applies x h c)) (one_rank r q (omega (arith, m, l))) f

  is_due : (r : Refusal) → Past (rank r) → Applies r h c → {o : Outcome} → o ≡ refuse (number_of r) h → Verdict h c o
  unfolding Past
  is_due r p a e = refused r e (record { applies = a; none_before = p })

  -- the refusals of the call's own rule, after 6, 7, 5 and 8
  module _ (p : Past 4) where
    at_2 : Stalled h c → {o : Outcome} → o ≡ refuse 2 h → Verdict h c o
    at_2 = is_due stall p

    module _ (p2 : ¬ (Stalled h c)) where
      at_3 : NothingToGive h c → {o : Outcome} → o ≡ refuse 3 h → Verdict h c o
      at_3 = is_due nak (past stall p p2)

      module _ (p3 : ¬ (NothingToGive h c)) where
        at_4 : NotYet h c → {o : Outcome} → o ≡ refuse 4 h → Verdict h c o
        at_4 = is_due nyet (past nak (past stall p p2) p3)

        at_last : ¬ (NotYet h c) → {o : Outcome} → Serves o.answer.number → Verdict h c o
        unfolding Past
        at_last p4 s = served s (λ q. past nyet (past nak (past stall p p2) p3) p4 q (rank_small q))

never : ¬ ⊥
never x = x

-- ---- 5 and 8: the tests of the rules say whether they apply

configured_tells : (h : Hub) → Tells h.configured (h.configured ≡ false)
configured_tells h = (λ e. e, λ e. e)

silent_tells : (h : Hub) (c : Call) → Tells (not_silent h c) (Silent h c)
unfolding not_silent
silent_tells h (Control z s room) = passes
silent_tells h (Poll z room) = configured_tells h
silent_tells h (Start z p t f g a e l) = configured_tells h
silent_tells h (Complete z a e d room) = configured_tells h
silent_tells h (Launch room) = configured_tells h
silent_tells h (Deliver r l) = configured_tells h
silent_tells h (Event e n) = passes
silent_tells h Tick = passes
silent_tells h BusReset = passes

-- a launch that was answered so
abbrev LaunchTells : Launched → Type 0 → Type 0
LaunchTells o A = Tells (not (eqb (launch_number o.answer) 8)) A

launch_tells : (t : Translator) → LaunchTells (launch t) (Occupied t.low)
unfolding launch
launch_tells t = go t.low
  where
    slot : (n : BufferNumber) (s : Slot) → LaunchTells (launched t n (at t.buffers n.0).payload s) ⊥
    slot n Empty = passes
    slot n (Pending s p) = passes
    slot n (Ready s r) = passes
    slot n (Old s r) = passes

    found : (e : Option (BufferNumber × ℕ)) → LaunchTells (launch_at t e) ⊥
    found None = passes
    found (Some (n, p)) = slot n (at t.buffers n.0).slot

    go : (l : LowSide) → LaunchTells (launch_by t l) (Occupied l)
    go Idle = found (earliest (take t.count t.buffers))
    go (Running n) = (λ e. tt, λ u. refl)
    go Abandoned = (λ e. tt, λ u. refl)

-- a delivery answers 8 where A, and 0 where not
abbrev DeliverTells : Delivered → Type 0 → Type 0
DeliverTells o A = ((deliver_number o.answer ≡ 8) × A) ⊎ ((deliver_number o.answer ≡ 0) × (¬ A))

deliver_tells : (h : Hub) (r : DeviceResult) (l : List ℕ) → result_length r (length l) ≡ true
    → DeliverTells (deliver h.translator r l) (Untaken h r h.translator.low)
unfolding deliver
deliver_tells h r l fits = rw fits (go h.translator.low)
  where
    t : Translator
    t = h.translator

    suited : (s : StartSplit) (o : Delivered) → o.answer ≡ Ok tt → (x : Bool) → suits s.pid r ≡ x
        → DeliverTells (cond x o (undelivered t NotInThisState)) (suits s.pid r ≡ false)
    suited s o d true e = inr (ap deliver_number d, λ f. true≢false (sym e ∙ f))
    suited s o d false e = inl (refl, e)

    slot : (n : BufferNumber) (s : Slot) → DeliverTells (delivered t r l n s) (Unsuited r s)
    slot n Empty = inl (refl, tt)
    slot n (Pending s p) = suited s _ refl (suits s.pid r) refl
    slot n (Ready s q) = inl (refl, tt)
    slot n (Old s q) = inl (refl, tt)

    go : (low : LowSide) → DeliverTells (deliver_by t r l low) (Untaken h r low)
    go Idle = inl (refl, tt)
    go (Running n) = slot n (at t.buffers n.0).slot
    go Abandoned = inr (refl, never)

-- a line event at port n is not named in the port's state
abbrev Unnamed : Hub → ℕ → ℕ → Type 0
Unnamed h e n = ¬ (NamedIn (event_from e) (port_at h.ports (record { 0 = n })).state)

event_number_lem : Hub → ℕ → ℕ → ℕ
event_number_lem h e n = (line_event (port_at h.ports (record { 0 = n })) (event_from e)).number

refused_unnamed : (h : Hub) (e n : ℕ) → event_number_lem h e n ≡ 8 → Unnamed h e n
unfolding event_number_lem
refused_unnamed h e n z u =
    let y : event_number_lem h e n ≡ 0 = (port_claims_lem.event_done (port_at h.ports (record { 0 = n })) (event_from e)).1 u in omega (arith, y, z)

event_tells : (h : Hub) (e n : ℕ) → Tells (fitting h (Event e n)) (Misplaced h (Event e n))
unfolding fitting event_number_lem
event_tells h e n =
    both_tell h.configured (not (eqb (event_number_lem h e n) 8)) (configured_tells h)
    (λ _. by (port_claims_lem.event_answers (port_at h.ports (record { 0 = n })) (event_from e)))
  where
    Some : ℕ → Type 0
    Some k = Tells (not (eqb k 8)) (Unnamed h e n)

    by : (event_number_lem h e n ≡ 0) ⊎ (event_number_lem h e n ≡ 8) → Some (event_number_lem h e n)
    by (inl z) =
        subst Some (sym z) (λ f. absurd (true≢false f), λ u. absurd (u ((port_claims_lem.event_done (port_at h.ports (record { 0 = n })) (event_from e)).0 z)))
    by (inr z) = subst Some (sym z) (λ f. refused_unnamed h e n z, λ u. refl)

result_fits : (h : Hub) (r : ℕ) (l : List ℕ) → within h (Deliver r l) ≡ true → result_length (result_from r) (length l) ≡ true
unfolding within
result_fits h r l w = ((and-eq-true_iff (is_result r) (result_length (result_from r) (length l))).0 w).1

misplaced_tells : (h : Hub) (c : Call) → within h c ≡ true → Tells (fitting h c) (Misplaced h c)
unfolding fitting
misplaced_tells h (Control z s room) w = passes
misplaced_tells h (Poll z room) w = passes
misplaced_tells h (Start z p t f g a e l) w = passes
misplaced_tells h (Complete z a e d room) w = passes
misplaced_tells h (Launch room) w = launch_tells h.translator
misplaced_tells h (Deliver r l) w = go (deliver_tells h (result_from r) l (result_fits h r l w))
  where
    go : DeliverTells (deliver h.translator (result_from r) l) (Untaken h (result_from r) h.translator.low)
        → Tells (not (eqb (deliver_number (deliver h.translator (result_from r) l).answer) 8)) (Untaken h (result_from r) h.translator.low)
    go (inl x) = rw x.0 (λ f. x.1, λ u. refl)
    go (inr x) = rw x.0 (λ f. absurd (true≢false f), λ u. absurd (x.1 u))
misplaced_tells h (Event e n) w = event_tells h e n
misplaced_tells h Tick w = passes
misplaced_tells h BusReset w = passes

-- ---- the call's own rule

-- a request is wrong, or it is served
request_served : (h : Hub) (y : Lane) (q : Result Request Fault) → IsWrong q ⊎ Serves (by_request h y q).answer.number
request_served h y (Err f) = inl (f, refl)
request_served h y (Ok (SetConfiguration on)) = inr (inl refl)
request_served h y (Ok GetConfiguration) = inr (inr (inl refl))
request_served h y (Ok (GetHubDescriptor n)) = inr (inr (inl refl))
request_served h y (Ok GetHubStatus) = inr (inr (inl refl))
request_served h y (Ok (GetPortStatus n)) = inr (inr (inl refl))
request_served h y (Ok ClearHubFeature) = inr (inl refl)
request_served h y (Ok (ClearPortFeature n f)) = inr (inl refl)
request_served h y (Ok (SetPortFeature n f)) = inr (inl refl)
request_served h y (Ok (ClearTTBuffer k)) = inr (inl refl)
request_served h y (Ok ResetTT) = inr (inl refl)

control_sorted : (h : Hub) (z : ℕ) (s : List ℕ) (room : ℕ) → Past h (Control z s room) 4 → Verdict h (Control z s room) (requested h (lane_from z) (request_of h.identity.ports s))
unfolding requested
control_sorted h z s room p = go h.configured refl (served_always q) refl
  where
    c : Call
    c = Control z s room

    q : Result Request Fault
    q = request_of h.identity.ports s

    -- a request that is served is not wrong
    not_wrong : Serves (by_request h (lane_from z) q).answer.number → ¬ (IsWrong q)
    not_wrong v w = not_both (by_request h (lane_from z) q).answer.number stall v (ap (λ (x : Result Request Fault). (by_request h (lane_from z) x).answer.number) w.1)

    by : ¬ ((h.configured ≡ false) × (served_always q ≡ false)) → IsWrong q ⊎ Serves (by_request h (lane_from z) q).answer.number → Verdict h c (by_request h (lane_from z) q)
    by n (inl w) = at_2 h c p (inl w) (ap (by_request h (lane_from z)) w.1)
    by n (inr v) = at_last h c p (⊎_elim (not_wrong v) n) never never v

    go : (x : Bool) → h.configured ≡ x → (y : Bool) → served_always q ≡ y → Verdict h c (cond (x || y) (by_request h (lane_from z) q) (refuse 2 h))
    go true e y f = by (λ n. true≢false (sym e ∙ n.0)) (request_served h (lane_from z) q)
    go false e true f = by (λ n. true≢false (sym f ∙ n.1)) (request_served h (lane_from z) q)
    go false e false f = at_2 h c p (inr (e, f)) refl

-- the second of four tests that all hold
second : (a b c d : Bool) → ((a && b) && c) && d ≡ true → b ≡ true
second a b c d e = ((and-eq-true_iff a b).0 ((and-eq-true_iff (a && b) c).0 ((and-eq-true_iff ((a && b) && c) d).0 e).0).0).1

module _ (h : Hub) (valid : ValidHub h) where
  abbrev t : Translator
  t = h.translator

  most_ports : h.identity.ports ≤ 7
  unfolding new_fits
  most_ports = leb-true h.identity.ports 7 (second (leb 1 h.identity.ports) (leb h.identity.ports 7) _ _ valid.numbers)

  poll_sorted : (z room : ℕ) → Past h (Poll z room) 4 → Verdict h (Poll z room) (polled h)
  unfolding polled
  poll_sorted z room p = go (eqb b 0) refl
    where
      b : ℕ
      b = bitmap_of h.identity.ports h.ports

      go : (x : Bool) → eqb b 0 ≡ x → Verdict h (Poll z room) (cond x (refuse 3 h) (gives h (b ∷ [])))
      go true e = at_3 h (Poll z room) p never ((ports_claims_lem.bitmap_none h.identity.ports h.ports most_ports).0 (eqb-true b 0 e)) refl
      go false e =
          at_last h (Poll z room) p never
          (λ u. eqb-false b 0 e ((ports_claims_lem.bitmap_none h.identity.ports h.ports most_ports).1 u)) never (inr (inl refl))

  -- what none of the buffers in use passes
  none_in_use : (f : Slot → Bool) → Miss f t.count t.buffers → (i : ℕ) → i < t.count → f (at t.buffers i).slot ≡ false
  none_in_use f m i l = m i l (omega (arith, l, valid.translator.most, valid.translator.four))

  -- no buffer passes, where an empty one doesn't
  none_at_all : (f : Slot → Bool) → f Empty ≡ false → Miss f t.count t.buffers → (i : ℕ) → f (at t.buffers i).slot ≡ false
  none_at_all f e m i = go (f (at t.buffers i).slot) refl
    where
      go : (x : Bool) → f (at t.buffers i).slot ≡ x → x ≡ false
      go true g = sym g ∙ none_in_use f m i (in_use t valid.translator f e i g)
      go false g = refl

  start_sorted : (z p ty f g a e : ℕ) (l : List ℕ) → within h (Start z p ty f g a e l) ≡ true → Past h (Start z p ty f g a e l) 4
      → Verdict h (Start z p ty f g a e l) (started_as h (start_split h.translator (split_from z p ty f g a e) l))
  unfolding start_split within split_from
  start_sorted z p ty f g a e l w past-8 =
      rw fits (go (permitted t.count (key_of s) (take t.count t.buffers)) (permitted_says t.count (key_of s) t.count t.buffers))
    where
      c : Call
      c = Start z p ty f g a e l

      s : StartSplit
      s = split_from z p ty f g a e

      fits : start_fits s (length l) ≡ true
      fits = ((and-eq-true_iff (split_named z p ty f g a e) (start_fits s (length l))).0 w).1

      below : ¬ (AtLimit s.lane t) → ¬ (AtLimit (lane_from z) t)
      below l u = l u

      go : (x : Choice) → PermittedSays t.count (key_of s) t.count t.buffers x → Verdict h c (started_as h (start_by t s l x))
      go NoRoom r =
          at_3 h c past-8 never
          (no_repeat t valid.translator (key_of s) NoRoom r.says refl, inr (none_in_use (holds (key_of s)) r.says.none, none_in_use is_free r.says.free)) refl
      go LimitReached r = at_3 h c past-8 never (no_repeat t valid.translator (key_of s) r.wanted r.says r.unheld, inl (full (may_not_store t s.lane r.full))) refl
        where
          full : AtLimit s.lane t → AtLimit (lane_from z) t
          full u = u
      go (Held n) r =
          at_last h c past-8 never
          (λ u. true≢false (sym r.active ∙ u.0 n.0 r.found.passes)) never (inl refl)
      go (Reused n) r =
          at_last h c past-8 never
          (λ u. ⊎_elim (below (may_store_lem t s.lane r.may)) (λ w. true≢false (sym r.says.found.passes ∙ w.0 n.0 r.says.found.small)) u.1) never (inl refl)
      go (Took n) r =
          at_last h c past-8 never
          (λ u. ⊎_elim (below (may_store_lem t s.lane r.may)) (λ w. true≢false (sym r.says.free.passes ∙ w.1 n.0 r.says.free.small)) u.1) never (inl refl)

  result_serves : (r : DeviceResult) → Serves (result_number r)
  result_serves result.Failure = inr (inr refl)
  result_serves result.Ack = inr (inr refl)
  result_serves result.Nak = inr (inr refl)
  result_serves result.Stall = inr (inr refl)
  result_serves result.Data0 = inr (inl refl)
  result_serves result.Data1 = inr (inl refl)

  -- buffer n holds the key of a complete-split
  module _ (z a e d room : ℕ) (p : Past h (Complete z a e d room) 4) (n : BufferNumber) (r : Hit (holds (key_from z a e d)) t.count t.buffers n.0) where
    matched : ¬ (Stalled h (Complete z a e d room))
    matched u = true≢false (sym r.passes ∙ u n.0)

    -- no other does
    not_early : is_pending (at t.buffers n.0).slot ≡ false → ¬ (NotYet h (Complete z a e d room))
    not_early np u =
        let same : u.number ≡ n.0 = valid.translator.keys (key_from z a e d) u.number n.0 u.held r.passes in
        true≢false (sym u.pending ∙ ap (λ (i : ℕ). is_pending (at t.buffers i).slot) same ∙ np)

    complete_slot : (s : Slot) → (at t.buffers n.0).slot ≡ s
        → Verdict h (Complete z a e d room) (completed_as h (completed t n (at t.buffers n.0).payload s))
    complete_slot Empty f = absurd (false≢true (ap (holds (key_from z a e d)) (sym f) ∙ r.passes))
    complete_slot (Pending s q) f =
        at_4 h (Complete z a e d room) p matched never (record { number = n.0; held = r.passes; pending = ap is_pending f }) refl
    complete_slot (Ready s q) f = at_last h (Complete z a e d room) p matched never (not_early (ap is_pending f)) (result_serves q)
    complete_slot (Old s q) f = at_last h (Complete z a e d room) p matched never (not_early (ap is_pending f)) (result_serves q)

  complete_sorted : (z a e d room : ℕ) → Past h (Complete z a e d room) 4
      → Verdict h (Complete z a e d room) (completed_as h (complete_split h.translator (key_from z a e d)))
  unfolding complete_split
  complete_sorted z a e d room p = go (find (holds k) (take t.count t.buffers)) (find_says (holds k) t.count t.buffers)
    where
      k : Key
      k = key_from z a e d

      go : (f : Option BufferNumber) → FindSays (holds k) t.count t.buffers f → Verdict h (Complete z a e d room) (completed_as h (complete_at t f))
      go None m = at_2 h (Complete z a e d room) p (none_at_all (holds k) refl m) refl
      go (Some n) r = complete_slot z a e d room p n r (at t.buffers n.0).slot refl

  launch_sorted : (room : ℕ) → fitting h (Launch room) ≡ true → Past h (Launch room) 4
      → Verdict h (Launch room) (launched_by (with_translator h (launch h.translator).next) (launch h.translator).answer (launch h.translator).payload)
  unfolding fitting
  launch_sorted room fit p = go (launch t).answer refl (launched_as_lem t valid.translator)
    where
      c : Call
      c = Launch room

      go : (a : Result StartSplit NotLaunched) → (launch t).answer ≡ a → LaunchedAs t a (launch t) → Verdict h c (launched_by (with_translator h (launch t).next) a (launch t).payload)
      go (Err answer.NothingPending) e says =
          at_3 h c p never says (ap (λ (x : Translator). refuse 3 (with_translator h x)) (refused_same.launched t (ap (λ (x : Result StartSplit NotLaunched). is_refusal (launch_number x)) e)))
      go (Err answer.Occupied) e says = absurd (false≢true (ap (λ (x : Result StartSplit NotLaunched). not (eqb (launch_number x) 8)) (sym e) ∙ fit))
      go (Ok s) e says = at_last h c p never (λ u. true≢false (sym (ap is_pending says.pending) ∙ u says.number.0)) never (inr (inl refl))

  rule_sorted : (c : Call) → within h c ≡ true → fitting h c ≡ true → ¬ (Misplaced h c) → Past h c 4 → Verdict h c (rule.served h c)
  unfolding rule.served event_number_lem
  rule_sorted (Control z s room) w f m p = control_sorted h z s room p
  rule_sorted (Poll z room) w f m p = poll_sorted z room p
  rule_sorted (Start z x t f g a e l) w fit m p = start_sorted z x t f g a e l w p
  rule_sorted (Complete z a e d room) w f m p = complete_sorted z a e d room p
  rule_sorted (Launch room) w f m p = launch_sorted room f p
  rule_sorted (Deliver r l) w f m p =
      at_last h (Deliver r l) p never never never
      (⊎_elim (λ x. absurd (m x.1)) (λ x. inl x.0) (deliver_tells h (result_from r) l (result_fits h r l w)))
  rule_sorted (Event e n) w f m p =
      at_last h (Event e n) p never never never
      (⊎_elim inl (λ x. absurd (m (inr (refused_unnamed h e n x)))) (port_claims_lem.event_answers (port_at h.ports (record { 0 = n })) (event_from e)))
  rule_sorted Tick w f m p = at_last h Tick p never never never (inl refl)
  rule_sorted BusReset w f m p = at_last h BusReset p never never never (inl refl)

  sorted : (c : Call) → Verdict h c (step h c)
  unfolding step
  sorted c = go (within h c) refl (has_space c) refl (not_silent h c) refl (fitting h c) refl
    where
      six : within h c ≡ true → Past h c 1
      six w = past h c outside (past_none h c) (not-told (outside_tells h c) w)

      seven : within h c ≡ true → has_space c ≡ true → Past h c 2
      seven w r = past h c short (six w) (not-told (short_tells c) r)

      five : within h c ≡ true → has_space c ≡ true → not_silent h c ≡ true → Past h c 3
      five w r s = past h c silent (seven w r) (not-told (silent_tells h c) s)

      go : (w : Bool) → within h c ≡ w → (r : Bool) → has_space c ≡ r → (s : Bool) → not_silent h c ≡ s → (f : Bool) → fitting h c ≡ f
          → Verdict h c (cond (eqb (first_refusal w r s f) 0) (rule.served h c) (refuse (first_refusal w r s f) h))
      go false w r x s y f z = is_due h c outside (past_none h c) ((outside_tells h c).0 w) refl
      go true w false r s y f z = is_due h c short (six w) ((short_tells c).0 r) refl
      go true w true r false s f z = is_due h c silent (seven w r) ((silent_tells h c).0 s) refl
      go true w true r true s false f = is_due h c misplaced (five w r s) ((misplaced_tells h c w).0 f) refl
      go true w true r true s true f =
          let m : ¬ (Misplaced h c) = not-told (misplaced_tells h c w) f in
          rule_sorted c w f m (past h c misplaced (five w r s) m)

  -- ---- the claim

  exactly : (r : Refusal) (c : Call) → ((step h c).answer.number ≡ number_of r) ↔ Due r h c
  exactly r c = go (sorted c)
    where
      go : Verdict h c (step h c) → ((step h c).answer.number ≡ number_of r) ↔ Due r h c
      go (refused q e d) =
          let n : (step h c).answer.number ≡ number_of q = ap (λ (o : Outcome). o.answer.number) e in (
            λ f. subst (λ (x : Refusal). Due x h c) (one_number q r (sym n ∙ f)) d,
            λ due. n ∙ ap number_of (one_due q r h c d due),
          )
      go (served s none) = (λ e. absurd (not_both (step h c).answer.number r s e), λ due. absurd (none r due.applies))

  unchanged : (r : Refusal) (c : Call) → (step h c).answer.number ≡ number_of r → ((step h c).next ≡ h) × ((step h c).answer.bytes ≡ [])
  unchanged r c n = go (sorted c)
    where
      go : Verdict h c (step h c) → ((step h c).next ≡ h) × ((step h c).answer.bytes ≡ [])
      go (refused q e d) = (ap (λ (o : Outcome). o.next) e, ap (λ (o : Outcome). o.answer.bytes) e)
      go (served s none) = absurd (not_both (step h c).answer.number r s n)

  numbered : (c : Call) → ((r : Refusal) × ((step h c).answer.number ≡ number_of r)) ⊎ Serves (step h c).answer.number
  numbered c = go (sorted c)
    where
      go : Verdict h c (step h c) → ((r : Refusal) × ((step h c).answer.number ≡ number_of r)) ⊎ Serves (step h c).answer.number
      go (refused q e d) = inl (q, ap (λ (o : Outcome). o.answer.number) e)
      go (served s none) = inr s

pub refusals : Refusals step
refusals =
    record {
      exactly = λ r h c v. exactly h v r c;
      unchanged = λ r h c v. unchanged h v r c;
      numbered = λ h c v. numbered h v c;
    }
