-- One call on two hubs that agree in all but port p, and one call that names port p. Assumes nothing.
use Prim.Native.Nat.{ℕ}
use mathlib.Core.Path.{◌≡◌, refl, sym, ◌∙◌, ap, subst}
use mathlib.Core.Bool.{Bool, true, false, cond, ◌||◌, and-eq-true_iff, true≢false}
use mathlib.Core.List.{List, [], ◌∷◌}
use mathlib.Core.Logic.{◌↔◌, ◌⊎◌, ⊎_elim}
use native.Mathlib.Omega.{arith}
use lib.Dec.{eqb, leb}
use lib.ListN.{length}
use borrow.Author.Tests.{eqb-true, eqb-false}
use Rattle.payload.specs.declared.Payload.{Payload}
use Rattle.port.specs.declared.Port.{Port}
use Rattle.port.specs.declared.PortNumber.{PortNumber}
use Rattle.port.specs.declared.LineEvent.{LineEvent}
use Rattle.port.specs.Status.{status_bytes}
use Rattle.port.specs.Events.{line_event}
use Rattle.port.specs.Features.{feature_set, feature_cleared}
use Rattle.ports.specs.declared.Sweep.TheVariants as sweep
use Rattle.ports.specs.Ports.{port_at, with_port}
use Rattle.ports.specs.Bitmap.{bitmap_of}
use Rattle.ports.specs.Sweep.{swept}
use Rattle.buffer.specs.declared.Lane.{Lane}
use Rattle.buffer.specs.declared.DeviceResult.{DeviceResult}
use Rattle.buffer.specs.declared.StartSplit.{StartSplit}
use Rattle.translator.specs.declared.NotLaunched.{NotLaunched}
use Rattle.translator.specs.declared.NoResult.{NoResult}
use Rattle.translator.specs.declared.Translator.{Translator}
use Rattle.translator.specs.declared.NoResult.TheVariants.{NoMatch, NotYet}
use Rattle.translator.specs.declared.NotLaunched.TheVariants.{NothingPending, Occupied}
use Rattle.translator.specs.CompleteSplit.{complete_split}
use Rattle.translator.specs.Launch.{launch}
use Rattle.translator.specs.Clear.{clear_buffer}
use Rattle.translator.specs.ResetLane.{reset_lane}
use Rattle.numbers.specs.Named.{lane_from, event_from, is_event, is_lane, port_named}
use Rattle.numbers.specs.Split.{key_from}
use Rattle.std.specs.Prelude.{Result, Ok, Err}
use Rattle.request.specs.declared.Fault.{Fault}
use Rattle.request.specs.declared.Request.{Request}
use Rattle.request.specs.declared.Request.TheVariants.{SetConfiguration, GetConfiguration, GetHubDescriptor, GetHubStatus, GetPortStatus, ClearHubFeature, ClearPortFeature, SetPortFeature, ClearTTBuffer, ResetTT}
use Rattle.request.specs.Request.{request_of}
use Rattle.hub.specs.declared.Hub.{Hub}
use Rattle.hub.specs.Hub.{with_ports, with_translator, configuration_sweep, configured_as, reset_hub, ticked_hub}
use Rattle.hub.specs.Call.{Call, Control, Poll, Start, Complete, Launch, Deliver, Event as Line, Tick, BusReset, Answer, Outcome, pid_answer, plain_answer, done, refuse, gives}
use Rattle.hub.specs.Requests.{keyed, by_request, served_always, requested}
use Rattle.hub.specs.Rules.{polled, completed_by, launched_by, event_at}
use Rattle.hub.specs.Checks.{within, has_space, not_silent, fitting, first_refusal}
use Rattle.hub.specs.Step.{served, step}
use Rattle.hub.proofs.Order.{by_step}
use Rattle.hub.proofs.Calls.{polled_stays}
use Rattle.isolation.specs.Naming.{request_naming, naming}
use Rattle.isolation.specs.Isolation.{bitmap_bit, SamePoll, same}
use Rattle.isolation.proofs.Setting.{without, erased, others_same, swept_same, set_named, set_same}
use Rattle.isolation.proofs.Polls.{given, given_one, given_same}

-- no poll
abbrev pub NoPoll : Call → Type 0
NoPoll c = (z room : ℕ) → ¬ (c ≡ Poll z room)

polled_answer : (h : Hub) → (polled h).answer ≡ given (bitmap_of h.identity.ports h.ports)
unfolding polled
polled_answer h = go (eqb b 0)
  where
    b : ℕ
    b = bitmap_of h.identity.ports h.ports

    go : (x : Bool) → (cond {A = Outcome} x (refuse 3 h) (gives h (b ∷ []))).answer ≡ cond x (plain_answer 3) (pid_answer 1 0 (b ∷ []))
    go true = refl
    go false = refl

module _ (p : PortNumber) where
  -- what a call leaves and answers on two hubs
  abbrev pub Same : Call → Outcome → Outcome → Type 0
  Same c o q = (erased p o.next ≡ erased p q.next) × (NoPoll c → o.answer ≡ q.answer)

  -- ---- a call on a hub, and on the same hub with other ports, which differ in port p alone

  module _ (h : Hub) (qs : List Port) (e : without p qs ≡ without p h.ports) where
    abbrev g : Hub
    g = with_ports h qs

    -- two outcomes of a call that is no poll
    abbrev Both : Outcome → Outcome → Type 0
    Both o q = (erased p o.next ≡ erased p q.next) × (o.answer ≡ q.answer)

    plainly : (t : Translator) (a : Answer) → Both (record { next = with_translator g t; answer = a }) (record { next = with_translator h t; answer = a })
    plainly t a = (ap (with_ports (with_translator h t)) e, refl)

    as_it_was : (a : Answer) → Both (record { next = g; answer = a }) (record { next = h; answer = a })
    as_it_was a = plainly h.translator a

    request_same : (z : Lane) (r : Result Request Fault) → request_naming p r ≡ false → Both (by_request g z r) (by_request h z r)
    unfolding configured_as
    request_same z (Err f) n = as_it_was _
    request_same z (Ok (SetConfiguration on)) n =
        (ap (with_ports (configured_as on h)) (swept_same p qs h.ports e (configuration_sweep on) h.identity.ports), refl)
    request_same z (Ok GetConfiguration) n = as_it_was _
    request_same z (Ok (GetHubDescriptor l)) n = as_it_was _
    request_same z (Ok GetHubStatus) n = as_it_was _
    request_same z (Ok (GetPortStatus m)) n =
        ((as_it_was (plain_answer 0)).0, ap (λ (x : Port). pid_answer 1 0 (status_bytes x)) (others_same p qs h.ports e m (eqb-false m.0 p.0 n)))
    request_same z (Ok ClearHubFeature) n = as_it_was _
    request_same z (Ok (ClearPortFeature m f)) n =
        (ap (with_ports h) (set_same p qs h.ports e m (λ x. feature_cleared x f) (eqb-false m.0 p.0 n)), refl)
    request_same z (Ok (SetPortFeature m f)) n =
        (ap (with_ports h) (set_same p qs h.ports e m (λ x. feature_set x f) (eqb-false m.0 p.0 n)), refl)
    request_same z (Ok (ClearTTBuffer k)) n = plainly (clear_buffer h.translator (keyed z k)) (plain_answer 0)
    request_same z (Ok ResetTT) n = plainly (reset_lane h.translator z) (plain_answer 0)

    requested_same : (z : Lane) (r : Result Request Fault) → request_naming p r ≡ false → Both (requested g z r) (requested h z r)
    unfolding requested
    requested_same z r n = go (h.configured || served_always r)
      where
        go : (b : Bool) → Both (cond b (by_request g z r) (refuse 2 g)) (cond b (by_request h z r) (refuse 2 h))
        go true = request_same z r n
        go false = as_it_was _

    completed_same : (t : Translator) (a : Result DeviceResult NoResult) (l : Payload) → Both (completed_by (with_translator g t) a l) (completed_by (with_translator h t) a l)
    completed_same t (Err NoMatch) l = plainly t _
    completed_same t (Err NotYet) l = plainly t _
    completed_same t (Ok r) l = plainly t _

    launched_same : (t : Translator) (a : Result StartSplit NotLaunched) (l : Payload) → Both (launched_by (with_translator g t) a l) (launched_by (with_translator h t) a l)
    launched_same t (Err NothingPending) l = plainly t _
    launched_same t (Err Occupied) l = plainly t _
    launched_same t (Ok s) l = plainly t _

    ticked_same : Both (done (ticked_hub g)) (done (ticked_hub h))
    unfolding ticked_hub
    ticked_same = go h.configured
      where
        n : ℕ
        n = h.identity.ports

        go : (b : Bool) → Both (done (cond b (with_ports g (swept sweep.Tick n qs)) g)) (done (cond b (with_ports h (swept sweep.Tick n h.ports)) h))
        go true = (ap (with_ports h) (swept_same p qs h.ports e sweep.Tick n), refl)
        go false = as_it_was _

    event_same : (k : LineEvent) (m : PortNumber) → ¬ (m.0 ≡ p.0) → Both (event_at g k m) (event_at h k m)
    event_same k m d = (
      ap (with_ports h) (set_same p qs h.ports e m (λ x. (line_event x k).port) d),
      ap (λ (x : Port). plain_answer (line_event x k).number) (others_same p qs h.ports e m d),
    )

    -- the checks, then the rule
    by_two : (c : Call) → within g c ≡ within h c → not_silent g c ≡ not_silent h c → (within h c ≡ true → fitting g c ≡ fitting h c)
        → (within h c ≡ true → Same c (served g c) (served h c)) → Same c (step g c) (step h c)
    unfolding step
    by_two c a b d v = rw (a, b) (go (within h c) refl (has_space c) (not_silent h c))
      where
        refused_same : (n : ℕ) → Same c (refuse n g) (refuse n h)
        refused_same n = ((as_it_was (plain_answer n)).0, λ d. refl)

        fits : (f : Bool) → Same c (served g c) (served h c)
            → Same c (cond (eqb (first_refusal true true true f) 0) (served g c) (refuse (first_refusal true true true f) g))
            (cond (eqb (first_refusal true true true f) 0) (served h c) (refuse (first_refusal true true true f) h))
        fits true s = s
        fits false s = refused_same 8

        go : (w : Bool) → within h c ≡ w → (r s : Bool)
            → Same c (cond (eqb (first_refusal w r s (fitting g c)) 0) (served g c) (refuse (first_refusal w r s (fitting g c)) g))
            (cond (eqb (first_refusal w r s (fitting h c)) 0) (served h c) (refuse (first_refusal w r s (fitting h c)) h))
        go false u r s = refused_same 6
        go true u false s = refused_same 7
        go true u true false = refused_same 5
        go true u true true = rw (d u) (fits (fitting h c) (v u))

    -- a rule whose answers are the same
    answered : (c : Call) → Both (served g c) (served h c) → Same c (served g c) (served h c)
    answered c b = (b.0, λ d. b.1)

    other_same : (c : Call) → naming h.identity.ports p c ≡ false → Same c (step g c) (step h c)
    unfolding within not_silent fitting served naming reset_hub
    other_same (Control z s room) n =
        by_two (Control z s room) refl refl (λ w. refl)
        (λ w. answered (Control z s room) (requested_same (lane_from z) (request_of h.identity.ports s) (elsewhere w)))
      where
        elsewhere : within h (Control z s room) ≡ true → request_naming p (request_of h.identity.ports s) ≡ false
        elsewhere w =
            let eight : eqb (length s) 8 ≡ true = ((and-eq-true_iff (eqb (length s) 8) (is_lane z)).0 w).0 in
            rw eight at n
    other_same (Poll z room) n =
        by_two (Poll z room) refl refl (λ w. refl)
        (λ w. (ap (erased p) (polled_stays g) ∙ ((as_it_was (plain_answer 0)).0 ∙ ap (erased p) (sym (polled_stays h))), λ d. absurd (d z room refl)))
    other_same (Start z q t f k a d l) n =
        by_two (Start z q t f k a d l) refl refl (λ w. refl) (λ w. answered (Start z q t f k a d l) (plainly _ _))
    other_same (Complete z a d f room) n =
        by_two (Complete z a d f room) refl refl (λ w. refl)
        (λ w.
        let o = complete_split h.translator (key_from z a d f) in
        answered (Complete z a d f room) (completed_same o.next o.answer o.payload))
    other_same (Launch room) n =
        by_two (Launch room) refl refl (λ w. refl)
        (λ w.
        let o = launch h.translator in
        answered (Launch room) (launched_same o.next o.answer o.payload))
    other_same (Deliver r l) n = by_two (Deliver r l) refl refl (λ w. refl) (λ w. answered (Deliver r l) (plainly _ _))
    other_same (Line k m) n =
        by_two (Line k m) refl refl
        (λ w. rw (others_same p qs h.ports e (record { 0 = m }) (elsewhere w)))
        (λ w. answered (Line k m) (event_same (event_from k) (record { 0 = m }) (elsewhere w)))
      where
        elsewhere : within h (Line k m) ≡ true → ¬ (m ≡ p.0)
        elsewhere w =
            let named : port_named h.identity.ports m ≡ true = ((and-eq-true_iff (is_event k) (port_named h.identity.ports m)).0 w).1 in
            let other : eqb m p.0 ≡ false = rw named at n in
            eqb-false m p.0 other
    other_same Tick n = by_two Tick refl refl (λ w. refl) (λ w. answered Tick ticked_same)
    other_same BusReset n = by_two BusReset refl refl (λ w. refl) (λ w. (refl, λ d. refl))

    -- two polls: refused alike, or answered by the two bitmaps
    by_polls : (z room : ℕ) (P : Answer → Answer → Type 0)
        → P (plain_answer 6) (plain_answer 6) → P (plain_answer 7) (plain_answer 7) → P (plain_answer 5) (plain_answer 5)
        → P (given (bitmap_of h.identity.ports qs)) (given (bitmap_of h.identity.ports h.ports))
        → P (step g (Poll z room)).answer (step h (Poll z room)).answer
    unfolding step within has_space not_silent fitting served
    by_polls z room P outside short silent answered = go (is_lane z) (leb 64 room) h.configured
      where
        go : (w r s : Bool)
            → P (cond {A = Outcome} (eqb (first_refusal w r s true) 0) (polled g) (refuse (first_refusal w r s true) g)).answer
            (cond {A = Outcome} (eqb (first_refusal w r s true) 0) (polled h) (refuse (first_refusal w r s true) h)).answer
        go true true true =
            subst (λ (a : Answer). P a (polled h).answer) (sym (polled_answer g))
            (subst (λ (b : Answer). P (given (bitmap_of h.identity.ports qs)) b) (sym (polled_answer h)) answered)
        go true true false = silent
        go true false s = short
        go false r s = outside

    polls_same : (z room : ℕ) → SamePoll p (step g (Poll z room)).answer (step h (Poll z room)).answer
    polls_same z room =
        by_polls z room (SamePoll p) (same _) (same _) (same _) (given_same p h.identity.ports qs h.ports (others_same p qs h.ports e))

    one_or_none : (z room : ℕ) → ((step h (Poll z room)).answer.number ≡ 1) ⊎ ((step h (Poll z room)).answer.number ≡ 3)
        → (((step g (Poll z room)).answer.number ≡ 1) × ((step h (Poll z room)).answer.number ≡ 3))
        ↔ ((bitmap_bit g p ≡ true) × (bitmap_of h.identity.ports h.ports ≡ 0))
    one_or_none z room =
        by_polls z room
        (λ a b. (b.number ≡ 1) ⊎ (b.number ≡ 3) → ((a.number ≡ 1) × (b.number ≡ 3)) ↔ ((bitmap_bit g p ≡ true) × (bitmap_of h.identity.ports h.ports ≡ 0)))
        (λ n. absurd (⊎_elim (λ z. omega (arith, z)) (λ z. omega (arith, z)) n)) (λ n. absurd (⊎_elim (λ z. omega (arith, z)) (λ z. omega (arith, z)) n))
        (λ n. absurd (⊎_elim (λ z. omega (arith, z)) (λ z. omega (arith, z)) n))
        (λ n. given_one p h.identity.ports qs h.ports (others_same p qs h.ports e))

  -- ---- the same of two hubs that are one once port p is put back

  module _ (g h : Hub) (e : erased p g ≡ erased p h) where
    -- the one is the other with the one's ports
    rest : with_ports h g.ports ≡ g
    rest = sym (ap (λ (k : Hub). with_ports k g.ports) e)

    ports_same : without p g.ports ≡ without p h.ports
    ports_same = ap (λ (k : Hub). k.ports) e

    pub step_same : (c : Call) → naming h.identity.ports p c ≡ false → Same c (step g c) (step h c)
    step_same c n = subst (λ (k : Hub). Same c (step k c) (step h c)) rest (other_same h g.ports ports_same c n)

    pub poll_same : (z room : ℕ) → SamePoll p (step g (Poll z room)).answer (step h (Poll z room)).answer
    poll_same z room =
        subst (λ (k : Hub). SamePoll p (step k (Poll z room)).answer (step h (Poll z room)).answer) rest (polls_same h g.ports ports_same z room)

    pub poll_one : (z room : ℕ) → ((step h (Poll z room)).answer.number ≡ 1) ⊎ ((step h (Poll z room)).answer.number ≡ 3)
        → (((step g (Poll z room)).answer.number ≡ 1) × ((step h (Poll z room)).answer.number ≡ 3))
        ↔ ((bitmap_bit g p ≡ true) × (bitmap_of h.identity.ports h.ports ≡ 0))
    poll_one z room not_silent =
        subst
        (λ (k : Hub). (((step k (Poll z room)).answer.number ≡ 1) × ((step h (Poll z room)).answer.number ≡ 3)) ↔ ((bitmap_bit k p ≡ true) × (bitmap_of h.identity.ports h.ports ≡ 0)))
        rest (one_or_none h g.ports ports_same z room not_silent)

  -- ---- a call that names port p

  at_named : (h : Hub) (m : PortNumber) (x : Port) → eqb m.0 p.0 ≡ true → erased p (with_ports h (with_port h.ports m x)) ≡ erased p h
  at_named h m x n =
      ap (λ (i : ℕ). erased p (with_ports h (with_port h.ports (record { 0 = i }) x))) (eqb-true m.0 p.0 n)
      ∙ ap (with_ports h) (set_named p h.ports x)

  named_request : (h : Hub) (z : Lane) (r : Result Request Fault) → request_naming p r ≡ true → erased p (by_request h z r).next ≡ erased p h
  named_request h z (Err f) n = absurd (true≢false (sym n))
  named_request h z (Ok (SetConfiguration on)) n = absurd (true≢false (sym n))
  named_request h z (Ok GetConfiguration) n = absurd (true≢false (sym n))
  named_request h z (Ok (GetHubDescriptor l)) n = absurd (true≢false (sym n))
  named_request h z (Ok GetHubStatus) n = absurd (true≢false (sym n))
  named_request h z (Ok (GetPortStatus m)) n = refl
  named_request h z (Ok ClearHubFeature) n = absurd (true≢false (sym n))
  named_request h z (Ok (ClearPortFeature m f)) n = at_named h m (feature_cleared (port_at h.ports m) f) n
  named_request h z (Ok (SetPortFeature m f)) n = at_named h m (feature_set (port_at h.ports m) f) n
  named_request h z (Ok (ClearTTBuffer k)) n = absurd (true≢false (sym n))
  named_request h z (Ok ResetTT) n = absurd (true≢false (sym n))

  pub step_named : (h : Hub) (c : Call) → naming h.identity.ports p c ≡ true → erased p (step h c).next ≡ erased p h
  unfolding served naming requested
  step_named h (Control z s room) n =
      by_step h (Control z s room) (λ (o : Outcome). erased p o.next ≡ erased p h) (λ i. refl)
      (λ w f. go (h.configured || served_always (request_of h.identity.ports s)))
    where
      r : Result Request Fault
      r = request_of h.identity.ports s

      go : (b : Bool) → erased p (cond {A = Outcome} b (by_request h (lane_from z) r) (refuse 2 h)).next ≡ erased p h
      go true = named_request h (lane_from z) r ((and-eq-true_iff (eqb (length s) 8) (request_naming p r)).0 n).1
      go false = refl
  step_named h (Poll z room) n = absurd (true≢false (sym n))
  step_named h (Start z q t f k a d l) n = absurd (true≢false (sym n))
  step_named h (Complete z a d f room) n = absurd (true≢false (sym n))
  step_named h (Launch room) n = absurd (true≢false (sym n))
  step_named h (Deliver r l) n = absurd (true≢false (sym n))
  step_named h (Line k m) n =
      by_step h (Line k m) (λ (o : Outcome). erased p o.next ≡ erased p h) (λ i. refl)
      (λ w f. at_named h (record { 0 = m }) _ ((and-eq-true_iff (port_named h.identity.ports m) (eqb m p.0)).0 n).1)
  step_named h Tick n = absurd (true≢false (sym n))
  step_named h BusReset n = absurd (true≢false (sym n))
