-- A call after which a port of the hub isn't what it was has brought it an input. Assumes nothing.
use Prim.Native.Nat.{ℕ, ◌≤◌, ◌<◌}
use native.Mathlib.Omega.{arith}
use mathlib.Core.Path.{◌≡◌, refl, sym, ap}
use mathlib.Core.Bool.{Bool, true, false, cond, ◌&&◌, ◌||◌, and-eq-true_iff}
use mathlib.Core.List.{List}
use lib.Dec.{eqb, leb}
use lib.ListN.{length}
use borrow.Author.Tests.{eqb-true, eqb-false, leb-true}
use Rattle.port.specs.declared.Port.{Port}
use Rattle.port.specs.declared.PortNumber.{PortNumber}
use Rattle.port.specs.declared.Input.{Input}
use Rattle.port.specs.declared.Input.TheVariants as input
use Rattle.port.proofs.States.{by_bool}
use Rattle.ports.specs.Ports.{port_at, with_port}
use Rattle.ports.proofs.Laws.{ports_claims_lem}
use Rattle.buffer.specs.declared.Lane.{Lane}
use Rattle.buffer.specs.declared.Lane.TheVariants.{Zero, One}
use Rattle.translator.specs.Answers.{lane_number}
use Rattle.numbers.specs.Named.{is_lane, lane_from, event_from, is_event, port_named}
use Rattle.numbers.proofs.Laws.{numbers_claims_lem}
use Rattle.request.specs.declared.Fault.{Fault}
use Rattle.std.specs.Prelude.{Result, Ok, Err}
use Rattle.request.specs.declared.Request.{Request}
use Rattle.request.specs.declared.Request.TheVariants.{SetConfiguration, GetConfiguration, GetHubDescriptor, GetHubStatus, GetPortStatus, ClearHubFeature, ClearPortFeature, SetPortFeature, ClearTTBuffer, ResetTT}
use Rattle.request.specs.Setup.{setup_of}
use Rattle.request.specs.Request.{request_of}
use Rattle.request.proofs.Claimed.{request_claims_lem}
use Rattle.hub.specs.declared.Hub.{Hub}
use Rattle.hub.specs.Call.{Call, Control, Poll, Start, Complete, Launch, Deliver, Event, Tick, BusReset, Outcome, refuse}
use Rattle.hub.specs.Requests.{by_request, served_always, requested}
use Rattle.hub.specs.Checks.{within, has_space, not_silent, fitting, first_refusal}
use Rattle.hub.specs.Step.{served, step}
use Rattle.hub.proofs.Order.{by_step}
use Rattle.hub.proofs.Calls.{polled_stays}
use Rattle.hub.proofs.Valid.{completed-next, launched-next}
use Rattle.hub_chart.specs.HubChart.{Asked, Brings, TwoByteValue, OnlyInputsMove}

-- a lane is 0 or 1
lane_most : (y : Lane) → lane_number y ≤ 1
lane_most Zero = omega arith
lane_most One = omega arith

-- ---- one call on a hub, at one port

module _ (h : Hub) (m : PortNumber) where
  abbrev count : ℕ
  count = h.identity.ports

  -- if the port isn't what it was, the call has brought it an input
  abbrev Told : Call → Outcome → Type 0
  Told c o = ¬ (port_at o.next.ports m ≡ port_at h.ports m) → (i : Input) × Brings count m i c

  -- the ports are as they were
  kept : {A : Type 0} {ps : List Port} → ps ≡ h.ports → ¬ (port_at ps m ≡ port_at h.ports m) → A
  kept e moved = absurd (moved (ap (λ (ps : List Port). port_at ps m) e))

  -- one port is set anew: it is this one, or this one is as it was
  set_at : {A : Type 0} (k : PortNumber) (p : Port) → (k ≡ m → A) → ¬ (port_at (with_port h.ports k p) m ≡ port_at h.ports m) → A
  set_at {A} k p here moved =
      by_bool (λ b. eqb k.0 m.0 ≡ b → A) (λ e. here (ap (λ (n : ℕ). record { 0 = n }) (eqb-true _ _ e)))
      (λ e. absurd (moved (ports_claims_lem.others_kept h.ports k m p (λ d. eqb-false _ _ e (sym d)))))
      (eqb k.0 m.0) refl

  -- a request that is served: the configuration and the port features move ports
  request : (c : Call) (y : Lane) (r : Result Request Fault) → ((q : Request) → r ≡ Ok q → Asked count q c) → Told c (by_request h y r)
  request c y (Err f) a = kept refl
  request c y (Ok (SetConfiguration true)) a = λ moved. (input.Configure, a _ refl)
  request c y (Ok (SetConfiguration false)) a = λ moved. (input.Unconfigure, a _ refl)
  request c y (Ok GetConfiguration) a = kept refl
  request c y (Ok (GetHubDescriptor n)) a = kept refl
  request c y (Ok GetHubStatus) a = kept refl
  request c y (Ok (GetPortStatus n)) a = kept refl
  request c y (Ok ClearHubFeature) a = kept refl
  request c y (Ok (ClearPortFeature k f)) a = set_at k _ (λ e. (input.ClearFeature f, rw e at (a _ refl)))
  request c y (Ok (SetPortFeature k f)) a = set_at k _ (λ e. (input.SetFeature f, rw e at (a _ refl)))
  request c y (Ok (ClearTTBuffer k)) a = kept refl
  request c y (Ok ResetTT) a = kept refl

  -- a control request: refused, not served, or served as what it asks for
  control : (z : ℕ) (s : List ℕ) (room : ℕ) → (setup_of s).value < 65536 → Told (Control z s room) (step h (Control z s room))
  unfolding step within has_space not_silent fitting served requested
  control z s room two = go (eqb (length s) 8) (is_lane z) (leb 64 room) (h.configured || served_always r) refl refl refl
    where
      r : Result Request Fault
      r = request_of count s

      c : Call
      c = Control z s room

      go : (a b d x : Bool) → eqb (length s) 8 ≡ a → is_lane z ≡ b → leb 64 room ≡ d
          → (let n = first_refusal (a && b) d true true in Told c (cond (eqb n 0) (cond x (by_request h (lane_from z) r) (refuse 2 h)) (refuse n h)))
      go true true true true e l p =
          request c (lane_from z) r (λ q read.
          record {
            lane = z;
            setup = s;
            room = room;
            is = refl;
            two_lanes = rw (numbers_claims_lem.lanes.number_back z l) at (lane_most (lane_from z));
            eight = eqb-true (length s) 8 e;
            space = leb-true 64 room p;
            asks = (request_claims_lem.exact count s q two).0 read;
          })
      go true true true false e l p = kept refl
      go true true false x e l p = kept refl
      go true false d x e l p = kept refl
      go false b d x e l p = kept refl

  -- a line event: refused, or one of the port that it names
  event : (e n : ℕ) → Told (Event e n) (step h (Event e n))
  unfolding within served
  event e n =
      by_step h (Event e n) (Told (Event e n)) (λ k. kept refl)
      (λ w f.
      let back = numbers_claims_lem.events.number_back e ((and-eq-true_iff (is_event e) (port_named count n)).0 w).0 in
      set_at (record { 0 = n }) _ (λ here. (input.Event (event_from e), rw back (ap (λ (k : PortNumber). Event e k.0) here))))

  -- a call whose rule keeps the ports
  unmoved : (c : Call) → (served h c).next.ports ≡ h.ports → Told c (step h c)
  unmoved c e = by_step h c (Told c) (λ k. kept refl) (λ w f. kept e)

  -- whatever the call
  by_call : (c : Call) → TwoByteValue c → Told c (step h c)
  unfolding served
  by_call (Control z s room) two = control z s room two
  by_call (Poll z room) two = unmoved _ (rw polled_stays)
  by_call (Start z p t f g a e l) two = unmoved _ refl
  by_call (Complete z a e d room) two = unmoved _ (rw completed-next)
  by_call (Launch room) two = unmoved _ (rw launched-next)
  by_call (Deliver r l) two = unmoved _ refl
  by_call (Event e n) two = event e n
  by_call Tick two = λ moved. (input.Tick, refl)
  by_call BusReset two = λ moved. (input.BusReset, refl)

pub only_inputs_move_lem : OnlyInputsMove step
unfolding OnlyInputsMove
only_inputs_move_lem = by_call
