-- A call that is refused leaves the hub as it was and gives its number alone. Assumes nothing.
use Prim.Native.Nat.{ℕ}
use mathlib.Core.Path.{◌≡◌, refl, sym, ap, ◌∙◌}
use mathlib.Core.Bool.{Bool, true, false, not, cond, ◌||◌, true≢false, false≢true}
use mathlib.Core.List.{[], ◌∷◌}
use mathlib.Core.Logic.{⊎_elim}
use lib.Dec.{eqb}
use borrow.Author.Tests.{not-true}
use Rattle.port.specs.Events.{line_event}
use Rattle.port.proofs.Claimed.{port_claims_lem}
use Rattle.ports.specs.Ports.{port_at}
use Rattle.ports.specs.Bitmap.{bitmap_of}
use Rattle.buffer.specs.declared.Key.{Key}
use Rattle.buffer.specs.Lengths.{is_data}
use Rattle.buffer.specs.declared.Lane.{Lane}
use Rattle.buffer.specs.declared.DeviceResult.{DeviceResult}
use Rattle.buffer.specs.declared.StartSplit.{StartSplit}
use Rattle.translator.specs.declared.NotLaunched.{NotLaunched}
use Rattle.translator.specs.declared.NoResult.{NoResult}
use Rattle.translator.specs.declared.Translator.{Translator}
use Rattle.translator.specs.declared.NoResult.TheVariants.{NoMatch, NotYet}
use Rattle.translator.specs.declared.NotLaunched.TheVariants.{NothingPending, Occupied}
use Rattle.translator.specs.Answers.{is_refusal, complete_number, launch_number}
use Rattle.translator.specs.StartSplit.{start_split}
use Rattle.translator.specs.CompleteSplit.{complete_split}
use Rattle.translator.specs.Launch.{launch}
use Rattle.translator.specs.Deliver.{deliver}
use Rattle.translator.proofs.Calls as calls
use Rattle.std.specs.Prelude.{Result, Ok, Err}
use Rattle.request.specs.declared.Fault.{Fault}
use Rattle.request.specs.declared.Request.{Request}
use Rattle.request.specs.declared.Request.TheVariants.{SetConfiguration, GetConfiguration, GetHubDescriptor, GetHubStatus, GetPortStatus, ClearHubFeature, ClearPortFeature, SetPortFeature, ClearTTBuffer, ResetTT}
use Rattle.request.specs.Request.{request_of}
use Rattle.numbers.specs.Named.{lane_from, event_from, result_from}
use Rattle.numbers.specs.Split.{split_from, key_from}
use Rattle.hub.specs.declared.Hub.{Hub}
use Rattle.hub.specs.Hub.{with_translator}
use Rattle.hub.specs.Call.{Call, Control, Poll, Start, Complete, Launch, Deliver, Event, Tick, BusReset, Outcome, plain, refuse, gives}
use Rattle.hub.specs.Requests.{by_request, served_always, requested}
use Rattle.hub.specs.Rules.{polled, started_as, completed_by, completed_as, launched_by, launched_as, delivered_as}
use Rattle.hub.specs.Checks.{within, fitting}
use Rattle.hub.specs.Step.{served, step}
use Rattle.hub.proofs.Order.{by_step}
use Rattle.hub.proofs.Numbers.{right}

-- what a call with this outcome would have to be
abbrev Same : Hub → Outcome → Type 0
Same h o = is_refusal o.answer.number ≡ true → o ≡ refuse o.answer.number h

module _ (h : Hub) where
  request_same : (y : Lane) (r : Result Request Fault) → Same h (by_request h y r)
  request_same y (Err f) e = refl
  request_same y (Ok (SetConfiguration on)) e = absurd (false≢true e)
  request_same y (Ok GetConfiguration) e = absurd (false≢true e)
  request_same y (Ok (GetHubDescriptor n)) e = absurd (false≢true e)
  request_same y (Ok GetHubStatus) e = absurd (false≢true e)
  request_same y (Ok (GetPortStatus n)) e = absurd (false≢true e)
  request_same y (Ok ClearHubFeature) e = absurd (false≢true e)
  request_same y (Ok (ClearPortFeature n f)) e = absurd (false≢true e)
  request_same y (Ok (SetPortFeature n f)) e = absurd (false≢true e)
  request_same y (Ok (ClearTTBuffer k)) e = absurd (false≢true e)
  request_same y (Ok ResetTT) e = absurd (false≢true e)

  requested_same : (y : Lane) (r : Result Request Fault) → Same h (requested h y r)
  unfolding requested
  requested_same y r =
      elim (h.configured || served_always r) as (λ b. Same h (cond b (by_request h y r) (refuse 2 h))) [
        | true ↦ request_same y r
        | false ↦ λ e. refl
      ]

  polled_same : Same h (polled h)
  unfolding polled
  polled_same =
      let b = bitmap_of h.identity.ports h.ports in
      elim (eqb b 0) as (λ x. Same h (cond x (refuse 3 h) (gives h (b ∷ [])))) [
        | true ↦ λ e. refl
        | false ↦ λ e. absurd (false≢true e)
      ]

  data_served : (b : Bool) → ¬ (is_refusal (cond b 1 9) ≡ true)
  data_served true e = false≢true e
  data_served false e = false≢true e

  completed_same : (k : Key) → Same h (completed_as h (complete_split h.translator k))
  completed_same k = go (complete_split h.translator k).answer refl
    where
      next : (a : Result DeviceResult NoResult) → (complete_split h.translator k).answer ≡ a → is_refusal (complete_number a) ≡ true → (complete_split h.translator k).next ≡ h.translator
      next a q e = (calls.refused_same).complete h.translator k (ap (λ (x : Result DeviceResult NoResult). is_refusal (complete_number x)) q ∙ e)

      go : (a : Result DeviceResult NoResult) → (complete_split h.translator k).answer ≡ a
          → Same h (completed_by (with_translator h (complete_split h.translator k).next) a (complete_split h.translator k).payload)
      go (Err NoMatch) q e = ap (λ (t : Translator). plain (with_translator h t) 2) (next (Err NoMatch) q refl)
      go (Err NotYet) q e = ap (λ (t : Translator). plain (with_translator h t) 4) (next (Err NotYet) q refl)
      go (Ok r) q e = absurd (data_served (is_data r) e)

  launched_same : Same h (launched_as h (launch h.translator))
  launched_same = go (launch h.translator).answer refl
    where
      next : (a : Result StartSplit NotLaunched) → (launch h.translator).answer ≡ a → is_refusal (launch_number a) ≡ true → (launch h.translator).next ≡ h.translator
      next a q e = (calls.refused_same).launched h.translator (ap (λ (x : Result StartSplit NotLaunched). is_refusal (launch_number x)) q ∙ e)

      go : (a : Result StartSplit NotLaunched) → (launch h.translator).answer ≡ a
          → Same h (launched_by (with_translator h (launch h.translator).next) a (launch h.translator).payload)
      go (Err NothingPending) q e = ap (λ (t : Translator). plain (with_translator h t) 3) (next (Err NothingPending) q refl)
      go (Err Occupied) q e = ap (λ (t : Translator). plain (with_translator h t) 8) (next (Err Occupied) q refl)
      go (Ok s) q e = absurd (false≢true e)

  -- a line event that its checks let pass is done
  pub event_done : (e n : ℕ) → fitting h (Event e n) ≡ true → (line_event (port_at h.ports (record { 0 = n })) (event_from e)).number ≡ 0
  unfolding fitting
  event_done e n f =
      let p = port_at h.ports (record { 0 = n }) in
      let k = (line_event p (event_from e)).number in
      ⊎_elim (λ (z : k ≡ 0). z)
      (λ (z : k ≡ 8). absurd (true≢false (ap (λ (x : ℕ). eqb x 8) (sym z) ∙ not-true (eqb k 8) (right h.configured (not (eqb k 8)) f))))
      (port_claims_lem.event_answers p (event_from e))

  served_same : (c : Call) → within h c ≡ true → fitting h c ≡ true → Same h (served h c)
  unfolding fitting served
  served_same (Control z s room) w f r = requested_same (lane_from z) (request_of h.identity.ports s) r
  served_same (Poll z room) w f r = polled_same r
  served_same (Start z p t l g a e b) w f r =
      let o = start_split h.translator (split_from z p t l g a e) b in
      ap (λ (x : Translator). started_as h (record { next = x; answer = o.answer })) ((calls.refused_same).start h.translator (split_from z p t l g a e) b r)
  served_same (Complete z a e d room) w f r = completed_same (key_from z a e d) r
  served_same (Launch room) w f r = launched_same r
  served_same (Deliver r b) w f e =
      let o = deliver h.translator (result_from r) b in
      ap (λ (x : Translator). delivered_as h (record { next = x; answer = o.answer })) ((calls.refused_same).delivered h.translator (result_from r) b e)
  served_same (Event e n) w f r = absurd (false≢true (ap is_refusal (sym (event_done e n f)) ∙ r))
  served_same Tick w f e = absurd (false≢true e)
  served_same BusReset w f e = absurd (false≢true e)

  pub refused_same : (c : Call) → is_refusal (step h c).answer.number ≡ true → step h c ≡ refuse (step h c).answer.number h
  refused_same c = by_step h c (Same h) (λ n e. refl) (served_same c)
