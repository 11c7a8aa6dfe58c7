-- A new hub is valid, and every call leaves a valid hub valid. Assumes nothing.
use Prim.Native.Nat.{ℕ, ◌≤◌}
use mathlib.Core.Path.{◌≡◌, refl, sym, ap, ◌∙◌, subst}
use mathlib.Core.Bool.{Bool, true, false, not, cond, ◌||◌}
use mathlib.Core.List.{List, [], ◌∷◌}
use lib.Dec.{eqb, leb}
use borrow.Author.Tests.{leb-true}
use Rattle.payload.specs.declared.Payload.{Payload}
use Rattle.port.specs.declared.Port.{Port}
use Rattle.port.specs.declared.PortNumber.{PortNumber}
use Rattle.port.specs.declared.Input.{Input}
use Rattle.port.specs.declared.Input.TheVariants as input
use Rattle.port.specs.Input.{after}
use Rattle.port.specs.Events.{line_event}
use Rattle.port.proofs.Claimed.{port_claims_lem}
use Rattle.ports.specs.declared.Sweep.TheVariants as sweep
use Rattle.ports.specs.Ports.{new_ports, port_at}
use Rattle.ports.specs.Sweep.{swept}
use Rattle.ports.specs.Bitmap.{bitmap_of}
use Rattle.port.specs.Words.{Among}
use Rattle.buffer.specs.declared.Lane.{Lane}
use Rattle.buffer.specs.declared.DeviceResult.{DeviceResult}
use Rattle.buffer.specs.declared.StartSplit.{StartSplit}
use Rattle.translator.specs.declared.NotLaunched.{NotLaunched}
use Rattle.translator.specs.declared.NoResult.{NoResult}
use Rattle.translator.specs.declared.Translator.{Translator}
use Rattle.translator.specs.declared.NoResult.TheVariants.{NoMatch, NotYet}
use Rattle.translator.specs.declared.NotLaunched.TheVariants.{NothingPending, Occupied}
use Rattle.translator.specs.Translator.{emptied}
use Rattle.translator.specs.Valid.{ValidTranslator}
use Rattle.translator.specs.CompleteSplit.{complete_split}
use Rattle.translator.specs.Launch.{launch}
use Rattle.translator.proofs.Kept as translating
use Rattle.std.specs.Prelude.{Result, Ok, Err}
use Rattle.request.specs.declared.Fault.{Fault}
use Rattle.request.specs.declared.Request.{Request}
use Rattle.request.specs.declared.Request.TheVariants.{SetConfiguration, GetConfiguration, GetHubDescriptor, GetHubStatus, GetPortStatus, ClearHubFeature, ClearPortFeature, SetPortFeature, ClearTTBuffer, ResetTT}
use Rattle.request.specs.Request.{request_of}
use Rattle.request.specs.Ranges.{InRange}
use Rattle.request.proofs.Claimed.{request_claims_lem}
use Rattle.numbers.specs.Named.{lane_from, is_event, event_from, port_named, result_from}
use Rattle.numbers.specs.Split.{split_from, key_from}
use Rattle.hub.specs.declared.Hub.{Hub}
use Rattle.hub.specs.Hub.{new_fits, hub_of, with_ports, with_translator, with_port_at, configured_as, reset_hub, ticked_hub}
use Rattle.hub.specs.Call.{Call, Control, Poll, Start, Complete, Launch, Deliver, Event, Tick, BusReset, refuse, gives}
use Rattle.hub.specs.Requests.{keyed, by_request, served_always, requested}
use Rattle.hub.specs.Rules.{polled, completed_by, launched_by}
use Rattle.hub.specs.Checks.{within, fitting}
use Rattle.hub.specs.Step.{served, step}
use Rattle.hub.specs.Valid.{ValidHub}
use Rattle.hub.proofs.Order.{by_step}
use Rattle.hub.proofs.Numbers.{left, right, fits, refit}
use Rattle.hub.proofs.Ports.{ValidPorts, new_ports_lem, swept_valid, timer_at, configured_at, set_valid, NotUnconfigure, stays_configured}

-- ---- a hub from its parts

abbrev most_of : (h : Hub) → ValidHub h → h.identity.ports ≤ 7
most_of h v = (fits h.identity.ports h.translator.count h.identity.powergood h.identity.current h.identity.removable v.numbers).ports_most

abbrev ports_of_lem : (h : Hub) → ValidHub h → ValidPorts h.identity.ports h.configured h.ports
ports_of_lem h v = record { seven = v.seven; timers = v.timers; spare = v.spare; configuration = v.configuration }

module _ (h : Hub) (v : ValidHub h) where
  made_of : (on : Bool) (ps : List Port) (t : Translator) → ValidPorts h.identity.ports on ps → ValidTranslator t
      → ValidHub (record { identity = h.identity; configured = on; ports = ps; translator = t })
  made_of on ps t p w =
      record {
        numbers =
            refit h.identity.ports h.translator.count h.identity.powergood h.identity.current h.identity.removable v.numbers
            t.count w.least w.most;
        seven = p.seven;
        timers = p.timers;
        spare = p.spare;
        configuration = p.configuration;
        translator = w;
      }

  translator_valid : (t : Translator) → ValidTranslator t → ValidHub (with_translator h t)
  translator_valid t w = made_of h.configured h.ports t (ports_of_lem h v) w

  empty_valid : ValidTranslator (emptied h.translator)
  empty_valid = translating.new_valid h.translator.count v.translator.least v.translator.most

  -- an input to one of the ports of a configured hub
  port_valid : h.configured ≡ true → (m : PortNumber) → Among h.identity.ports m → (i : Input) → NotUnconfigure i
      → ValidHub (with_port_at h m (after (port_at h.ports m) i))
  port_valid on m among i n =
      let ps = ports_of_lem h v in
      made_of h.configured _ h.translator
      (set_valid h.identity.ports h.configured h.ports ps (most_of h v) m among (after (port_at h.ports m) i)
      (port_claims_lem.timer_kept (port_at h.ports m) i (timer_at h.identity.ports h.configured h.ports ps (most_of h v) m among))
      (stays_configured (port_at h.ports m) i n
      (configured_at h.identity.ports h.configured h.ports ps (most_of h v) m among ∙ ap not on) ∙ ap not (sym on)))
      v.translator

  -- ---- the requests

  configured_valid : (on : Bool) → ValidHub (configured_as on h)
  unfolding configured_as
  configured_valid true =
      made_of true _ _
      (swept_valid h.identity.ports h.configured h.ports (ports_of_lem h v) (most_of h v) sweep.Configure true (λ p t. tt) (λ p c. refl))
      empty_valid
  configured_valid false =
      made_of false _ _
      (swept_valid h.identity.ports h.configured h.ports (ports_of_lem h v) (most_of h v) sweep.Unconfigure false (λ p t. tt) (λ p c. refl))
      empty_valid

  only : (b : Bool) → (b || false) ≡ true → b ≡ true
  only true e = refl
  only false e = e

  request_valid : (y : Lane) (r : Result Request Fault) → ((q : Request) → r ≡ Ok q → InRange h.identity.ports q) → (h.configured || served_always r) ≡ true → ValidHub (by_request h y r).next
  request_valid y (Err f) i e = v
  request_valid y (Ok (SetConfiguration on)) i e = configured_valid on
  request_valid y (Ok GetConfiguration) i e = v
  request_valid y (Ok (GetHubDescriptor n)) i e = v
  request_valid y (Ok GetHubStatus) i e = v
  request_valid y (Ok (GetPortStatus n)) i e = v
  request_valid y (Ok ClearHubFeature) i e = v
  request_valid y (Ok (ClearPortFeature n f)) i e = port_valid (only h.configured e) n (i _ refl) (input.ClearFeature f) tt
  request_valid y (Ok (SetPortFeature n f)) i e = port_valid (only h.configured e) n (i _ refl) (input.SetFeature f) tt
  request_valid y (Ok (ClearTTBuffer k)) i e = translator_valid _ (translating.clear_valid h.translator v.translator (keyed y k))
  request_valid y (Ok ResetTT) i e = translator_valid _ (translating.reset_valid h.translator v.translator y)

  requested_valid : (y : Lane) (r : Result Request Fault) → ((q : Request) → r ≡ Ok q → InRange h.identity.ports q) → ValidHub (requested h y r).next
  unfolding requested
  requested_valid y r i = go (h.configured || served_always r) refl
    where
      go : (b : Bool) → (h.configured || served_always r) ≡ b → ValidHub (cond b (by_request h y r) (refuse 2 h)).next
      go true e = request_valid y r i e
      go false e = v

  -- ---- the calls

  polled_valid : ValidHub (polled h).next
  unfolding polled
  polled_valid =
      let b = bitmap_of h.identity.ports h.ports in
      elim (eqb b 0) as (λ x. ValidHub (cond x (refuse 3 h) (gives h (b ∷ []))).next) [
        | true ↦ v
        | false ↦ v
      ]

  ticked_valid : ValidHub (ticked_hub h)
  unfolding ticked_hub
  ticked_valid = go h.configured refl
    where
      go : (b : Bool) → h.configured ≡ b → ValidHub (cond b (with_ports h (swept sweep.Tick h.identity.ports h.ports)) h)
      go true e =
          made_of h.configured _ h.translator
          (swept_valid h.identity.ports h.configured h.ports (ports_of_lem h v) (most_of h v) sweep.Tick h.configured
          (λ p t. port_claims_lem.timer_kept p input.Tick t) (λ p c. stays_configured p input.Tick tt (c ∙ ap not e) ∙ ap not (sym e)))
          v.translator
      go false e = v

  reset_valid : ValidHub (reset_hub h)
  unfolding reset_hub
  reset_valid = made_of false new_ports (emptied h.translator) (new_ports_lem h.identity.ports) empty_valid

-- what answer a complete-split or a launch gives doesn't matter to the hub
pub completed-next : (g : Hub) (a : Result DeviceResult NoResult) (p : Payload) → (completed_by g a p).next ≡ g
completed-next g (Err NoMatch) p = refl
completed-next g (Err NotYet) p = refl
completed-next g (Ok r) p = refl

pub launched-next : (g : Hub) (a : Result StartSplit NotLaunched) (p : Payload) → (launched_by g a p).next ≡ g
launched-next g (Err NothingPending) p = refl
launched-next g (Err Occupied) p = refl
launched-next g (Ok s) p = refl

module _ (h : Hub) (v : ValidHub h) where
  served_valid : (c : Call) → within h c ≡ true → fitting h c ≡ true → ValidHub (served h c).next
  unfolding within fitting served
  served_valid (Control z s room) w f = requested_valid h v (lane_from z) (request_of h.identity.ports s) (request_claims_lem.in_range h.identity.ports s)
  served_valid (Poll z room) w f = polled_valid h v
  served_valid (Start z p t l g a e b) w f = translator_valid h v _ (translating.start_valid h.translator v.translator (split_from z p t l g a e) b)
  served_valid (Complete z a e d room) w f =
      let o = complete_split h.translator (key_from z a e d) in
      subst ValidHub (sym (completed-next (with_translator h o.next) o.answer o.payload))
      (translator_valid h v _ (translating.complete_valid h.translator v.translator (key_from z a e d)))
  served_valid (Launch room) w f =
      let o = launch h.translator in
      subst ValidHub (sym (launched-next (with_translator h o.next) o.answer o.payload))
      (translator_valid h v _ (translating.launch_valid h.translator v.translator))
  served_valid (Deliver r b) w f = translator_valid h v _ (translating.deliver_valid h.translator v.translator (result_from r) b)
  served_valid (Event e n) w f =
      let m : PortNumber = record { 0 = n } in
      let named = right (is_event e) (port_named h.identity.ports n) w in
      port_valid h v (left h.configured (not (eqb (line_event (port_at h.ports m) (event_from e)).number 8)) f) m
      (leb-true 1 n (left (leb 1 n) (leb n h.identity.ports) named), leb-true n h.identity.ports (right (leb 1 n) (leb n h.identity.ports) named))
      (input.Event (event_from e)) tt
  served_valid Tick w f = ticked_valid h v
  served_valid BusReset w f = reset_valid h v

  pub step_valid : (c : Call) → ValidHub (step h c).next
  step_valid c = by_step h c (λ o. ValidHub o.next) (λ n. v) (served_valid c)

pub new_valid : (n b g c r : ℕ) → new_fits n b g c r ≡ true → ValidHub (hub_of n b g c r)
new_valid n b g c r e =
    let x = fits n b g c r e in
    let p = new_ports_lem n in
    record {
      numbers = e;
      seven = p.seven;
      timers = p.timers;
      spare = p.spare;
      configuration = p.configuration;
      translator = translating.new_valid b x.buffers_least x.buffers_most;
    }
