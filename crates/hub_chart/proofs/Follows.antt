-- The rules of a port say what every valid hub answers and makes of each of its ports, and so does every engine that agrees with them.
-- Assumes nothing.
use Prim.Native.Nat.{ℕ, zero, suc, ◌≤◌}
use native.Mathlib.Omega.{arith}
use mathlib.Core.Path.{◌≡◌, refl, ◌∙◌, ap}
use mathlib.Core.Bool.{Bool, true, false, not, cond, ◌||◌, or-true}
use borrow.Author.Tests.{le-leb}
use Rattle.port.specs.declared.PortState.TheVariants.{NotConfigured}
use Rattle.port.specs.declared.Port.{Port}
use Rattle.port.specs.declared.PortNumber.{PortNumber}
use Rattle.port.specs.declared.LineEvent.{LineEvent}
use Rattle.port.specs.declared.LineEvent.TheVariants.{AttachLow, AttachFull, Detach, Chirp, Wake, PortError, OverCurrentOn, OverCurrentOff}
use Rattle.port.specs.declared.Input.{Input}
use Rattle.port.specs.declared.Input.TheVariants as input
use Rattle.port.specs.Reaction.{Answered, refused, done_with}
use Rattle.port.specs.Events.{event_rule}
use Rattle.port.specs.Words.{Among, is_not_configured}
use Rattle.port.proofs.States.{each, by_bool}
use Rattle.chart.specs.Engines.{by_rules, EnginesAgree}
use Rattle.ports.specs.declared.Sweep.{Sweep}
use Rattle.ports.specs.Ports.{port_at}
use Rattle.ports.specs.Sweep.{swept_by, swept}
use Rattle.ports.proofs.Laws.{ports_claims_lem}
use Rattle.numbers.specs.Named.{is_lane, lane_from}
use Rattle.numbers.specs.Written.{event_number}
use Rattle.numbers.proofs.Laws.{numbers_claims_lem}
use Rattle.std.specs.Prelude.{Ok}
use Rattle.request.specs.declared.Request.{Request}
use Rattle.request.specs.declared.Request.TheVariants.{SetConfiguration, ClearPortFeature, SetPortFeature}
use Rattle.request.specs.Setup.{setup_of}
use Rattle.request.specs.Request.{request_of}
use Rattle.request.proofs.Exact.{reads}
use Rattle.hub.specs.declared.Hub.{Hub}
use Rattle.hub.specs.declared.Refusal.TheVariants.{NotInThisState}
use Rattle.hub.specs.Hub.{configuration_sweep, configured_as, reset_hub, ticked_hub}
use Rattle.hub.specs.Call.{Call, Event, Tick, BusReset, Outcome, refuse}
use Rattle.hub.specs.Requests.{requested}
use Rattle.hub.specs.Rules.{stepped_at, event_at}
use Rattle.hub.specs.Checks.{within, has_space, not_silent, fitting}
use Rattle.hub.specs.Step.{served, step}
use Rattle.hub.specs.Valid.{ValidHub}
use Rattle.hub.proofs.Numbers.{fits}
use Rattle.hub.proofs.Ports.{configured_at}
use Rattle.hub.proofs.Calls.{event_refused, event_stepped}
use Rattle.hub_chart.specs.HubChart.{Asked, Brings, HubFollows}

-- Not Configured, every line event is refused
no_event : (e : LineEvent) (l : Bool) → event_rule e l NotConfigured ≡ refused
no_event AttachLow l = refl
no_event AttachFull l = refl
no_event Detach l = refl
no_event Chirp l = refl
no_event Wake l = refl
no_event PortError l = refl
no_event OverCurrentOn l = refl
no_event OverCurrentOff l = refl

-- lane 0 or 1
is_lane_lem : (z : ℕ) → z ≤ 1 → is_lane z ≡ true
is_lane_lem zero l = refl
is_lane_lem (suc zero) l = refl
is_lane_lem (suc (suc z)) l = absurd (omega (arith, l))

-- ---- one call on a valid hub, at one of its ports

module _ (h : Hub) (v : ValidHub h) (m : PortNumber) (among : Among h.identity.ports m) where
  abbrev here : Port
  here = port_at h.ports m

  -- the number that is answered, and the port that is left
  abbrev As : Outcome → Answered → Type 0
  As o x = (o.answer.number ≡ x.number) × (port_at o.next.ports m ≡ x.port)

  most : h.identity.ports ≤ 7
  most = (fits _ _ _ _ _ v.numbers).ports_most

  -- the port is Not Configured exactly if the hub is unconfigured, ..
  configuration : is_not_configured here.state ≡ not h.configured
  configuration =
      configured_at _ h.configured _
      (record { seven = v.seven; timers = v.timers; spare = v.spare; configuration = v.configuration }) most m among

  -- .. which is one state alone
  at_rest : h.configured ≡ false → here.state ≡ NotConfigured
  at_rest off =
      rw (configuration ∙ ap not off) at (each (λ s. cond (is_not_configured s) s NotConfigured) (λ s. NotConfigured) (λ v t. refl) here.state)

  -- the port is set anew, and swept with the others
  set_here : (x : Answered) → As (stepped_at h m x) x
  set_here x = (refl, ports_claims_lem.set_read h.ports m x.port v.seven (among.0, omega (arith, most)))

  swept_here : (w : Sweep) → port_at (swept w h.identity.ports h.ports) m ≡ swept_by w here
  swept_here w = ports_claims_lem.sweep_steps w h.identity.ports h.ports m v.seven most among

  -- by whether the hub is configured
  either : {P : Type 0} → (h.configured ≡ true → P) → (h.configured ≡ false → P) → P
  either {P} f g = by_bool (λ b. h.configured ≡ b → P) f g h.configured refl

  -- a control request is served as the request that it asks for
  by_request_lem : (r : Request) (x : Answered) (c : Call) → ((z : ℕ) → As (requested h (lane_from z) (Ok r)) x)
      → Asked h.identity.ports r c → As (step h c) x
  unfolding step within has_space not_silent fitting served request_of
  by_request_lem r x c rule a =
      let asked = reads h.identity.ports (setup_of a.setup) r a.asks in
      rw (a.is, a.eight, is_lane_lem a.lane a.two_lanes, le-leb 64 a.room a.space, asked) (rule a.lane)

  -- a port request: done on a configured hub, 2 on an unconfigured one
  port_request : (x : Answered) → As (cond (h.configured || false) (stepped_at h m x) (refuse 2 h))
      (cond (is_not_configured here.state) (record { port = here; number = 2 }) x)
  port_request x = either (λ on. rw (configuration, on) (set_here x)) (λ off. rw (configuration, off) (refl, refl))

  -- SetConfiguration is served always
  set_configuration : (on : Bool) (z : ℕ)
      → As (requested h (lane_from z) (Ok (SetConfiguration on))) (done_with (swept_by (configuration_sweep on) here))
  unfolding requested configured_as
  set_configuration on z = rw (or-true h.configured) (refl, swept_here (configuration_sweep on))

  -- a line event: the port's own answer on a configured hub, 8 on an unconfigured one
  event : (e : LineEvent) → As (step h (Event (event_number e) m.0)) (by_rules here (input.Event e))
  unfolding within
  event e =
      let k = event_number e in
      let n = numbers_claims_lem.events in
      let named : true ≡ within h (Event k m.0) = rw (n.named e, (numbers_claims_lem.port_range h.identity.ports m.0).1 among) in
      either (λ on. rw (← (event_stepped h k m.0 {o = event_at h e m} (rw on) named (rw (n.value_back e)))) (set_here _))
      (λ off. rw (← (event_refused h k m.0 NotInThisState refl (rw off) named), at_rest off, no_event e _) (refl, refl))

  -- a tick sweeps the ports of a configured hub, and does nothing at a port that is Not Configured
  tick : As (step h Tick) (by_rules here input.Tick)
  unfolding step within has_space not_silent fitting served ticked_hub
  tick = either (λ on. rw on (refl, swept_here _)) (λ off. rw (off, at_rest off) (refl, refl))

  -- bus reset makes every port new
  bus_reset_lem : As (step h BusReset) (by_rules here input.BusReset)
  unfolding step within has_space not_silent fitting served reset_hub
  bus_reset_lem = (refl, ports_claims_lem.new_at m)

  -- whatever the input
  by_input : (i : Input) (c : Call) → Brings h.identity.ports m i c → As (step h c) (by_rules here i)
  unfolding requested
  by_input (input.Event e) c b = rw b (event e)
  by_input input.Tick c b = rw b tick
  by_input (input.SetFeature f) c b = by_request_lem (SetPortFeature m f) _ c (λ z. port_request _) b
  by_input (input.ClearFeature f) c b = by_request_lem (ClearPortFeature m f) _ c (λ z. port_request _) b
  by_input input.Configure c b = by_request_lem _ _ c (set_configuration true) b
  by_input input.Unconfigure c b = by_request_lem _ _ c (set_configuration false) b
  by_input input.BusReset c b = rw b bus_reset_lem

-- the rules say it of every valid hub, ..
follows : HubFollows by_rules
unfolding HubFollows
follows = by_input

-- .. and so does every engine that agrees with them
pub hub_follows : (engine : Port → Input → Answered) → EnginesAgree engine → HubFollows engine
unfolding HubFollows
hub_follows engine agree h v m among i c b = rw (agree.step (port_at h.ports m) i) (follows h v m among i c b)
