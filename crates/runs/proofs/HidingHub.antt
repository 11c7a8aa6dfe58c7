-- A call on the blanked hub with blanked bytes is the blanked call. Assumes nothing.
use Prim.Native.Nat.{ℕ}
use mathlib.Core.Path.{◌≡◌, refl, ap}
use mathlib.Core.List.{List, [], ◌∷◌}
use mathlib.Core.Bool.{Bool, true, false, cond, ◌||◌, and-eq-true_iff}
use lib.Dec.{eqb}
use lib.ListN.{length}
use Rattle.payload.specs.declared.Payload.{Payload}
use Rattle.ports.specs.Bitmap.{bitmap_of}
use Rattle.ports.specs.declared.Sweep.TheVariants.{Tick as Tick'}
use Rattle.ports.specs.Sweep.{swept}
use Rattle.buffer.specs.declared.Lane.{Lane}
use Rattle.buffer.specs.declared.Key.{Key}
use Rattle.buffer.specs.Key as key
use Rattle.buffer.specs.Lengths.{start_fits}
use Rattle.buffer.specs.declared.DeviceResult.{DeviceResult}
use Rattle.buffer.specs.declared.StartSplit.{StartSplit}
use Rattle.translator.specs.declared.NotLaunched.{NotLaunched}
use Rattle.translator.specs.declared.NoResult.{NoResult}
use Rattle.translator.specs.declared.NoResult.TheVariants.{NoMatch, NotYet}
use Rattle.translator.specs.declared.NotLaunched.TheVariants.{NothingPending, Occupied}
use Rattle.translator.specs.CompleteSplit.{complete_split}
use Rattle.translator.specs.Launch.{launch}
use Rattle.translator.specs.Clear.{clear_buffer}
use Rattle.translator.specs.ResetLane.{reset_lane}
use Rattle.numbers.proofs.Laws.{numbers_claims_lem}
use Rattle.numbers.specs.Named.{lane_from, pid_from, result_from}
use Rattle.numbers.specs.Split.{split_named, split_from, key_from}
use Rattle.std.specs.Prelude.{Option, Some, None}
use Rattle.request.specs.declared.Kind.{Kind}
use Rattle.request.specs.declared.Kind.TheVariants as kind
use Rattle.std.specs.Prelude.{Result, Ok, Err}
use Rattle.request.specs.declared.Fault.{Fault}
use Rattle.request.specs.declared.Request.{Request}
use Rattle.request.specs.declared.Request.TheVariants.{SetConfiguration, GetConfiguration, GetHubDescriptor, GetHubStatus, GetPortStatus, ClearHubFeature, ClearPortFeature, SetPortFeature, ClearTTBuffer, ResetTT}
use Rattle.request.specs.Setup.{setup_of}
use Rattle.request.specs.Table.{kind_of}
use Rattle.request.specs.Request.{request_of}
use Rattle.hub.specs.declared.Hub.{Hub}
use Rattle.hub.specs.Hub.{with_ports, with_translator, configured_as, reset_hub, ticked_hub}
use Rattle.hub.specs.Call.{Call, Control, Poll, Start, Complete, Launch, Deliver, Event as Line, Tick, BusReset, Answer, Outcome, plain_answer, pid_answer, plain, done, refuse, gives}
use Rattle.hub.specs.Requests.{keyed, set_feature, clear_feature, by_request, served_always, requested}
use Rattle.hub.specs.Rules.{polled, completed_by, launched_by}
use Rattle.hub.specs.Checks.{within, has_space, not_silent, fitting, first_refusal}
use Rattle.hub.specs.Step.{served, step}
use Rattle.runs.specs.History.{Asks, nothing, starts, completes, launches, delivers, clears, resets, empties, key_of, request_asks, asks, answer_key}
use Rattle.runs.specs.Altered.{with_bytes}
use Rattle.runs.specs.Demand3.{Marks}
use Rattle.runs.proofs.Steps.{start_key, complete-key}
use Rattle.runs.proofs.Hiding.{blank, length-blank, blank_nil, blank_p, blank-content, hide_t, shown, marked, hide_start, hide_complete, hide_launch, hide_deliver, hide_clear, hide_reset}

module _ (m : Marks) where
  abbrev pub hide_h : Hub → Hub
  hide_h h = with_translator h (hide_t m h.translator)

  abbrev pub hide_c : Hub → Call → Call
  hide_c h (Control z s room) = Control z s room
  hide_c h (Poll z room) = Poll z room
  hide_c h (Start z p t f g a e l) = Start z p t f g a e (blank (m (key_of (lane_from z) a e (key.direction_of (pid_from p)))) l)
  hide_c h (Complete z a e d room) = Complete z a e d room
  hide_c h (Launch room) = Launch room
  hide_c h (Deliver r l) = Deliver r (blank (shown m h.translator.buffers h.translator.low) l)
  hide_c h (Line e n) = Line e n
  hide_c h Tick = Tick
  hide_c h BusReset = BusReset

  -- payload bytes launched for a marked key or answered to complete-splits for it
  abbrev pub excepted : Asks → Answer → Bool
  excepted nothing a = false
  excepted (starts k) a = false
  excepted (completes k) a = m k
  excepted launches a = m (answer_key a)
  excepted (delivers r l) a = false
  excepted (clears k) a = false
  excepted (resets z) a = false
  excepted empties a = false

  abbrev pub hide_a : Asks → Answer → Answer
  hide_a x a = with_bytes a (blank (excepted x a) a.bytes)

  abbrev pub hide_o : Asks → Outcome → Outcome
  hide_o x o = record { next = hide_h o.next; answer = hide_a x o.answer }

  -- an answer without bytes
  hide_plain : (x : Asks) (h : Hub) (n : ℕ) → plain (hide_h h) n ≡ hide_o x (plain h n)
  hide_plain x h n = rw (blank_nil (excepted x (plain_answer n)))

  hide_gives : (x : Asks) (h : Hub) (l : List ℕ) → excepted x (pid_answer 1 0 l) ≡ false → gives (hide_h h) l ≡ hide_o x (gives h l)
  hide_gives x h l e = rw e

  -- a request never gives payload bytes
  request_shown : (y : Lane) (k : Option Kind) (v : ℕ) (a : Answer) → excepted (request_asks y k v) a ≡ false
  request_shown y None v a = refl
  request_shown y (Some kind.SetConfiguration) v a = refl
  request_shown y (Some kind.GetConfiguration) v a = refl
  request_shown y (Some kind.GetHubDescriptor) v a = refl
  request_shown y (Some kind.GetHubStatus) v a = refl
  request_shown y (Some kind.GetPortStatus) v a = refl
  request_shown y (Some kind.ClearHubFeature) v a = refl
  request_shown y (Some kind.ClearPortFeature) v a = refl
  request_shown y (Some kind.SetPortFeature) v a = refl
  request_shown y (Some kind.ClearTTBuffer) v a = refl
  request_shown y (Some kind.ResetTT) v a = refl

  hide_request : (x : Asks) (h : Hub) (y : Lane) (r : Result Request Fault) → ((a : Answer) → excepted x a ≡ false) → by_request (hide_h h) y r ≡ hide_o x (by_request h y r)
  unfolding configured_as
  hide_request x h y (Err f) n = hide_plain x h 2
  hide_request x h y (Ok (SetConfiguration on)) n = hide_plain x (configured_as on h) 0
  hide_request x h y (Ok GetConfiguration) n = hide_gives x h _ (n _)
  hide_request x h y (Ok (GetHubDescriptor l)) n = hide_gives x h _ (n _)
  hide_request x h y (Ok GetHubStatus) n = hide_gives x h _ (n _)
  hide_request x h y (Ok (GetPortStatus p)) n = hide_gives x h _ (n _)
  hide_request x h y (Ok ClearHubFeature) n = hide_plain x h 0
  hide_request x h y (Ok (ClearPortFeature p f)) n = hide_plain x (clear_feature h p f) 0
  hide_request x h y (Ok (SetPortFeature p f)) n = hide_plain x (set_feature h p f) 0
  hide_request x h y (Ok (ClearTTBuffer k)) n = rw (hide_clear m h.translator (keyed y k)) (hide_plain x (with_translator h (clear_buffer h.translator (keyed y k))) 0)
  hide_request x h y (Ok ResetTT) n = rw (hide_reset m h.translator y) (hide_plain x (with_translator h (reset_lane h.translator y)) 0)

  hide_control : (h : Hub) (z : ℕ) (s : List ℕ) (room : ℕ) → requested (hide_h h) (lane_from z) (request_of h.identity.ports s) ≡ hide_o (asks (Control z s room)) (requested h (lane_from z) (request_of h.identity.ports s))
  unfolding requested asks
  hide_control h z s room = go (h.configured || served_always r)
    where
      r : Result Request Fault
      r = request_of h.identity.ports s

      x : Asks
      x = request_asks (lane_from z) (kind_of (setup_of s).requesttype (setup_of s).code) (setup_of s).value

      go : (b : Bool) → cond b (by_request (hide_h h) (lane_from z) r) (refuse 2 (hide_h h)) ≡ hide_o x (cond b (by_request h (lane_from z) r) (refuse 2 h))
      go true = hide_request x h (lane_from z) r (request_shown (lane_from z) (kind_of (setup_of s).requesttype (setup_of s).code) (setup_of s).value)
      go false = hide_plain x h 2

  hide_poll : (h : Hub) (z room : ℕ) → polled (hide_h h) ≡ hide_o (asks (Poll z room)) (polled h)
  unfolding polled asks
  hide_poll h z room = go (eqb (bitmap_of h.identity.ports h.ports) 0)
    where
      go : (b : Bool) → cond b (refuse 3 (hide_h h)) (gives (hide_h h) (bitmap_of h.identity.ports h.ports ∷ []))
          ≡ hide_o nothing (cond b (refuse 3 h) (gives h (bitmap_of h.identity.ports h.ports ∷ [])))
      go true = refl
      go false = refl

  hide_tick : (h : Hub) → done (ticked_hub (hide_h h)) ≡ hide_o (asks Tick) (done (ticked_hub h))
  unfolding ticked_hub asks
  hide_tick h = go h.configured
    where
      go : (b : Bool) → done (cond b (with_ports (hide_h h) (swept Tick' h.identity.ports h.ports)) (hide_h h)) ≡ hide_o nothing (done (cond b (with_ports h (swept Tick' h.identity.ports h.ports)) h))
      go true = refl
      go false = refl

  hide_completed_lem : (k : Key) (h : Hub) (a : Result DeviceResult NoResult) (p : Payload) → completed_by (hide_h h) a (blank_p (m k) p) ≡ hide_o (completes k) (completed_by h a p)
  hide_completed_lem k h (Err NoMatch) p = hide_plain (completes k) h 2
  hide_completed_lem k h (Err NotYet) p = hide_plain (completes k) h 4
  hide_completed_lem k h (Ok r) p = rw (blank-content (m k) p)

  hide_launched_lem : (h : Hub) (a : Result StartSplit NotLaunched) (p : Payload) → launched_by (hide_h h) a (blank_p (marked m a) p) ≡ hide_o launches (launched_by h a p)
  hide_launched_lem h (Err NothingPending) p = hide_plain launches h 3
  hide_launched_lem h (Err Occupied) p = hide_plain launches h 8
  hide_launched_lem h (Ok s) p = rw (numbers_claims_lem.lanes.value_back s.lane, numbers_claims_lem.directions.value_back (key.direction_of s.pid), blank-content (m (key.key_of s)) p)

  -- ---- one call

  hide_within : (h : Hub) (c : Call) → within (hide_h h) (hide_c h c) ≡ within h c
  unfolding within
  hide_within h (Control z s room) = refl
  hide_within h (Poll z room) = refl
  hide_within h (Start z p t f g a e l) = rw (length-blank (m (key_of (lane_from z) a e (key.direction_of (pid_from p)))) l)
  hide_within h (Complete z a e d room) = refl
  hide_within h (Launch room) = refl
  hide_within h (Deliver r l) = rw (length-blank (shown m h.translator.buffers h.translator.low) l)
  hide_within h (Line e n) = refl
  hide_within h Tick = refl
  hide_within h BusReset = refl

  hide_space : (h : Hub) (c : Call) → has_space (hide_c h c) ≡ has_space c
  unfolding has_space
  hide_space h (Control z s room) = refl
  hide_space h (Poll z room) = refl
  hide_space h (Start z p t f g a e l) = refl
  hide_space h (Complete z a e d room) = refl
  hide_space h (Launch room) = refl
  hide_space h (Deliver r l) = refl
  hide_space h (Line e n) = refl
  hide_space h Tick = refl
  hide_space h BusReset = refl

  hide_silent : (h : Hub) (c : Call) → not_silent (hide_h h) (hide_c h c) ≡ not_silent h c
  unfolding not_silent
  hide_silent h (Control z s room) = refl
  hide_silent h (Poll z room) = refl
  hide_silent h (Start z p t f g a e l) = refl
  hide_silent h (Complete z a e d room) = refl
  hide_silent h (Launch room) = refl
  hide_silent h (Deliver r l) = refl
  hide_silent h (Line e n) = refl
  hide_silent h Tick = refl
  hide_silent h BusReset = refl

  hide_fitting : (h : Hub) (c : Call) → fitting (hide_h h) (hide_c h c) ≡ fitting h c
  unfolding fitting
  hide_fitting h (Control z s room) = refl
  hide_fitting h (Poll z room) = refl
  hide_fitting h (Start z p t f g a e l) = refl
  hide_fitting h (Complete z a e d room) = refl
  hide_fitting h (Launch room) = rw (hide_launch m h.translator)
  hide_fitting h (Deliver r l) = rw (hide_deliver m h.translator (result_from r) l)
  hide_fitting h (Line e n) = refl
  hide_fitting h Tick = refl
  hide_fitting h BusReset = refl

  hide_served : (h : Hub) (c : Call) → within h c ≡ true → served (hide_h h) (hide_c h c) ≡ hide_o (asks c) (served h c)
  unfolding served within asks reset_hub
  hide_served h (Control z s room) w = hide_control h z s room
  hide_served h (Poll z room) w = hide_poll h z room
  hide_served h (Start z p t f g a e l) w =
      let named = (and-eq-true_iff (split_named z p t f g a e) (start_fits (split_from z p t f g a e) (length l))).0 w in
      let same = ap m (start_key z p t f g a e named.0) in
      rw (same, hide_start m h.translator (split_from z p t f g a e) l)
  hide_served h (Complete z a e d room) w =
      let o = complete_split h.translator (key_from z a e d) in
      rw (hide_complete m h.translator (key_from z a e d), complete-key z a e d w) (hide_completed_lem (key_from z a e d) (with_translator h o.next) o.answer o.payload)
  hide_served h (Launch room) w =
      let o = launch h.translator in
      rw (hide_launch m h.translator) (hide_launched_lem (with_translator h o.next) o.answer o.payload)
  hide_served h (Deliver r l) w = rw (hide_deliver m h.translator (result_from r) l)
  hide_served h (Line e n) w = refl
  hide_served h Tick w = hide_tick h
  hide_served h BusReset w = refl

  pub step_hide : (h : Hub) (c : Call) → step (hide_h h) (hide_c h c) ≡ hide_o (asks c) (step h c)
  unfolding step
  step_hide h c = rw (hide_within h c, hide_space h c, hide_silent h c, hide_fitting h c) (go (within h c) refl (has_space c) (not_silent h c) (fitting h c))
    where
      go : (w : Bool) → within h c ≡ w → (r s f : Bool)
          → cond (eqb (first_refusal w r s f) 0) (served (hide_h h) (hide_c h c)) (refuse (first_refusal w r s f) (hide_h h))
          ≡ hide_o (asks c) (cond (eqb (first_refusal w r s f) 0) (served h c) (refuse (first_refusal w r s f) h))
      go false e r s f = hide_plain (asks c) h 6
      go true e false s f = hide_plain (asks c) h 7
      go true e true false f = hide_plain (asks c) h 5
      go true e true true false = hide_plain (asks c) h 8
      go true e true true true = hide_served h c e
