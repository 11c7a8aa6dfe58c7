-- What GetPortStatus shows as C_PORT_ENABLE is what the history reports. Assumes nothing.
use Prim.Native.Nat.{ℕ, ◌≤◌}
use native.Mathlib.Omega.{arith}
use mathlib.Core.Path.{◌≡◌, refl, sym, ◌∙◌, ap, subst}
use mathlib.Core.List.{List, [], ◌∷◌}
use mathlib.Core.Bool.{Bool, true, false, cond, not, ◌||◌}
use borrow.Author.Tests.{eqb-true, eqb-false}
use lib.Dec.{eqb}
use lib.ListN.{get_or}
use Rattle.port.specs.declared.ChangeBit.{ChangeBit}
use Rattle.port.specs.declared.ChangeBit.TheVariants as bit
use Rattle.port.specs.declared.Port.{Port}
use Rattle.port.specs.declared.PortNumber.{PortNumber}
use Rattle.port.specs.declared.LineEvent.{LineEvent}
use Rattle.port.specs.declared.LineEvent.TheVariants.{AttachLow, AttachFull, Detach, Chirp, Wake, PortError, OverCurrentOn, OverCurrentOff}
use Rattle.port.specs.declared.ClearableFeature.{ClearableFeature}
use Rattle.port.specs.declared.ClearableFeature.TheVariants as clearable
use Rattle.port.specs.Reaction.{reacted}
use Rattle.port.specs.Events.{port_error, line_event}
use Rattle.port.specs.Status.{change_low, status_bytes}
use Rattle.port.specs.declared.Input.{Input}
use Rattle.port.specs.declared.Input.TheVariants as input
use Rattle.port.specs.Input.{after}
use Rattle.port.proofs.States.{by_state}
use Rattle.port.proofs.Bits.{bits_back}
use Rattle.port.proofs.EnableChange.{is_error, keeps, enable_kept}
use Rattle.ports.specs.declared.Sweep.{Sweep}
use Rattle.ports.specs.declared.Sweep.TheVariants as sweep
use Rattle.ports.specs.Ports.{port_at, with_port}
use Rattle.ports.specs.Sweep.{swept_by, swept}
use Rattle.ports.specs.Bitmap.{bitmap_of}
use Rattle.port.specs.Words.{Among}
use Rattle.ports.proofs.Laws.{ports_claims_lem}
use Rattle.translator.specs.CompleteSplit.{complete_split}
use Rattle.translator.specs.Launch.{launch}
use Rattle.buffer.specs.declared.Lane.{Lane}
use Rattle.numbers.specs.Named.{lane_from, is_event, event_from, port_named}
use Rattle.numbers.specs.Split.{key_from}
use Rattle.numbers.specs.Written.{event_number}
use Rattle.numbers.proofs.Laws.{numbers_claims_lem}
use Rattle.std.specs.Prelude.{Option, Some}
use Rattle.request.specs.declared.Kind.{Kind}
use Rattle.request.specs.declared.Kind.TheVariants as kind
use Rattle.std.specs.Prelude.{Result, Ok, Err}
use Rattle.request.specs.declared.Fault.{Fault}
use Rattle.request.specs.declared.Request.{Request}
use Rattle.request.specs.declared.Request.TheVariants.{SetConfiguration, GetConfiguration, GetHubDescriptor, GetHubStatus, GetPortStatus, ClearHubFeature, ClearPortFeature, SetPortFeature, ClearTTBuffer, ResetTT}
use Rattle.request.specs.Setup.{setup_of}
use Rattle.request.specs.Values.{clearable_of}
use Rattle.request.specs.Table.{kind_of, value_fits}
use Rattle.request.specs.Request.{meaning, request_of}
use Rattle.request.specs.Fields.{clearable_number}
use Rattle.request.specs.Ranges.{InRange}
use Rattle.request.proofs.Written.{clearable_back}
use Rattle.request.proofs.Exact.{checks}
use Rattle.request.proofs.Claimed.{request_claims_lem}
use Rattle.hub.specs.declared.Identity.{Identity}
use Rattle.hub.specs.declared.Hub.{Hub}
use Rattle.hub.specs.Hub.{with_ports, with_translator, configured_as, reset_hub, ticked_hub}
use Rattle.hub.specs.Call.{Call, Control, Poll, Start, Complete, Launch, Deliver, Event as Line, Tick, BusReset, Answer, Outcome, plain_answer, done, refuse, gives}
use Rattle.hub.specs.Requests.{by_request, served_always, requested}
use Rattle.hub.specs.Rules.{polled}
use Rattle.hub.specs.Checks.{within, fitting}
use Rattle.hub.specs.Step.{served, step}
use Rattle.hub.specs.Valid.{ValidHub}
use Rattle.hub.proofs.Numbers.{left, fits}
use Rattle.hub.proofs.Order.{by_checks}
use Rattle.hub.proofs.Valid.{completed-next, launched-next, new_valid, step_valid}
use Rattle.hub.proofs.Refused.{event_done}
use Rattle.hub.proofs.Claimed.{hub_claims_lem}
use Rattle.runs.specs.History.{History}
use Rattle.runs.specs.Machine.{new_hub_of, rules, run_from}
use Rattle.runs.specs.ErrorReports.{PortAsks, nothing, errs, clears, clears_all, reads, request_asks, port_asks, reported_after, is_reported, enable_shown, Shows, AllShow, ErrorReports}
use Rattle.runs.proofs.Kept.{ev}

-- ---- one port

-- a port error that isn't refused sets the bit
error_sets : (p : Port) → (line_event p PortError).number ≡ 0 → (line_event p PortError).port.changes.enable ≡ true
error_sets p =
    by_state (λ s. (reacted p (port_error p.overcurrent s)).number ≡ 0 → (reacted p (port_error p.overcurrent s)).port.changes.enable ≡ true)
    refused refused refused (λ v. refused) (λ v t. refused) (λ v h. refl) (λ v. refused) (λ v t. refused) p.state
  where
    refused : {A : Type 0} → ◌≡◌ {A = ℕ} 8 0 → A
    refused e = absurd (omega (arith, e))

error_number : (e : LineEvent) → is_error e ≡ eqb (event_number e) (event_number PortError)
error_number AttachLow = refl
error_number AttachFull = refl
error_number Detach = refl
error_number Chirp = refl
error_number Wake = refl
error_number PortError = refl
error_number OverCurrentOn = refl
error_number OverCurrentOff = refl

-- GetPortStatus shows the bit
status_shows : (p : Port) → enable_shown (status_bytes p) ≡ p.changes.enable
status_shows p = ap (λ (l : List Bool). get_or l 1 false) (bits_back (change_low p.changes))

-- ---- what a request that is served asks

abbrev bit_asks : ℕ → ChangeBit → PortAsks
bit_asks n bit.Connection = nothing
bit_asks n bit.Enable = clears n
bit_asks n bit.Suspend = nothing
bit_asks n bit.OverCurrent = nothing
bit_asks n bit.Reset = nothing

abbrev clear_asks : ℕ → ClearableFeature → PortAsks
clear_asks n clearable.Enable = nothing
clear_asks n clearable.Suspend = nothing
clear_asks n clearable.Power = nothing
clear_asks n (clearable.Change b) = bit_asks n b

abbrev AsksFor : Result Request Fault → PortAsks → Type 0
AsksFor (Err f) x = Unit {0}
AsksFor (Ok (SetConfiguration on)) x = x ≡ nothing
AsksFor (Ok GetConfiguration) x = x ≡ nothing
AsksFor (Ok (GetHubDescriptor n)) x = x ≡ nothing
AsksFor (Ok GetHubStatus) x = x ≡ nothing
AsksFor (Ok (GetPortStatus n)) x = x ≡ reads n.0
AsksFor (Ok ClearHubFeature) x = x ≡ nothing
AsksFor (Ok (ClearPortFeature n f)) x = x ≡ clear_asks n.0 f
AsksFor (Ok (SetPortFeature n f)) x = x ≡ nothing
AsksFor (Ok (ClearTTBuffer k)) x = x ≡ nothing
AsksFor (Ok ResetTT) x = x ≡ nothing

clear_asks_lem : (n : ℕ) (f : ClearableFeature) → request_asks (Some kind.ClearPortFeature) (clearable_number f) n ≡ clear_asks n f
clear_asks_lem n clearable.Enable = refl
clear_asks_lem n clearable.Suspend = refl
clear_asks_lem n clearable.Power = refl
clear_asks_lem n (clearable.Change bit.Connection) = refl
clear_asks_lem n (clearable.Change bit.Enable) = refl
clear_asks_lem n (clearable.Change bit.Suspend) = refl
clear_asks_lem n (clearable.Change bit.OverCurrent) = refl
clear_asks_lem n (clearable.Change bit.Reset) = refl

meaning-asks : (k : Kind) (v i l : ℕ) → value_fits k v ≡ true → AsksFor (Ok (meaning k v i l)) (request_asks (Some k) v i)
meaning-asks kind.SetConfiguration v i l x = refl
meaning-asks kind.GetConfiguration v i l x = refl
meaning-asks kind.GetHubDescriptor v i l x = refl
meaning-asks kind.GetHubStatus v i l x = refl
meaning-asks kind.GetPortStatus v i l x = refl
meaning-asks kind.ClearHubFeature v i l x = refl
meaning-asks kind.ClearPortFeature v i l x = ap (λ (w : ℕ). request_asks (Some kind.ClearPortFeature) w i) (clearable_back v x) ∙ clear_asks_lem i (clearable_of v)
meaning-asks kind.SetPortFeature v i l x = refl
meaning-asks kind.ClearTTBuffer v i l x = refl
meaning-asks kind.ResetTT v i l x = refl

request_asks_lem : (n z : ℕ) (s : List ℕ) (room : ℕ) → AsksFor (request_of n s) (port_asks (Control z s room))
unfolding port_asks request_of
request_asks_lem n z s room =
    let x = setup_of s in
    let k = kind_of x.requesttype x.code in
    checks (λ r. AsksFor r (request_asks k x.value x.index)) n k x.value x.index x.length (λ f. tt)
    (λ q e v i l. subst (λ (r : Option Kind). AsksFor (Ok (meaning q x.value x.index x.length)) (request_asks r x.value x.index)) (sym e) (meaning-asks q x.value x.index x.length v))

-- ---- one call

abbrev report_of : Hub → PortNumber → Bool
report_of h m = (port_at h.ports m).changes.enable

module _ (h : Hub) (v : ValidHub h) (m : PortNumber) (among : Among h.identity.ports m) where
  -- what a call leaves of the bit of port m is what the history says of it
  abbrev Says : PortAsks → Outcome → Type 0
  Says x o = report_of o.next m ≡ reported_after x o.answer m.0 (report_of h m)

  most : h.identity.ports ≤ 7
  most = (fits h.identity.ports h.translator.count h.identity.powergood h.identity.current h.identity.removable v.numbers).ports_most

  refusal : (x : PortAsks) (n : ℕ) → eqb n 0 ≡ false → Says x (refuse n h)
  unfolding reported_after
  refusal nothing n e = refl
  refusal (errs k) n e = rw e
  refusal (clears k) n e = rw e
  refusal clears_all n e = rw e
  refusal (reads k) n e = refl

  as_asked : (x y : PortAsks) (o : Outcome) → x ≡ y → Says y o → Says x o
  as_asked x y o e s = subst (λ (z : PortAsks). Says z o) (sym e) s

  quiet : (x : PortAsks) (o : Outcome) → x ≡ nothing → report_of o.next m ≡ report_of h m → Says x o
  unfolding reported_after
  quiet x o e k = as_asked x nothing o e k

  swept_kept : (w : Sweep) → ((p : Port) → (swept_by w p).changes.enable ≡ p.changes.enable)
      → (port_at (swept w h.identity.ports h.ports) m).changes.enable ≡ report_of h m
  swept_kept w k =
      ap (λ (p : Port). p.changes.enable) (ports_claims_lem.sweep_steps w h.identity.ports h.ports m v.seven most among)
      ∙ k (port_at h.ports m)

  -- after an input to port n, the bit of port m is what the history says
  abbrev Reports : PortAsks → Answer → Input → PortNumber → Type 0
  Reports x a i n = (port_at (with_port h.ports n (after (port_at h.ports n) i)) m).changes.enable ≡ reported_after x a m.0 (report_of h m)

  -- the same of the input alone: enough where it is port m ..
  abbrev Moved : PortAsks → Answer → Input → PortNumber → Type 0
  Moved x a i n = (after (port_at h.ports n) i).changes.enable ≡ reported_after x a m.0 (report_of h n)

  moved_here : (x : PortAsks) (a : Answer) (i : Input) → Moved x a i m → Reports x a i m
  moved_here x a i e =
      ap (λ (p : Port). p.changes.enable)
      (ports_claims_lem.set_read h.ports m (after (port_at h.ports m) i) v.seven (among.0, omega (arith, among.1, most)))
      ∙ e

  -- .. and where it is another
  moved_there : (x : PortAsks) (a : Answer) (i : Input) (n : PortNumber) → eqb n.0 m.0 ≡ false
      → report_of h m ≡ reported_after x a m.0 (report_of h m) → Reports x a i n
  moved_there x a i n e k =
      ap (λ (p : Port). p.changes.enable)
      (ports_claims_lem.others_kept h.ports n m (after (port_at h.ports n) i) (λ d. eqb-false n.0 m.0 e (sym d)))
      ∙ k

  set_report : (x : PortAsks) (a : Answer) (n : PortNumber) (i : Input) → (eqb n.0 m.0 ≡ true → Moved x a i n)
      → (eqb n.0 m.0 ≡ false → report_of h m ≡ reported_after x a m.0 (report_of h m)) → Reports x a i n
  set_report x a n i same other = go (eqb n.0 m.0) refl
    where
      number : eqb n.0 m.0 ≡ true → m ≡ n
      number e = ap (λ (k : ℕ). record { 0 = k }) (sym (eqb-true n.0 m.0 e))

      go : (b : Bool) → eqb n.0 m.0 ≡ b → Reports x a i n
      go true e = subst (Reports x a i) (number e) (moved_here x a i (subst (Moved x a i) (sym (number e)) (same e)))
      go false e = moved_there x a i n e (other e)

  -- one that keeps the bit
  kept_report : (n : PortNumber) (i : Input) → keeps i ≡ true → Reports nothing (plain_answer 0) i n
  unfolding reported_after
  kept_report n i k = set_report nothing (plain_answer 0) n i (λ e. enable_kept (port_at h.ports n) i k) (λ e. refl)

  -- ---- the requests

  clear_report : (y : Lane) (n : PortNumber) (f : ClearableFeature) → Says (clear_asks n.0 f) (by_request h y (Ok (ClearPortFeature n f)))
  unfolding reported_after
  clear_report y n clearable.Enable = kept_report n (input.ClearFeature clearable.Enable) refl
  clear_report y n clearable.Suspend = kept_report n (input.ClearFeature clearable.Suspend) refl
  clear_report y n clearable.Power = kept_report n (input.ClearFeature clearable.Power) refl
  clear_report y n (clearable.Change bit.Connection) = kept_report n (input.ClearFeature (clearable.Change bit.Connection)) refl
  clear_report y n (clearable.Change bit.Enable) =
      set_report (clears n.0) (plain_answer 0) n (input.ClearFeature (clearable.Change bit.Enable)) (λ e. rw e) (λ e. rw e)
  clear_report y n (clearable.Change bit.Suspend) = kept_report n (input.ClearFeature (clearable.Change bit.Suspend)) refl
  clear_report y n (clearable.Change bit.OverCurrent) = kept_report n (input.ClearFeature (clearable.Change bit.OverCurrent)) refl
  clear_report y n (clearable.Change bit.Reset) = kept_report n (input.ClearFeature (clearable.Change bit.Reset)) refl

  by_request_lem : (x : PortAsks) (y : Lane) (r : Result Request Fault) → AsksFor r x → Says x (by_request h y r)
  unfolding configured_as reported_after
  by_request_lem x y (Err f) q = refusal x 2 refl
  by_request_lem x y (Ok (SetConfiguration true)) q = quiet x (by_request h y (Ok (SetConfiguration true))) q (swept_kept sweep.Configure (λ p. refl))
  by_request_lem x y (Ok (SetConfiguration false)) q = quiet x (by_request h y (Ok (SetConfiguration false))) q (swept_kept sweep.Unconfigure (λ p. refl))
  by_request_lem x y (Ok GetConfiguration) q = quiet x (by_request h y (Ok GetConfiguration)) q refl
  by_request_lem x y (Ok (GetHubDescriptor n)) q = quiet x (by_request h y (Ok (GetHubDescriptor n))) q refl
  by_request_lem x y (Ok GetHubStatus) q = quiet x (by_request h y (Ok GetHubStatus)) q refl
  by_request_lem x y (Ok (GetPortStatus n)) q = as_asked x (reads n.0) (by_request h y (Ok (GetPortStatus n))) q refl
  by_request_lem x y (Ok ClearHubFeature) q = quiet x (by_request h y (Ok ClearHubFeature)) q refl
  by_request_lem x y (Ok (ClearPortFeature n f)) q = as_asked x (clear_asks n.0 f) (by_request h y (Ok (ClearPortFeature n f))) q (clear_report y n f)
  by_request_lem x y (Ok (SetPortFeature n f)) q = quiet x (by_request h y (Ok (SetPortFeature n f))) q (kept_report n (input.SetFeature f) refl)
  by_request_lem x y (Ok (ClearTTBuffer k)) q = quiet x (by_request h y (Ok (ClearTTBuffer k))) q refl
  by_request_lem x y (Ok ResetTT) q = quiet x (by_request h y (Ok ResetTT)) q refl

  control : (z : ℕ) (s : List ℕ) (room : ℕ) → Says (port_asks (Control z s room)) (requested h (lane_from z) (request_of h.identity.ports s))
  unfolding requested
  control z s room = go (h.configured || served_always r)
    where
      r : Result Request Fault
      r = request_of h.identity.ports s

      go : (x : Bool) → Says (port_asks (Control z s room)) (cond x (by_request h (lane_from z) r) (refuse 2 h))
      go true = by_request_lem (port_asks (Control z s room)) (lane_from z) r (request_asks_lem h.identity.ports z s room)
      go false = refusal (port_asks (Control z s room)) 2 refl

  -- ---- the other calls

  line : (e n : ℕ) → is_event e ≡ true → (line_event (port_at h.ports (record { 0 = n })) (event_from e)).number ≡ 0
      → Says (cond (eqb e (event_number PortError)) (errs n) nothing) (served h (Line e n))
  unfolding served reported_after
  line e n named zero = go (eqb e (event_number PortError)) refl
    where
      k : PortNumber
      k = record { 0 = n }

      error : eqb e (event_number PortError) ≡ true → event_from e ≡ PortError
      error q = ap event_from (eqb-true e (event_number PortError) q)

      other : eqb e (event_number PortError) ≡ false → not (is_error (event_from e)) ≡ true
      other q = ap not (error_number (event_from e) ∙ ap (λ (x : ℕ). eqb x (event_number PortError)) (numbers_claims_lem.events.number_back e named) ∙ q)

      sets : event_from e ≡ PortError → (line_event (port_at h.ports k) (event_from e)).port.changes.enable ≡ true
      sets q =
          subst (λ (x : LineEvent). (line_event (port_at h.ports k) x).port.changes.enable ≡ true) (sym q)
          (error_sets (port_at h.ports k) (subst (λ (x : LineEvent). (line_event (port_at h.ports k) x).number ≡ 0) q zero))

      go : (b : Bool) → eqb e (event_number PortError) ≡ b → Says (cond b (errs n) nothing) (served h (Line e n))
      go true q =
          set_report (errs n) (plain_answer (line_event (port_at h.ports k) (event_from e)).number) k (input.Event (event_from e))
          (λ s. rw (sets (error q), zero, s)) (λ s. rw (zero, s))
      go false q = kept_report k (input.Event (event_from e)) (other q)

  poll : Says nothing (polled h)
  unfolding polled reported_after
  poll =
      let b = bitmap_of h.identity.ports h.ports in
      elim (eqb b 0) as (λ x. Says nothing (cond x (refuse 3 h) (gives h (b ∷ [])))) [
        | true ↦ refl
        | false ↦ refl
      ]

  ticks : Says nothing (done (ticked_hub h))
  unfolding ticked_hub reported_after
  ticks =
      elim h.configured as (λ x. Says nothing (done (cond x (with_ports h (swept sweep.Tick h.identity.ports h.ports)) h))) [
        | true ↦ swept_kept sweep.Tick (λ p. enable_kept p input.Tick refl)
        | false ↦ refl
      ]

  serve : (c : Call) → within h c ≡ true → fitting h c ≡ true → Says (port_asks c) (served h c)
  unfolding served within port_asks reset_hub reported_after
  serve (Control z s room) w f = control z s room
  serve (Poll z room) w f = poll
  serve (Start z p t l g a e b) w f = refl
  serve (Complete z a e d room) w f =
      let o = complete_split h.translator (key_from z a e d) in
      ap (λ (k : Hub). report_of k m) (completed-next (with_translator h o.next) o.answer o.payload)
  serve (Launch room) w f =
      let o = launch h.translator in
      ap (λ (k : Hub). report_of k m) (launched-next (with_translator h o.next) o.answer o.payload)
  serve (Deliver r b) w f = refl
  serve (Line e n) w f = line e n (left (is_event e) (port_named h.identity.ports n) w) (event_done h e n f)
  serve Tick w f = ticks
  serve BusReset w f = ap (λ (p : Port). p.changes.enable) (ports_claims_lem.new_at m)

  pub step_says : (c : Call) → Says (port_asks c) (step h c)
  step_says c =
      by_checks h c (Says (port_asks c)) (refusal (port_asks c) 6 refl) (refusal (port_asks c) 7 refl) (refusal (port_asks c) 5 refl)
      (refusal (port_asks c) 8 refl) (serve c)

-- ---- what a call shows

-- every port's bit is what the history reports
abbrev Tied : History → Hub → Type 0
Tied g h = (m : PortNumber) → Among h.identity.ports m → report_of h m ≡ is_reported g m.0

module _ (g : History) (h : Hub) (tied : Tied g h) where
  not_data : (x : PortAsks) (a : Answer) → eqb a.number 1 ≡ false → Shows x a g
  not_data nothing a e = tt
  not_data (errs n) a e = tt
  not_data (clears n) a e = tt
  not_data clears_all a e = tt
  not_data (reads n) a e = λ q. absurd (eqb-false a.number 1 e q)

  unread : (x : PortAsks) (a : Answer) → x ≡ nothing → Shows x a g
  unread x a e = subst (λ (z : PortAsks). Shows z a g) (sym e) tt

  request_shows : (x : PortAsks) (y : Lane) (r : Result Request Fault) → AsksFor r x → ((q : Request) → r ≡ Ok q → InRange h.identity.ports q) → Shows x (by_request h y r).answer g
  request_shows x y (Err f) q i = not_data x _ refl
  request_shows x y (Ok (SetConfiguration on)) q i = unread x _ q
  request_shows x y (Ok GetConfiguration) q i = unread x _ q
  request_shows x y (Ok (GetHubDescriptor n)) q i = unread x _ q
  request_shows x y (Ok GetHubStatus) q i = unread x _ q
  request_shows x y (Ok (GetPortStatus n)) q i =
      subst (λ (z : PortAsks). Shows z (by_request h y (Ok (GetPortStatus n))).answer g) (sym q) (λ one. status_shows (port_at h.ports n) ∙ tied n (i _ refl))
  request_shows x y (Ok ClearHubFeature) q i = unread x _ q
  request_shows x y (Ok (ClearPortFeature n f)) q i = not_data x _ refl
  request_shows x y (Ok (SetPortFeature n f)) q i = unread x _ q
  request_shows x y (Ok (ClearTTBuffer k)) q i = unread x _ q
  request_shows x y (Ok ResetTT) q i = unread x _ q

  control_shows : (z : ℕ) (s : List ℕ) (room : ℕ) → Shows (port_asks (Control z s room)) (requested h (lane_from z) (request_of h.identity.ports s)).answer g
  unfolding requested
  control_shows z s room =
      let n = h.identity.ports in
      let r = request_of n s in
      elim (h.configured || served_always r) as (λ b. Shows (port_asks (Control z s room)) (cond b (by_request h (lane_from z) r) (refuse 2 h)).answer g) [
        | true ↦ request_shows (port_asks (Control z s room)) (lane_from z) r (request_asks_lem n z s room) (request_claims_lem.in_range n s)
        | false ↦ not_data (port_asks (Control z s room)) (plain_answer 2) refl
      ]

  line_shows : (e n : ℕ) (a : Answer) → Shows (cond (eqb e (event_number PortError)) (errs n) nothing) a g
  line_shows e n a =
      elim (eqb e (event_number PortError)) as (λ b. Shows (cond b (errs n) nothing) a g) [
        | true ↦ tt
        | false ↦ tt
      ]

  serve_shows : (c : Call) → Shows (port_asks c) (served h c).answer g
  unfolding served port_asks
  serve_shows (Control z s room) = control_shows z s room
  serve_shows (Poll z room) = tt
  serve_shows (Start z p t l f a e b) = tt
  serve_shows (Complete z a e d room) = tt
  serve_shows (Launch room) = tt
  serve_shows (Deliver r b) = tt
  serve_shows (Line e n) = line_shows e n _
  serve_shows Tick = tt
  serve_shows BusReset = tt

  pub step_shows : (c : Call) → Shows (port_asks c) (step h c).answer g
  step_shows c =
      by_checks h c (λ o. Shows (port_asks c) o.answer g) (not_data (port_asks c) (plain_answer 6) refl) (not_data (port_asks c) (plain_answer 7) refl)
      (not_data (port_asks c) (plain_answer 5) refl) (not_data (port_asks c) (plain_answer 8) refl) (λ w f. serve_shows c)

-- ---- whole runs

step_tied : (g : History) (h : Hub) → ValidHub h → Tied g h → (c : Call) → Tied (ev c (step h c).answer ∷ g) (step h c).next
unfolding is_reported
step_tied g h v tied c m among =
    let here = subst (λ (i : Identity). Among i.ports m) (hub_claims_lem.identity_kept h c) among in
    step_says h v m here c ∙ ap (reported_after (port_asks c) (step h c).answer m.0) (tied m here)

all_show : (cs : List Call) (g : History) (h : Hub) → ValidHub h → Tied g h → AllShow g (run_from rules h cs)
unfolding run_from AllShow
all_show [] g h v tied = tt
all_show (c ∷ cs) g h v tied =
    (step_shows g h tied c, all_show cs (ev c (step h c).answer ∷ g) (step h c).next (step_valid h v c) (step_tied g h v tied c))

pub error_reports : ErrorReports rules
unfolding is_reported
error_reports n cs =
    all_show cs [] (new_hub_of n) (new_valid n.ports n.buffers n.powergood n.current n.removable n.fit)
    (λ m among. ap (λ (p : Port). p.changes.enable) (ports_claims_lem.new_at m))
