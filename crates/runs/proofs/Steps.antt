-- Every call on the hub keeps the translator tied to the history. Assumes nothing.
use Prim.Native.Nat.{ℕ, ◌<◌, ◌%◌}
use native.Mathlib.Omega.{arith}
use mathlib.Core.Path.{◌≡◌, refl, sym, ap, subst}
use mathlib.Core.List.{List, [], ◌∷◌}
use mathlib.Core.Bool.{Bool, true, false, cond, ◌&&◌, ◌||◌, and-eq-true_iff}
use borrow.Author.Tests.{ltb-true}
use lib.Dec.{eqb, ltb}
use lib.ListN.{length}
use Rattle.buffer.specs.declared.Lane.{Lane}
use Rattle.buffer.specs.Key as key
use Rattle.buffer.specs.Lengths.{start_fits, result_length}
use Rattle.ports.specs.declared.Sweep.TheVariants.{Tick as Tick'}
use Rattle.ports.specs.Sweep.{swept}
use Rattle.ports.specs.Bitmap.{bitmap_of}
use Rattle.translator.specs.CompleteSplit.{complete_split}
use Rattle.translator.specs.Launch.{launch}
use Rattle.numbers.specs.Named.{is_lane, lane_from, pid_from, is_pid, is_type, is_flag, is_result, result_from, is_direction, direction_from}
use Rattle.numbers.specs.Split.{split_named, split_from, key_named, key_from}
use Rattle.std.specs.Prelude.{Option, Some, None}
use Rattle.request.specs.declared.Kind.{Kind}
use Rattle.request.specs.declared.Kind.TheVariants as kind
use Rattle.request.specs.declared.Fault.TheVariants.{Value, Index, Length}
use Rattle.std.specs.Prelude.{Result, Ok, Err}
use Rattle.request.specs.declared.Fault.{Fault}
use Rattle.request.specs.declared.Request.{Request}
use Rattle.request.specs.declared.Request.TheVariants.{SetConfiguration, GetConfiguration, GetHubDescriptor, GetHubStatus, GetPortStatus, ClearHubFeature, ClearPortFeature, SetPortFeature, ClearTTBuffer, ResetTT}
use Rattle.request.specs.Setup.{setup_of}
use Rattle.request.specs.Table.{kind_of, value_fits, index_fits, length_fits}
use Rattle.request.specs.Request.{meaning, checked, request_of}
use Rattle.hub.specs.declared.Hub.{Hub}
use Rattle.hub.specs.Hub.{with_ports, with_translator, configured_as, reset_hub, ticked_hub}
use Rattle.hub.specs.Call.{Call, Control, Poll, Start, Complete, Launch, Deliver, Event as Line, Tick, BusReset, Outcome, plain_answer, done, refuse, gives}
use Rattle.hub.specs.Requests.{keyed, by_request, served_always, requested}
use Rattle.hub.specs.Rules.{polled, completed_by, launched_by}
use Rattle.hub.specs.Checks.{within}
use Rattle.hub.specs.Step.{served, step}
use Rattle.hub.proofs.Order.{by_checks}
use Rattle.hub.proofs.Valid.{completed-next, launched-next}
use Rattle.runs.specs.History.{History, Asks, nothing, starts, completes, clears, resets, empties, key_of, request_asks, asks}
use Rattle.runs.proofs.Histories.{Refused}
use Rattle.runs.proofs.Kept.{Tied, Kept, refused_kept, nothing_kept, start_kept, complete_kept, launch_said_lem, deliver_kept, clear_said, reset_said, empty_said}

-- ---- the key of a call whose numbers are within the rules

pub start_key : (z p t f g a e : ℕ) → split_named z p t f g a e ≡ true → key_of (lane_from z) a e (key.direction_of (pid_from p)) ≡ key.key_of (split_from z p t f g a e)
unfolding split_named split_from
start_key z p t f g a e named =
    let w = (and-eq-true_iff (is_lane z) ((is_pid p && is_type t) && ((is_flag f && is_flag g) && (ltb a 128 && ltb e 16)))).0 named in
    let x = (and-eq-true_iff (is_pid p && is_type t) ((is_flag f && is_flag g) && (ltb a 128 && ltb e 16))).0 w.1 in
    let y = (and-eq-true_iff (is_flag f && is_flag g) (ltb a 128 && ltb e 16)).0 x.1 in
    let ds = (and-eq-true_iff (ltb a 128) (ltb e 16)).0 y.1 in
    let u : a < 128 = ltb-true a 128 ds.0 in
    let v : e < 16 = ltb-true e 16 ds.1 in
    let am : a ≡ a % 128 = omega (arith, u) in
    let em : e ≡ e % 16 = omega (arith, v) in
    λ i. record { lane = lane_from z; address = record { 0 = am i }; endpoint = em i; direction = key.direction_of (pid_from p) }

pub complete-key : (z a e d : ℕ) → key_named z a e d ≡ true → key_of (lane_from z) a e (direction_from d) ≡ key_from z a e d
unfolding key_named key_from
complete-key z a e d named =
    let w = (and-eq-true_iff (is_lane z) ((ltb a 128 && ltb e 16) && is_direction d)).0 named in
    let x = (and-eq-true_iff (ltb a 128 && ltb e 16) (is_direction d)).0 w.1 in
    let ds = (and-eq-true_iff (ltb a 128) (ltb e 16)).0 x.0 in
    let u : a < 128 = ltb-true a 128 ds.0 in
    let v : e < 16 = ltb-true e 16 ds.1 in
    let am : a ≡ a % 128 = omega (arith, u) in
    let em : e ≡ e % 16 = omega (arith, v) in
    λ i. record { lane = lane_from z; address = record { 0 = am i }; endpoint = em i; direction = direction_from d }

-- ---- what a request that is served asks of the translator

abbrev pub AsksFor : Lane → Result Request Fault → Asks → Type 0
AsksFor y (Err f) x = Unit {0}
AsksFor y (Ok (SetConfiguration on)) x = x ≡ empties
AsksFor y (Ok GetConfiguration) x = x ≡ nothing
AsksFor y (Ok (GetHubDescriptor n)) x = x ≡ nothing
AsksFor y (Ok GetHubStatus) x = x ≡ nothing
AsksFor y (Ok (GetPortStatus n)) x = x ≡ nothing
AsksFor y (Ok ClearHubFeature) x = x ≡ nothing
AsksFor y (Ok (ClearPortFeature n f)) x = x ≡ nothing
AsksFor y (Ok (SetPortFeature n f)) x = x ≡ nothing
AsksFor y (Ok (ClearTTBuffer k)) x = x ≡ clears (keyed y k)
AsksFor y (Ok ResetTT) x = x ≡ resets y

meaning-asks : (y : Lane) (k : Kind) (v i l : ℕ) → AsksFor y (Ok (meaning k v i l)) (request_asks y (Some k) v)
meaning-asks y kind.SetConfiguration v i l = refl
meaning-asks y kind.GetConfiguration v i l = refl
meaning-asks y kind.GetHubDescriptor v i l = refl
meaning-asks y kind.GetHubStatus v i l = refl
meaning-asks y kind.GetPortStatus v i l = refl
meaning-asks y kind.ClearHubFeature v i l = refl
meaning-asks y kind.ClearPortFeature v i l = refl
meaning-asks y kind.SetPortFeature v i l = refl
meaning-asks y kind.ClearTTBuffer v i l = refl
meaning-asks y kind.ResetTT v i l = refl

pub request_asks_lem : (n z : ℕ) (s : List ℕ) (room : ℕ) → AsksFor (lane_from z) (request_of n s) (asks (Control z s room))
unfolding asks request_of checked
request_asks_lem n z s room =
    go (kind_of (setup_of s).requesttype (setup_of s).code)
  where
    v : ℕ
    v = (setup_of s).value

    i : ℕ
    i = (setup_of s).index

    l : ℕ
    l = (setup_of s).length

    fields : (k : Kind) (b c d : Bool) → AsksFor (lane_from z) (cond b (cond c (cond d (Ok (meaning k v i l)) (Err Length)) (Err Index)) (Err Value)) (request_asks (lane_from z) (Some k) v)
    fields k true true true = meaning-asks (lane_from z) k v i l
    fields k true true false = tt
    fields k true false d = tt
    fields k false c d = tt

    go : (k : Option Kind) → AsksFor (lane_from z) (checked n k v i l) (request_asks (lane_from z) k v)
    go None = tt
    go (Some k) = fields k (value_fits k v) (index_fits n k i) (length_fits k l)

-- ---- one call

module _ (h : History) (hub : Hub) (tied : Tied h hub.translator) where
  abbrev KeptBy : Call → Outcome → Type 0
  KeptBy c o = Kept h c o.next.translator o.answer

  refusal : (c : Call) (n : ℕ) → Refused (plain_answer n) → KeptBy c (refuse n hub)
  refusal c n r = refused_kept h hub.translator tied c (plain_answer n) r

  by_request_lem : (c : Call) (y : Lane) (r : Result Request Fault) → AsksFor y r (asks c) → KeptBy c (by_request hub y r)
  unfolding configured_as
  by_request_lem c y (Err f) q = refusal c 2 (record { not_0 = refl; not_1 = refl; not_9 = refl })
  by_request_lem c y (Ok (SetConfiguration on)) q = empty_said h hub.translator tied c q
  by_request_lem c y (Ok GetConfiguration) q = nothing_kept h hub.translator tied c _ q
  by_request_lem c y (Ok (GetHubDescriptor n)) q = nothing_kept h hub.translator tied c _ q
  by_request_lem c y (Ok GetHubStatus) q = nothing_kept h hub.translator tied c _ q
  by_request_lem c y (Ok (GetPortStatus n)) q = nothing_kept h hub.translator tied c _ q
  by_request_lem c y (Ok ClearHubFeature) q = nothing_kept h hub.translator tied c _ q
  by_request_lem c y (Ok (ClearPortFeature n f)) q = nothing_kept h hub.translator tied c _ q
  by_request_lem c y (Ok (SetPortFeature n f)) q = nothing_kept h hub.translator tied c _ q
  by_request_lem c y (Ok (ClearTTBuffer k)) q = clear_said h hub.translator tied c (keyed y k) q
  by_request_lem c y (Ok ResetTT) q = reset_said h hub.translator tied c y q

  control : (z : ℕ) (s : List ℕ) (room : ℕ) → KeptBy (Control z s room) (requested hub (lane_from z) (request_of hub.identity.ports s))
  unfolding requested
  control z s room = go (hub.configured || served_always r)
    where
      r : Result Request Fault
      r = request_of hub.identity.ports s

      go : (x : Bool) → KeptBy (Control z s room) (cond x (by_request hub (lane_from z) r) (refuse 2 hub))
      go true = by_request_lem (Control z s room) (lane_from z) r (request_asks_lem hub.identity.ports z s room)
      go false = refusal (Control z s room) 2 (record { not_0 = refl; not_1 = refl; not_9 = refl })

  poll : (z room : ℕ) → KeptBy (Poll z room) (polled hub)
  unfolding polled asks
  poll z room = go (eqb (bitmap_of hub.identity.ports hub.ports) 0)
    where
      go : (x : Bool) → KeptBy (Poll z room) (cond x (refuse 3 hub) (gives hub (bitmap_of hub.identity.ports hub.ports ∷ [])))
      go true = nothing_kept h hub.translator tied (Poll z room) _ refl
      go false = nothing_kept h hub.translator tied (Poll z room) _ refl

  tick : KeptBy Tick (done (ticked_hub hub))
  unfolding ticked_hub asks
  tick = go hub.configured
    where
      go : (x : Bool) → KeptBy Tick (done (cond x (with_ports hub (swept Tick' hub.identity.ports hub.ports)) hub))
      go true = nothing_kept h hub.translator tied Tick _ refl
      go false = nothing_kept h hub.translator tied Tick _ refl

  serve : (c : Call) → within hub c ≡ true → KeptBy c (served hub c)
  unfolding served within asks reset_hub
  serve (Control z s room) w = control z s room
  serve (Poll z room) w = poll z room
  serve (Start z p t f g a e l) w =
      let x = (and-eq-true_iff (split_named z p t f g a e) (start_fits (split_from z p t f g a e) (length l))).0 w in
      start_kept h hub.translator tied (Start z p t f g a e l) (split_from z p t f g a e) l (ap starts (start_key z p t f g a e x.0)) x.1
  serve (Complete z a e d room) w =
      let o = complete_split hub.translator (key_from z a e d) in
      let next = with_translator hub o.next in
      subst (λ (u : Hub). Kept h (Complete z a e d room) u.translator (completed_by next o.answer o.payload).answer) (sym (completed-next next o.answer o.payload))
      (complete_kept h hub.translator tied next (Complete z a e d room) (key_from z a e d) (ap completes (complete-key z a e d w)))
  serve (Launch room) w =
      let o = launch hub.translator in
      let next = with_translator hub o.next in
      subst (λ (u : Hub). Kept h (Launch room) u.translator (launched_by next o.answer o.payload).answer) (sym (launched-next next o.answer o.payload))
      (launch_said_lem h hub.translator tied next (Launch room) refl)
  serve (Deliver r l) w = deliver_kept h hub.translator tied (Deliver r l) (result_from r) l refl ((and-eq-true_iff (is_result r) (result_length (result_from r) (length l))).0 w).1
  serve (Line e n) w = nothing_kept h hub.translator tied (Line e n) _ refl
  serve Tick w = tick
  serve BusReset w = empty_said h hub.translator tied BusReset refl

  pub step_kept : (c : Call) → KeptBy c (step hub c)
  step_kept c =
      by_checks hub c (KeptBy c) (refusal c 6 (record { not_0 = refl; not_1 = refl; not_9 = refl }))
      (refusal c 7 (record { not_0 = refl; not_1 = refl; not_9 = refl }))
      (refusal c 5 (record { not_0 = refl; not_1 = refl; not_9 = refl }))
      (refusal c 8 (record { not_0 = refl; not_1 = refl; not_9 = refl }))
      (λ w f. serve c w)
