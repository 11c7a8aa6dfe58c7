-- Only data has bytes, at most 64 of them. Assumes nothing.
use Prim.Native.Nat.{ℕ}
use Prim.Native.Nat.{◌≤◌}
use mathlib.Core.Path.{◌≡◌, refl}
use mathlib.Core.Bool.{Bool, true, false, cond, ◌||◌, true≢false}
use mathlib.Core.List.{[], ◌∷◌}
use native.Mathlib.Omega.{arith}
use lib.Dec.{eqb}
use lib.ListN.{length, take, length-take}
use borrow.Author.Tests.{ne_eqb}
use Rattle.payload.specs.declared.Payload.{Payload}
use Rattle.payload.specs.Payload.{content, no_payload}
use Rattle.ports.specs.Bitmap.{bitmap_of}
use Rattle.buffer.specs.declared.Key.{Key}
use Rattle.buffer.specs.declared.Slot.{Slot}
use Rattle.buffer.specs.declared.Slot.TheVariants.{Empty, Pending, Ready, Old}
use Rattle.buffer.specs.declared.Buffer.{Buffer}
use Rattle.buffer.specs.declared.BufferNumber.{BufferNumber}
use Rattle.buffer.specs.Buffer.{holds}
use Rattle.buffer.specs.Lengths.{is_data}
use Rattle.buffer.specs.Valid.{Whole}
use Rattle.buffer.specs.declared.StartSplit.{StartSplit}
use Rattle.translator.specs.declared.NotLaunched.{NotLaunched}
use Rattle.translator.specs.declared.LowSide.{LowSide}
use Rattle.translator.specs.declared.LowSide.TheVariants.{Idle, Running, Abandoned}
use Rattle.buffer.specs.declared.Lane.{Lane}
use Rattle.translator.specs.declared.Translator.{Translator}
use Rattle.translator.specs.declared.NotLaunched.TheVariants.{NothingPending, Occupied}
use Rattle.translator.specs.Translator.{at}
use Rattle.translator.specs.Search.{find}
use Rattle.translator.specs.Order.{earliest}
use Rattle.translator.specs.CompleteSplit.{completed, complete_at, complete_split}
use Rattle.translator.specs.Launch.{launched, launch_at, launch_by, launch}
use Rattle.translator.specs.Valid.{ValidTranslator}
use Rattle.translator.proofs.Kept.{slot_le}
use Rattle.std.specs.Prelude.{Result, Ok, Err, None, Option, Some}
use Rattle.request.specs.declared.Fault.{Fault}
use Rattle.request.specs.declared.Request.{Request}
use Rattle.request.specs.declared.Request.TheVariants.{SetConfiguration, GetConfiguration, GetHubDescriptor, GetHubStatus, GetPortStatus, ClearHubFeature, ClearPortFeature, SetPortFeature, ClearTTBuffer, ResetTT}
use Rattle.request.specs.Request.{request_of}
use Rattle.numbers.specs.Named.{lane_from}
use Rattle.numbers.specs.Split.{key_from}
use Rattle.hub.specs.declared.Hub.{Hub}
use Rattle.hub.specs.Hub.{with_translator}
use Rattle.hub.specs.Call.{Call, Control, Poll, Start, Complete, Launch, Deliver, Event, Tick, BusReset, Outcome, refuse, gives}
use Rattle.hub.specs.Requests.{descriptor, by_request, served_always, requested}
use Rattle.hub.specs.Rules.{polled, completed_as, launched_by, launched_as}
use Rattle.hub.specs.Step.{served, step}
use Rattle.hub.specs.Valid.{ValidHub}
use Rattle.hub.proofs.Order.{by_step}

-- ---- answers other than data have no bytes

abbrev OnlyData : Outcome → Type 0
OnlyData o = eqb o.answer.number 1 ≡ false → o.answer.bytes ≡ []

module _ (h : Hub) where
  request_only : (y : Lane) (r : Result Request Fault) → OnlyData (by_request h y r)
  request_only y (Err f) e = refl
  request_only y (Ok (SetConfiguration on)) e = refl
  request_only y (Ok GetConfiguration) e = absurd (true≢false e)
  request_only y (Ok (GetHubDescriptor n)) e = absurd (true≢false e)
  request_only y (Ok GetHubStatus) e = absurd (true≢false e)
  request_only y (Ok (GetPortStatus n)) e = absurd (true≢false e)
  request_only y (Ok ClearHubFeature) e = refl
  request_only y (Ok (ClearPortFeature n f)) e = refl
  request_only y (Ok (SetPortFeature n f)) e = refl
  request_only y (Ok (ClearTTBuffer k)) e = refl
  request_only y (Ok ResetTT) e = refl

  requested_only : (y : Lane) (r : Result Request Fault) → OnlyData (requested h y r)
  unfolding requested
  requested_only y r =
      elim (h.configured || served_always r) as (λ b. OnlyData (cond b (by_request h y r) (refuse 2 h))) [
        | true ↦ request_only y r
        | false ↦ λ e. refl
      ]

  polled_only : OnlyData (polled h)
  unfolding polled
  polled_only =
      let b = bitmap_of h.identity.ports h.ports in
      elim (eqb b 0) as (λ x. OnlyData (cond x (refuse 3 h) (gives h (b ∷ [])))) [
        | true ↦ λ e. refl
        | false ↦ λ e. absurd (true≢false e)
      ]

  -- a handshake comes with no payload
  handshake : (p : Payload) (b : Bool) → eqb (cond b 1 9) 1 ≡ false → content (cond b p no_payload) ≡ []
  handshake p true e = absurd (true≢false e)
  handshake p false e = refl

  completed_only : (t : Translator) (k : Key) → OnlyData (completed_as h (complete_split t k))
  unfolding complete_split
  completed_only t k = go (find (holds k) (take t.count t.buffers))
    where
      slot : (n : BufferNumber) (p : Payload) (s : Slot) → OnlyData (completed_as h (completed t n p s))
      slot n p Empty e = refl
      slot n p (Pending s q) e = refl
      slot n p (Ready s r) e = handshake p (is_data r) e
      slot n p (Old s r) e = handshake p (is_data r) e

      go : (f : Option BufferNumber) → OnlyData (completed_as h (complete_at t f))
      go None = λ e. refl
      go (Some n) = slot n (at t.buffers n.0).payload (at t.buffers n.0).slot

  launched_only : (g : Hub) (a : Result StartSplit NotLaunched) (p : Payload) → OnlyData (launched_by g a p)
  launched_only g (Err NothingPending) p e = refl
  launched_only g (Err Occupied) p e = refl
  launched_only g (Ok s) p e = absurd (true≢false e)

  served_only : (c : Call) → OnlyData (served h c)
  unfolding served
  served_only (Control z s room) = requested_only (lane_from z) (request_of h.identity.ports s)
  served_only (Poll z room) = polled_only
  served_only (Start z p t l g a e b) = λ z. refl
  served_only (Complete z a e d room) = completed_only h.translator (key_from z a e d)
  served_only (Launch room) = let o = launch h.translator in launched_only (with_translator h o.next) o.answer o.payload
  served_only (Deliver r b) = λ z. refl
  served_only (Event e n) = λ z. refl
  served_only Tick = λ z. refl
  served_only BusReset = λ z. refl

  pub bytes_of_data : (c : Call) → ¬ ((step h c).answer.number ≡ 1) → (step h c).answer.bytes ≡ []
  bytes_of_data c d = by_step h c OnlyData (λ n e. refl) (λ w f. served_only c) (ne_eqb (step h c).answer.number 1 d)

-- ---- and they fit

abbrev Fit : Outcome → Type 0
Fit o = length o.answer.bytes ≤ 64

buffer_fits_lem : (b : Buffer) → Whole b → length (content b.payload) ≤ 64
buffer_fits_lem b w = let l : b.payload.len ≤ 64 = slot_le b.slot b.payload.len w.fits in simp length-take (omega arith)

module _ (h : Hub) (v : ValidHub h) where
  request_fits : (y : Lane) (r : Result Request Fault) → Fit (by_request h y r)
  request_fits y (Err f) = omega arith
  request_fits y (Ok (SetConfiguration on)) = omega arith
  request_fits y (Ok GetConfiguration) = omega arith
  request_fits y (Ok (GetHubDescriptor n)) = let d = descriptor h.identity in simp length-take (omega arith)
  request_fits y (Ok GetHubStatus) = omega arith
  request_fits y (Ok (GetPortStatus n)) = omega arith
  request_fits y (Ok ClearHubFeature) = omega arith
  request_fits y (Ok (ClearPortFeature n f)) = omega arith
  request_fits y (Ok (SetPortFeature n f)) = omega arith
  request_fits y (Ok (ClearTTBuffer k)) = omega arith
  request_fits y (Ok ResetTT) = omega arith

  requested_fits : (y : Lane) (r : Result Request Fault) → Fit (requested h y r)
  unfolding requested
  requested_fits y r =
      elim (h.configured || served_always r) as (λ b. Fit (cond b (by_request h y r) (refuse 2 h))) [
        | true ↦ request_fits y r
        | false ↦ omega arith
      ]

  polled_fits : Fit (polled h)
  unfolding polled
  polled_fits =
      let b = bitmap_of h.identity.ports h.ports in
      elim (eqb b 0) as (λ x. Fit (cond x (refuse 3 h) (gives h (b ∷ [])))) [
        | true ↦ omega arith
        | false ↦ omega arith
      ]

  given_fits : (p : Payload) → length (content p) ≤ 64 → (b : Bool) → length (content (cond b p no_payload)) ≤ 64
  given_fits p l true = l
  given_fits p l false = omega arith

  completed_fits : (t : Translator) → ValidTranslator t → (k : Key) → Fit (completed_as h (complete_split t k))
  unfolding complete_split
  completed_fits t w k = go (find (holds k) (take t.count t.buffers))
    where
      slot : (n : BufferNumber) (p : Payload) → length (content p) ≤ 64 → (s : Slot) → Fit (completed_as h (completed t n p s))
      slot n p l Empty = omega arith
      slot n p l (Pending s q) = omega arith
      slot n p l (Ready s r) = given_fits p l (is_data r)
      slot n p l (Old s r) = given_fits p l (is_data r)

      go : (f : Option BufferNumber) → Fit (completed_as h (complete_at t f))
      go None = omega arith
      go (Some n) = slot n (at t.buffers n.0).payload (buffer_fits_lem (at t.buffers n.0) (w.whole n.0)) (at t.buffers n.0).slot

  launched_fits : (t : Translator) → ValidTranslator t → Fit (launched_as h (launch t))
  unfolding launch
  launched_fits t w = go t.low
    where
      slot : (n : BufferNumber) (p : Payload) → length (content p) ≤ 64 → (s : Slot) → Fit (launched_as h (launched t n p s))
      slot n p l Empty = omega arith
      slot n p l (Pending s q) = l
      slot n p l (Ready s r) = omega arith
      slot n p l (Old s r) = omega arith

      found : (e : Option (BufferNumber × ℕ)) → Fit (launched_as h (launch_at t e))
      found None = omega arith
      found (Some (n, q)) = slot n (at t.buffers n.0).payload (buffer_fits_lem (at t.buffers n.0) (w.whole n.0)) (at t.buffers n.0).slot

      go : (l : LowSide) → Fit (launched_as h (launch_by t l))
      go Idle = found (earliest (take t.count t.buffers))
      go (Running n) = omega arith
      go Abandoned = omega arith

  served_fits : (c : Call) → Fit (served h c)
  unfolding served
  served_fits (Control z s room) = requested_fits (lane_from z) (request_of h.identity.ports s)
  served_fits (Poll z room) = polled_fits
  served_fits (Start z p t l g a e b) = omega arith
  served_fits (Complete z a e d room) = completed_fits h.translator v.translator (key_from z a e d)
  served_fits (Launch room) = launched_fits h.translator v.translator
  served_fits (Deliver r b) = omega arith
  served_fits (Event e n) = omega arith
  served_fits Tick = omega arith
  served_fits BusReset = omega arith

  pub bytes_fit : (c : Call) → length (step h c).answer.bytes ≤ 64
  bytes_fit c = by_step h c Fit (λ n. omega arith) (λ w f. served_fits c)
