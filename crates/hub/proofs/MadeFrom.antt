-- No call changes what the hub was made from. Assumes nothing.
use Prim.Native.Nat.{ℕ}
use mathlib.Core.Path.{◌≡◌, refl, sym, subst}
use mathlib.Core.Bool.{Bool, true, false, cond, ◌||◌}
use mathlib.Core.List.{List, [], ◌∷◌}
use lib.Dec.{eqb}
use lib.ListN.{length, take}
use Rattle.payload.specs.declared.Payload.{Payload}
use Rattle.ports.specs.declared.Sweep.TheVariants as sweep
use Rattle.ports.specs.Sweep.{swept}
use Rattle.ports.specs.Bitmap.{bitmap_of}
use Rattle.buffer.specs.declared.StartSplit.{StartSplit}
use Rattle.buffer.specs.declared.DeviceResult.{DeviceResult}
use Rattle.buffer.specs.declared.Key.{Key}
use Rattle.buffer.specs.declared.Slot.{Slot}
use Rattle.buffer.specs.declared.Slot.TheVariants.{Empty, Pending, Ready, Old}
use Rattle.buffer.specs.declared.BufferNumber.{BufferNumber}
use Rattle.buffer.specs.Key.{key_of}
use Rattle.buffer.specs.Buffer.{holds}
use Rattle.buffer.specs.Lengths.{start_fits, result_length, suits}
use Rattle.translator.specs.declared.LowSide.{LowSide}
use Rattle.translator.specs.declared.LowSide.TheVariants.{Idle, Running, Abandoned}
use Rattle.buffer.specs.declared.Lane.{Lane}
use Rattle.translator.specs.declared.Translator.{Translator}
use Rattle.translator.specs.declared.Choice.{Choice}
use Rattle.translator.specs.declared.Choice.TheVariants.{NoRoom, LimitReached, Held, Reused, Took}
use Rattle.translator.specs.declared.NotDelivered.TheVariants as answer
use Rattle.translator.specs.declared.Delivered.{Delivered}
use Rattle.translator.specs.Translator.{at}
use Rattle.translator.specs.Search.{find}
use Rattle.translator.specs.Limit.{permitted}
use Rattle.translator.specs.ResetLane.{reset_lane}
use Rattle.translator.specs.Order.{earliest}
use Rattle.translator.specs.StartSplit.{stored, start_by, start_split, outside}
use Rattle.translator.specs.CompleteSplit.{completed, complete_at, complete_split}
use Rattle.translator.specs.Launch.{launched, launch_at, launch_by, launch}
use Rattle.translator.specs.Deliver.{undelivered, delivered, deliver_by, deliver}
use Rattle.translator.specs.Clear.{clear_at, clear_buffer}
use Rattle.std.specs.Prelude.{Result, Ok, Err, None, Option, Some}
use Rattle.request.specs.declared.Fault.{Fault}
use Rattle.request.specs.declared.Request.{Request}
use Rattle.request.specs.declared.Request.TheVariants.{SetConfiguration, GetConfiguration, GetHubDescriptor, GetHubStatus, GetPortStatus, ClearHubFeature, ClearPortFeature, SetPortFeature, ClearTTBuffer, ResetTT}
use Rattle.request.specs.Request.{request_of}
use Rattle.numbers.specs.Named.{lane_from, result_from}
use Rattle.numbers.specs.Split.{split_from, key_from}
use Rattle.hub.specs.declared.Hub.{Hub}
use Rattle.hub.specs.Hub.{with_ports, with_translator, configured_as, reset_hub, ticked_hub}
use Rattle.hub.specs.Call.{Call, Control, Poll, Start, Complete, Launch, Deliver, Event, Tick, BusReset, refuse, gives}
use Rattle.hub.specs.Requests.{keyed, by_request, served_always, requested}
use Rattle.hub.specs.Rules.{polled}
use Rattle.hub.specs.Step.{served, step}
use Rattle.hub.proofs.Order.{by_step}
use Rattle.hub.proofs.Valid.{completed-next, launched-next}

-- ---- the translator's count of buffers

module _ (t : Translator) where
  start_count : (s : StartSplit) (l : List ℕ) → (start_split t s l).next.count ≡ t.count
  unfolding start_split stored
  start_count s l = go (start_fits s (length l)) (permitted t.count (key_of s) (take t.count t.buffers))
    where
      go : (x : Bool) (c : Choice) → (cond x (start_by t s l c) (record { next = t; answer = Err outside })).next.count ≡ t.count
      go true NoRoom = refl
      go true LimitReached = refl
      go true (Held n) = refl
      go true (Reused n) = refl
      go true (Took n) = refl
      go false c = refl

  complete_count : (k : Key) → (complete_split t k).next.count ≡ t.count
  unfolding complete_split
  complete_count k = go (find (holds k) (take t.count t.buffers))
    where
      slot : (n : BufferNumber) (p : Payload) (s : Slot) → (completed t n p s).next.count ≡ t.count
      slot n p Empty = refl
      slot n p (Pending s q) = refl
      slot n p (Ready s r) = refl
      slot n p (Old s r) = refl

      go : (f : Option BufferNumber) → (complete_at t f).next.count ≡ t.count
      go None = refl
      go (Some n) = slot n (at t.buffers n.0).payload (at t.buffers n.0).slot

  launch_count : (launch t).next.count ≡ t.count
  unfolding launch
  launch_count = go t.low
    where
      slot : (n : BufferNumber) (p : Payload) (s : Slot) → (launched t n p s).next.count ≡ t.count
      slot n p Empty = refl
      slot n p (Pending s q) = refl
      slot n p (Ready s r) = refl
      slot n p (Old s r) = refl

      found : (e : Option (BufferNumber × ℕ)) → (launch_at t e).next.count ≡ t.count
      found None = refl
      found (Some (n, q)) = slot n (at t.buffers n.0).payload (at t.buffers n.0).slot

      go : (l : LowSide) → (launch_by t l).next.count ≡ t.count
      go Idle = found (earliest (take t.count t.buffers))
      go (Running n) = refl
      go Abandoned = refl

  deliver_count : (r : DeviceResult) (l : List ℕ) → (deliver t r l).next.count ≡ t.count
  unfolding deliver
  deliver_count r l = go (result_length r (length l)) t.low
    where
      suited : (o : Delivered) → o.next.count ≡ t.count → (x : Bool) → (cond x o (undelivered t answer.NotInThisState)).next.count ≡ t.count
      suited o e true = e
      suited o e false = refl

      slot : (n : BufferNumber) (s : Slot) → (delivered t r l n s).next.count ≡ t.count
      slot n Empty = refl
      slot n (Pending s q) = suited _ refl (suits s.pid r)
      slot n (Ready s q) = refl
      slot n (Old s q) = refl

      go : (x : Bool) (l' : LowSide) → (cond x (deliver_by t r l l') (undelivered t answer.Outside)).next.count ≡ t.count
      go true Idle = refl
      go true (Running n) = slot n (at t.buffers n.0).slot
      go true Abandoned = refl
      go false l' = refl

  clear_count : (k : Key) → (clear_buffer t k).count ≡ t.count
  unfolding clear_buffer
  clear_count k = go (find (holds k) (take t.count t.buffers))
    where
      go : (f : Option BufferNumber) → (clear_at t f).count ≡ t.count
      go None = refl
      go (Some n) = refl

  reset_count : (z : Lane) → (reset_lane t z).count ≡ t.count
  unfolding reset_lane
  reset_count z = refl

-- ---- the hub

-- made from the same numbers
pub record SameNumbers (h g : Hub) : Type 0 where
  pub identity : g.identity ≡ h.identity
  pub buffers : g.translator.count ≡ h.translator.count

module _ (h : Hub) where
  nothing : SameNumbers h h
  nothing = record { identity = refl; buffers = refl }

  translator_numbers : (t : Translator) → t.count ≡ h.translator.count → SameNumbers h (with_translator h t)
  translator_numbers t e = record { identity = refl; buffers = e }

  request_numbers : (y : Lane) (r : Result Request Fault) → SameNumbers h (by_request h y r).next
  unfolding configured_as
  request_numbers y (Err f) = nothing
  request_numbers y (Ok (SetConfiguration on)) = record { identity = refl; buffers = refl }
  request_numbers y (Ok GetConfiguration) = nothing
  request_numbers y (Ok (GetHubDescriptor n)) = nothing
  request_numbers y (Ok GetHubStatus) = nothing
  request_numbers y (Ok (GetPortStatus n)) = nothing
  request_numbers y (Ok ClearHubFeature) = nothing
  request_numbers y (Ok (ClearPortFeature n f)) = record { identity = refl; buffers = refl }
  request_numbers y (Ok (SetPortFeature n f)) = record { identity = refl; buffers = refl }
  request_numbers y (Ok (ClearTTBuffer k)) = translator_numbers _ (clear_count h.translator (keyed y k))
  request_numbers y (Ok ResetTT) = translator_numbers _ (reset_count h.translator y)

  requested_numbers : (y : Lane) (r : Result Request Fault) → SameNumbers h (requested h y r).next
  unfolding requested
  requested_numbers y r =
      elim (h.configured || served_always r) as (λ b. SameNumbers h (cond b (by_request h y r) (refuse 2 h)).next) [
        | true ↦ request_numbers y r
        | false ↦ nothing
      ]

  polled_numbers : SameNumbers h (polled h).next
  unfolding polled
  polled_numbers =
      let b = bitmap_of h.identity.ports h.ports in
      elim (eqb b 0) as (λ x. SameNumbers h (cond x (refuse 3 h) (gives h (b ∷ []))).next) [
        | true ↦ nothing
        | false ↦ nothing
      ]

  ticked_numbers : SameNumbers h (ticked_hub h)
  unfolding ticked_hub
  ticked_numbers =
      elim h.configured as (λ x. SameNumbers h (cond x (with_ports h (swept sweep.Tick h.identity.ports h.ports)) h)) [
        | true ↦ record { identity = refl; buffers = refl }
        | false ↦ nothing
      ]

  served_numbers : (c : Call) → SameNumbers h (served h c).next
  unfolding served reset_hub
  served_numbers (Control z s room) = requested_numbers (lane_from z) (request_of h.identity.ports s)
  served_numbers (Poll z room) = polled_numbers
  served_numbers (Start z p t l g a e b) = translator_numbers _ (start_count h.translator (split_from z p t l g a e) b)
  served_numbers (Complete z a e d room) =
      let o = complete_split h.translator (key_from z a e d) in
      subst (SameNumbers h) (sym (completed-next (with_translator h o.next) o.answer o.payload))
      (translator_numbers _ (complete_count h.translator (key_from z a e d)))
  served_numbers (Launch room) =
      let o = launch h.translator in
      subst (SameNumbers h) (sym (launched-next (with_translator h o.next) o.answer o.payload)) (translator_numbers _ (launch_count h.translator))
  served_numbers (Deliver r b) = translator_numbers _ (deliver_count h.translator (result_from r) b)
  served_numbers (Event e n) = record { identity = refl; buffers = refl }
  served_numbers Tick = ticked_numbers
  served_numbers BusReset = record { identity = refl; buffers = refl }

  pub numbers_kept : (c : Call) → SameNumbers h (step h c).next
  numbers_kept c = by_step h c (λ o. SameNumbers h o.next) (λ n. nothing) (λ w f. served_numbers c)
