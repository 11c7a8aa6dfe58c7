-- A lane holds at most B minus 1 buffers, and one that holds none is served. Assumes nothing.
use Prim.Native.Nat.{ℕ, zero, suc, ◌+◌, ◌<◌, ◌≤◌, zero-le}
use native.Mathlib.Omega.{arith}
use native.Mathlib.Nat.{not-suc-le-zero}
use mathlib.Core.Path.{◌≡◌, refl, sym, ◌∙◌, ap}
use mathlib.Core.Logic.{◌⊎◌, inl, inr}
use mathlib.Core.List.{List, [], ◌∷◌}
use mathlib.Core.Bool.{Bool, true, false, false≢true, true≢false}
use lib.ListN.{length, take}
use Rattle.buffer.specs.declared.Lane.{Lane}
use Rattle.buffer.specs.declared.Lane.TheVariants.{Zero, One}
use Rattle.buffer.specs.declared.Slot.{Slot}
use Rattle.buffer.specs.declared.Slot.TheVariants.{Empty, Pending, Ready, Old}
use Rattle.buffer.specs.declared.Buffer.{Buffer}
use Rattle.buffer.specs.Key.{same_lane}
use Rattle.buffer.specs.Buffer.{is_active, is_free, active_in}
use Rattle.translator.specs.declared.Translator.{Translator}
use Rattle.translator.specs.Translator.{at, tally}
use Rattle.bools.specs.Bit.{bit}
use Rattle.translator.specs.Limit.{held_by, AtLimit}
use Rattle.numbers.specs.Named.{lane_from}
use Rattle.std.specs.Prelude.{Option, Some, None}
use Rattle.request.specs.declared.Kind.{Kind}
use Rattle.request.specs.declared.Kind.TheVariants as kind
use Rattle.request.specs.Setup.{setup_of}
use Rattle.request.specs.Table.{kind_of}
use Rattle.hub.specs.declared.Hub.{Hub}
use Rattle.hub.specs.Call.{Call, Control, Poll, Start, Complete, Launch, Deliver, Event as Line, Tick, BusReset, Answer}
use Rattle.hub.specs.Valid.{ValidHub}
use Rattle.hub.specs.Step.{step}
use Rattle.hub.proofs.Valid.{new_valid, step_valid}
use Rattle.hub.proofs.MadeFrom.{numbers_kept}
use Rattle.runs.specs.History.{History, request_asks, asks}
use Rattle.runs.specs.Order.{call_at, is_from}
use Rattle.runs.specs.Machine.{rules, new_hub_of, run_from}
use Rattle.runs.specs.Tally.{past}
use Rattle.runs.specs.Refusals.{nak, slot_at, NoneInUse}
use Rattle.runs.specs.Demand3.{every_key_of}
use Rattle.runs.specs.Share.{holding, Shared, AllShared, LaneShare}
use Rattle.translator.proofs.Kept.{all_held}
use Rattle.runs.proofs.Kept.{ev, Tied}
use Rattle.runs.proofs.Steps.{step_kept}
use Rattle.runs.proofs.Theorems.{new_tied}
use Rattle.runs.proofs.Acceptance.{key_in}
use Rattle.runs.proofs.Fates.{stored_lane}
use Rattle.runs.proofs.Tallied.{waiting_count}
use Rattle.runs.proofs.Refusing.{refusals}

-- ---- as many start-splits of the lane wait as it holds buffers

active_of : (z : Lane) (s : Slot) → active_in z s ≡ true → is_active s ≡ true
active_of z Empty e = e
active_of z (Pending s p) e = refl
active_of z (Ready s r) e = refl
active_of z (Old s r) e = e

lane_active : (z : Lane) (s : Slot) → is_active s ≡ true → active_in z s ≡ same_lane (key_in s).lane z
lane_active z Empty e = absurd (false≢true e)
lane_active z (Pending s p) e = refl
lane_active z (Ready s r) e = refl
lane_active z (Old s r) e = absurd (false≢true e)

lane_count : (z : Lane) (h : History) (t : Translator) → Tied h t → holding z h ≡ held_by z t.buffers
lane_count z h t tied =
    waiting_count h t tied (every_key_of z) (active_in z) (λ s. is_from z (call_at h s))
    (record { active = active_of z; of_slot = lane_active z; of_place = stored_lane h z })

few_after : (z : Lane) (b : ℕ) (cs : List Call) (h : History) (hub : Hub) → Tied h hub.translator → hub.translator.count ≡ b
    → holding z (past h (run_from rules hub cs)) < b
unfolding run_from past
few_after z b [] h hub tied e = omega (arith, lane_count z h hub.translator tied, tied.valid.lanes z, e)
few_after z b (c ∷ cs) h hub tied e =
    few_after z b cs (ev c (step hub c).answer ∷ h) (step hub c).next (step_kept h hub tied c).0 ((numbers_kept hub c).buffers ∙ e)

-- ---- the two lanes together

lane_bits : (l : Lane) → 1 ≡ bit (same_lane l Zero) + bit (same_lane l One)
lane_bits Zero = refl
lane_bits One = refl

slot_lanes : (s : Slot) → bit (is_active s) ≡ bit (active_in Zero s) + bit (active_in One s)
slot_lanes Empty = refl
slot_lanes (Pending s p) = lane_bits s.lane
slot_lanes (Ready s r) = lane_bits s.lane
slot_lanes (Old s r) = refl

both_lanes : (bs : List Buffer) → tally is_active bs ≡ held_by Zero bs + held_by One bs
unfolding tally
both_lanes [] = refl
both_lanes (b ∷ bs) = omega (arith, slot_lanes b.slot, both_lanes bs)

all_in : (f : Slot → Bool) (n : ℕ) (bs : List Buffer) → n ≤ length bs → ((i : ℕ) → i < n → f (at bs i).slot ≡ true) → n ≤ tally f bs
unfolding tally
all_in f zero bs l w = zero-le
all_in f (suc n) [] l w = absurd (not-suc-le-zero l)
all_in f (suc n) (b ∷ bs) l w =
    omega (arith, ap bit (w 0 (omega arith)), all_in f n bs (omega (arith, l)) (λ i m. w (suc i) (omega (arith, m))))

busy : (s : Slot) → is_free s ≡ false → is_active s ≡ true
busy Empty e = absurd (true≢false e)
busy (Pending s p) e = refl
busy (Ready s r) e = refl
busy (Old s r) e = absurd (true≢false e)

module _ (hub : Hub) (valid : ValidHub hub) where
  abbrev bs : List Buffer
  bs = hub.translator.buffers

  -- the other lane would hold every buffer
  not_all : (z : Lane) → held_by z bs ≡ 0 → ¬ (hub.translator.count ≤ tally is_active bs)
  not_all Zero e l =
      let o : held_by One bs < hub.translator.count = valid.translator.lanes One in
      let s : tally is_active bs ≡ held_by Zero bs + held_by One bs = both_lanes bs in
      absurd (omega (arith, e, l, o, s))
  not_all One e l =
      let o : held_by Zero bs < hub.translator.count = valid.translator.lanes Zero in
      let s : tally is_active bs ≡ held_by Zero bs + held_by One bs = both_lanes bs in
      absurd (omega (arith, e, l, o, s))

  -- nothing to give only at the limit or where nothing is free
  no_nak : (z : Lane) → held_by z bs ≡ 0 → {P : Type 0} → AtLimit z hub.translator ⊎ (P × NoneInUse is_free hub) → ⊥
  no_nak z e (inl a) =
      let two : 2 ≤ hub.translator.count = valid.translator.least in
      let a' : hub.translator.count ≤ held_by z (take hub.translator.count bs) + 1 = a in
      absurd (omega (arith, e, two, a', all_held hub.translator valid.translator z))
  no_nak z e (inr a) =
      let four : length bs ≡ 4 = valid.translator.four in
      let most : hub.translator.count ≤ 4 = valid.translator.most in
      not_all z e (all_in is_active hub.translator.count bs (omega (arith, four, most)) (λ i l. busy (slot_at hub i) (a.1 i l)))

request_shared : (z : Lane) (x : Option Kind) (v : ℕ) (a : Answer) (h : History) → Shared (request_asks z x v) a h
request_shared z None v a h = tt
request_shared z (Some kind.SetConfiguration) v a h = tt
request_shared z (Some kind.GetConfiguration) v a h = tt
request_shared z (Some kind.GetHubDescriptor) v a h = tt
request_shared z (Some kind.GetHubStatus) v a h = tt
request_shared z (Some kind.GetPortStatus) v a h = tt
request_shared z (Some kind.ClearHubFeature) v a h = tt
request_shared z (Some kind.ClearPortFeature) v a h = tt
request_shared z (Some kind.SetPortFeature) v a h = tt
request_shared z (Some kind.ClearTTBuffer) v a h = tt
request_shared z (Some kind.ResetTT) v a h = tt

shared_step : (h : History) (hub : Hub) → Tied h hub.translator → ValidHub hub → (c : Call) → Shared (asks c) (step hub c).answer h
unfolding asks
shared_step h hub tied valid (Control z s room) =
    request_shared (lane_from z) (kind_of (setup_of s).requesttype (setup_of s).code) (setup_of s).value (step hub (Control z s room)).answer h
shared_step h hub tied valid (Poll z room) = tt
shared_step h hub tied valid (Start z p t f g a e l) = λ held three.
    no_nak hub valid (lane_from z) (sym (lane_count (lane_from z) h hub.translator tied) ∙ held)
    ((refusals.exactly nak hub (Start z p t f g a e l) valid).0 three).applies.1
shared_step h hub tied valid (Complete z a e d room) = tt
shared_step h hub tied valid (Launch room) = tt
shared_step h hub tied valid (Deliver r l) = tt
shared_step h hub tied valid (Line e n) = tt
shared_step h hub tied valid Tick = tt
shared_step h hub tied valid BusReset = tt

all_shared : (cs : List Call) (h : History) (hub : Hub) → Tied h hub.translator → ValidHub hub → AllShared h (run_from rules hub cs)
unfolding run_from AllShared
all_shared [] h hub tied valid = tt
all_shared (c ∷ cs) h hub tied valid = (
  shared_step h hub tied valid c,
  all_shared cs (ev c (step hub c).answer ∷ h) (step hub c).next (step_kept h hub tied c).0 (step_valid hub valid c),
)

pub lane_share : LaneShare rules
lane_share =
    record {
      few = λ z n cs. few_after z n.buffers cs [] (new_hub_of n) (new_tied n) refl;
      served = λ n cs. all_shared cs [] (new_hub_of n) (new_tied n) (new_valid n.ports n.buffers n.powergood n.current n.removable n.fit);
    }
