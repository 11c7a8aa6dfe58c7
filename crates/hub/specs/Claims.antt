-- What is shown of every call. A reader must believe the rules and these statements; the proofs are in proofs/.
use Rattle.std.specs.Prelude.{ℕ, ◌≤◌, ◌≡◌, ◌↔◌, true, false, [], length, Option, None, Some}
use Rattle.translator.specs.Answers.{is_refusal}
use Rattle.hub.specs.declared.Hub.{Hub}
use Rattle.hub.specs.Hub.{new_fits, hub_of}
use Rattle.hub.specs.Call.{Call, Control, Poll, Start, Complete, Launch, Deliver, Event, Tick, BusReset, refuse}
use Rattle.hub.specs.Step.{step}
use Rattle.hub.specs.Valid.{ValidHub}
use Rattle.hub.specs.New.{NewOutside}

-- the lane that it comes from, where a call carries one
abbrev pub lane_of : Call → Option ℕ
lane_of (Control z s room) = Some z
lane_of (Poll z room) = Some z
lane_of (Start z p t f g a e l) = Some z
lane_of (Complete z a e d room) = Some z
lane_of (Launch room) = None
lane_of (Deliver r l) = None
lane_of (Event e n) = None
lane_of Tick = None
lane_of BusReset = None

pub record HubClaims : Type 0 where
  -- no hub is made exactly if a number is bad
  pub new_refused : (n b g c r : ℕ) → (new_fits n b g c r ≡ false) ↔ NewOutside n b g c r
  -- a new hub is valid, and every call leaves a valid hub valid
  pub new_valid : (n b g c r : ℕ) → new_fits n b g c r ≡ true → ValidHub (hub_of n b g c r)
  pub step_valid : (h : Hub) → ValidHub h → (c : Call) → ValidHub (step h c).next
  -- a call answered 2 to 8 leaves the hub as it was and gives its number alone, with no bytes
  pub refused_same : (h : Hub) (c : Call) → is_refusal (step h c).answer.number ≡ true → step h c ≡ refuse (step h c).answer.number h
  -- no call changes what the hub was made from
  pub identity_kept : (h : Hub) (c : Call) → (step h c).next.identity ≡ h.identity
  pub buffers_kept : (h : Hub) (c : Call) → (step h c).next.translator.count ≡ h.translator.count
  -- a lane outside 0 and 1 is 6, whatever else is wrong with the call
  pub no_such_lane_lem : (h : Hub) (c : Call) (z : ℕ) → lane_of c ≡ Some z → 2 ≤ z → step h c ≡ refuse 6 h
  -- only data has bytes, and they fit in a reply space of 64
  pub bytes_of_data : (h : Hub) (c : Call) → ¬ ((step h c).answer.number ≡ 1) → (step h c).answer.bytes ≡ []
  pub bytes_fit : (h : Hub) → ValidHub h → (c : Call) → length (step h c).answer.bytes ≤ 64
