-- The rules' tests for 6 and 7 fail exactly where a number or length is outside the rules, and where the reply space is short.
-- Assumes nothing.
use Prim.Native.Nat.{ℕ, ◌%◌, ◌<◌, ◌≤◌}
use native.Mathlib.Omega.{arith}
use mathlib.Core.Path.{◌≡◌, refl, sym, ◌∙◌, ap, subst}
use mathlib.Core.Logic.{◌⊎◌, inl, inr, ⊎_elim}
use mathlib.Core.Bool.{Bool, true, false, ◌&&◌, ◌||◌, true≢false}
use borrow.Author.Tests.{eqb-true, eqb-false, leb-true, leb-false, lt-ltb}
use lib.Dec.{eqb, leb, ltb}
use lib.ListN.{length}
use Rattle.buffer.specs.declared.Pid.{Pid}
use Rattle.buffer.specs.declared.Pid.TheVariants as pid
use Rattle.buffer.specs.declared.TransferType.{TransferType}
use Rattle.buffer.specs.declared.TransferType.TheVariants as transfer
use Rattle.buffer.specs.declared.DeviceResult.{DeviceResult}
use Rattle.buffer.specs.declared.DeviceResult.TheVariants as result
use Rattle.buffer.specs.Lengths.{type_fits, numbers_fit, start_length, start_fits, is_data, result_length}
use Rattle.translator.specs.Answers.{pid_number}
use Rattle.numbers.specs.Written.{type_number, result_written}
use Rattle.numbers.specs.Named.{is_lane, is_pid, pid_from, is_type, type_from, is_flag, is_direction, is_result, result_from, is_event, port_named}
use Rattle.numbers.specs.Split.{split_named, split_from, key_named}
use Rattle.numbers.specs.Claims.{Naming}
use Rattle.numbers.proofs.Laws.{numbers_claims_lem}
use Rattle.hub.specs.declared.Hub.{Hub}
use Rattle.hub.specs.Call.{Call, Control, Poll, Start, Complete, Launch, Deliver, Event, Tick, BusReset}
use Rattle.hub.specs.Checks.{within, has_space}
use Rattle.hub.proofs.Tells.{Tells, tested, passes, both_tell, regrouped, not_over, is_number, below_tells}
use Rattle.runs.specs.Refusals.{UnknownLane, OverPayload, PayloadOnIn, WrongSetup, PayloadOnHandshake, NoSuchPort, Outside, Short}

-- ---- one number

-- a number that is none of a kind's
unknown : {X : Type 0} {is : ℕ → Bool} {from : ℕ → X} {number : X → ℕ} → Naming X is from number → (n : ℕ) → Tells (is n) ((v : X) → ¬ (n ≡ number v))
unknown {X} {is} {from} {number} k n =
    tested (is n) (λ e u. u (from n) (sym (k.number_back n e))) (λ e v q. true≢false (sym (k.named v) ∙ ap is (sym q) ∙ e))

lane_tells : (z : ℕ) → Tells (is_lane z) (UnknownLane z)
lane_tells z = go (eqb z 0) refl (eqb z 1) refl
  where
    go : (x : Bool) → eqb z 0 ≡ x → (y : Bool) → eqb z 1 ≡ y → Tells (x || y) (UnknownLane z)
    go true e y f = tested true (λ _ l. let k : z ≡ 0 = eqb-true z 0 e in omega (arith, k, l)) (λ u. absurd (true≢false u))
    go false e true f = tested true (λ _ l. let k : z ≡ 1 = eqb-true z 1 f in omega (arith, k, l)) (λ u. absurd (true≢false u))
    go false e false f = (λ _. let a : ¬ (z ≡ 0) = eqb-false z 0 e in let b : ¬ (z ≡ 1) = eqb-false z 1 f in omega (arith, a, b), λ l. refl)

port_tells : (count n : ℕ) → Tells (port_named count n) (NoSuchPort count n)
port_tells count n = both_tell (leb 1 n) (leb n count) (tested (leb 1 n) (λ e z. let k : 1 ≤ n = leb-true 1 n e in omega (arith, k, z)) (λ e. let k : n < 1 = leb-false 1 n e in omega (arith, k))) (λ e. not_over n count)

-- ---- the payload of a start-split and of a result

-- what is outside in a payload of n bytes
abbrev Ill : ℕ → ℕ → ℕ → Type 0
Ill p t n = OverPayload n ⊎ PayloadOnIn p n ⊎ WrongSetup p t n

payload_tells : (p : Pid) (t : TransferType) (n : ℕ) → Tells (type_fits p t && start_length p n) (Ill (pid_number p) (type_number t) n)
payload_tells pid.Out t n =
    tested (leb n 64) (λ e. let k : n ≤ 64 = leb-true n 64 e in ⊎_elim (λ l. omega (arith, k, l)) (⊎_elim (λ u. omega (arith, u.0)) (λ u. omega (arith, u.0)))) (λ e. inl (leb-false n 64 e))
payload_tells pid.In t n =
    tested (eqb n 0) (λ e. let k : n ≡ 0 = eqb-true n 0 e in ⊎_elim (λ l. omega (arith, k, l)) (⊎_elim (λ u. u.1 k) (λ u. omega (arith, u.0)))) (λ e. inr (inl (refl, eqb-false n 0 e)))
payload_tells pid.Setup transfer.Control n =
    tested (eqb n 8) (λ e. let k : n ≡ 8 = eqb-true n 8 e in ⊎_elim (λ l. omega (arith, k, l)) (⊎_elim (λ u. omega (arith, u.0)) (λ u. ⊎_elim (λ w. w refl) (λ w. w k) u.1)))
    (λ e. inr (inr (refl, inr (eqb-false n 8 e))))
payload_tells pid.Setup transfer.Bulk n = (λ _. inr (inr (refl, inl (λ e. omega (arith, e)))), λ u. refl)

start_tells : (z p t f g a e n : ℕ) → is_pid p ≡ true → is_type t ≡ true → Tells (start_fits (split_from z p t f g a e) n) (Ill p t n)
unfolding start_fits numbers_fit split_from
start_tells z p t f g a e n pn tn =
    rw (lt-ltb (a % 128) 128 (omega arith), lt-ltb (e % 16) 16 (omega arith))
    (subst (λ (x : ℕ). Tells (type_fits (pid_from p) (type_from t) && start_length (pid_from p) n) (Ill x t n)) (numbers_claims_lem.pids.number_back p pn)
    (subst (λ (y : ℕ). Tells (type_fits (pid_from p) (type_from t) && start_length (pid_from p) n) (Ill (pid_number (pid_from p)) y n)) (numbers_claims_lem.types.number_back t tn)
    (payload_tells (pid_from p) (type_from t) n)))

handshake_tells : (r : DeviceResult) (n : ℕ) → Tells (is_data r || eqb n 0) (PayloadOnHandshake (result_written r) n)
handshake_tells r n = go r
  where
    -- neither DATA0 nor DATA1
    bare : (x : ℕ) → ¬ (x ≡ result_written result.Data0) → ¬ (x ≡ result_written result.Data1) → Tells (eqb n 0) (PayloadOnHandshake x n)
    bare x a b = tested (eqb n 0) (λ e u. u.2 (eqb-true n 0 e)) (λ e. (a, b, eqb-false n 0 e))

    go : (r : DeviceResult) → Tells (is_data r || eqb n 0) (PayloadOnHandshake (result_written r) n)
    go result.Failure = bare 0 (λ e. omega (arith, e)) (λ e. omega (arith, e))
    go result.Ack = bare 2 (λ e. omega (arith, e)) (λ e. omega (arith, e))
    go result.Nak = bare 10 (λ e. omega (arith, e)) (λ e. omega (arith, e))
    go result.Stall = bare 14 (λ e. omega (arith, e)) (λ e. omega (arith, e))
    go result.Data0 = tested true (λ _ u. u.0 refl) (λ e. absurd (true≢false e))
    go result.Data1 = tested true (λ _ u. u.1 refl) (λ e. absurd (true≢false e))

result_tells : (r n : ℕ) → is_result r ≡ true → Tells (result_length (result_from r) n) (OverPayload n ⊎ PayloadOnHandshake r n)
unfolding result_length
result_tells r n named =
    both_tell (leb n 64) (is_data (result_from r) || eqb n 0) (not_over n 64)
    (λ _. subst (λ (x : ℕ). Tells (is_data (result_from r) || eqb n 0) (PayloadOnHandshake x n)) (numbers_claims_lem.results.number_back r named) (handshake_tells (result_from r) n))

-- ---- 6 and 7 of each call

pub outside_tells : (h : Hub) (c : Call) → Tells (within h c) (Outside h c)
unfolding within split_named key_named
outside_tells h (Control z s room) = both_tell (eqb (length s) 8) (is_lane z) (is_number (length s) 8) (λ _. lane_tells z)
outside_tells h (Poll z room) = lane_tells z
outside_tells h (Start z p t f g a e l) =
    regrouped (is_lane z) _ _ (both_tell (is_lane z) _ (lane_tells z)
    (λ _. regrouped (is_pid p && is_type t) _ _ (regrouped (is_pid p) (is_type t) _ (both_tell (is_pid p) _ (unknown numbers_claims_lem.pids p)
    (λ pn. both_tell (is_type t) _ (unknown numbers_claims_lem.types t)
    (λ tn. regrouped (is_flag f && is_flag g) _ _ (regrouped (is_flag f) (is_flag g) _ (both_tell (is_flag f) _ (not_over f 1)
    (λ _. both_tell (is_flag g) _ (not_over g 1)
    (λ _. regrouped (ltb a 128) (ltb e 16) _ (both_tell (ltb a 128) _ (below_tells a 127 128 refl)
    (λ _. both_tell (ltb e 16) _ (below_tells e 15 16 refl)
    (λ _. start_tells z p t f g a e (length l) pn tn)))))))))))))
outside_tells h (Complete z a e d room) =
    both_tell (is_lane z) _ (lane_tells z)
    (λ _. regrouped (ltb a 128) (ltb e 16) (is_direction d) (both_tell (ltb a 128) _ (below_tells a 127 128 refl)
    (λ _. both_tell (ltb e 16) (is_direction d) (below_tells e 15 16 refl)
    (λ _. unknown numbers_claims_lem.directions d))))
outside_tells h (Launch room) = passes
outside_tells h (Deliver r l) = both_tell (is_result r) _ (unknown numbers_claims_lem.results r) (result_tells r (length l))
outside_tells h (Event e n) = both_tell (is_event e) _ (unknown numbers_claims_lem.events e) (λ _. port_tells h.identity.ports n)
outside_tells h Tick = passes
outside_tells h BusReset = passes

room_tells : (room : ℕ) → Tells (leb 64 room) (room < 64)
room_tells room = not_over 64 room

pub short_tells : (c : Call) → Tells (has_space c) (Short c)
unfolding has_space
short_tells (Control z s room) = room_tells room
short_tells (Poll z room) = room_tells room
short_tells (Start z p t f g a e l) = passes
short_tells (Complete z a e d room) = room_tells room
short_tells (Launch room) = room_tells room
short_tells (Deliver r l) = passes
short_tells (Event e n) = passes
short_tells Tick = passes
short_tells BusReset = passes
