-- The claims on the numbers. Assumes nothing.
use Prim.Native.Nat.{ℕ, zero, suc, ◌<◌, ◌≤◌, ◌%◌}
use mathlib.Core.Path.{◌≡◌, refl, sym, subst}
use mathlib.Core.Bool.{Bool, true, false, ◌&&◌, ◌||◌, and-eq-true_iff}
use mathlib.Core.Logic.{◌↔◌}
use native.Mathlib.Omega.{arith}
use lib.Dec.{eqb, leb, ltb}
use borrow.Author.Tests.{eqb-true, leb-true, ltb-true, le-leb, lt-ltb}
use Rattle.buffer.specs.declared.Lane.{Lane}
use Rattle.buffer.specs.declared.Lane.TheVariants.{Zero, One}
use Rattle.buffer.specs.declared.Pid.{Pid}
use Rattle.buffer.specs.declared.Pid.TheVariants as pid
use Rattle.buffer.specs.declared.TransferType.{TransferType}
use Rattle.buffer.specs.declared.TransferType.TheVariants.{Control, Bulk}
use Rattle.buffer.specs.declared.Direction.{Direction}
use Rattle.buffer.specs.declared.Direction.TheVariants as direction
use Rattle.buffer.specs.declared.DeviceResult.{DeviceResult}
use Rattle.buffer.specs.declared.DeviceResult.TheVariants.{Failure, Ack, Nak, Stall, Data0, Data1}
use Rattle.buffer.specs.declared.StartSplit.{StartSplit}
use Rattle.buffer.specs.declared.Key.{Key}
use Rattle.port.specs.declared.LineEvent.{LineEvent}
use Rattle.port.specs.declared.LineEvent.TheVariants.{AttachLow, AttachFull, Detach, Chirp, Wake, PortError, OverCurrentOn, OverCurrentOff}
use Rattle.bools.specs.Bit.{bit}
use Rattle.translator.specs.Answers.{lane_number, pid_number}
use Rattle.numbers.specs.Written.{type_number, direction_number, result_written, event_number}
use Rattle.numbers.specs.Named.{is_pid, pid_from, is_type, type_from, is_result, result_from, is_direction, direction_from, is_lane, lane_from, is_event, event_from, is_flag, flag_from, port_named}
use Rattle.numbers.specs.Split.{split_named, split_from, key_named, key_from}
use Rattle.numbers.specs.Claims.{Naming, SplitHas, KeyHas, NumbersClaims}

-- one of two tests passes
by_either : {X : Type 0} (a b : Bool) → (a || b) ≡ true → (a ≡ true → X) → (b ≡ true → X) → X
by_either true b h f g = f refl
by_either false b h f g = g h

-- the number comes back of what n names, if it does at m and n is m
back_at : {X : Type 0} (from : ℕ → X) (number : X → ℕ) (m n : ℕ) → number (from m) ≡ m → eqb n m ≡ true → number (from n) ≡ n
back_at from number m n p e = subst (λ (k : ℕ). number (from k) ≡ k) (sym (eqb-true n m e)) p

lanes : Naming Lane is_lane lane_from lane_number
lanes = record { named = named; value_back = back; number_back = number_back }
  where
    named : (l : Lane) → is_lane (lane_number l) ≡ true
    named Zero = refl
    named One = refl

    back : (l : Lane) → lane_from (lane_number l) ≡ l
    back Zero = refl
    back One = refl

    number_back : (n : ℕ) → is_lane n ≡ true → lane_number (lane_from n) ≡ n
    number_back n h = by_either (eqb n 0) (eqb n 1) h (back_at lane_from lane_number 0 n refl) (back_at lane_from lane_number 1 n refl)

pids : Naming Pid is_pid pid_from pid_number
pids = record { named = named; value_back = back; number_back = number_back }
  where
    named : (p : Pid) → is_pid (pid_number p) ≡ true
    named pid.Out = refl
    named pid.In = refl
    named pid.Setup = refl

    back : (p : Pid) → pid_from (pid_number p) ≡ p
    back pid.Out = refl
    back pid.In = refl
    back pid.Setup = refl

    number_back : (n : ℕ) → is_pid n ≡ true → pid_number (pid_from n) ≡ n
    number_back n h =
        by_either (eqb n 1) (eqb n 9 || eqb n 13) h (back_at pid_from pid_number 1 n refl)
        (λ h. by_either (eqb n 9) (eqb n 13) h (back_at pid_from pid_number 9 n refl) (back_at pid_from pid_number 13 n refl))

types : Naming TransferType is_type type_from type_number
types = record { named = named; value_back = back; number_back = number_back }
  where
    named : (t : TransferType) → is_type (type_number t) ≡ true
    named Control = refl
    named Bulk = refl

    back : (t : TransferType) → type_from (type_number t) ≡ t
    back Control = refl
    back Bulk = refl

    number_back : (n : ℕ) → is_type n ≡ true → type_number (type_from n) ≡ n
    number_back n h = by_either (eqb n 0) (eqb n 2) h (back_at type_from type_number 0 n refl) (back_at type_from type_number 2 n refl)

directions : Naming Direction is_direction direction_from direction_number
directions = record { named = named; value_back = back; number_back = number_back }
  where
    named : (d : Direction) → is_direction (direction_number d) ≡ true
    named direction.Out = refl
    named direction.In = refl

    back : (d : Direction) → direction_from (direction_number d) ≡ d
    back direction.Out = refl
    back direction.In = refl

    number_back : (n : ℕ) → is_direction n ≡ true → direction_number (direction_from n) ≡ n
    number_back n h =
        by_either (eqb n 0) (eqb n 1) h (back_at direction_from direction_number 0 n refl) (back_at direction_from direction_number 1 n refl)

results : Naming DeviceResult is_result result_from result_written
results = record { named = named; value_back = back; number_back = number_back }
  where
    named : (r : DeviceResult) → is_result (result_written r) ≡ true
    named Failure = refl
    named Ack = refl
    named Nak = refl
    named Stall = refl
    named Data0 = refl
    named Data1 = refl

    back : (r : DeviceResult) → result_from (result_written r) ≡ r
    back Failure = refl
    back Ack = refl
    back Nak = refl
    back Stall = refl
    back Data0 = refl
    back Data1 = refl

    handshake : (n : ℕ) → (eqb n 2 || (eqb n 10 || eqb n 14)) ≡ true → result_written (result_from n) ≡ n
    handshake n h =
        by_either (eqb n 2) (eqb n 10 || eqb n 14) h (back_at result_from result_written 2 n refl)
        (λ h. by_either (eqb n 10) (eqb n 14) h (back_at result_from result_written 10 n refl) (back_at result_from result_written 14 n refl))

    data_pids : (n : ℕ) → (eqb n 3 || eqb n 11) ≡ true → result_written (result_from n) ≡ n
    data_pids n h = by_either (eqb n 3) (eqb n 11) h (back_at result_from result_written 3 n refl) (back_at result_from result_written 11 n refl)

    number_back : (n : ℕ) → is_result n ≡ true → result_written (result_from n) ≡ n
    number_back n h =
        by_either (eqb n 0) ((eqb n 2 || (eqb n 10 || eqb n 14)) || (eqb n 3 || eqb n 11)) h (back_at result_from result_written 0 n refl)
        (λ h. by_either (eqb n 2 || (eqb n 10 || eqb n 14)) (eqb n 3 || eqb n 11) h (handshake n) (data_pids n))

events : Naming LineEvent is_event event_from event_number
events = record { named = named; value_back = back; number_back = number_back }
  where
    named : (e : LineEvent) → is_event (event_number e) ≡ true
    named AttachLow = refl
    named AttachFull = refl
    named Detach = refl
    named Chirp = refl
    named Wake = refl
    named PortError = refl
    named OverCurrentOn = refl
    named OverCurrentOff = refl

    back : (e : LineEvent) → event_from (event_number e) ≡ e
    back AttachLow = refl
    back AttachFull = refl
    back Detach = refl
    back Chirp = refl
    back Wake = refl
    back PortError = refl
    back OverCurrentOn = refl
    back OverCurrentOff = refl

    number_back : (n : ℕ) → is_event n ≡ true → event_number (event_from n) ≡ n
    number_back zero h = refl
    number_back (suc zero) h = refl
    number_back (suc (suc zero)) h = refl
    number_back (suc (suc (suc zero))) h = refl
    number_back (suc (suc (suc (suc zero)))) h = refl
    number_back (suc (suc (suc (suc (suc zero))))) h = refl
    number_back (suc (suc (suc (suc (suc (suc zero)))))) h = refl
    number_back (suc (suc (suc (suc (suc (suc (suc zero))))))) h = refl
    number_back (suc (suc (suc (suc (suc (suc (suc (suc n)))))))) h =
        let l = leb-true (suc (suc (suc (suc (suc (suc (suc (suc n)))))))) 7 h in
        absurd (omega arith)

flags : Naming Bool is_flag flag_from bit
flags = record { named = named; value_back = back; number_back = number_back }
  where
    named : (b : Bool) → is_flag (bit b) ≡ true
    named true = refl
    named false = refl

    back : (b : Bool) → flag_from (bit b) ≡ b
    back true = refl
    back false = refl

    number_back : (n : ℕ) → is_flag n ≡ true → bit (flag_from n) ≡ n
    number_back zero h = refl
    number_back (suc zero) h = refl
    number_back (suc (suc n)) h = let l = leb-true (suc (suc n)) 1 h in absurd (omega arith)

low_7 : (a : ℕ) → ltb a 128 ≡ true → a % 128 ≡ a
low_7 a h = omega (arith, ltb-true a 128 h)

low_4 : (e : ℕ) → ltb e 16 ≡ true → e % 16 ≡ e
low_4 e h = omega (arith, ltb-true e 16 h)

split_back : (z p t l g a e : ℕ) → split_named z p t l g a e ≡ true → SplitHas (split_from z p t l g a e) z p t l g a e
unfolding split_named split_from
split_back z p t l g a e h =
    let w = (and-eq-true_iff (is_lane z) ((is_pid p && is_type t) && ((is_flag l && is_flag g) && (ltb a 128 && ltb e 16)))).0 h in
    let x = (and-eq-true_iff (is_pid p && is_type t) ((is_flag l && is_flag g) && (ltb a 128 && ltb e 16))).0 w.1 in
    let kind = (and-eq-true_iff (is_pid p) (is_type t)).0 x.0 in
    let y = (and-eq-true_iff (is_flag l && is_flag g) (ltb a 128 && ltb e 16)).0 x.1 in
    let flag = (and-eq-true_iff (is_flag l) (is_flag g)).0 y.0 in
    let device = (and-eq-true_iff (ltb a 128) (ltb e 16)).0 y.1 in
    record {
      lane_number_lem = lanes.number_back z w.0;
      pid_number_lem = pids.number_back p kind.0;
      type_number_lem = types.number_back t kind.1;
      low_speed_flag = flags.number_back l flag.0;
      toggle_flag = flags.number_back g flag.1;
      address_number = low_7 a device.0;
      endpoint_number = low_4 e device.1;
    }

key_back : (z a e d : ℕ) → key_named z a e d ≡ true → KeyHas (key_from z a e d) z a e d
unfolding key_named key_from
key_back z a e d h =
    let w = (and-eq-true_iff (is_lane z) ((ltb a 128 && ltb e 16) && is_direction d)).0 h in
    let x = (and-eq-true_iff (ltb a 128 && ltb e 16) (is_direction d)).0 w.1 in
    let device = (and-eq-true_iff (ltb a 128) (ltb e 16)).0 x.0 in
    record {
      lane_number_lem = lanes.number_back z w.0;
      address_number = low_7 a device.0;
      endpoint_number = low_4 e device.1;
      direction_number_lem = directions.number_back d x.1;
    }

split_named_lem : (s : StartSplit) → s.address.0 < 128 → s.endpoint < 16
    → split_named (lane_number s.lane) (pid_number s.pid) (type_number s.transfer) (bit s.lowspeed) (bit s.toggle) s.address.0 s.endpoint ≡ true
unfolding split_named
split_named_lem s h g =
    rw (lanes.named s.lane, pids.named s.pid, types.named s.transfer, flags.named s.lowspeed, flags.named s.toggle, lt-ltb s.address.0 128 h, lt-ltb s.endpoint 16 g)

split_value : (s : StartSplit) → s.address.0 < 128 → s.endpoint < 16
    → split_from (lane_number s.lane) (pid_number s.pid) (type_number s.transfer) (bit s.lowspeed) (bit s.toggle) s.address.0 s.endpoint ≡ s
unfolding split_from
split_value s h g = λ i. record {
  lane = lanes.value_back s.lane i;
  pid = pids.value_back s.pid i;
  transfer = types.value_back s.transfer i;
  lowspeed = flags.value_back s.lowspeed i;
  toggle = flags.value_back s.toggle i;
  address = record { 0 = low_7 s.address.0 (lt-ltb s.address.0 128 h) i };
  endpoint = low_4 s.endpoint (lt-ltb s.endpoint 16 g) i;
}

key_named_lem : (k : Key) → k.address.0 < 128 → k.endpoint < 16 → key_named (lane_number k.lane) k.address.0 k.endpoint (direction_number k.direction) ≡ true
unfolding key_named
key_named_lem k h g = rw (lanes.named k.lane, lt-ltb k.address.0 128 h, lt-ltb k.endpoint 16 g, directions.named k.direction)

key_value : (k : Key) → k.address.0 < 128 → k.endpoint < 16 → key_from (lane_number k.lane) k.address.0 k.endpoint (direction_number k.direction) ≡ k
unfolding key_from
key_value k h g = λ i. record {
  lane = lanes.value_back k.lane i;
  address = record { 0 = low_7 k.address.0 (lt-ltb k.address.0 128 h) i };
  endpoint = low_4 k.endpoint (lt-ltb k.endpoint 16 g) i;
  direction = directions.value_back k.direction i;
}

port_range : (count n : ℕ) → (port_named count n ≡ true) ↔ ((1 ≤ n) × (n ≤ count))
port_range count n = (
  λ h. let x = (and-eq-true_iff (leb 1 n) (leb n count)).0 h in (leb-true 1 n x.0, leb-true n count x.1),
  λ h. rw (le-leb 1 n h.0, le-leb n count h.1),
)

below_128 : (a : ℕ) → a % 128 < 128
below_128 a = omega arith

below_16 : (e : ℕ) → e % 16 < 16
below_16 e = omega arith

split_address : (z p t l g a e : ℕ) → (split_from z p t l g a e).address.0 < 128
unfolding split_from
split_address z p t l g a e = below_128 a

split_endpoint : (z p t l g a e : ℕ) → (split_from z p t l g a e).endpoint < 16
unfolding split_from
split_endpoint z p t l g a e = below_16 e

key_address : (z a e d : ℕ) → (key_from z a e d).address.0 < 128
unfolding key_from
key_address z a e d = below_128 a

key_endpoint : (z a e d : ℕ) → (key_from z a e d).endpoint < 16
unfolding key_from
key_endpoint z a e d = below_16 e

pub numbers_claims_lem : NumbersClaims
numbers_claims_lem =
    record {
      lanes = lanes;
      pids = pids;
      types = types;
      results = results;
      directions = directions;
      events = events;
      flags = flags;
      split_address = split_address;
      split_endpoint = split_endpoint;
      key_address = key_address;
      key_endpoint = key_endpoint;
      split_back = split_back;
      key_back = key_back;
      split_named_lem = split_named_lem;
      split_value = split_value;
      key_named_lem = key_named_lem;
      key_value = key_value;
      port_range = port_range;
    }
