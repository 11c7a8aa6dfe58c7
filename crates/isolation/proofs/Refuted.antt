-- Concrete runs of the rules with a disturbance. Assumes nothing.
use Prim.Native.Nat.{ℕ, ◌^◌}
use native.Mathlib.Omega.{arith}
use mathlib.Core.Path.{◌≡◌, refl, sym, ap}
use mathlib.Core.Bool.{true≢false}
use mathlib.Core.List.{List, [], ◌∷◌}
use mathlib.Core.Logic.{inr}
use lib.ListN.{get_or}
use Rattle.payload.specs.Payload.{padded, payload_of}
use Rattle.port.specs.declared.Port.{Port}
use Rattle.port.specs.declared.PortNumber.{PortNumber}
use Rattle.port.specs.declared.PortState.{PortState}
use Rattle.port.specs.declared.PortState.TheVariants.{NotConfigured, PoweredOff, Disconnected, Disabled, Resetting, Enabled, Suspended, Resuming}
use Rattle.ports.specs.Ports.{port_at, with_port}
use Rattle.ports.specs.Bitmap.{bitmap_of}
use Rattle.ports.specs.Sweep.{front, swept}
use Rattle.buffer.specs.Same.{same_key}
use Rattle.buffer.specs.Lengths.{numbers_fit, start_fits}
use Rattle.translator.specs.declared.Translator.{Translator}
use Rattle.translator.specs.Order.{pass, waiting, ranked}
use Rattle.translator.specs.Search.{find, chosen}
use Rattle.translator.specs.Limit.{permitted}
use Rattle.translator.specs.Translator.{tally}
use Rattle.translator.specs.StartSplit.{stored, start_split}
use Rattle.numbers.specs.Split.{split_named, split_from}
use Rattle.request.specs.Table.{kind_of}
use Rattle.request.specs.Request.{checked, request_of}
use Rattle.hub.specs.Hub.{new_fits, configured_as, ticked_hub}
use Rattle.hub.specs.Call.{Call, Control, Poll, Start, Complete, Launch, Deliver, Event, Tick, BusReset, Answer}
use Rattle.hub.specs.Cases.{set_configuration1, get_port_status, set_power, set_reset, attach_full, detach, over_current_on, start_in}
use Rattle.hub.specs.Requests.{requested}
use Rattle.hub.specs.Rules.{polled}
use Rattle.hub.specs.Checks.{within, has_space, not_silent, fitting}
use Rattle.hub.specs.Step.{served, step}
use Rattle.runs.specs.Machine.{after_from}
use Rattle.runs.specs.Altered.{altered_ports}
use Rattle.runs.specs.Demand2.{reached_by}
use Rattle.runs.proofs.Reaching.{reached}
use Rattle.runs.proofs.Refuted.{bench}
use Rattle.isolation.specs.Naming.{naming, struck}
use Rattle.isolation.specs.Isolation.{bit_at, SameBut, SamePoll, same, bytes, byte_or_none, none_or_byte, AtMatchingPoints}
use Rattle.isolation.proofs.Polls.{none_set}
use Rattle.isolation.specs.Disturbances.{powers_all_off, empties_translator, stops_hub, takes_timers_back, port1, reads_first, polls_all, hides_others, hides_first, tells_powered, SameAnswersOf, DisturbancesShutOut}

-- ---- two histories on the bench hub, with and without a call that names port 1

-- a number for a state: of Resetting its timer
abbrev code : PortState → ℕ
code NotConfigured = 0
code PoweredOff = 1
code Disconnected = 2
code (Disabled s) = 3
code (Resetting s t) = t
code (Enabled s) = 5
code (Suspended s) = 6
code (Resuming s t) = 7

-- port 2 is powered; over-current on port 1 powers it off
all_off : ¬ (AtMatchingPoints (altered_ports powers_all_off) SameBut)
unfolding bench new_fits after_from struck naming port_at with_port front swept kind_of checked request_of configured_as within has_space not_silent fitting
all_off claim =
    let calls : List Call → List Call = λ l. set_configuration1 ∷ set_power 2 ∷ l in
    let left = claim port1 bench bench (calls (over_current_on 1 ∷ [])) (calls []) (record { new_hubs = refl; left = refl }) in
    let z : ◌≡◌ {A = ℕ} 1 2 = ap (λ (p : Port). code p.state) (left.other_ports (record { 0 = 2 }) (λ e. omega (arith, e))).port in
    omega (arith, z)

-- a start-split is pending; a detach at port 1 drops it
translator_emptied : ¬ (AtMatchingPoints (altered_ports empties_translator) SameBut)
unfolding bench new_fits after_from struck naming port_at with_port front swept padded payload_of same_key numbers_fit start_fits find chosen permitted pass tally ranked stored start_split split_named split_from kind_of checked request_of configured_as within has_space not_silent fitting served
translator_emptied claim =
    let calls : List Call → List Call = λ l. set_configuration1 ∷ set_power 1 ∷ attach_full 1 ∷ start_in 5 1 ∷ l in
    let left = claim port1 bench bench (calls (detach 1 ∷ [])) (calls []) (record { new_hubs = refl; left = refl }) in
    let z : ◌≡◌ {A = ℕ} 0 1 = ap (λ (t : Translator). waiting t.buffers) left.translator in
    omega (arith, z)

-- over-current on port 1, and the hub is unconfigured
hub_stopped : ¬ (AtMatchingPoints (altered_ports stops_hub) SameBut)
unfolding bench new_fits after_from struck naming port_at with_port front swept kind_of checked request_of configured_as within has_space not_silent fitting
hub_stopped claim =
    let left = claim port1 bench bench (set_configuration1 ∷ set_power 1 ∷ over_current_on 1 ∷ []) (set_configuration1 ∷ []) (record { new_hubs = refl; left = refl }) in
    true≢false (sym left.configured)

-- port 2 has had one tick of its reset; a reset of port 1 takes it back
timers_back_lem : ¬ (AtMatchingPoints (altered_ports takes_timers_back) SameBut)
unfolding bench new_fits after_from struck naming port_at with_port front swept kind_of checked request_of configured_as ticked_hub within has_space not_silent fitting served
timers_back_lem claim =
    let calls : List Call → List Call = λ l. set_configuration1 ∷ set_power 1 ∷ attach_full 1 ∷ set_power 2 ∷ attach_full 2 ∷ set_reset 2 ∷ Tick ∷ l in
    let left = claim port1 bench bench (calls (set_reset 1 ∷ [])) (calls []) (record { new_hubs = refl; left = refl }) in
    let z : ◌≡◌ {A = ℕ} 0 1 = ap (λ (p : Port). code p.state) (left.other_ports (record { 0 = 2 }) (λ e. omega (arith, e))).port in
    omega (arith, z)

-- port 1 is powered, and port 2's status tells it
first_read : ¬ (SameAnswersOf reads_first)
unfolding bench new_fits after_from struck naming port_at with_port front swept kind_of checked request_of configured_as within has_space not_silent fitting
first_read claim =
    let left = claim port1 bench bench (set_configuration1 ∷ set_power 1 ∷ []) (set_configuration1 ∷ []) (record { new_hubs = refl; left = refl }) in
    let told = left.calls (get_port_status 2) (get_port_status 2) refl refl (λ z room e. no_poll e) in
    let z : ◌≡◌ {A = ℕ} 1 0 = ap (λ (a : Answer). get_or a.bytes 1 0) told in
    omega (arith, z)
  where
    kind : Call → ℕ
    kind (Control z s room) = 0
    kind (Poll z room) = 1
    kind (Start z p t f g a e l) = 2
    kind (Complete z a e d room) = 3
    kind (Launch room) = 4
    kind (Deliver r l) = 5
    kind (Event e n) = 6
    kind Tick = 7
    kind BusReset = 8

    no_poll : {z room : ℕ} → ¬ (get_port_status 2 ≡ Poll z room)
    no_poll e = let k : ◌≡◌ {A = ℕ} 0 1 = ap kind e in omega (arith, k)

-- a byte that faces 3 is bit p
byte_alone : (p : PortNumber) (a b : Answer) → SamePoll p a b → a.number ≡ 1 → b.number ≡ 3 → a.bytes ≡ 2 ^ p.0 ∷ []
byte_alone p a b (same c) u v = absurd (omega (arith, u, v))
byte_alone p a b (bytes x y j k e) u v = absurd (omega (arith, v))
byte_alone p a b byte_or_none u v = refl
byte_alone p a b none_or_byte u v = absurd (omega (arith, u))

-- two bytes have the same bits but for bit p
bit_kept : (p : PortNumber) (a b : Answer) → SamePoll p a b → a.number ≡ 1 → b.number ≡ 1 → (i : ℕ) → ¬ (i ≡ p.0)
    → bit_at (get_or a.bytes 0 0) i ≡ bit_at (get_or b.bytes 0 0) i
bit_kept p a b (same c) u v i d = refl
bit_kept p a b (bytes x y j k e) u v i d = e i d
bit_kept p a b byte_or_none u v i d = absurd (omega (arith, v))
bit_kept p a b none_or_byte u v i d = absurd (omega (arith, u))

-- a device is at port 1, and the poll tells of all
all_polled : ¬ (SameAnswersOf polls_all)
unfolding bench new_fits after_from struck naming port_at with_port front swept bitmap_of kind_of checked request_of configured_as within has_space not_silent fitting
all_polled claim =
    let left = claim port1 bench bench (set_configuration1 ∷ set_power 1 ∷ attach_full 1 ∷ []) (set_configuration1 ∷ []) (record { new_hubs = refl; left = refl }) in
    let told = byte_alone port1 _ _ (left.polls (Poll 0 64) (Poll 0 64) 0 64 refl refl) refl refl in
    let z : ◌≡◌ {A = ℕ} 0xFE 2 = ap (λ (l : List ℕ). get_or l 0 0) told in
    omega (arith, z)

-- devices are at ports 1 and 2, and the poll tells of port 1 alone
others_hidden : ¬ (SameAnswersOf hides_others)
unfolding bench new_fits after_from struck naming port_at with_port front swept bitmap_of polled kind_of checked request_of configured_as within has_space not_silent fitting
others_hidden claim =
    let calls : List Call → List Call = λ l. set_configuration1 ∷ set_power 2 ∷ attach_full 2 ∷ l in
    let left = claim port1 bench bench (calls (set_power 1 ∷ attach_full 1 ∷ [])) (calls []) (record { new_hubs = refl; left = refl }) in
    true≢false (sym (bit_kept port1 _ _ (left.polls (Poll 0 64) (Poll 0 64) 0 64 refl refl) refl refl 2 (λ e. omega (arith, e))))

-- a device is at port 1, and the poll doesn't tell of it
first_hidden : ¬ (SameAnswersOf hides_first)
unfolding bench new_fits after_from struck naming port_at with_port front swept bitmap_of polled kind_of checked request_of configured_as requested within has_space not_silent fitting served step
first_hidden claim =
    let quiet = (none_set (reached_by bench (set_configuration1 ∷ [])) (reached bench (set_configuration1 ∷ []))).0 refl in
    let left = claim port1 bench bench (set_configuration1 ∷ set_power 1 ∷ attach_full 1 ∷ []) (set_configuration1 ∷ []) (record { new_hubs = refl; left = refl }) in
    let z : ◌≡◌ {A = ℕ} 3 1 = ((left.one_or_none (Poll 0 64) (Poll 0 64) 0 64 refl refl (inr refl)).1 (refl, quiet)).0 in
    omega (arith, z)

-- port 1 is powered, and the poll tells of it
powered-told : ¬ (SameAnswersOf tells_powered)
unfolding bench new_fits after_from struck naming port_at with_port front swept bitmap_of polled kind_of checked request_of configured_as within has_space not_silent fitting
powered-told claim =
    let left = claim port1 bench bench (set_configuration1 ∷ set_power 1 ∷ []) (set_configuration1 ∷ []) (record { new_hubs = refl; left = refl }) in
    true≢false (sym ((left.one_or_none (Poll 0 64) (Poll 0 64) 0 64 refl refl (inr refl)).0 (refl, refl)).0)

pub disturbances_shut_out_lem : DisturbancesShutOut
disturbances_shut_out_lem =
    record {
      powers_all_off_lem = all_off;
      empties_translator_lem = translator_emptied;
      stops_hub_lem = hub_stopped;
      takes_timers_back_lem = timers_back_lem;
      reads_first_lem = first_read;
      polls_all_lem = all_polled;
      hides_others_lem = others_hidden;
      hides_first_lem = first_hidden;
      tells_powered_lem = powered-told;
    }
