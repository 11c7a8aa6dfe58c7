-- Concrete runs of the rules with a mistake. Assumes nothing.
use Prim.Native.Nat.{ℕ, zero, suc, ◌≤◌}
use native.Mathlib.Omega.{arith}
use mathlib.Core.Path.{◌≡◌, refl, ap}
use mathlib.Core.List.{List, [], ◌∷◌}
use mathlib.Core.Bool.{true, false≢true}
use mathlib.Core.Logic.{◌⊎◌, inl, inr, ⊎_elim}
use lib.ListN.{length, get_or}
use Rattle.payload.specs.Payload.{padded, payload_of}
use Rattle.buffer.specs.declared.Direction.TheVariants as direction
use Rattle.buffer.specs.Same.{same_key}
use Rattle.buffer.specs.Lengths.{numbers_fit, start_fits, result_length}
use Rattle.ports.specs.Sweep.{front, swept}
use Rattle.translator.specs.Order.{pass, ranked, earliest}
use Rattle.translator.specs.Search.{find, chosen}
use Rattle.translator.specs.Limit.{permitted}
use Rattle.translator.specs.Translator.{tally}
use Rattle.translator.specs.StartSplit.{stored, start_split}
use Rattle.translator.specs.CompleteSplit.{complete_split}
use Rattle.translator.specs.Launch as launching
use Rattle.translator.specs.Deliver as delivering
use Rattle.translator.specs.Clear.{clear_buffer}
use Rattle.buffer.specs.declared.Lane.{Lane}
use Rattle.buffer.specs.declared.Lane.TheVariants.{Zero}
use Rattle.numbers.specs.Named.{lane_from}
use Rattle.std.specs.Prelude.{Result, Ok, Err, Option, Some, None}
use Rattle.request.specs.declared.Fault.{Fault}
use Rattle.request.specs.declared.Request.{Request}
use Rattle.request.specs.declared.Request.TheVariants.{SetConfiguration, GetConfiguration, GetHubDescriptor, GetHubStatus, GetPortStatus, ClearHubFeature, ClearPortFeature, SetPortFeature, ClearTTBuffer, ResetTT}
use Rattle.numbers.specs.Split.{split_named, split_from, key_named, key_from}
use Rattle.request.specs.Table.{kind_of}
use Rattle.request.specs.Request.{checked as asked, request_of}
use Rattle.hub.specs.Hub.{new_fits, configured_as}
use Rattle.hub.specs.Call.{Call, Control, Poll, Start, Complete, Launch, Deliver, Event as Line, Tick, BusReset, Answer}
use Rattle.hub.specs.declared.Hub.{Hub}
use Rattle.hub.specs.Requests.{by_request, requested}
use Rattle.hub.specs.Checks.{within, has_space, not_silent, fitting}
use Rattle.hub.specs.Step.{served}
use Rattle.runs.specs.History.{History, Delivered, key_of, asks, open_after, is_open, stores, last_stored, for_after, last_for, delivered_for}
use Rattle.runs.specs.Order.{pending_after, is_pending_at, call_at, Earliest, AllOrdered, LaunchOrder}
use Rattle.runs.specs.Machine.{Numbers, run_from}
use Rattle.runs.specs.Demand3.{only_key, same, deliver, SameCalls, SameAnswers, MarkHidden, AllExplained, DataExplained}
use Rattle.runs.specs.Altered.{own, own_ports, request_by, OwnServed, altered}
use Rattle.runs.specs.Mistakes.{late_result, without_direction, longer_tail, places_twice, latest_first, MistakesShutOut}

-- four ports, three buffers
unfoldable pub bench : Numbers
unfolding new_fits
bench = record { ports = 4; buffers = 3; powergood = 0x32; current = 0x64; removable = 0; fit = refl }

abbrev pub configure : Call
configure = Control 0 (0x00 ∷ 0x09 ∷ 1 ∷ 0 ∷ 0 ∷ 0 ∷ 0 ∷ 0 ∷ []) 64

-- IN to endpoint 1 of a device
abbrev pub in_to : ℕ → Call
in_to a = Start 0 9 2 0 0 a 1 []

abbrev pub complete : ℕ → ℕ → Call
complete a d = Complete 0 a 1 d 64

-- ClearTTBuffer of IN, device 5, endpoint 1
abbrev pub clear_5 : Call
clear_5 = Control 0 (0x23 ∷ 0x08 ∷ 0x51 ∷ 0x80 ∷ 1 ∷ 0 ∷ 0 ∷ 0 ∷ []) 64

late : ¬ (DataExplained (altered late_result))
unfolding bench new_fits run_from AllExplained padded payload_of same_key numbers_fit start_fits result_length front swept find chosen permitted pass tally ranked earliest stored start_split complete_split launching.launch delivering.deliver clear_buffer split_named split_from key_named key_from kind_of asked request_of configured_as requested within has_space not_silent fitting served asks open_after is_open stores last_stored for_after last_for delivered_for
late claim =
    let z : ◌≡◌ {A = ℕ} 0 1 =
    ap (length {A = Delivered})
    ((claim bench (configure ∷ in_to 5 ∷ Launch 64 ∷ clear_5 ∷ in_to 6 ∷ Deliver 3 (9 ∷ []) ∷ complete 6 1 ∷ [])).1.1.1.1.1.1.0 refl) in
    omega (arith, z)

-- the same run with other bytes for device 5: they show in the answer for device 6
late_shows : ¬ (MarkHidden (altered late_result))
unfolding bench new_fits run_from SameCalls SameAnswers padded payload_of same_key numbers_fit start_fits result_length front swept find chosen permitted pass tally ranked earliest stored start_split complete_split launching.launch delivering.deliver clear_buffer split_named split_from key_named key_from kind_of asked request_of configured_as requested within has_space not_silent fitting served asks open_after is_open stores last_stored for_after last_for delivered_for
late_shows claim =
    let calls : List ℕ → List Call = λ x. configure ∷ in_to 5 ∷ Launch 64 ∷ clear_5 ∷ in_to 6 ∷ Deliver 3 x ∷ complete 6 1 ∷ [] in
    let answers =
    claim (key_of Zero 5 1 direction.In) bench bench (calls (1 ∷ [])) (calls (2 ∷ [])) refl
    (same _, (same _, (same _, (same _, (same _, (deliver 3 (1 ∷ []) (2 ∷ []) (record { key = key_of Zero 5 1 direction.In; place = Some 1 }) refl refl refl, (same _, tt))))))) in
    let other : ¬ (only_key (key_of Zero 5 1 direction.In) (key_of Zero 6 1 direction.In) ≡ true) = λ e. false≢true e in
    let z : ◌≡◌ {A = ℕ} 1 2 = ap (λ (l : List ℕ). get_or l 0 0) (answers.1.1.1.1.1.1.0.bytes other) in
    omega (arith, z)

-- an OUT complete-split is answered with what an IN was delivered
direction_lost : ¬ (DataExplained (altered without_direction))
unfolding bench new_fits run_from AllExplained padded payload_of same_key numbers_fit start_fits result_length front swept find chosen permitted pass tally ranked earliest stored start_split complete_split launching.launch delivering.deliver clear_buffer split_named split_from key_named key_from kind_of asked request_of configured_as requested within has_space not_silent fitting served asks open_after is_open stores last_stored for_after last_for delivered_for
direction_lost claim =
    let z : ◌≡◌ {A = ℕ} 0 1 =
    ap (length {A = Delivered}) ((claim bench (configure ∷ in_to 5 ∷ Launch 64 ∷ Deliver 3 (9 ∷ []) ∷ complete 5 0 ∷ [])).1.1.1.1.0 refl) in
    omega (arith, z)

-- the number of bytes of the first
size : List Delivered → ℕ
size [] = 0
size (d ∷ ds) = length d.bytes

tail_shown : ¬ (DataExplained (altered longer_tail))
unfolding size bench new_fits run_from AllExplained padded payload_of same_key numbers_fit start_fits result_length front swept find chosen permitted pass tally ranked earliest stored start_split complete_split launching.launch delivering.deliver clear_buffer split_named split_from key_named key_from kind_of asked request_of configured_as requested within has_space not_silent fitting served asks open_after is_open stores last_stored for_after last_for delivered_for
tail_shown claim =
    let z : ◌≡◌ {A = ℕ} 1 64 = ap size ((claim bench (configure ∷ in_to 5 ∷ Launch 64 ∷ Deliver 3 (9 ∷ []) ∷ complete 5 1 ∷ [])).1.1.1.1.0 refl) in
    omega (arith, z)

-- the device of a start-split
device : Option Call → ℕ
device None = 0
device (Some (Control z s r)) = 0
device (Some (Poll z r)) = 0
device (Some (Start z p t f g a e l)) = a
device (Some (Complete z a e d r)) = 0
device (Some (Launch r)) = 0
device (Some (Deliver r l)) = 0
device (Some (Line e n)) = 0
device (Some Tick) = 0
device (Some BusReset) = 0

-- what is launched is one of the first three calls
early : {a : Answer} {h : History} (e : Earliest a h) → e.place ≤ 2
    → (device (call_at h 0) ≡ a.address) ⊎ ((device (call_at h 1) ≡ a.address) ⊎ (device (call_at h 2) ≡ a.address))
unfolding device
early {a} {h} e l = go e.place l (ap device e.gives)
  where
    go : (p : ℕ) → p ≤ 2 → device (call_at h p) ≡ a.address
        → (device (call_at h 0) ≡ a.address) ⊎ ((device (call_at h 1) ≡ a.address) ⊎ (device (call_at h 2) ≡ a.address))
    go zero l q = inl q
    go (suc zero) l q = inr (inl q)
    go (suc (suc zero)) l q = inr (inr q)
    go (suc (suc (suc p))) l q = absurd (omega (arith, l))

-- device 6 was stored before device 7, and 7 is launched
twice_placed : ¬ (LaunchOrder (altered places_twice))
unfolding device bench new_fits run_from AllOrdered pending_after is_pending_at call_at padded payload_of same_key numbers_fit start_fits result_length front swept find chosen permitted pass tally ranked earliest stored start_split complete_split launching.launch delivering.deliver clear_buffer split_named split_from key_named key_from kind_of asked request_of configured_as requested within has_space not_silent fitting served asks open_after is_open stores last_stored for_after last_for delivered_for
twice_placed claim =
    let e = (claim bench (configure ∷ in_to 5 ∷ in_to 6 ∷ Launch 64 ∷ Deliver 3 (9 ∷ []) ∷ complete 5 1 ∷ in_to 7 ∷ Launch 64 ∷ [])).1.1.1.1.1.1.1.0.0 refl in
    let f = early e (e.earliest 2 refl) in
    ⊎_elim (λ z. omega (arith, z)) (⊎_elim (λ z. omega (arith, z)) (λ z. omega (arith, z))) f

-- device 5 was stored before device 6, and 6 is launched
latest-launched : ¬ (LaunchOrder (altered latest_first))
unfolding device bench new_fits run_from AllOrdered pending_after is_pending_at call_at padded payload_of same_key numbers_fit start_fits result_length front swept find chosen permitted pass tally ranked earliest stored start_split complete_split launching.launch delivering.deliver clear_buffer split_named split_from key_named key_from kind_of asked request_of configured_as requested within has_space not_silent fitting served asks open_after is_open stores last_stored for_after last_for delivered_for
latest-launched claim =
    let e = (claim bench (configure ∷ in_to 5 ∷ Control 0 (0x80 ∷ 0x08 ∷ 0 ∷ 0 ∷ 0 ∷ 0 ∷ 1 ∷ 0 ∷ []) 64 ∷ in_to 6 ∷ Launch 64 ∷ [])).1.1.1.1.0.0 refl in
    let f = early e (omega (arith, e.earliest 1 refl)) in
    ⊎_elim (λ z. omega (arith, z)) (⊎_elim (λ z. omega (arith, z)) (λ z. omega (arith, z))) f

own_request : (h : Hub) (y : Lane) (r : Result Request Fault) → request_by own own_ports h y r ≡ by_request h y r
own_request h y (Err f) = refl
own_request h y (Ok (SetConfiguration on)) = refl
own_request h y (Ok GetConfiguration) = refl
own_request h y (Ok (GetHubDescriptor n)) = refl
own_request h y (Ok GetHubStatus) = refl
own_request h y (Ok (GetPortStatus n)) = refl
own_request h y (Ok ClearHubFeature) = refl
own_request h y (Ok (ClearPortFeature n f)) = refl
own_request h y (Ok (SetPortFeature n f)) = refl
own_request h y (Ok (ClearTTBuffer k)) = refl
own_request h y (Ok ResetTT) = refl

own_served : OwnServed
unfolding served requested
own_served h (Control z s room) = rw (own_request h (lane_from z) (request_of h.identity.ports s))
own_served h (Poll z room) = refl
own_served h (Start z p t f g a e l) = refl
own_served h (Complete z a e d room) = refl
own_served h (Launch room) = refl
own_served h (Deliver r l) = refl
own_served h (Line e n) = refl
own_served h Tick = refl
own_served h BusReset = refl

pub mistakes_shut_out_lem : MistakesShutOut
mistakes_shut_out_lem =
    record {
      own_served = own_served;
      late_result_lem = late;
      late_result_shows = late_shows;
      without_direction_lem = direction_lost;
      longer_tail_lem = tail_shown;
      places_twice_lem = twice_placed;
      latest_first_lem = latest-launched;
    }
