-- Concrete runs of the rules with a mistake in what they show. Assumes nothing.
use Prim.Native.Nat.{ℕ}
use native.Mathlib.Omega.{arith}
use mathlib.Core.Path.{◌≡◌, refl, sym, ◌∙◌, ap}
use mathlib.Core.List.{List, [], ◌∷◌}
use mathlib.Core.Bool.{Bool, true, false, cond, false≢true}
use lib.ListN.{length, get_or}
use Rattle.payload.specs.Payload.{padded, payload_of}
use Rattle.buffer.specs.declared.Key.{Key}
use Rattle.buffer.specs.declared.Lane.{Lane}
use Rattle.buffer.specs.declared.Lane.TheVariants.{Zero}
use Rattle.buffer.specs.declared.Direction.TheVariants as direction
use Rattle.buffer.specs.Same.{same_key}
use Rattle.buffer.specs.Lengths.{numbers_fit, start_fits, result_length}
use Rattle.ports.specs.Sweep.{front, swept}
use Rattle.translator.specs.Order.{pass, ranked, earliest}
use Rattle.translator.specs.Search.{find, chosen}
use Rattle.translator.specs.Limit.{permitted}
use Rattle.translator.specs.Translator.{tally}
use Rattle.translator.specs.StartSplit.{stored, start_split}
use Rattle.translator.specs.CompleteSplit.{complete_split}
use Rattle.translator.specs.Launch as launching
use Rattle.translator.specs.Deliver as delivering
use Rattle.numbers.specs.Named.{lane_from}
use Rattle.numbers.specs.Split.{split_named, split_from, key_named, key_from}
use Rattle.std.specs.Prelude.{Option, Some, None}
use Rattle.request.specs.declared.Kind.{Kind}
use Rattle.request.specs.declared.Kind.TheVariants as kind
use Rattle.request.specs.Setup.{setup_of}
use Rattle.request.specs.Table.{kind_of}
use Rattle.request.specs.Request.{checked as asked, request_of}
use Rattle.hub.specs.Hub.{new_fits, configured_as}
use Rattle.hub.specs.Call.{Call, Control, Poll, Start, Complete, Launch, Deliver, Event as Line, Tick, BusReset, Answer, plain_answer}
use Rattle.hub.specs.Requests.{requested}
use Rattle.hub.specs.Checks.{within, has_space, not_silent, fitting}
use Rattle.hub.specs.Step.{served, step}
use Rattle.runs.specs.History.{Delivered, key_of, request_asks, asks, open_after, is_open, stores, last_stored, for_after, last_for, delivered_for}
use Rattle.runs.specs.Machine.{ruled, run_from}
use Rattle.runs.specs.Demand3.{Marks, only_key, same, start, deliver, SameCalls, Excepted, SameAnswer, SameAnswers, MarkHidden, AllExplained, DataExplained}
use Rattle.runs.specs.Altered as of
use Rattle.runs.specs.Altered.{altered, Field, field_of}
use Rattle.runs.specs.HidingMistakes.{showing, given_to, is_other, size_shows, wrong_payload, Memory, memory_shows, other_pid, second_result, Puts, HidingMistakesShutOut}
use Rattle.runs.proofs.Refuted.{bench, configure, in_to, complete}

-- OUT to endpoint 1 of device 5, and its key
abbrev out_5 : List ℕ → Call
out_5 l = Start 0 1 2 0 0 5 1 l

abbrev key_out : Key
key_out = key_of Zero 5 1 direction.Out

abbrev key_in : Key
key_in = key_of Zero 5 1 direction.In

same_field : (f : Field) {m : Marks} {c : Call} {a b : Answer} → SameAnswer m c a b → field_of f a ≡ field_of f b
same_field of.number s = s.number
same_field of.pid s = s.pid
same_field of.transfer s = s.transfer
same_field of.lane s = s.lane
same_field of.address s = s.address
same_field of.endpoint s = s.endpoint
same_field of.direction s = s.direction
same_field of.lowspeed s = s.lowspeed
same_field of.toggle s = s.toggle

-- the payload of a start-split shows in the next answer
shown : (f : Field) (put : ℕ → Answer → Answer) → Puts f put → ¬ (MarkHidden (showing put))
unfolding bench new_fits run_from SameCalls SameAnswers padded payload_of same_key numbers_fit start_fits result_length front swept find chosen permitted pass tally ranked earliest stored start_split complete_split launching.launch delivering.deliver split_named split_from key_named key_from kind_of asked request_of configured_as requested within has_space not_silent fitting served step asks open_after is_open stores last_stored for_after last_for delivered_for
shown f put is claim =
    let calls : List ℕ → List Call = λ x. configure ∷ out_5 x ∷ Tick ∷ [] in
    let answers =
    claim key_out bench bench (calls (1 ∷ [])) (calls (2 ∷ [])) refl (same _, (start 0 1 2 0 0 5 1 (1 ∷ []) (2 ∷ []) refl refl, (same _, tt))) in
    let z : ◌≡◌ {A = ℕ} 1 2 = sym (is 1 (plain_answer 0)) ∙ (same_field f answers.1.1.0 ∙ is 2 (plain_answer 0)) in
    omega (arith, z)

size_shown : ¬ (MarkHidden (altered size_shows))
unfolding bench new_fits run_from SameCalls SameAnswers padded payload_of same_key numbers_fit start_fits result_length front swept find chosen permitted pass tally ranked earliest stored start_split complete_split launching.launch delivering.deliver split_named split_from key_named key_from kind_of asked request_of configured_as requested within has_space not_silent fitting served step asks open_after is_open stores last_stored for_after last_for delivered_for
size_shown claim =
    let calls : List ℕ → List Call = λ x. configure ∷ in_to 5 ∷ Launch 64 ∷ Deliver 3 x ∷ complete 5 1 ∷ [] in
    let answers =
    claim key_in bench bench (calls (1 ∷ [])) (calls (2 ∷ [])) refl
    (same _, (same _, (same _, (deliver 3 (1 ∷ []) (2 ∷ []) (record { key = key_in; place = Some 1 }) refl refl refl, (same _, tt))))) in
    let z : ◌≡◌ {A = ℕ} 1 2 = answers.1.1.1.1.0.size in
    omega (arith, z)

-- the marked payload lies in buffer 0 when device 6, in buffer 1, is launched
wrong_payload_lem : ¬ (MarkHidden (altered wrong_payload))
unfolding bench new_fits run_from SameCalls SameAnswers padded payload_of same_key numbers_fit start_fits result_length front swept find chosen permitted pass tally ranked earliest stored start_split complete_split launching.launch delivering.deliver split_named split_from key_named key_from kind_of asked request_of configured_as requested within has_space not_silent fitting served step asks open_after is_open stores last_stored for_after last_for delivered_for
wrong_payload_lem claim =
    let calls : List ℕ → List Call = λ x. configure ∷ in_to 7 ∷ in_to 6 ∷ Launch 64 ∷ Deliver 3 [] ∷ complete 7 1 ∷ out_5 x ∷ Launch 64 ∷ [] in
    let answers =
    claim key_out bench bench (calls (1 ∷ [])) (calls (2 ∷ [])) refl
    (same _, (same _, (same _, (same _, (same _, (same _, (start 0 1 2 0 0 5 1 (1 ∷ []) (2 ∷ []) refl refl, (same _, tt)))))))) in
    let z : ◌≡◌ {A = ℕ} 1 2 = ap (λ (l : List ℕ). get_or l 0 0) (answers.1.1.1.1.1.1.1.0.bytes (λ e. false≢true e)) in
    omega (arith, z)

-- none of a request's bytes is excepted
plain_request : (m : Marks) (z : Lane) (k : Option Kind) (v : ℕ) (a : Answer) → ¬ (Excepted m (request_asks z k v) a)
plain_request m z None v a e = e
plain_request m z (Some kind.SetConfiguration) v a e = e
plain_request m z (Some kind.GetConfiguration) v a e = e
plain_request m z (Some kind.GetHubDescriptor) v a e = e
plain_request m z (Some kind.GetHubStatus) v a e = e
plain_request m z (Some kind.GetPortStatus) v a e = e
plain_request m z (Some kind.ClearHubFeature) v a e = e
plain_request m z (Some kind.ClearPortFeature) v a e = e
plain_request m z (Some kind.SetPortFeature) v a e = e
plain_request m z (Some kind.ClearTTBuffer) v a e = e
plain_request m z (Some kind.ResetTT) v a e = e

plain_call : (m : Marks) (c : Call) (a : Answer) → is_other c ≡ true → ¬ (Excepted m (asks c) a)
unfolding asks
plain_call m (Control z s room) a o = plain_request m (lane_from z) (kind_of (setup_of s).requesttype (setup_of s).code) (setup_of s).value a
plain_call m (Poll z room) a o = λ e. e
plain_call m (Start z p t f g b n l) a o = λ e. e
plain_call m (Complete z b n d room) a o = absurd (false≢true o)
plain_call m (Launch room) a o = absurd (false≢true o)
plain_call m (Deliver r l) a o = λ e. e
plain_call m (Line e n) a o = λ e. e
plain_call m Tick a o = λ e. e
plain_call m BusReset a o = λ e. e

first_of : (b : Bool) (n : ℕ) (l : List ℕ) → b ≡ true → get_or (cond b (n ∷ []) l) 0 0 ≡ n
first_of true n l e = refl
first_of false n l e = absurd (false≢true e)

given : (p : Call → Bool) (c : Call) → p c ≡ true → is_other c ≡ true → ¬ (MarkHidden (ruled (given_to p)))
unfolding bench new_fits run_from SameCalls SameAnswers padded payload_of same_key numbers_fit start_fits result_length front swept find chosen permitted pass tally ranked earliest stored start_split complete_split launching.launch delivering.deliver split_named split_from key_named key_from kind_of asked request_of configured_as requested within has_space not_silent fitting served step open_after is_open stores last_stored for_after last_for delivered_for
given p c e o claim =
    let calls : List ℕ → List Call = λ x. configure ∷ out_5 x ∷ c ∷ [] in
    let answers =
    claim key_out bench bench (calls (1 ∷ [])) (calls (2 ∷ [])) refl (same _, (start 0 1 2 0 0 5 1 (1 ∷ []) (2 ∷ []) refl refl, (same _, tt))) in
    let z : ◌≡◌ {A = ℕ} 1 2 =
    sym (first_of (p c) 1 _ e) ∙ (ap (λ (l : List ℕ). get_or l 0 0) (answers.1.1.0.bytes (plain_call (only_key key_out) c _ o)) ∙ first_of (p c) 2 _ e) in
    omega (arith, z)

memory_shown : (f : Field) (put : ℕ → Answer → Answer) → Puts f put → ¬ (MarkHidden (memory_shows put))
unfolding bench new_fits run_from SameCalls SameAnswers padded payload_of same_key numbers_fit start_fits result_length front swept find chosen permitted pass tally ranked earliest stored start_split complete_split launching.launch delivering.deliver split_named split_from key_named key_from kind_of asked request_of configured_as requested within has_space not_silent fitting served step asks open_after is_open stores last_stored for_after last_for delivered_for
memory_shown f put is claim =
    let over : ℕ → Memory = λ b. record { numbers = bench; byte = b } in
    let answers = claim key_out (over 1) (over 2) (Tick ∷ []) (Tick ∷ []) refl (same _, tt) in
    let z : ◌≡◌ {A = ℕ} 1 2 = sym (is 1 (plain_answer 0)) ∙ (same_field f answers.0 ∙ is 2 (plain_answer 0)) in
    omega (arith, z)

-- the PID of the first
first_pid : List Delivered → ℕ
first_pid [] = 0
first_pid (d ∷ ds) = d.pid

other_pid_lem : ¬ (DataExplained (altered other_pid))
unfolding first_pid bench new_fits run_from AllExplained padded payload_of same_key numbers_fit start_fits result_length front swept find chosen permitted pass tally ranked earliest stored start_split complete_split launching.launch delivering.deliver split_named split_from key_named key_from kind_of asked request_of configured_as requested within has_space not_silent fitting served step asks open_after is_open stores last_stored for_after last_for delivered_for
other_pid_lem claim =
    let z : ◌≡◌ {A = ℕ} 3 11 =
    ap first_pid ((claim bench (configure ∷ in_to 5 ∷ Launch 64 ∷ Deliver 3 (9 ∷ []) ∷ complete 5 1 ∷ [])).1.1.1.1.0 refl) in
    omega (arith, z)

second_result_lem : ¬ (DataExplained (ruled second_result))
unfolding bench new_fits run_from AllExplained padded payload_of same_key numbers_fit start_fits result_length front swept find chosen permitted pass tally ranked earliest stored start_split complete_split launching.launch delivering.deliver split_named split_from key_named key_from kind_of asked request_of configured_as requested within has_space not_silent fitting served step asks open_after is_open stores last_stored for_after last_for delivered_for
second_result_lem claim =
    let z : ◌≡◌ {A = ℕ} 2 1 =
    ap (length {A = Delivered})
    ((claim bench (configure ∷ in_to 5 ∷ Launch 64 ∷ Deliver 3 (8 ∷ []) ∷ Deliver 3 (9 ∷ []) ∷ complete 5 1 ∷ [])).1.1.1.1.1.0 refl) in
    omega (arith, z)

pub hiding_mistakes_shut_out_lem : HidingMistakesShutOut
hiding_mistakes_shut_out_lem =
    record {
      shown = shown;
      given = given;
      size_shown = size_shown;
      wrong_payload_lem = wrong_payload_lem;
      memory_shown = memory_shown;
      other_pid_lem = other_pid_lem;
      second_result_lem = second_result_lem;
    }
