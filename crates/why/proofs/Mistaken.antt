-- Tools and rules with a mistake: a hub and a call, or a run, for each. Assumes nothing.
use Prim.Native.Nat.{ℕ}
use native.Mathlib.Omega.{arith}
use mathlib.Core.Path.{◌≡◌, refl, ap}
use mathlib.Core.Bool.{true≢false, false≢true}
use mathlib.Core.List.{List, [], ◌∷◌}
use lib.ListN.{length, get_or}
use Rattle.payload.specs.declared.Payload.{Payload}
use Rattle.payload.specs.Payload.{payload_of}
use Rattle.buffer.specs.declared.Lane.TheVariants.{Zero}
use Rattle.buffer.specs.declared.Direction.TheVariants as direction
use Rattle.buffer.specs.Same.{same_key}
use Rattle.buffer.specs.Buffer.{is_pending}
use Rattle.buffer.specs.Lengths.{numbers_fit, start_fits, result_length}
use Rattle.port.specs.Reaction.{no_changes}
use Rattle.ports.specs.Ports.{port_at, with_port}
use Rattle.ports.specs.Sweep.{front, swept}
use Rattle.ports.specs.Bitmap.{bitmap_of}
use Rattle.translator.specs.Order.{pass, ranked, earliest}
use Rattle.translator.specs.Search.{find, chosen}
use Rattle.translator.specs.Limit.{permitted}
use Rattle.translator.specs.Translator.{tally}
use Rattle.translator.specs.StartSplit.{stored, start_split}
use Rattle.translator.specs.CompleteSplit.{complete_split}
use Rattle.translator.specs.Launch.{launch}
use Rattle.translator.specs.Deliver.{deliver}
use Rattle.translator.specs.ResetLane.{reset_lane}
use Rattle.numbers.specs.Split.{split_named, split_from, key_named, key_from}
use Rattle.request.specs.Table.{kind_of}
use Rattle.request.specs.Request.{checked, request_of}
use Rattle.hub.specs.declared.Hub.{Hub}
use Rattle.hub.specs.Hub.{new_fits, new_hub, configured_as, ticked_hub}
use Rattle.hub.specs.Call.{Call, Poll, Start, Launch, Answer, plain_answer}
use Rattle.hub.specs.Requests.{requested}
use Rattle.hub.specs.Rules.{polled}
use Rattle.hub.specs.Checks.{within, has_space, not_silent, fitting}
use Rattle.hub.specs.Step.{served, step}
use Rattle.hub.specs.Cases.{set_configuration1, set_port_feature, start_in, start_out, complete_in, deliver_data0, p4, p11, p12}
use Rattle.runs.specs.History.{Event, key_of}
use Rattle.runs.specs.Machine.{new_hub_of, rules, run_from, after_from}
use Rattle.runs.specs.Demand3.{only_key, start}
use Rattle.runs.specs.Altered.{step_by}
use Rattle.runs.specs.LaneMistakes.{starting_by, own_old_passes}
use Rattle.runs.proofs.Reaching.{reached}
use Rattle.runs.proofs.Refuted.{bench}
use Rattle.why.specs.declared.RequestFault.TheVariants as wrong
use Rattle.why.specs.declared.Reason.{Reason}
use Rattle.why.specs.declared.Reason.TheVariants.{Nothing, Number, TookFree, LimitReached, NoRoom, Changed, Wrong}
use Rattle.why.specs.Said.{Said, Passes, TrueOf, number, says}
use Rattle.why.specs.Why.{numbered, changes_by_port, poll_reason, request_reason, rule_reason, why_of}
use Rattle.why.specs.Bytes.{bytes_of}
use Rattle.why.specs.Claims.{WhyTrue, WhyEnough, payload_at}
use Rattle.why.specs.Cases.{buffer, connected, at_ports2_and4, old_above}
use Rattle.why.specs.ExplainedRuns.{make, explain, seen_from, SameItems, SameSeen, makes_of, made_of}
use Rattle.why.specs.Mistakes.{no_reason, number_always, other_buffer, is_old, old_occupied, limit_unnamed, port5_too, past_last_port, value_first, index_first, WhyMistakesShutOut}
use Rattle.why.proofs.Claimed.{why_claims_lem}

-- the bench hub after these calls
hub-after : List Call → Hub
hub-after cs = after_from rules (new_hub_of bench) cs

-- a tool whose reasons are true gives the reasons of ours
the_same : (why : Hub → Call → Reason) → WhyTrue why → (cs : List Call) (c : Call) → why (hub-after cs) c ≡ why_of (hub-after cs) c
unfolding hub-after
the_same why t cs c =
    let h = after_from rules (new_hub_of bench) cs in
    let v = reached bench cs in
    why_claims_lem.only (why h c) (why_of h c) h c v (t h c v) (why_claims_lem.true_of h c v)

-- what the limit says, where it is the reason
limit_says : (h : Hub) (c : Call) → TrueOf LimitReached h c → Passes h c × Said LimitReached h c
limit_says h c (number q l d e) = let z : ◌≡◌ {A = ℕ} 0 1 = cc in absurd (omega arith)
limit_says h c (says p s) = (p, s)

-- at the limit, with an own old buffer
own_old_passes_lem : ¬ (WhyEnough (step_by (starting_by own_old_passes)))
unfolding bench seen_from SameItems SameSeen made_of makes_of run_from payload_of same_key numbers_fit start_fits result_length port_at with_port front swept bitmap_of find chosen permitted pass tally ranked earliest stored start_split complete_split launch deliver reset_lane split_named split_from key_named key_from kind_of checked request_of new_fits new_hub configured_as ticked_hub requested polled within has_space not_silent fitting served step after_from numbered changes_by_port poll_reason request_reason rule_reason why_of
own_old_passes_lem claim =
    let h = after_from rules (new_hub_of bench) old_above in
    let v = reached bench old_above in
    let w = limit_says h (start_in 5 1) (why_claims_lem.true_of h (start_in 5 1) v) in
    let z : plain_answer 0 ≡ plain_answer 3 = claim LimitReached (plain_answer 3) h (start_in 5 1) v.translator.keys refl w.0 w.1 in
    let n : ◌≡◌ {A = ℕ} 0 3 = ap (λ (a : Answer). a.number) z in
    omega (arith, n)

-- devices 5 and 6 are old, in buffers 0 and 1; what device 6 was delivered is one byte
two_old : List Call
two_old =
    set_configuration1 ∷ start_in 5 1 ∷ start_in 6 1 ∷ Launch 64 ∷ deliver_data0 [] ∷ Launch 64 ∷ deliver_data0 (9 ∷ []) ∷ complete_in 5 1
    ∷ complete_in 6 1 ∷ []

-- the number of the first answer
first-number : List Event → ℕ
first-number [] = 0
first-number (e ∷ es) = e.answer.number

pub why_mistakes_shut_out_lem : WhyMistakesShutOut
unfolding hub-after two_old first-number bench seen_from SameItems SameSeen made_of makes_of run_from payload_of same_key numbers_fit start_fits result_length port_at with_port front swept bitmap_of find chosen permitted pass tally ranked earliest stored start_split complete_split launch deliver reset_lane split_named split_from key_named key_from kind_of checked request_of new_fits new_hub configured_as ticked_hub requested polled within has_space not_silent fitting served step after_from numbered changes_by_port poll_reason request_reason rule_reason why_of
why_mistakes_shut_out_lem =
    record {
      no_reason_lem = λ t. let e : Nothing ≡ Number 5 = the_same no_reason t [] (Poll 0 64) in let z : ◌≡◌ {A = ℕ} 0 1 = cc in omega arith;
      number_always_lem = λ t. let e : Number 0 ≡ Nothing = the_same number_always t [] set_configuration1 in let z : ◌≡◌ {A = ℕ} 0 1 = cc in omega arith;
      other_buffer_lem = λ t.
          let e : TookFree (buffer 1) ≡ TookFree (buffer 0) = the_same other_buffer t (set_configuration1 ∷ []) (start_in 5 1) in
          let z : ◌≡◌ {A = ℕ} 1 0 = ap (λ (r : Reason). (bytes_of r).value) e in
          omega (arith, z);
      old_occupied_lem = λ t.
          let e : NoRoom ≡ TookFree (buffer 0) = the_same old_occupied t p12.calls (start_in 7 1) in
          let z : ◌≡◌ {A = ℕ} 0 1 = cc in
          omega arith;
      limit_unnamed_lem = λ t.
          let e : NoRoom ≡ LimitReached = the_same limit_unnamed t p11.calls (start_in 7 1) in
          let z : ◌≡◌ {A = ℕ} 0 1 = cc in
          omega arith;
      past_last_port_lem = λ t.
          let e : Changed (port5_too (at_ports2_and4 connected no_changes)) ≡ Changed (at_ports2_and4 connected no_changes) =
          the_same past_last_port t p4.calls (Poll 0 64) in
          let z : ◌≡◌ {A = ℕ} 1 0 = ap (λ (r : Reason). get_or (bytes_of r).changes 4 0) e in
          omega (arith, z);
      value_first_lem = λ t.
          let e : Wrong wrong.Value ≡ Wrong wrong.Unconfigured = the_same value_first t [] (set_port_feature 3 5) in
          let z : ◌≡◌ {A = ℕ} 0 1 = cc in
          omega arith;
      index_first_lem = λ t.
          let e : Wrong wrong.Index ≡ Wrong wrong.Value = the_same index_first t (set_configuration1 ∷ []) (set_port_feature 3 5) in
          let z : ◌≡◌ {A = ℕ} 0 1 = cc in
          omega arith;
      own_old_passes_lem = own_old_passes_lem;
      none_given = λ t. true≢false ((t (hub-after []) (Poll 0 64) (reached bench [])).0 refl);
      highest_free_lem = λ t.
          let cs = set_configuration1 ∷ [] in
          false≢true (ap is_pending (t (hub-after cs) 0 9 2 0 0 5 1 [] (reached bench cs)).pending);
      without_payload_lem = λ t.
          let cs = set_configuration1 ∷ [] in
          let z : ◌≡◌ {A = ℕ} 0 1 = ap length (t (hub-after cs) 0 1 2 0 0 5 1 (9 ∷ []) (reached bench cs)).payload in
          omega (arith, z);
      old_emptied_lem = λ t.
          false≢true (ap is_old ((t (hub-after two_old) 0 9 2 0 0 7 1 [] (reached bench two_old)).other_slots 1 (λ e. omega (arith, e))));
      old_cleared_lem = λ t.
          let z : ◌≡◌ {A = ℕ} 0 1 =
          ap (λ (p : Payload). p.len) ((t (hub-after two_old) 0 9 2 0 0 7 1 [] (reached bench two_old)).other_payloads 1 (λ e. omega (arith, e))) in
          omega (arith, z);
      repeat_stored_lem = λ t.
          let cs = set_configuration1 ∷ start_out 5 1 (9 ∷ []) ∷ [] in
          let z : ◌≡◌ {A = ℕ} 0 1 = ap (λ (h : Hub). (payload_at h 0).len) (t (hub-after cs) 0 1 2 0 0 5 1 [] (reached bench cs)) in
          omega (arith, z);
      leaks = λ t.
          let e : Number 1 ≡ Number 2 =
          (t (only_key (key_of Zero 5 1 direction.Out)) bench bench (explain (Start 0 1 2 0 0 5 1 (1 ∷ [])) ∷ []) (explain (Start 0 1 2 0 0 5 1 (2 ∷ [])) ∷ []) refl
          (start 0 1 2 0 0 5 1 (1 ∷ []) (2 ∷ []) refl refl, tt)).0 in
          let z : ◌≡◌ {A = ℕ} 1 2 = cc in
          omega (arith, z);
      makes = λ t.
          let z : ◌≡◌ {A = ℕ} 3 5 = ap first-number (t bench (explain set_configuration1 ∷ make (Poll 0 64) ∷ [])) in
          omega (arith, z);
    }
