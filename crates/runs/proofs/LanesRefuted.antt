-- Concrete runs of the rules with a mistake about lanes. Assumes nothing.
use Prim.Native.Nat.{ℕ, ◌<◌}
use native.Mathlib.Omega.{arith}
use mathlib.Core.Path.{◌≡◌, refl, ap}
use Rattle.std.specs.Prelude.{Some}
use mathlib.Core.List.{List, [], ◌∷◌}
use mathlib.Core.Bool.{true≢false, false≢true}
use lib.ListN.{get_or}
use Rattle.payload.specs.Payload.{padded, payload_of}
use Rattle.buffer.specs.declared.Lane.TheVariants.{Zero, One}
use Rattle.buffer.specs.declared.Direction.TheVariants as direction
use Rattle.buffer.specs.Same.{same_key}
use Rattle.buffer.specs.Lengths.{numbers_fit, start_fits, result_length}
use Rattle.ports.specs.Sweep.{front, swept}
use Rattle.translator.specs.Order.{pass, ranked, earliest}
use Rattle.translator.specs.Search.{find, chosen}
use Rattle.translator.specs.Limit.{permitted}
use Rattle.translator.specs.Translator.{tally}
use Rattle.translator.specs.StartSplit.{stored, start_split}
use Rattle.translator.specs.CompleteSplit.{complete_split}
use Rattle.translator.specs.Launch as launching
use Rattle.translator.specs.Deliver as delivering
use Rattle.translator.specs.Clear.{clear_buffer}
use Rattle.translator.specs.ResetLane.{reset_lane}
use Rattle.numbers.specs.Split.{split_named, split_from, key_named, key_from}
use Rattle.request.specs.Table.{kind_of}
use Rattle.request.specs.Request.{checked as asked, request_of}
use Rattle.hub.specs.Hub.{new_fits, configured_as}
use Rattle.hub.specs.Call.{Call, Control, Start, Launch, Deliver}
use Rattle.hub.specs.Requests.{requested}
use Rattle.hub.specs.Checks.{within, has_space, not_silent, fitting}
use Rattle.hub.specs.Step.{served, step}
use Rattle.runs.specs.History.{key_of, asks, open_after, is_open, stores, last_stored, for_after, last_for}
use Rattle.runs.specs.Order.{call_at}
use Rattle.runs.specs.Machine.{new_hub_of, rules, run_from, after_from}
use Rattle.runs.specs.Demand3.{same, deliver, SameCalls, SameAnswers, LaneHidden}
use Rattle.runs.specs.Tally.{stores_it, answers_it, empties_it, is_stored_at, is_answered_at, is_emptied_at, count_to, tally_of, active_buffers, past, TallyHolds}
use Rattle.runs.specs.Share.{AllShared, LaneShare}
use Rattle.runs.specs.Refusals.{nak, Refusals}
use Rattle.runs.specs.Altered.{step_by, altered}
use Rattle.runs.specs.LaneMistakes.{without_lanes, both_emptied, starting_by, no_limit, old_count, own_old_passes, limit_first, LaneMistakesShutOut}
use Rattle.runs.proofs.Reaching.{reached}
use Rattle.runs.proofs.Refuted.{bench, configure, in_to, complete}

-- from lane 1: IN to endpoint 1 of device 5, and ResetTT
abbrev one_5 : Call
one_5 = Start 1 9 2 0 0 5 1 []

abbrev reset_one : Call
reset_one = Control 1 (0x23 ∷ 0x09 ∷ 0 ∷ 0 ∷ 1 ∷ 0 ∷ 0 ∷ 0 ∷ []) 64

-- lane 1's data answers lane 0
without_lanes_lem : ¬ (LaneHidden (altered without_lanes))
unfolding bench new_fits run_from SameCalls SameAnswers padded payload_of same_key numbers_fit start_fits result_length front swept find chosen permitted pass tally ranked earliest stored start_split complete_split launching.launch delivering.deliver clear_buffer split_named split_from key_named key_from kind_of asked request_of configured_as requested within has_space not_silent fitting served asks open_after is_open stores last_stored for_after last_for
without_lanes_lem claim =
    let calls : List ℕ → List Call = λ x. configure ∷ one_5 ∷ Launch 64 ∷ Deliver 3 x ∷ complete 5 1 ∷ [] in
    let answers =
    claim One bench bench (calls (1 ∷ [])) (calls (2 ∷ [])) refl
    (same _, (same _, (same _, (deliver 3 (1 ∷ []) (2 ∷ []) (record { key = key_of One 5 1 direction.In; place = Some 1 }) refl refl refl, (same _, tt))))) in
    let z : ◌≡◌ {A = ℕ} 1 2 = ap (λ (l : List ℕ). get_or l 0 0) (answers.1.1.1.1.0.bytes (λ e. false≢true e)) in
    omega (arith, z)

-- one stored by lane 0, neither answered nor emptied, and nothing pending
both_emptied_lem : ¬ (TallyHolds (altered both_emptied) active_buffers)
unfolding bench new_fits run_from padded payload_of same_key numbers_fit start_fits result_length front swept find chosen permitted pass tally ranked earliest stored start_split complete_split launching.launch delivering.deliver clear_buffer split_named split_from key_named key_from kind_of asked request_of configured_as requested within has_space not_silent fitting served asks open_after is_open stores last_stored after_from past call_at stores_it answers_it empties_it is_stored_at is_answered_at is_emptied_at count_to tally_of
both_emptied_lem claim = let z : ◌≡◌ {A = ℕ} 1 0 = claim bench (configure ∷ in_to 5 ∷ reset_one ∷ []) in omega (arith, z)

-- lane 0 holds all three
no_limit_lem : ¬ (LaneShare (altered (starting_by no_limit)))
unfolding bench new_fits run_from padded payload_of same_key numbers_fit start_fits result_length front swept find chosen permitted pass tally ranked earliest stored start_split complete_split launching.launch delivering.deliver clear_buffer split_named split_from key_named key_from kind_of asked request_of configured_as requested within has_space not_silent fitting served asks open_after is_open stores last_stored past call_at stores_it answers_it empties_it is_stored_at is_answered_at is_emptied_at count_to
no_limit_lem claim = let z : 3 < 3 = claim.few Zero bench (configure ∷ in_to 5 ∷ in_to 6 ∷ in_to 7 ∷ []) in absurd (omega (arith, z))

-- lane 0 has two old buffers and none pending or ready, and is answered 3
old_count_lem : ¬ (LaneShare (altered (starting_by old_count)))
unfolding bench new_fits run_from AllShared padded payload_of same_key numbers_fit start_fits result_length front swept find chosen permitted pass tally ranked earliest stored start_split complete_split launching.launch delivering.deliver clear_buffer split_named split_from key_named key_from kind_of asked request_of configured_as requested within has_space not_silent fitting served asks open_after is_open stores last_stored past call_at stores_it answers_it empties_it is_stored_at is_answered_at is_emptied_at count_to
old_count_lem claim =
    (claim.served bench
    (configure ∷ in_to 5 ∷ in_to 6 ∷ Launch 64 ∷ Deliver 3 [] ∷ Launch 64 ∷ Deliver 3 [] ∷ complete 5 1 ∷ complete 6 1 ∷ in_to 7 ∷ [])
    ).1.1.1.1.1.1.1.1.1.0 refl refl

-- lane 0 has (5,1) old, (6,1) and (7,1) pending, and stores (5,1) again: it holds all three
own_old_passes_lem : ¬ (LaneShare (altered (starting_by own_old_passes)))
unfolding bench new_fits run_from padded payload_of same_key numbers_fit start_fits result_length front swept find chosen permitted pass tally ranked earliest stored start_split complete_split reset_lane launching.launch delivering.deliver clear_buffer split_named split_from key_named key_from kind_of asked request_of configured_as requested within has_space not_silent fitting served asks open_after is_open stores last_stored past call_at stores_it answers_it empties_it is_stored_at is_answered_at is_emptied_at count_to
own_old_passes_lem claim =
    let z : 3 < 3 =
    claim.few Zero bench (configure ∷ one_5 ∷ in_to 5 ∷ in_to 6 ∷ reset_one ∷ Launch 64 ∷ Deliver 3 [] ∷ complete 5 1 ∷ in_to 7 ∷ in_to 5 ∷ []) in
    absurd (omega (arith, z))

-- a repeat at the limit is answered 3
limit_first_lem : ¬ (Refusals (step_by (starting_by limit_first)))
unfolding bench new_fits padded payload_of same_key numbers_fit start_fits result_length front swept find chosen permitted pass tally ranked earliest stored start_split complete_split launching.launch delivering.deliver clear_buffer split_named split_from key_named key_from kind_of asked request_of configured_as requested within has_space not_silent fitting served step after_from
limit_first_lem claim =
    let before : List Call = configure ∷ in_to 5 ∷ in_to 6 ∷ [] in
    true≢false (((claim.exactly nak (after_from rules (new_hub_of bench) before) (in_to 5) (reached bench before)).0 refl).applies.0 0 refl)

pub lane_mistakes_shut_out_lem : LaneMistakesShutOut
lane_mistakes_shut_out_lem =
    record {
      without_lanes_lem = without_lanes_lem;
      both_emptied_lem = both_emptied_lem;
      no_limit_lem = no_limit_lem;
      old_count_lem = old_count_lem;
      own_old_passes_lem = own_old_passes_lem;
      limit_first_lem = limit_first_lem;
    }
