-- Concrete runs of the rules with a mistake that break the tally. Assumes nothing.
use Prim.Native.Nat.{ℕ}
use native.Mathlib.Omega.{arith}
use mathlib.Core.Path.{◌≡◌}
use mathlib.Core.List.{[], ◌∷◌}
use Rattle.payload.specs.Payload.{padded, payload_of}
use Rattle.buffer.specs.Same.{same_key}
use Rattle.buffer.specs.Lengths.{numbers_fit, start_fits, result_length}
use Rattle.ports.specs.Sweep.{front, swept}
use Rattle.translator.specs.Order.{pass, ranked, earliest}
use Rattle.translator.specs.Search.{find, chosen}
use Rattle.translator.specs.Limit.{permitted}
use Rattle.translator.specs.Translator.{tally}
use Rattle.translator.specs.StartSplit.{stored, start_split}
use Rattle.translator.specs.CompleteSplit.{complete_split}
use Rattle.translator.specs.Launch as launching
use Rattle.translator.specs.Deliver as delivering
use Rattle.translator.specs.Clear.{clear_buffer}
use Rattle.numbers.specs.Split.{split_named, split_from, key_named, key_from}
use Rattle.request.specs.Table.{kind_of}
use Rattle.request.specs.Request.{checked as asked, request_of}
use Rattle.hub.specs.Hub.{new_fits, configured_as}
use Rattle.hub.specs.Call.{Control, Launch, Deliver}
use Rattle.hub.specs.Requests.{requested}
use Rattle.hub.specs.Checks.{within, has_space, not_silent, fitting}
use Rattle.hub.specs.Step.{served}
use Rattle.runs.specs.History.{asks, open_after, is_open, stores, last_stored}
use Rattle.runs.specs.Machine.{run_from, after_from}
use Rattle.runs.specs.Altered.{altered}
use Rattle.runs.specs.Tally.{stores_it, answers_it, empties_it, is_stored_at, is_answered_at, is_emptied_at, count_to, tally_of, active_buffers, past, TallyHolds}
use Rattle.runs.specs.TallyMistakes.{given_stays_ready, emptied_answers, TallyMistakesShutOut}
use Rattle.runs.proofs.Refuted.{bench, configure, in_to, complete}

-- one stored, one answered, and still one ready
stays_ready : ¬ (TallyHolds (altered given_stays_ready) active_buffers)
unfolding bench new_fits run_from padded payload_of same_key numbers_fit start_fits result_length front swept find chosen permitted pass tally ranked earliest stored start_split complete_split launching.launch delivering.deliver clear_buffer split_named split_from key_named key_from kind_of asked request_of configured_as requested within has_space not_silent fitting served asks open_after is_open stores last_stored after_from past stores_it answers_it empties_it is_stored_at is_answered_at is_emptied_at count_to tally_of
stays_ready claim = let z : ◌≡◌ {A = ℕ} 1 2 = claim bench (configure ∷ in_to 5 ∷ Launch 64 ∷ Deliver 3 (9 ∷ []) ∷ complete 5 1 ∷ []) in omega (arith, z)

-- one stored, emptied, and then answered
answered_too : ¬ (TallyHolds (altered emptied_answers) active_buffers)
unfolding bench new_fits run_from padded payload_of same_key numbers_fit start_fits result_length front swept find chosen permitted pass tally ranked earliest stored start_split complete_split launching.launch delivering.deliver clear_buffer split_named split_from key_named key_from kind_of asked request_of configured_as requested within has_space not_silent fitting served asks open_after is_open stores last_stored after_from past stores_it answers_it empties_it is_stored_at is_answered_at is_emptied_at count_to tally_of
answered_too claim =
    let z : ◌≡◌ {A = ℕ} 1 2 = claim bench (configure ∷ in_to 5 ∷ Control 0 (0x23 ∷ 0x08 ∷ 0x51 ∷ 0x80 ∷ 1 ∷ 0 ∷ 0 ∷ 0 ∷ []) 64 ∷ complete 5 1 ∷ []) in omega (arith, z)

pub tally_mistakes_shut_out_lem : TallyMistakesShutOut
tally_mistakes_shut_out_lem = record { given_stays_ready_lem = stays_ready; emptied_answers_lem = answered_too }
