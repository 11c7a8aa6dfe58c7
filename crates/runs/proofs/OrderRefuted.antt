-- Each mistake in what a launch answers breaks its part of the claim on the order. Assumes nothing.
use Prim.Native.Nat.{ℕ, zero, suc, ◌≤◌}
use native.Mathlib.Omega.{arith}
use mathlib.Core.Path.{◌≡◌, refl, sym, ◌∙◌, ap}
use Rattle.std.specs.Prelude.{Option, Some, None}
use mathlib.Core.List.{[], ◌∷◌}
use mathlib.Core.Bool.{true≢false, false≢true}
use Rattle.payload.specs.Payload.{padded, payload_of}
use Rattle.buffer.specs.Same.{same_key}
use Rattle.buffer.specs.Lengths.{numbers_fit, start_fits, result_length}
use Rattle.ports.specs.Sweep.{front, swept}
use Rattle.translator.specs.Order.{pass, ranked, earliest}
use Rattle.translator.specs.Search.{find, chosen}
use Rattle.translator.specs.Limit.{permitted}
use Rattle.translator.specs.Translator.{tally}
use Rattle.translator.specs.StartSplit.{stored, start_split}
use Rattle.translator.specs.Launch as launching
use Rattle.translator.specs.Deliver as delivering
use Rattle.translator.specs.Clear.{clear_buffer}
use Rattle.numbers.specs.Split.{split_named, split_from}
use Rattle.request.specs.Table.{kind_of}
use Rattle.request.specs.Request.{checked as asked, request_of}
use Rattle.hub.specs.Hub.{new_fits, configured_as}
use Rattle.hub.specs.Call.{Call, Control, Poll, Start, Complete, Launch, Deliver, Event as Line, Tick, BusReset, Answer}
use Rattle.hub.specs.Requests.{requested}
use Rattle.hub.specs.Checks.{within, has_space, not_silent, fitting}
use Rattle.hub.specs.Step.{served, step}
use Rattle.runs.specs.History.{History, asks, open_after, is_open, stores, last_stored, for_after, last_for}
use Rattle.runs.specs.Order.{pending_after, is_pending_at, occupied_after, is_occupied, call_at, Earliest, AllOrdered, LaunchOrder}
use Rattle.runs.specs.Machine.{run_from, ruled}
use Rattle.runs.specs.Altered.{altered}
use Rattle.runs.specs.OrderMistakes.{first_alone, answered_as, inverted_toggle, occupied_if_none, redirected_step, always_out, two_for_out, clear_frees, OrderMistakesShutOut}
use Rattle.runs.proofs.Refuted.{bench, configure, in_to, clear_5}

-- device 6 is pending in buffer 1
first : ¬ (LaunchOrder (altered first_alone))
unfolding bench new_fits run_from AllOrdered pending_after is_pending_at occupied_after is_occupied call_at padded payload_of same_key numbers_fit start_fits result_length front swept find chosen permitted pass tally ranked earliest stored start_split launching.launch delivering.deliver split_named split_from kind_of asked request_of configured_as requested within has_space not_silent fitting served asks open_after is_open stores last_stored for_after last_for
first claim = true≢false ((claim bench (configure ∷ in_to 5 ∷ in_to 6 ∷ Launch 64 ∷ Deliver 3 (9 ∷ []) ∷ Launch 64 ∷ [])).1.1.1.1.1.0.1 refl 2)

-- the toggle of a start-split
toggle : Option Call → ℕ
toggle None = 0
toggle (Some (Control z s r)) = 0
toggle (Some (Poll z r)) = 0
toggle (Some (Start z p t f g a e l)) = g
toggle (Some (Complete z a e d r)) = 0
toggle (Some (Launch r)) = 0
toggle (Some (Deliver r l)) = 0
toggle (Some (Line e n)) = 0
toggle (Some Tick) = 0
toggle (Some BusReset) = 0

-- what is launched is one of the first two calls, and has toggle 0
early : {a : Answer} {h : History} (e : Earliest a h) → e.place ≤ 1 → toggle (call_at h 0) ≡ 0 → toggle (call_at h 1) ≡ 0 → a.toggle ≡ 0
unfolding toggle
early {a} {h} e l x y = sym (ap toggle e.gives) ∙ go e.place l
  where
    go : (p : ℕ) → p ≤ 1 → toggle (call_at h p) ≡ 0
    go zero l = x
    go (suc zero) l = y
    go (suc (suc p)) l = absurd (omega (arith, l))

toggled : ¬ (LaunchOrder (altered (answered_as inverted_toggle)))
unfolding toggle bench new_fits run_from AllOrdered pending_after is_pending_at occupied_after is_occupied call_at padded payload_of same_key numbers_fit start_fits result_length front swept find chosen permitted pass tally ranked earliest stored start_split launching.launch delivering.deliver split_named split_from kind_of asked request_of configured_as requested within has_space not_silent fitting served asks open_after is_open stores last_stored for_after last_for
toggled claim =
    let e = (claim bench (configure ∷ in_to 5 ∷ Launch 64 ∷ [])).1.1.0.0 refl in
    let z : ◌≡◌ {A = ℕ} 1 0 = early e (e.earliest 1 refl) refl refl in
    omega (arith, z)

-- an IN
out : ¬ (LaunchOrder (ruled (redirected_step always_out)))
unfolding bench new_fits run_from AllOrdered pending_after is_pending_at occupied_after is_occupied call_at padded payload_of same_key numbers_fit start_fits result_length front swept find chosen permitted pass tally ranked earliest stored start_split launching.launch delivering.deliver split_named split_from kind_of asked request_of configured_as requested within has_space not_silent fitting served step asks open_after is_open stores last_stored for_after last_for
out claim =
    let z : ◌≡◌ {A = ℕ} 0 1 = ((claim bench (configure ∷ in_to 5 ∷ Launch 64 ∷ [])).1.1.0.0 refl).directed.0 refl in
    omega (arith, z)

-- an OUT
two : ¬ (LaunchOrder (ruled (redirected_step two_for_out)))
unfolding bench new_fits run_from AllOrdered pending_after is_pending_at occupied_after is_occupied call_at padded payload_of same_key numbers_fit start_fits result_length front swept find chosen permitted pass tally ranked earliest stored start_split launching.launch delivering.deliver split_named split_from kind_of asked request_of configured_as requested within has_space not_silent fitting served step asks open_after is_open stores last_stored for_after last_for
two claim =
    let z : ◌≡◌ {A = ℕ} 2 0 = ((claim bench (configure ∷ Start 0 1 2 0 0 5 1 [] ∷ Launch 64 ∷ [])).1.1.0.0 refl).directed.1 (λ e. omega (arith, e)) in
    omega (arith, z)

-- device 5 still runs, and 6 is launched
clear : ¬ (LaunchOrder (altered clear_frees))
unfolding bench new_fits run_from AllOrdered pending_after is_pending_at occupied_after is_occupied call_at padded payload_of same_key numbers_fit start_fits result_length front swept find chosen permitted pass tally ranked earliest stored start_split launching.launch delivering.deliver clear_buffer split_named split_from kind_of asked request_of configured_as requested within has_space not_silent fitting served asks open_after is_open stores last_stored for_after last_for
clear claim =
    let z : ◌≡◌ {A = ℕ} 1 8 = ((claim bench (configure ∷ in_to 5 ∷ in_to 6 ∷ Launch 64 ∷ clear_5 ∷ Launch 64 ∷ [])).1.1.1.1.1.0.2 (λ e. omega (arith, e))).1 refl in
    omega (arith, z)

-- nothing runs
eight : ¬ (LaunchOrder (altered (answered_as occupied_if_none)))
unfolding bench new_fits run_from AllOrdered pending_after is_pending_at occupied_after is_occupied call_at padded payload_of same_key numbers_fit start_fits result_length front swept find chosen permitted pass tally ranked earliest stored start_split launching.launch delivering.deliver split_named split_from kind_of asked request_of configured_as requested within has_space not_silent fitting served asks open_after is_open stores last_stored for_after last_for
eight claim = false≢true (((claim bench (configure ∷ Launch 64 ∷ [])).1.0.2 (λ e. omega (arith, e))).0 refl)

pub order_mistakes_shut_out_lem : OrderMistakesShutOut
order_mistakes_shut_out_lem =
    record { first_alone_lem = first; toggle_inverted = toggled; always_out_lem = out; two_for_out_lem = two; clear_frees_lem = clear; eight_idle = eight }
