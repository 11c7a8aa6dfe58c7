-- Each mistake in what is refused breaks its part of the claim, on the new hub of the bench cases. Assumes nothing.
use Prim.Native.Nat.{ℕ}
use native.Mathlib.Omega.{arith}
use mathlib.Core.Path.{◌≡◌, refl, sym, ◌∙◌, ap}
use mathlib.Core.Logic.{inr, ⊎_elim}
use mathlib.Core.List.{List, [], ◌∷◌}
use mathlib.Core.Bool.{true≢false}
use lib.ListN.{length}
use Rattle.buffer.specs.declared.Direction.TheVariants as direction
use Rattle.translator.specs.Answers.{is_refusal}
use Rattle.numbers.specs.Split.{key_named}
use Rattle.request.specs.Table.{kind_of}
use Rattle.request.specs.Request.{request_of, checked}
use Rattle.hub.specs.declared.Hub.{Hub}
use Rattle.hub.specs.Hub.{new_fits, hub_of, configured_as}
use Rattle.hub.specs.Call.{Control, Poll, Complete, Event, Tick}
use Rattle.hub.specs.Requests.{requested}
use Rattle.hub.specs.Valid.{ValidHub}
use Rattle.hub.proofs.Valid.{new_valid}
use Rattle.hub.specs.Checks.{within, has_space, not_silent, fitting}
use Rattle.hub.specs.Step.{served, step}
use Rattle.runs.specs.Refusals.{outside, short, silent, misplaced, stall, nak, UnknownDirection, Due, Exactly, Unchanged, Numbered}
use Rattle.runs.specs.RefusalMistakes.{hasty_step, closed_step, leaky_step, mute_step, dry_step, loose_step, lax_step, wordy_step, stray_step, RefusalMistakesShutOut}
use Rattle.runs.proofs.Refusing.{number_refuses, refusals}

-- four ports, two buffers
abbrev bench : Hub
bench = hub_of 4 2 0x32 0x64 0x00

bench_valid : ValidHub bench
unfolding new_fits
bench_valid = new_valid 4 2 0x32 0x64 0x00 refl

-- SetConfiguration with value 2, which is 2
abbrev wrong_value : List ℕ
wrong_value = 0x00 ∷ 0x09 ∷ 0x02 ∷ 0x00 ∷ 0x00 ∷ 0x00 ∷ 0x00 ∷ 0x00 ∷ []

-- GetHubDescriptor, 9 bytes
abbrev get_descriptor : List ℕ
get_descriptor = 0xA0 ∷ 0x06 ∷ 0x00 ∷ 0x29 ∷ 0x00 ∷ 0x00 ∷ 0x09 ∷ 0x00 ∷ []

-- a poll without reply space: 7 comes first
hasty : ¬ (Exactly hasty_step)
unfolding hasty_step within has_space not_silent
hasty claim = ((claim silent bench (Poll 0 0) bench_valid).0 refl).none_before short (omega arith) (omega arith)

-- a tick is never refused
closed : ¬ (Exactly closed_step)
unfolding closed_step
closed claim = ((claim nak bench Tick bench_valid).0 refl).applies

-- SetConfiguration 2 leaves the hub unconfigured
leaky : ¬ (Unchanged leaky_step)
unfolding leaky_step step within has_space not_silent fitting served requested request_of checked kind_of configured_as
leaky claim = true≢false (ap (λ (h : Hub). h.configured) (claim stall bench (Control 0 wrong_value 64) bench_valid refl).0)

-- an attach at port 1
mute : ¬ (Exactly mute_step)
unfolding mute_step step within has_space not_silent fitting served
mute claim = ((claim silent bench (Event 0 1) bench_valid).0 refl).applies

-- the descriptor is given unconfigured
dry : ¬ (Exactly dry_step)
unfolding dry_step step within has_space not_silent fitting served requested request_of checked kind_of
dry claim = ((claim nak bench (Control 0 get_descriptor 64) bench_valid).0 refl).applies

unknown_7 : UnknownDirection 7
unknown_7 direction.Out = λ e. omega (arith, e)
unknown_7 direction.In = λ e. omega (arith, e)

-- a complete-split with direction 7: 6 comes first
loose : ¬ (Exactly loose_step)
unfolding loose_step step within has_space not_silent key_named
loose claim = ((claim silent bench (Complete 0 5 1 7 64) bench_valid).0 refl).none_before outside (omega arith) (inr (inr (inr unknown_7)))

-- an attach on an unconfigured hub: 8 is due
lax : ¬ (Exactly lax_step)
unfolding lax_step step within has_space not_silent fitting
lax claim =
    let due : Due misplaced bench (Event 0 1) = (refusals.exactly misplaced bench (Event 0 1) bench_valid).0 refl in
    let z : ◌≡◌ {A = ℕ} 0 8 = (claim misplaced bench (Event 0 1) bench_valid).1 due in
    omega (arith, z)

-- SetConfiguration 2 is STALL
wordy : ¬ (Unchanged wordy_step)
unfolding wordy_step step within has_space not_silent fitting served requested request_of checked kind_of
wordy claim =
    let z : ◌≡◌ {A = ℕ} 1 0 = ap (length {A = ℕ}) (claim stall bench (Control 0 wrong_value 64) bench_valid refl).1 in
    omega (arith, z)

stray : ¬ (Numbered stray_step)
unfolding stray_step
stray claim =
    ⊎_elim (λ x. true≢false (sym (number_refuses x.0) ∙ ap is_refusal (sym x.1)))
    (⊎_elim (λ z. omega (arith, z)) (⊎_elim (λ z. omega (arith, z)) (λ z. omega (arith, z)))) (claim bench Tick bench_valid)

pub refusal_mistakes_shut_out_lem : RefusalMistakesShutOut
refusal_mistakes_shut_out_lem =
    record { hasty = hasty; closed = closed; leaky = leaky; mute = mute; dry = dry; loose = loose; lax = lax; wordy = wordy; stray = stray }
