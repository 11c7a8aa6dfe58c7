use Rattle.grimholdi_replay.proofs.Entry.{refuses, no_space, length_fits_lem, replays}
use native.Mathlib.Omega.{arith}
use mathlib.Core.Path.{◌∙◌, ap}
use Rattle.grimholdi_replay.specs.Entry.{plain_replayed}
use Rattle.grimholdi_replay.proofs.grimholdi_replay_block.Goals as goal

pub returns-in_default : goal.returns-in_default
returns-in_default c =
    let a = c.args in
    let all = refuses a.area.now a.place a.block.now a.answers.now c.in_default.ensures (c.plain_replayed.ensures ∙ ap plain_replayed c.number.ensures) in
    record { value = all.0; area = all.1.0; answers = all.1.1 }

pub returns-in_default-replay_block : goal.returns-in_default-replay_block
returns-in_default-replay_block c =
    let a = c.args in
    let all = no_space a.area.now a.place a.block.now a.answers.now _ c.in-Some.ensures _ c.replay_block.ensures.value
    c.in_default-replay_block.is (c.plain_replayed-in_default-replay_block.ensures ∙ ap plain_replayed c.number-in_default-replay_block.ensures)
    c.replay_block.ensures.out_after in
    record { value = all.0; area = all.1.0; answers = all.1.1 }

pub overflow_cast-result : goal.overflow_cast-result
overflow_cast-result c =
    let a = c.args in
    let e = c.replay_block.ensures.value in
    let small = length_fits_lem a.area.now a.place a.block.now a.answers.now _ c.in-Some.ensures _ e _ c.in-Some-replay_block.is in
    omega (arith, small)

pub returns : goal.returns
returns c =
    let a = c.args in
    let left = c.write_area.ensures in
    let all = replays a.area.now a.place a.block.now a.answers.now _ c.in-Some.ensures _ c.replay_block.ensures.value _ c.in-Some-replay_block.is
    c.refusal_number.ensures c.active.ensures.0 left c.replay_block.ensures.out_after in
    record { value = all.0; area = all.1.0; answers = all.1.1 }
