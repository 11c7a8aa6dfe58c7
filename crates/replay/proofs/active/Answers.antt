use Rattle.buffer.specs.Buffer.{is_active}
use Rattle.replay.proofs.Playing.{sum_slots}
use mathlib.Core.Path.{◌≡◌}
use lib.ListN.{length}
use borrow.Author.Rules.{rules}
use Rattle.replay.proofs.active.Goals as goal

pub returns : goal.returns
returns c =
    let ss = c.slots.result in
    let four : length ss ≡ 4 = search rules in
    sum_slots is_active _ c.args.hub.translator.buffers ss c.slots.ensures four
    c.from.ensures c.from-2.ensures c.from-3.ensures c.from-4.ensures
    c.is_active.ensures c.is_active-2.ensures c.is_active-3.ensures c.is_active-4.ensures
