use Rattle.std.proofs.Common.{◌≡◌, length, rules}
use Rattle.buffer.specs.Buffer.{is_pending}
use Rattle.translator.proofs.Lists.{tally_four}
use Rattle.translator.proofs.count_waiting.Goals as goal

pub returns : goal.returns
returns c =
    let long : length c.args.slots ≡ 4 = search rules in
    tally_four _ c.args.slots long is_pending c.how_many.ensures.value c.is_waiting.ensures c.is_waiting-2.ensures c.is_waiting-3.ensures c.is_waiting-4.ensures
