use Rattle.std.proofs.Common.{◌≡◌, length, rules}
use Rattle.translator.specs.Order.{is_before}
use Rattle.translator.proofs.Lists.{tally_four}
use Rattle.translator.proofs.rank_of.Goals as goal

pub returns : goal.returns
returns c =
    let long : length c.args.slots ≡ 4 = search rules in
    tally_four _ c.args.slots long (is_before c.args.place) c.how_many.ensures.value c.is_before.ensures c.is_before-2.ensures c.is_before-3.ensures c.is_before-4.ensures
