use Rattle.std.proofs.Common.{◌≡◌, length, rules}
use Rattle.translator.proofs.Lists.{ranked_four}
use Rattle.translator.proofs.renumber.Goals as goal

pub returns : goal.returns
returns c =
    let long : length c.args.bs ≡ 4 = search rules in
    ranked_four _ c.args.bs long c.requires c.rerank-b0.ensures c.rerank-b1.ensures c.rerank-b2.ensures c.rerank-b3.ensures
