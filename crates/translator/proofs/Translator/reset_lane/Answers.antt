use Rattle.std.proofs.Common.{◌≡◌, length, rules}
use Rattle.translator.proofs.Lists.{unmapped, reset_four, put_together}
use Rattle.translator.proofs.Translator.reset_lane.Goals as goal

pub returns : goal.returns
returns c =
    let long : length c.args.self.buffers ≡ 4 = search (unmapped, rules) in
    put_together c.args.self c.args.lane
    (reset_four _ c.args.self.buffers long c.args.lane c.without_lane-b0.ensures c.without_lane-b1.ensures c.without_lane-b2.ensures c.without_lane-b3.ensures)
    c.low_without_lane.ensures
