use Rattle.std.proofs.Common.{◌≡◌, ◌++◌, length, drop, ap, rules}
use Rattle.payload.proofs.Laws.{gave}
use Rattle.payload.proofs.Payload.give.Goals as goal

pub returns : goal.returns
returns c =
    let long : length c.args.self.bytes ≡ 64 = search rules in
    gave c.args.self _ long c.min.ensures c.min-n.ensures (ap (λ l. l ++ drop c.min-n.result c.args.reply.now) c.copy_from_slice.ensures.after)
