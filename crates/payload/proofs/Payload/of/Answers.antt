use Rattle.std.proofs.Common.{◌++◌, drop, replicate, ap}
use Rattle.payload.proofs.Laws.{made}
use Rattle.payload.proofs.Payload.of.Goals as goal

pub returns : goal.returns
returns c = made c.args.source.now c.min-n.ensures (ap (λ l. l ++ drop c.min-n.result (replicate 64 0)) c.copy_from_slice.ensures.after)
