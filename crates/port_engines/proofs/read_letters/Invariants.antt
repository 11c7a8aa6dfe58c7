use Rattle.std.proofs.Common.{◌≤◌}
use Rattle.port_engines.proofs.read_letters.Given as goal

abbrev pub invariant-loop : goal.invariant-loop
invariant-loop g l = l.n ≤ 4096
