-- Internal, pinned by the contracts of the C entries (crate `grimholdi`), which don't speak of it: what a step of a port gives back.
use Rattle.std.specs.Prelude.{Result, Ok, Err}
use Rattle.port.specs.declared.Port.{Port}
use Rattle.port.specs.declared.NotInThisState.{NotInThisState}
use Rattle.port.specs.Reaction.{Answered, done_with}

-- what a step of a port gives, with the number of document 01: 0 done, 8 not in this state, and the port is as before
abbrev pub answered : Port → Result Port NotInThisState → Answered
answered p (Ok q) = done_with q
answered p (Err e) = record { port = p; number = 8 }
