-- Demand 2. A reader must believe: `step` (crate hub, specs/Step.antt) states the USB 2.0 hub rules as document 01 does, and a run gives each
-- call the hub as the last one left it. Each answer has all that the demand lists: port status and change bits, the bitmap, the descriptor
-- and the configuration byte as bytes, each split answer, each launched packet with its key and bytes.
use Rattle.std.specs.Prelude.{◌≡◌, List, map}
use Rattle.hub.specs.declared.Hub.{Hub}
use Rattle.hub.specs.Valid.{ValidHub}
use Rattle.hub.specs.Call.{Call}
use Rattle.runs.specs.Machine.{Machine, Numbers, new_hub_of, rules, run, after_from}

-- After any calls from a new hub, each answer is the rules'.
abbrev pub Demand2 : Machine → Type 0
Demand2 w = (n : w.Made) (cs : List w.Asked) → run w n cs ≡ run rules (w.numbers n) (map w.call cs)

-- the hub that the rules leave after these calls from a new hub
abbrev pub reached_by : Numbers → List Call → Hub
reached_by n cs = after_from rules (new_hub_of n) cs

-- Every hub that any calls reach from a new hub is valid, so that the next call takes what the last one left.
abbrev pub Reached : Type 0
Reached = (n : Numbers) (cs : List Call) → ValidHub (reached_by n cs)
