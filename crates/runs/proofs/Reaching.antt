-- Every hub that calls reach is valid. Assumes nothing.
use mathlib.Core.List.{List, [], ◌∷◌}
use Rattle.hub.specs.declared.Hub.{Hub}
use Rattle.hub.specs.Call.{Call}
use Rattle.hub.specs.Step.{step}
use Rattle.hub.specs.Valid.{ValidHub}
use Rattle.hub.proofs.Valid.{new_valid, step_valid}
use Rattle.runs.specs.Machine.{rules, new_hub_of, after_from}
use Rattle.runs.specs.Demand2.{Reached}

stays_valid : (cs : List Call) (h : Hub) → ValidHub h → ValidHub (after_from rules h cs)
unfolding after_from
stays_valid [] h v = v
stays_valid (c ∷ cs) h v = stays_valid cs (step h c).next (step_valid h v c)

pub reached : Reached
reached n cs = stays_valid cs (new_hub_of n) (new_valid n.ports n.buffers n.powergood n.current n.removable n.fit)
