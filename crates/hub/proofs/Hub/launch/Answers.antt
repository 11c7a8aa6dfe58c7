use Rattle.std.proofs.Common.{refl, ◌∙◌}
use Rattle.hub.specs.Call.{Launch}
use Rattle.hub.specs.Checks.{within, has_space, not_silent, fitting}
use Rattle.hub.specs.Step.{served}
use Rattle.hub.proofs.Calls.{launch_fits}
use Rattle.hub.proofs.Order.{refused_by, served_by_lem}
use Rattle.hub.proofs.Hub.launch.Goals as goal

pub returns-in-Err : goal.returns-in-Err
unfolding within has_space not_silent fitting
returns-in-Err c = refused_by _ (Launch _) _ c.refuse.ensures c.in-Err.ensures refl refl refl (launch_fits _ _ _ refl refl c.ne-fits.ensures c.launch-o.ensures)

pub returns : goal.returns
unfolding within has_space not_silent fitting served
returns c =
    served_by_lem _ (Launch _) c.in_default.ensures refl refl refl (launch_fits _ _ _ refl refl c.ne-fits.ensures c.launch-o.ensures)
    (c.launched.ensures ∙ rw c.launch-o.ensures)
