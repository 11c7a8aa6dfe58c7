use Rattle.std.proofs.Common.{refl, ◌∙◌}
use Rattle.hub.specs.Call.{Complete}
use Rattle.hub.specs.Checks.{within, has_space, not_silent, fitting}
use Rattle.hub.specs.Step.{served}
use Rattle.hub.proofs.Order.{refused_by, served_by_lem}
use Rattle.hub.proofs.Hub.complete_split.Goals as goal

pub returns-in-Err : goal.returns-in-Err
unfolding within has_space not_silent fitting
returns-in-Err c = refused_by _ (Complete _ _ _ _ _) _ c.refuse.ensures c.in-Err.ensures c.key_named-named.ensures refl refl refl

pub returns : goal.returns
unfolding within has_space not_silent fitting served
returns c =
    served_by_lem _ (Complete _ _ _ _ _) c.in_default.ensures c.key_named-named.ensures refl refl refl
    (c.completed.ensures ∙ rw (c.complete_split.ensures, c.key_of.ensures))
