use Rattle.std.proofs.Common.{refl, ◌∙◌}
use Rattle.hub.specs.Call.{Poll}
use Rattle.hub.specs.Checks.{within, has_space, not_silent, fitting}
use Rattle.hub.specs.Step.{served}
use Rattle.hub.proofs.Calls.{poll_nothing, poll_data}
use Rattle.hub.proofs.Order.{refused_by, served_by_lem}
use Rattle.hub.proofs.Hub.poll.Goals as goal

pub returns-in-Err : goal.returns-in-Err
unfolding within has_space not_silent fitting
returns-in-Err c = refused_by _ (Poll _ _) _ c.refuse.ensures c.in-Err.ensures c.is_lane.ensures refl refl refl

pub returns-then-bitmap-eq0 : goal.returns-then-bitmap-eq0
unfolding within has_space not_silent fitting served
returns-then-bitmap-eq0 c =
    served_by_lem _ (Poll _ _) c.in_default.ensures c.is_lane.ensures refl refl refl
    (poll_nothing _ c.give_nothing.ensures (c.bitmap-bitmap.ensures ∙ rw c.port_count.ensures) c.if-bitmap-eq0.true)

pub returns : goal.returns
unfolding within has_space not_silent fitting served
returns c =
    served_by_lem _ (Poll _ _) c.in_default.ensures c.is_lane.ensures refl refl refl
    (poll_data _ c.give_data.ensures c.of.ensures (c.bitmap-bitmap.ensures ∙ rw c.port_count.ensures) c.if-bitmap-eq0.false)
