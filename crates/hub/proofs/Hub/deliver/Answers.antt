use Rattle.std.proofs.Common.{refl}
use Rattle.hub.specs.Call.{Deliver}
use Rattle.hub.specs.Checks.{within, has_space, not_silent, fitting}
use Rattle.hub.specs.Step.{served}
use Rattle.hub.proofs.Calls.{deliver_fits}
use Rattle.hub.proofs.Order.{refused_by, served_by_lem}
use Rattle.hub.proofs.Hub.deliver.Goals as goal

pub returns-in-Err : goal.returns-in-Err
unfolding within has_space not_silent fitting
returns-in-Err c =
    refused_by _ (Deliver _ _) _ c.refuse.ensures c.in-Err.ensures (rw (c.is_result.ensures, c.carries.ensures, c.result_of-kind.ensures)) refl refl
    (deliver_fits _ _ _ _ _ refl refl c.ne-fits.ensures c.deliver-o.ensures c.result_of-kind.ensures)

pub returns : goal.returns
unfolding within has_space not_silent fitting served
returns c =
    served_by_lem _ (Deliver _ _) c.in_default.ensures (rw (c.is_result.ensures, c.carries.ensures, c.result_of-kind.ensures)) refl refl
    (deliver_fits _ _ _ _ _ refl refl c.ne-fits.ensures c.deliver-o.ensures c.result_of-kind.ensures)
    (rw (c.answer.ensures, c.with_translator.ensures, c.deliver_answer-number.ensures, c.deliver-o.ensures, c.result_of-kind.ensures))
