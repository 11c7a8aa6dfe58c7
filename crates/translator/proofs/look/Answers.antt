use Rattle.translator.proofs.Search.{look_counted, look_other, look_free, look_repeat, look_old}
use Rattle.translator.proofs.look.Goals as goal

pub returns-then-is_active_in : goal.returns-then-is_active_in
returns-then-is_active_in c = look_counted _ _ _ _ c.standing.ensures c.in-Busy.is c.is_active_in.ensures c.if-is_active_in.true c.counted.ensures

pub returns-else-is_active_in : goal.returns-else-is_active_in
returns-else-is_active_in c = look_other _ _ _ _ c.standing.ensures c.in-Busy.is c.is_active_in.ensures c.if-is_active_in.false

pub returns-in-Free : goal.returns-in-Free
returns-in-Free c = look_free _ _ _ _ c.standing.ensures c.in-Free.is c.past_free.ensures

pub returns-in-Holds : goal.returns-in-Holds
returns-in-Holds c = look_repeat _ _ _ _ c.standing.ensures c.in-Holds.is c.past_repeat.ensures

pub returns-in-Reusable : goal.returns-in-Reusable
returns-in-Reusable c = look_old _ _ _ _ c.standing.ensures c.in-Reusable.is c.past_old.ensures
