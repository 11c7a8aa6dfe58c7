use Rattle.grimholdi.proofs.Entries.{refuses, settles}
use Rattle.grimholdi.proofs.grimholdi_tick.Goals as goal

pub returns-in_default : goal.returns-in_default
returns-in_default c =
    let all = refuses _ c.in_default.ensures _ _ _ c.refused.ensures in
    record { value = all.0; area = all.1 }

pub returns : goal.returns
returns c =
    let all = settles _ _ c.in-Some.ensures _ _ c.tick.result c.tick.ensures _ _ (c.settle.ensures.value, c.settle.ensures.area) in
    record { value = all.0; area = all.1 }
