use Rattle.std.proofs.Common.{List, sym, ap, ◌∙◌}
use Rattle.port.specs.declared.Port.{Port}
use Rattle.ports.proofs.Laws.{put_back}
use Rattle.hub.specs.Hub.{with_ports}
use Rattle.hub.specs.Call.{plain}
use Rattle.hub.proofs.Hub.with_event.Goals as goal

-- a port that is put back as it was leaves the hub as it was
pub returns-in-Err : goal.returns-in-Err
returns-in-Err c =
    let h = c.args.self in
    c.refuse.ensures ∙ sym (ap (λ (ps : List Port). plain (with_ports h ps) 8) (put_back h.ports c.args.n)) ∙ rw c.in-Err.is
