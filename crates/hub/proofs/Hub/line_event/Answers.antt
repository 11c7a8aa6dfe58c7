use Rattle.std.proofs.Common.{Bool, sym, ap, ap₂, ◌&&◌, ◌∙◌}
use Rattle.port.specs.declared.Port.{Port}
use Rattle.port.specs.Method.{answered}
use Rattle.hub.specs.Checks.{within}
use Rattle.hub.proofs.Calls.{event_refused, event_stepped, event_at_lem}
use Rattle.hub.proofs.Hub.line_event.Goals as goal

pub returns-in-Err : goal.returns-in-Err
unfolding within
returns-in-Err c = event_refused _ _ _ _ c.refuse.ensures c.in-Err.ensures (rw (c.port_named.ensures, c.port_count.ensures, c.is_event.ensures))

pub returns : goal.returns
unfolding within
returns c =
    let a = c.args in
    event_stepped _ _ _ c.in_default.ensures
    (ap₂ (λ (x y : Bool). x && y) c.is_event.ensures (c.port_named.ensures ∙ rw c.port_count.ensures))
    (event_at_lem a.self a.event a.port c.with_event.ensures
    (ap (λ (p : Port). answered p c.line_event.result) (sym c.port.ensures) ∙ c.line_event.ensures)
    c.port.ensures c.event_of.ensures)
