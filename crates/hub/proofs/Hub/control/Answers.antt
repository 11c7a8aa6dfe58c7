use Rattle.std.proofs.Common.{◌≡◌, Bool, ◌&&◌, length, refl, rules, sym, ap}
use borrow.Author.Tests.{ne_eqb}
use Rattle.numbers.specs.Named.{is_lane}
use Rattle.hub.specs.Call.{Control}
use Rattle.hub.specs.declared.Refusal.TheVariants.{Outside}
use Rattle.hub.specs.Checks.{within, has_space, not_silent, fitting}
use Rattle.hub.specs.Step.{served}
use Rattle.hub.proofs.Order.{refused_by, served_by_lem}
use Rattle.hub.proofs.Hub.control.Goals as goal

pub returns-in_default : goal.returns-in_default
unfolding within has_space not_silent fitting
returns-in_default c =
    let long : ¬ (length c.args.setup.now ≡ 8) = search rules in
    refused_by _ (Control _ _ _) Outside c.refuse.ensures refl (ap (λ (b : Bool). b && is_lane c.args.lane) (sym (ne_eqb (length c.args.setup.now) 8 long))) refl refl refl

pub returns-in-Err : goal.returns-in-Err
unfolding within has_space not_silent fitting
returns-in-Err c =
    let long : length c.args.setup.now ≡ 8 = search rules in
    refused_by _ (Control _ _ _) _ c.refuse-in-Err.ensures c.in-Err.ensures (rw (c.is_lane.ensures, long)) refl refl refl

pub returns : goal.returns
unfolding within has_space not_silent fitting served
returns c =
    let long : length c.args.setup.now ≡ 8 = search rules in
    let bytes : c.in-Ok.bytes ≡ c.args.setup.now = search rules in
    served_by_lem _ (Control _ _ _) c.in_default-first_refusal.ensures (rw (c.is_lane.ensures, long)) refl refl refl
    (rw (c.serve.ensures, c.lane_of.ensures, c.read.ensures, c.port_count.ensures, bytes))
