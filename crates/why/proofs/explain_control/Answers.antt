use Rattle.std.proofs.Common.{◌≡◌, ◌∙◌, ap, length, rules}
use Rattle.why.specs.declared.Reason.TheVariants.{Number}
use Rattle.why.specs.Why.{request_reason}
use Rattle.why.proofs.Explaining.{control_way, control_short}
use Rattle.why.proofs.explain_control.Goals as goal

pub returns-in_default : goal.returns-in_default
returns-in_default c =
    let long : ¬ (length c.args.setup.now ≡ 8) = search rules in
    ap Number c.number.ensures ∙ control_short _ _ _ _ long

pub returns : goal.returns
returns c =
    let bytes : c.in-Ok.bytes ≡ c.args.setup.now = search rules in
    control_way _ _ _ _ c.control-o.ensures c.number_first.ensures (c.request_reason.ensures ∙ ap (request_reason c.args.hub) bytes)
