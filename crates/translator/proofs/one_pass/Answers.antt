use Rattle.std.proofs.Common.{◌∙◌, sym, arith, rules}
use Rattle.translator.proofs.Passes.{onward, ended}
use Rattle.translator.proofs.Search.{looking_from, ends_settled, few}
use Rattle.translator.proofs.one_pass.Goals as goal

pub loop-n-init : goal.loop-n-init
loop-n-init c = (looking_from _ _ _ c.used-slot-items.ensures, search rules)

pub loop-n-preserved : goal.loop-n-preserved
loop-n-preserved c = (
  onward _ c.loop-n.invariant.0 c.look-carried.ensures c.loop-n-test.true,
  few _ _ _ _ c.look-carried.ensures c.loop-n.invariant.1,
)

pub returns-then-is_settled : goal.returns-then-is_settled
returns-then-is_settled c =
    ends_settled _ _ (onward _ c.loop-n.invariant.0 c.look-carried.ensures c.loop-n-test.true) (sym c.is_settled.ensures ∙ c.if-is_settled.true)

pub returns : goal.returns
returns c = ended c.loop-n.invariant.0 (omega (arith, c.loop-n-test.false))
